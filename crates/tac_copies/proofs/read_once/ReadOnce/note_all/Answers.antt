use Rattle.tac_copies.proofs.Telling.{told-front}
use Rattle.tac_copies.proofs.read_once.ReadOnce.note_all.Goals as goal

pub loop-t-preserved : goal.loop-t-preserved
loop-t-preserved c =
    told-front c.args.temps.now c.loop-t.t-index 0 c.loop-t.self c.note.new.self c.loop-t-test.true c.loop-t.invariant c.in_ok-note.ensures
