use Rattle.std.proofs.Common.{◌∙◌}
use Rattle.tac_copies.proofs.Telling.{told-code}
use Rattle.tac_copies.proofs.read_once.ReadOnce.of.Goals as goal

pub returns : goal.returns
returns c =
    told-code c.args.code.now c.note_all.new.self c.deref.result.now (c.deref.ensures.value ∙ c.in_ok-reads.ensures)
    c.in_ok-note_all.ensures
