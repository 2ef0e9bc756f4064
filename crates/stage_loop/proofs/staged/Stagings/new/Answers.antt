use Rattle.stage_loop.proofs.staged.Stagings.new.Goals as goal

pub invariant_of-result : goal.invariant_of-result
invariant_of-result c = record { placed = rw c.new.ensures c.requires.places }
