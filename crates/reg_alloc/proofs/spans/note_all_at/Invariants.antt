use Rattle.std.proofs.Common.{◌≡◌, drop}
use Rattle.reg_alloc.specs.Noted.{all_noted_at}
use Rattle.reg_alloc.proofs.spans.note_all_at.Given as goal

abbrev pub invariant-loop-b : goal.invariant-loop-b
invariant-loop-b l = all_noted_at (drop l.b-index l.blocks) l.t l.places l.spans.items ≡ all_noted_at l.blocks l.t l.places l.initial.spans.items
