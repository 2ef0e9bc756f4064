use Rattle.std.proofs.Common.{◌≡◌, drop}
use Rattle.reg_alloc.specs.Noted.{all_noted}
use Rattle.reg_alloc.proofs.spans.note_all.Given as goal

-- with those that are left, all are noted
abbrev pub invariant-loop-t : goal.invariant-loop-t
invariant-loop-t l = all_noted (drop l.t-index l.temps) l.place l.spans.items ≡ all_noted l.temps l.place l.initial.spans.items
