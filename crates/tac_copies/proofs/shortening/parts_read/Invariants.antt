use Rattle.std.proofs.Common.{◌≡◌, drop}
use Rattle.tac_form.specs.Graph.{parts_reads}
use Rattle.tac_form.specs.Live.{has}
use Rattle.tac_copies.proofs.shortening.parts_read.Given as goal

-- it is so of all if it is so of those that are left
abbrev pub invariant-loop-part : goal.invariant-loop-part
invariant-loop-part l = has (parts_reads (drop l.part-index l.parts)) l.t ≡ has (parts_reads l.parts) l.t
