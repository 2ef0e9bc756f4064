use Rattle.std.proofs.Common.{◌≡◌, ◌++◌, drop}
use Rattle.tac_form.specs.Graph.{parts_reads}
use Rattle.tac_form.proofs.reads.push_parts.Given as goal

-- with those of the parts that are left, all are there
abbrev pub invariant-loop-part : goal.invariant-loop-part
invariant-loop-part l = l.reads.items ++ parts_reads (drop l.part-index l.parts) ≡ l.initial.reads.items ++ parts_reads l.parts
