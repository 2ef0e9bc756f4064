use Rattle.std.proofs.Common.{◌≡◌, ◌++◌, drop}
use Rattle.tac_form.specs.Graph.{parts_reads}
use Rattle.rv_select.proofs.asked.ask_parts.Given as goal

-- with the parts to come, all is asked for
abbrev pub invariant-loop-part : goal.invariant-loop-part
invariant-loop-part l = l.asked.items ++ parts_reads (drop l.part-index l.parts) ≡ l.fn.asked.items ++ parts_reads l.parts
