use Rattle.std.proofs.Common.{◌≡◌, drop}
use Rattle.std.specs.List.{list_any}
use Rattle.tac_copies.specs.Reached.{leads_to}
use Rattle.tac_copies.proofs.taking.any_leads_to_first.Given as goal

-- it is so of all if it is so of those that are left
abbrev pub invariant-loop-block : goal.invariant-loop-block
invariant-loop-block l = list_any (λ b. leads_to b 0) (drop l.block-index l.blocks) ≡ list_any (λ b. leads_to b 0) l.blocks
