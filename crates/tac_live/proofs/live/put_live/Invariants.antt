use Rattle.std.proofs.Common.{◌≡◌, drop}
use Rattle.tac_live.specs.Flows.{all_put}
use Rattle.tac_live.proofs.live.put_live.Given as goal

-- with those that are left, it is in all rows
abbrev pub invariant-loop-b : goal.invariant-loop-b
invariant-loop-b l = all_put (drop l.b-index l.blocks) l.t l.rows.items ≡ all_put l.blocks l.t l.initial.rows.items
