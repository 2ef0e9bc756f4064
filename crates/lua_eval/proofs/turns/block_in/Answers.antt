use Rattle.std.proofs.Common.{refl}
use Rattle.lua_eval.proofs.turns.block_in.Goals as goal

pub returns-in-NumericFor : goal.returns-in-NumericFor
returns-in-NumericFor c = λ items n scope i limit by out. rw c.in-NumericFor.is refl
