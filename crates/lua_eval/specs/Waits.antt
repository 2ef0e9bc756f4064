-- What statements do with the values of the calls that they make.
use Rattle.std.specs.Prelude.{List, length}
use Rattle.tl_base.specs.Plan.{Read, Write}
use Rattle.lua_value.specs.declared.value.Value.{Value}
use Rattle.lua_table.specs.Cells.{nth_value, declare_all, with_local}
use Rattle.lua_model.specs.Plans.{LuaPlan}
use Rattle.lua_model.specs.declared.scope.Scope.{Scope}
use Rattle.lua_eval.specs.declared.frame.Wait.{Wait}
use Rattle.lua_eval.specs.declared.frame.Wait.TheVariants as waits

-- what a statement does with the values of its call, with what is behind it
abbrev pub waited : Wait → Scope → List Value → LuaPlan → LuaPlan
waited waits.Nothing scope vs rest = rest
waited (waits.Local ns) scope vs rest = Read (λ s. Write (declare_all (length ns.now) scope.env vs s) rest)
waited (waits.Store depth position) scope vs rest =
    Read (λ s. Write (with_local s scope.env depth position (nth_value vs 0)) rest)
