use Rattle.std.proofs.Common.{[], refl}
use Rattle.tl_base.specs.declared.machine.Step.TheVariants.{Return}
use Rattle.tl_tree.specs.Arena.{items_of}
use Rattle.lua_model.specs.declared.end.End.TheVariants.{One}
use Rattle.lua_model.specs.Plans.{value_of}
use Rattle.lua_model.specs.Operators.{binary_plan, operate}
use Rattle.lua_eval.proofs.AtOnce.{both_is, if-some}
use Rattle.lua_eval.proofs.Below.{moved}
use Rattle.lua_eval.proofs.quick.binary.Goals as goal

pub returns-in_default : goal.returns-in_default
returns-in_default g c =
    let a = c.args in
    let items = items_of a.tree.now in
    let s = a.heap.now in
    let scope = a.scope.now in
    record {
      found = if-some c.both.result c.both.ensures.found (λ found h. λ place.
          moved items [] [] (binary_plan items a.op a.a a.b place scope)
          (value_of a.a scope (λ v. value_of a.b scope (λ w. operate items a.op v w place scope.call)))
          s s s a.left found.left (Return (One found.value))
          (both_is items a.op a.a a.b place scope c.in_default.not-And c.in_default.not-Or) refl (h place));
      same = c.both.ensures.same;
    }
