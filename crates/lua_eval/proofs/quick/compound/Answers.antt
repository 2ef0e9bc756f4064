use Rattle.std.proofs.Common.{[], refl}
use Rattle.tl_base.specs.declared.machine.Step.TheVariants.{Return}
use Rattle.tl_tree.specs.Arena.{items_of}
use Rattle.lua_model.specs.declared.end.End.TheVariants.{One}
use Rattle.lua_model.specs.Plans.{give}
use Rattle.lua_eval.proofs.AtOnce.{behind_value, if-some}
use Rattle.lua_eval.proofs.Doing.{returns as returned}
use Rattle.lua_eval.proofs.quick.compound.Goals as goal

pub returns-in-Binary-clause-found : goal.returns-in-Binary-clause-found
returns-in-Binary-clause-found g c =
    rw c.in-Binary.is (if-some c.binary.result c.binary.ensures.found (λ found h. λ n place. h place))

pub returns-in-Unary-clause-found : goal.returns-in-Unary-clause-found
returns-in-Unary-clause-found g c =
    rw c.in-Unary.is (if-some c.unary.result c.unary.ensures.found (λ found h. λ n place. h place))

pub returns-in-Paren-clause-found : goal.returns-in-Paren-clause-found
returns-in-Paren-clause-found g c =
    let a = c.args in
    let items = items_of a.tree.now in
    let s = a.heap.now in
    rw c.in-Paren.is (if-some c.find.result c.find.ensures.found (λ found h. λ n place.
    behind_value items [] [] c.in-Paren.inner a.scope.now found.value give s s s a.left found.left found.left
    (Return (One found.value)) refl h (returned items [] (One found.value) s found.left)))

pub returns-in-Index-clause-found : goal.returns-in-Index-clause-found
returns-in-Index-clause-found g c =
    rw c.in-Index.is (if-some c.index.result c.index.ensures.found (λ found h. λ n place. h place))

pub returns-in-Select-clause-found : goal.returns-in-Select-clause-found
returns-in-Select-clause-found g c =
    rw c.in-Select.is (if-some c.select.result c.select.ensures.found (λ found h. λ n place. h place))
