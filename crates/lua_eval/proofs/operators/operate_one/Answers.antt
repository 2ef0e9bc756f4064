use Rattle.std.proofs.Common.{List, [], ◌∷◌, refl, sym, ap}
use Rattle.tl_tree.specs.Arena.{items_of}
use Rattle.lua_value.specs.declared.library.LibFn.TheVariants.{PointerType}
use Rattle.lua_value.specs.declared.value.Value.{Value}
use Rattle.lua_model.specs.Plans.{LuaPlan, give, on_one}
use Rattle.lua_model.specs.Calls.{ask_library}
use Rattle.lua_eval.proofs.Below.{moved}
use Rattle.lua_eval.proofs.operators.operate_one.Goals as goal

pub returns-in_ok-step-in-Length-clause-means : goal.returns-in_ok-step-in-Length-clause-means
returns-in_ok-step-in-Length-clause-means c =
    rw c.in-Length.is (c.in_ok-step-in-Length.ensures.means (items_of c.args.tree.now) c.args.frames.now.items)

pub returns-in_ok-step-in-Address-clause-means : goal.returns-in_ok-step-in-Address-clause-means
returns-in_ok-step-in-Address-clause-means c =
    let a = c.args in
    let items = items_of a.tree.now in
    let plan : List Value → LuaPlan = λ vs. ask_library PointerType vs a.place a.outer (λ r. on_one r give) in
    rw c.in-Address.is (moved items a.frames.now.items c.ask.new.frames.items (plan (a.a ∷ []))
    (plan c.in_ok-args-in-Address.args) a.heap.now a.heap.now a.heap.now a.budget.now a.budget.now c.in_ok-step-in-Address.step
    (ap plan (sym c.in_ok-args-in-Address.ensures)) refl
    (c.in_ok-step-in-Address.ensures.means items a.heap.now a.budget.now))
