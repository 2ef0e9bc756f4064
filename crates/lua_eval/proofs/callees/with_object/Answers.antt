use Rattle.std.proofs.Common.{◌≤◌, ℕ, List, [], ◌∷◌, refl, sym, ap, ◌∙◌}
use Rattle.tl_base.specs.declared.machine.Step.TheVariants.{Return}
use Rattle.tl_tree.specs.Arena.{items_of}
use Rattle.tl_tree.specs.Code.{name_at}
use Rattle.lua_value.specs.declared.value.Value.{Value}
use Rattle.lua_model.specs.declared.end.End.TheVariants.{One}
use Rattle.lua_model.specs.Plans.{LuaPlan, give, with_text_of}
use Rattle.lua_model.specs.Fields.{read}
use Rattle.lua_eval.specs.declared.frame.Then.TheVariants as thens
use Rattle.lua_eval.specs.Frames.{list_plan}
use Rattle.lua_eval.specs.Steps.{Goes}
use Rattle.lua_eval.proofs.AtOnce.{named_behind}
use Rattle.lua_eval.proofs.Below.{moved}
use Rattle.lua_eval.proofs.Ended.{plan_never_gains}
use Rattle.tl_base.proofs.Results.{if-ok}
use Rattle.lua_eval.proofs.callees.with_object.Goals as goal

pub spend-requires : goal.spend-requires
spend-requires c =
    let a = c.args in
    let items = items_of a.tree.now in
    let found = c.in-Some.found in
    let within : found.left ≤ c.left.result =
    plan_never_gains items (with_text_of c.as_bytes-text.result.now (λ key. read c.copy.result key a.place a.scope.call give))
    (One found.value) a.heap.now a.heap.now c.left.result found.left (c.in-Some.ensures items a.place a.scope.call) in
    rw c.left.ensures at within

pub returns-in_ok-first-in-Some-clause-means : goal.returns-in_ok-first-in-Some-clause-means
returns-in_ok-first-in-Some-clause-means c =
    let a = c.args in
    let items = items_of a.tree.now in
    let fs = a.frames.now.items in
    let fs2 = c.list.new.frames.items in
    let s = a.heap.now in
    let s2 = c.list.new.heap in
    let left2 = c.list.new.budget in
    let found = c.in-Some.found in
    let bytes = c.as_bytes-text.result.now in
    let first = c.in_ok-first-in-Some.first in
    let plan : List Value → Value → LuaPlan = λ vs f. list_plan items a.arguments.now a.scope vs (thens.Call f a.place) in
    let go : Value → LuaPlan = plan (a.object ∷ []) in
    let reading : List ℕ → LuaPlan = λ bs. with_text_of bs (λ key. read a.object key a.place a.scope.call go) in
    let h : Goes items [] (with_text_of bytes (λ key. read a.object key a.place a.scope.call give)) s a.budget.now
    [] (Return (One found.value)) s found.left =
    rw (c.left.ensures, c.copy.ensures) at (c.in-Some.ensures items a.place a.scope.call) in
    if-ok c.list.result c.list.ensures.means (λ step it.
    let more : Goes items fs (plan first found.value) s found.left fs2 step s2 left2 = rw c.spend.ensures at it in
    moved items fs fs2 (reading (name_at items a.method)) (reading bytes) s s s2 a.budget.now left2 step
    (ap reading (sym (c.as_bytes-text.ensures.value ∙ c.name.ensures))) refl
    (named_behind items fs fs2 a.object found.value bytes a.place a.scope.call go s s2 a.budget.now found.left left2 step h
    (moved items fs fs2 (go found.value) (plan first found.value) s s s2 found.left left2 step
    (ap (λ (vs : List Value). plan vs found.value) (sym c.in_ok-first-in-Some.ensures)) refl more)))
