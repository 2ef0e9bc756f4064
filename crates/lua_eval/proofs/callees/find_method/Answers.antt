use Rattle.std.proofs.Common.{ℕ, List, [], ◌∷◌, refl, sym, ap, ◌∙◌}
use Rattle.tl_tree.specs.Arena.{items_of}
use Rattle.tl_tree.specs.Code.{name_at}
use Rattle.lua_value.specs.declared.value.Value.{Value}
use Rattle.lua_model.specs.Plans.{LuaPlan, with_text_of}
use Rattle.lua_model.specs.Fields.{read}
use Rattle.lua_eval.specs.declared.frame.LuaFrame.TheVariants as frames
use Rattle.lua_eval.specs.declared.frame.OneFrame.TheVariants as ones
use Rattle.lua_eval.specs.declared.frame.CallFrame.TheVariants as of_call
use Rattle.lua_eval.specs.declared.frame.Then.TheVariants as thens
use Rattle.lua_eval.specs.Frames.{list_plan}
use Rattle.lua_eval.proofs.Below.{moved, named_below}
use Rattle.tl_base.proofs.Results.{if-ok}
use Rattle.lua_eval.proofs.callees.find_method.Goals as goal

pub returns-clause-means : goal.returns-clause-means
returns-clause-means c =
    let a = c.args in
    let items = items_of a.tree.now in
    let fs = a.frames.now.items in
    let fs2 = c.read_named.new.frames.items in
    let bytes = c.as_bytes.result.now in
    let go : Value → LuaPlan = λ f. list_plan items a.arguments.now a.scope (a.object ∷ []) (thens.Call f a.place) in
    let reading : List ℕ → LuaPlan = λ bs. with_text_of bs (λ key. read a.object key a.place a.scope.call go) in
    let heap = c.read_named.new.heap in
    let left = c.read_named.new.budget in
    if-ok c.read_named.result c.read_named.ensures.means (λ step it.
    moved items fs fs2 (reading (name_at items a.method)) (reading bytes) a.heap.now a.heap.now heap a.budget.now left step
    (ap reading (sym (c.as_bytes.ensures.value ∙ c.name.ensures))) refl
    (named_below items fs c.push.new.self.items fs2 (frames.One (ones.Call (of_call.MethodOf a.object a.arguments a.place a.scope)))
    a.heap.now heap a.budget.now left step a.object bytes a.place a.scope.call go
    (rw c.copy.ensures at c.in_ok-push.ensures.items) (λ r. refl) (it items)))
