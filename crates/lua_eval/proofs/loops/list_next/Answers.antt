use Rattle.std.proofs.Common.{sym, ap, refl, ◌∙◌, List, [], ◌∷◌}
use Rattle.tl_tree.specs.Arena.{items_of}
use Rattle.lua_value.specs.declared.value.Value.{Value}
use Rattle.lua_model.specs.Loops.{list_next, listed}
use Rattle.lua_eval.specs.Frames.{after}
use Rattle.lua_eval.proofs.Below.{moved, call_below, jobs_of}
use Rattle.lua_model.specs.declared.job.Caller.TheVariants.{ByNode}
use Rattle.lua_model.specs.Calls.{call}
use Rattle.lua_model.proofs.Composing.{all_passes}
use Rattle.lua_eval.specs.declared.frame.LuaFrame.TheVariants as frames
use Rattle.lua_eval.specs.declared.frame.AllFrame.TheVariants as alls
use Rattle.lua_eval.proofs.loops.list_next.Goals as goal

pub returns-clause-means : goal.returns-clause-means
returns-clause-means c =
    let a = c.args in
    let items = items_of a.tree.now in
    let fs = a.frames.now.items in
    let fs2 = c.call.new.frames.items in
    let args = c.in_ok-args.args in
    let callee = c.copy-callee.result in
    let frame = frames.All (alls.Listed a.node a.names a.scope a.function a.state a.out) in
    moved items fs fs2 (list_next items a.node a.names.now a.place a.scope a.function a.state a.control a.out)
    (call items ByNode callee args a.place a.scope.call (after items frame))
    a.heap.now a.heap.now c.call.new.heap a.budget.now c.call.new.budget c.in_ok-step.step
    (ap (λ (f : Value). call items ByNode f (a.state ∷ a.control ∷ []) a.place a.scope.call (after items frame)) (sym c.copy-callee.ensures)
    ∙ ap (λ (vs : List Value). call items ByNode callee vs a.place a.scope.call (after items frame))
    (sym (c.in_ok-args.ensures ∙ ap (λ (v : Value). v ∷ a.control ∷ []) c.copy.ensures))) refl
    (call_below items fs c.push.new.self.items fs2 frame a.heap.now c.call.new.heap a.budget.now c.call.new.budget c.in_ok-step.step
    ByNode callee args a.place a.scope.call c.in_ok-push.ensures.items
    (all_passes (jobs_of items) (λ vs. listed a.node a.names.now a.scope a.function a.state vs a.out)) c.in_ok-step.ensures.means)
