use Rattle.std.proofs.Common.{List, ◌++◌, refl, sym, ap, ◌∙◌}
use Rattle.tl_base.specs.Plan.{Give}
use Rattle.tl_tree.specs.Arena.{items_of}
use Rattle.lua_value.specs.declared.value.Value.{Value}
use Rattle.lua_model.specs.declared.end.End.{End}
use Rattle.lua_model.specs.Plans.{LuaPlan, on_fell, statements}
use Rattle.lua_eval.proofs.Below.{moved}
use Rattle.lua_eval.proofs.Ending.{no_statement_ended}
use Rattle.tl_base.proofs.Results.{if-ok}
use Rattle.lua_eval.proofs.machine.after_statement.Goals as goal

pub returns-in-Fell-clause-means : goal.returns-in-Fell-clause-means
returns-in-Fell-clause-means c =
    let a = c.args in
    let items = items_of a.tree.now in
    let more = c.as_slice.result.now in
    let s = a.heap.now in
    let go : List Value → LuaPlan = λ all. statements a.rest.now a.scope all Give in
    if-ok c.proceed.result c.proceed.ensures.means (λ v it. moved items a.frames.now.items c.proceed.new.frames.items (on_fell a.end a.before Give go) (go c.push_all.new.self)
    s s c.proceed.new.heap a.budget.now c.proceed.new.budget v
    (ap (λ (r : End). on_fell r a.before Give go) c.in-Fell.is
    ∙ ap go (sym (c.in_ok-push_all-in-Fell.ensures.ok ∙ ap (λ (vs : List Value). a.before ++ vs) c.as_slice.ensures))) refl
    it)

pub returns-clause-means : goal.returns-clause-means
returns-clause-means c =
    let a = c.args in
    let items = items_of a.tree.now in
    let s = a.heap.now in
    let go : List Value → LuaPlan = λ all. statements a.rest.now a.scope all Give in
    let d = c.in_default in
    if-ok c.proceed-in_default.result c.proceed-in_default.ensures.means (λ v it. moved items a.frames.now.items c.proceed-in_default.new.frames.items (on_fell a.end a.before Give go) (go a.before)
    s s c.proceed-in_default.new.heap a.budget.now c.proceed-in_default.new.budget v
    (no_statement_ended a.end a.before Give go d.not-Fell d.not-Broke d.not-Returned d.not-Raised) refl
    it)
