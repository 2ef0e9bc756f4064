use Rattle.std.proofs.Common.{ℕ, List, sym, ap, ◌∙◌}
use Rattle.tl_base.specs.Layer.{state}
use Rattle.tl_base.specs.Plan.{run}
use Rattle.tl_tree.specs.Arena.{items_of}
use Rattle.tl_tree.specs.Code.{name_at}
use Rattle.lua_value.specs.declared.value.Value.{Value}
use Rattle.lua_value.specs.declared.value.Value.TheVariants as values
use Rattle.lua_table.specs.Heap.{interned_id, with_text, with_stored}
use Rattle.lua_table.specs.LuaState.{LuaState}
use Rattle.lua_table.proofs.Keeping.{keeps_text, keeps_stored, keeps_then}
use Rattle.lua_model.specs.Plans.{LuaPlan, with_text_of}
use Rattle.lua_model.specs.Fields.{store_raw}
use Rattle.lua_eval.proofs.Below.{jobs_of}
use Rattle.lua_eval.proofs.Fielding.{value_becomes, named_stored}
use Rattle.lua_table.proofs.Keeping.{heap_kept_as}
use Rattle.lua_eval.proofs.tables.named_at_once.Goals as goal

pub returns-in_ok-store-in-Some-clause-passes : goal.returns-in_ok-store-in-Some-clause-passes
returns-in_ok-store-in-Some-clause-passes c = λ done place go.
    let a = c.args in
    let items = items_of a.tree.now in
    let s = a.heap.now in
    let t = c.store.new.self in
    let mid = c.at_once.new.budget in
    let bytes = c.as_bytes-bytes.result.now in
    let text = c.in_ok-text-in-Some.text in
    let v = c.in-Some.value in
    let same = c.in-Some.ensures.same in
    let named : List ℕ → Value → LuaPlan = λ bs w. with_text_of bs (λ k. store_raw a.table k w place go) in
    value_becomes items a.value a.scope.now v (named (name_at items a.key)) go s t a.budget.now mid c.in-Some.ensures.found (λ later.
    ap (λ (bs : List ℕ). run (jobs_of items) (named bs v) (state s mid) later) (sym (c.as_bytes-bytes.ensures.value ∙ c.name.ensures))
    ∙ named_stored items bytes a.table text v place go s t mid c.if-bytes-gt-MAX_LEN.false
    (c.in_ok-text-in-Some.ensures.id ∙ ap (λ (w : LuaState). interned_id w bytes) same)
    (c.in_ok-store-in-Some.ensures.ok
    ∙ ap (λ (w : LuaState). with_stored w a.table (values.Text text) v)
    (c.in_ok-text-in-Some.ensures.ok ∙ ap (λ (w : LuaState). with_text w bytes) same)) later)

pub returns-in_ok-store-in-Some-clause-kept : goal.returns-in_ok-store-in-Some-clause-kept
returns-in_ok-store-in-Some-clause-kept c =
    let a = c.args in
    let s = a.heap.now in
    let t = c.intern.new.self in
    let u = c.store.new.self in
    let bytes = c.as_bytes-bytes.result.now in
    let key = values.Text c.in_ok-text-in-Some.text in
    let v = c.in-Some.value in
    keeps_then s t u
    (heap_kept_as s t (with_text s bytes)
    (c.in_ok-text-in-Some.ensures.ok ∙ ap (λ (w : LuaState). with_text w bytes) c.in-Some.ensures.same) (keeps_text s bytes))
    (heap_kept_as t u (with_stored t a.table key v) c.in_ok-store-in-Some.ensures.ok (keeps_stored t a.table key v))
