-- The plans of an expression of a list and of a field without a key, by the frame that goes on with their ends.
use Rattle.std.proofs.Math.Path.{fun_ext}
use Rattle.std.proofs.Common.{◌≡◌, ℕ, ◌<◌, List, [], ◌∷◌, ◌++◌, length, refl, sym, ap, ◌∙◌, arith}
use Rattle.tl_base.specs.declared.ids.NodeId.{NodeId}
use Rattle.tl_base.specs.Plan.{Give, Do}
use Rattle.tl_tree.specs.Code.{Items}
use Rattle.lua_value.specs.declared.value.Value.{Value}
use Rattle.lua_value.specs.declared.value.Value.TheVariants.{Table}
use Rattle.lua_table.specs.LuaState.{LuaState}
use Rattle.lua_model.specs.Plans.{LuaPlan, give, on_one, on_all}
use Rattle.lua_model.specs.Tables.{fields, store_values}
use Rattle.lua_model.specs.declared.job.Job.TheVariants as jobs
use Rattle.lua_model.specs.declared.end.End.{End}
use Rattle.lua_model.specs.declared.scope.Scope.{Scope}
use Rattle.lua_eval.specs.declared.frame.LuaFrame.{LuaFrame}
use Rattle.lua_eval.specs.declared.frame.LuaFrame.TheVariants as frames
use Rattle.lua_eval.specs.declared.frame.OneFrame.TheVariants as ones
use Rattle.lua_eval.specs.declared.frame.AllFrame.TheVariants as alls
use Rattle.lua_eval.specs.declared.frame.FieldFrame.TheVariants as of_field
use Rattle.lua_eval.specs.declared.frame.ListFrame.{ListFrame}
use Rattle.lua_eval.specs.declared.frame.Then.{Then}
use Rattle.lua_eval.specs.declared.frame.TableFrame.{TableFrame}
use Rattle.lua_eval.specs.declared.tables.FieldKind.TheVariants.{Listed}
use Rattle.lua_eval.specs.Fields.{field_by}
use Rattle.lua_eval.specs.CallPlans.{item_plan as behind_item}
use Rattle.lua_eval.specs.Frames.{after, then_plan, list_plan, fields_from}
use Rattle.lua_eval.specs.Steps.{LuaStep, Goes}
use Rattle.lua_eval.proofs.Below.{moved}
use Rattle.lua_eval.proofs.Doing.{job_below}
use Rattle.lua_eval.proofs.Listing.{none_is, values_next, values_last, field_next, field_last}

-- an expression with others behind it gives one value
pub item_plan : (items : Items) (n : NodeId) (f : ListFrame) → 0 < length f.rest.now
    → list_plan items (n ∷ f.rest.now) f.scope f.values f.then ≡ Do (jobs.Expression n f.scope) (after items (frames.One (ones.Item f)))
item_plan items n f some = values_next n f.rest.now f.scope f.values (λ all. then_plan items f.then f.scope all) some

-- the last one gives all
pub last_plan : (items : Items) (n : NodeId) (f : ListFrame) → length f.rest.now ≡ 0
    → list_plan items (n ∷ f.rest.now) f.scope f.values f.then ≡ Do (jobs.Expression n f.scope) (after items (frames.All (alls.Last f)))
last_plan items n f none = values_last n f.rest.now f.scope f.values (λ all. then_plan items f.then f.scope all) none

-- the frame of the last one goes on with all values
pub last_after : (items : Items) (f : ListFrame) (r : End) → length f.rest.now ≡ 0
    → after items (frames.All (alls.Last f)) r ≡ behind_item items f.rest.now f.scope f.values f.then r
last_after items f r none =
    sym (ap (λ (ns : List NodeId). behind_item items ns f.scope f.values f.then r) (none_is f.rest.now none))

item_behind : (items : Items) (ns : List NodeId) (scope : Scope) (vs : List Value) (next : Then) (r : End) → 0 < length ns
    → on_one r (λ v. list_plan items ns scope (vs ++ v ∷ []) next) ≡ behind_item items ns scope vs next r
item_behind items [] scope vs next r some = absurd (omega arith)
item_behind items (n ∷ ns) scope vs next r some = refl

-- and that of any other one with one value
pub item_after : (items : Items) (f : ListFrame) (r : End) → 0 < length f.rest.now
    → after items (frames.One (ones.Item f)) r ≡ behind_item items f.rest.now f.scope f.values f.then r
item_after items f r some = item_behind items f.rest.now f.scope f.values f.then r some

item_is : (items : Items) (n : NodeId) (ns : List NodeId) (scope : Scope) (vs : List Value) (next : Then)
    → list_plan items (n ∷ ns) scope vs next ≡ Do (jobs.Expression n scope) (behind_item items ns scope vs next)
item_is items n [] scope vs next = refl
item_is items n (m ∷ ns) scope vs next = refl

-- an expression of a list is done alone over the frame that waits for it
pub item_below : (items : Items) (fs pushed fs2 : List LuaFrame) (f : LuaFrame) (n : NodeId) (ns : List NodeId) (scope : Scope)
    (vs : List Value) (next : Then) (s s2 : LuaState) (left left2 : ℕ) (step : LuaStep)
    → pushed ≡ fs ++ f ∷ [] → ((r : End) → after items f r ≡ behind_item items ns scope vs next r)
    → Goes items pushed (Do (jobs.Expression n scope) Give) s left fs2 step s2 left2
    → Goes items fs (list_plan items (n ∷ ns) scope vs next) s left fs2 step s2 left2
item_below items fs pushed fs2 f n ns scope vs next s s2 left left2 step is same g =
    let job = jobs.Expression n scope in
    moved items fs fs2 (list_plan items (n ∷ ns) scope vs next) (Do job (after items f)) s s s2 left left2 step
    (item_is items n ns scope vs next ∙ ap (λ (k : End → LuaPlan). Do job k) (fun_ext (λ r. sym (same r)))) refl
    (job_below items fs pushed fs2 f job s s2 left left2 step is g)

-- a field without a key, with others behind it
pub field_plan : (items : Items) (n : NodeId) (f : TableFrame) → 0 < length f.rest.now
    → field_by items Listed n f ≡ Do (jobs.Expression n f.scope) (after items (frames.One (ones.Field f of_field.Next)))
field_plan items n f some = field_next f.table f.next n f.rest.now f.scope (λ next. fields_from items f next) some

fields_none : (items : Items) (f : TableFrame) (ns : List NodeId) → length ns ≡ 0
    → fields items ns f.table f.next f.place f.scope ≡ give (Table f.table)
fields_none items f [] none = refl
fields_none items f (n ∷ ns) none = absurd (omega arith)

-- the last one gives all
pub last_field_plan : (items : Items) (n : NodeId) (f : TableFrame) → length f.rest.now ≡ 0
    → field_by items Listed n f ≡ Do (jobs.Expression n f.scope) (after items (frames.All (alls.LastField f)))
last_field_plan items n f none =
    field_last f.table f.next n f.rest.now f.scope (λ next. fields_from items f next) none
    ∙ ap (λ (p : LuaPlan). Do (jobs.Expression n f.scope) (λ r. on_all r (λ vs. store_values f.table f.next vs p)))
    (fields_none items f f.rest.now none)
