-- Assignments, and what defines functions, do the same in two trees that are alike.
use Rattle.std.specs.Prelude.{◌≡◌, ℕ, zero, suc, ◌+◌, ◌*◌, ◌≤◌, List, [], ◌∷◌, ◌++◌, length, Option, Some, None}
use Rattle.std.specs.List.{All}
use Rattle.std.proofs.Common.{refl, ap, arith, le_refl}
use Rattle.std.proofs.lemmas.List.Elements.{All-head, All-tail, All-cons, All-nil}
use Rattle.tl_base.specs.declared.ids.NodeId.{NodeId}
use Rattle.tl_base.specs.declared.place.Place.{Place}
use Rattle.tl_tree.specs.declared.node.Expression.{Expression}
use Rattle.tl_tree.specs.declared.node.Expression.TheVariants as expressions
use Rattle.tl_tree.specs.Item.{Item}
use Rattle.tl_tree.specs.Item as kept
use Rattle.tl_tree.specs.Code.{node_zero, node_in, name_of, place_at}
use Rattle.tl_tree.specs.Scopes.{Found, binder}
use Rattle.tl_alike.specs.Roles.{selected_by_expression, code_in_expression, selected_by, code_in}
use Rattle.tl_alike.specs.Alike as nodes
use Rattle.tl_alike.proofs.ReadAlike.{HasSamePath, place_same}
use Rattle.lua_value.specs.declared.value.Value.{Value}
use Rattle.lua_value.specs.declared.value.Value.TheVariants as values
use Rattle.lua_table.specs.Cells.{nth_value}
use Rattle.lua_model.specs.declared.scope.Scope.{Scope}
use Rattle.lua_model.specs.declared.job.Job.TheVariants as jobs
use Rattle.lua_model.specs.declared.end.End.TheVariants.{Many, Fell}
use Rattle.lua_model.specs.Plans.{LuaPlan, fell}
use Rattle.lua_model.specs.Fields.{read, store, globals}
use Rattle.lua_model.specs.Assignments.{held, target_of, target_plan, targets, store_name, store_target, stores, assign_plan}
use Rattle.lua_model.specs.Assignments.{define_in, define}
use Rattle.lua_alike.proofs.PlansAlike.{Two, SameUse, SameName, Same, then_same, end_same, do_same, reading_same, writing_same, on_all_same}
use Rattle.lua_alike.proofs.PlansAlike.{value_same, values_same, texts_same, name_same}
use Rattle.lua_alike.proofs.FieldsAlike.{read_same, store_same}
use Rattle.lua_alike.proofs.ExpressionsAlike.{closing_same}

-- ---- parts of a list

module _ {X : Type 0} (P : X → Type 0) where
  pub all_first : (xs ys : List X) → All P (xs ++ ys) → All P xs
  all_first [] ys h = All-nil P
  all_first (x ∷ xs) ys h = All-cons P x xs (All-head P x (xs ++ ys) h) (all_first xs ys (All-tail P x (xs ++ ys) h))

  pub all_second : (xs ys : List X) → All P (xs ++ ys) → All P ys
  all_second [] ys h = h
  all_second (x ∷ xs) ys h = all_second xs ys (All-tail P x (xs ++ ys) h)

-- ---- targets

held_same : {two : Two} (object key : Value) → Same two (held object key) (held object key)
held_same object key = end_same (Many (object ∷ key ∷ []))

target_of_same : {two : Two} (e : Expression) (scope : Scope) → All (SameUse two) (code_in_expression e)
    → All (SameName two) (selected_by_expression e) → Same two (target_of two.items e scope) (target_of two.other e scope)
target_of_same (expressions.Index object key) scope uses selects =
    value_same object scope (uses 0 object (omega arith))
    (λ o. value_same key scope (uses 1 object (omega arith)) (λ k. held_same o k))
target_of_same (expressions.Select object name) scope uses selects =
    value_same object scope (uses 0 object (omega arith))
    (λ o. name_same name (selects 0 name (omega arith)) (λ key. held_same o key))
target_of_same e scope uses selects = held_same values.Nil values.Nil

pub target_plan_same : {two : Two} {a b : Item} → nodes.SameNode a b → (scope : Scope) → All (SameUse two) (code_in a)
    → All (SameName two) (selected_by a) → Same two (target_plan two.items a scope) (target_plan two.other b scope)
target_plan_same (nodes.SameName p o x t u) scope uses selects = held_same values.Nil values.Nil
target_plan_same (nodes.SameNumeral p t u e f) scope uses selects = held_same values.Nil values.Nil
target_plan_same (nodes.SameLiteral p t u e) scope uses selects = held_same values.Nil values.Nil
target_plan_same (nodes.SameItem (kept.Expression place it)) scope uses selects = target_of_same it scope uses selects
target_plan_same (nodes.SameItem item) scope uses selects = held_same values.Nil values.Nil

targets_same : {two : Two} (ns : List NodeId) (scope : Scope) (vs : List Value) {go goes : List Value → LuaPlan}
    → ((all : List Value) → Same two (go all) (goes all)) → Same two (targets ns scope vs go) (targets ns scope vs goes)
targets_same [] scope vs h = h vs
targets_same (n ∷ ns) scope vs h =
    do_same (jobs.Target n scope) tt (λ r. on_all_same r (λ us. targets_same ns scope (vs ++ us) h))

-- ---- stores

store_found_same : {two : Two} (found : Option Found) (text other : List ℕ) (place : Place) (scope : Scope) (v : Value)
    {rest rests : LuaPlan} → (found ≡ None → text ≡ other) → Same two rest rests
    → Same two (store_name found text place scope v rest) (store_name found other place scope v rests)
store_found_same (Some found) text other place scope v e k = reading_same (λ s. writing_same k)
store_found_same None text other place scope v e k =
    texts_same text other (e refl) (λ key. store_same (values.Table globals) key v place scope.call k)

store_name_same : {two : Two} (n : NodeId) (text other : List ℕ) (place : Place) (scope : Scope) (v : Value) {rest rests : LuaPlan}
    → (binder two.items n ≡ None → text ≡ other) → Same two rest rests
    → Same two (store_name (binder two.items n) text place scope v rest) (store_name (binder two.other n) other place scope v rests)
store_name_same {two} n text other place scope v {rest} {rests} e k =
    then_same (store_found_same (binder two.items n) text other place scope v e k)
    (ap (λ (found : Option Found). store_name found other place scope v rests) (two.alike.binders n))

store_target_same : {two : Two} {a b : Item} → nodes.SameNode a b → (n : NodeId) (scope : Scope) (object key v : Value)
    {rest rests : LuaPlan} → (binder two.items n ≡ None → name_of a ≡ name_of b) → Same two rest rests
    → Same two (store_target two.items a n scope object key v rest) (store_target two.other b n scope object key v rests)
store_target_same (nodes.SameName place o x text other) n scope object key v e k = store_name_same n text other place scope v e k
store_target_same (nodes.SameNumeral p t u f g) n scope object key v e k = k
store_target_same (nodes.SameLiteral p t u f) n scope object key v e k = k
store_target_same (nodes.SameItem (kept.Name place o text)) n scope object key v e k = store_name_same n text text place scope v e k
store_target_same (nodes.SameItem (kept.Expression place it)) n scope object key v e k = store_same object key v place scope.call k
store_target_same (nodes.SameItem item) n scope object key v e k = k

stores_same : {two : Two} (ns : List NodeId) (scope : Scope) (us vs : List Value) (i : ℕ) → i ≤ length ns → All (SameUse two) ns
    → Same two (stores two.items ns scope us vs i) (stores two.other ns scope us vs i)
stores_same ns scope us vs zero le uses = end_same (Fell [])
stores_same {two} ns scope us vs (suc i) le uses =
    store_target_same (two.alike.nodes (node_in ns i)) (node_in ns i) scope (nth_value us (2 * i)) (nth_value us (2 * i + 1))
    (nth_value vs i) (uses i node_zero le) (stores_same ns scope us vs i (omega arith) uses)

pub assign_plan_same : {two : Two} (ns es : List NodeId) (scope : Scope) → All (SameUse two) (ns ++ es)
    → Same two (assign_plan two.items ns es scope) (assign_plan two.other ns es scope)
assign_plan_same {two} ns es scope uses =
    targets_same ns scope [] (λ us. values_same es scope [] (all_second (SameUse two) ns es uses)
    (λ vs. stores_same ns scope us vs (length ns) (le_refl (length ns)) (all_first (SameUse two) ns es uses)))

-- ---- functions under paths

define_in_same : {two : Two} (ns : List NodeId) (function : NodeId) (scope : Scope) (object : Value) → All (SameName two) ns
    → Same two (define_in two.items ns function scope object) (define_in two.other ns function scope object)
define_in_same [] function scope object selects = end_same (Fell [])
define_in_same {two} (n ∷ []) function scope object selects =
    closing_same function scope (λ f.
    name_same n (All-head (SameName two) n [] selects) (λ key.
    then_same (store_same object key f (place_at two.items n) scope.call (end_same (Fell [])))
    (ap (λ (p : Place). store object key f p scope.call fell) (place_same two.items two.other two.alike n))))
define_in_same {two} (n ∷ m ∷ ns) function scope object selects =
    name_same n (All-head (SameName two) n (m ∷ ns) selects) (λ key.
    then_same (read_same object key (place_at two.items n) scope.call
    (λ next. define_in_same (m ∷ ns) function scope next (All-tail (SameName two) n (m ∷ ns) selects)))
    (ap (λ (p : Place). read object key p scope.call (λ next. define_in two.other (m ∷ ns) function scope next))
    (place_same two.items two.other two.alike n)))

pub define_same : {two : Two} (ns : List NodeId) (function : NodeId) (scope : Scope) → HasSamePath two.items two.other ns
    → Same two (define two.items ns function scope) (define two.other ns function scope)
define_same [] function scope path = end_same (Fell [])
define_same {two} (n ∷ []) function scope path =
    do_same (jobs.Target n scope) tt (λ r. on_all_same r (λ us.
    closing_same function scope (λ f.
    store_target_same (two.alike.nodes n) n scope values.Nil values.Nil f path.0 (end_same (Fell [])))))
define_same (n ∷ m ∷ ns) function scope path =
    value_same n scope path.0 (λ object. define_in_same (m ∷ ns) function scope object path.1)
