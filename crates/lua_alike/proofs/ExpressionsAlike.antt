-- Expressions do the same in two trees that are alike.
use Rattle.std.specs.Prelude.{◌≡◌, ℕ, true, false, List, [], ◌∷◌, Option, Some, None}
use Rattle.std.specs.List.{All}
use Rattle.std.proofs.Common.{refl, ap, arith}
use Rattle.std.proofs.lemmas.List.Elements.{All-tail}
use Rattle.tl_base.specs.declared.ids.NodeId.{NodeId}
use Rattle.tl_base.specs.declared.place.Place.{Place}
use Rattle.tl_lex.specs.Values.{value_of as literal_value}
use Rattle.tl_tree.specs.Numbers.{value_of as numeral_value}
use Rattle.tl_tree.specs.declared.node.Expression.{Expression}
use Rattle.tl_tree.specs.declared.node.Expression.TheVariants as expressions
use Rattle.tl_tree.specs.Item.{Item}
use Rattle.tl_tree.specs.Item as kept
use Rattle.tl_tree.specs.Code.{name_of}
use Rattle.tl_tree.specs.Scopes.{Found, binder}
use Rattle.tl_alike.specs.Roles.{selected_by_expression, code_in_expression, selected_by, code_in}
use Rattle.tl_alike.specs.Alike as nodes
use Rattle.lua_value.specs.declared.value.Value.{Value}
use Rattle.lua_value.specs.declared.value.Value.TheVariants as values
use Rattle.lua_table.specs.Cells.{values_from}
use Rattle.lua_table.specs.Heap.{next_closure}
use Rattle.lua_model.specs.declared.scope.Scope.{Scope}
use Rattle.lua_model.specs.declared.end.End.TheVariants.{Many}
use Rattle.lua_model.specs.declared.job.Caller.TheVariants.{ByNode}
use Rattle.lua_model.specs.Plans.{LuaPlan, give, whole}
use Rattle.lua_model.specs.Fields.{globals}
use Rattle.lua_model.specs.Expressions.{closing, name_plan, index_plan, select_plan, call_plan, method_plan, terra_expression}
use Rattle.lua_model.specs.Expressions.{expression_plan, node_plan}
use Rattle.lua_alike.proofs.PlansAlike.{Two, SameUse, SameName, Same, then_same, end_same, reading_same, writing_same, on_one_same}
use Rattle.lua_alike.proofs.PlansAlike.{value_same, values_same, specialise_same, texts_same, name_same}
use Rattle.lua_alike.proofs.CallsAlike.{call_same}
use Rattle.lua_alike.proofs.FieldsAlike.{read_same}
use Rattle.lua_alike.proofs.OperatorsAlike.{give_same, binary_plan_same, unary_plan_same}
use Rattle.lua_alike.proofs.TablesAlike.{table_plan_same}

pub closing_same : {two : Two} (function : NodeId) (scope : Scope) {go goes : Value → LuaPlan} → ((v : Value) → Same two (go v) (goes v))
    → Same two (closing function scope go) (closing function scope goes)
closing_same function scope h = reading_same (λ s. writing_same (h (values.Closure (next_closure s))))

-- a name that finds the same, and is the same where it finds none
found_same : {two : Two} (found : Option Found) (text other : List ℕ) (place : Place) (scope : Scope) → (found ≡ None → text ≡ other)
    → Same two (name_plan found text place scope) (name_plan found other place scope)
found_same (Some found) text other place scope e = reading_same (λ s. end_same _)
found_same None text other place scope e =
    texts_same text other (e refl) (λ key. read_same (values.Table globals) key place scope.call (λ v. give_same v))

name_plan_same : {two : Two} (n : NodeId) (text other : List ℕ) (place : Place) (scope : Scope)
    → (binder two.items n ≡ None → text ≡ other)
    → Same two (name_plan (binder two.items n) text place scope) (name_plan (binder two.other n) other place scope)
name_plan_same {two} n text other place scope e =
    then_same (found_same (binder two.items n) text other place scope e)
    (ap (λ (found : Option Found). name_plan found other place scope) (two.alike.binders n))

index_plan_same : {two : Two} (object key : NodeId) (place : Place) (scope : Scope) → SameUse two object → SameUse two key
    → Same two (index_plan object key place scope) (index_plan object key place scope)
index_plan_same object key place scope p q =
    value_same object scope p (λ o. value_same key scope q (λ k. read_same o k place scope.call (λ v. give_same v)))

select_plan_same : {two : Two} (object name : NodeId) (place : Place) (scope : Scope) → SameUse two object → SameName two name
    → Same two (select_plan two.items object name place scope) (select_plan two.other object name place scope)
select_plan_same object name place scope p q =
    value_same object scope p (λ o. name_same name q (λ key. read_same o key place scope.call (λ v. give_same v)))

call_plan_same : {two : Two} (function : NodeId) (arguments : List NodeId) (place : Place) (scope : Scope) → SameUse two function
    → All (SameUse two) arguments
    → Same two (call_plan two.items function arguments place scope) (call_plan two.other function arguments place scope)
call_plan_same function arguments place scope p q =
    value_same function scope p (λ f. values_same arguments scope [] q
    (λ vs. call_same ByNode f vs place scope.call (λ r. end_same r)))

method_plan_same : {two : Two} (object name : NodeId) (arguments : List NodeId) (place : Place) (scope : Scope) → SameUse two object
    → SameName two name → All (SameUse two) arguments
    → Same two (method_plan two.items object name arguments place scope) (method_plan two.other object name arguments place scope)
method_plan_same object name arguments place scope p q rest =
    value_same object scope p (λ o. name_same name q (λ key. read_same o key place scope.call (λ f.
    values_same arguments scope (o ∷ []) rest (λ vs. call_same ByNode f vs place scope.call (λ r. end_same r)))))

terra_expression_same : {two : Two} (n : NodeId) (scope : Scope) → Same two (terra_expression n scope) (terra_expression n scope)
terra_expression_same n scope = specialise_same n scope (λ r. on_one_same r (λ v. give_same v))

expression_plan_same : {two : Two} (e : Expression) (n : NodeId) (place : Place) (scope : Scope)
    → All (SameUse two) (code_in_expression e) → All (SameName two) (selected_by_expression e)
    → Same two (expression_plan two.items e n place scope) (expression_plan two.other e n place scope)
expression_plan_same expressions.Nil n place scope uses selects = give_same values.Nil
expression_plan_same expressions.False n place scope uses selects = give_same (values.Boolean false)
expression_plan_same expressions.True n place scope uses selects = give_same (values.Boolean true)
expression_plan_same expressions.Varargs n place scope uses selects =
    reading_same (λ s. end_same (Many (values_from s scope.extra scope.count)))
expression_plan_same (expressions.Function body) n place scope uses selects = closing_same body scope (λ v. give_same v)
expression_plan_same (expressions.Table fs) n place scope uses selects = table_plan_same fs place scope uses
expression_plan_same (expressions.Binary op a b) n place scope uses selects =
    binary_plan_same op a b place scope (uses 0 a (omega arith)) (uses 1 a (omega arith))
expression_plan_same (expressions.Unary op a) n place scope uses selects =
    unary_plan_same op a place scope (uses 0 a (omega arith))
expression_plan_same (expressions.Paren a) n place scope uses selects =
    value_same a scope (uses 0 a (omega arith)) (λ v. give_same v)
expression_plan_same (expressions.Index object key) n place scope uses selects =
    index_plan_same object key place scope (uses 0 object (omega arith)) (uses 1 object (omega arith))
expression_plan_same (expressions.Select object name) n place scope uses selects =
    select_plan_same object name place scope (uses 0 object (omega arith)) (selects 0 name (omega arith))
expression_plan_same {two} (expressions.Call function arguments) n place scope uses selects =
    call_plan_same function arguments place scope (uses 0 function (omega arith)) (All-tail (SameUse two) function arguments uses)
expression_plan_same {two} (expressions.Method object name arguments) n place scope uses selects =
    method_plan_same object name arguments place scope (uses 0 object (omega arith)) (selects 0 name (omega arith))
    (All-tail (SameUse two) object arguments uses)
expression_plan_same (expressions.Terra body) n place scope uses selects = terra_expression_same n scope
expression_plan_same (expressions.Struct entries) n place scope uses selects = terra_expression_same n scope
expression_plan_same (expressions.Quote quoted) n place scope uses selects = terra_expression_same n scope
expression_plan_same (expressions.Backtick e) n place scope uses selects = terra_expression_same n scope

pub node_plan_same : {two : Two} {a b : Item} → nodes.SameNode a b → (n : NodeId) (scope : Scope)
    → (binder two.items n ≡ None → name_of a ≡ name_of b) → All (SameUse two) (code_in a) → All (SameName two) (selected_by a)
    → Same two (node_plan two.items a n scope) (node_plan two.other b n scope)
node_plan_same (nodes.SameName place o x text other) n scope e uses selects = name_plan_same n text other place scope e
node_plan_same (nodes.SameNumeral place text other numeral value) n scope e uses selects =
    then_same (give_same (whole (numeral_value text))) (ap (λ (k : ℕ). give (whole k)) value)
node_plan_same (nodes.SameLiteral place text other value) n scope e uses selects =
    texts_same (literal_value text) (literal_value other) value (λ v. give_same v)
node_plan_same (nodes.SameItem (kept.Name place o text)) n scope e uses selects = name_plan_same n text text place scope e
node_plan_same (nodes.SameItem (kept.Numeral place text)) n scope e uses selects = give_same (whole (numeral_value text))
node_plan_same (nodes.SameItem (kept.Literal place text)) n scope e uses selects =
    texts_same (literal_value text) (literal_value text) refl (λ v. give_same v)
node_plan_same (nodes.SameItem (kept.Expression place it)) n scope e uses selects = expression_plan_same it n place scope uses selects
node_plan_same (nodes.SameItem item) n scope e uses selects = give_same values.Nil
