-- Expressions (Lua 5.1 manual, section 2.5).
use Rattle.std.specs.Prelude.{ℕ, true, false, List, [], ◌∷◌, Option, Some, None}
use Rattle.tl_base.specs.declared.ids.NodeId.{NodeId}
use Rattle.tl_base.specs.declared.place.Place.{Place}
use Rattle.tl_base.specs.Plan.{Give, Read, Write}
use Rattle.tl_lex.specs.Values.{value_of as literal_value}
use Rattle.tl_tree.specs.declared.node.Expression.{Expression}
use Rattle.tl_tree.specs.declared.node.Expression.TheVariants as expressions
use Rattle.tl_tree.specs.Item.{Item}
use Rattle.tl_tree.specs.Item as kept
use Rattle.tl_tree.specs.Numbers.{value_of as numeral_value}
use Rattle.tl_tree.specs.Code.{Items, name_at}
use Rattle.tl_tree.specs.Scopes.{Found, binder}
use Rattle.lua_value.specs.declared.value.Value.{Value}
use Rattle.lua_value.specs.declared.value.Value.TheVariants as values
use Rattle.lua_table.specs.Heap.{next_closure, with_closure}
use Rattle.lua_table.specs.Cells.{local_value, values_from}
use Rattle.lua_model.specs.declared.scope.Scope.{Scope}
use Rattle.lua_model.specs.declared.end.End.TheVariants.{Many}
use Rattle.lua_model.specs.declared.job.Caller.TheVariants.{ByNode}
use Rattle.lua_model.specs.Plans.{LuaPlan, give, on_one, value_of, values_of, with_text_of, whole, specialise}
use Rattle.lua_model.specs.Calls.{call}
use Rattle.lua_model.specs.Fields.{read, globals}
use Rattle.lua_model.specs.Operators.{binary_plan, unary_plan}
use Rattle.lua_model.specs.Tables.{table_plan}

-- makes the function of a node
abbrev pub closing : NodeId → Scope → (Value → LuaPlan) → LuaPlan
closing function scope go =
    Read (λ s.
    Write (with_closure s (record { function = function; env = scope.env })) (go (values.Closure (next_closure s))))

-- a name is that of a local, or else of a field of the globals
abbrev pub name_plan : Option Found → List ℕ → Place → Scope → LuaPlan
name_plan (Some found) text place scope =
    Read (λ s. give (local_value s scope.env found.depth found.position))
name_plan None text place scope = with_text_of text (λ key. read (values.Table globals) key place scope.call give)

abbrev pub index_plan : NodeId → NodeId → Place → Scope → LuaPlan
index_plan object key place scope =
    value_of object scope (λ o. value_of key scope (λ k. read o k place scope.call give))

abbrev pub select_plan : Items → NodeId → NodeId → Place → Scope → LuaPlan
select_plan items object name place scope =
    value_of object scope (λ o. with_text_of (name_at items name) (λ key. read o key place scope.call give))

abbrev pub call_plan : Items → NodeId → List NodeId → Place → Scope → LuaPlan
call_plan items function arguments place scope =
    value_of function scope (λ f. values_of arguments scope [] (λ vs. call items ByNode f vs place scope.call Give))

-- `object:name(arguments)`: the object is the first argument, and is evaluated once
abbrev pub method_plan : Items → NodeId → NodeId → List NodeId → Place → Scope → LuaPlan
method_plan items object name arguments place scope =
    value_of object scope (λ o. with_text_of (name_at items name) (λ key. read o key place scope.call (λ f.
    values_of arguments scope (o ∷ []) (λ vs. call items ByNode f vs place scope.call Give))))

-- Terra code is specialised where it is evaluated, and is one value
abbrev pub terra_expression : NodeId → Scope → LuaPlan
terra_expression n scope = specialise n scope (λ r. on_one r give)

abbrev pub expression_plan : Items → Expression → NodeId → Place → Scope → LuaPlan
expression_plan items expressions.Nil n place scope = give values.Nil
expression_plan items expressions.False n place scope = give (values.Boolean false)
expression_plan items expressions.True n place scope = give (values.Boolean true)
expression_plan items expressions.Varargs n place scope =
    Read (λ s. Give (Many (values_from s scope.extra scope.count)))
expression_plan items (expressions.Function body) n place scope = closing body scope give
expression_plan items (expressions.Table fs) n place scope = table_plan items fs place scope
expression_plan items (expressions.Binary op a b) n place scope = binary_plan items op a b place scope
expression_plan items (expressions.Unary op a) n place scope = unary_plan items op a place scope
expression_plan items (expressions.Paren a) n place scope = value_of a scope give
expression_plan items (expressions.Index object key) n place scope = index_plan object key place scope
expression_plan items (expressions.Select object name) n place scope = select_plan items object name place scope
expression_plan items (expressions.Call function arguments) n place scope =
    call_plan items function arguments place scope
expression_plan items (expressions.Method object name arguments) n place scope =
    method_plan items object name arguments place scope
expression_plan items (expressions.Terra body) n place scope = terra_expression n scope
expression_plan items (expressions.Struct entries) n place scope = terra_expression n scope
expression_plan items (expressions.Quote quoted) n place scope = terra_expression n scope
expression_plan items (expressions.Backtick e) n place scope = terra_expression n scope

-- what is no expression is nil
abbrev pub node_plan : Items → Item → NodeId → Scope → LuaPlan
node_plan items (kept.Name place offset text) n scope = name_plan (binder items n) text place scope
node_plan items (kept.Numeral place text) n scope = give (whole (numeral_value text))
node_plan items (kept.Literal place text) n scope = with_text_of (literal_value text) give
node_plan items (kept.Expression place e) n scope = expression_plan items e n place scope
node_plan items item n scope = give values.Nil
