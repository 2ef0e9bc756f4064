-- Assignments, and what defines functions (Lua 5.1 manual, sections 2.4.3, 2.4.7 and 2.5.9).
use Rattle.std.specs.Prelude.{ℕ, zero, suc, ◌+◌, ◌*◌, List, [], ◌∷◌, ◌++◌, length, Option, Some, None}
use Rattle.tl_base.specs.declared.ids.NodeId.{NodeId}
use Rattle.tl_base.specs.declared.place.Place.{Place}
use Rattle.tl_base.specs.Plan.{Give, Do, Read, Write}
use Rattle.tl_tree.specs.declared.node.Expression.{Expression}
use Rattle.tl_tree.specs.declared.node.Expression.TheVariants as expressions
use Rattle.tl_tree.specs.Item.{Item}
use Rattle.tl_tree.specs.Item as kept
use Rattle.tl_tree.specs.Nodes.{item_at}
use Rattle.tl_tree.specs.Code.{Items, name_at, place_at, node_in}
use Rattle.tl_tree.specs.Scopes.{Found, binder}
use Rattle.lua_value.specs.declared.value.Value.{Value}
use Rattle.lua_value.specs.declared.value.Value.TheVariants as values
use Rattle.lua_table.specs.Cells.{nth_value, with_local}
use Rattle.lua_model.specs.declared.scope.Scope.{Scope}
use Rattle.lua_model.specs.declared.job.Job.TheVariants as jobs
use Rattle.lua_model.specs.declared.end.End.TheVariants.{Many}
use Rattle.lua_model.specs.Plans.{LuaPlan, fell, on_all, value_of, values_of, with_text_of}
use Rattle.lua_model.specs.Fields.{read, store, globals}
use Rattle.lua_model.specs.Expressions.{closing}

-- ---- targets

-- a target's object and key
abbrev pub held : Value → Value → LuaPlan
held object key = Give (Many (object ∷ key ∷ []))

abbrev pub target_of : Items → Expression → Scope → LuaPlan
target_of items (expressions.Index object key) scope =
    value_of object scope (λ o. value_of key scope (λ k. held o k))
target_of items (expressions.Select object name) scope =
    value_of object scope (λ o. with_text_of (name_at items name) (λ key. held o key))
target_of items e scope = held values.Nil values.Nil

-- Each target has two values, which of a name are nil.
abbrev pub target_plan : Items → Item → Scope → LuaPlan
target_plan items (kept.Expression place e) scope = target_of items e scope
target_plan items item scope = held values.Nil values.Nil

-- the objects and keys of targets, in their order
abbrev pub targets : List NodeId → Scope → List Value → (List Value → LuaPlan) → LuaPlan
targets [] scope vs go = go vs
targets (n ∷ ns) scope vs go = Do (jobs.Target n scope) (λ r. on_all r (λ us. targets ns scope (vs ++ us) go))

-- ---- stores

abbrev pub store_name : Option Found → List ℕ → Place → Scope → Value → LuaPlan → LuaPlan
store_name (Some found) text place scope v rest =
    Read (λ s. Write (with_local s scope.env found.depth found.position v) rest)
store_name None text place scope v rest =
    with_text_of text (λ key. store (values.Table globals) key v place scope.call rest)

-- stores a value in a target with this object and this key
abbrev pub store_target : Items → Item → NodeId → Scope → Value → Value → Value → LuaPlan → LuaPlan
store_target items (kept.Name place offset text) n scope object key v rest =
    store_name (binder items n) text place scope v rest
store_target items (kept.Expression place e) n scope object key v rest = store object key v place scope.call rest
store_target items item n scope object key v rest = rest

-- stores in the first so many targets, from the last of them to the first
abbrev pub stores : Items → List NodeId → Scope → List Value → List Value → ℕ → LuaPlan
stores items ns scope us vs zero = fell
stores items ns scope us vs (suc i) =
    let n = node_in ns i in
    store_target items (item_at items n) n scope (nth_value us (2 * i)) (nth_value us (2 * i + 1)) (nth_value vs i)
    (stores items ns scope us vs i)

-- the prefixes and keys of targets, then the right sides, then the stores
abbrev pub assign_plan : Items → List NodeId → List NodeId → Scope → LuaPlan
assign_plan items ns es scope =
    targets ns scope [] (λ us. values_of es scope [] (λ vs. stores items ns scope us vs (length ns)))

-- ---- functions under paths

-- the names of a path are read but for the last one, under which the function is stored
abbrev pub define_in : Items → List NodeId → NodeId → Scope → Value → LuaPlan
define_in items [] function scope object = fell
define_in items (n ∷ []) function scope object =
    closing function scope (λ f.
    with_text_of (name_at items n) (λ key. store object key f (place_at items n) scope.call fell))
define_in items (n ∷ m ∷ ns) function scope object =
    with_text_of (name_at items n) (λ key.
    read object key (place_at items n) scope.call (λ next. define_in items (m ∷ ns) function scope next))

-- The first name alone is a target, and else an expression.
abbrev pub define : Items → List NodeId → NodeId → Scope → LuaPlan
define items [] function scope = fell
define items (n ∷ []) function scope =
    Do (jobs.Target n scope) (λ r. on_all r (λ us.
    closing function scope (λ f. store_target items (item_at items n) n scope values.Nil values.Nil f fell)))
define items (n ∷ m ∷ ns) function scope = value_of n scope (λ object. define_in items (m ∷ ns) function scope object)
