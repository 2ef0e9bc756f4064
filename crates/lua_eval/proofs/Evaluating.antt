-- What nodes do that are expressions, where what they hold is known by equations.
use Rattle.std.proofs.Common.{◌≡◌, ℕ, List, ◌++◌, [], ◌∷◌, refl, sym, ap, ◌∙◌, Some, None}
use Rattle.tl_base.specs.declared.ids.NodeId.{NodeId}
use Rattle.tl_base.specs.declared.place.Place.{Place}
use Rattle.tl_base.specs.declared.machine.Step.TheVariants.{Enter, Return}
use Rattle.tl_base.specs.Layer.{state}
use Rattle.tl_base.specs.Plan.{Read, Gives}
use Rattle.tl_base.specs.Machine.{plug}
use Rattle.tl_tree.specs.Code.{Items}
use Rattle.tl_tree.specs.Item.{Item}
use Rattle.tl_tree.specs.Item as kept
use Rattle.tl_tree.specs.Nodes.{item_at}
use Rattle.tl_tree.specs.Scopes.{binder}
use Rattle.tl_tree.specs.declared.node.BinaryOperator.{BinaryOperator}
use Rattle.tl_tree.specs.declared.node.BinaryOperator.TheVariants as binary
use Rattle.tl_lex.specs.Values.{value_of as literal_value}
use Rattle.lua_value.specs.declared.value.Value.{Value}
use Rattle.lua_value.specs.declared.value.Value.TheVariants as values
use Rattle.lua_table.specs.LuaState.{LuaState}
use Rattle.lua_table.specs.Cells.{local_value}
use Rattle.lua_model.specs.declared.job.Job.TheVariants as jobs
use Rattle.lua_model.specs.declared.end.End.TheVariants.{One}
use Rattle.lua_model.specs.declared.scope.Scope.{Scope}
use Rattle.lua_model.specs.Plans.{LuaPlan, give, value_of, with_text_of}
use Rattle.lua_model.specs.Fields.{read, globals}
use Rattle.lua_model.specs.Operators.{binary_plan, operate}
use Rattle.lua_model.specs.Expressions.{node_plan}
use Rattle.lua_eval.specs.declared.frame.LuaFrame.{LuaFrame}
use Rattle.lua_eval.specs.declared.frame.LuaFrame.TheVariants as frames
use Rattle.lua_eval.specs.declared.frame.OneFrame.TheVariants as ones
use Rattle.lua_eval.specs.declared.frame.ValueFrame.TheVariants as of_value
use Rattle.lua_eval.specs.Frames.{lua_rules, with_left}
use Rattle.lua_eval.specs.Slots.{path_of}
use Rattle.lua_eval.specs.Steps.{LuaStep, Goes}
use Rattle.lua_eval.specs.Texts.{text_value, text_state}
use Rattle.lua_eval.proofs.Below.{moved, text_goes}
use Rattle.lua_eval.proofs.Doing.{enters, returns}
use Rattle.lua_eval.proofs.Counting.{left_other, binary_is}
use Rattle.lua_eval.proofs.Named.{name_known}

-- a node, by what it holds
pub node_goes : (items : Items) (fs fs2 : List LuaFrame) (item : Item) (n : NodeId) (scope : Scope) (p : LuaPlan)
    (s t s2 : LuaState) (left left2 : ℕ) (step : LuaStep)
    → item_at items n ≡ item → node_plan items item n scope ≡ p → s ≡ t
    → Goes items fs p t left fs2 step s2 left2
    → Goes items fs (node_plan items (item_at items n) n scope) s left fs2 step s2 left2
node_goes items fs fs2 item n scope p s t s2 left left2 step is plan heap g =
    moved items fs fs2 (node_plan items (item_at items n) n scope) p s t s2 left left2 step
    (ap (λ (i : Item). node_plan items i n scope) is ∙ plan) heap g

-- a value that is known by an equation is returned
pub returns_known : (items : Items) (fs : List LuaFrame) (v known : Value) (s : LuaState) (left : ℕ)
    → v ≡ known → Goes items fs (give known) s left fs (Return (One v)) s left
returns_known items fs v known s left is =
    λ later. ap (λ (x : Value). plug (lua_rules items) fs (Gives (One x) (state s left) later)) (sym is)

-- a local
pub local_goes : (items : Items) (fs : List LuaFrame) (place : Place) (offset : ℕ) (text : List ℕ) (n : NodeId) (scope : Scope)
    (s : LuaState) (left : ℕ) (v : Value) (depth position : ℕ)
    → item_at items n ≡ kept.Name place offset text → Some (depth, position) ≡ path_of (binder items n)
    → v ≡ local_value s scope.env depth position
    → Goes items fs (node_plan items (item_at items n) n scope) s left fs (Return (One v)) s left
local_goes items fs place offset text n scope s left v depth position is path value =
    node_goes items fs fs (kept.Name place offset text) n scope (Read (λ w. give (local_value w scope.env depth position)))
    s s s left left (Return (One v)) is (name_known (binder items n) (Some (depth, position)) text place scope path) refl
    (returns_known items fs v (local_value s scope.env depth position) s left value)

-- a global
pub global_goes : (items : Items) (fs fs2 : List LuaFrame) (place : Place) (offset : ℕ) (text bytes : List ℕ) (n : NodeId) (scope : Scope)
    (s s2 : LuaState) (left left2 : ℕ) (step : LuaStep)
    → item_at items n ≡ kept.Name place offset text → None ≡ path_of (binder items n) → bytes ≡ text
    → Goes items fs (with_text_of bytes (λ key. read (values.Table globals) key place scope.call give)) s left fs2 step s2 left2
    → Goes items fs (node_plan items (item_at items n) n scope) s left fs2 step s2 left2
global_goes items fs fs2 place offset text bytes n scope s s2 left left2 step is path same g =
    let reading : List ℕ → LuaPlan =
    λ bs. with_text_of bs (λ key. read (values.Table globals) key place scope.call give) in
    node_goes items fs fs2 (kept.Name place offset text) n scope (reading bytes) s s s2 left left2 step is
    (name_known (binder items n) None text place scope path ∙ ap reading (sym same)) refl g

-- a text
pub literal_goes : (items : Items) (fs : List LuaFrame) (place : Place) (text bytes : List ℕ) (n : NodeId) (scope : Scope)
    (s t : LuaState) (left : ℕ) (v : Value)
    → item_at items n ≡ kept.Literal place text → bytes ≡ literal_value text
    → v ≡ text_value s bytes → t ≡ text_state s bytes
    → Goes items fs (node_plan items (item_at items n) n scope) s left fs (Return (One v)) t left
literal_goes items fs place text bytes n scope s t left v is same value heap =
    node_goes items fs fs (kept.Literal place text) n scope (with_text_of bytes give) s s t left left (Return (One v)) is
    (ap (λ (bs : List ℕ). with_text_of bs give) (sym same)) refl
    (text_goes items fs fs bytes give s t t left left (Return (One v)) v value heap (returns items fs (One v) t left))

-- an operator between two expressions
pub binary_enters : (items : Items) (fs pushed : List LuaFrame) (op : BinaryOperator) (a b : NodeId) (place : Place) (scope : Scope)
    (s : LuaState) (left : ℕ)
    → pushed ≡ fs ++ frames.One (ones.Value (of_value.Left op b place scope)) ∷ []
    → Goes items fs (binary_plan items op a b place scope) s left pushed (Enter (jobs.Expression a scope)) s left
binary_enters items fs pushed op a b place scope s left is =
    moved items fs pushed (binary_plan items op a b place scope) (value_of a scope (λ v. with_left items op b place scope v))
    s s s left left (Enter (jobs.Expression a scope)) (binary_is items op a b place scope) refl
    (enters items fs pushed (frames.One (ones.Value (of_value.Left op b place scope))) (jobs.Expression a scope) s left is)

-- its right operand, where the left one decides nothing
pub right_enters : (items : Items) (fs pushed : List LuaFrame) (op : BinaryOperator) (b : NodeId) (place : Place) (scope : Scope) (v : Value)
    (s : LuaState) (left : ℕ)
    → (op ≡ binary.And → ⊥) → (op ≡ binary.Or → ⊥)
    → pushed ≡ fs ++ frames.One (ones.Value (of_value.Right op v place scope.call)) ∷ []
    → Goes items fs (with_left items op b place scope v) s left pushed (Enter (jobs.Expression b scope)) s left
right_enters items fs pushed op b place scope v s left not_and not_or is =
    moved items fs pushed (with_left items op b place scope v)
    (value_of b scope (λ w. operate items op v w place scope.call)) s s s left left (Enter (jobs.Expression b scope))
    (left_other items op b place scope v not_and not_or) refl
    (enters items fs pushed (frames.One (ones.Value (of_value.Right op v place scope.call))) (jobs.Expression b scope) s left is)
