-- Names and targets by the paths of their declarations, and what values refuse.
use Rattle.std.proofs.Common.{◌≡◌, ℕ, ◌<◌, Bool, true, false, List, [], ◌∷◌, ◌++◌, length, refl, sym, ap, ◌∙◌, Option, Some, None, ◌==◌}
use Rattle.std.proofs.Common.{arith}
use Rattle.std.specs.Prelude.{option_map}
use Rattle.std.proofs.lemmas.Bool.Decides.{nat_tests}
use Rattle.tl_base.specs.declared.ids.EnvId.{EnvId}
use Rattle.tl_base.specs.declared.ids.NodeId.{NodeId}
use Rattle.tl_base.specs.declared.ids.TableId.{TableId}
use Rattle.tl_base.specs.declared.ids.TextId.{TextId}
use Rattle.tl_base.specs.declared.ids.TypeId.{TypeId}
use Rattle.tl_base.specs.declared.ids.TermId.{TermId}
use Rattle.tl_base.specs.declared.place.Place.{Place}
use Rattle.tl_base.specs.Plan.{Give, Read}
use Rattle.tl_tree.specs.Code.{Items, name_at, place_at, if_any, is_any}
use Rattle.tl_tree.specs.Item.{Item}
use Rattle.tl_tree.specs.Nodes.{item_of}
use Rattle.tl_tree.specs.declared.node.Node.{Node}
use Rattle.tl_tree.specs.declared.node.Node.TheVariants as nodes
use Rattle.tl_tree.specs.declared.node.Expression.{Expression as LuaExpression}
use Rattle.tl_tree.specs.declared.node.Statement.{Statement as LuaStatement}
use Rattle.tl_tree.specs.declared.node.Expression.TheVariants as lua_expressions
use Rattle.tl_tree.specs.declared.node.Statement.TheVariants as lua_statements
use Rattle.tl_tree.specs.Scopes.{Found, binder}
use Rattle.lua_value.specs.declared.value.Value.{Value}
use Rattle.lua_value.specs.declared.value.Value.TheVariants as values
use Rattle.lua_value.specs.Values.{kind_of}
use Rattle.lua_table.specs.Cells.{local_value, local_cell}
use Rattle.lua_model.specs.Fields.{globals}
use Rattle.exotype.specs.declared.fault.Fault.TheVariants as faults
use Rattle.spec_model.specs.declared.end.End.{End}
use Rattle.spec_model.specs.declared.end.End.TheVariants as ends
use Rattle.spec_model.specs.declared.target.Target.TheVariants as targets
use Rattle.spec_model.specs.declared.question.SpecAnswer.{SpecAnswer}
use Rattle.spec_model.specs.Plans.{SpecPlan, with_text_of, raise, index, one, as_term, as_terms, as_statements}
use Rattle.spec_model.specs.Expressions.{named_value, select, select_from, select_term, constructed}
use Rattle.spec_model.specs.Definitions.{Go, only_name, targeted, steps, key, method_key, over}
use Rattle.spec_model.specs.Meaning.{first_of, value_plan, definition_plan}
use Rattle.spec_machine.specs.Agreeing.{is_last}
use Rattle.spec_machine.specs.Frames.{on_answer}
use Rattle.spec_machine.proofs.Pushing.{none_is}

abbrev pub path_of : Option Found → Option (ℕ × ℕ)
path_of = option_map (λ found. (found.depth, found.position))

-- ---- names

abbrev named_by : Option (ℕ × ℕ) → List ℕ → Place → EnvId → (Value → SpecPlan) → SpecPlan
named_by (Some path) name place env go = Read (λ w. go (local_value w.heap env path.0 path.1))
named_by None name place env go = index (values.Table globals) name place go

named_is : (b : Option Found) (name : List ℕ) (place : Place) (env : EnvId) (go : Value → SpecPlan)
    → named_value b name place env go ≡ named_by (path_of b) name place env go
named_is (Some found) name place env go = refl
named_is None name place env go = refl

pub local_is : (b : Option Found) (depth position : ℕ) (name : List ℕ) (place : Place) (env : EnvId) (go : Value → SpecPlan)
    → Some (depth, position) ≡ path_of b
    → named_value b name place env go ≡ Read (λ w. go (local_value w.heap env depth position))
local_is b depth position name place env go is =
    named_is b name place env go ∙ ap (λ (p : Option (ℕ × ℕ)). named_by p name place env go) (sym is)

pub global_is : (b : Option Found) (name : List ℕ) (place : Place) (env : EnvId) (go : Value → SpecPlan)
    → None ≡ path_of b → named_value b name place env go ≡ index (values.Table globals) name place go
global_is b name place env go is =
    named_is b name place env go ∙ ap (λ (p : Option (ℕ × ℕ)). named_by p name place env go) (sym is)

-- ---- targets

abbrev only_by : Option (ℕ × ℕ) → List ℕ → EnvId → Go → SpecPlan
only_by (Some path) name env go = Read (λ w. go (targets.Cell (local_cell w.heap env path.0 path.1)) None)
only_by None name env go = with_text_of name (λ text. go (targets.Key globals text) None)

only_is : (b : Option Found) (name : List ℕ) (env : EnvId) (go : Go) → only_name b name env go ≡ only_by (path_of b) name env go
only_is (Some found) name env go = refl
only_is None name env go = refl

pub only_local : (b : Option Found) (depth position : ℕ) (name : List ℕ) (env : EnvId) (go : Go)
    → Some (depth, position) ≡ path_of b
    → only_name b name env go ≡ Read (λ w. go (targets.Cell (local_cell w.heap env depth position)) None)
only_local b depth position name env go is =
    only_is b name env go ∙ ap (λ (p : Option (ℕ × ℕ)). only_by p name env go) (sym is)

pub only_global : (b : Option Found) (name : List ℕ) (env : EnvId) (go : Go)
    → None ≡ path_of b → only_name b name env go ≡ with_text_of name (λ text. go (targets.Key globals text) None)
only_global b name env go is =
    only_is b name env go ∙ ap (λ (p : Option (ℕ × ℕ)). only_by p name env go) (sym is)

-- ---- what values refuse

pub no_table : (name : TextId) (v : Value) (place : Place) (go : Go) → ((t : TableId) → v ≡ values.Table t → ⊥)
    → key name v place go ≡ raise place (faults.Index (kind_of v))
no_table name (values.Table t) place go other = absurd (other t refl)
no_table name v place go other = refl

pub no_struct : (name : TextId) (v : Value) (place : Place) (go : Go) → ((t : TypeId) → v ≡ values.TerraType t → ⊥)
    → method_key name v place go ≡ raise place (faults.Index (kind_of v))
no_struct name (values.TerraType t) place go other = absurd (other t refl)
no_struct name v place go other = refl

pub select_other : (items : Items) (v : Value) (at : Place) (name : NodeId) (place : Place) (env : EnvId)
    → ((t : TableId) → v ≡ values.Table t → ⊥)
    → select_from items v at name place env ≡ one v at (λ object. select_term items object name place env)
select_other items (values.Table t) at name place env other = absurd (other t refl)
select_other items v at name place env other = refl

-- ---- ends that nothing goes on with

pub select_ended : (items : Items) (r : End) (name : NodeId) (place : Place) (env : EnvId)
    → ((v : Value) (at : Place) → r ≡ ends.Found v at → ⊥) → ((t : TermId) → r ≡ ends.Made t → ⊥)
    → select items r name place env ≡ Give r
select_ended items (ends.Found v at) name place env found made = absurd (found v at refl)
select_ended items (ends.Made t) name place env found made = absurd (made t refl)
select_ended items (ends.Joined ts) name place env found made = refl
select_ended items (ends.Gave v) name place env found made = refl
select_ended items (ends.Answered vs) name place env found made = refl
select_ended items (ends.Raised v at) name place env found made = refl

pub construct_ended : (r : End) (place : Place) (go : TypeId → SpecPlan)
    → ((v : Value) (at : Place) → r ≡ ends.Found v at → ⊥) → ((t : TermId) → r ≡ ends.Made t → ⊥)
    → constructed r place go ≡ Give r
construct_ended (ends.Found v at) place go found made = absurd (found v at refl)
construct_ended (ends.Made t) place go found made = absurd (made t refl)
construct_ended (ends.Joined ts) place go found made = refl
construct_ended (ends.Gave v) place go found made = refl
construct_ended (ends.Answered vs) place go found made = refl
construct_ended (ends.Raised v at) place go found made = refl

pub term_ended : (r : End) (go : TermId → SpecPlan)
    → ((v : Value) (at : Place) → r ≡ ends.Found v at → ⊥) → ((t : TermId) → r ≡ ends.Made t → ⊥)
    → as_term r go ≡ Give r
term_ended (ends.Found v at) go found made = absurd (found v at refl)
term_ended (ends.Made t) go found made = absurd (made t refl)
term_ended (ends.Joined ts) go found made = refl
term_ended (ends.Gave v) go found made = refl
term_ended (ends.Answered vs) go found made = refl
term_ended (ends.Raised v at) go found made = refl

pub terms_ended : (r : End) (ts : List TermId) (go : List TermId → SpecPlan)
    → ((v : Value) (at : Place) → r ≡ ends.Found v at → ⊥) → ((t : TermId) → r ≡ ends.Made t → ⊥)
    → as_terms r ts go ≡ Give r
terms_ended (ends.Found v at) ts go found made = absurd (found v at refl)
terms_ended (ends.Made t) ts go found made = absurd (made t refl)
terms_ended (ends.Joined us) ts go found made = refl
terms_ended (ends.Gave v) ts go found made = refl
terms_ended (ends.Answered vs) ts go found made = refl
terms_ended (ends.Raised v at) ts go found made = refl

pub block_ended : (r : End) (ts : List TermId) (go : List TermId → SpecPlan)
    → ((us : List TermId) → r ≡ ends.Joined us → ⊥) → as_statements r ts go ≡ Give r
block_ended (ends.Found v at) ts go joined = refl
block_ended (ends.Made t) ts go joined = refl
block_ended (ends.Joined us) ts go joined = absurd (joined us refl)
block_ended (ends.Gave v) ts go joined = refl
block_ended (ends.Answered vs) ts go joined = refl
block_ended (ends.Raised v at) ts go joined = refl

pub answer_ended : (r : End) (go : List Value → SpecPlan)
    → ((vs : List Value) → r ≡ ends.Answered vs → ⊥) → on_answer r go ≡ Give r
answer_ended (ends.Found v at) go answered = refl
answer_ended (ends.Made t) go answered = refl
answer_ended (ends.Joined us) go answered = refl
answer_ended (ends.Gave v) go answered = refl
answer_ended (ends.Answered vs) go answered = absurd (answered vs refl)
answer_ended (ends.Raised v at) go answered = refl

-- ---- the names of a path

no_more : (ns : List NodeId) → (length ns == 0) ≡ true → length ns ≡ 0
no_more ns e = grind (arith, nat_tests)

some_more : (ns : List NodeId) → (length ns == 0) ≡ false → 0 < length ns
some_more ns e = grind (arith, nat_tests)

pub last_names : (ns : List NodeId) (method : Option NodeId) → is_last ns method ≡ true → ns ≡ []
last_names ns None e = none_is ns (no_more ns e)
last_names ns (Some m) e = absurd (cc e)

pub last_method : (ns : List NodeId) (method : Option NodeId) → is_last ns method ≡ true → method ≡ None
last_method ns None e = refl
last_method ns (Some m) e = absurd (cc e)

pub not_last : (ns : List NodeId) (method : Option NodeId) → is_last ns method ≡ false → ns ≡ [] → method ≡ None → ⊥
not_last ns None e none nowhere = omega (arith, ap length none, some_more ns e)
not_last ns (Some m) e none nowhere = cc nowhere

pub targeted_only : (items : Items) (n : NodeId) (ns : List NodeId) (method : Option NodeId) (env : EnvId) (go : Go)
    → ns ≡ [] → method ≡ None
    → targeted items ((n ∷ ns) ++ if_any method) (is_any method) env go ≡ only_name (binder items n) (name_at items n) env go
targeted_only items n ns method env go none nowhere =
    ap (λ (l : List NodeId). targeted items ((n ∷ l) ++ if_any method) (is_any method) env go) none
    ∙ ap (λ (m : Option NodeId). targeted items (n ∷ if_any m) (is_any m) env go) nowhere

-- more names stand behind the first one
pub targeted_more : (items : Items) (n : NodeId) (ns : List NodeId) (method : Option NodeId) (env : EnvId) (go : Go)
    → (ns ≡ [] → method ≡ None → ⊥)
    → targeted items ((n ∷ ns) ++ if_any method) (is_any method) env go
    ≡ named_value (binder items n) (name_at items n) (place_at items n) env (λ object. steps items (is_any method) (ns ++ if_any method) object go)
targeted_more items n [] None env go more = absurd (more refl refl)
targeted_more items n [] (Some m) env go more = refl
targeted_more items n (m ∷ ns) None env go more = refl
targeted_more items n (m ∷ ns) (Some k) env go more = refl

pub steps_last : (items : Items) (n : NodeId) (ns : List NodeId) (method : Option NodeId) (object : Value) (go : Go)
    → ns ≡ [] → method ≡ None
    → steps items (is_any method) ((n ∷ ns) ++ if_any method) object go
    ≡ with_text_of (name_at items n) (λ name. key name object (place_at items n) go)
steps_last items n ns method object go none nowhere =
    ap (λ (l : List NodeId). steps items (is_any method) ((n ∷ l) ++ if_any method) object go) none
    ∙ ap (λ (m : Option NodeId). steps items (is_any m) (n ∷ if_any m) object go) nowhere

pub steps_more : (items : Items) (n : NodeId) (ns : List NodeId) (method : Option NodeId) (object : Value) (go : Go)
    → (ns ≡ [] → method ≡ None → ⊥)
    → steps items (is_any method) ((n ∷ ns) ++ if_any method) object go
    ≡ index object (name_at items n) (place_at items n) (λ next. steps items (is_any method) (ns ++ if_any method) next go)
steps_more items n [] None object go more = absurd (more refl refl)
steps_more items n [] (Some m) object go more = refl
steps_more items n (m ∷ ns) None object go more = refl
steps_more items n (m ∷ ns) (Some k) object go more = refl

-- ---- nodes of another kind

pub nothing_first : (items : Items) (node : Node) (item : Item) (n : NodeId) (env : EnvId)
    → item_of node ≡ item
    → ((place : Place) (x : LuaExpression) → node ≡ nodes.Expression place x → ⊥)
    → ((place : Place) (x : LuaStatement) → node ≡ nodes.Statement place x → ⊥)
    → first_of items item n env ≡ over
nothing_first items (nodes.Expression place x) item n env is a b = absurd (a place x refl)
nothing_first items (nodes.Statement place x) item n env is a b = absurd (b place x refl)
nothing_first items node item n env is a b = ap (λ (i : Item). first_of items i n env) (sym is)

pub no_value : (items : Items) (x : LuaExpression) (place : Place) (env : EnvId)
    → ((body : NodeId) → x ≡ lua_expressions.Terra body → ⊥)
    → ((ns : List NodeId) → x ≡ lua_expressions.Struct ns → ⊥)
    → ((q : NodeId) → x ≡ lua_expressions.Quote q → ⊥)
    → ((q : NodeId) → x ≡ lua_expressions.Backtick q → ⊥)
    → value_plan items x place env ≡ over
no_value items (lua_expressions.Terra body) place env a b c d = absurd (a body refl)
no_value items (lua_expressions.Struct ns) place env a b c d = absurd (b ns refl)
no_value items (lua_expressions.Quote q) place env a b c d = absurd (c q refl)
no_value items (lua_expressions.Backtick q) place env a b c d = absurd (d q refl)
no_value items x place env a b c d = refl

pub no_definition : (items : Items) (x : LuaStatement) (n : NodeId) (place : Place) (env : EnvId)
    → ((path body : NodeId) → x ≡ lua_statements.Terra path body → ⊥)
    → ((path type : NodeId) → x ≡ lua_statements.DeclareTerra path type → ⊥)
    → ((word : Place) (name body : NodeId) → x ≡ lua_statements.LocalTerra word name body → ⊥)
    → ((word : Place) (name type : NodeId) → x ≡ lua_statements.LocalDeclareTerra word name type → ⊥)
    → ((path : NodeId) (ns : List NodeId) → x ≡ lua_statements.Struct path ns → ⊥)
    → ((word : Place) (name : NodeId) (ns : List NodeId) → x ≡ lua_statements.LocalStruct word name ns → ⊥)
    → definition_plan items x n place env ≡ over
no_definition items (lua_statements.Terra path body) n place env a b c d e f = absurd (a path body refl)
no_definition items (lua_statements.DeclareTerra path type) n place env a b c d e f = absurd (b path type refl)
no_definition items (lua_statements.LocalTerra word name body) n place env a b c d e f = absurd (c word name body refl)
no_definition items (lua_statements.LocalDeclareTerra word name type) n place env a b c d e f = absurd (d word name type refl)
no_definition items (lua_statements.Struct path ns) n place env a b c d e f = absurd (e path ns refl)
no_definition items (lua_statements.LocalStruct word name ns) n place env a b c d e f = absurd (f word name ns refl)
no_definition items x n place env a b c d e f = refl
