-- Expressions of Terra code.
use Rattle.std.specs.Prelude.{ℕ, true, false, List, [], ◌∷◌, ◌++◌, nat_le, Option, Some, None, if◌then◌else◌}
use Rattle.tl_base.specs.declared.ids.EnvId.{EnvId}
use Rattle.tl_base.specs.declared.ids.NodeId.{NodeId}
use Rattle.tl_base.specs.declared.ids.TermId.{TermId}
use Rattle.tl_base.specs.declared.ids.TextId.{TextId}
use Rattle.tl_base.specs.declared.ids.TypeId.{TypeId}
use Rattle.tl_base.specs.declared.place.Place.{Place}
use Rattle.tl_base.specs.Plan.{Give, Do, AskFor, Read, Pay}
use Rattle.tl_lex.specs.Values.{value_of as literal_value}
use Rattle.tl_tree.specs.declared.node.TerraExpression.{TerraExpression}
use Rattle.tl_tree.specs.declared.node.TerraExpression.TheVariants as tree
use Rattle.tl_tree.specs.Item.{Item}
use Rattle.tl_tree.specs.Item as kept
use Rattle.tl_tree.specs.Numbers.{value_of as written_value}
use Rattle.lua_value.specs.declared.value.Value.{Value}
use Rattle.lua_value.specs.declared.value.Value.TheVariants as values
use Rattle.tl_tree.specs.Code.{Items, name_at, place_at}
use Rattle.tl_tree.specs.Scopes.{Found as Declared, binder}
use Rattle.lua_table.specs.Cells.{local_value}
use Rattle.lua_model.specs.Fields.{globals}
use Rattle.terra_types.specs.Making.{same_type}
use Rattle.terra_types.specs.Opening.{int64, uint64}
use Rattle.terra_term.specs.declared.store.Quote.{Quote}
use Rattle.terra_term.specs.declared.store.Quote.TheVariants as quotes
use Rattle.terra_term.specs.declared.term.Expression.TheVariants as e
use Rattle.terra_term.specs.declared.term.Initialiser.TheVariants as initialisers
use Rattle.exotype.specs.declared.fault.Fault.TheVariants as faults
use Rattle.spec_model.specs.Making.{quote_at, type_at}
use Rattle.spec_model.specs.declared.end.End.{End}
use Rattle.spec_model.specs.declared.end.End.TheVariants.{Found, Made}
use Rattle.spec_model.specs.declared.job.Job.TheVariants as jobs
use Rattle.spec_model.specs.declared.question.SpecQuestion.TheVariants as questions
use Rattle.spec_model.specs.Nodes.{Initial, initial_at, are_named, operator_of, unary_of, numeral_type}
use Rattle.spec_model.specs.Plans.{SpecPlan, with_text_of, raise, eval, on_value, index, make, literal, one, as_term, term, terms_of}
use Rattle.spec_model.specs.Names.{member, naming}
use Rattle.spec_model.specs.Types.{as_type}

-- ---- names

abbrev pub found : Place → Value → SpecPlan
found place v = Give (Found v place)

-- the value of a name at this moment: a local's, or what stands under it in the globals
abbrev pub named_value : Option Declared → List ℕ → Place → EnvId → (Value → SpecPlan) → SpecPlan
named_value (Some declared) name place env go = Read (λ w. go (local_value w.heap env declared.depth declared.position))
named_value None name place env go = index (values.Table globals) name place go

-- ---- selection

abbrev pub select_term : Items → TermId → NodeId → Place → EnvId → SpecPlan
select_term items object name place env = member items name env (λ field. naming field (make place (e.Select object field)))

-- A table before the `.` is read at once. Any other value becomes a term before the name's escape is evaluated.
abbrev pub select_from : Items → Value → Place → NodeId → Place → EnvId → SpecPlan
select_from items (values.Table t) at name place env =
    member items name env (λ field. AskFor (questions.Index (values.Table t) field place) (λ a. on_value a (found place)))
select_from items v at name place env = one v at (λ object. select_term items object name place env)

abbrev pub select : Items → End → NodeId → Place → EnvId → SpecPlan
select items (Found v at) name place env = select_from items v at name place env
select items r name place env = as_term r (λ object. select_term items object name place env)

-- ---- constructors

abbrev pub or_no_type : Option TypeId → Place → (TypeId → SpecPlan) → SpecPlan
or_no_type (Some t) place go = go t
or_no_type None place go = raise place faults.NotAType

-- the type of a quote whose term is a type: it is spliced, which its one node pays for
abbrev pub spliced_type : Option TypeId → Place → (TypeId → SpecPlan) → SpecPlan
spliced_type (Some t) place go = Pay 1 (go t)
spliced_type None place go = raise place faults.NotAType

abbrev pub quoted_type : Option Quote → Place → (TypeId → SpecPlan) → SpecPlan
quoted_type (Some (quotes.Expression t)) place go = Read (λ w. spliced_type (type_at w t) place go)
quoted_type q place go = raise place faults.NotAType

abbrev pub type_from : Value → Place → (TypeId → SpecPlan) → SpecPlan
type_from (values.Quote q) place go = Read (λ w. quoted_type (quote_at w q) place go)
type_from v place go = as_type v place go

-- what stands before a constructor's initialisers, at this place
abbrev pub constructed : End → Place → (TypeId → SpecPlan) → SpecPlan
constructed (Found v at) place go = type_from v place go
constructed (Made t) place go = Read (λ w. or_no_type (type_at w t) place go)
constructed r place go = Give r

abbrev pub Initials : Type 0
Initials = List TextId → List TermId → SpecPlan

-- no initialiser is without a name where the first one has one
abbrev pub named_initial : Items → Option Initial → EnvId → List TextId → List TermId → Initials → SpecPlan
named_initial items (Some i) env names ts go =
    term i.value env (λ t. with_text_of (name_at items i.name) (λ name. naming name (go (names ++ name ∷ []) (ts ++ t ∷ []))))
named_initial items None env names ts go = go names ts

abbrev pub named_initials : Items → List NodeId → EnvId → List TextId → List TermId → Initials → SpecPlan
named_initials items [] env names ts go = go names ts
named_initials items (n ∷ ns) env names ts go =
    named_initial items (initial_at items n) env names ts (λ more others. named_initials items ns env more others go)

abbrev pub construct : Items → TypeId → List NodeId → Place → EnvId → SpecPlan
construct items of ns place env =
    if are_named items ns then named_initials items ns env [] [] (λ names ts. make place (e.New of (initialisers.Named names ts)))
    else terms_of ns env [] (λ ts. make place (e.New of (initialisers.Positional ts)))

-- ---- nodes

abbrev pub expression_of : Items → TerraExpression → Place → EnvId → SpecPlan
expression_of items tree.Nil place env = make place e.Nil
expression_of items tree.False place env = make place (e.Truth false)
expression_of items tree.True place env = make place (e.Truth true)
expression_of items (tree.Binary op a b) place env = term a env (λ x. term b env (λ y. make place (e.Binary (operator_of op) x y)))
expression_of items (tree.Unary op a) place env = term a env (λ x. make place (e.Unary (unary_of op) x))
expression_of items (tree.Paren a) place env = term a env (λ x. Give (Made x))
expression_of items (tree.Escape a) place env = eval a env (found place)
expression_of items (tree.Index a key) place env = term a env (λ x. term key env (λ y. make place (e.Index x y)))
expression_of items (tree.Select a name) place env = Do (jobs.Expression a env) (λ r. select items r name place env)
expression_of items (tree.Call f arguments) place env =
    term f env (λ callee. terms_of arguments env [] (λ ts. make place (e.Call callee ts)))
expression_of items (tree.Method a name arguments) place env =
    term a env (λ object. member items name env (λ method.
    terms_of arguments env [] (λ ts. naming method (make place (e.Method object method ts)))))
expression_of items (tree.Construct a ns) place env =
    Do (jobs.Expression a env) (λ r. constructed r (place_at items a) (λ of. construct items of ns place env))

-- the largest numeral of a type: an int64, a uint64, or else an int32
abbrev pub largest_of : TypeId → ℕ
largest_of t =
    if same_type t uint64 then 18446744073709551615 else (if same_type t int64 then 9223372036854775807 else 2147483647)

-- A numeral of a source is no larger than its type allows. What is larger is none, and stands for zero.
abbrev pub numeral_value : List ℕ → ℕ
numeral_value digits = if nat_le (written_value digits) (largest_of (numeral_type digits)) then written_value digits else 0

-- What is no expression is nil.
abbrev pub expression_plan : Items → Item → NodeId → EnvId → SpecPlan
expression_plan items (kept.Name place offset name) n env = named_value (binder items n) name place env (found place)
expression_plan items (kept.Numeral place digits) n env = make place (e.Number (numeral_value digits) (numeral_type digits))
expression_plan items (kept.Literal place written) n env = literal (literal_value written) place (λ t. Give (Made t))
expression_plan items (kept.TerraExpression place x) n env = expression_of items x place env
expression_plan items item n env = make (place_at items n) e.Nil
