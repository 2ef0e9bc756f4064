-- What a walk through a typed quote has ahead, and what that does with names: a view of the code, which private contracts cite.
use Rattle.std.specs.Prelude.{ℕ, Bool, true, false, List, [], ◌∷◌, ◌++◌, take, reverse, Option, slice_get}
use Rattle.tl_base.specs.declared.place.Place.{Place}
use Rattle.tl_base.specs.declared.ids.SymId.{SymId}
use Rattle.tl_base.specs.declared.ids.TermId.{TermId}
use Rattle.tl_base.specs.declared.ids.TypeId.{TypeId}
use Rattle.terra_term.specs.declared.refusal.RefusalKind.{RefusalKind}
use Rattle.terra_term.specs.declared.typed.TypedExpression.{TypedExpression}
use Rattle.terra_term.specs.declared.typed.TypedStatement.{TypedStatement}
use Rattle.terra_term.specs.declared.typed.Typed.TheVariants as typed_kinds
use Rattle.terra_term.specs.Planted.{typed_in, typed_doing_in, typed_trees, typed_planted}
use Rattle.terra_term.specs.TypedTerms as typed
use Rattle.terra_term.specs.Events.{Event, Opens, Closes, Declares, Takes, Uses, Mentions, events_of, doing_events}
use Rattle.exotype.specs.World.{StageState}
use Rattle.check_model.specs.Expressions.{wrong_in}
use Rattle.check_model.specs.Typing.{TypingState}
use Rattle.check_expr.specs.declared.quoted.Part.{Part}
use Rattle.check_expr.specs.declared.quoted.Ahead as ahead
use Rattle.check_expr.specs.declared.quoted.Ahead.TheVariants as aheads
use Rattle.check_expr.specs.declared.quoted.Scopes.{Scopes}

-- scopes, declarations and uses alone
abbrev pub names_in : List Event → List Event
names_in [] = []
names_in (Opens ∷ es) = Opens ∷ names_in es
names_in (Closes ∷ es) = Closes ∷ names_in es
names_in (Declares x of ∷ es) = Declares x of ∷ names_in es
names_in (Uses at x of ∷ es) = Uses at x of ∷ names_in es
names_in (Takes x ∷ es) = names_in es
names_in (Mentions at f ∷ es) = names_in es

-- what a tree does with names, as a statement or as an expression
abbrev pub item_names : Bool → Option typed.Item → List Event
item_names true item = names_in (doing_events (typed_doing_in item))
item_names false item = names_in (events_of (typed_in item))

-- the trees of the nodes before a number
abbrev pub trees_below : StageState → ℕ → List typed.Item
trees_below w below = take below (typed_trees w.store.typed)

abbrev pub names_as : Bool → StageState → ℕ → TermId → List Event
names_as is_statement w below t = item_names is_statement (slice_get (trees_below w below) t.0)

abbrev pub expression_names : StageState → ℕ → TermId → List Event
expression_names w below t = names_as false w below t

abbrev pub part_names : StageState → Part → List Event
part_names w p = names_as p.is_statement w p.below p.term

abbrev pub ahead_names : StageState → ahead.Ahead → List Event
ahead_names w (aheads.Part p) = part_names w p
ahead_names w aheads.Opens = Opens ∷ []
ahead_names w aheads.Closes = Closes ∷ []
ahead_names w (aheads.Declares name) = Declares name.symbol name.of ∷ []
ahead_names w (aheads.Uses at x of) = Uses at x of ∷ []

-- the next one is the last
abbrev pub names_ahead : StageState → List ahead.Ahead → List Event
names_ahead w [] = []
names_ahead w (a ∷ rest) = names_ahead w rest ++ ahead_names w a

-- those of nodes in a row
abbrev pub all_names : Bool → StageState → ℕ → List TermId → List Event
all_names is_statement w below [] = []
all_names is_statement w below (t ∷ ts) = names_as is_statement w below t ++ all_names is_statement w below ts

abbrev pub tree_names : typed.Item → List Event
tree_names (typed.expression x) = names_in (events_of x)
tree_names (typed.doing x) = names_in (doing_events x)
tree_names _ = []

-- those of a node's own tree, among the nodes before it
abbrev pub form_names : StageState → Place → TypeId → (below : ℕ) → TypedExpression → List Event
form_names w at of below form = tree_names (typed_planted (trees_below w below) (typed_kinds.Expression at of form))

abbrev pub doing_names : StageState → Place → (below : ℕ) → TypedStatement → List Event
doing_names w at below doing = tree_names (typed_planted (trees_below w below) (typed_kinds.Statement at doing))

-- the symbols that are declared, the innermost first
abbrev pub own_in : Scopes → List SymId
own_in s = reverse s.declared.items

-- the first wrong use from here on
abbrev pub wrong_from : TypingState → ℕ → Scopes → List Event → Option (RefusalKind × Place)
wrong_from w base s es = wrong_in w base (own_in s) (reverse s.marks.items) es
