-- Nodes of a typed term that are to be gone through, the next one last, and what they mention: a view of the code, which private contracts
-- cite.
use Rattle.std.specs.Prelude.{ℕ, Bool, true, false, List, [], ◌∷◌, ◌++◌, take, slice_get}
use Rattle.tl_base.specs.declared.place.Place.{Place}
use Rattle.tl_base.specs.declared.ids.FnId.{FnId}
use Rattle.tl_base.specs.declared.ids.TermId.{TermId}
use Rattle.terra_term.specs.declared.typed.TypedExpression.{TypedExpression}
use Rattle.terra_term.specs.declared.typed.TypedExpression.TheVariants as te
use Rattle.terra_term.specs.declared.typed.TypedStatement.{TypedStatement}
use Rattle.terra_term.specs.declared.operators.Operation.TheVariants as operations
use Rattle.terra_term.specs.declared.operators.Constant.TheVariants as constants
use Rattle.terra_term.specs.declared.typed.Typed.TheVariants as typed_kinds
use Rattle.terra_term.specs.Planted.{nowhere, typed_at, typed_doing_in, typed_trees, typed_planted}
use Rattle.terra_term.specs.TypedTerms as typed
use Rattle.terra_term.specs.Events.{events_of, doing_events, mentions_in}
use Rattle.exotype.specs.World.{StageState}
use Rattle.check_flow.specs.declared.mentions.Part.{Part}

abbrev pub Mentions : Type 0
Mentions = List (Place × FnId)

-- the trees of the nodes before a number
abbrev pub trees_below : StageState → ℕ → List typed.Item
trees_below w below = take below (typed_trees w.store.typed)

abbrev pub expression_mentions : StageState → ℕ → TermId → Mentions
expression_mentions w below t = mentions_in (events_of (typed_at (trees_below w below) t))

abbrev pub statement_mentions : StageState → ℕ → TermId → Mentions
statement_mentions w below t = mentions_in (doing_events (typed_doing_in (slice_get (trees_below w below) t.0)))

abbrev pub mentions_as : Bool → StageState → ℕ → TermId → Mentions
mentions_as true w below t = statement_mentions w below t
mentions_as false w below t = expression_mentions w below t

abbrev pub part_mentions : StageState → Part → Mentions
part_mentions w p = mentions_as p.is_statement w p.below p.term

abbrev pub parts_mentions : StageState → List Part → Mentions
parts_mentions w [] = []
parts_mentions w (p ∷ ps) = parts_mentions w ps ++ part_mentions w p

-- those of nodes in a row
abbrev pub all_mentions : Bool → StageState → ℕ → List TermId → Mentions
all_mentions is_statement w below [] = []
all_mentions is_statement w below (t ∷ ts) = mentions_as is_statement w below t ++ all_mentions is_statement w below ts

abbrev pub item_mentions : typed.Item → Mentions
item_mentions (typed.expression x) = mentions_in (events_of x)
item_mentions (typed.doing x) = mentions_in (doing_events x)
item_mentions _ = []

-- those of a node's own tree, among the nodes before it
abbrev pub form_mentions : StageState → Place → (below : ℕ) → TypedExpression → Mentions
form_mentions w at below form = item_mentions (typed_planted (trees_below w below) (typed_kinds.Expression at (record { 0 = 0 }) form))

abbrev pub doing_mentions : StageState → (below : ℕ) → TypedStatement → Mentions
doing_mentions w below doing = item_mentions (typed_planted (trees_below w below) (typed_kinds.Statement nowhere doing))

-- the function that an expression itself mentions
abbrev pub own_mention : Place → TypedExpression → Mentions
own_mention at (te.Operate (operations.Call f) es) = (at, f) ∷ []
own_mention at (te.Constant (constants.FnValue f)) = (at, f) ∷ []
own_mention at _ = []
