-- What a walk has ahead, one more of it, and a node that is gone through.
use Rattle.std.proofs.Common.{◌≡◌, ℕ, ◌+◌, ◌<◌, ◌≤◌, Bool, true, false, List, [], ◌∷◌, ◌++◌, length, drop, get_or, refl, sym, ap, ◌∙◌}
use Rattle.std.proofs.Common.{Option, Some, None, slice_get}
use Rattle.std.proofs.lemmas.List.{append-nil, append_assoc, at_drop_more}
use Rattle.std.specs.Prelude.{option_map}
use Rattle.tl_base.specs.declared.place.Place.{Place}
use Rattle.tl_base.specs.declared.ids.TermId.{TermId}
use Rattle.tl_base.specs.declared.ids.TypeId.{TypeId}
use Rattle.terra_term.specs.declared.lists.TypedName.{TypedName}
use Rattle.terra_term.specs.declared.typed.Typed.{Typed}
use Rattle.terra_term.specs.declared.typed.Typed.TheVariants as typed_kinds
use Rattle.terra_term.specs.declared.typed.TypedExpression.{TypedExpression}
use Rattle.terra_term.specs.declared.typed.TypedStatement.{TypedStatement}
use Rattle.terra_term.specs.Events.{Event, Declares, declares_all}
use Rattle.terra_term.specs.Planted.{typed_planted, typed_trees}
use Rattle.terra_term.specs.TypedTerms.{Item}
use Rattle.terra_term.proofs.Trees.{grown-get, get-take, get-past}
use Rattle.exotype.specs.World.{StageState}
use Rattle.check_expr.specs.declared.quoted.Part.{Part}
use Rattle.check_expr.specs.declared.quoted.Ahead as ahead
use Rattle.check_expr.specs.declared.quoted.Ahead.TheVariants as aheads
use Rattle.check_expr.specs.Quoted.{names_ahead, ahead_names, all_names, names_as, part_names, item_names, form_names, doing_names}
use Rattle.check_expr.specs.Quoted.{trees_below}

-- the last one is the next
pub ahead_more : (w : StageState) (before : List ahead.Ahead) (a : ahead.Ahead)
    → names_ahead w (before ++ a ∷ []) ≡ ahead_names w a ++ names_ahead w before
ahead_more w [] a = sym (append-nil (ahead_names w a))
ahead_more w (b ∷ before) a =
    ap (λ (ns : List Event). ns ++ ahead_names w b) (ahead_more w before a)
    ∙ append_assoc (ahead_names w a) (names_ahead w before) (ahead_names w b)

-- nodes in a row are put there from the last one on
pub all_more : (w : StageState) (is_statement : Bool) (below : ℕ) (ts : List TermId) (k j : ℕ) (d : TermId) (before : List ahead.Ahead)
    (old : List Event)
    → j ≡ k + 1 → k < length ts → names_ahead w before ≡ all_names is_statement w below (drop j ts) ++ old
    → names_ahead w (before ++ aheads.Part (record { term = get_or ts k d; below = below; is_statement = is_statement }) ∷ [])
    ≡ all_names is_statement w below (drop k ts) ++ old
all_more w is_statement below ts k j d before old next within so_far =
    let t = get_or ts k d in
    let all : List TermId → List Event = all_names is_statement w below in
    let own = names_as is_statement w below t in
    ahead_more w before (aheads.Part (record { term = t; below = below; is_statement = is_statement }))
    ∙ ap (λ (ns : List Event). own ++ ns) (so_far ∙ ap (λ (i : ℕ). all (drop i ts) ++ old) next)
    ∙ sym (append_assoc own (all (drop (k + 1) ts)) old)
    ∙ ap (λ (ns : List Event). ns ++ old) (sym (at_drop_more all ts k d within))

-- so are declarations
pub names_more : (w : StageState) (names : List TypedName) (k j : ℕ) (d : TypedName) (before : List ahead.Ahead) (old : List Event)
    → j ≡ k + 1 → k < length names → names_ahead w before ≡ declares_all (drop j names) ++ old
    → names_ahead w (before ++ aheads.Declares (get_or names k d) ∷ []) ≡ declares_all (drop k names) ++ old
names_more w names k j d before old next within so_far =
    let name = get_or names k d in
    let own = Declares name.symbol name.of ∷ [] in
    ahead_more w before (aheads.Declares name)
    ∙ ap (λ (ns : List Event). own ++ ns) (so_far ∙ ap (λ (i : ℕ). declares_all (drop i names) ++ old) next)
    ∙ sym (append_assoc own (declares_all (drop (k + 1) names)) old)
    ∙ ap (λ (ns : List Event). ns ++ old) (sym (at_drop_more declares_all names k d within))

-- ---- nodes

-- what is at a number, as an expression or as a statement
pub node_names : (w : StageState) (is_statement : Bool) (i : ℕ) (x : Option Typed) → x ≡ slice_get w.store.typed i
    → item_names is_statement (slice_get (typed_trees w.store.typed) i)
    ≡ item_names is_statement (option_map (typed_planted (trees_below w i)) x)
node_names w is_statement i x is =
    ap (item_names is_statement)
    (grown-get typed_planted w.store.typed i ∙ ap (λ (y : Option Typed). option_map (typed_planted (trees_below w i)) y) (sym is))

-- a node that is there, where the world is known by its parts
pub node_there : (v w : StageState) (i : ℕ) (b x : Typed)
    → v ≡ w → b ≡ x → Some b ≡ slice_get v.store.typed i → Some x ≡ slice_get w.store.typed i
node_there v w i b x same is at =
    ap (λ (y : Typed). Some y) (sym is) ∙ at ∙ ap (λ (u : StageState). slice_get u.store.typed i) same

pub node_absent : (v w : StageState) (i : ℕ) → v ≡ w → None ≡ slice_get v.store.typed i → None ≡ slice_get w.store.typed i
node_absent v w i same at = at ∙ ap (λ (u : StageState). slice_get u.store.typed i) same

-- ---- what there is nothing to go through in

none_named : (c : Bool) → item_names c None ≡ []
none_named true = refl
none_named false = refl

pub absent_names : (w : StageState) (c : Bool) (i : ℕ) → None ≡ slice_get w.store.typed i
    → item_names c (slice_get (typed_trees w.store.typed) i) ≡ []
absent_names w c i is = node_names w c i None is ∙ none_named c

function_named : (c : Bool) (trees : List Item) (names : List TypedName) (t : TypeId) (body : List TermId)
    → item_names c (Some (typed_planted trees (typed_kinds.Function names t body))) ≡ []
function_named true trees names t body = refl
function_named false trees names t body = refl

pub function_names : (w : StageState) (c : Bool) (i : ℕ) (names : List TypedName) (t : TypeId) (body : List TermId)
    → Some (typed_kinds.Function names t body) ≡ slice_get w.store.typed i → item_names c (slice_get (typed_trees w.store.typed) i) ≡ []
function_names w c i names t body is =
    node_names w c i (Some (typed_kinds.Function names t body)) is ∙ function_named c (trees_below w i) names t body

-- an expression where a statement is to be, and a statement where an expression is to be
pub misplaced_expression : (w : StageState) (c : Bool) (i : ℕ) (at : Place) (of : TypeId) (form : TypedExpression)
    → c ≡ true → Some (typed_kinds.Expression at of form) ≡ slice_get w.store.typed i
    → item_names c (slice_get (typed_trees w.store.typed) i) ≡ []
misplaced_expression w c i at of form it is =
    node_names w c i (Some (typed_kinds.Expression at of form)) is
    ∙ ap (λ (b : Bool). item_names b (Some (typed_planted (trees_below w i) (typed_kinds.Expression at of form)))) it

pub misplaced_statement : (w : StageState) (c : Bool) (i : ℕ) (at : Place) (doing : TypedStatement)
    → c ≡ false → Some (typed_kinds.Statement at doing) ≡ slice_get w.store.typed i
    → item_names c (slice_get (typed_trees w.store.typed) i) ≡ []
misplaced_statement w c i at doing it is =
    node_names w c i (Some (typed_kinds.Statement at doing)) is
    ∙ ap (λ (b : Bool). item_names b (Some (typed_planted (trees_below w i) (typed_kinds.Statement at doing)))) it

-- ---- what is gone through

before_old : (new them these old : List Event) → these ≡ them → new ≡ them ++ old → new ≡ these ++ old
before_old new them these old is so_far = so_far ∙ ap (λ (ns : List Event). ns ++ old) (sym is)

pub expression_gone : (w : StageState) (c : Bool) (i : ℕ) (at : Place) (of : TypeId) (form : TypedExpression) (new old : List Event)
    → c ≡ false → Some (typed_kinds.Expression at of form) ≡ slice_get w.store.typed i → new ≡ form_names w at of i form ++ old
    → new ≡ item_names c (slice_get (typed_trees w.store.typed) i) ++ old
expression_gone w c i at of form new old it is parts =
    before_old new (form_names w at of i form) (item_names c (slice_get (typed_trees w.store.typed) i)) old
    (node_names w c i (Some (typed_kinds.Expression at of form)) is
    ∙ ap (λ (b : Bool). item_names b (Some (typed_planted (trees_below w i) (typed_kinds.Expression at of form)))) it)
    parts

pub statement_gone : (w : StageState) (c : Bool) (i : ℕ) (at : Place) (doing : TypedStatement) (new old : List Event)
    → c ≡ true → Some (typed_kinds.Statement at doing) ≡ slice_get w.store.typed i → new ≡ doing_names w at i doing ++ old
    → new ≡ item_names c (slice_get (typed_trees w.store.typed) i) ++ old
statement_gone w c i at doing new old it is parts =
    before_old new (doing_names w at i doing) (item_names c (slice_get (typed_trees w.store.typed) i)) old
    (node_names w c i (Some (typed_kinds.Statement at doing)) is
    ∙ ap (λ (b : Bool). item_names b (Some (typed_planted (trees_below w i) (typed_kinds.Statement at doing)))) it)
    parts

-- a node among those before a number, and one past it
pub part_under : (w : StageState) (p : Part) (new old : List Event)
    → p.term.0 < p.below → new ≡ item_names p.is_statement (slice_get (typed_trees w.store.typed) p.term.0) ++ old
    → new ≡ part_names w p ++ old
part_under w p new old under is =
    before_old new (item_names p.is_statement (slice_get (typed_trees w.store.typed) p.term.0)) (part_names w p) old
    (ap (item_names p.is_statement) (get-take (typed_trees w.store.typed) p.below p.term.0 under)) is

pub part_past : (w : StageState) (p : Part) (old : List Event) → p.below ≤ p.term.0 → old ≡ part_names w p ++ old
part_past w p old past =
    ap (λ (ns : List Event). ns ++ old)
    (sym (ap (item_names p.is_statement) (get-past (typed_trees w.store.typed) p.below p.term.0 past) ∙ none_named p.is_statement))
