-- A node that is gone through: what it mentions is what its tree does, and that comes behind the queue.
use Rattle.std.proofs.Common.{◌≡◌, ℕ, ◌<◌, Bool, true, false, List, [], ◌++◌, refl, sym, ap, ◌∙◌, not, Option, Some, None, slice_get}
use Rattle.std.specs.Prelude.{option_map}
use Rattle.tl_base.specs.declared.place.Place.{Place}
use Rattle.tl_base.specs.declared.ids.FnId.{FnId}
use Rattle.tl_base.specs.declared.ids.TermId.{TermId}
use Rattle.tl_base.specs.declared.ids.TypeId.{TypeId}
use Rattle.terra_term.specs.declared.lists.TypedName.{TypedName}
use Rattle.terra_term.specs.declared.typed.Typed.{Typed}
use Rattle.terra_term.specs.declared.typed.Typed.TheVariants as typed_kinds
use Rattle.terra_term.specs.declared.typed.TypedExpression.{TypedExpression}
use Rattle.terra_term.specs.declared.typed.TypedExpression.TheVariants as te
use Rattle.terra_term.specs.declared.typed.TypedStatement.{TypedStatement}
use Rattle.terra_term.specs.declared.typed.TypedStatement.TheVariants as ts
use Rattle.terra_term.specs.TypedTerms.{Item}
use Rattle.terra_term.specs.Planted.{typed_in, typed_doing_in, typed_block_at, typed_planted, typed_trees, nowhere}
use Rattle.terra_term.specs.Events.{events_of, doing_events, block_events, declares_all, mentions_in}
use Rattle.exotype.specs.World.{StageState}
use Rattle.check_model.specs.declared.job.Reached.{Reached}
use Rattle.check_model.specs.Checks.{with_mentions, mentions_of}
use Rattle.check_flow.specs.declared.mentions.Part.{Part}
use Rattle.check_flow.specs.Parts.{Mentions, trees_below, item_mentions, mentions_as, all_mentions, part_mentions, form_mentions}
use Rattle.check_flow.specs.Parts.{doing_mentions, own_mention}
use Rattle.check_flow.proofs.Nodes.{tree_at, tree_below}
use Rattle.check_flow.proofs.Events.{with_both, in_both, in_declared, in_block}

-- the type of an expression mentions nothing
of_any_type : (trees : List Item) (at : Place) (t u : TypeId) (form : TypedExpression)
    → item_mentions (typed_planted trees (typed_kinds.Expression at t form)) ≡ item_mentions (typed_planted trees (typed_kinds.Expression at u form))
of_any_type trees at t u (te.Constant c) = refl
of_any_type trees at t u (te.Variable x) = refl
of_any_type trees at t u (te.Global a) = refl
of_any_type trees at t u (te.Operate op es) = refl
of_any_type trees at t u (te.Both a b) = refl
of_any_type trees at t u (te.Either a b) = refl
of_any_type trees at t u (te.Dereference p) = refl
of_any_type trees at t u (te.Select offset e) = refl
of_any_type trees at t u (te.Follow offset p) = refl
of_any_type trees at t u (te.Element a i) = refl
of_any_type trees at t u (te.Index p i) = refl
of_any_type trees at t u (te.Address e) = refl
of_any_type trees at t u (te.Decay a) = refl
of_any_type trees at t u (te.Let block e) = refl

-- nor does the place of a statement
at_any_place : (trees : List Item) (at there : Place) (doing : TypedStatement)
    → item_mentions (typed_planted trees (typed_kinds.Statement at doing)) ≡ item_mentions (typed_planted trees (typed_kinds.Statement there doing))
at_any_place trees at there (ts.Var names values) = refl
at_any_place trees at there (ts.Assign targets values) = refl
at_any_place trees at there (ts.If test block None) = refl
at_any_place trees at there (ts.If test block (Some others)) = refl
at_any_place trees at there (ts.While test block) = refl
at_any_place trees at there (ts.Repeat block test) = refl
at_any_place trees at there (ts.For name bounds block) = refl
at_any_place trees at there (ts.Do block) = refl
at_any_place trees at there ts.Break = refl
at_any_place trees at there (ts.Return None) = refl
at_any_place trees at there (ts.Return (Some e)) = refl
at_any_place trees at there (ts.Perform e) = refl

-- what an item mentions as an expression, and as a statement
abbrev mentions_as_item : Bool → Option Item → Mentions
mentions_as_item true item = mentions_in (doing_events (typed_doing_in item))
mentions_as_item false item = mentions_in (events_of (typed_in item))

as_item : (c : Bool) (w : StageState) (below : ℕ) (t : TermId) → mentions_as c w below t ≡ mentions_as_item c (slice_get (trees_below w below) t.0)
as_item true w below t = refl
as_item false w below t = refl

-- what is at a number, as an expression or as a statement
found : (w : StageState) (part : Part) (x : Option Typed) → part.term.0 < part.below → x ≡ slice_get w.store.typed part.term.0
    → part_mentions w part ≡ mentions_as_item part.is_statement (option_map (typed_planted (trees_below w part.term.0)) x)
found w part x under is =
    as_item part.is_statement w part.below part.term
    ∙ ap (mentions_as_item part.is_statement) (tree_below w.store.typed part.below part.term.0 x under is)

-- a node that is there, where the world is known by its parts
pub node_there : (v w : StageState) (i : ℕ) (b x : Typed) → v ≡ w → b ≡ x → Some b ≡ slice_get v.store.typed i → Some x ≡ slice_get w.store.typed i
node_there v w i b x same is at =
    ap (λ (y : Typed). Some y) (sym is) ∙ at ∙ ap (λ (u : StageState). slice_get u.store.typed i) same

pub node_absent : (v w : StageState) (i : ℕ) → v ≡ w → None ≡ slice_get v.store.typed i → None ≡ slice_get w.store.typed i
node_absent v w i same at = at ∙ ap (λ (u : StageState). slice_get u.store.typed i) same

pub from_not : (b c : Bool) → not b ≡ c → b ≡ not c
from_not true c is = ap not is
from_not false c is = ap not is

-- ---- what there is nothing to go through in

none_mentioned : (c : Bool) → mentions_as_item c None ≡ []
none_mentioned true = refl
none_mentioned false = refl

pub absent_mentions : (w : StageState) (part : Part) → part.term.0 < part.below → None ≡ slice_get w.store.typed part.term.0 → part_mentions w part ≡ []
absent_mentions w part under is = found w part None under is ∙ none_mentioned part.is_statement

function_mentioned : (c : Bool) (trees : List Item) (names : List TypedName) (t : TypeId) (body : List TermId)
    → mentions_as_item c (Some (typed_planted trees (typed_kinds.Function names t body))) ≡ []
function_mentioned true trees names t body = refl
function_mentioned false trees names t body = refl

pub function_mentions : (w : StageState) (part : Part) (names : List TypedName) (t : TypeId) (body : List TermId)
    → part.term.0 < part.below → Some (typed_kinds.Function names t body) ≡ slice_get w.store.typed part.term.0 → part_mentions w part ≡ []
function_mentions w part names t body under is =
    found w part (Some (typed_kinds.Function names t body)) under is
    ∙ function_mentioned part.is_statement (trees_below w part.term.0) names t body

-- an expression where a statement is to be, and a statement where an expression is to be
pub misplaced_expression : (w : StageState) (part : Part) (at : Place) (t : TypeId) (form : TypedExpression)
    → part.is_statement ≡ true → part.term.0 < part.below → Some (typed_kinds.Expression at t form) ≡ slice_get w.store.typed part.term.0
    → part_mentions w part ≡ []
misplaced_expression w part at t form it under is =
    found w part (Some (typed_kinds.Expression at t form)) under is
    ∙ ap (λ (c : Bool). mentions_as_item c (Some (typed_planted (trees_below w part.term.0) (typed_kinds.Expression at t form)))) it

pub misplaced_statement : (w : StageState) (part : Part) (at : Place) (doing : TypedStatement)
    → part.is_statement ≡ false → part.term.0 < part.below → Some (typed_kinds.Statement at doing) ≡ slice_get w.store.typed part.term.0
    → part_mentions w part ≡ []
misplaced_statement w part at doing it under is =
    found w part (Some (typed_kinds.Statement at doing)) under is
    ∙ ap (λ (c : Bool). mentions_as_item c (Some (typed_planted (trees_below w part.term.0) (typed_kinds.Statement at doing)))) it

-- ---- what is gone through

expression_mentions : (w : StageState) (part : Part) (at : Place) (t : TypeId) (form : TypedExpression)
    → part.is_statement ≡ false → part.term.0 < part.below → Some (typed_kinds.Expression at t form) ≡ slice_get w.store.typed part.term.0
    → part_mentions w part ≡ form_mentions w at part.term.0 form
expression_mentions w part at t form it under is =
    found w part (Some (typed_kinds.Expression at t form)) under is
    ∙ ap (λ (c : Bool). mentions_as_item c (Some (typed_planted (trees_below w part.term.0) (typed_kinds.Expression at t form)))) it
    ∙ of_any_type (trees_below w part.term.0) at t (record { 0 = 0 }) form

statement_mentions : (w : StageState) (part : Part) (at : Place) (doing : TypedStatement)
    → part.is_statement ≡ true → part.term.0 < part.below → Some (typed_kinds.Statement at doing) ≡ slice_get w.store.typed part.term.0
    → part_mentions w part ≡ doing_mentions w part.term.0 doing
statement_mentions w part at doing it under is =
    found w part (Some (typed_kinds.Statement at doing)) under is
    ∙ ap (λ (c : Bool). mentions_as_item c (Some (typed_planted (trees_below w part.term.0) (typed_kinds.Statement at doing)))) it
    ∙ at_any_place (trees_below w part.term.0) at nowhere doing

pub expression_gone : (w : StageState) (part : Part) (at : Place) (t : TypeId) (form : TypedExpression) (queue queue2 : List Reached) (by : FnId)
    (new old : Mentions)
    → part.is_statement ≡ false → part.term.0 < part.below → Some (typed_kinds.Expression at t form) ≡ slice_get w.store.typed part.term.0
    → queue2 ≡ with_mentions queue by (own_mention at form) → own_mention at form ++ new ≡ form_mentions w at part.term.0 form ++ old
    → with_mentions queue2 by new ≡ with_mentions queue by (part_mentions w part ++ old)
expression_gone w part at t form queue queue2 by new old it under is own parts =
    ap (λ (q : List Reached). with_mentions q by new) own
    ∙ sym (with_both queue by (own_mention at form) new)
    ∙ ap (with_mentions queue by) (parts ∙ ap (λ (ms : Mentions). ms ++ old) (sym (expression_mentions w part at t form it under is)))

pub statement_gone : (w : StageState) (part : Part) (at : Place) (doing : TypedStatement) (queue : List Reached) (by : FnId) (new old : Mentions)
    → part.is_statement ≡ true → part.term.0 < part.below → Some (typed_kinds.Statement at doing) ≡ slice_get w.store.typed part.term.0
    → new ≡ doing_mentions w part.term.0 doing ++ old
    → with_mentions queue by new ≡ with_mentions queue by (part_mentions w part ++ old)
statement_gone w part at doing queue by new old it under is parts =
    ap (with_mentions queue by) (parts ∙ ap (λ (ms : Mentions). ms ++ old) (sym (statement_mentions w part at doing it under is)))

-- where there is nothing
pub none_gone : (w : StageState) (part : Part) (queue : List Reached) (by : FnId) (old : Mentions)
    → part_mentions w part ≡ [] → with_mentions queue by old ≡ with_mentions queue by (part_mentions w part ++ old)
none_gone w part queue by old none = ap (λ (ms : Mentions). with_mentions queue by (ms ++ old)) (sym none)

-- ---- functions

-- what the typed term of a function mentions
pub body_mentioned : (w : StageState) (made : TermId) (names : List TypedName) (t : TypeId) (body : List TermId)
    → Some (typed_kinds.Function names t body) ≡ slice_get w.store.typed made.0
    → mentions_of (slice_get (typed_trees w.store.typed) made.0) ≡ all_mentions true w made.0 body
body_mentioned w made names t body is =
    let statements = block_events (typed_block_at (trees_below w made.0) body) in
    ap mentions_of (tree_at w.store.typed made.0 (Some (typed_kinds.Function names t body)) is)
    ∙ in_both (declares_all names) statements
    ∙ ap (λ (ms : Mentions). ms ++ mentions_in statements) (in_declared names)
    ∙ in_block w made.0 body

pub no_body_expression : (w : StageState) (made : TermId) (at : Place) (t : TypeId) (form : TypedExpression)
    → Some (typed_kinds.Expression at t form) ≡ slice_get w.store.typed made.0 → mentions_of (slice_get (typed_trees w.store.typed) made.0) ≡ []
no_body_expression w made at t form is = ap mentions_of (tree_at w.store.typed made.0 (Some (typed_kinds.Expression at t form)) is)

pub no_body_statement : (w : StageState) (made : TermId) (at : Place) (doing : TypedStatement)
    → Some (typed_kinds.Statement at doing) ≡ slice_get w.store.typed made.0 → mentions_of (slice_get (typed_trees w.store.typed) made.0) ≡ []
no_body_statement w made at doing is = ap mentions_of (tree_at w.store.typed made.0 (Some (typed_kinds.Statement at doing)) is)

pub no_body_there : (w : StageState) (made : TermId)
    → None ≡ slice_get w.store.typed made.0 → mentions_of (slice_get (typed_trees w.store.typed) made.0) ≡ []
no_body_there w made is = ap mentions_of (tree_at w.store.typed made.0 None is)

-- what comes before what was there
pub before_old : (new them these old : Mentions) → these ≡ them → new ≡ them ++ old → new ≡ these ++ old
before_old new them these old is so_far = so_far ∙ ap (λ (ms : Mentions). ms ++ old) (sym is)

pub none_before : (these old : Mentions) → these ≡ [] → old ≡ these ++ old
none_before these old is = ap (λ (ms : Mentions). ms ++ old) (sym is)
