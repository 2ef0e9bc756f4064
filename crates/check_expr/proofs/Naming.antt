-- What is done with names in a typed term, by its parts.
use Rattle.std.proofs.Common.{◌≡◌, ℕ, ◌-◌, true, false, List, [], ◌∷◌, ◌++◌, refl, ap, ◌∙◌, slice_get}
use Rattle.std.specs.Prelude.{if◌then◌else◌, length, drop, Option}
use Rattle.tl_base.specs.declared.place.Place.{Place}
use Rattle.tl_base.specs.declared.ids.SymId.{SymId}
use Rattle.tl_base.specs.declared.ids.TermId.{TermId}
use Rattle.terra_term.specs.declared.lists.TypedName.{TypedName}
use Rattle.terra_term.specs.declared.operators.Operation.{Operation}
use Rattle.terra_term.specs.declared.operators.Operation.TheVariants as operations
use Rattle.terra_term.specs.declared.refusal.RefusalKind.{RefusalKind}
use Rattle.terra_term.specs.Planted.{typed_at, typed_doing_in, typed_list_at, typed_block_at}
use Rattle.terra_term.specs.TypedTerms as typed
use Rattle.terra_term.specs.Events.{Event, Opens, Closes, Declares, Takes, Uses, Mentions, events_of, list_events, doing_events}
use Rattle.terra_term.specs.Events.{block_events, operation_events, takes, declares_all, scope}
use Rattle.exotype.specs.World.{StageState}
use Rattle.check_model.specs.Expressions.{wrong_in, wrong_use, first_wrong, is_in, first_mark}
use Rattle.check_model.specs.Typing.{TypingState, variable_at}
use Rattle.check_expr.specs.Quoted.{names_in, trees_below, names_as, expression_names, all_names}

-- what else is done makes no use wrong
pub wrong_named : (w : TypingState) (base : ℕ) (own : List SymId) (marks : List ℕ) (es : List Event)
    → wrong_in w base own marks (names_in es) ≡ wrong_in w base own marks es
wrong_named w base own marks [] = refl
wrong_named w base own marks (Opens ∷ es) = wrong_named w base own (length own ∷ marks) es
wrong_named w base own marks (Closes ∷ es) = wrong_named w base (drop (length own - first_mark marks) own) (drop 1 marks) es
wrong_named w base own marks (Declares x of ∷ es) = wrong_named w base (x ∷ own) marks es
wrong_named w base own marks (Uses at x of ∷ es) =
    ap (λ (r : Option (RefusalKind × Place)). if is_in x own then r else first_wrong (wrong_use (variable_at w base x) of at) r)
    (wrong_named w base own marks es)
wrong_named w base own marks (Takes x ∷ es) = wrong_named w base own marks es
wrong_named w base own marks (Mentions at f ∷ es) = wrong_named w base own marks es

-- ---- events

pub in_both : (a b : List Event) → names_in (a ++ b) ≡ names_in a ++ names_in b
in_both [] b = refl
in_both (Opens ∷ a) b = ap (λ (es : List Event). Opens ∷ es) (in_both a b)
in_both (Closes ∷ a) b = ap (λ (es : List Event). Closes ∷ es) (in_both a b)
in_both (Declares x of ∷ a) b = ap (λ (es : List Event). Declares x of ∷ es) (in_both a b)
in_both (Uses at x of ∷ a) b = ap (λ (es : List Event). Uses at x of ∷ es) (in_both a b)
in_both (Takes x ∷ a) b = in_both a b
in_both (Mentions at f ∷ a) b = in_both a b

pub in_scope : (a : List Event) → names_in (scope a) ≡ scope (names_in a)
in_scope a = ap (λ (es : List Event). Opens ∷ es) (in_both a (Closes ∷ []))

pub in_declared : (names : List TypedName) → names_in (declares_all names) ≡ declares_all names
in_declared [] = refl
in_declared (name ∷ names) = ap (λ (es : List Event). Declares name.symbol name.of ∷ es) (in_declared names)

-- an operation by itself does nothing with names
pub no_operation : (at : Place) (op : Operation) → names_in (operation_events at op) ≡ []
no_operation at operations.Negate = refl
no_operation at operations.Not = refl
no_operation at (operations.Binary op) = refl
no_operation at operations.StepForward = refl
no_operation at operations.StepBack = refl
no_operation at operations.Difference = refl
no_operation at operations.Convert = refl
no_operation at (operations.Extract offset) = refl
no_operation at (operations.Call f) = refl
no_operation at (operations.Primitive p) = refl
no_operation at operations.CallValue = refl
no_operation at (operations.Construct offsets) = refl

-- nor does the taking of an address
pub no_takes : (x : typed.Expression) → names_in (takes x) ≡ []
no_takes (typed.typed at of (typed.Constant' c)) = refl
no_takes (typed.typed at of (typed.Variable x)) = refl
no_takes (typed.typed at of (typed.Global address)) = refl
no_takes (typed.typed at of (typed.Operate op es)) = refl
no_takes (typed.typed at of (typed.Both a b)) = refl
no_takes (typed.typed at of (typed.Either a b)) = refl
no_takes (typed.typed at of (typed.Dereference p)) = refl
no_takes (typed.typed at of (typed.Select offset e)) = refl
no_takes (typed.typed at of (typed.Follow offset p)) = refl
no_takes (typed.typed at of (typed.Element a i)) = refl
no_takes (typed.typed at of (typed.Index p i)) = refl
no_takes (typed.typed at of (typed.Address e)) = refl
no_takes (typed.typed at of (typed.Decay a)) = refl
no_takes (typed.typed at of (typed.Let block e)) = refl

-- ---- nodes in a row

pub in_list : (w : StageState) (below : ℕ) (es : List TermId)
    → names_in (list_events (typed_list_at (trees_below w below) es)) ≡ all_names false w below es
in_list w below [] = refl
in_list w below (e ∷ es) =
    in_both (events_of (typed_at (trees_below w below) e)) (list_events (typed_list_at (trees_below w below) es))
    ∙ ap (λ (ns : List Event). expression_names w below e ++ ns) (in_list w below es)

pub in_block : (w : StageState) (below : ℕ) (ss : List TermId)
    → names_in (block_events (typed_block_at (trees_below w below) ss)) ≡ all_names true w below ss
in_block w below [] = refl
in_block w below (s ∷ ss) =
    in_both (doing_events (typed_doing_in (slice_get (trees_below w below) s.0))) (block_events (typed_block_at (trees_below w below) ss))
    ∙ ap (λ (ns : List Event). names_as true w below s ++ ns) (in_block w below ss)

-- ---- blocks

-- a block in its scope
pub in_block_scope : (w : StageState) (below : ℕ) (ss : List TermId)
    → names_in (scope (block_events (typed_block_at (trees_below w below) ss))) ≡ scope (all_names true w below ss)
in_block_scope w below ss = in_scope (block_events (typed_block_at (trees_below w below) ss)) ∙ ap scope (in_block w below ss)

-- a block with an expression behind it
pub in_block_with : (w : StageState) (below : ℕ) (ss : List TermId) (e : TermId)
    → names_in (scope (block_events (typed_block_at (trees_below w below) ss) ++ events_of (typed_at (trees_below w below) e)))
    ≡ scope (all_names true w below ss ++ expression_names w below e)
in_block_with w below ss e =
    let body = block_events (typed_block_at (trees_below w below) ss) in
    let value = events_of (typed_at (trees_below w below) e) in
    in_scope (body ++ value)
    ∙ ap scope (in_both body value ∙ ap (λ (ns : List Event). ns ++ expression_names w below e) (in_block w below ss))

-- the block of a loop in the scope of its variable
pub in_block_of : (w : StageState) (below : ℕ) (name : TypedName) (ss : List TermId)
    → names_in (scope (Declares name.symbol name.of ∷ block_events (typed_block_at (trees_below w below) ss)))
    ≡ scope (Declares name.symbol name.of ∷ all_names true w below ss)
in_block_of w below name ss =
    in_scope (Declares name.symbol name.of ∷ block_events (typed_block_at (trees_below w below) ss))
    ∙ ap (λ (ns : List Event). scope (Declares name.symbol name.of ∷ ns)) (in_block w below ss)
