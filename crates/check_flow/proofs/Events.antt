-- What the nodes of typed terms mention, by their parts.
use Rattle.std.proofs.Common.{◌≡◌, ℕ, Bool, true, false, List, [], ◌∷◌, ◌++◌, refl, ap, ◌∙◌, append-nil, Some, slice_get}
use Rattle.std.specs.Prelude.{if◌then◌else◌}
use Rattle.tl_base.specs.declared.ids.FnId.{FnId}
use Rattle.tl_base.specs.declared.ids.TermId.{TermId}
use Rattle.terra_term.specs.declared.lists.TypedName.{TypedName}
use Rattle.terra_term.specs.Planted.{typed_at, typed_doing_in, typed_list_at, typed_block_at}
use Rattle.terra_term.specs.Events.{Event, Opens, Closes, Declares, Takes, Uses, Mentions, events_of, list_events, doing_events}
use Rattle.terra_term.specs.Events.{block_events, declares_all, scope, mentions_in}
use Rattle.exotype.specs.World.{StageState}
use Rattle.check_model.specs.declared.job.Reached.{Reached}
use Rattle.check_model.specs.Checks.{with_mentions, was_reached}
use Rattle.check_flow.specs.Parts.{Mentions as Mentioned, trees_below, expression_mentions, statement_mentions, all_mentions}

-- ---- the queue

-- what is mentioned comes behind the queue one after the other
pub with_both : (queue : List Reached) (by : FnId) (ms ns : Mentioned) → with_mentions queue by (ms ++ ns) ≡ with_mentions (with_mentions queue by ms) by ns
with_both queue by [] ns = refl
with_both queue by (m ∷ ms) ns =
    either (was_reached m.1 queue) (with_both queue by ms ns)
    (with_both (queue ++ record { function = m.1; by = Some (m.0, by) } ∷ []) by ms ns)
  where
    more : List Reached
    more = queue ++ record { function = m.1; by = Some (m.0, by) } ∷ []

    either : (c : Bool) → with_mentions queue by (ms ++ ns) ≡ with_mentions (with_mentions queue by ms) by ns
        → with_mentions more by (ms ++ ns) ≡ with_mentions (with_mentions more by ms) by ns
        → (if c then with_mentions queue by (ms ++ ns) else with_mentions more by (ms ++ ns))
        ≡ with_mentions (if c then with_mentions queue by ms else with_mentions more by ms) by ns
    either true p q = p
    either false p q = q

-- ---- events

pub in_both : (a b : List Event) → mentions_in (a ++ b) ≡ mentions_in a ++ mentions_in b
in_both [] b = refl
in_both (Mentions at f ∷ a) b = ap (λ (ms : Mentioned). (at, f) ∷ ms) (in_both a b)
in_both (Opens ∷ a) b = in_both a b
in_both (Closes ∷ a) b = in_both a b
in_both (Declares x t ∷ a) b = in_both a b
in_both (Takes x ∷ a) b = in_both a b
in_both (Uses at x t ∷ a) b = in_both a b

pub in_scope : (a : List Event) → mentions_in (scope a) ≡ mentions_in a
in_scope a = in_both a (Closes ∷ []) ∙ append-nil (mentions_in a)

-- declarations mention nothing
pub in_declared : (names : List TypedName) → mentions_in (declares_all names) ≡ []
in_declared [] = refl
in_declared (name ∷ names) = in_declared names

-- ---- nodes in a row

pub in_list : (w : StageState) (below : ℕ) (es : List TermId)
    → mentions_in (list_events (typed_list_at (trees_below w below) es)) ≡ all_mentions false w below es
in_list w below [] = refl
in_list w below (e ∷ es) =
    in_both (events_of (typed_at (trees_below w below) e)) (list_events (typed_list_at (trees_below w below) es))
    ∙ ap (λ (ms : Mentioned). expression_mentions w below e ++ ms) (in_list w below es)

pub in_block : (w : StageState) (below : ℕ) (ss : List TermId)
    → mentions_in (block_events (typed_block_at (trees_below w below) ss)) ≡ all_mentions true w below ss
in_block w below [] = refl
in_block w below (s ∷ ss) =
    in_both (doing_events (typed_doing_in (slice_get (trees_below w below) s.0))) (block_events (typed_block_at (trees_below w below) ss))
    ∙ ap (λ (ms : Mentioned). statement_mentions w below s ++ ms) (in_block w below ss)
