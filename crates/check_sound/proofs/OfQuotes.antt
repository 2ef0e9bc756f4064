-- A typed quote leaves its typed term, where its symbols are in scope.
use Rattle.std.proofs.Common.{◌≡◌, ℕ, ◌<◌, true, List, [], length, drop, Option, Some, None, refl, sym, ap, ◌∙◌}
use Rattle.std.proofs.Common.{subst, take, arith, slice_get}
use Rattle.std.proofs.lemmas.List.{append-nil}
use Rattle.tl_base.specs.declared.place.Place.{Place}
use Rattle.tl_base.specs.declared.ids.TermId.{TermId}
use Rattle.tl_base.specs.declared.ids.TypeId.{TypeId}
use Rattle.terra_types.proofs.Growing.{grown-at}
use Rattle.terra_term.specs.declared.refusal.RefusalKind.{RefusalKind}
use Rattle.terra_term.specs.declared.typed.Typed.{Typed}
use Rattle.terra_term.specs.declared.typed.Typed.TheVariants as nodes
use Rattle.terra_term.specs.declared.typed.TypedExpression.{TypedExpression}
use Rattle.terra_term.specs.declared.typed.TypedExpression.TheVariants as te
use Rattle.terra_term.specs.Events.{events_of}
use Rattle.terra_term.specs.Planted.{typed_in, typed_at, typed_trees, typed_planted}
use Rattle.terra_term.specs.TypedTerms as typed
use Rattle.terra_term.specs.TypedTerms.{type_of, place_of, is_place}
use Rattle.terra_term.specs.WellTyped.{Within, Scope, is_placed, is_typed}
use Rattle.exotype.specs.World.{StageState}
use Rattle.check_model.specs.declared.site.Site.{Site}
use Rattle.check_model.specs.declared.end.PartEnd.{PartEnd}
use Rattle.check_model.specs.declared.made.Made.{Made}
use Rattle.check_model.specs.Typing.{TypingState, is_place_form, made_in, made_at}
use Rattle.check_model.specs.Expressions.{wrong_in, scoped, typed_plan}
use Rattle.check_sound.specs.Sound.{foreseen, outermost, IsTypedSomewhere, IsThere, IsSound}
use Rattle.check_sound.proofs.Tests.{got}
use Rattle.check_sound.proofs.Running.{scope_of, Known, Holds}
use Rattle.check_sound.proofs.Combining.{In, Refuses, step-itself, holds-refuse}
use Rattle.check_sound.proofs.Arguments.{Gives}
use Rattle.check_sound.proofs.TypedQuotes.{typed-here}
use Rattle.check_sound.proofs.TypesOf.{NamesThere, variables-there, type-there, typed-placed}

-- ---- a typed node that is there

module _ (s : Scope) (w : StageState) (sound : IsSound w) (names : NamesThere w s) (made source : TermId)
    (below : made.0 < length w.store.typed)
    (it : (u : Within) → is_typed (foreseen w) u s (typed_at (typed_trees w.store.typed) made) ≡ true) where
  abbrev before : List typed.Item
  before = typed_trees (take made.0 w.store.typed)

  abbrev tree : typed.Expression
  tree = typed_at (typed_trees w.store.typed) made

  -- what is known of the tree is known of what is made of its node
  known-as : (m : Made) → m.id ≡ made → m.at ≡ place_of tree → m.of ≡ type_of tree → m.is_place ≡ is_place tree →
      Known s w m
  known-as m id at of place = record {
    below = subst (λ (t : TermId). t.0 < length w.store.typed) (sym id) below;
    it = λ u. ap (λ t. is_typed (foreseen w) u s (typed_at (typed_trees w.store.typed) t)) id ∙ it u;
    of = ap (λ t. type_of (typed_at (typed_trees w.store.typed) t)) id ∙ sym of;
    place = ap (λ t. is_place (typed_at (typed_trees w.store.typed) t)) id ∙ sym place;
    placed = ap is_placed at ∙ typed-placed w sound outermost s tree (it outermost);
    there = subst (IsThere w) (sym of) (type-there w sound outermost s tree names (it outermost));
  }

  place-same : (at : Place) (of : TypeId) (form : TypedExpression) →
      is_place_form form ≡ is_place (typed_in (Some (typed_planted before (nodes.Expression at of form))))
  place-same at of (te.Constant c) = refl
  place-same at of (te.Variable x) = refl
  place-same at of (te.Global address) = refl
  place-same at of (te.Operate op es) = refl
  place-same at of (te.Both a b) = refl
  place-same at of (te.Either a b) = refl
  place-same at of (te.Dereference p) = refl
  place-same at of (te.Select offset x) = refl
  place-same at of (te.Follow offset p) = refl
  place-same at of (te.Element a i) = refl
  place-same at of (te.Index p i) = refl
  place-same at of (te.Address x) = refl
  place-same at of (te.Decay a) = refl
  place-same at of (te.Let block x) = refl

  by-node : (n : Typed) → typed_in (Some (typed_planted before n)) ≡ tree → Known s w (made_in (Some n) made source)
  by-node (nodes.Expression at of form) e =
      known-as (made_in (Some (nodes.Expression at of form)) made source) refl (ap place_of e) (ap type_of e)
      (place-same at of form ∙ ap is_place e)
  by-node (nodes.Statement at doing) e =
      known-as (made_in (Some (nodes.Statement at doing)) made source) refl (ap place_of e) (ap type_of e) (ap is_place e)
  by-node (nodes.Function ps r body) e =
      known-as (made_in (Some (nodes.Function ps r body)) made source) refl (ap place_of e) (ap type_of e) (ap is_place e)

  pub known-made : Known s w (made_at w made source)
  known-made =
      let node = got w.store.typed made.0 below in
      let planted = ap (λ i. slice_get (typed_trees w.store.typed) i) (omega arith) ∙
      grown-at typed_planted [] w.store.typed made.0 node.0 node.1 in
      subst (λ o. Known s w (made_in o made source)) (sym node.1) (by-node node.0 (sym (ap typed_in planted)))

module _ (q : PartEnd → TypingState → Type 0) (b : ℕ) (s : Scope) (site : Site) (base : site.base ≡ b) where
  pub holds-typed : (w : TypingState) (i : In b s w) (r : Refuses q w) (source made : TermId) → Gives q b s w →
      IsTypedSomewhere w.stage made → Holds q (typed_plan w source made site) w
  holds-typed w i r source made k sound =
      by (wrong_in w site.base [] [] (events_of (typed_at (typed_trees w.stage.store.typed) made))) refl
    where
      scope : scope_of site.base w ≡ s
      scope = ap (λ n. scope_of n w) base ∙ i.scope

      here : wrong_in w site.base [] [] (events_of (typed_at (typed_trees w.stage.store.typed) made)) ≡ None → (u : Within) →
          is_typed (foreseen w.stage) u s (typed_at (typed_trees w.stage.store.typed) made) ≡ true
      here fine u =
          (typed-here w site.base s scope (foreseen w.stage) sound.1.0 outermost u [] []
          (typed_at (typed_trees w.stage.store.typed) made) [] sound.1.1
          (ap (wrong_in w site.base [] [])
          (append-nil (events_of (typed_at (typed_trees w.stage.store.typed) made))) ∙ fine)).0

      by : (o : Option (RefusalKind × Place)) →
          wrong_in w site.base [] [] (events_of (typed_at (typed_trees w.stage.store.typed) made)) ≡ o →
          Holds q (scoped o source made site) w
      by (Some why) e = holds-refuse q b s w i r why.0 why.1 site
      by None e =
          k (made_at w.stage made source) w (step-itself b s w i)
          (known-made s w.stage i.sound
          (subst (NamesThere w.stage) i.scope (variables-there w.stage (drop b w.variables) i.names)) made source sound.0
          (here e))
