-- Casts and sizes leave typed terms.
use Rattle.std.proofs.Common.{◌≡◌, ℕ, true, List, [], ◌∷◌, length, refl, ap}
use Rattle.std.specs.Prelude.{unwrap_or}
use Rattle.std.proofs.lemmas.Bool.{and_from, ltb-true}
use Rattle.tl_base.specs.declared.place.Place.{Place}
use Rattle.tl_base.specs.declared.ids.TermId.{TermId}
use Rattle.tl_base.specs.declared.ids.TypeId.{TypeId}
use Rattle.terra_types.specs.declared.types.TypeForm.TheVariants as forms
use Rattle.terra_types.specs.Opening.{uint64}
use Rattle.check_cast.specs.Conversions.{form_of}
use Rattle.terra_term.specs.declared.refusal.RefusalKind.TheVariants.{BadOperand, WrongCount}
use Rattle.terra_term.specs.declared.operators.Constant.TheVariants as constants
use Rattle.terra_term.specs.declared.term.Expression as expressions
use Rattle.terra_term.specs.declared.term.Expression.TheVariants as e
use Rattle.terra_term.specs.declared.typed.TypedExpression.TheVariants as te
use Rattle.terra_term.specs.TypedTerms as typed
use Rattle.terra_term.specs.WellTyped.{Scope, is_placed}
use Rattle.exotype.specs.World.{StageState}
use Rattle.check_model.specs.declared.site.Site.{Site}
use Rattle.check_model.specs.declared.job.Operand.{Operand}
use Rattle.check_model.specs.declared.job.Operand.TheVariants.{Untyped, Typed}
use Rattle.check_model.specs.declared.end.PartEnd.{PartEnd}
use Rattle.check_model.specs.declared.made.Made.{Made}
use Rattle.check_model.specs.declared.rule.Mode.TheVariants.{Explicit}
use Rattle.check_model.specs.Typing.{TypingState, bytes_in, expression_at, place_of}
use Rattle.check_model.specs.Plans.{reading, give, gives}
use Rattle.check_model.specs.Converting.{convert}
use Rattle.check_model.specs.Calls.{cast, size_constant, size_of_type, call_size}
use Rattle.check_sound.specs.Sound.{IsThere, ExpressionIsSound, IsSound}
use Rattle.check_sound.proofs.Scalars.{word-at, size-limited}
use Rattle.check_sound.proofs.Running.{Known, Holds}
use Rattle.check_sound.proofs.Combining.{In, Refuses, Makes, step-twice, refuses-on, there-still, holds-refuse, holds-laid}
use Rattle.check_sound.proofs.OfConverting.{holds-convert}
use Rattle.check_sound.proofs.Signatures.{expression-sound}
use Rattle.check_sound.proofs.Arguments.{AreOperands, uint64-there, small-word, Gives, gives-on, holds-gives, holds-operand}

module _ (q : PartEnd → TypingState → Type 0) (b : ℕ) (s : Scope) (site : Site) (base : site.base ≡ b) where
  -- ---- casts and sizes

  for-source : (w : StageState) (m : Made) (source : TermId) → Known s w m → Known s w (record m { source = source })
  for-source w m source h = record {
    below = h.below;
    it = h.it;
    of = h.of;
    place = h.place;
    placed =
        h.placed;
    there = h.there;
  }

  pub holds-cast : (w : TypingState) (i : In b s w) (r : Refuses q w) (to : TypeId) (os : List Operand) (at : Place)
      (source : TermId) → Gives q b s w →
      AreOperands s w.stage os → IsThere w.stage to → Holds q (cast to os at source site) w
  holds-cast w i r to [] at source k known there = holds-refuse q b s w i r WrongCount at site
  holds-cast w i r to (o ∷ []) at source k known there =
      holds-operand q b s site base w i r o (λ m. convert Explicit m to site
      (λ x. give (record x { source = source }))) known.0
      (λ m v p now. holds-convert q b s v p.inside (refuses-on q w v r p.moves) Explicit m to site base
      (λ x. give (record x { source = source })) now
      (there-still b s w v i p to there)
      (λ x z o2 later is usable. k (record x { source = source }) z (step-twice b s w v z p o2)
      (for-source z.stage x source later)))
  holds-cast w i r to (o ∷ o2 ∷ os) at source k known there = holds-refuse q b s w i r WrongCount at site

  makes-size : (w : StageState) → IsSound w → (at : Place) (t : TypeId) → is_placed at ≡ true →
      Makes s w at uint64 (te.Constant (constants.Number (bytes_in w t)))
      (typed.Constant' (constants.Number (bytes_in w t)))
  makes-size w sound at t placed = record {
    placed = placed;
    there = uint64-there w sound;
    plain = refl;
    planted = refl;
    it = λ u. and_from _ _ placed
        (small-word (form_of w.store.types uint64) (bytes_in w t)
        (ap (λ o. unwrap_or o forms.Unit) (word-at w.store.types sound.types))
        (size-limited w.store.types sound.types t));
    place = refl;
  }

  holds-size-constant : (w : TypingState) (i : In b s w) (r : Refuses q w) (t : TypeId) (at : Place)
      (source : TermId) → Gives q b s w → is_placed at ≡ true →
      IsThere w.stage t → Holds q (size_constant t at source site) w
  holds-size-constant w i r t at source k placed there =
      holds-laid q b s w i t at site (reading (λ x. gives source at uint64
      (te.Constant (constants.Number (bytes_in x t))))) r
      (ltb-true t.0 (length w.stage.store.types) there)
      (λ v p layout. holds-gives q b s v p.inside source at uint64
      (te.Constant (constants.Number (bytes_in v.stage t)))
      (typed.Constant' (constants.Number (bytes_in v.stage t))) (makes-size v.stage p.inside.sound at t placed)
      (gives-on q b s w v p k))

  holds-size-type : (w : TypingState) (i : In b s w) (r : Refuses q w) (x : expressions.Expression)
      (named at : Place) (source : TermId) → Gives q b s w →
      is_placed at ≡ true → ExpressionIsSound w.stage x → Holds q (size_of_type x named at source site) w
  holds-size-type w i r (e.Type t) named at source k placed there =
      holds-size-constant w i r t at source k placed there
  holds-size-type w i r _ named at source k placed there = holds-refuse q b s w i r BadOperand named site

  pub holds-size : (w : TypingState) (i : In b s w) (r : Refuses q w) (os : List Operand) (at : Place)
      (source : TermId) → Gives q b s w → is_placed at ≡ true →
      Holds q (call_size os at source site) w
  holds-size w i r [] at source k placed = holds-refuse q b s w i r WrongCount at site
  holds-size w i r (Untyped t ∷ []) at source k placed =
      holds-size-type w i r (expression_at w.stage t) (place_of w.stage t) at source k placed
      (expression-sound w.stage i.sound t)
  holds-size w i r (Typed m ∷ []) at source k placed = holds-refuse q b s w i r BadOperand m.at site
  holds-size w i r (o ∷ o2 ∷ os) at source k placed = holds-refuse q b s w i r WrongCount at site
