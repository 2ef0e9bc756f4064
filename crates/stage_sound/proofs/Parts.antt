-- A layer that has a part of the world holds in the whole one.
use Rattle.std.proofs.Common.{◌≡◌, List, [], ◌∷◌, refl, ap, subst}
use Rattle.tl_base.specs.Layer.{State, Given, Seen, Ended, SpentAt, Asks, Meaning}
use Rattle.stage_form.specs.Stage.{after}
use Rattle.stage_form.specs.Within.{Fitting, given_part, whole, seen_within, answered, within}
use Rattle.stage_form.specs.Holding.{IsBackFor, AllBack, Shows, Holds}
use Rattle.stage_sound.proofs.Feeding.{shows-first, holds-after}

-- What holds of the layer's part, what of the whole, and what stands beside the part where the layer was last answered.
module _ {W P Q R A B E F : Type 0} (f : Fitting W P Q R A B E F) (asked : Q → P → Type 0)
    (back : Q → State P → Given P A → Type 0) (left : E → P → Type 0)
    (asked_whole : R → W → Type 0) (back_whole : R → State W → Given W B → Type 0) (left_whole : F → W → Type 0)
    (beside : W → Type 0)
    (asks : (w : W) (q : Q) (p : P) → beside w → asked q p → asked_whole (f.question q) (f.with_part w p))
    (leaves : (w : W) (e : E) (p : P) → beside w → left e p → left_whole (f.end e) (f.with_part w p))
    (comes : (w : W) (q : Q) (s : State P) (next : Given W B) → beside w → asked q s.world →
    back_whole (f.question q) (whole f w s) next → back q s (given_part f next) × beside next.state.world) where
  -- a layer that has asked is what remains of it
  within-next : (layer : Meaning P Q A E) (first next : Given W B) (later : List (Given W B)) (q : Q) (s : State P) →
      layer (given_part f first) [] ≡ Asks q s →
      within f layer first (next ∷ later) ≡ within f (after layer (given_part f first)) next later
  within-next layer first next later q s e =
      ap (λ o. seen_within f first.state.world o (answered f (after layer (given_part f first)) (next ∷ later))) e

  within-first : (layer : Meaning P Q A E) (first : Given W B) (q : Q) (s : State P) →
      layer (given_part f first) [] ≡ Asks q s → within f layer first [] ≡ Asks (f.question q) (whole f first.state.world s)
  within-first layer first q s e =
      ap (λ o. seen_within f first.state.world o (answered f (after layer (given_part f first)) [])) e

  -- an end shows as it is, and a question by what follows it
  seen-shows : (w : W) → beside w → (o : Seen P Q E) → Shows asked left o → (go : Seen W R F → Seen W R F) →
      ((q : Q) (s : State P) → o ≡ Asks q s → asked q s.world →
      Shows asked_whole left_whole (go (Asks (f.question q) (whole f w s)))) →
      Shows asked_whole left_whole (seen_within f w o go)
  seen-shows w b (Ended e s) h go k = leaves w e s.world b h
  seen-shows w b (SpentAt s) h go k = tt
  seen-shows w b (Asks q s) h go k = k q s refl h

  within-shows : (later : List (Given W B)) (layer : Meaning P Q A E) (first : Given W B) → beside first.state.world →
      Holds asked back left layer (given_part f first) → AllBack back_whole (within f layer) first later →
      Shows asked_whole left_whole (within f layer first later)
  within-shows [] layer first b h all =
      let p = given_part f first in
      seen-shows first.state.world b (layer p []) (shows-first asked back left layer p h (layer p []) refl)
      (answered f (after layer p) []) (λ q s e may. asks first.state.world q s.world b may)
  within-shows (next ∷ later) layer first b h all =
      let p = given_part f first in
      seen-shows first.state.world b (layer p []) (shows-first asked back left layer p h (layer p []) refl)
      (answered f (after layer p) (next ∷ later)) (λ q s e may.
      let came : back_whole (f.question q) (whole f first.state.world s) next =
      subst (λ (o : Seen W R F). IsBackFor back_whole o next) (within-first layer first q s e) (all [] later next refl) in
      let k = comes first.state.world q s next b may came in
      within-shows later (after layer p) next k.1
      (holds-after asked back left layer p q s (given_part f next) h e k.0)
      (λ before behind x split. subst (λ (o : Seen W R F). IsBackFor back_whole o x)
      (within-next layer first next before q s e)
      (all (next ∷ before) behind x (ap (λ l. next ∷ l) split))))

  pub within-holds : (layer : Meaning P Q A E) (first : Given W B) → beside first.state.world →
      Holds asked back left layer (given_part f first) →
      Holds asked_whole back_whole left_whole (within f layer) first
  within-holds layer first b h later all = within-shows later layer first b h all
