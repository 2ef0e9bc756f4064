-- Turns of a layer as turns of the stage.
use Rattle.std.proofs.Common.{◌≡◌, List, [], ◌∷◌, ap, ◌∙◌}
use Rattle.tl_base.specs.declared.turn.Turn.{Turn}
use Rattle.tl_base.specs.declared.turn.Turn.TheVariants.{End, Ask, Spent}
use Rattle.tl_base.specs.Layer.{State, Given, Meaning, seen, OnAsk, UnlessAsk}
use Rattle.stage_form.specs.Stage.{after}
use Rattle.stage_form.specs.Within.{Fitting, given_part, whole, seen_within, answered, within}
use Rattle.stage_form.proofs.Standing.{within_same}
use Rattle.stage_code.specs.Layers.{turn_within}

-- what always holds does so at an end, and at a payment above what is left
pub unless : {Q E : Type 0} (t : Turn Q E) (H : Type 0) → H → UnlessAsk t H
unless (End e) H h = h
unless (Ask q) H h = tt
unless Spent H h = h

-- a layer stops in the stage where it stops by itself
pub stops : {W P Q R A B E F : Type 0} (f : Fitting W P Q R A B E F) (m : Meaning P Q A E) (first : Given W B) (t : Turn Q E)
    (s : State P) → m (given_part f first) [] ≡ seen t s → within f m first [] ≡ seen (turn_within f t) (whole f first.state.world s)
stops f m first (End e) s h = ap (λ o. seen_within f first.state.world o (answered f (after m (given_part f first)) [])) h
stops f m first (Ask q) s h = ap (λ o. seen_within f first.state.world o (answered f (after m (given_part f first)) [])) h
stops f m first Spent s h = ap (λ o. seen_within f first.state.world o (answered f (after m (given_part f first)) [])) h

-- it reads no answer past its end, or behind a payment above what is left
pub reads_no_more : {W P Q R A B E F : Type 0} (f : Fitting W P Q R A B E F) (m : Meaning P Q A E) (first : Given W B)
    (t : Turn Q E) (s : State P) → m (given_part f first) [] ≡ seen t s
    → UnlessAsk (turn_within f t) ((later : List (Given W B)) →
    within f m first later ≡ seen (turn_within f t) (whole f first.state.world s))
reads_no_more f m first (End e) s h =
    λ later. ap (λ o. seen_within f first.state.world o (answered f (after m (given_part f first)) later)) h
reads_no_more f m first (Ask q) s h = tt
reads_no_more f m first Spent s h =
    λ later. ap (λ o. seen_within f first.state.world o (answered f (after m (given_part f first)) later)) h

-- a fact for a question is one for that question in the stage
pub asks : {W P Q R A B E F : Type 0} (f : Fitting W P Q R A B E F) (t : Turn Q E) (H : Q → Type 0) (G : Type 0)
    → ((q : Q) → H q → G) → OnAsk t H → OnAsk (turn_within f t) (λ _. G)
asks f (End e) H G more h = tt
asks f (Ask q) H G more h = more q h
asks f Spent H G more h = tt

-- after a question a layer goes on in the stage as what remains of it
pub goes_on : {W P Q R A B E F : Type 0} (f : Fitting W P Q R A B E F) (m rest : Meaning P Q A E) (first : Given W B)
    (t : Turn Q E) (s : State P) → m (given_part f first) [] ≡ seen t s
    → OnAsk t (λ _. (next : Given P A) (later : List (Given P A)) → m (given_part f first) (next ∷ later) ≡ rest next later)
    → OnAsk (turn_within f t) (λ _. (next : Given W B) (later : List (Given W B)) →
    within f m first (next ∷ later) ≡ within f rest next later)
goes_on f m rest first (End e) s h more = tt
goes_on f m rest first (Ask q) s h more = λ next later.
    ap (λ o. seen_within f first.state.world o (answered f (after m (given_part f first)) (next ∷ later))) h
    ∙ within_same f (after m (given_part f first)) rest more next later
goes_on f m rest first Spent s h more = tt
