-- What shows of a layer whose end is found from another one's, and of what asks in the library.
use Rattle.std.proofs.Common.{◌≡◌, List, [], ◌∷◌, None, refl, sym, ap}
use Rattle.tl_base.specs.declared.ids.FnId.{FnId}
use Rattle.tl_base.specs.declared.place.Place.{Place}
use Rattle.tl_base.specs.declared.turn.Turn.{Turn}
use Rattle.tl_base.specs.declared.turn.Turn.TheVariants.{End, Ask, Spent}
use Rattle.tl_base.specs.Layer.{State, Given, seen, OnAsk, UnlessAsk}
use Rattle.lua_table.specs.declared.call.LibTurn.{LibTurn}
use Rattle.exotype.specs.World.{StageState}
use Rattle.check_model.specs.declared.end.BodyEnd.{BodyEnd}
use Rattle.check_model.specs.declared.question.BodyQuestion.{BodyQuestion}
use Rattle.check_model.specs.declared.question.CheckAnswer.{CheckAnswer}
use Rattle.terra_term.specs.Held.{state_of, refusal_in}
use Rattle.check_model.specs.Typing.{TypingState}
use Rattle.check_model.specs.Bodies.{body}
use Rattle.check_expr.specs.declared.body.Body.{Body}
use Rattle.check_expr.specs.Rest.{body_rest}
use Rattle.check_library.specs.declared.ask.AskTurn.TheVariants as asks
use Rattle.stage_check.specs.Asking.{asking_seen, end_seen}
use Rattle.stage_check.specs.declared.jobs.JobEnd.{JobEnd}
use Rattle.stage_check.specs.declared.results.ResultOf.{ResultOf}
use Rattle.stage_check.specs.declared.results.ResultOf.TheVariants as layers
use Rattle.stage_check.specs.Results.{result_seen, result_rest}

-- a fact for a question is one for the question that shows
pub shown_asks : (t : Turn BodyQuestion BodyEnd) (shown : Turn BodyQuestion JobEnd) (s : State TypingState)
    (H : BodyQuestion → Type 0) (G : Type 0) → seen shown s ≡ result_seen (seen t s) → ((q : BodyQuestion) → H q → G)
    → OnAsk t H → OnAsk shown (λ _. G)
shown_asks t (End e) s H G same more h = tt
shown_asks t Spent s H G same more h = tt
shown_asks (Ask q) (Ask q') s H G same more h = more q h
shown_asks (End e) (Ask q') s H G same more h = cc
shown_asks Spent (Ask q') s H G same more h = cc

-- what holds unless there is a question does so of what shows
pub shown_unless : (t : Turn BodyQuestion BodyEnd) (shown : Turn BodyQuestion JobEnd) (s : State TypingState) (H G : Type 0)
    → seen shown s ≡ result_seen (seen t s) → (H → G) → UnlessAsk t H → UnlessAsk shown G
shown_unless t (Ask q) s H G same more h = tt
shown_unless (End e) (End f) s H G same more h = more h
shown_unless Spent (End f) s H G same more h = more h
shown_unless (Ask q) (End f) s H G same more h = cc
shown_unless (End e) Spent s H G same more h = more h
shown_unless Spent Spent s H G same more h = more h
shown_unless (Ask q) Spent s H G same more h = cc

-- what ends in the library does so whatever is answered behind that
pub ended_alone : (place : Place) (turn : LibTurn) (s : State StageState) (later : List (Given StageState CheckAnswer))
    → asking_seen place later (asks.Turn turn) s ≡ end_seen turn s
ended_alone place turn s [] = refl
ended_alone place turn s (next ∷ later) = refl

-- what never asks does so no more
pub never_asks : {Q E : Type 0} (t : Turn Q E) (P : Q → Type 0) → OnAsk t (λ _. ⊥) → OnAsk t P
never_asks (End e) P h = tt
never_asks (Ask q) P h = absurd h
never_asks Spent P h = tt

-- what holds unless there is a question, and what holds of a question, gives what follows from it
pub unless_more : {Q E : Type 0} (t : Turn Q E) (H G : Type 0) → (H → G) → UnlessAsk t H → UnlessAsk t G
unless_more (End e) H G more h = more h
unless_more (Ask q) H G more h = tt
unless_more Spent H G more h = more h

pub asks_more : {Q E : Type 0} (t : Turn Q E) (H G : Q → Type 0) → ((q : Q) → H q → G q) → OnAsk t H → OnAsk t G
asks_more (End e) H G more h = tt
asks_more (Ask q) H G more h = more q h
asks_more Spent H G more h = tt

-- ---- result types

-- what is to find the result type of a function that isn't refused does what the typing of its body does
pub begins : (f : FnId) (b : Body) (first : Given TypingState CheckAnswer) (later : List (Given TypingState CheckAnswer))
    → refusal_in (state_of first.state.world.stage.store f) ≡ None
    → ((first : Given TypingState CheckAnswer) (later : List (Given TypingState CheckAnswer)) →
    body_rest b first later ≡ body f first later)
    → result_rest (layers.Begins f) first later ≡ result_seen (body_rest b first later)
begins f b first later none means = rw none (ap result_seen (sym (means first later)))

pub begins_as : (r : ResultOf) (f : FnId) (b : Body) (first : Given TypingState CheckAnswer) (later : List (Given TypingState CheckAnswer))
    → r ≡ layers.Begins f → refusal_in (state_of first.state.world.stage.store f) ≡ None
    → ((first : Given TypingState CheckAnswer) (later : List (Given TypingState CheckAnswer)) →
    body_rest b first later ≡ body f first later)
    → result_rest r first later ≡ result_seen (body_rest b first later)
begins_as r f b first later is none means = rw is (begins f b first later none means)
