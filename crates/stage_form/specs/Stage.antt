-- The staging recursion: the layer that a question names is fed with answers until it ends, and each answer is what the
-- layer's own question comes to.
use Rattle.std.specs.Prelude.{ℕ, zero, suc, [], ◌∷◌, Option, Some, None}
use Rattle.tl_base.specs.Layer.{State, Given, Seen, Ended, SpentAt, Asks, Meaning, at}
use Rattle.stage_form.specs.declared.staging.Outcome.{Outcome}
use Rattle.stage_form.specs.declared.staging.Outcome.TheVariants.{Ends, Spent}

-- a stage: the meaning of the layer that each question names, the answer with which each layer begins, and the answer
-- that each end is
pub record Stage (W Q A E : Type 0) : Type 0 where
  pub meaning : Q → Meaning W Q A E
  pub go : A
  pub answer_of : E → A

-- what a question comes to: an end, or a payment above what was left, each with the state there
pub data Final (W E : Type 0) : Type 0 where
  Finished : (end : E) (s : State W) → Final W E
  Exhausted : (s : State W) → Final W E

-- what remains of a meaning after an answer
abbrev pub after : {W Q A E : Type 0} → Meaning W Q A E → Given W A → Meaning W Q A E
after meaning first next later = meaning first (next ∷ later)

-- goes on from a question; an end and a spent budget are what comes out
abbrev pub on_question : {W Q E : Type 0} → Seen W Q E → (Q → State W → Option (Final W E)) → Option (Final W E)
on_question (Ended e s) go = Some (Finished e s)
on_question (SpentAt s) go = Some (Exhausted s)
on_question (Asks q s) go = go q s

-- goes on from an end; a spent budget is what comes out
abbrev pub on_end : {W E : Type 0} → Option (Final W E) → (E → State W → Option (Final W E)) → Option (Final W E)
on_end None go = None
on_end (Some (Finished e s)) go = go e s
on_end (Some (Exhausted s)) go = Some (Exhausted s)

-- feeds a layer with an answer, and then with what its questions come to, until it ends. There is no value where that
-- goes deeper than n
unfoldable pub fed : {W Q A E : Type 0} → Stage W Q A E → ℕ → Meaning W Q A E → Given W A → Option (Final W E)
fed stage zero meaning answer = None
fed stage (suc n) meaning answer =
    on_question (meaning answer []) (λ q s.
    on_end (fed stage n (stage.meaning q) (at stage.go s)) (λ e s'.
    fed stage n (after meaning answer) (at (stage.answer_of e) s')))

-- what a question comes to
abbrev pub staged : {W Q A E : Type 0} → Stage W Q A E → ℕ → Q → State W → Option (Final W E)
staged stage n question s = fed stage n (stage.meaning question) (at stage.go s)

-- an outcome, with the state that it leaves
abbrev pub final_of : {W E : Type 0} → Outcome E → State W → Final W E
final_of (Ends e) s = Finished e s
final_of Spent s = Exhausted s
