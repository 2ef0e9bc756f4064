-- What is promised of code that is made of other code: it has the same runs, and machine code can be made of it as of the other.
use Rattle.std.specs.Prelude.{◌≡◌, ℕ, List, option_map}
use Rattle.tl_base.specs.declared.ids.FnId.{FnId}
use Rattle.terra_words.specs.Runs.{Value, Run}
use Rattle.tac_form.specs.declared.tac.Tac.{Tac}
use Rattle.tac_form.specs.Flow.{Program, TacRun}
use Rattle.tac_form.specs.Weights.{Sized}
use Rattle.tac_form.specs.Fits.{Counted, Fits}

-- a program that has code made of another's
pub record IsMade (make : Tac → Tac) (p q : Program) : Type 0 where
  pub code : (f : FnId) → q.code f ≡ option_map make (p.code f)
  pub entries : q.entries ≡ p.entries

-- it has the same runs, at every count
abbrev pub KeepsRuns : (Tac → Tac) → Type 0
KeepsRuns make =
    (p q : Program) → IsMade make p q → (statics : List ℕ) (memory n : ℕ) (f : FnId) (arguments : List Value) (r : Run) →
    TacRun p statics memory n f arguments r → TacRun q statics memory n f arguments r

abbrev pub KeepsFits : (Tac → Tac) → Type 0
KeepsFits make = (code : Tac) → Fits code → Fits (make code)

abbrev pub KeepsCounted : (Tac → Tac) → Type 0
KeepsCounted make = (code : Tac) → Counted code → Counted (make code)

abbrev pub KeepsSized : (Tac → Tac) → Type 0
KeepsSized make = (code : Tac) → Sized code → Sized (make code)
