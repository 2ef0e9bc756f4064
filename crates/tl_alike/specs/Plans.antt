-- Plans that do the same, whichever tree they were made of; and layers that mean the same.
use Rattle.std.specs.Prelude.{◌≡◌, List}
use Rattle.tl_base.specs.Layer.{Given, Seen, Ended, SpentAt, Asks, Meaning}
use Rattle.tl_base.specs.Plan.{Plan, Give, Do, AskFor, Read, Write, Pay}

-- Two plans do the same: they end, do jobs, ask, read, write and pay alike, whatever they are answered, do only such jobs and ask only such
-- questions.
abbrev pub DoSame : {J W Q A R : Type 0} → (J → Type 0) → (Q → Type 0) → Plan J W Q A R → Plan J W Q A R → Type 0
DoSame IsJob IsQuestion (Give r) (Give other) = r ≡ other
DoSame IsJob IsQuestion (Do job go) (Do other goes) =
    (job ≡ other) × IsJob job × ((r : _) → DoSame IsJob IsQuestion (go r) (goes r))
DoSame IsJob IsQuestion (AskFor q go) (AskFor other goes) =
    (q ≡ other) × IsQuestion q × ((a : _) → DoSame IsJob IsQuestion (go a) (goes a))
DoSame IsJob IsQuestion (Read go) (Read goes) = (w : _) → DoSame IsJob IsQuestion (go w) (goes w)
DoSame IsJob IsQuestion (Write w rest) (Write other more) = (w ≡ other) × DoSame IsJob IsQuestion rest more
DoSame IsJob IsQuestion (Pay n rest) (Pay other more) = (n ≡ other) × DoSame IsJob IsQuestion rest more
DoSame IsJob IsQuestion _ _ = ⊥

-- what shows asks only such questions
abbrev pub AsksOnly : {W Q E : Type 0} → (Q → Type 0) → Seen W Q E → Type 0
AsksOnly IsQuestion (Ended e s) = Unit {0}
AsksOnly IsQuestion (SpentAt s) = Unit {0}
AsksOnly IsQuestion (Asks q s) = IsQuestion q

-- Two layers mean the same, and ask only such questions.
abbrev pub MeanSame : {W Q A E : Type 0} → (Q → Type 0) → Meaning W Q A E → Meaning W Q A E → Type 0
MeanSame {W} {Q} {A} IsQuestion one other =
    (first : Given W A) (later : List (Given W A))
    → (one first later ≡ other first later) × AsksOnly IsQuestion (one first later)
