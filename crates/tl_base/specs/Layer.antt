-- What a layer means: a function of its task and of the answers that it was given, whose value is what shows outside.
use Rattle.std.specs.Prelude.{◌≡◌, ℕ, List}
use Rattle.tl_base.specs.declared.turn.Turn.{Turn}
use Rattle.tl_base.specs.declared.turn.Turn.TheVariants.{End, Ask, Spent}

-- a world, with the units that may still be paid
pub record State (W : Type 0) : Type 0 where
  pub world : W
  pub left : ℕ

-- an answer, with the state in which it is given
pub record Given (W A : Type 0) : Type 0 where
  pub answer : A
  pub state : State W

abbrev pub state : {W : Type 0} → W → ℕ → State W
state w n = record { world = w; left = n }

-- an answer in a state
abbrev pub at : {W A : Type 0} → A → State W → Given W A
at a s = record { answer = a; state = s }

abbrev pub given : {W A : Type 0} → A → W → ℕ → Given W A
given a w n = at a (state w n)

-- what shows at a layer's outside: an end, a payment above what is left, or the next question
pub data Seen (W Q E : Type 0) : Type 0 where
  Ended : (end : E) (s : State W) → Seen W Q E
  SpentAt : (s : State W) → Seen W Q E
  Asks : (question : Q) (s : State W) → Seen W Q E

-- what shows of a layer, given the answer with which it goes on, and those after it
abbrev pub Meaning : (W Q A E : Type 0) → Type 0
Meaning W Q A E = Given W A → List (Given W A) → Seen W Q E

-- a turn, with the state that it leaves
abbrev pub seen : {W Q E : Type 0} → Turn Q E → State W → Seen W Q E
seen (End e) s = Ended e s
seen (Ask q) s = Asks q s
seen Spent s = SpentAt s

-- a fact for a question
abbrev pub OnAsk : {Q E : Type 0} → Turn Q E → (Q → Type 0) → Type 0
OnAsk (End e) P = Unit {0}
OnAsk (Ask q) P = P q
OnAsk Spent P = Unit {0}

-- a fact for an end, and for a payment above what is left
abbrev pub UnlessAsk : {Q E : Type 0} → Turn Q E → Type 0 → Type 0
UnlessAsk (End e) P = P
UnlessAsk (Ask q) P = Unit {0}
UnlessAsk Spent P = P

-- one is the other, unless it asks
abbrev pub IsSameUnlessAsks : {W Q E : Type 0} → Seen W Q E → Seen W Q E → Type 0
IsSameUnlessAsks (Ended e s) o = o ≡ Ended e s
IsSameUnlessAsks (SpentAt s) o = o ≡ SpentAt s
IsSameUnlessAsks (Asks q s) o = Unit {0}
