-- What a straight sequence of instructions does, by the machine's definition.
use Rattle.std.specs.Prelude.{◌≡◌, ◌≢◌, ℕ, ◌+◌, ◌*◌, ◌^◌, ◌<◌, true, List, [], ◌∷◌, length}
use Rattle.rv_isa.specs.declared.instr.Instr.{Instr}
use Rattle.rv_isa.specs.declared.operand.Register.{Register}
use Rattle.rv_machine.specs.Word.{low}
use Rattle.rv_machine.specs.Machine.{State, Moved, GoesOn, Writes, Faults, Throws, act, value_at}
use Rattle.terra_words.specs.declared.words.Width.{Width}
use Rattle.terra_words.specs.declared.words.BinaryOperator.{BinaryOperator}
use Rattle.terra_words.specs.Words.{wrapped, applied, divides}

abbrev pub then_on : Moved → (State → Moved) → Moved
then_on (GoesOn s) go = go s
then_on (Writes s bytes) go = Writes s bytes
then_on (Faults kind) go = Faults kind
then_on (Throws kind place) go = Throws kind place

-- one instruction after the other
abbrev pub acts : List Instr → State → Moved
acts [] s = GoesOn s
acts (i ∷ is) s = then_on (act i s) (λ t. acts is t)

-- The sequence comes from a state to the address behind it, with this word in a register. It changes no other register but T1, and no
-- memory.
pub record Leads (d : ℕ) (code : List Instr) (s : State) (result : ℕ) : Type 0 where
  pub after : State
  pub goes : acts code s ≡ GoesOn after
  pub gives : after.registers d ≡ result
  pub behind : after.pc ≡ low (s.pc + 4 * length code)
  pub keeps : (r : ℕ) → r ≢ d → r ≢ 6 → after.registers r ≡ s.registers r
  pub region : after.region ≡ s.region
  pub private : after.private ≡ s.private

-- From any words in a and b, of which a divisor isn't zero, it leads to what the operator gives of them at the width, in d.
abbrev pub Computes : List Instr → (d a b : Register) → Width → BinaryOperator → Type 0
Computes code d a b w op =
    (s : State) → value_at s a < 2 ^ 64 → value_at s b < 2 ^ 64 →
    (divides op ≡ true → value_at s b ≢ 0) → Leads d.number code s (applied w op (value_at s a) (value_at s b))

-- From any word in d it leads to the word of its low bits.
abbrev pub Cuts : List Instr → Register → Width → Type 0
Cuts code d w = (s : State) → value_at s d < 2 ^ 64 → s.pc < 2 ^ 64 → Leads d.number code s (wrapped w (value_at s d))
