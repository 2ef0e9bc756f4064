-- Straight code, one piece after another.
use Rattle.std.proofs.Common.{◌≡◌, ◌≢◌, ℕ, ◌+◌, ◌*◌, ◌^◌, ◌<◌, Bool, true, false, List, [], ◌∷◌, ◌++◌, length, refl, sym, ap, ◌∙◌, subst}
use Rattle.std.proofs.Common.{arith}
use Rattle.std.specs.Prelude.{if◌then◌else◌, nat_eq}
use Rattle.std.proofs.lemmas.Bool.{eq-eqb, ne_eqb}
use Rattle.std.proofs.lemmas.List.{length-append}
use Rattle.rv_isa.specs.declared.instr.Instr.{Instr}
use Rattle.rv_isa.specs.declared.operand.Register.{Register}
use Rattle.rv_machine.specs.Word.{low}
use Rattle.rv_machine.specs.Machine.{State, GoesOn, act, at_with, value_at, written}
use Rattle.rv_operators.specs.Claims.{acts, then_on}
use Rattle.rv_operators.specs.Runs.{AreStraight}
use Rattle.rv_operators.proofs.Runs.{straight-both}
use Rattle.rv_operators.proofs.Sequences.{acts-both}

-- Straight code that changes T0 to T2 alone.
pub record Scratch (code : List Instr) (m after : State) : Type 0 where
  pub goes : acts code m ≡ GoesOn after
  pub behind : after.pc ≡ low (m.pc + 4 * length code)
  pub keeps : (r : ℕ) → r ≢ 5 → r ≢ 6 → r ≢ 7 → after.registers r ≡ m.registers r
  pub region : after.region ≡ m.region
  pub private : after.private ≡ m.private
  pub straight : AreStraight code

-- Code that puts a word into a register and changes no other but T2.
pub record Loads (d : ℕ) (code : List Instr) (m : State) (v : ℕ) : Type 0 where
  pub after : State
  pub goes : acts code m ≡ GoesOn after
  pub gives : after.registers d ≡ v
  pub behind : after.pc ≡ low (m.pc + 4 * length code)
  pub keeps : (r : ℕ) → r ≢ d → r ≢ 7 → after.registers r ≡ m.registers r
  pub region : after.region ≡ m.region
  pub private : after.private ≡ m.private
  pub straight : AreStraight code

pub low-small : (n : ℕ) → n < 2 ^ 64 → low n ≡ n
unfolding low
low-small n h = omega arith

pub low-below : (n : ℕ) → low n < 2 ^ 64
unfolding low
low-below n = omega arith

-- two stretches of code, one after the other
pub pc-both : (p a b n k : ℕ) → a ≡ low (p + 4 * n) → b ≡ low (a + 4 * k) → b ≡ low (p + 4 * (n + k))
unfolding low
pc-both p a b n k e h = omega arith

pub low-first : (p : ℕ) → low (p + 4) ≡ low (p + 4 * 1)
unfolding low
low-first p = omega arith

pub low-here : (p : ℕ) → p < 2 ^ 64 → p ≡ low (p + 4 * 0)
unfolding low
low-here p h = omega arith

low-both : (p n m : ℕ) → low (low (p + 4 * n) + 4 * m) ≡ low (p + 4 * (n + m))
unfolding low
low-both p n m = omega arith

pub behind-both : (a b : List Instr) (p q r : ℕ) → q ≡ low (p + 4 * length a) → r ≡ low (q + 4 * length b) → r ≡ low (p + 4 * length (a ++ b))
behind-both a b p q r e f = f ∙ (ap (λ n. low (n + 4 * length b)) e ∙ (low-both p (length a) (length b) ∙ ap (λ n. low (p + 4 * n)) (sym (length-append a b))))

pub goes-both : (a b : List Instr) (m n : State) (r : State) → acts a m ≡ GoesOn n → acts b n ≡ GoesOn r → acts (a ++ b) m ≡ GoesOn r
goes-both a b m n r e f = acts-both a b m ∙ (ap (λ x. then_on x (λ t. acts b t)) e ∙ f)

pub scratch-both : (a b : List Instr) (m n r : State) → Scratch a m n → Scratch b n r → Scratch (a ++ b) m r
scratch-both a b m n r h k = record {
  goes = goes-both a b m n r h.goes k.goes;
  behind = behind-both a b m.pc n.pc r.pc h.behind k.behind;
  keeps = λ x five six seven. k.keeps x five six seven ∙ h.keeps x five six seven;
  region = k.region ∙ h.region;
  private = k.private ∙ h.private;
  straight = straight-both a b h.straight k.straight;
}

-- no code
pub scratch-none : (m : State) → m.pc < 2 ^ 64 → Scratch [] m m
scratch-none m h = record {
  goes = refl;
  behind = low-here m.pc h;
  keeps = λ r five six seven. refl;
  region = refl;
  private = refl;
  straight = refl;
}

pub loads-five : (code : List Instr) (m : State) (v : ℕ) (l : Loads 5 code m v) → Scratch code m l.after
loads-five code m v l = record { goes = l.goes; behind = l.behind; keeps = λ r five six seven. l.keeps r five seven; region = l.region; private = l.private; straight = l.straight }

pub loads-six : (code : List Instr) (m : State) (v : ℕ) (l : Loads 6 code m v) → Scratch code m l.after
loads-six code m v l = record { goes = l.goes; behind = l.behind; keeps = λ r five six seven. l.keeps r six seven; region = l.region; private = l.private; straight = l.straight }

pub written-there : (registers : ℕ → ℕ) (d v : ℕ) → d ≢ 0 → written registers d v d ≡ v
written-there registers d v n =
    ap (λ b. if b then registers d else (if nat_eq d d then v else registers d)) (ne_eqb d 0 n) ∙ ap (λ b. if b then v else registers d) (eq-eqb d d refl)

either-same : (b : Bool) (x : ℕ) → (if b then x else x) ≡ x
either-same true x = refl
either-same false x = refl

pub written-elsewhere : (registers : ℕ → ℕ) (d v r : ℕ) → r ≢ d → written registers d v r ≡ registers r
written-elsewhere registers d v r n =
    ap (λ b. if nat_eq d 0 then registers r else (if b then v else registers r)) (ne_eqb r d n) ∙ either-same (nat_eq d 0) (registers r)

-- one instruction that writes a register
pub loads-one : (i : Instr) (m : State) (d v : ℕ) → d ≢ 0 → AreStraight (i ∷ []) → act i m ≡ GoesOn (at_with m (low (m.pc + 4)) d v) → Loads d (i ∷ []) m v
loads-one i m d v n s h = record {
  after = at_with m (low (m.pc + 4)) d v;
  goes = ap (λ x. then_on x (λ t. GoesOn t)) h;
  gives = written-there m.registers d v n;
  behind = low-first m.pc;
  keeps = λ r o p. written-elsewhere m.registers d v r o;
  region = refl;
  private = refl;
  straight = s;
}

-- scratch code, and then a load
pub then-loads : (d v : ℕ) (a b : List Instr) (m n : State) → ((r : ℕ) → r ≢ d → r ≢ 7 → n.registers r ≡ m.registers r) → Scratch a m n → Loads d b n v → Loads d (a ++ b) m v
then-loads d v a b m n k s l = record {
  after = l.after;
  goes = goes-both a b m n l.after s.goes l.goes;
  gives = l.gives;
  behind = behind-both a b m.pc n.pc l.after.pc s.behind l.behind;
  keeps = λ r o p. l.keeps r o p ∙ k r o p;
  region = l.region ∙ s.region;
  private = l.private ∙ s.private;
  straight = straight-both a b s.straight l.straight;
}

-- one load after another of the same register
pub loads-both : (d v w : ℕ) (a b : List Instr) (m : State) (l : Loads d a m v) → Loads d b l.after w → Loads d (a ++ b) m w
loads-both d v w a b m l k = record {
  after = k.after;
  goes = goes-both a b m l.after k.after l.goes k.goes;
  gives = k.gives;
  behind = behind-both a b m.pc l.after.pc k.after.pc l.behind k.behind;
  keeps = λ r o p. k.keeps r o p ∙ l.keeps r o p;
  region = k.region ∙ l.region;
  private = k.private ∙ l.private;
  straight = straight-both a b l.straight k.straight;
}

-- a load after one of T2
pub loads-past : (d v w : ℕ) (a b : List Instr) (m : State) (l : Loads 7 a m v) → Loads d b l.after w → Loads d (a ++ b) m w
loads-past d v w a b m l k = record {
  after = k.after;
  goes = goes-both a b m l.after k.after l.goes k.goes;
  gives = k.gives;
  behind = behind-both a b m.pc l.after.pc k.after.pc l.behind k.behind;
  keeps = λ r o p. k.keeps r o p ∙ l.keeps r p p;
  region = k.region ∙ l.region;
  private = k.private ∙ l.private;
  straight = straight-both a b l.straight k.straight;
}

-- the value is known by another name
pub loads-as : (d v w : ℕ) (code : List Instr) (m : State) → v ≡ w → Loads d code m v → Loads d code m w
loads-as d v w code m e l = subst (λ x. Loads d code m x) e l

-- a register by its number
pub register-value : (m : State) (r : Register) (n : ℕ) → r.number ≡ n → n ≢ 0 → value_at m r ≡ m.registers n
register-value m r n e o =
    ap (λ k. if nat_eq k 0 then 0 else m.registers k) e ∙ ap (λ b. if b then 0 else m.registers n) (ne_eqb n 0 o)

-- the register that was loaded
pub loaded-value : (m : State) (d : Register) → d.number ≢ 0 → value_at m d ≡ m.registers d.number
loaded-value m d o = register-value m d d.number refl o
