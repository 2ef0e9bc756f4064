-- Sequences by their parts.
use Rattle.std.proofs.Common.{◌≡◌, ◌≢◌, ℕ, ◌+◌, ◌*◌, ◌^◌, ◌<◌, List, [], ◌∷◌, ◌++◌, suc, length, refl, sym, ap, ◌∙◌, arith}
use Rattle.std.specs.Prelude.{Bool, true, false, if◌then◌else◌, nat_eq}
use Rattle.std.proofs.lemmas.Bool.{eq-eqb, ne_eqb}
use Rattle.std.proofs.lemmas.List.{length-append}
use Rattle.rv_isa.specs.declared.instr.Instr.{Instr}
use Rattle.rv_isa.specs.declared.operand.Register.{Register}
use Rattle.rv_machine.specs.Word.{low}
use Rattle.rv_machine.specs.Machine.{State, Moved, GoesOn, Writes, Faults, Throws, act, at_with, value_at, written}
use Rattle.rv_operators.specs.Claims.{acts, then_on, Leads}

-- the next instruction, with this word in a register
abbrev pub next : Register → State → ℕ → State
next d s v = at_with s (low (s.pc + 4)) d.number v

low-twice : (p n m : ℕ) → m ≡ n + 1 → low (low (p + 4 * n) + 4) ≡ low (p + 4 * m)
unfolding low
low-twice p n m e = omega arith

low-first : (p : ℕ) → low (p + 4) ≡ low (p + 4 * 1)
unfolding low
low-first p = omega arith

-- a register after a write to it, and one after a write to another
written-there : (f : ℕ → ℕ) (d v : ℕ) → d ≢ 0 → written f d v d ≡ v
written-there f d v n =
    ap (λ b. if b then f d else (if nat_eq d d then v else f d)) (ne_eqb d 0 n) ∙ ap (λ b. if b then v else f d) (eq-eqb d d refl)

either-same : (b : Bool) (x : ℕ) → (if b then x else x) ≡ x
either-same true x = refl
either-same false x = refl

written-elsewhere : (f : ℕ → ℕ) (d v r : ℕ) → r ≢ d → written f d v r ≡ f r
written-elsewhere f d v r n =
    ap (λ b. if nat_eq d 0 then f r else (if b then v else f r)) (ne_eqb r d n) ∙ either-same (nat_eq d 0) (f r)

-- what is read of a register
pub read-is : (s : State) (a : Register) → a.number ≢ 0 → value_at s a ≡ s.registers a.number
read-is s a n = ap (λ b. if b then 0 else s.registers a.number) (ne_eqb a.number 0 n)

pub read-there : (s : State) (d : Register) (v : ℕ) → d.number ≢ 0 → value_at (next d s v) d ≡ v
read-there s d v n = read-is (next d s v) d n ∙ written-there s.registers d.number v n

pub read-elsewhere : (s t : State) (a : Register) → t.registers a.number ≡ s.registers a.number → value_at t a ≡ value_at s a
read-elsewhere s t a e = ap (λ v. if nat_eq a.number 0 then 0 else v) e

pub one : (d : Register) (i : Instr) (s : State) (v result : ℕ) → d.number ≢ 0 → act i s ≡ GoesOn (next d s v) → v ≡ result →
    Leads d.number (i ∷ []) s result
one d i s v result n h e = record {
  after = next d s v;
  goes = ap (λ m. then_on m (λ t. GoesOn t)) h;
  gives = written-there s.registers d.number v n ∙ e;
  behind = low-first s.pc;
  keeps = λ r other six. written-elsewhere s.registers d.number v r other;
  region = refl;
  private = refl;
}

-- two instructions, of which the second goes by what the first wrote
pub two : (d : Register) (i j : Instr) (s : State) (v : ℕ) (f : ℕ → ℕ) (result : ℕ) → d.number ≢ 0 → act i s ≡ GoesOn (next d s v) →
    ((t : State) → act j t ≡ GoesOn (next d t (f (value_at t d)))) → f v ≡ result → Leads d.number (i ∷ j ∷ []) s result
two d i j s v f result n h k e = record {
  after = next d (next d s v) (f (value_at (next d s v) d));
  goes = ap (λ m. then_on m (λ t. then_on (act j t) (λ u. GoesOn u))) h ∙ ap (λ m. then_on m (λ u. GoesOn u)) (k (next d s v));
  gives = written-there (next d s v).registers d.number (f (value_at (next d s v) d)) n ∙ (ap f (read-there s d v n) ∙ e);
  behind = ap (λ p. low (p + 4)) (low-first s.pc) ∙ low-twice s.pc 1 2 refl;
  keeps = λ r other six.
      written-elsewhere (next d s v).registers d.number (f (value_at (next d s v) d)) r other
      ∙ written-elsewhere s.registers d.number v r other;
  region = refl;
  private = refl;
}

low-more : (p n : ℕ) → low (low (p + 4) + 4 * n) ≡ low (p + 4 * suc n)
unfolding low
low-more p n = omega arith

-- an instruction that writes T1 before a sequence
pub six-first : (d : ℕ) (i : Instr) (rest : List Instr) (s : State) (v result : ℕ) → act i s ≡ GoesOn (at_with s (low (s.pc + 4)) 6 v) →
    Leads d rest (at_with s (low (s.pc + 4)) 6 v) result → Leads d (i ∷ rest) s result
six-first d i rest s v result h l = record {
  after = l.after;
  goes = ap (λ m. then_on m (λ t. acts rest t)) h ∙ l.goes;
  gives = l.gives;
  behind = l.behind ∙ low-more s.pc (length rest);
  keeps = λ r other six. l.keeps r other six ∙ ap (λ b. if b then v else s.registers r) (ne_eqb r 6 six);
  region = l.region;
  private = l.private;
}

-- one sequence after another
then-both : (m : Moved) (f g h : State → Moved) → ((t : State) → f t ≡ then_on (g t) h) → then_on m f ≡ then_on (then_on m g) h
then-both (GoesOn t) f g h e = e t
then-both (Writes t bytes) f g h e = refl
then-both (Faults kind) f g h e = refl
then-both (Throws kind place) f g h e = refl

pub acts-both : (a b : List Instr) (s : State) → acts (a ++ b) s ≡ then_on (acts a s) (λ t. acts b t)
acts-both [] b s = refl
acts-both (i ∷ is) b s = then-both (act i s) (λ t. acts (is ++ b) t) (λ t. acts is t) (λ t. acts b t) (λ t. acts-both is b t)

low-both : (p n m : ℕ) → low (low (p + 4 * n) + 4 * m) ≡ low (p + 4 * (n + m))
unfolding low
low-both p n m = omega arith

pub then-code : (d : ℕ) (a b : List Instr) (s : State) (v result : ℕ) (l : Leads d a s v) → Leads d b l.after result → Leads d (a ++ b) s result
then-code d a b s v result l k = record {
  after = k.after;
  goes = acts-both a b s ∙ (ap (λ m. then_on m (λ t. acts b t)) l.goes ∙ k.goes);
  gives = k.gives;
  behind = k.behind ∙ (ap (λ p. low (p + 4 * length b)) l.behind ∙ (low-both s.pc (length a) (length b) ∙ ap (λ n. low (s.pc + 4 * n)) (sym (length-append a b))));
  keeps = λ r other six. k.keeps r other six ∙ l.keeps r other six;
  region = k.region ∙ l.region;
  private = k.private ∙ l.private;
}

pub low-here : (p : ℕ) → p < 2 ^ 64 → p ≡ low (p + 4 * 0)
unfolding low
low-here p h = omega arith
