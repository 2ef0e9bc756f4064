-- Ways of the machine's run, and what states on them share.
use Rattle.std.proofs.Common.{◌≡◌, ◌≢◌, ℕ, suc, ◌+◌, ◌*◌, ◌%◌, ◌^◌, ◌<◌, ◌≤◌, Bool, true, false, pos, List, [], ◌∷◌, ◌++◌, length, Option}
use Rattle.std.proofs.Common.{Some, refl, sym, ap, ◌∙◌, subst, arith}
use Rattle.std.specs.Prelude.{if◌then◌else◌, nat_eq, nat_le}
use Rattle.std.proofs.lemmas.Bool.{ne_eqb, le-leb, eq-eqb}
use Rattle.rv_isa.specs.declared.instr.Instr.{Instr}
use Rattle.rv_machine.specs.declared.stops.Stop.TheVariants.{Returned, TerraFault}
use Rattle.rv_machine.specs.Word.{low, word}
use Rattle.rv_machine.specs.Machine.{State, GoesOn, Throws, act, after_step, fetch, obeys, run_of, stands, step}
use Rattle.rv_operators.specs.Claims.{acts}
use Rattle.rv_operators.specs.Runs.{AreStraight, Stands}
use Rattle.rv_operators.proofs.Runs.{not-zero, one-step, straight-runs}
use Rattle.rv_select.specs.Shapes.{offset_if, offset_of}
use Rattle.rv_select.proofs.Straight.{Scratch}

-- In so many steps the run comes from one state to another, and writes nothing.
pub record Way (program : List (Option Instr)) (steps : ℕ) (m n : State) : Type 0 where
  pub runs : (more : ℕ) → run_of program m (steps + more) ≡ run_of program n more

-- Two states differ in pc and in T0 to T2 alone.
pub record Near (m n : State) : Type 0 where
  pub keeps : (r : ℕ) → r ≢ 5 → r ≢ 6 → r ≢ 7 → n.registers r ≡ m.registers r
  pub region : n.region ≡ m.region
  pub private : n.private ≡ m.private

pub near-same : (m : State) → Near m m
near-same m = record { keeps = λ r five six seven. refl; region = refl; private = refl }

pub near-both : (m n r : State) → Near m n → Near n r → Near m r
near-both m n r h k = record {
  keeps = λ x five six seven. k.keeps x five six seven ∙ h.keeps x five six seven;
  region = k.region ∙ h.region;
  private = k.private ∙ h.private;
}

pub scratch-near : (code : List Instr) (m n : State) → Scratch code m n → Near m n
scratch-near code m n s = record { keeps = s.keeps; region = s.region; private = s.private }

pub way-none : (program : List (Option Instr)) (m : State) → Way program 0 m m
way-none program m = record { runs = λ more. let e : 0 + more ≡ more = omega arith in ap (run_of program m) e }

pub way-both : (program : List (Option Instr)) (a b : ℕ) (m n r : State) → Way program a m n → Way program b n r → Way program (a + b) m r
way-both program a b m n r h k = record {
  runs = λ more. let e : a + b + more ≡ a + (b + more) = omega arith in ap (run_of program m) e ∙ (h.runs (b + more) ∙ k.runs more);
}

-- straight code is a way
pub straight-way : (program : List (Option Instr)) (code : List Instr) (m n : State) → Stands program m.pc code → AreStraight code → acts code m ≡ GoesOn n →
    Way program (length code) m n
straight-way program code m n there plain goes = record { runs = straight-runs program code m n there plain goes }

-- and so is one instruction
pub step-way : (program : List (Option Instr)) (i : Instr) (m n : State) → fetch program m.pc ≡ Some (Some i) → act i m ≡ GoesOn n → Way program 1 m n
step-way program i m n there goes = record {
  runs = λ more. let e : 1 + more ≡ suc more = omega arith in ap (run_of program m) e ∙ one-step program i m n there goes more;
}

-- an instruction that ends the run
pub throw-step : (program : List (Option Instr)) (i : Instr) (s : State) (kind place more : ℕ) → fetch program s.pc ≡ Some (Some i) → act i s ≡ Throws kind place →
    run_of program s (suc more) ≡ stands (TerraFault kind place) s
throw-step program i s kind place more there e =
    ap (λ b. if b then stands (Returned (s.registers 10)) s else after_step (step program s) s (λ next. run_of program next more)) (ne_eqb s.pc 0 (not-zero program s.pc i there))
    ∙ (ap (λ found. after_step (obeys found s) s (λ next. run_of program next more)) there ∙ ap (λ m. after_step m s (λ next. run_of program next more)) e)

-- the two parts of code that stands somewhere
pub stands-front : (program : List (Option Instr)) (pc : ℕ) (a b : List Instr) → Stands program pc (a ++ b) → Stands program pc a
stands-front program pc [] b h = tt
stands-front program pc (i ∷ a) b h = (h.0, stands-front program (low (pc + 4)) a b h.1)

pub low-none : (p : ℕ) → p < 2 ^ 64 → low (p + 4 * 0) ≡ p
unfolding low
low-none p h = omega arith

low-next : (p n : ℕ) → low (low (p + 4) + 4 * n) ≡ low (p + 4 * suc n)
unfolding low
low-next p n = omega arith

low-word : (p : ℕ) → low p < 2 ^ 64
unfolding low
low-word p = omega arith

pub stands-back : (program : List (Option Instr)) (pc : ℕ) (a b : List Instr) → pc < 2 ^ 64 → Stands program pc (a ++ b) → Stands program (low (pc + 4 * length a)) b
stands-back program pc [] b p h = subst (λ q. Stands program q b) (sym (low-none pc p)) h
stands-back program pc (i ∷ a) b p h =
    subst (λ q. Stands program q b) (low-next pc (length a)) (stands-back program (low (pc + 4)) a b (low-word (pc + 4)) h.1)

-- the offset of a branch
offset-if : (n : ℕ) (a b : Bool) (e : nat_le n 4094 ≡ a) (g : nat_eq (n % 2) 0 ≡ b) → a ≡ true → b ≡ true → (offset_if n a b e g).bytes ≡ pos n
offset-if n true true e g h k = refl
offset-if n false b e g h k = cc
offset-if n true false e g h k = cc

pub offset-is : (n : ℕ) → n ≤ 4094 → n % 2 ≡ 0 → word (offset_of n).bytes ≡ n
offset-is n h k = ap word (offset-if n (nat_le n 4094) (nat_eq (n % 2) 0) refl refl (le-leb n 4094 h) (eq-eqb (n % 2) 0 k))

-- a state at another address
abbrev pub at_pc : State → ℕ → State
at_pc m pc = record { pc = pc; registers = m.registers; region = m.region; private = m.private }

pub near-pc : (m : State) (pc : ℕ) → Near m (at_pc m pc)
near-pc m pc = record { keeps = λ r five six seven. refl; region = refl; private = refl }
