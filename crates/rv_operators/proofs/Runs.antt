-- Straight code in runs of the machine.
use Rattle.std.proofs.Common.{◌≡◌, ◌≢◌, ℕ, suc, ◌+◌, ◌-◌, ◌*◌, ◌/◌, ◌%◌, ◌^◌, ◌<◌, ◌≤◌, Bool, true, false, ◌&&◌, List, [], ◌∷◌, ◌++◌}
use Rattle.std.proofs.Common.{length, map, Option, Some, None, refl, sym, ap, ◌∙◌, subst, arith}
use Rattle.std.specs.Prelude.{if◌then◌else◌, nat_eq, slice_get}
use Rattle.std.specs.List.{list_all}
use Rattle.std.proofs.lemmas.Bool.{le-ltb, eq-eqb, ne_eqb}
use Rattle.rv_isa.specs.declared.instr.Instr.{Instr}
use Rattle.rv_isa.specs.declared.instr.Instr.TheVariants.{Lui, Auipc, Jal, Jalr, Branch, Load, Store, RegisterImmediate, Shift, Addiw}
use Rattle.rv_isa.specs.declared.instr.Instr.TheVariants.{ShiftWord, RegisterRegister, RegisterRegisterWord, Fence, Ecall, Ebreak}
use Rattle.rv_isa.specs.declared.operation.LoadOp.{LoadOp}
use Rattle.rv_isa.specs.declared.operand.Register.{Register}
use Rattle.rv_isa.specs.Finds.{Finds}
use Rattle.rv_isa.specs.Table.{word_of}
use Rattle.rv_isa.proofs.OneWord.{word_of-same}
use Rattle.rv_machine.specs.declared.memory.Place.{Place}
use Rattle.rv_machine.specs.declared.memory.Place.TheVariants.{Region, Private}
use Rattle.rv_machine.specs.declared.stops.Stop.TheVariants.{Returned}
use Rattle.rv_machine.specs.Word.{low}
use Rattle.rv_machine.specs.Machine.{State, Moved, GoesOn, Writes, Faults, Throws, act, fetch, obeys, step, run_of, after_step, stands}
use Rattle.rv_machine.specs.Machine.{loads_from, stores_to}
use Rattle.rv_machine.specs.Program.{IsProgram}
use Rattle.rv_operators.specs.Claims.{acts, then_on}
use Rattle.rv_operators.specs.Runs.{is_straight, AreStraight, Stands, StraightCodeRuns, WordsStand}

abbrev state-of : State → Moved → State
state-of s (GoesOn t) = t
state-of s (Writes t bytes) = t
state-of s (Faults kind) = s
state-of s (Throws kind place) = s

-- where an instruction goes on
goes-behind : (s t : State) (m : Moved) → m ≡ GoesOn t → (state-of s m).pc ≡ low (s.pc + 4) → t.pc ≡ low (s.pc + 4)
goes-behind s t m e h = sym (ap (λ n. (state-of s n).pc) e) ∙ h

load-behind : (s t : State) (op : LoadOp) (d : Register) (place : Option Place) → loads_from s op d place ≡ GoesOn t → t.pc ≡ low (s.pc + 4)
load-behind s t op d None e = cc
load-behind s t op d (Some place) e = goes-behind s t _ e refl

store-behind : (s t : State) (bytes : List ℕ) (place : Option Place) → stores_to s bytes place ≡ GoesOn t → t.pc ≡ low (s.pc + 4)
store-behind s t bytes None e = cc
store-behind s t bytes (Some (Region at)) e = goes-behind s t _ e refl
store-behind s t bytes (Some (Private at)) e = goes-behind s t _ e refl

straight-behind : (i : Instr) (s t : State) → is_straight i ≡ true → act i s ≡ GoesOn t → t.pc ≡ low (s.pc + 4)
straight-behind (Lui rd imm) s t h e = goes-behind s t _ e refl
straight-behind (Auipc rd imm) s t h e = goes-behind s t _ e refl
straight-behind (Load op rd rs1 offset) s t h e = load-behind s t op rd _ e
straight-behind (Store op rs1 rs2 offset) s t h e = store-behind s t _ _ e
straight-behind (RegisterImmediate op rd rs1 imm) s t h e = goes-behind s t _ e refl
straight-behind (Shift op rd rs1 count) s t h e = goes-behind s t _ e refl
straight-behind (Addiw rd rs1 imm) s t h e = goes-behind s t _ e refl
straight-behind (ShiftWord op rd rs1 count) s t h e = goes-behind s t _ e refl
straight-behind (RegisterRegister op rd rs1 rs2) s t h e = goes-behind s t _ e refl
straight-behind (RegisterRegisterWord op rd rs1 rs2) s t h e = goes-behind s t _ e refl
straight-behind (Jal rd offset) s t h e = cc
straight-behind (Jalr rd rs1 offset) s t h e = cc
straight-behind (Branch condition rs1 rs2 offset) s t h e = cc
straight-behind (Fence rd rs1 fields) s t h e = cc
straight-behind Ecall s t h e = cc
straight-behind Ebreak s t h e = cc

-- nothing stands at address 0
pub not-zero : (program : List (Option Instr)) (pc : ℕ) (i : Instr) → fetch program pc ≡ Some (Some i) → pc ≢ 0
unfolding fetch
not-zero program pc i there z = let e : None ≡ Some (Some i) = sym (ap (fetch program) z) ∙ there in cc

-- one step of a run
pub one-step : (program : List (Option Instr)) (i : Instr) (s t : State) → fetch program s.pc ≡ Some (Some i) → act i s ≡ GoesOn t → (more : ℕ) →
    run_of program s (suc more) ≡ run_of program t more
one-step program i s t there e more =
    ap (λ b. if b then stands (Returned (s.registers 10)) s else after_step (step program s) s (λ next. run_of program next more)) (ne_eqb s.pc 0 (not-zero program s.pc i there))
    ∙ (ap (λ found. after_step (obeys found s) s (λ next. run_of program next more)) there ∙ ap (λ m. after_step m s (λ next. run_of program next more)) e)

-- an instruction that goes on, where others come after it
goes-first : (is : List Instr) (m : Moved) (after : State) → then_on m (λ t. acts is t) ≡ GoesOn after → (t : State) × (m ≡ GoesOn t) × (acts is t ≡ GoesOn after)
goes-first is (GoesOn t) after e = (t, refl, e)
goes-first is (Writes t bytes) after e = cc
goes-first is (Faults kind) after e = cc
goes-first is (Throws kind place) after e = cc

both-true : (a b : Bool) → (a && b) ≡ true → (a ≡ true) × (b ≡ true)
both-true true b e = (refl, e)
both-true false b e = cc

pub straight-runs : StraightCodeRuns
straight-runs program [] s after there plain goes more =
    let e : s ≡ after = cc in
    let z : 0 + more ≡ more = omega arith in
    ap (λ t. run_of program t (0 + more)) e ∙ ap (λ n. run_of program after n) z
straight-runs program (i ∷ is) s after there plain goes more =
    let first : (t : State) × (act i s ≡ GoesOn t) × (acts is t ≡ GoesOn after) = goes-first is (act i s) after goes in
    let t : State = first.0 in
    let both : (is_straight i ≡ true) × (list_all is_straight is ≡ true) = both-true (is_straight i) (list_all is_straight is) plain in
    let behind : t.pc ≡ low (s.pc + 4) = straight-behind i s t both.0 first.1 in
    let count : suc (length is) + more ≡ suc (length is + more) = omega arith in
    ap (λ n. run_of program s n) count
    ∙ (one-step program i s t there.0 first.1 (length is + more)
    ∙ straight-runs program is t after (subst (λ p. Stands program p is) (sym behind) there.1) both.1 first.2 more)

pub straight-both : (a b : List Instr) → AreStraight a → AreStraight b → AreStraight (a ++ b)
straight-both [] b h k = k
straight-both (i ∷ is) b h k =
    let both : (is_straight i ≡ true) × (list_all is_straight is ≡ true) = both-true (is_straight i) (list_all is_straight is) h in
    ap (λ t. t && list_all is_straight (is ++ b)) both.0 ∙ straight-both is b both.1 k

-- the instruction of a word of text
in-text : (before : List ℕ) (rest : List ℕ) (program : List (Option Instr)) → IsProgram (before ++ rest) program →
    (p : List (Option Instr)) × IsProgram rest p × ((k : ℕ) → slice_get program (length before + k) ≡ slice_get p k)
in-text [] rest program h = (program, h, λ k. let z : 0 + k ≡ k = omega arith in ap (slice_get program) z)
in-text (w ∷ before) rest [] h = absurd h
in-text (w ∷ before) rest (found ∷ program) h =
    let below = in-text before rest program h.1 in (
      below.0,
      below.1,
      λ k.
          let e : suc (length before) + k ≡ suc (length before + k) = omega arith in
          ap (slice_get (found ∷ program)) e ∙ below.2 k,
    )

found-is : (i : Instr) (found : Option Instr) → Finds word_of (word_of i) found → found ≡ Some i
found-is i (Some j) h = ap Some (word_of-same j i h)
found-is i None h = absurd (h i refl)

fetch-is : (program : List (Option Instr)) (n : ℕ) → fetch program (65536 + 4 * n) ≡ slice_get program n
unfolding fetch
fetch-is program n =
    let high : 65536 ≤ 65536 + 4 * n = omega arith in
    let even : (65536 + 4 * n) % 4 ≡ 0 = omega arith in
    let index : (65536 + 4 * n - 65536) / 4 ≡ n = omega arith in
    ap (λ b. if b then None else (if nat_eq ((65536 + 4 * n) % 4) 0 then slice_get program ((65536 + 4 * n - 65536) / 4) else None)) (le-ltb (65536 + 4 * n) 65536 high)
    ∙ (ap (λ b. if b then slice_get program ((65536 + 4 * n - 65536) / 4) else None) (eq-eqb ((65536 + 4 * n) % 4) 0 even) ∙ ap (slice_get program) index)

next-word : (n : ℕ) → 65536 + 4 * (n + 1) < 2 ^ 64 → low (65536 + 4 * n + 4) ≡ 65536 + 4 * (n + 1)
unfolding low
next-word n h = omega arith

-- no instructions stand anywhere
moved : (is : List Instr) (program : List (Option Instr)) (a b : ℕ) → (0 < length is → a ≡ b) → Stands program b is → Stands program a is
moved [] program a b e h = tt
moved (i ∷ is) program a b e h = subst (λ pc. Stands program pc (i ∷ is)) (sym (e (omega arith))) h

stand-from : (code : List Instr) (rest : List ℕ) (program p : List (Option Instr)) (n : ℕ) → IsProgram (map word_of code ++ rest) p →
    ((k : ℕ) → slice_get program (n + k) ≡ slice_get p k) → 65536 + 4 * (n + length code) ≤ 2 ^ 64 → Stands program (65536 + 4 * n) code
stand-from [] rest program p n h f short = tt
stand-from (i ∷ is) rest program [] n h f short = absurd h
stand-from (i ∷ is) rest program (found ∷ p) n h f short =
    let z : n + 0 ≡ n = omega arith in
    let here : slice_get program n ≡ Some found = sym (ap (slice_get program) z) ∙ f 0 in (
      fetch-is program n ∙ (here ∙ ap Some (found-is i found h.0)),
      moved is program (low (65536 + 4 * n + 4)) (65536 + 4 * (n + 1)) (λ some. next-word n (omega arith))
          (stand-from is rest program p (n + 1) h.1
          (λ k. let q : n + 1 + k ≡ n + suc k = omega arith in ap (slice_get program) q ∙ f (suc k)) (omega arith)),
    )

pub words-stand : WordsStand
words-stand before rest code program h short =
    let part = in-text before (map word_of code ++ rest) program h in
    stand-from code rest program part.0 (length before) part.1 part.2 short
