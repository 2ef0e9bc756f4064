-- The faults of runs: their kinds are those that lines have, and their places are read back.
use Rattle.std.proofs.Common.{◌≡◌, ℕ, zero, suc, ◌+◌, ◌*◌, ◌<◌, ◌≤◌, Bool, true, false, List, Option, Some, None}
use Rattle.std.proofs.Common.{refl, ap₂, arith, nat_le}
use Rattle.std.proofs.lemmas.Bool.{and_parts}
use Rattle.std.proofs.lemmas.Bool.Decides.{nat_tests}
use Rattle.std.specs.Prelude.{◌^◌, ◌/◌, ◌%◌, ◌&&◌, nat_eq, nat_lt, if◌then◌else◌}
use Rattle.tl_base.specs.declared.place.Place.{Place}
use Rattle.rv_isa.specs.declared.instr.Instr.{Instr}
use Rattle.rv_isa.specs.declared.instr.Instr.TheVariants.{Lui, Auipc, Jal, Jalr, Branch, Load, Store, RegisterImmediate, Shift, Addiw}
use Rattle.rv_isa.specs.declared.instr.Instr.TheVariants.{ShiftWord, RegisterRegister, RegisterRegisterWord, Fence, Ecall, Ebreak}
use Rattle.rv_isa.specs.declared.operand.Register.{Register}
use Rattle.rv_isa.specs.declared.operation.LoadOp.{LoadOp}
use Rattle.rv_machine.specs.declared.stops.Stop.{Stop}
use Rattle.rv_machine.specs.declared.stops.Stop.TheVariants as stops
use Rattle.rv_machine.specs.declared.memory.Place.{Place as Spot}
use Rattle.rv_machine.specs.declared.memory.Place.TheVariants as spots
use Rattle.rv_machine.specs.Machine.{State, Moved, GoesOn, Writes, Faults, Throws, Ran, stands, after_step, unless_returned}
use Rattle.rv_machine.specs.Machine.{loads_from, stores_to, writes_from, write_call, throw_call, calls, act, obeys, fetch, step, run_of}
use Rattle.rv_machine.specs.Machine.{returned}
use Rattle.rv_select.specs.Shapes.{place_number}
use Rattle.terra_term.specs.WellTyped.{is_placed}
use Rattle.terrac_call.specs.Exec.{place_of}

-- ---- kinds

-- the kind of a fault of the program is from 1 to 6
abbrev IsFew : Moved → Type 0
IsFew (Throws kind place) = kind ≤ 6
IsFew moved = Unit {0}

abbrev pub IsFewStop : Stop → Type 0
IsFewStop (stops.TerraFault kind place) = kind ≤ 6
IsFewStop stop = Unit {0}

few_if : (b : Bool) (x y : Moved) → (b ≡ true → IsFew x) → IsFew y → IsFew (if b then x else y)
few_if true x y h k = h refl
few_if false x y h k = k

few_load : (s : State) (op : LoadOp) (d : Register) (o : Option Spot) → IsFew (loads_from s op d o)
few_load s op d None = tt
few_load s op d (Some place) = tt

few_store : (s : State) (bytes : List ℕ) (o : Option Spot) → IsFew (stores_to s bytes o)
few_store s bytes None = tt
few_store s bytes (Some (spots.Region at)) = tt
few_store s bytes (Some (spots.Private at)) = tt

few_write : (s : State) (o : Option Spot) → IsFew (writes_from s o)
few_write s None = tt
few_write s (Some place) = tt

few_call : (s : State) → IsFew (calls s)
few_call s =
    few_if (nat_eq (s.registers 17) 64) (write_call s) (if nat_eq (s.registers 17) 1024 then throw_call s else Faults _)
    (λ _. few_if (nat_eq (s.registers 10) 1) (if nat_eq (s.registers 12) 0 then GoesOn (returned s) else writes_from s _) (Faults _)
    (λ _. few_if (nat_eq (s.registers 12) 0) (GoesOn (returned s)) (writes_from s _) (λ _. tt) (few_write s _)) tt)
    (few_if (nat_eq (s.registers 17) 1024) (throw_call s) (Faults _)
    (λ _. few_if (nat_le 1 (s.registers 10) && nat_le (s.registers 10) 6) (Throws (s.registers 10) (s.registers 11)) (Faults _)
    (λ is. at_most (s.registers 10) (and_parts (nat_le 1 (s.registers 10)) (nat_le (s.registers 10) 6) is).1) tt) tt)
  where
    at_most : (n : ℕ) → nat_le n 6 ≡ true → n ≤ 6
    at_most n is = grind (arith, nat_tests)

few_act : (i : Instr) (s : State) → IsFew (act i s)
few_act (Lui rd imm) s = tt
few_act (Auipc rd imm) s = tt
few_act (Jal rd offset) s = tt
few_act (Jalr rd rs1 offset) s = tt
few_act (Branch condition rs1 rs2 offset) s = tt
few_act (Load op rd rs1 offset) s = few_load s op rd _
few_act (Store op rs1 rs2 offset) s = few_store s _ _
few_act (RegisterImmediate op rd rs1 imm) s = tt
few_act (Shift op rd rs1 count) s = tt
few_act (Addiw rd rs1 imm) s = tt
few_act (ShiftWord op rd rs1 count) s = tt
few_act (RegisterRegister op rd rs1 rs2) s = tt
few_act (RegisterRegisterWord op rd rs1 rs2) s = tt
few_act (Fence rd rs1 fields) s = tt
few_act Ecall s = few_call s
few_act Ebreak s = tt

few_obeyed : (o : Option (Option Instr)) (s : State) → IsFew (obeys o s)
few_obeyed None s = tt
few_obeyed (Some None) s = tt
few_obeyed (Some (Some i)) s = few_act i s

few_after : (moved : Moved) (s : State) (go : State → Ran) → IsFew moved → ((next : State) → IsFewStop (go next).stop)
    → IsFewStop (after_step moved s go).stop
few_after (GoesOn next) s go h k = k next
few_after (Writes next bytes) s go h k = k next
few_after (Faults kind) s go h k = tt
few_after (Throws kind place) s go h k = h

few_unless : (s : State) (other : Ran) → IsFewStop other.stop → IsFewStop (unless_returned s other).stop
few_unless s other h = by (nat_eq s.pc 0)
  where
    by : (b : Bool) → IsFewStop (if b then stands (stops.Returned (s.registers 10)) s else other).stop
    by true = tt
    by false = h

pub few_kinds : (program : List (Option Instr)) (steps : ℕ) (s : State) → IsFewStop (run_of program s steps).stop
few_kinds program zero s = few_unless s (stands stops.Unfinished s) tt
few_kinds program (suc steps) s =
    few_unless s (after_step (step program s) s (λ next. run_of program next steps))
    (few_after (step program s) s (λ next. run_of program next steps) (few_obeyed (fetch program s.pc) s) (few_kinds program steps))

-- ---- places

-- a place with numbers of 32 bits is read back from its number
pub read_back : (at : Place) → is_placed at ≡ true → place_of (place_number at) ≡ at
read_back at is =
    let parts = and_parts (nat_lt at.line (2 ^ 32)) (nat_lt at.word (2 ^ 32)) is in
    let small : at.word < 2 ^ 32 = grind (arith, nat_tests, parts) in
    let line : (at.line * 2 ^ 32 + at.word) / 2 ^ 32 ≡ at.line = omega (arith, small) in
    let below : (at.line * 2 ^ 32 + at.word) % 2 ^ 32 ≡ at.word = omega (arith, small) in
    ap₂ (λ (l m : ℕ). record { line = l; word = m }) line below
