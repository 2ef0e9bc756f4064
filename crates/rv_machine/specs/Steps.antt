-- What a step of the machine does, by the step that is defined.
use Rattle.std.specs.Prelude.{◌≡◌, ◌≢◌, ℕ, List, [], Option}
use Rattle.rv_isa.specs.declared.instr.Instr.{Instr}
use Rattle.rv_isa.specs.declared.instr.Instr.TheVariants.{Lui, Auipc, Jal, Jalr, Branch, Load, Store, RegisterImmediate, Shift, Addiw}
use Rattle.rv_isa.specs.declared.instr.Instr.TheVariants.{ShiftWord, RegisterRegister, RegisterRegisterWord, Fence, Ecall, Ebreak}
use Rattle.rv_machine.specs.declared.stops.Stop.{Stop}
use Rattle.rv_machine.specs.declared.stops.Stop.TheVariants.{Returned, TerraFault, MachineFault, Unfinished, WriteFault}
use Rattle.rv_machine.specs.Machine.{State, Moved, GoesOn, Writes, Faults, Throws}
use Rattle.tl_base.specs.Outside.{with_back, IsRisen}
use Rattle.rv_machine.specs.Output.{TookFront}

-- the machine went on in this state, and the sink took what the step wrote. A step that writes nothing leaves the sink `same`
abbrev pub WentOn : Moved → State → Option (List ℕ) → Option (List ℕ) → (same : Type 0) → Type 0
WentOn (GoesOn next) s before after same = (next ≡ s) × (after ≡ before) × same
WentOn (Writes next bytes) s before after same = (next ≡ s) × (after ≡ with_back before bytes) × (bytes ≢ [])
WentOn (Faults kind) s before after same = ⊥
WentOn (Throws kind place) s before after same = ⊥

-- the step writes bytes, of which the sink took a front and not all
pub record TookPart (moved : Moved) (before after : Option (List ℕ)) : Type 0 where
  pub next : State
  pub bytes : List ℕ
  pub writes : moved ≡ Writes next bytes
  pub front : TookFront bytes before after

-- the machine stopped at an address in a step
abbrev pub StoppedAt : Stop → ℕ → Moved → Option (List ℕ) → Option (List ℕ) → Type 0
StoppedAt (MachineFault kind pc) at moved before after = (moved ≡ Faults kind) × (pc ≡ at) × (after ≡ before)
StoppedAt (TerraFault kind place) at moved before after = (moved ≡ Throws kind place) × (after ≡ before)
StoppedAt WriteFault at moved before after = TookPart moved before after
StoppedAt (Returned value) at moved before after = ⊥
StoppedAt Unfinished at moved before after = ⊥

-- the count of faults rose at WriteFault, and stayed at every other stop
abbrev pub Counted : Stop → ℕ → ℕ → Type 0
Counted (MachineFault kind pc) old new = new ≡ old
Counted (TerraFault kind place) old new = new ≡ old
Counted WriteFault old new = IsRisen old new
Counted (Returned value) old new = new ≡ old
Counted Unfinished old new = new ≡ old

-- a stop at an address that takes nothing to the output
abbrev pub IsStop : Stop → ℕ → Moved → Type 0
IsStop (MachineFault kind pc) at moved = (moved ≡ Faults kind) × (pc ≡ at)
IsStop (TerraFault kind place) at moved = moved ≡ Throws kind place
IsStop WriteFault at moved = ⊥
IsStop (Returned value) at moved = ⊥
IsStop Unfinished at moved = ⊥

-- an instruction that reaches neither memory nor the environment
abbrev pub IsPlain : Instr → Type 0
IsPlain (Lui rd imm) = Unit {0}
IsPlain (Auipc rd imm) = Unit {0}
IsPlain (Jal rd offset) = Unit {0}
IsPlain (Jalr rd rs1 offset) = Unit {0}
IsPlain (Branch condition rs1 rs2 offset) = Unit {0}
IsPlain (Load op rd rs1 offset) = ⊥
IsPlain (Store op rs1 rs2 offset) = ⊥
IsPlain (RegisterImmediate op rd rs1 imm) = Unit {0}
IsPlain (Shift op rd rs1 count) = Unit {0}
IsPlain (Addiw rd rs1 imm) = Unit {0}
IsPlain (ShiftWord op rd rs1 count) = Unit {0}
IsPlain (RegisterRegister op rd rs1 rs2) = Unit {0}
IsPlain (RegisterRegisterWord op rd rs1 rs2) = Unit {0}
IsPlain (Fence rd rs1 fields) = Unit {0}
IsPlain Ecall = ⊥
IsPlain Ebreak = ⊥
