-- What contracts see of a machine.
use Rattle.std.specs.Prelude.{ℕ, List, Option, slice_index, map}
use Rattle.rv_isa.specs.declared.instr.Instr.{Instr}
use Rattle.rv_machine.specs.declared.hart.Hart.{Hart}
use Rattle.rv_machine.specs.declared.machine.Machine.{Machine}
use Rattle.rv_machine.specs.Machine.{State}
use Rattle.rv_machine.specs.Decoded.{found_of}

-- the state of the hart
abbrev pub hart_state : Hart → State
hart_state hart =
    record {
      pc = hart.pc;
      registers = slice_index hart.registers;
      region = hart.region.items;
      private = hart.private.items;
    }

-- the state of the hart if it stood at this address
abbrev pub stands_at : Hart → ℕ → State
stands_at hart pc =
    record {
      pc = pc;
      registers = slice_index hart.registers;
      region = hart.region.items;
      private = hart.private.items;
    }

-- the instructions of its text
abbrev pub program_of : Machine → List (Option Instr)
program_of machine = map found_of machine.text.items

-- where its heap begins
abbrev pub heap_of : Machine → ℕ
heap_of machine = machine.heap

-- the state of its hart
abbrev pub state_of : Machine → State
state_of machine = hart_state machine.hart

-- how many steps it counts since it started
abbrev pub taken_of : Machine → ℕ
taken_of machine = machine.taken
