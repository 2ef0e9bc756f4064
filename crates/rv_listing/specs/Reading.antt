-- How the code reads a line: the operation of its name, and the last three numbers that stand in its operands. What
-- is read is printed and compared with the line, so nothing here says which lines are texts: `Texts` does.
use Rattle.std.specs.Prelude.{◌≡◌, ◌%◌, ◌^◌, ℕ, ◌+◌, ◌-◌, ◌*◌, ◌==◌, true, false, nat_lt}
use Rattle.std.specs.Prelude.{ℤ, pos, negsuc, suc, if◌then◌else◌, List, [], ◌∷◌, codes, Option, Some, None}
use Rattle.std.specs.Str.{bytes_eq}
use Rattle.std.specs.Char.{is_ascii_digit}
use Rattle.std.specs.Int.{is_in_range}
use Rattle.rv_isa.specs.declared.operand.Register.{Register}
use Rattle.rv_isa.specs.declared.instr.Instr.{Instr}
use Rattle.rv_isa.specs.declared.instr.Instr.TheVariants as instructions
use Rattle.rv_listing.specs.declared.names.Operation.{Operation}
use Rattle.rv_listing.specs.declared.names.Operation.TheVariants as operations
use Rattle.rv_listing.specs.declared.names.TheConstants.{OPERATIONS}
use Rattle.rv_listing.specs.declared.scan.Number.{Number}
use Rattle.rv_listing.specs.declared.scan.Scan.{Scan}
use Rattle.rv_listing.specs.Texts.{branch_name, load_name, store_name, immediate_name, shift_name, shift_word_name}
use Rattle.rv_listing.specs.Texts.{register_name, register_word_name, fence_value}

abbrev pub operation_of : Instr → Operation
operation_of (instructions.Lui rd imm) = operations.Lui
operation_of (instructions.Auipc rd imm) = operations.Auipc
operation_of (instructions.Jal rd offset) = operations.Jal
operation_of (instructions.Jalr rd rs1 offset) = operations.Jalr
operation_of (instructions.Branch condition rs1 rs2 offset) = operations.Branch condition
operation_of (instructions.Load op rd rs1 offset) = operations.Load op
operation_of (instructions.Store op rs1 rs2 offset) = operations.Store op
operation_of (instructions.RegisterImmediate op rd rs1 imm) = operations.RegisterImmediate op
operation_of (instructions.Shift op rd rs1 count) = operations.Shift op
operation_of (instructions.Addiw rd rs1 imm) = operations.Addiw
operation_of (instructions.ShiftWord op rd rs1 count) = operations.ShiftWord op
operation_of (instructions.RegisterRegister op rd rs1 rs2) = operations.RegisterRegister op
operation_of (instructions.RegisterRegisterWord op rd rs1 rs2) = operations.RegisterRegisterWord op
operation_of (instructions.Fence rd rs1 fields) = operations.Fence
operation_of instructions.Ecall = operations.Ecall
operation_of instructions.Ebreak = operations.Ebreak

abbrev pub operation_name : Operation → List ℕ
operation_name operations.Lui = codes "lui"
operation_name operations.Auipc = codes "auipc"
operation_name operations.Jal = codes "jal"
operation_name operations.Jalr = codes "jalr"
operation_name (operations.Branch condition) = branch_name condition
operation_name (operations.Load op) = load_name op
operation_name (operations.Store op) = store_name op
operation_name (operations.RegisterImmediate op) = immediate_name op
operation_name (operations.Shift op) = shift_name op
operation_name operations.Addiw = codes "addiw"
operation_name (operations.ShiftWord op) = shift_word_name op
operation_name (operations.RegisterRegister op) = register_name op
operation_name (operations.RegisterRegisterWord op) = register_word_name op
operation_name operations.Fence = codes "fence"
operation_name operations.Ecall = codes "ecall"
operation_name operations.Ebreak = codes "ebreak"

abbrev pub first_named : List Operation → List ℕ → Option Operation
first_named [] name = None
first_named (o ∷ os) name = if bytes_eq (operation_name o) name then Some o else first_named os name

abbrev pub operation_named : List ℕ → Option Operation
operation_named name = first_named OPERATIONS name

-- a number of a text, by its sign and its size
abbrev pub number_of : ℤ → Number
number_of (pos n) = record { negative = false; size = n }
number_of (negsuc n) = record { negative = true; size = suc n }

-- a number after one more digit. One that is far too large for an operand stays as it is
abbrev pub longer : Number → ℕ → Number
longer n digit =
    record { negative = n.negative; size = if nat_lt n.size 1000000000 then n.size * 10 + digit else n.size }

-- no digits
abbrev pub between : Scan → ℕ → Scan
between s byte = record { first = s.first; second = s.second; third = s.third; inside = false; minus = byte == 45 }

-- a digit of the number that it stands in, or of a new one
abbrev pub with_digit : Scan → ℕ → Scan
with_digit s digit =
    if s.inside
    then record { first = s.first; second = s.second; third = longer s.third digit; inside = true; minus = s.minus }
    else record {
      first = s.second;
      second = s.third;
      third = record { negative = s.minus; size = digit };
      inside = true;
      minus = s.minus;
    }

abbrev pub scan_byte : Scan → ℕ → Scan
scan_byte s byte = if is_ascii_digit byte then with_digit s (byte - 48) else between s byte

abbrev pub scan_all : Scan → List ℕ → Scan
scan_all s [] = s
scan_all s (byte ∷ bytes) = scan_all (scan_byte s byte) bytes

abbrev pub zero_number : Number
zero_number = record { negative = false; size = 0 }

abbrev pub scan_start : Scan
scan_start = record { first = zero_number; second = zero_number; third = zero_number; inside = false; minus = false }

-- the numbers of an instruction's operands, in the order of its text: a register has its number
abbrev pub register_number : Register → Number
register_number a = number_of (pos a.number)

-- a register and two further numbers
abbrev pub Three : Scan → Register → Number → Number → Type 0
Three s a second third = (s.first ≡ register_number a) × (s.second ≡ second) × (s.third ≡ third)

abbrev pub Fills : Instr → Scan → Type 0
Fills (instructions.Lui rd imm) s = (s.second ≡ register_number rd) × (s.third ≡ number_of (pos imm.value))
Fills (instructions.Auipc rd imm) s = (s.second ≡ register_number rd) × (s.third ≡ number_of (pos imm.value))
Fills (instructions.Jal rd offset) s = (s.second ≡ register_number rd) × (s.third ≡ number_of offset.bytes)
Fills (instructions.Jalr rd rs1 offset) s = Three s rd (number_of offset.value) (register_number rs1)
Fills (instructions.Branch condition rs1 rs2 offset) s = Three s rs1 (register_number rs2) (number_of offset.bytes)
Fills (instructions.Load op rd rs1 offset) s = Three s rd (number_of offset.value) (register_number rs1)
Fills (instructions.Store op rs1 rs2 offset) s = Three s rs2 (number_of offset.value) (register_number rs1)
Fills (instructions.RegisterImmediate op rd rs1 imm) s = Three s rd (register_number rs1) (number_of imm.value)
Fills (instructions.Shift op rd rs1 count) s = Three s rd (register_number rs1) (number_of (pos count.count))
Fills (instructions.Addiw rd rs1 imm) s = Three s rd (register_number rs1) (number_of imm.value)
Fills (instructions.ShiftWord op rd rs1 count) s = Three s rd (register_number rs1) (number_of (pos count.count))
Fills (instructions.RegisterRegister op rd rs1 rs2) s = Three s rd (register_number rs1) (register_number rs2)
Fills (instructions.RegisterRegisterWord op rd rs1 rs2) s = Three s rd (register_number rs1) (register_number rs2)
Fills (instructions.Fence rd rs1 fields) s = Three s rd (register_number rs1) (number_of (fence_value fields))
Fills instructions.Ecall s = Unit {0}
Fills instructions.Ebreak s = Unit {0}

-- a number of 32 bits after one more hexadecimal digit
unfoldable pub hex_byte : ℕ → ℕ → ℕ
hex_byte n byte =
    if is_in_range 48 57 byte then n % 2 ^ 28 * 16 + (byte - 48)
    else (if is_in_range 97 102 byte then n % 2 ^ 28 * 16 + (byte - 97 + 10) else n)

abbrev pub hex_all : ℕ → List ℕ → ℕ
hex_all n [] = n
hex_all n (byte ∷ bytes) = hex_all (hex_byte n byte) bytes

-- how many bytes stand before the first LF, or before the end
abbrev pub line_length : List ℕ → ℕ
line_length [] = 0
line_length (b ∷ bs) = if b == 10 then 0 else suc (line_length bs)
