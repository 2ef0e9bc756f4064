-- The numbers of a numeric `for`.
use Rattle.std.specs.Prelude.{ℤ, Result, Ok, Err}
use Rattle.lua_ops.specs.declared.fault.Fault.{Fault}
use Rattle.lua_ops.specs.declared.fault.Fault.TheVariants as faults
use Rattle.lua_model.specs.Loops.{for_fault}

-- the number that a value is in arithmetic, or the fault of the part of a `for` that it is
abbrev pub number_in : Result ℤ Fault → Fault → Result ℤ Fault
number_in (Ok z) missing = Ok z
number_in (Err fault) missing = Err (for_fault fault missing)

abbrev pub with_step : ℤ → ℤ → Result ℤ Fault → Result (ℤ × ℤ × ℤ) Fault
with_step i l (Ok d) = Ok (i, l, d)
with_step i l (Err fault) = Err fault

abbrev pub with_limit : ℤ → Result ℤ Fault → Result ℤ Fault → Result (ℤ × ℤ × ℤ) Fault
with_limit i (Ok l) step = with_step i l step
with_limit i (Err fault) step = Err fault

abbrev pub with_first : Result ℤ Fault → Result ℤ Fault → Result ℤ Fault → Result (ℤ × ℤ × ℤ) Fault
with_first (Ok i) limit step = with_limit i limit step
with_first (Err fault) limit step = Err fault

-- all three, or the first fault
abbrev pub numbers_in : Result ℤ Fault → Result ℤ Fault → Result ℤ Fault → Result (ℤ × ℤ × ℤ) Fault
numbers_in first limit step =
    with_first (number_in first faults.ForInitial) (number_in limit faults.ForLimit) (number_in step faults.ForStep)
