-- Types of one word.
use Rattle.std.specs.Prelude.{Bool, true, false}
use Rattle.terra_types.specs.declared.types.TypeForm.{TypeForm}
use Rattle.terra_types.specs.declared.types.TypeForm.TheVariants as forms

-- integers, bools and pointers, which have one word
abbrev pub is_scalar : TypeForm → Bool
is_scalar (forms.Integer i) = true
is_scalar forms.Bool = true
is_scalar (forms.Pointer t) = true
is_scalar form = false

-- what a function gives that can be called from outside: one word, or none
abbrev pub is_result : TypeForm → Bool
is_result forms.Unit = true
is_result form = is_scalar form

abbrev pub bool_form : TypeForm → Bool
bool_form forms.Bool = true
bool_form _ = false
