-- How types are laid out.
use Rattle.terra_types.specs.declared.types.TypeForm.{TypeForm}
use Rattle.terra_types.specs.declared.types.TypeForm.TheVariants as forms
use Rattle.check_flow.specs.declared.layout_steps.Kind.{Kind}
use Rattle.check_flow.specs.declared.layout_steps.Kind.TheVariants as kinds

abbrev pub kind_in : TypeForm → Kind
kind_in (forms.Struct number place layout) = kinds.Struct
kind_in (forms.Array t n) = kinds.Array t
kind_in _ = kinds.Other
