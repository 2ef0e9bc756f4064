-- The function that stands in a target and isn't defined, or a new one.
use Rattle.std.proofs.Common.{◌≡◌, Bool, true, false, refl, sym, ap, ◌∙◌, Option, Some, None}
use Rattle.std.specs.Prelude.{if◌then◌else◌}
use Rattle.tl_base.specs.declared.ids.FnId.{FnId}
use Rattle.tl_base.specs.declared.place.Place.{Place}
use Rattle.lua_value.specs.declared.value.Value.{Value}
use Rattle.lua_value.specs.declared.value.Value.TheVariants as values
use Rattle.exotype.specs.World.{StageState}
use Rattle.spec_model.specs.declared.target.Target.{Target}
use Rattle.spec_model.specs.Making.{may_be_defined}
use Rattle.spec_model.specs.Plans.{SpecPlan}
use Rattle.spec_model.specs.Definitions.{standing, made}
use Rattle.spec_machine.specs.Agreeing.{standing_in}

pub no_function : (w : StageState) (v : Value) → ((f : FnId) → v ≡ values.TerraFunction f → ⊥) → standing_in w v ≡ None
no_function w (values.TerraFunction f) other = absurd (other f refl)
no_function w v other = refl

abbrev standing_to : Option FnId → Target → Place → (FnId → SpecPlan) → SpecPlan
standing_to (Some f) t place go = go f
standing_to None t place go = made t place go

standing_by : (b : Bool) (f : FnId) (t : Target) (place : Place) (go : FnId → SpecPlan)
    → (if b then go f else made t place go) ≡ standing_to (if b then Some f else None) t place go
standing_by true f t place go = refl
standing_by false f t place go = refl

standing_is : (w : StageState) (v : Value) (t : Target) (place : Place) (go : FnId → SpecPlan)
    → standing w v t place go ≡ standing_to (standing_in w v) t place go
standing_is w (values.TerraFunction f) t place go = standing_by (may_be_defined w f) f t place go
standing_is w v t place go = refl

pub stands : (w : StageState) (v : Value) (t : Target) (place : Place) (go : FnId → SpecPlan) (f : FnId)
    → Some f ≡ standing_in w v → standing w v t place go ≡ go f
stands w v t place go f is = standing_is w v t place go ∙ ap (λ (o : Option FnId). standing_to o t place go) (sym is)

pub stands_nowhere : (w : StageState) (v : Value) (t : Target) (place : Place) (go : FnId → SpecPlan)
    → None ≡ standing_in w v → standing w v t place go ≡ made t place go
stands_nowhere w v t place go is = standing_is w v t place go ∙ ap (λ (o : Option FnId). standing_to o t place go) (sym is)
