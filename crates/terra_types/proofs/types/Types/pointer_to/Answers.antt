-- A pointer holds no type of its own, and points to an earlier one.
use Rattle.std.proofs.Common.{◌<◌, length, refl, sym, subst}
use Rattle.terra_types.specs.declared.key.TypeKey.TheVariants as keys
use Rattle.terra_types.specs.declared.types.TypeForm.TheVariants as forms
use Rattle.terra_types.specs.Holding.{IsHeld}
use Rattle.terra_types.specs.Kept.{plain}
use Rattle.terra_types.proofs.Held.{after_call, held-made}
use Rattle.terra_types.proofs.types.Types.pointer_to.Goals as goal

pub invariant_of-self : goal.invariant_of-self
invariant_of-self c =
    after_call c.intern.result (λ es. IsHeld es c.self.inside.structs) _ _ _ c.intern.ensures.ok c.intern.ensures.err
    (held-made _ _ (keys.Pointer c.args.t) (plain (forms.Pointer c.args.t)) c.self.invariant refl refl refl
    (subst (λ types. c.args.t.0 < length types) (sym c.self.view_is) c.requires))
    c.self.invariant
