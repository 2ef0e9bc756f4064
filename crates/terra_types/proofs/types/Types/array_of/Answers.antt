-- What is kept of an array's elements is what they are, and an array is over an earlier type.
use Rattle.std.proofs.Common.{◌<◌, length, Some, refl, sym, ◌∙◌, ap, subst}
use Rattle.terra_types.specs.declared.key.TypeKey.TheVariants as keys
use Rattle.terra_types.specs.declared.types.TypeForm.TheVariants as forms
use Rattle.terra_types.specs.Elements.{elements_of}
use Rattle.terra_types.specs.Holding.{IsHeld}
use Rattle.terra_types.proofs.Held.{after_call, held-made}
use Rattle.terra_types.proofs.types.Types.array_of.Goals as goal

pub invariant_of-self : goal.invariant_of-self
invariant_of-self c =
    after_call c.intern.result (λ es. IsHeld es c.self.inside.structs) _ _ _ c.intern.ensures.ok c.intern.ensures.err
    (held-made _ _ (keys.Array c.args.t c.args.n) (record { form = forms.Array c.args.t c.args.n; elements = Some c.nested_elements.result }) c.self.invariant refl
    (ap Some (c.nested_elements.ensures ∙ ap (elements_of c.args.t c.args.n) c.elements_of_type-inner.ensures))
    refl
    (subst (λ types. c.args.t.0 < length types) (sym c.self.view_is) c.requires))
    c.self.invariant
