-- A function is of earlier types.
use Rattle.std.proofs.Common.{length, refl, sym, ◌∙◌, ap, subst}
use Rattle.terra_types.specs.declared.key.TypeKey.TheVariants as keys
use Rattle.terra_types.specs.declared.types.TypeForm.TheVariants as forms
use Rattle.terra_types.specs.Holding.{IsHeld}
use Rattle.terra_types.specs.Kept.{plain}
use Rattle.terra_types.specs.Opening.{NamesBelow}
use Rattle.terra_types.proofs.Held.{after_call, held-made}
use Rattle.terra_types.proofs.types.Types.function_of.Goals as goal

pub invariant_of-self : goal.invariant_of-self
invariant_of-self c =
    after_call c.intern.result (λ es. IsHeld es c.self.inside.structs) _ _ _ c.intern.ensures.ok c.intern.ensures.err
    (held-made _ _ (keys.Function c.in_ok-key.key c.args.returns) (plain (forms.Function c.in_ok-list.list c.args.returns)) c.self.invariant
    (ap (λ l. forms.Function l c.args.returns) (c.in_ok-key.ensures.items ∙ sym c.in_ok-list.ensures)) refl refl
    (subst (λ types. NamesBelow (length types) (forms.Function c.in_ok-list.list c.args.returns)) (sym c.self.view_is)
    (subst (λ l. NamesBelow (length c.args.self.now) (forms.Function l c.args.returns)) (sym c.in_ok-list.ensures) (c.requires.params, c.requires.returns))))
    c.self.invariant
