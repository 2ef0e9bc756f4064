-- A struct gets its layout, and all else stays.
use Rattle.std.proofs.Common.{IfSome, IsTrue, sym, ◌∙◌, ap, subst}
use Rattle.terra_types.specs.Holding.{IsHeld}
use Rattle.terra_types.specs.Kept.{forms_in}
use Rattle.terra_types.specs.Layouts.{layout_of}
use Rattle.terra_types.specs.Making.{is_unsettled, with_settled}
use Rattle.terra_types.specs.Sizes.{Within, settled}
use Rattle.terra_types.proofs.Settling.{held-laid, forms-laid}
use Rattle.terra_types.proofs.types.Types.settle.Goals as goal

pub invariant_of-self : goal.invariant_of-self
invariant_of-self c =
    subst (λ es. IsHeld es c.self.inside.structs) (sym c.put_layout.ensures)
    (held-laid c.self.inside.table.entries c.self.inside.structs c.args.t c.in-Some.layout c.self.invariant
    (subst (λ types. IsTrue (is_unsettled types c.args.t)) (sym c.self.view_is) c.requires)
    (subst (λ o. IfSome o (λ l. Within (settled l))) c.in-Some.is c.in_ok-layout.ensures.within))

pub returns-in-Some-clause-ok : goal.returns-in-Some-clause-ok
returns-in-Some-clause-ok c =
    ap forms_in c.put_layout.ensures ∙
    (forms-laid c.self.inside.table.entries c.self.inside.structs c.args.t c.in-Some.layout c.self.invariant
    (subst (λ types. IsTrue (is_unsettled types c.args.t)) (sym c.self.view_is) c.requires)
    (subst (λ o. IfSome o (λ l. Within (settled l))) c.in-Some.is c.in_ok-layout.ensures.within) ∙
    (ap (with_settled (forms_in c.self.inside.table.entries) c.args.t)
    (sym c.in-Some.is ∙ (c.in_ok-layout.ensures.value ∙ ap (layout_of (forms_in c.self.inside.table.entries)) c.deref.ensures.value)) ∙
    ap (λ types. with_settled types c.args.t (layout_of types c.args.entries.items)) c.self.view_is))
