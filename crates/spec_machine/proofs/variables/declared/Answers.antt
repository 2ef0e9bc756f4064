use Rattle.std.proofs.Common.{◌≡◌, refl, sym, ap, ◌∙◌, subst, List, [], Option}
use Rattle.tl_base.specs.declared.ids.TermId.{TermId}
use Rattle.terra_term.specs.declared.lists.VarName.{VarName}
use Rattle.terra_term.specs.declared.term.Statement.TheVariants as s
use Rattle.spec_model.specs.declared.wanted.Wanted.{Wanted}
use Rattle.spec_model.specs.Plans.{SpecPlan, join}
use Rattle.spec_model.specs.Statements.{drawn}
use Rattle.spec_machine.specs.Kept.{keeps_then}
use Rattle.spec_machine.specs.Steps.{Gets}
use Rattle.spec_machine.proofs.Doing.{moved, gets}
use Rattle.tl_base.proofs.Results.{carried}
use Rattle.spec_machine.proofs.Entering.{does_as}
use Rattle.spec_machine.proofs.variables.declared.Goals as goal

pub returns-clause-means : goal.returns-clause-means
returns-clause-means c =
    let a = c.args in
    let names = c.in_ok-names.names in
    let values = c.in_ok-values.values in
    let w = a.world.now in
    let v = c.drawn.new.world in
    let got : Gets (λ (go : List VarName → SpecPlan). drawn a.wanted a.env [] go) w names v =
    subst (λ (ws : List Wanted). Gets (λ (go : List VarName → SpecPlan). drawn ws a.env [] go) w names v) c.as_slice.ensures
    c.in_ok-names.ensures.means in
    carried _ _ c.join.result c.join.ensures.means (λ step g items left fs.
    gets items fs fs (λ (go : List VarName → SpecPlan). drawn a.wanted a.env [] go) (λ ns. join a.place (s.Var ns a.values)) names
    w v c.join.new.world left left step got
    (does_as items fs (join a.place (s.Var names a.values)) (join a.place (s.Var names values)) v c.join.new.world left left step
    (ap (λ (vs : Option (List TermId)). join a.place (s.Var names vs)) (sym c.in_ok-values.ensures)) (g items left)))

pub returns-clause-kept : goal.returns-clause-kept
returns-clause-kept c =
    carried _ _ c.join.result c.join.ensures.kept (λ step k.
    keeps_then c.args.world.now c.drawn.new.world c.join.new.world c.in_ok-names.ensures.kept k)
