use Rattle.std.proofs.Common.{◌+◌, List, [], drop, refl, sym, subst}
use Rattle.terra_term.specs.declared.lists.VarName.{VarName}
use Rattle.spec_model.specs.Plans.{SpecPlan}
use Rattle.spec_model.specs.Statements.{drawn}
use Rattle.spec_machine.specs.Kept.{keeps_then}
use Rattle.spec_machine.proofs.Reaching.{Passes, passes_then}
use Rattle.tl_base.proofs.Results.{carried}
use Rattle.spec_machine.proofs.Varying.{drawn_turn, drawn_done}
use Rattle.spec_machine.proofs.variables.drawn.Goals as goal

pub variables-preserved : goal.variables-preserved
variables-preserved c =
    let a = c.args in
    let l = c.variables in
    let vs = a.wanted.now in
    let i = l.variable-index in
    let w = a.world.now in
    let u = c.drawn_one.new.world in
    let before = l.names.items in
    record {
      passes = λ left.
          passes_then (λ (go : List VarName → SpecPlan). drawn vs a.env [] go)
          (λ (go : List VarName → SpecPlan). drawn (drop i vs) a.env before go)
          (λ (go : List VarName → SpecPlan). drawn (drop (i + 1) vs) a.env c.push.new.self.items go) w l.world u left left left
          (l.invariant.passes left)
          (subst (λ (ns : List VarName). Passes (λ (go : List VarName → SpecPlan). drawn (drop i vs) a.env before go) l.world left
          (λ (go : List VarName → SpecPlan). drawn (drop (i + 1) vs) a.env ns go) u left) (sym c.in_ok-push.ensures.items)
          (drawn_turn vs i _ _ a.env before c.in_ok-name.name l.world u left (c.in_ok-name.ensures.means before)
          c.variables-test.true refl));
      kept = keeps_then w l.world u l.invariant.kept c.in_ok-name.ensures.kept;
    }

pub returns-clause-means : goal.returns-clause-means
returns-clause-means c =
    let a = c.args in
    let l = c.variables in
    carried _ _ c.from_vec.result c.from_vec.ensures (λ names is.
    drawn_done a.wanted.now l.variable-index a.env l.names.items names a.world.now l.world l.invariant.passes c.variables-test.false is)
