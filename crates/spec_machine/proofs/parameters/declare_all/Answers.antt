use Rattle.std.proofs.Common.{◌-◌, sym, ◌∙◌}
use Rattle.spec_machine.specs.Kept.{keeps_then}
use Rattle.spec_machine.proofs.Defining as defining
use Rattle.spec_machine.proofs.parameters.declare_all.Goals as goal

pub parameters-preserved : goal.parameters-preserved
parameters-preserved c =
    let a = c.args in
    let l = c.parameters in
    let u = c.declare_parameter.new.world in
    record {
      same =
          defining.parameters_next a.drawn.now l.parameter-index _ a.env l.world u c.parameters-test.true c.in_ok-declare_parameter.ensures.ok
          ∙ l.invariant.same;
      kept = keeps_then a.world.now l.world u l.invariant.kept c.in_ok-declare_parameter.ensures.kept;
    }

pub returns-clause-ok : goal.returns-clause-ok
returns-clause-ok c =
    let a = c.args in
    let l = c.parameters in
    sym (defining.parameters_end a.drawn.now l.parameter-index a.env l.world c.parameters-test.false) ∙ l.invariant.same
