use Rattle.std.proofs.Common.{List}
use Rattle.tl_base.specs.declared.ids.TermId.{TermId}
use Rattle.lua_value.specs.declared.value.Value.{Value}
use Rattle.spec_model.specs.Plans.{SpecPlan}
use Rattle.spec_model.specs.Statements.{item_of}
use Rattle.spec_machine.specs.Steps.{Comes}
use Rattle.spec_machine.proofs.Spliced.{item_other}
use Rattle.spec_machine.proofs.splices.item.Goals as goal

pub returns-in_ok-reached-in-Quote-clause-means : goal.returns-in_ok-reached-in-Quote-clause-means
returns-in_ok-reached-in-Quote-clause-means c = rw c.in-Quote.is c.in_ok-reached-in-Quote.ensures.means

pub returns-in_ok-reached-in_default-clause-means : goal.returns-in_ok-reached-in_default-clause-means
returns-in_ok-reached-in_default-clause-means c =
    let a = c.args in
    item_other a.value a.at a.terms c.in_ok-reached-in_default.reached a.world.now c.performed.new.world a.budget.now
    c.performed.new.budget c.in_default.not-Quote c.in_ok-reached-in_default.ensures.means
