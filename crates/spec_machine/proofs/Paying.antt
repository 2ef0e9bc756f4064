-- A payment that the budget refuses: what is left stays.
use Rattle.std.proofs.Common.{◌≡◌, ℕ, ◌<◌, List, sym, subst}
use Rattle.tl_base.specs.declared.machine.Step.TheVariants.{Spent}
use Rattle.tl_base.specs.Plan.{Pay}
use Rattle.tl_tree.specs.Code.{Items}
use Rattle.exotype.specs.World.{StageState}
use Rattle.spec_model.specs.Plans.{SpecPlan}
use Rattle.spec_machine.specs.declared.frame.SpecFrame.{SpecFrame}
use Rattle.spec_machine.specs.Steps.{Goes}
use Rattle.spec_machine.proofs.Doing.{lacks}

pub unpaid_step : (items : Items) (fs : List SpecFrame) (n : ℕ) (p : SpecPlan) (w : StageState) (left after : ℕ)
    → left < n → after ≡ left → Goes items fs (Pay n p) w left fs Spent w after
unpaid_step items fs n p w left after short same =
    subst (λ (m : ℕ). Goes items fs (Pay n p) w left fs Spent w m) (sym same) (lacks items fs n p w left short)
