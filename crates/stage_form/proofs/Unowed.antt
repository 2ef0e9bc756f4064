-- A stage that demands nothing of its questions, and promises nothing of their ends.
use Rattle.tl_base.specs.Layer.{Seen, Ended, SpentAt, Asks}
use Rattle.stage_form.specs.Stage.{Stage}
use Rattle.stage_form.specs.Holding.{Shows, LayersHold}

nothing-shown : {W Q E : Type 0} (o : Seen W Q E) → Shows (λ (q : Q) (w : W). Unit {0}) (λ (e : E) (w : W). Unit {0}) o
nothing-shown (Ended e s) = tt
nothing-shown (Asks q s) = tt
nothing-shown (SpentAt s) = tt

pub nothing_held : {W Q A E : Type 0} (stage : Stage W Q A E) → LayersHold stage (λ q w. Unit {0}) (λ q w e v. Unit {0})
nothing_held stage question first begin later all = nothing-shown (stage.meaning question first later)
