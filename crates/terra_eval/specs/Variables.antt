-- What a variable is.
use Rattle.terra_meaning.specs.Running as running
use Rattle.terra_eval.specs.declared.state.Held.{Held}
use Rattle.terra_eval.specs.declared.state.Held.TheVariants as helds
use Rattle.terra_eval.specs.declared.state.Variable.{Variable}

abbrev pub held_of : Held → running.Held
held_of (helds.Word x) = running.held x
held_of (helds.At a) = running.lies a

abbrev pub variable_of : Variable → running.Variable
variable_of v = record { symbol = v.symbol; is = held_of v.is }
