-- What remains to be done by the layers that are suspended.
use Rattle.std.specs.Prelude.{◌≡◌, ℕ, true}
use Rattle.tl_base.specs.Layer.{Meaning}
use Rattle.tl_base.specs.Machine.{rest_of, fits_waiting}
use Rattle.layer_examples.specs.declared.world.World.{World}
use Rattle.layer_examples.specs.declared.end.Answer.{Answer}
use Rattle.layer_examples.specs.declared.end.End.{End}
use Rattle.layer_examples.specs.declared.sums.SumAnswer.{SumAnswer}
use Rattle.layer_examples.specs.declared.sums.SumEnd.{SumEnd}
use Rattle.layer_examples.specs.declared.sums.Sum.{Sum}
use Rattle.layer_examples.specs.declared.total.Total.{Total}
use Rattle.layer_examples.specs.declared.nest.Nest.{Nest}
use Rattle.layer_examples.specs.Ends.{WorldGiven, is_go}
use Rattle.layer_examples.specs.Total.{total_rules}
use Rattle.layer_examples.specs.Nest.{nest_rules}
use Rattle.layer_examples.specs.Sums.{SumGiven, sum_rules, is_go as is_sum_go}

abbrev pub total_rest : Total → Meaning World ℕ Answer End
total_rest total =
    rest_of (total_rules total.machine.machine.table.now) total.machine.frames.items total.machine.waiting

abbrev pub TotalFits : Total → WorldGiven → Type 0
TotalFits total next = fits_waiting is_go total.machine.waiting next.answer ≡ true

abbrev pub nest_rest : Nest → Meaning World ℕ Answer End
nest_rest nest = rest_of nest_rules nest.machine.frames.items nest.machine.waiting

abbrev pub NestFits : Nest → WorldGiven → Type 0
NestFits nest next = fits_waiting is_go nest.machine.waiting next.answer ≡ true

abbrev pub sum_rest : Sum → Meaning ℕ ℕ SumAnswer SumEnd
sum_rest sum = rest_of sum_rules sum.machine.frames.items sum.machine.waiting

abbrev pub SumFits : Sum → SumGiven → Type 0
SumFits sum next = fits_waiting is_sum_go sum.machine.waiting next.answer ≡ true
