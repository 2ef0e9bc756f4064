-- Answers of the stage as answers of its layers.
use Rattle.std.proofs.Common.{◌≡◌, false, refl}
use Rattle.layer_examples.specs.declared.end.Answer.{Answer}
use Rattle.layer_examples.specs.declared.end.Answer.TheVariants.{Go, Done, Raise}
use Rattle.layer_examples.specs.Ends.{is_go}
use Rattle.layer_examples.specs.Sums.{is_go as is_sum_go}
use Rattle.layer_examples.specs.Staged.{sum_answer}

-- an answer that begins no layer begins no sum
pub sum_answers : (a : Answer) → is_go a ≡ false → is_sum_go (sum_answer a) ≡ false
sum_answers Go h = cc
sum_answers (Done x) h = refl
sum_answers (Raise e) h = refl
