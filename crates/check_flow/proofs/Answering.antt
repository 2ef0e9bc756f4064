-- What a frame makes of an answer is what the plan that asked goes on with.
use Rattle.std.proofs.Common.{◌≡◌, ℕ, List, refl}
use Rattle.tl_base.specs.declared.ids.FnId.{FnId}
use Rattle.check_model.specs.declared.job.Reached.{Reached}
use Rattle.check_model.specs.declared.question.CheckAnswer.{CheckAnswer}
use Rattle.check_model.specs.declared.question.CheckAnswer.TheVariants as answers
use Rattle.check_model.specs.Checks.{on_body}
use Rattle.check_flow.specs.CheckFrames as checks

pub body_answered : (queue : List Reached) (i : ℕ) (f : FnId) (a : CheckAnswer)
    → on_body a queue i f ≡ checks.after (record { queue = queue; place = i; function = f }) (checks.reply a)
body_answered queue i f answers.Go = refl
body_answered queue i f (answers.Values vs) = refl
body_answered queue i f (answers.Raise v at) = refl
body_answered queue i f (answers.Result t) = refl
body_answered queue i f (answers.Refused why) = refl
body_answered queue i f answers.Done = refl
body_answered queue i f (answers.NoLayout kind) = refl
