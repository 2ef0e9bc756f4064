use Rattle.std.proofs.Common.{◌≡◌, List, Option, ℕ, sym, ap, subst, ◌∙◌}
use Rattle.std.proofs.lemmas.Result.{IfOk-weaker}
use Rattle.terrac_call.specs.DueView.{due_of_work}
use Rattle.terrac_call.specs.JobView.{shown_task}
use Rattle.terrac_call.specs.Staged.{IsSourceOwed}
use Rattle.terrac_call.specs.Words.{source_of, text_of}
use Rattle.terrac_call.proofs.source.stage.Goals as goal

pub returns-in_ok-text-in-Some : goal.returns-in_ok-text-in-Some
returns-in_ok-text-in-Some c =
    let task = shown_task c.args.task.now in
    let same : c.as_bytes.result.now ≡ text_of task c.args.bytes.now =
    c.as_bytes.ensures.value ∙ c.in_ok-text-in-Some.ensures
    ∙ ap (λ (o : Option ℕ). source_of o c.args.bytes.now) (sym c.in-Some.is ∙ c.generated.ensures) in
    IfOk-weaker c.stage_source.result _ _
    (λ work owed. subst (λ (bytes : List ℕ). IsSourceOwed task bytes (due_of_work work)) same owed) c.stage_source.ensures

pub returns-in-None : goal.returns-in-None
returns-in-None c =
    let task = shown_task c.args.task.now in
    let same : c.args.bytes.now ≡ text_of task c.args.bytes.now =
    ap (λ (o : Option ℕ). source_of o c.args.bytes.now) (sym c.in-None.is ∙ c.generated.ensures) in
    IfOk-weaker c.stage_source-in-None.result _ _
    (λ work owed. subst (λ (bytes : List ℕ). IsSourceOwed task bytes (due_of_work work)) same owed) c.stage_source-in-None.ensures
