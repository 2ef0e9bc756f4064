use Rattle.std.proofs.Common.{◌≡◌, List, ℕ, false, subst, ◌∙◌}
use Rattle.std.proofs.lemmas.Result.{IfOk-weaker}
use Rattle.elf_image.specs.Calls.{symbol_named}
use Rattle.terrac_call.specs.Exec.{Manner, IsCallDue}
use Rattle.terrac_call.specs.Run.{front_of}
use Rattle.terrac_call.specs.DueView.{due_of_rest}
use Rattle.terrac_call.specs.JobView.{shown_asking}
use Rattle.terrac_call.proofs.source.call_exported.Goals as goal

pub returns : goal.returns
returns c =
    let it = shown_asking c.args.asking.now in
    let image = c.args.image.now in
    let named = symbol_named it.call.entry image.exports in
    let manner_with : List ℕ → Manner =
    λ front. record { steps = it.running.steps; front = front; shows = it.running.shows; traced = false } in
    let same : c.as_str.result.now ≡ front_of it.generated c.args.functions = c.as_str.ensures.value ∙ c.in_ok-front.ensures in
    IfOk-weaker c.call_image.result _ _
    (λ rest is. subst (λ (front : List ℕ). IsCallDue image it.call (manner_with front) named (due_of_rest rest)) same is) c.call_image.ensures
