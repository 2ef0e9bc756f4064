use Rattle.std.proofs.Common.{◌≡◌, List, [], ℕ, Some, ap, ap₂, ◌∙◌, rules}
use Rattle.terrac_call.specs.Words.{Asking, Running, main_call}
use Rattle.terrac_call.specs.JobView.{shown_running, texts_of}
use Rattle.terrac_call.proofs.words.gen_of.Goals as goal

made : List (List ℕ) → Running → ℕ → Asking
made words running count = record {
  call = record { entry = main_call.entry; arguments = words };
  running = running;
  generated = Some count;
}

pub returns : goal.returns
unfolding made
returns c =
    let none : texts_of c.new.result.items ≡ [] = search rules in
    ap (λ (words : List (List ℕ)). made words (shown_running c.running_of.result) c.number_found.result) none
    ∙ ap₂ (λ (running : Running) (count : ℕ). made [] running count) c.running_of.ensures c.number_found.ensures
