use Rattle.std.proofs.Common.{List, ℕ, ap}
use Rattle.terrac_call.specs.Due.{Due}
use Rattle.terrac_call.specs.DueView.{due_of_rest}
use Rattle.terrac_call.proofs.source.emitted_work.Goals as goal

pub returns : goal.returns
returns c = λ it count made.
    let rest = c.made_or_no_memory.result in (
      due_of_rest rest,
      c.made_or_no_memory.ensures it count made,
      ap (λ (told : List ℕ → Due → Due). told c.args.emitted.printed (due_of_rest rest)) c.stream_of.ensures,
    )
