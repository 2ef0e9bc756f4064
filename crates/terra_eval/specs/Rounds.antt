-- What loops do in each of their rounds.
use Rattle.std.specs.Prelude.{ℕ, suc, ◌+◌, Some, if◌then◌else◌}
use Rattle.terra_words.specs.Runs.{is_true, word}
use Rattle.terra_term.specs.Held.{Held}
use Rattle.terra_meaning.specs.Running.{State, Got, Gives, next, scoped}
use Rattle.terra_meaning.specs.Meaning.{Call, Way, along, breaks, declared, done_all, goes_on, in_block, in_expression, meant, the_value}
use Rattle.terra_eval.specs.declared.looping.Round.{Round}
use Rattle.terra_eval.specs.declared.looping.Round.TheVariants as kinds
use Rattle.terra_eval.specs.declared.looping.Counting.{Counting}
use Rattle.terra_eval.specs.Trees.{block_before, expression_before}

-- `from` is the number of the next declaration
abbrev pub counted_round : Call → Held → (below : ℕ) → Counting → (from : ℕ) → ℕ → State → Got Way
counted_round c store below k from i s =
    scoped s (next (declared c k.at k.name (Some (word i)) from s)
    (λ _ s1. done_all c (block_before store below k.body.now) (suc from) s1))

abbrev pub round_of : Call → Held → (below : ℕ) → Round → (from : ℕ) → State → Got Way
round_of c store below (kinds.While test body) from s =
    next (meant c the_value (expression_before store below test) from s) (λ v s1. if is_true v
    then scoped s1 (done_all c (block_before store below body.now) (from + in_expression (expression_before store below test)) s1)
    else Gives breaks s1)
round_of c store below (kinds.Repeat body test) from s =
    scoped s (next (done_all c (block_before store below body.now) from s) (λ way s1. along way s1 (λ s2.
    next (meant c the_value (expression_before store below test) (from + in_block (block_before store below body.now)) s2)
    (λ v s3. Gives (if is_true v then breaks else goes_on) s3))))
round_of c store below (kinds.Count k i) from s = counted_round c store below k from i s
