use Rattle.std.proofs.Common.{◌≤◌, inl, inr, refl, arith}
use Rattle.std.specs.Prelude.{◌-◌, ◌/◌, slice_index_or}
use Rattle.tl_base.specs.declared.limits.TheConstants.{TEXT_ADDRESS}
use Rattle.terrac_call.proofs.Traces.{fetched_behind, fetched_outside, fetched_word}
use Rattle.terrac_call.proofs.tracing.word_at.Goals as goal
use Rattle.terrac_call.proofs.tracing.word_at.Goals.{then-address-lt-TEXT_ADDRESS-via-then-address-lt-TEXT_ADDRESS}
use Rattle.terrac_call.proofs.tracing.word_at.Goals.{then-address-lt-TEXT_ADDRESS-via-else-address-lt-TEXT_ADDRESS+then-address-ne0}

pub returns-then-address-lt-TEXT_ADDRESS : goal.returns-then-address-lt-TEXT_ADDRESS
returns-then-address-lt-TEXT_ADDRESS c =
    fetched_outside c.args.words.now c.args.address (elim c.then-address-lt-TEXT_ADDRESS.branch [
      | then-address-lt-TEXT_ADDRESS-via-then-address-lt-TEXT_ADDRESS w ↦ inl w.if-address-lt-TEXT_ADDRESS.true
      | then-address-lt-TEXT_ADDRESS-via-else-address-lt-TEXT_ADDRESS+then-address-ne0 w ↦ inr w.if-address-ne0.true
    ])

pub returns-then-place-words : goal.returns-then-place-words
returns-then-place-words c =
    let least : TEXT_ADDRESS ≤ c.args.address = omega (arith, c.if-address-lt-TEXT_ADDRESS.false) in
    fetched_word c.args.words.now c.args.address (slice_index_or c.args.words.now ((c.args.address - TEXT_ADDRESS) / 4) 0) least
    c.if-address-ne0.false c.if-place-words.true refl

pub returns-else-place-words : goal.returns-else-place-words
returns-else-place-words c =
    let least : TEXT_ADDRESS ≤ c.args.address = omega (arith, c.if-address-lt-TEXT_ADDRESS.false) in
    fetched_behind c.args.words.now c.args.address least c.if-address-ne0.false c.if-place-words.false
