use Rattle.std.proofs.Common.{◌≡◌}
use Rattle.check_model.specs.Checks.{with_mentions, mentions_at}
use Rattle.check_flow.specs.Parts.{parts_mentions}
use Rattle.check_flow.proofs.mentions.reach_mentions.Given as goal

abbrev pub invariant-parts : goal.invariant-parts
invariant-parts l = with_mentions l.queue l.f (parts_mentions l.world l.parts.items) ≡ with_mentions l.fn.queue l.f (mentions_at l.world l.f)
