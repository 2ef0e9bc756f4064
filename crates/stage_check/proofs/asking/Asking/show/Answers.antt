use Rattle.std.proofs.Common.{sym, ◌∙◌}
use Rattle.stage_code.proofs.Turning.{unless}
use Rattle.stage_check.specs.Asking.{place_of}
use Rattle.stage_check.proofs.Showing.{ended_alone, never_asks}
use Rattle.stage_check.proofs.asking.Asking.show.Goals as goal

pub returns-in-Turn-clause-reads_no_more : goal.returns-in-Turn-clause-reads_no_more
returns-in-Turn-clause-reads_no_more c =
    unless c.end_of.result _
    (λ s later. rw c.in-Turn.is (ended_alone (place_of c.args.self.now.what) c.in-Turn.turn s later ∙ sym (c.end_of.ensures.seen s)))

pub returns-in-Turn-clause-goes_on : goal.returns-in-Turn-clause-goes_on
returns-in-Turn-clause-goes_on c = never_asks c.end_of.result _ c.end_of.ensures.ends
