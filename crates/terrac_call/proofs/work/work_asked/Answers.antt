use Rattle.std.proofs.Common.{map, string_bytes, sym, ap, subst, ◌∙◌}
use Rattle.tl_base.specs.Outside.{IsRisen}
use Rattle.terrac_call.specs.DueView.{due_of_work}
use Rattle.terrac_call.specs.JobView.{IsUsageText, shown_asked, shown_job}
use Rattle.terrac_call.specs.Words.{asked_of}
use Rattle.terrac_call.proofs.Jobs.{unlawful_owed, usage_owed}
use Rattle.terrac_call.proofs.Ranges.{jobs_are_lawful}
use Rattle.terrac_call.proofs.work.work_asked.Goals as goal

pub read_and_work-requires : goal.read_and_work-requires
read_and_work-requires g c =
    jobs_are_lawful (map string_bytes c.args.words.now) (shown_job c.in-Job.job) (sym c.in_ok-asked_of.ensures.asked ∙ ap shown_asked c.in-Job.is)

pub returns-in-Refused-clause-owed : goal.returns-in-Refused-clause-owed
returns-in-Refused-clause-owed g c =
    usage_owed (asked_of (map string_bytes c.args.words.now)) (g.S.Source.left c.args.source.now)
    (IsRisen (g.S.Source.faults c.args.source.now) (g.S.Source.faults c.args.source.now)) (string_bytes c.in-Refused.text)
    (due_of_work c.of-in-Refused.result) (sym (ap shown_asked c.in-Refused.is) ∙ c.in_ok-asked_of.ensures.asked)
    (subst IsUsageText c.in-Refused.is c.in_ok-asked_of.ensures.text) (c.of-in-Refused.ensures ∙ c.usage_due.ensures)

pub returns-in-Unlawful-clause-owed : goal.returns-in-Unlawful-clause-owed
returns-in-Unlawful-clause-owed g c =
    unlawful_owed (asked_of (map string_bytes c.args.words.now)) (g.S.Source.left c.args.source.now)
    (IsRisen (g.S.Source.faults c.args.source.now) (g.S.Source.faults c.args.source.now)) (due_of_work c.of.result)
    (sym (ap shown_asked c.in-Unlawful.is) ∙ c.in_ok-asked_of.ensures.asked) (c.of.ensures ∙ c.bare_usage_due.ensures)
