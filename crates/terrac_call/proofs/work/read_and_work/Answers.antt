use Rattle.std.proofs.Common.{List, ℕ, sym, subst}
use Rattle.tl_base.specs.Outside.{IsRisen}
use Rattle.terrac_call.specs.DueView.{due_of_work}
use Rattle.terrac_call.specs.JobView.{shown_job}
use Rattle.terrac_call.specs.Reading.{most_read}
use Rattle.terrac_call.specs.Words.{Job, Named}
use Rattle.terrac_call.proofs.Telling.{IsEnough, owed_read}
use Rattle.terrac_call.proofs.work.read_and_work.Goals as goal

pub returns-clause-owed : goal.returns-clause-owed
returns-clause-owed g c =
    let job : Job = shown_job c.args.job.now in
    let old = g.S.Source.left c.args.source.now in
    let new = g.S.Source.left c.read_source.new.source in
    let read : IsEnough c.most_read.result c.in_ok-bytes.bytes.items old new =
    record { front = c.in_ok-bytes.ensures.text; ends = c.in_ok-bytes.ensures.whole } in
    let here : IsEnough (most_read (Named job)) c.deref.result.now old new =
    subst (λ (m : ℕ). IsEnough m c.deref.result.now old new) c.most_read.ensures
    (subst (λ (t : List ℕ). IsEnough c.most_read.result t old new) (sym c.deref.ensures.value) read) in
    owed_read job old new (IsRisen (g.S.Source.faults c.args.source.now) (g.S.Source.faults c.read_source.new.source))
    c.deref.result.now (due_of_work c.in_ok-work.work) here c.in_ok-work.ensures
