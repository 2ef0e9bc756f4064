use Rattle.stage_form.proofs.Standing.{within_reads_no_more}
use Rattle.stage_form.proofs.staging.nothing_is_read_past_the_end.Goals as goal

pub returns : goal.returns
returns g c = λ fitting meaning first answers more. within_reads_no_more fitting meaning first answers more
