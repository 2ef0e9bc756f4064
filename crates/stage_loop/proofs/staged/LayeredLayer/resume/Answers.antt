use Rattle.stage_loop.proofs.staged.LayeredLayer.resume.Goals as goal

pub returns-in-Job-clause-goes_on : goal.returns-in-Job-clause-goes_on
returns-in-Job-clause-goes_on c = rw c.in-Job.is c.resume_job.ensures.goes_on
