use Rattle.stage_check.proofs.staged.StagedLayer.resume.Goals as goal

pub returns-in-Stage-clause-goes_on : goal.returns-in-Stage-clause-goes_on
returns-in-Stage-clause-goes_on c = rw c.in-Stage.is c.resume_stage.ensures.goes_on

pub returns-in-Asking-clause-goes_on : goal.returns-in-Asking-clause-goes_on
returns-in-Asking-clause-goes_on c = rw c.in-Asking.is c.resume_asking.ensures.goes_on

pub returns-in-Check-clause-goes_on : goal.returns-in-Check-clause-goes_on
returns-in-Check-clause-goes_on c = rw c.in-Check.is c.resume_check.ensures.goes_on

pub returns-in-Body-clause-goes_on : goal.returns-in-Body-clause-goes_on
returns-in-Body-clause-goes_on c = rw c.in-Body.is c.resume_body.ensures.goes_on

pub returns-in-Result-clause-goes_on : goal.returns-in-Result-clause-goes_on
returns-in-Result-clause-goes_on c = rw c.in-Result.is c.resume_result.ensures.goes_on

pub returns-in-Layout-clause-goes_on : goal.returns-in-Layout-clause-goes_on
returns-in-Layout-clause-goes_on c = rw c.in-Layout.is c.resume_layout.ensures.goes_on
