use Rattle.stage_code.proofs.staged.StagedLayer.resume.Goals as goal

pub returns-in-Lua-clause-goes_on : goal.returns-in-Lua-clause-goes_on
returns-in-Lua-clause-goes_on c = rw c.in-Lua.is c.resume_lua.ensures.goes_on

pub returns-in-Library-clause-goes_on : goal.returns-in-Library-clause-goes_on
returns-in-Library-clause-goes_on c = rw c.in-Library.is c.resume_library.ensures.goes_on
