use Rattle.lua_base.proofs.OpeningSteps.{globals_by}
use Rattle.lua_base.proofs.globals.name_globals.Goals as goal

pub returns : goal.returns
returns c =
    globals_by c.args.heap.now c.name.new.heap c.intern.new.self c.name-2.new.heap c.name_functions.new.heap
    c.name-3.new.heap c.name-4.new.heap c.args.globals c.args.texts c.args.tables c.in_ok-version.version
    c.in_ok-name.ensures c.in_ok-version.ensures.id c.in_ok-version.ensures.ok
    c.in_ok-name-2.ensures c.in_ok-name_functions.ensures c.in_ok-name-3.ensures c.in_ok-name-4.ensures
