use Rattle.lua_base.proofs.OpeningSteps.{opening_by}
use Rattle.lua_base.proofs.globals.fill.Goals as goal

pub returns : goal.returns
returns c =
    opening_by _ _ _ _ _ _ _ _ _ _ c.requires c.in_ok-globals.ensures.id c.in_ok-globals.ensures.ok
    c.in_ok-texts.ensures.id c.in_ok-texts.ensures.ok c.in_ok-tables.ensures.id c.in_ok-tables.ensures.ok
    c.in_ok-name_globals.ensures c.in_ok-name_functions.ensures c.in_ok-name_functions-2.ensures
