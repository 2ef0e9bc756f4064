use Rattle.lua_alike.proofs.law.lua_means_same.Goals as goal
use Rattle.lua_alike.proofs.MeaningAlike.{lua_same}

pub returns : goal.returns
returns c = lua_same
