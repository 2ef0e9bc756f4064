use Rattle.lua_textlib.proofs.Moved.{remove_moved, remove_end, remove_before, remove_behind}
use Rattle.lua_textlib.proofs.laws.values_close_up.Goals as goal

pub returns : goal.returns
returns c = record { moved = remove_moved; end = remove_end; before = remove_before; behind = remove_behind }
