use Rattle.lua_textlib.proofs.Moved.{insert_there, insert_moved, insert_before, insert_behind}
use Rattle.lua_textlib.proofs.laws.values_make_way.Goals as goal

pub returns : goal.returns
returns c = record { there = insert_there; moved = insert_moved; before = insert_before; behind = insert_behind }
