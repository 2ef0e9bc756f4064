use Rattle.lua_table.proofs.Keeping as keeping
use Rattle.lua_table.proofs.laws.heaps_keep_what_they_have.Goals as goal

pub returns-clause-table : goal.returns-clause-table
returns-clause-table c = keeping.keeps_table

pub returns-clause-stored : goal.returns-clause-stored
returns-clause-stored c = keeping.keeps_stored

pub returns-clause-metatable : goal.returns-clause-metatable
returns-clause-metatable c = keeping.keeps_metatable

pub returns-clause-cell : goal.returns-clause-cell
returns-clause-cell c = keeping.keeps_cell

pub returns-clause-set : goal.returns-clause-set
returns-clause-set c = keeping.keeps_set

pub returns-clause-env : goal.returns-clause-env
returns-clause-env c = keeping.keeps_env

pub returns-clause-declared : goal.returns-clause-declared
returns-clause-declared c = keeping.keeps_declared

pub returns-clause-closure : goal.returns-clause-closure
returns-clause-closure c = keeping.keeps_closure

pub returns-clause-macros : goal.returns-clause-macros
returns-clause-macros c = keeping.keeps_macro

pub returns-clause-text : goal.returns-clause-text
returns-clause-text c = keeping.keeps_text

pub returns-clause-printed : goal.returns-clause-printed
returns-clause-printed c = keeping.keeps_printed

pub returns-clause-deeper : goal.returns-clause-deeper
returns-clause-deeper c = keeping.keeps_deeper

pub returns-clause-shallower : goal.returns-clause-shallower
returns-clause-shallower c = keeping.keeps_shallower

pub returns-clause-itself : goal.returns-clause-itself
returns-clause-itself c = keeping.keeps_itself

pub returns-clause-chain : goal.returns-clause-chain
returns-clause-chain c = keeping.keeps_then
