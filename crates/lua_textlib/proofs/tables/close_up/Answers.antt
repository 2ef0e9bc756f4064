use Rattle.lua_table.proofs.Keeping.{keeps_stored, keeps_then}
use Rattle.lua_textlib.proofs.tables.close_up.Goals as goal

pub returns-clause-kept : goal.returns-clause-kept
returns-clause-kept c = rw c.in_ok-store.ensures.ok (keeps_then _ _ _ c.in_ok-shift_down.ensures.kept (keeps_stored _ _ _ _))
