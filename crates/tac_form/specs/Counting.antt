-- Code of which counted machine code is made.
use Rattle.std.specs.Prelude.{true}
use Rattle.tac_form.specs.declared.tac.Tac.{Tac}

-- the same code, whose machine code keeps the counts that are left
abbrev pub with_counts : Tac → Tac
with_counts code = record code { counts = true }
