-- What stands behind the end of a block.
use Rattle.std.specs.Prelude.{ℕ, zero, suc, ◌-◌, Bool, false, not, ◌&&◌, if◌then◌else◌, nat_eq, Option, Some, None}
use Rattle.tac_form.specs.declared.tac.Edge.{Edge}
use Rattle.rv_select.specs.declared.settings.Extent.{Extent}
use Rattle.rv_select.specs.declared.settings.Setting.{Setting}
use Rattle.rv_select.specs.declared.settings.Follows.{Follows}
use Rattle.rv_select.specs.declared.settings.Follows.TheVariants.{Neither, First, Second}

-- The block that stands behind one which so many of a function's blocks follow. Behind the last stands the code that leaves the function.
abbrev pub next_of : (blocks rest : ℕ) → Option ℕ
next_of blocks zero = None
next_of blocks (suc n) = Some (blocks - suc n)

abbrev pub setting_of : Extent → (rest : ℕ) → Setting
setting_of x rest = record { near = x.near; short = x.short; next = next_of x.blocks rest; counts = x.counts }

-- which blocks of an exit stand behind it
abbrev pub is_next : (next : Option ℕ) → ℕ → Bool
is_next None b = false
is_next (Some n) b = nat_eq n b

abbrev pub follower : (next : Option ℕ) → (first second : ℕ) → Follows
follower next first second = if is_next next first then First else (if is_next next second then Second else Neither)

-- An edge that takes no count leads on without a step where its block stands behind.
abbrev pub falls : (next : Option ℕ) → Edge → Bool
falls next e = not e.counts && is_next next e.block
