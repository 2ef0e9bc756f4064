-- Places of text: a number for each address. It is the address's distance from the begin of text, turned right by two bits.
use Rattle.std.specs.Prelude.{ℕ, ◌+◌, ◌*◌, ◌/◌, ◌%◌, ◌^◌}
use Rattle.tl_base.specs.declared.limits.TheConstants.{TEXT_ADDRESS}
use Rattle.rv_machine.specs.Word.{low}

-- the address of a place
unfoldable pub address_at : ℕ → ℕ
address_at place = low (TEXT_ADDRESS + place % 2 ^ 62 * 4 + place / 2 ^ 62)
