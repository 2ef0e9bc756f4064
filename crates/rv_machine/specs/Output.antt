-- What a sink took of bytes.
use Rattle.std.specs.Prelude.{◌≡◌, ℕ, ◌<◌, List, length, take, Option}
use Rattle.tl_base.specs.Outside.{with_back}

-- a front of the bytes, and not all
pub record TookFront (bytes : List ℕ) (before after : Option (List ℕ)) : Type 0 where
  pub front : ℕ
  pub part : front < length bytes
  pub took : after ≡ with_back before (take front bytes)
