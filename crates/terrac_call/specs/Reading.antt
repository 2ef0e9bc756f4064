-- What is read of a source.
use Rattle.std.specs.Prelude.{ℕ, ◌≡◌, ◌+◌, ◌≤◌, List, length, Option, Some, None}
use Rattle.tl_base.specs.Outside.{with_front}
use Rattle.terrac_call.specs.Words.{Making, Rename, ListImage, Assemble, Make, Stage, Exec, Asked, Named, Refused, Unlawful}
use Rattle.terrac_call.specs.Words.{generated_of}
use Rattle.terrac_call.specs.Due.{longest}
use Rattle.terrac_call.specs.Exec.{longest_image}

-- the bytes of a source, where it tells them
abbrev pub IsToldAs : Option (List ℕ) → List ℕ → Type 0
IsToldAs None bytes = Unit {0}
IsToldAs (Some whole) bytes = whole ≡ bytes

-- at most so many bytes were taken from the source
abbrev pub TookAtMost : ℕ → Option (List ℕ) → Option (List ℕ) → Type 0
TookAtMost most old new = (front : List ℕ) × (length front ≤ most) × (old ≡ with_front front new)

-- how many bytes are read of a source at most: one more than it may have, which tells that it has too many; and none of a generated one
abbrev pub most_of_source : Option ℕ → ℕ
most_of_source None = longest + 1
most_of_source (Some count) = 0

abbrev pub most_of_making : Making → ℕ
most_of_making Rename = longest + 1
most_of_making ListImage = longest_image + 1
most_of_making (Assemble entry memory) = longest + 1

abbrev pub most_read : Asked → ℕ
most_read (Named (Make what)) = most_of_making what
most_read (Named (Stage task)) = most_of_source (generated_of task)
most_read (Named (Exec call stepping)) = longest_image + 1
most_read Refused = 0
most_read Unlawful = 0
