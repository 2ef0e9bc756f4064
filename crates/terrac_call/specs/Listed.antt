-- What is due for `list`: an image is read, and its words are listed with their texts.
use Rattle.std.specs.Prelude.{ℕ, ◌≡◌, ◌<◌, ◌≤◌, List, length}
use Rattle.elf_image.specs.declared.error.ImageError.{ImageError}
use Rattle.elf_image.specs.declared.image.Image.{Image}
use Rattle.elf_image.specs.Loads.{Loads, BadBytes}
use Rattle.rv_listing.specs.Listing.{Listing}
use Rattle.terrac_call.specs.declared.status.ImageFault.TheVariants.{TooLong, Refused}
use Rattle.terrac_call.specs.Due.{Due, given}
use Rattle.terrac_call.specs.Exec.{due_of_bad_image, longest_image}

-- for bytes: too many of them; none that are an image; or the listing of the image that they are
pub data IsListDue (bytes : List ℕ) (due : Due) : Type 0 where
  IsLong : longest_image < length bytes → due ≡ due_of_bad_image TooLong → IsListDue bytes due
  IsBad : (error : ImageError) → length bytes ≤ longest_image → BadBytes bytes error → due ≡ due_of_bad_image (Refused error)
      → IsListDue bytes due
  IsImage : (image : Image) (lines : List ℕ) → length bytes ≤ longest_image → Loads bytes image → Listing image lines
      → due ≡ given lines → IsListDue bytes due
