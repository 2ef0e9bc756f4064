-- A file is one image or has one fault.
use Rattle.std.proofs.Common.{◌≡◌, ◌⊎◌, ℕ, List, Option, None, Some, refl, inl, inr}
use Rattle.elf_image.specs.declared.error.ImageError.{ImageError}
use Rattle.elf_image.specs.declared.image.Image.{Image}
use Rattle.elf_image.specs.Layout.{layout_of}
use Rattle.elf_image.specs.Loads.{image_at, HasOneAnswer}
use Rattle.elf_image.specs.Tests.{verdict_of}

abbrev OneBy : Option ImageError → Image → Type 0
OneBy verdict value =
    ((image : Image) × ((verdict ≡ None) × (image ≡ value)) × ((other : Image) → (verdict ≡ None) × (other ≡ value) → other ≡ image) × ((error : ImageError) → verdict ≡ Some error → ⊥))
    ⊎ ((error : ImageError) × (verdict ≡ Some error) × ((other : ImageError) → verdict ≡ Some other → other ≡ error) × ((image : Image) → (verdict ≡ None) × (image ≡ value) → ⊥))

some_is : (a b : ImageError) → Some a ≡ Some b → b ≡ a
some_is a b e = cc

none_some : (a : ImageError) → None ≡ Some a → ⊥
none_some a e = cc

some_none : (a : ImageError) → Some a ≡ None → ⊥
some_none a e = cc

one_by : (verdict : Option ImageError) (value : Image) → OneBy verdict value
one_by None value = inl (value, (refl, refl), λ other h. h.1, λ error e. none_some error e)
one_by (Some fault) value = inr (fault, refl, λ other e. some_is fault other e, λ image h. some_none fault h.0)

pub has_one_answer : (bytes : List ℕ) → HasOneAnswer bytes
has_one_answer bytes = one_by (verdict_of bytes) (image_at (layout_of bytes) bytes)
