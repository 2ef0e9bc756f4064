-- What the code's tests answer, beside the fault that the definitions give.
use Rattle.std.specs.Prelude.{◌≡◌, ℕ, List, Option, Some, None, Result, Ok, Err}
use Rattle.elf_image.specs.declared.error.ImageError.{ImageError}
use Rattle.elf_image.specs.declared.error.ImageError.TheVariants.{Short, BadMagic, BadField, Overlap, BadSymbol, NoMemory}
use Rattle.elf_image.specs.declared.rule.Rule.{Rule}
use Rattle.elf_image.specs.declared.rule.Rule.TheVariants.{Any, Is}
use Rattle.elf_image.specs.declared.layout.Part.{Part}
use Rattle.elf_image.specs.declared.putting.Number.{Number}
use Rattle.elf_image.specs.declared.putting.Number.TheVariants.{U8, U16, U32, U64}
use Rattle.elf_image.specs.declared.headers.Section.{Section}
use Rattle.elf_image.specs.Fields.{Field}
use Rattle.elf_image.specs.Layout.{section_fields}

-- Ok where there is no fault, and the fault where there is one
abbrev pub Says : {X : Type 0} → Result X ImageError → Option ImageError → Type 0
Says (Ok x) verdict = verdict ≡ None
Says (Err error) verdict = verdict ≡ Some error

-- the rule of a number that may be known
abbrev pub known : (Part → ℕ) → Option Part → Rule
known number None = Any
known number (Some part) = Is (number part)

-- the fields of a section's header, its place being the part, where there is one
abbrev pub section_rows : Section → Option Part → List Field
section_rows s place =
    section_fields s.name s.kind s.flags s.address (known (λ p. p.offset) place) (known (λ p. p.size) place)
    s.link s.info s.align s.entry_size

-- The value, seen by view, where there is no fault, and the fault where there is one, but for want of memory.
abbrev pub Gives : {X Y : Type 0} → (X → Y) → Result X ImageError → Option ImageError → Y → Type 0
Gives view (Ok x) verdict value = (verdict ≡ None) × (view x ≡ value)
Gives view (Err NoMemory) verdict value = Unit {0}
Gives view (Err Short) verdict value = verdict ≡ Some Short
Gives view (Err BadMagic) verdict value = verdict ≡ Some BadMagic
Gives view (Err (BadField at)) verdict value = verdict ≡ Some (BadField at)
Gives view (Err Overlap) verdict value = verdict ≡ Some Overlap
Gives view (Err BadSymbol) verdict value = verdict ≡ Some BadSymbol

-- the bytes and the value of a number
abbrev pub row_of : Number → ℕ × ℕ
row_of (U8 n) = (1, n)
row_of (U16 n) = (2, n)
row_of (U32 n) = (4, n)
row_of (U64 n) = (8, n)
