-- What is known of what a staging was made to.
use Rattle.elf_image.specs.Lawful.{IsLawful}
use Rattle.stage_image.specs.declared.emitting.Made.{Made}
use Rattle.stage_image.specs.declared.emitting.Made.TheVariants as made

-- an image is lawful
abbrev pub IsLawfulMade : Made → Type 0
IsLawfulMade (made.Image image) = IsLawful image
IsLawfulMade _ = Unit {0}
