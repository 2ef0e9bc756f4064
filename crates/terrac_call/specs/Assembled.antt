-- What is due for `asm`: lines are read as words, and these are the text of an image with one function.
use Rattle.std.specs.Prelude.{ℕ, ◌≡◌, ◌*◌, ◌<◌, ◌≤◌, List, [], ◌∷◌, length}
use Rattle.tl_base.specs.declared.limits.TheConstants.Limits.{MEMORY_UNIT}
use Rattle.tl_lex.specs.declared.SyntaxKind.TheVariants.{TooLong}
use Rattle.elf_image.specs.declared.image.Image.{Image}
use Rattle.elf_image.specs.Layout.{heap_start, text_address}
use Rattle.elf_image.specs.Written.{bytes_of}
use Rattle.rv_listing.specs.declared.assembly.AsmKind.{AsmKind}
use Rattle.rv_listing.specs.Assembly.{Assembles, IsRefused}
use Rattle.terrac_call.specs.declared.status.Status.TheVariants as statuses
use Rattle.terrac_call.specs.Due.{Due, refused, given, due_of_syntax, longest, nowhere}

-- The image of words with so many KiB of memory: a function of this name at their begin, without parameters, that gives a number of 64
-- bits with a sign, whose code is 4. It has no static bytes and no functions that stand as values.
abbrev pub assembled : (entry : List ℕ) → (memory : ℕ) → (words : List ℕ) → Image
assembled entry memory words = record {
  text = words;
  statics = [];
  entries = [];
  memory = memory * MEMORY_UNIT;
  heap = heap_start 0;
  private = 8192;
  exports = record { name = entry; address = text_address; params = []; result = 4 } ∷ [];
}

-- for a source: it is too long; it is refused, at its first bad line; or the file of the image of its words
pub data IsAssemblyDue (entry : List ℕ) (memory : ℕ) (bytes : List ℕ) (due : Due) : Type 0 where
  IsLong : longest < length bytes → due ≡ due_of_syntax TooLong nowhere → IsAssemblyDue entry memory bytes due
  IsBad : (kind : AsmKind) (number : ℕ) → length bytes ≤ longest → IsRefused bytes kind number
      → due ≡ refused (statuses.BadAssembly kind number) → IsAssemblyDue entry memory bytes due
  IsGood : (words : List ℕ) → length bytes ≤ longest → Assembles bytes words → due ≡ given (bytes_of (assembled entry memory words))
      → IsAssemblyDue entry memory bytes due
