-- The text of an image is no longer than its file.
use Rattle.std.proofs.Common.{◌≡◌, ◌∙◌, ℕ, ◌+◌, ◌*◌, ◌/◌, ◌≤◌, List, [], ◌∷◌, length, ap, refl, arith}
use Rattle.elf_image.specs.declared.image.Image.{Image}
use Rattle.elf_image.specs.declared.layout.Layout.{Layout}
use Rattle.elf_image.specs.Layout.{layout_of}
use Rattle.elf_image.specs.Tests.{verdict_of, verdict_headers, verdict_tables, bad_exports, bad_entries}
use Rattle.elf_image.specs.Loads.{Loads, words_at, image_at}
use Rattle.elf_image.proofs.Passed.{first_of_none, tables_passed}
use Rattle.elf_image.proofs.ReadLawful.{length-words_at}

words_within : (whole offset size count : ℕ) → offset + size ≤ whole → count ≡ size / 4 → 4 * count ≤ whole
words_within whole offset size count within is = omega arith

text_of : (l : Layout) (bytes : List ℕ) → (image_at l bytes).text ≡ words_at (l.text.size / 4) bytes l.text.offset
unfolding image_at
text_of l bytes = refl

pub short_text : (bytes : List ℕ) (image : Image) → Loads bytes image → 4 * length image.text ≤ length bytes
unfolding verdict_of
short_text bytes image loads =
    let l = layout_of bytes in
    let passed = first_of_none (verdict_headers bytes ∷ verdict_tables l bytes ∷ bad_exports l bytes ∷ bad_entries l bytes ∷ []) loads.0 in
    let tables = tables_passed bytes l refl passed.1.0 in
    let count : length image.text ≡ l.text.size / 4 =
    ap (λ (i : Image). length i.text) loads.1 ∙ (ap length (text_of l bytes) ∙ length-words_at (l.text.size / 4) l.text.offset bytes) in
    words_within (length bytes) l.text.offset l.text.size (length image.text) tables.parts.text count
