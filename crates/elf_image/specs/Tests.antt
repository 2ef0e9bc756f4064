-- The tests of a file, in order. Each gives its fault where it fails.
use Rattle.std.specs.Prelude.{ℕ, ◌<◌, ◌≤◌, ◌+◌, ◌-◌, ◌*◌, ◌/◌, ◌^◌, Bool, true, ◌&&◌, ◌||◌, ◌==◌, nat_le, List, [], ◌∷◌, ◌++◌, length}
use Rattle.std.specs.Prelude.{replicate, codes, Option}
use Rattle.std.specs.List.{list_all}
use Rattle.elf_image.specs.declared.error.ImageError.{ImageError}
use Rattle.elf_image.specs.declared.error.ImageError.TheVariants.{Short, BadMagic, Overlap, BadSymbol}
use Rattle.elf_image.specs.declared.layout.Part.{Part}
use Rattle.elf_image.specs.declared.layout.Layout.{Layout}
use Rattle.elf_image.specs.declared.rule.Rule.TheVariants.{Any, Is, Between}
use Rattle.elf_image.specs.Fields.{u32_at, u64_at, field, bad_fields, bad_bytes, or_else, first_of, unless}
use Rattle.elf_image.specs.Layout.{layout_of, parts_of, identification_fields, header_fields, segment_fields, section_fields, terra_fields}
use Rattle.elf_image.specs.Layout.{text_size_rule, memory_rule, entries_rule, beyond_entries, text_address, region_address}
use Rattle.elf_image.specs.Layout.{private_address}
use Rattle.elf_image.specs.Exports.{export_count, bad_records, symbols_at, are_right, names_differ}
use Rattle.elf_image.specs.Entries.{entry_count, bad_entries_from}

-- 1. the header is there
abbrev pub short_header : List ℕ → Option ImageError
short_header bytes = unless (nat_le 64 (length bytes)) Short

-- 2. it begins with 7F 45 4C 46
abbrev pub bad_magic : List ℕ → Option ImageError
bad_magic bytes = unless (u32_at bytes 0 == 0x464C457F) BadMagic

-- 3. its fields
unfoldable pub bad_header : List ℕ → Option ImageError
bad_header bytes = or_else (bad_fields bytes 0 identification_fields) (bad_fields bytes 0 header_fields)

-- 4. the program headers are there, and their fields
abbrev pub short_segments : List ℕ → Option ImageError
short_segments bytes = unless (nat_le 232 (length bytes)) Short

unfoldable pub bad_segments : List ℕ → Option ImageError
bad_segments bytes = first_of (
    bad_fields bytes 64 (segment_fields 5 text_address text_size_rule (Is (u64_at bytes 96)))
    ∷ bad_fields bytes 120 (segment_fields 6 region_address (Between 0 (u64_at bytes 160 / 2)) memory_rule)
    ∷ bad_fields bytes 176 (segment_fields 6 private_address entries_rule (beyond_entries (u64_at bytes 208)))
    ∷ [])

-- 5. the section headers are there, and their fields
abbrev pub short_sections : Layout → List ℕ → Option ImageError
short_sections l bytes = unless (nat_le (l.sections + 384) (length bytes)) Short

unfoldable pub bad_sections : Layout → List ℕ → Option ImageError
bad_sections l bytes = first_of (
    bad_fields bytes l.sections (section_fields 0 0 0 0 (Is 0) (Is 0) 0 0 0 0)
    ∷ bad_fields bytes (l.sections + 64) (section_fields 1 1 6 text_address (Is l.text.offset) (Is l.text.size) 0 0 1 0)
    ∷ bad_fields bytes (l.sections + 128) (section_fields 7 1 3 region_address (Is l.statics.offset) (Is l.statics.size) 0 0 1 0)
    ∷ bad_fields bytes (l.sections + 192) (section_fields 13 1 0 0 Any Any 0 0 1 0)
    ∷ bad_fields bytes (l.sections + 256) (section_fields 20 2 0 0 Any Any 5 1 1 24)
    ∷ bad_fields bytes (l.sections + 320) (section_fields 28 3 0 0 Any Any 0 0 1 0)
    ∷ [])

-- 6. no part ends past the file's end
unfoldable pub short_parts : Layout → List ℕ → Option ImageError
short_parts l bytes = unless (list_all (λ (p : Part). nat_le (p.offset + p.size) (length bytes)) (parts_of l)) Short

-- the byte at offset k is in the part
abbrev pub IsIn : ℕ → Part → Type 0
IsIn k p = (p.offset ≤ k) × (k < p.offset + p.size)

-- 7. no byte is in two parts
abbrev pub is_apart : Part → Part → Bool
is_apart p q =
    (p.size == 0) || ((q.size == 0) || (nat_le (p.offset + p.size) q.offset || nat_le (q.offset + q.size) p.offset))

abbrev pub are_apart : List Part → Bool
are_apart [] = true
are_apart (p ∷ ps) = list_all (is_apart p) ps && are_apart ps

unfoldable pub overlapping_parts : Layout → Option ImageError
overlapping_parts l = unless (are_apart (parts_of l)) Overlap

-- 8. `.terra` and `.strtab` have their fixed parts
unfoldable pub short_tables : Layout → List ℕ → Option ImageError
short_tables l bytes =
    bad_fields bytes l.sections (field 224 8 (Between 32 (2 ^ 64 - 1)) ∷ field 352 8 (Between 36 (2 ^ 64 - 1)) ∷ [])

-- 9. the first fields of `.terra`
unfoldable pub bad_terra : Layout → List ℕ → Option ImageError
bad_terra l bytes = bad_fields bytes l.terra.offset (terra_fields l)

-- 10. `.terra` and `.symtab` have an entry for each export, and `.symtab` its first one
unfoldable pub bad_counts : Layout → List ℕ → Option ImageError
bad_counts l bytes =
    let n = export_count l bytes in
    bad_fields bytes l.sections (field 224 8 (Is (32 + 24 * n)) ∷ field 288 8 (Is (24 + 24 * n)) ∷ [])

-- 11. the records of `.terra`
abbrev pub bad_terra_records : Layout → List ℕ → Option ImageError
bad_terra_records l bytes = bad_records (export_count l bytes) bytes (l.terra.offset + 32)

-- 12. the first symbol is of zeros
unfoldable pub bad_first_symbol : Layout → List ℕ → Option ImageError
bad_first_symbol l bytes = bad_bytes bytes l.symtab.offset 0 (replicate 24 0)

-- 13. `.strtab` begins with a zero byte and the sections' names
abbrev pub section_name : List ℕ → List ℕ
section_name text = text ++ 0 ∷ []

unfoldable pub bad_section_names : Layout → List ℕ → Option ImageError
bad_section_names l bytes = first_of (
    bad_bytes bytes l.strtab.offset 0 (0 ∷ [])
    ∷ bad_bytes bytes l.strtab.offset 1 (section_name (codes ".text"))
    ∷ bad_bytes bytes l.strtab.offset 7 (section_name (codes ".data"))
    ∷ bad_bytes bytes l.strtab.offset 13 (section_name (codes ".terra"))
    ∷ bad_bytes bytes l.strtab.offset 20 (section_name (codes ".symtab"))
    ∷ bad_bytes bytes l.strtab.offset 28 (section_name (codes ".strtab"))
    ∷ [])

-- 14. Each export's symbol, address and name are right, and no two exports have one name. Whichever of these fails first,
-- the answer is the same.
unfoldable pub bad_exports : Layout → List ℕ → Option ImageError
bad_exports l bytes =
    let n = export_count l bytes in
    unless (are_right n l bytes (l.terra.offset + 32) (l.symtab.offset + 24)
    && names_differ (symbols_at n l bytes (l.terra.offset + 32))) BadSymbol

-- 15. each entry's address is that of a word of the text, and its signature one that there may be
unfoldable pub bad_entries : Layout → List ℕ → Option ImageError
bad_entries l bytes = bad_entries_from (entry_count l) l.text.size (entry_count l) bytes l.entries.offset

-- the tests of the headers
unfoldable pub verdict_headers : List ℕ → Option ImageError
verdict_headers bytes =
    let l = layout_of bytes in
    first_of (
    short_header bytes
    ∷ bad_magic bytes
    ∷ bad_header bytes
    ∷ short_segments bytes
    ∷ bad_segments bytes
    ∷ short_sections l bytes
    ∷ bad_sections l bytes
    ∷ [])

-- the tests of what lies behind them, but for the last two
unfoldable pub verdict_tables : Layout → List ℕ → Option ImageError
verdict_tables l bytes = first_of (
    short_parts l bytes
    ∷ overlapping_parts l
    ∷ short_tables l bytes
    ∷ bad_terra l bytes
    ∷ bad_counts l bytes
    ∷ bad_terra_records l bytes
    ∷ bad_first_symbol l bytes
    ∷ bad_section_names l bytes
    ∷ [])

-- the fault of the first test that fails, or none
unfoldable pub verdict_of : List ℕ → Option ImageError
verdict_of bytes =
    let l = layout_of bytes in
    first_of (verdict_headers bytes ∷ verdict_tables l bytes ∷ bad_exports l bytes ∷ bad_entries l bytes ∷ [])
