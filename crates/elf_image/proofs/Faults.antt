-- No test of a file gives want of memory.
use Rattle.std.proofs.Common.{◌≡◌, ℕ, zero, suc, ◌+◌, ◌-◌, ◌*◌, ◌/◌, ◌^◌, Bool, true, false, List, [], ◌∷◌, replicate, Option, None, Some}
use Rattle.std.specs.Prelude.{codes}
use Rattle.elf_image.specs.declared.error.ImageError.{ImageError}
use Rattle.elf_image.specs.declared.error.ImageError.TheVariants.{Short, BadMagic, BadField, Overlap, BadSymbol, NoMemory}
use Rattle.elf_image.specs.declared.layout.Layout.{Layout}
use Rattle.elf_image.specs.declared.rule.Rule.TheVariants.{Any, Is, Between}
use Rattle.elf_image.specs.Fields.{u64_at, Field, field, or_else, first_of, unless, bad_field, bad_fields, bad_bytes}
use Rattle.elf_image.specs.Layout.{layout_of, identification_fields, header_fields, segment_fields, section_fields, terra_fields}
use Rattle.elf_image.specs.Layout.{text_size_rule, memory_rule, entries_rule, beyond_entries, text_address, region_address, private_address}
use Rattle.elf_image.specs.Exports.{export_count, record_fields, bad_record, bad_records}
use Rattle.elf_image.specs.Entries.{entry_count, signature_rule, bad_entry, bad_entries_from}
use Rattle.elf_image.specs.Tests.{short_header, bad_magic, bad_header, short_segments, bad_segments, short_sections, bad_sections}
use Rattle.elf_image.specs.Tests.{short_parts, overlapping_parts, short_tables, bad_terra, bad_counts, bad_terra_records, bad_first_symbol}
use Rattle.elf_image.specs.Tests.{section_name, bad_section_names, bad_exports, bad_entries, verdict_headers, verdict_tables, verdict_of}

abbrev IsFault : Option ImageError → Type 0
IsFault verdict = verdict ≡ Some NoMemory → ⊥

none_fault : IsFault None
none_fault e = cc

or_fault : (a b : Option ImageError) → IsFault a → IsFault b → IsFault (or_else a b)
or_fault None b ha hb = hb
or_fault (Some x) b ha hb = ha

abbrev AllFaults : List (Option ImageError) → Type 0
AllFaults [] = Unit {0}
AllFaults (t ∷ ts) = IsFault t × AllFaults ts

first_fault : (ts : List (Option ImageError)) → AllFaults ts → IsFault (first_of ts)
first_fault [] h = none_fault
first_fault (t ∷ ts) h = or_fault t (first_of ts) h.0 (first_fault ts h.1)

unless_short : (b : Bool) → IsFault (unless b Short)
unless_short true e = cc
unless_short false e = cc

unless_magic : (b : Bool) → IsFault (unless b BadMagic)
unless_magic true e = cc
unless_magic false e = cc

unless_overlap : (b : Bool) → IsFault (unless b Overlap)
unless_overlap true e = cc
unless_overlap false e = cc

unless_symbol : (b : Bool) → IsFault (unless b BadSymbol)
unless_symbol true e = cc
unless_symbol false e = cc

unless_field : (b : Bool) (at : ℕ) → IsFault (unless b (BadField at))
unless_field true at e = cc
unless_field false at e = cc

field_fault : (bytes : List ℕ) (base : ℕ) (row : Field) → IsFault (bad_field bytes base row)
unfolding bad_field
field_fault bytes base row = unless_field _ _

fields_fault : (bytes : List ℕ) (base : ℕ) (rows : List Field) → IsFault (bad_fields bytes base rows)
fields_fault bytes base [] = none_fault
fields_fault bytes base (row ∷ rows) = or_fault (bad_field bytes base row) (bad_fields bytes base rows) (field_fault bytes base row) (fields_fault bytes base rows)

bytes_fault : (bytes : List ℕ) (base offset : ℕ) (wanted : List ℕ) → IsFault (bad_bytes bytes base offset wanted)
unfolding bad_bytes
bytes_fault bytes base offset wanted = unless_field _ _

record_fault : (bytes : List ℕ) (at : ℕ) → IsFault (bad_record bytes at)
unfolding bad_record
record_fault bytes at = or_fault _ (bad_fields bytes at record_fields) (fields_fault bytes at _) (fields_fault bytes at record_fields)

records_fault : (n : ℕ) (bytes : List ℕ) (at : ℕ) → IsFault (bad_records n bytes at)
unfolding bad_records
records_fault zero bytes at = none_fault
records_fault (suc n) bytes at = or_fault (bad_record bytes at) (bad_records n bytes (at + 24)) (record_fault bytes at) (records_fault n bytes (at + 24))

segments_fault : (bytes : List ℕ) → IsFault (bad_segments bytes)
unfolding bad_segments
segments_fault bytes =
    let a = bad_fields bytes 64 (segment_fields 5 text_address text_size_rule (Is (u64_at bytes 96))) in
    let b = bad_fields bytes 120 (segment_fields 6 region_address (Between 0 (u64_at bytes 160 / 2)) memory_rule) in
    let c = bad_fields bytes 176 (segment_fields 6 private_address entries_rule (beyond_entries (u64_at bytes 208))) in
    first_fault (a ∷ b ∷ c ∷ []) (fields_fault bytes 64 (segment_fields 5 text_address text_size_rule (Is (u64_at bytes 96))), (fields_fault bytes 120 (segment_fields 6 region_address (Between 0 (u64_at bytes 160 / 2)) memory_rule), (fields_fault bytes 176 (segment_fields 6 private_address entries_rule (beyond_entries (u64_at bytes 208))), tt)))

sections_fault : (l : Layout) (bytes : List ℕ) → IsFault (bad_sections l bytes)
unfolding bad_sections
sections_fault l bytes =
    first_fault (
    bad_fields bytes l.sections (section_fields 0 0 0 0 (Is 0) (Is 0) 0 0 0 0)
    ∷ bad_fields bytes (l.sections + 64) (section_fields 1 1 6 text_address (Is l.text.offset) (Is l.text.size) 0 0 1 0)
    ∷ bad_fields bytes (l.sections + 128) (section_fields 7 1 3 region_address (Is l.statics.offset) (Is l.statics.size) 0 0 1 0)
    ∷ bad_fields bytes (l.sections + 192) (section_fields 13 1 0 0 Any Any 0 0 1 0)
    ∷ bad_fields bytes (l.sections + 256) (section_fields 20 2 0 0 Any Any 5 1 1 24)
    ∷ bad_fields bytes (l.sections + 320) (section_fields 28 3 0 0 Any Any 0 0 1 0)
    ∷ [])
    (fields_fault bytes l.sections (section_fields 0 0 0 0 (Is 0) (Is 0) 0 0 0 0), (fields_fault bytes (l.sections + 64) (section_fields 1 1 6 text_address (Is l.text.offset) (Is l.text.size) 0 0 1 0), (fields_fault bytes (l.sections + 128) (section_fields 7 1 3 region_address (Is l.statics.offset) (Is l.statics.size) 0 0 1 0), (fields_fault bytes (l.sections + 192) (section_fields 13 1 0 0 Any Any 0 0 1 0), (fields_fault bytes (l.sections + 256) (section_fields 20 2 0 0 Any Any 5 1 1 24), (fields_fault bytes (l.sections + 320) (section_fields 28 3 0 0 Any Any 0 0 1 0), tt))))))

header_fault : (bytes : List ℕ) → IsFault (bad_header bytes)
unfolding bad_header
header_fault bytes = or_fault (bad_fields bytes 0 identification_fields) (bad_fields bytes 0 header_fields) (fields_fault bytes 0 identification_fields) (fields_fault bytes 0 header_fields)

headers_fault : (bytes : List ℕ) → IsFault (verdict_headers bytes)
unfolding verdict_headers
headers_fault bytes =
    let l = layout_of bytes in
    first_fault (short_header bytes ∷ bad_magic bytes ∷ bad_header bytes ∷ short_segments bytes ∷ bad_segments bytes ∷ short_sections l bytes ∷ bad_sections l bytes ∷ [])
    (unless_short _, (unless_magic _, (header_fault bytes, (unless_short _, (segments_fault bytes, (unless_short _, (sections_fault l bytes, tt)))))))

parts_fault : (l : Layout) (bytes : List ℕ) → IsFault (short_parts l bytes)
unfolding short_parts
parts_fault l bytes = unless_short _

overlap_fault : (l : Layout) → IsFault (overlapping_parts l)
unfolding overlapping_parts
overlap_fault l = unless_overlap _

sizes_fault : (l : Layout) (bytes : List ℕ) → IsFault (short_tables l bytes)
unfolding short_tables
sizes_fault l bytes = fields_fault bytes l.sections (field 224 8 (Between 32 (2 ^ 64 - 1)) ∷ field 352 8 (Between 36 (2 ^ 64 - 1)) ∷ [])

terra_fault : (l : Layout) (bytes : List ℕ) → IsFault (bad_terra l bytes)
unfolding bad_terra
terra_fault l bytes = fields_fault bytes l.terra.offset (terra_fields l)

counts_fault : (l : Layout) (bytes : List ℕ) → IsFault (bad_counts l bytes)
unfolding bad_counts
counts_fault l bytes =
    let n = export_count l bytes in
    fields_fault bytes l.sections (field 224 8 (Is (32 + 24 * n)) ∷ field 288 8 (Is (24 + 24 * n)) ∷ [])

symbol_fault : (l : Layout) (bytes : List ℕ) → IsFault (bad_first_symbol l bytes)
unfolding bad_first_symbol
symbol_fault l bytes = bytes_fault bytes l.symtab.offset 0 (replicate 24 0)

names_fault : (l : Layout) (bytes : List ℕ) → IsFault (bad_section_names l bytes)
unfolding bad_section_names
names_fault l bytes =
    let at = l.strtab.offset in
    first_fault (
    bad_bytes bytes at 0 (0 ∷ [])
    ∷ bad_bytes bytes at 1 (section_name (codes ".text"))
    ∷ bad_bytes bytes at 7 (section_name (codes ".data"))
    ∷ bad_bytes bytes at 13 (section_name (codes ".terra"))
    ∷ bad_bytes bytes at 20 (section_name (codes ".symtab"))
    ∷ bad_bytes bytes at 28 (section_name (codes ".strtab"))
    ∷ [])
    (bytes_fault bytes at 0 _, (bytes_fault bytes at 1 _, (bytes_fault bytes at 7 _, (bytes_fault bytes at 13 _, (bytes_fault bytes at 20 _, (bytes_fault bytes at 28 _, tt))))))

exports_fault : (l : Layout) (bytes : List ℕ) → IsFault (bad_exports l bytes)
unfolding bad_exports
exports_fault l bytes = unless_symbol _

entry_fault : (text count : ℕ) (bytes : List ℕ) (at : ℕ) → IsFault (bad_entry text count bytes at)
unfolding bad_entry
entry_fault text count bytes at =
    or_fault _ (bad_field bytes at (field 8 8 (signature_rule count))) (unless_field _ at) (field_fault bytes at (field 8 8 (signature_rule count)))

entries_from_fault : (n text count : ℕ) (bytes : List ℕ) (at : ℕ) → IsFault (bad_entries_from n text count bytes at)
unfolding bad_entries_from
entries_from_fault zero text count bytes at = none_fault
entries_from_fault (suc n) text count bytes at =
    or_fault (bad_entry text count bytes at) (bad_entries_from n text count bytes (at + 16)) (entry_fault text count bytes at) (entries_from_fault n text count bytes (at + 16))

entries_fault : (l : Layout) (bytes : List ℕ) → IsFault (bad_entries l bytes)
unfolding bad_entries
entries_fault l bytes = entries_from_fault (entry_count l) l.text.size (entry_count l) bytes l.entries.offset

tables_fault : (l : Layout) (bytes : List ℕ) → IsFault (verdict_tables l bytes)
unfolding verdict_tables
tables_fault l bytes =
    first_fault (short_parts l bytes ∷ overlapping_parts l ∷ short_tables l bytes ∷ bad_terra l bytes ∷ bad_counts l bytes ∷ bad_terra_records l bytes ∷ bad_first_symbol l bytes ∷ bad_section_names l bytes ∷ [])
    (parts_fault l bytes, (overlap_fault l, (sizes_fault l bytes, (terra_fault l bytes, (counts_fault l bytes, (records_fault (export_count l bytes) bytes (l.terra.offset + 32), (symbol_fault l bytes, (names_fault l bytes, tt))))))))

pub verdict_fault : (bytes : List ℕ) → verdict_of bytes ≡ Some NoMemory → ⊥
unfolding verdict_of
verdict_fault bytes =
    let l = layout_of bytes in
    first_fault (verdict_headers bytes ∷ verdict_tables l bytes ∷ bad_exports l bytes ∷ bad_entries l bytes ∷ []) (headers_fault bytes, (tables_fault l bytes, (exports_fault l bytes, (entries_fault l bytes, tt))))
