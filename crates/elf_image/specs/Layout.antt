-- Where the parts of an image's file lie, and the tables of fields of ELF-64's headers.
use Rattle.std.specs.Prelude.{ℕ, ◌+◌, ◌-◌, ◌*◌, ◌/◌, ◌^◌, ◌==◌, if◌then◌else◌, List, [], ◌∷◌}
use Rattle.tl_base.specs.declared.limits.TheConstants.Limits.{MIN_MEMORY, MAX_MEMORY, MEMORY_UNIT}
use Rattle.tl_base.specs.declared.limits.TheConstants.{TEXT_ADDRESS, REGION_ADDRESS, PRIVATE_ADDRESS, MAX_PRIVATE, MAX_ENTRIES}
use Rattle.elf_image.specs.declared.layout.Part.{Part}
use Rattle.elf_image.specs.declared.layout.Layout.{Layout}
use Rattle.elf_image.specs.declared.rule.Rule.{Rule}
use Rattle.elf_image.specs.declared.rule.Rule.TheVariants.{Any, Is, Multiple, Beyond}
use Rattle.elf_image.specs.Fields.{u64_at, Field, field}

abbrev pub part : ℕ → ℕ → Part
part offset size = record { offset = offset; size = size }

-- the part whose offset and size stand at these offsets
abbrev pub part_at : List ℕ → ℕ → ℕ → Part
part_at bytes offset size = part (u64_at bytes offset) (u64_at bytes size)

-- What the headers say of the file, each by its offset. The program headers of the text, the region and the private memory
-- stand at 64, 120 and 176. The bytes of the private segment in the file are the entries, and its memory has the private size beyond
-- them. The section headers stand at the offset that byte 40 on gives, 64 bytes each, those of `.terra`, `.symtab` and `.strtab` at
-- 192, 256 and 320 in their table.
unfoldable pub layout_of : List ℕ → Layout
layout_of bytes =
    let sections = u64_at bytes 40 in
    record {
      sections = sections;
      text = part_at bytes 72 96;
      statics = part_at bytes 128 152;
      entries = part_at bytes 184 208;
      memory = u64_at bytes 160;
      private = u64_at bytes 216 - u64_at bytes 208;
      terra = part_at bytes (sections + 216) (sections + 224);
      symtab = part_at bytes (sections + 280) (sections + 288);
      strtab = part_at bytes (sections + 344) (sections + 352);
    }

-- the entries are a part where there are any: where there are none, no test looks at their offset
abbrev pub with_entries : Part → List Part → List Part
with_entries entries parts = if entries.size == 0 then parts else entries ∷ parts

-- the parts of the file: the header with the program headers, and what these and the section headers name
abbrev pub parts_of : Layout → List Part
parts_of l =
    part 0 232 ∷ l.text ∷ l.statics ∷ with_entries l.entries (l.terra ∷ l.symtab ∷ l.strtab ∷ part l.sections 384 ∷ [])

-- the addresses at which the segments begin
abbrev pub text_address : ℕ
text_address = TEXT_ADDRESS

abbrev pub region_address : ℕ
region_address = REGION_ADDRESS

abbrev pub private_address : ℕ
private_address = PRIVATE_ADDRESS

-- the heap begins at the first multiple of 16 at or after the end of the static bytes
abbrev pub heap_start : ℕ → ℕ
heap_start statics = (region_address + statics + 15) / 16 * 16

-- the header, Elf64_Ehdr, behind its four bytes of magic: e_ident, which says 64 bits, the lowest byte first, version 1, the
-- System V interface, and zeros
abbrev pub identification_fields : List Field
identification_fields =
    field 4 1 (Is 2) ∷ field 5 1 (Is 1) ∷ field 6 1 (Is 1) ∷ field 7 1 (Is 0) ∷ field 8 1 (Is 0) ∷ field 9 1 (Is 0)
    ∷ field 10 1 (Is 0) ∷ field 11 1 (Is 0) ∷ field 12 1 (Is 0) ∷ field 13 1 (Is 0) ∷ field 14 1 (Is 0) ∷ field 15 1 (Is 0) ∷ []

abbrev pub header_fields : List Field
header_fields =
    -- e_type, an executable; e_machine, RISC-V; e_version; e_entry, none
    field 16 2 (Is 2) ∷ field 18 2 (Is 243) ∷ field 20 4 (Is 1) ∷ field 24 8 (Is 0)
    -- e_phoff; e_shoff; e_flags
    ∷ field 32 8 (Is 64) ∷ field 40 8 Any ∷ field 48 4 (Is 0)
    -- e_ehsize; e_phentsize and e_phnum; e_shentsize and e_shnum; e_shstrndx
    ∷ field 52 2 (Is 64) ∷ field 54 2 (Is 56) ∷ field 56 2 (Is 3) ∷ field 58 2 (Is 64) ∷ field 60 2 (Is 6) ∷ field 62 2 (Is 5) ∷ []

-- a program header, Elf64_Phdr, of a segment that is loaded
abbrev pub segment_fields : (flags address : ℕ) (in_file in_memory : Rule) → List Field
segment_fields flags address in_file in_memory =
    -- p_type: PT_LOAD; p_flags; p_offset
    field 0 4 (Is 1) ∷ field 4 4 (Is flags) ∷ field 8 8 Any
    -- p_vaddr; p_paddr; p_filesz; p_memsz; p_align
    ∷ field 16 8 (Is address) ∷ field 24 8 (Is address) ∷ field 32 8 in_file ∷ field 40 8 in_memory ∷ field 48 8 (Is 1) ∷ []

-- the segments' sizes in the file and in memory
abbrev pub text_size_rule : Rule
text_size_rule = Multiple 4 0 (2 ^ 64 - 1)

abbrev pub memory_rule : Rule
memory_rule = Multiple MEMORY_UNIT MIN_MEMORY MAX_MEMORY

abbrev pub private_rule : Rule
private_rule = Multiple 512 0 MAX_PRIVATE

-- The private segment has in the file the entries, of 16 bytes each. Its memory begins with them, and has the private size beyond.
abbrev pub entries_rule : Rule
entries_rule = Multiple 16 0 (16 * MAX_ENTRIES)

abbrev pub beyond_entries : ℕ → Rule
beyond_entries entries = Beyond entries 512 MAX_PRIVATE

-- a section header, Elf64_Shdr
abbrev pub section_fields : (name kind flags address : ℕ) (offset size : Rule) (link info align entry : ℕ) → List Field
section_fields name kind flags address offset size link info align entry =
    -- sh_name; sh_type; sh_flags; sh_addr
    field 0 4 (Is name) ∷ field 4 4 (Is kind) ∷ field 8 8 (Is flags) ∷ field 16 8 (Is address)
    -- sh_offset; sh_size
    ∷ field 24 8 offset ∷ field 32 8 size
    -- sh_link; sh_info; sh_addralign; sh_entsize
    ∷ field 40 4 (Is link) ∷ field 44 4 (Is info) ∷ field 48 8 (Is align) ∷ field 56 8 (Is entry) ∷ []

-- the version of the format, by the bytes that the entries have: 1 where there are none, and else 2
abbrev pub version_of : ℕ → ℕ
version_of entries = if entries == 0 then 1 else 2

-- the first 32 bytes of `.terra`: version, number of exports, memory, start of the heap, private size
abbrev pub terra_fields : Layout → List Field
terra_fields l =
    field 0 4 (Is (version_of l.entries.size)) ∷ field 4 4 Any ∷ field 8 8 (Is l.memory)
    ∷ field 16 8 (Is (heap_start l.statics.size)) ∷ field 24 8 (Is l.private) ∷ []
