-- The one file of an image without unused bytes.
use Rattle.std.specs.Prelude.{ℕ, ◌+◌, ◌-◌, ◌*◌, List, [], ◌∷◌, ◌++◌, length, replicate, codes}
use Rattle.byteorder.specs.Endian.{little_bytes}
use Rattle.elf_image.specs.declared.layout.Layout.{Layout}
use Rattle.elf_image.specs.declared.image.Symbol.{Symbol}
use Rattle.elf_image.specs.declared.image.Entry.{Entry}
use Rattle.elf_image.specs.declared.image.Image.{Image}
use Rattle.elf_image.specs.Layout.{part, text_address, region_address, private_address, version_of}
use Rattle.elf_image.specs.Tests.{section_name}

-- numbers, each in that many bytes, the lowest byte first
unfoldable pub numbers : List (ℕ × ℕ) → List ℕ
numbers [] = []
numbers (row ∷ rows) = little_bytes row.0 row.1 ++ numbers rows

-- the bytes of the exports' names, with a zero byte behind each
unfoldable pub names_size : List Symbol → ℕ
names_size [] = 0
names_size (s ∷ ss) = length s.name + 1 + names_size ss

-- the parts, one behind the other
unfoldable pub layout_for : Image → Layout
layout_for i =
    let text = 4 * length i.text in
    let statics = length i.statics in
    let entries = 16 * length i.entries in
    let terra = 32 + 24 * length i.exports in
    let symtab = 24 + 24 * length i.exports in
    let strtab = 36 + names_size i.exports in
    record {
      sections = 232 + text + statics + entries + terra + symtab + strtab;
      text = part 232 text;
      statics = part (232 + text) statics;
      entries = part (232 + text + statics) entries;
      memory = i.memory;
      private = i.private;
      terra = part (232 + text + statics + entries) terra;
      symtab = part (232 + text + statics + entries + terra) symtab;
      strtab = part (232 + text + statics + entries + terra + symtab) strtab;
    }

-- how many bytes the file has
abbrev pub file_size : Image → ℕ
file_size i = (layout_for i).sections + 384

unfoldable pub header_bytes : Layout → List ℕ
header_bytes l = numbers (
    (4, 0x464C457F) ∷ (1, 2) ∷ (1, 1) ∷ (1, 1) ∷ (1, 0) ∷ (1, 0) ∷ (1, 0) ∷ (1, 0) ∷ (1, 0) ∷ (1, 0) ∷ (1, 0) ∷ (1, 0) ∷ (1, 0)
    ∷ (2, 2) ∷ (2, 243) ∷ (4, 1) ∷ (8, 0) ∷ (8, 64) ∷ (8, l.sections) ∷ (4, 0)
    ∷ (2, 64) ∷ (2, 56) ∷ (2, 3) ∷ (2, 64) ∷ (2, 6) ∷ (2, 5) ∷ [])

unfoldable pub segment_bytes : (flags offset address in_file in_memory : ℕ) → List ℕ
segment_bytes flags offset address in_file in_memory = numbers (
    (4, 1) ∷ (4, flags) ∷ (8, offset) ∷ (8, address) ∷ (8, address) ∷ (8, in_file) ∷ (8, in_memory) ∷ (8, 1) ∷ [])

unfoldable pub segments_bytes : Layout → List ℕ
segments_bytes l =
    segment_bytes 5 l.text.offset text_address l.text.size l.text.size
    ++ (segment_bytes 6 l.statics.offset region_address l.statics.size l.memory
    ++ segment_bytes 6 l.entries.offset private_address l.entries.size (l.entries.size + l.private))

unfoldable pub words_bytes : List ℕ → List ℕ
words_bytes [] = []
words_bytes (word ∷ words) = little_bytes 4 word ++ words_bytes words

-- the entries, each by its address and its signature
unfoldable pub entries_bytes : List Entry → List ℕ
entries_bytes [] = []
entries_bytes (e ∷ es) = numbers ((8, e.address) ∷ (8, e.signature) ∷ []) ++ entries_bytes es

-- eight type codes, of which the first are those of the parameters
abbrev pub codes_bytes : List ℕ → List ℕ
codes_bytes params = params ++ replicate (8 - length params) 0

-- a record of `.terra`, whose name stands at this offset of `.strtab`
unfoldable pub record_bytes : ℕ → Symbol → List ℕ
record_bytes name s =
    numbers ((8, s.address) ∷ [])
    ++ (codes_bytes s.params ++ numbers ((1, length s.params) ∷ (1, s.result) ∷ (1, 0) ∷ (1, 0) ∷ (4, name) ∷ []))

-- the records of the exports whose names stand from this offset of `.strtab` on
unfoldable pub records_bytes : ℕ → List Symbol → List ℕ
records_bytes name [] = []
records_bytes name (s ∷ ss) = record_bytes name s ++ records_bytes (name + length s.name + 1) ss

unfoldable pub terra_bytes : Image → List ℕ
terra_bytes i =
    numbers ((4, version_of (16 * length i.entries)) ∷ (4, length i.exports) ∷ (8, i.memory) ∷ (8, i.heap) ∷ (8, i.private) ∷ [])
    ++ records_bytes 36 i.exports

unfoldable pub symbol_bytes : ℕ → Symbol → List ℕ
symbol_bytes name s = numbers ((4, name) ∷ (1, 0x12) ∷ (1, 0) ∷ (2, 1) ∷ (8, s.address) ∷ (8, 0) ∷ [])

unfoldable pub symbols_bytes : ℕ → List Symbol → List ℕ
symbols_bytes name [] = []
symbols_bytes name (s ∷ ss) = symbol_bytes name s ++ symbols_bytes (name + length s.name + 1) ss

unfoldable pub names_bytes : List Symbol → List ℕ
names_bytes [] = []
names_bytes (s ∷ ss) = s.name ++ 0 ∷ names_bytes ss

abbrev pub section_names : List ℕ
section_names =
    0 ∷ [] ++ section_name (codes ".text") ++ section_name (codes ".data") ++ section_name (codes ".terra")
    ++ section_name (codes ".symtab") ++ section_name (codes ".strtab")

-- an entry of zeros, and one for each export
unfoldable pub symtab_bytes : List Symbol → List ℕ
symtab_bytes ss = replicate 24 0 ++ symbols_bytes 36 ss

unfoldable pub strtab_bytes : List Symbol → List ℕ
strtab_bytes ss = section_names ++ names_bytes ss

unfoldable pub section_bytes : (name kind flags address offset size link info align entry : ℕ) → List ℕ
section_bytes name kind flags address offset size link info align entry = numbers (
    (4, name) ∷ (4, kind) ∷ (8, flags) ∷ (8, address) ∷ (8, offset) ∷ (8, size) ∷ (4, link) ∷ (4, info) ∷ (8, align) ∷ (8, entry) ∷ [])

unfoldable pub sections_bytes : Layout → List ℕ
sections_bytes l =
    section_bytes 0 0 0 0 0 0 0 0 0 0
    ++ (section_bytes 1 1 6 text_address l.text.offset l.text.size 0 0 1 0
    ++ (section_bytes 7 1 3 region_address l.statics.offset l.statics.size 0 0 1 0
    ++ (section_bytes 13 1 0 0 l.terra.offset l.terra.size 0 0 1 0
    ++ (section_bytes 20 2 0 0 l.symtab.offset l.symtab.size 5 1 1 24
    ++ section_bytes 28 3 0 0 l.strtab.offset l.strtab.size 0 0 1 0))))

-- the file of the image
unfoldable pub bytes_of : Image → List ℕ
bytes_of i =
    let l = layout_for i in
    header_bytes l
    ++ (segments_bytes l
    ++ (words_bytes i.text
    ++ (i.statics
    ++ (entries_bytes i.entries
    ++ (terra_bytes i
    ++ (symtab_bytes i.exports
    ++ (strtab_bytes i.exports
    ++ sections_bytes l)))))))
