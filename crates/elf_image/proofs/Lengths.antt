-- How many bytes each part of a file has, and where it stands.
use Rattle.std.proofs.Common.{◌≡◌, ℕ, ◌+◌, ◌-◌, ◌*◌, ◌≤◌, true, List, [], ◌∷◌, ◌++◌, length, replicate, refl, arith}
use Rattle.std.specs.List.{list_all}
use Rattle.std.proofs.lemmas.Bool.{leb-true}
use Rattle.std.proofs.lemmas.List.{length-append, length-replicate}
use Rattle.byteorder.specs.Endian.{little_bytes}
use Rattle.byteorder.specs.Numbers.{length-bytes_low_first}
use Rattle.elf_image.specs.declared.image.Symbol.{Symbol}
use Rattle.elf_image.specs.declared.image.Entry.{Entry}
use Rattle.elf_image.specs.declared.image.Image.{Image}
use Rattle.elf_image.specs.declared.layout.Layout.{Layout}
use Rattle.elf_image.specs.Layout.{text_address, region_address, private_address, version_of}
use Rattle.elf_image.specs.Lawful.{IsLawful, is_lawful_symbol}
use Rattle.elf_image.specs.Written.{numbers, names_size, layout_for, file_size, header_bytes, segment_bytes, segments_bytes, words_bytes}
use Rattle.elf_image.specs.Written.{codes_bytes, record_bytes, records_bytes, terra_bytes, symbol_bytes, symbols_bytes, names_bytes}
use Rattle.elf_image.specs.Written.{entries_bytes, section_names, symtab_bytes, strtab_bytes, section_bytes, sections_bytes, bytes_of}
use Rattle.elf_image.proofs.Steps.{and_true}
use Rattle.elf_image.proofs.Has.{Has, Has-all, Has-left, Has-next, length-numbers}

pub length-header : (l : Layout) → length (header_bytes l) ≡ 64
unfolding header_bytes
length-header l = length-numbers _

pub length-segment : (flags offset address in_file in_memory : ℕ) → length (segment_bytes flags offset address in_file in_memory) ≡ 56
unfolding segment_bytes
length-segment flags offset address in_file in_memory = length-numbers _

pub length-segments : (l : Layout) → length (segments_bytes l) ≡ 168
unfolding segments_bytes
length-segments l =
    let a = segment_bytes 5 l.text.offset text_address l.text.size l.text.size in
    let b = segment_bytes 6 l.statics.offset region_address l.statics.size l.memory in
    let c = segment_bytes 6 l.entries.offset private_address l.entries.size (l.entries.size + l.private) in
    omega (
      arith,
      length-append a (b ++ c),
      length-append b c,
      length-segment 5 l.text.offset text_address l.text.size l.text.size,
      length-segment 6 l.statics.offset region_address l.statics.size l.memory,
      length-segment 6 l.entries.offset private_address l.entries.size (l.entries.size + l.private),
    )

pub length-words : (words : List ℕ) → length (words_bytes words) ≡ 4 * length words
unfolding words_bytes
length-words [] = refl
length-words (word ∷ words) =
    omega (arith, length-append (little_bytes 4 word) (words_bytes words), length-bytes_low_first 0 4 word, length-words words)

pub length-entries : (es : List Entry) → length (entries_bytes es) ≡ 16 * length es
unfolding entries_bytes
length-entries [] = refl
length-entries (e ∷ es) =
    let a : List (ℕ × ℕ) = (8, e.address) ∷ (8, e.signature) ∷ [] in
    omega (arith, length-append (numbers a) (entries_bytes es), length-numbers a, length-entries es)

pub length-codes : (params : List ℕ) → length params ≤ 8 → length (codes_bytes params) ≡ 8
length-codes params le =
    omega (arith, length-append params (replicate (8 - length params) 0), length-replicate {A = ℕ} (8 - length params) 0)

pub params_few : (text : ℕ) (s : Symbol) → is_lawful_symbol text s ≡ true → length s.params ≤ 8
params_few text s e = leb-true _ _ (and_true _ _ (and_true _ _ (and_true _ _ (and_true _ _ e).1).1).0).0

pub length-record : (name : ℕ) (s : Symbol) → length s.params ≤ 8 → length (record_bytes name s) ≡ 24
unfolding record_bytes
length-record name s le =
    let a : List (ℕ × ℕ) = (8, s.address) ∷ [] in
    let b : List (ℕ × ℕ) = (1, length s.params) ∷ (1, s.result) ∷ (1, 0) ∷ (1, 0) ∷ (4, name) ∷ [] in
    omega (arith, length-append (numbers a) (codes_bytes s.params ++ numbers b), length-append (codes_bytes s.params) (numbers b), length-codes s.params le, length-numbers a, length-numbers b)

pub length-records : (text name : ℕ) (ss : List Symbol) → list_all (is_lawful_symbol text) ss ≡ true → length (records_bytes name ss) ≡ 24 * length ss
unfolding records_bytes
length-records text name [] e = refl
length-records text name (s ∷ ss) e =
    let a = and_true (is_lawful_symbol text s) (list_all (is_lawful_symbol text) ss) e in
    omega (arith, length-append (record_bytes name s) (records_bytes (name + length s.name + 1) ss), length-record name s (params_few text s a.0), length-records text (name + length s.name + 1) ss a.1)

pub length-symbol : (name : ℕ) (s : Symbol) → length (symbol_bytes name s) ≡ 24
unfolding symbol_bytes
length-symbol name s = length-numbers _

pub length-symbols : (name : ℕ) (ss : List Symbol) → length (symbols_bytes name ss) ≡ 24 * length ss
unfolding symbols_bytes
length-symbols name [] = refl
length-symbols name (s ∷ ss) =
    omega (arith, length-append (symbol_bytes name s) (symbols_bytes (name + length s.name + 1) ss), length-symbol name s, length-symbols (name + length s.name + 1) ss)

pub length-names : (ss : List Symbol) → length (names_bytes ss) ≡ names_size ss
unfolding names_bytes names_size
length-names [] = refl
length-names (s ∷ ss) = omega (arith, length-append s.name (0 ∷ names_bytes ss), length-names ss)

pub length-terra : (i : Image) → list_all (is_lawful_symbol (4 * length i.text)) i.exports ≡ true → length (terra_bytes i) ≡ 32 + 24 * length i.exports
unfolding terra_bytes
length-terra i e =
    let a : List (ℕ × ℕ) = (4, version_of (16 * length i.entries)) ∷ (4, length i.exports) ∷ (8, i.memory) ∷ (8, i.heap) ∷ (8, i.private) ∷ [] in
    omega (arith, length-append (numbers a) (records_bytes 36 i.exports), length-numbers a, length-records (4 * length i.text) 36 i.exports e)

pub length-symtab : (ss : List Symbol) → length (symtab_bytes ss) ≡ 24 + 24 * length ss
unfolding symtab_bytes
length-symtab ss = omega (arith, length-append (replicate 24 0) (symbols_bytes 36 ss), length-symbols 36 ss)

pub length-strtab : (ss : List Symbol) → length (strtab_bytes ss) ≡ 36 + names_size ss
unfolding strtab_bytes
length-strtab ss = omega (arith, length-append section_names (names_bytes ss), length-names ss)

pub length-section : (name kind flags address offset size link info align entry : ℕ) → length (section_bytes name kind flags address offset size link info align entry) ≡ 64
unfolding section_bytes
length-section name kind flags address offset size link info align entry = length-numbers _

pub length-sections : (l : Layout) → length (sections_bytes l) ≡ 384
unfolding sections_bytes
length-sections l =
    let a = section_bytes 0 0 0 0 0 0 0 0 0 0 in
    let b = section_bytes 1 1 6 text_address l.text.offset l.text.size 0 0 1 0 in
    let c = section_bytes 7 1 3 region_address l.statics.offset l.statics.size 0 0 1 0 in
    let d = section_bytes 13 1 0 0 l.terra.offset l.terra.size 0 0 1 0 in
    let e = section_bytes 20 2 0 0 l.symtab.offset l.symtab.size 5 1 1 24 in
    let f = section_bytes 28 3 0 0 l.strtab.offset l.strtab.size 0 0 1 0 in
    omega (
      arith,
      length-append a (b ++ (c ++ (d ++ (e ++ f)))),
      length-append b (c ++ (d ++ (e ++ f))),
      length-append c (d ++ (e ++ f)),
      length-append d (e ++ f),
      length-append e f,
      length-section 0 0 0 0 0 0 0 0 0 0,
      length-section 1 1 6 text_address l.text.offset l.text.size 0 0 1 0,
      length-section 7 1 3 region_address l.statics.offset l.statics.size 0 0 1 0,
      length-section 13 1 0 0 l.terra.offset l.terra.size 0 0 1 0,
      length-section 20 2 0 0 l.symtab.offset l.symtab.size 5 1 1 24,
      length-section 28 3 0 0 l.strtab.offset l.strtab.size 0 0 1 0,
    )

-- where the parts stand
pub record Stands (i : Image) : Type 0 where
  pub header : Has (bytes_of i) 0 (header_bytes (layout_for i))
  pub segments : Has (bytes_of i) 64 (segments_bytes (layout_for i))
  pub text : Has (bytes_of i) (layout_for i).text.offset (words_bytes i.text)
  pub statics : Has (bytes_of i) (layout_for i).statics.offset i.statics
  pub entries : Has (bytes_of i) (layout_for i).entries.offset (entries_bytes i.entries)
  pub terra : Has (bytes_of i) (layout_for i).terra.offset (terra_bytes i)
  pub symtab : Has (bytes_of i) (layout_for i).symtab.offset (symtab_bytes i.exports)
  pub strtab : Has (bytes_of i) (layout_for i).strtab.offset (strtab_bytes i.exports)
  pub sections : Has (bytes_of i) (layout_for i).sections (sections_bytes (layout_for i))
  pub size : length (bytes_of i) ≡ file_size i

pub stands : (i : Image) → IsLawful i → Stands i
unfolding bytes_of layout_for
stands i h =
    let l = layout_for i in
    let xs = bytes_of i in
    let g = sections_bytes l in
    let f = strtab_bytes i.exports ++ g in
    let e = symtab_bytes i.exports ++ f in
    let d = terra_bytes i ++ e in
    let n = entries_bytes i.entries ++ d in
    let c = i.statics ++ n in
    let b = words_bytes i.text ++ c in
    let a = segments_bytes l ++ b in
    let terra-len = length-terra i h.symbols in
    let h0 : Has xs 0 (header_bytes l ++ a) = Has-all xs in
    let h1 : Has xs 64 a = Has-next xs 0 64 (header_bytes l) a h0 (omega (arith, length-header l)) in
    let h2 : Has xs 232 b = Has-next xs 64 232 (segments_bytes l) b h1 (omega (arith, length-segments l)) in
    let h3 : Has xs l.statics.offset c = Has-next xs 232 l.statics.offset (words_bytes i.text) c h2 (omega (arith, length-words i.text)) in
    let hn : Has xs l.entries.offset n = Has-next xs l.statics.offset l.entries.offset i.statics n h3 refl in
    let h4 : Has xs l.terra.offset d = Has-next xs l.entries.offset l.terra.offset (entries_bytes i.entries) d hn (omega (arith, length-entries i.entries)) in
    let h5 : Has xs l.symtab.offset e = Has-next xs l.terra.offset l.symtab.offset (terra_bytes i) e h4 (omega (arith, terra-len)) in
    let h6 : Has xs l.strtab.offset f = Has-next xs l.symtab.offset l.strtab.offset (symtab_bytes i.exports) f h5 (omega (arith, length-symtab i.exports)) in
    let h7 : Has xs l.sections g = Has-next xs l.strtab.offset l.sections (strtab_bytes i.exports) g h6 (omega (arith, length-strtab i.exports)) in
    let size : length xs ≡ l.sections + 384 = omega (
      arith,
      length-append (header_bytes l) a,
      length-append (segments_bytes l) b,
      length-append (words_bytes i.text) c,
      length-append i.statics n,
      length-append (entries_bytes i.entries) d,
      length-entries i.entries,
      length-append (terra_bytes i) e,
      length-append (symtab_bytes i.exports) f,
      length-append (strtab_bytes i.exports) g,
      length-header l,
      length-segments l,
      length-words i.text,
      terra-len,
      length-symtab i.exports,
      length-strtab i.exports,
      length-sections l,
    ) in
    record {
      header = Has-left xs 0 (header_bytes l) a h0;
      segments = Has-left xs 64 (segments_bytes l) b h1;
      text = Has-left xs 232 (words_bytes i.text) c h2;
      statics = Has-left xs l.statics.offset i.statics n h3;
      entries = Has-left xs l.entries.offset (entries_bytes i.entries) d hn;
      terra = Has-left xs l.terra.offset (terra_bytes i) e h4;
      symtab = Has-left xs l.symtab.offset (symtab_bytes i.exports) f h5;
      strtab = Has-left xs l.strtab.offset (strtab_bytes i.exports) g h6;
      sections = h7;
      size = size;
    }
