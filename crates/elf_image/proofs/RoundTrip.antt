-- The file of a lawful image is this image.
use Rattle.std.proofs.Common.{◌≡◌, ℕ, suc, ◌+◌, ◌-◌, ◌*◌, ◌/◌, ◌^◌, ◌<◌, ◌≤◌, Bool, true, false, ◌&&◌, ◌||◌, cond, eqb, leb, ltb, List, [], ◌∷◌, ◌++◌}
use Rattle.std.proofs.Common.{length, get_or, take, drop, replicate, slice_range, Option, None, refl, sym, ap, subst, ◌∙◌, arith, add-zero}
use Rattle.std.specs.Prelude.{codes}
use Rattle.std.specs.List.{list_all}
use Rattle.std.proofs.lemmas.Bool.{leb-true, le-leb, ltb-true}
use Rattle.std.proofs.lemmas.List.{drop_at}
use Rattle.byteorder.specs.Endian.{little_bytes}
use Rattle.byteorder.specs.Numbers.{length-bytes_low_first}
use Rattle.elf_image.specs.declared.error.ImageError.{ImageError}
use Rattle.elf_image.specs.declared.error.ImageError.TheVariants.{Short, BadField, Overlap, BadSymbol}
use Rattle.elf_image.specs.declared.rule.Rule.TheVariants.{Is, Between}
use Rattle.elf_image.specs.declared.image.Image.{Image}
use Rattle.elf_image.specs.declared.image.Entry.{Entry}
use Rattle.elf_image.specs.declared.layout.Part.{Part}
use Rattle.elf_image.specs.declared.layout.Layout.{Layout}
use Rattle.elf_image.specs.Fields.{u64_at, field, allows, unless, or_else, first_of, bad_field, bad_bytes}
use Rattle.elf_image.specs.Layout.{part, parts_of, with_entries, version_of, heap_start, terra_fields, text_address}
use Rattle.elf_image.specs.Exports.{export_count, names_of, bad_records, symbols_at, is_in_text, are_right, names_differ}
use Rattle.elf_image.specs.Entries.{signature_rule, bad_entry, bad_entries_from, entry_at, entries_at}
use Rattle.elf_image.specs.Tests.{is_apart, are_apart, short_parts, overlapping_parts, short_tables, bad_terra, bad_counts}
use Rattle.elf_image.specs.Tests.{bad_terra_records, bad_first_symbol, section_name, bad_section_names, bad_exports, bad_entries, verdict_headers}
use Rattle.elf_image.specs.Tests.{verdict_tables, verdict_of}
use Rattle.elf_image.specs.Loads.{words_at, image_at, Loads}
use Rattle.elf_image.specs.Lawful.{IsLawful, is_lawful_entry}
use Rattle.elf_image.specs.Written.{numbers, layout_for, words_bytes, records_bytes, terra_bytes, symbols_bytes, names_bytes, section_names}
use Rattle.elf_image.specs.Written.{entries_bytes, symtab_bytes, strtab_bytes, bytes_of}
use Rattle.elf_image.proofs.Steps.{and_true}
use Rattle.elf_image.proofs.Passed.{none_first_of, none_bad_fields}
use Rattle.elf_image.proofs.LawfulLemmas.{and_intro}
use Rattle.elf_image.proofs.Has.{Has, Has-left, Has-next, Holds, holds, number-has, length-numbers, range-has, is_allowed, by_rule}
use Rattle.elf_image.proofs.Has.{bytes_stand}
use Rattle.elf_image.proofs.Lengths.{stands, length-strtab}
use Rattle.elf_image.proofs.RoundHeaders.{small, Has-start, bounded, HeadersHold, headers_hold, layout_read, headers_round, multiple_le}
use Rattle.elf_image.proofs.RoundExports.{ExportsRound, exports_round}

pub words_round : (bytes : List ℕ) (at : ℕ) (words : List ℕ) → Has bytes at (words_bytes words) → ((k : ℕ) → get_or words k 0 < 2 ^ 32) → words_at (length words) bytes at ≡ words
unfolding words_bytes words_at
words_round bytes at [] h fit = refl
words_round bytes at (word ∷ words) h fit =
    let one = number-has 4 word at bytes (Has-left bytes at (little_bytes 4 word) (words_bytes words) h) (fit 0) in
    let rest = words_round bytes (at + 4) words (Has-next bytes at (at + 4) (little_bytes 4 word) (words_bytes words) h (omega (arith, length-bytes_low_first 0 4 word))) (λ k. fit (suc k)) in
    ap (λ (w : ℕ). w ∷ words_at (length words) bytes (at + 4)) one ∙ ap (λ (ws : List ℕ). word ∷ ws) rest

-- ---- parts in order

abbrev InOrder : ℕ → List Part → Type 0
InOrder n [] = Unit {0}
InOrder n (p ∷ ps) = (n ≤ p.offset) × InOrder (p.offset + p.size) ps

or_right : (a b : Bool) → b ≡ true → (a || b) ≡ true
or_right true b e = refl
or_right false b e = e

or_left : (a b : Bool) → a ≡ true → (a || b) ≡ true
or_left true b e = refl
or_left false b e = absurd cc

apart_before : (p q : Part) → p.offset + p.size ≤ q.offset → is_apart p q ≡ true
apart_before p q le =
    or_right (eqb p.size 0) _ (or_right (eqb q.size 0) _ (or_left (leb (p.offset + p.size) q.offset) _ (le-leb _ _ le)))

apart_from_later : (p : Part) (n : ℕ) (ps : List Part) → p.offset + p.size ≤ n → InOrder n ps → list_all (is_apart p) ps ≡ true
apart_from_later p n [] le h = refl
apart_from_later p n (q ∷ ps) le h =
    let first : n ≤ q.offset = h.0 in
    and_intro (is_apart p q) (list_all (is_apart p) ps) (apart_before p q (omega arith)) (apart_from_later p (q.offset + q.size) ps (omega arith) h.1)

apart_in_order : (n : ℕ) (ps : List Part) → InOrder n ps → are_apart ps ≡ true
apart_in_order n [] h = refl
apart_in_order n (p ∷ ps) h = and_intro (list_all (is_apart p) ps) (are_apart ps) (apart_from_later p (p.offset + p.size) ps (omega arith) h.1) (apart_in_order (p.offset + p.size) ps h.1)

-- less lies before what is in order
in_order_from : (n m : ℕ) (ps : List Part) → n ≤ m → InOrder m ps → InOrder n ps
in_order_from n m [] le h = tt
in_order_from n m (p ∷ ps) le h = let first : m ≤ p.offset = h.0 in (omega arith, h.1)

in_order_split : (n : ℕ) (e : Part) (ps : List Part) (v : Bool) → eqb e.size 0 ≡ v → n ≤ e.offset → InOrder (e.offset + e.size) ps → InOrder n (cond v ps (e ∷ ps))
in_order_split n e ps true z le h = in_order_from n (e.offset + e.size) ps (omega arith) h
in_order_split n e ps false z le h = (le, h)

-- so it is with the entries, whether there are any or not
in_order_with : (n : ℕ) (e : Part) (ps : List Part) → n ≤ e.offset → InOrder (e.offset + e.size) ps → InOrder n (with_entries e ps)
in_order_with n e ps le h = in_order_split n e ps (eqb e.size 0) refl le h

-- ---- parts within the file

abbrev AllEnd : ℕ → List Part → Type 0
AllEnd n [] = Unit {0}
AllEnd n (p ∷ ps) = (p.offset + p.size ≤ n) × AllEnd n ps

all_end : (n : ℕ) (ps : List Part) → AllEnd n ps → list_all (λ (p : Part). leb (p.offset + p.size) n) ps ≡ true
all_end n [] h = refl
all_end n (p ∷ ps) h = and_intro (leb (p.offset + p.size) n) (list_all (λ (p : Part). leb (p.offset + p.size) n) ps) (le-leb (p.offset + p.size) n h.0) (all_end n ps h.1)

all_end_split : (n : ℕ) (e : Part) (ps : List Part) (v : Bool) → e.offset + e.size ≤ n → AllEnd n ps → AllEnd n (cond v ps (e ∷ ps))
all_end_split n e ps true le h = h
all_end_split n e ps false le h = (le, h)

-- ---- the sections' names

-- a run of bytes within one that stands there
inner : (bytes : List ℕ) (at k : ℕ) (xs a b c : List ℕ) → Has bytes at xs → xs ≡ a ++ (b ++ c) → length a ≡ k → Has bytes (at + k) b
inner bytes at k xs a b c h e n =
    let whole : Has bytes at (a ++ (b ++ c)) = subst (λ (ys : List ℕ). Has bytes at ys) e h in
    Has-left bytes (at + k) b c (Has-next bytes at (at + k) a (b ++ c) whole (omega arith))

names_stand : (bytes : List ℕ) (l : Layout) (rest : List ℕ) → Has bytes l.strtab.offset (section_names ++ rest) → bad_section_names l bytes ≡ None
unfolding bad_section_names
names_stand bytes l rest h =
    let at = l.strtab.offset in
    let xs = section_names ++ rest in
    none_first_of (
    bad_bytes bytes at 0 (0 ∷ [])
    ∷ bad_bytes bytes at 1 (section_name (codes ".text"))
    ∷ bad_bytes bytes at 7 (section_name (codes ".data"))
    ∷ bad_bytes bytes at 13 (section_name (codes ".terra"))
    ∷ bad_bytes bytes at 20 (section_name (codes ".symtab"))
    ∷ bad_bytes bytes at 28 (section_name (codes ".strtab"))
    ∷ []) (
      bytes_stand bytes at 0 (0 ∷ []) (inner bytes at 0 xs [] (0 ∷ []) (drop 1 section_names ++ rest) h refl refl),
      (
        bytes_stand bytes at 1 (section_name (codes ".text")) (inner bytes at 1 xs (take 1 section_names) (section_name (codes ".text")) (drop 7 section_names ++ rest) h refl refl),
        (
          bytes_stand bytes at 7 (section_name (codes ".data")) (inner bytes at 7 xs (take 7 section_names) (section_name (codes ".data")) (drop 13 section_names ++ rest) h refl refl),
          (
            bytes_stand bytes at 13 (section_name (codes ".terra")) (inner bytes at 13 xs (take 13 section_names) (section_name (codes ".terra")) (drop 20 section_names ++ rest) h refl refl),
            (
              bytes_stand bytes at 20 (section_name (codes ".symtab")) (inner bytes at 20 xs (take 20 section_names) (section_name (codes ".symtab")) (drop 28 section_names ++ rest) h refl refl),
              (
                bytes_stand bytes at 28 (section_name (codes ".strtab")) (inner bytes at 28 xs (take 28 section_names) (section_name (codes ".strtab")) rest h refl refl),
                tt,
              ),
            ),
          ),
        ),
      ),
    )

-- ---- the entries

pub record EntriesRound (text count : ℕ) (bytes : List ℕ) (at : ℕ) (es : List Entry) : Type 0 where
  pub entries : entries_at (length es) bytes at ≡ es
  pub passed : bad_entries_from (length es) text count bytes at ≡ None

-- an entry that can stand there is a pair of numbers of eight bytes
entry_fits : (text count : ℕ) (e : Entry) → is_lawful_entry text count e ≡ true → text_address + text ≤ 2 ^ 64 → count ≤ 131072 → (e.address < 2 ^ 64) × (e.signature < 2 ^ 64)
entry_fits text count e h top few =
    let a = and_true (is_in_text text e.address) (allows (signature_rule count) e.signature) h in
    let b = and_true (leb text_address e.address) _ a.0 in
    let c = and_true (ltb e.address (text_address + text)) _ b.1 in
    let below : e.address < text_address + text = ltb-true _ _ c.0 in
    let s : e.signature ≤ count = leb-true _ _ (and_true (leb 1 e.signature) (leb e.signature count) a.1).1 in
    (omega arith, omega arith)

entry_passes : (text count : ℕ) (bytes : List ℕ) (at : ℕ) (e : Entry) → entry_at bytes at ≡ e → is_lawful_entry text count e ≡ true → bad_entry text count bytes at ≡ None
unfolding bad_entry bad_field
entry_passes text count bytes at e is h =
    let a = and_true (is_in_text text e.address) (allows (signature_rule count) e.signature) h in
    let address : is_in_text text (u64_at bytes at) ≡ true = ap (λ (k : Entry). is_in_text text k.address) is ∙ a.0 in
    let signature : allows (signature_rule count) (u64_at bytes (at + 8)) ≡ true = ap (λ (k : Entry). allows (signature_rule count) k.signature) is ∙ a.1 in
    let second : bad_field bytes at (field 8 8 (signature_rule count)) ≡ None = ap (λ (v : Bool). unless v (BadField (at + 8))) signature in
    ap (λ (v : Bool). or_else (unless v (BadField at)) (bad_field bytes at (field 8 8 (signature_rule count)))) address ∙ second

entries_round : (text count : ℕ) (bytes : List ℕ) (at : ℕ) (es : List Entry) → Has bytes at (entries_bytes es) → list_all (is_lawful_entry text count) es ≡ true → text_address + text ≤ 2 ^ 64 → count ≤ 131072 → EntriesRound text count bytes at es
unfolding entries_bytes entries_at bad_entries_from
entries_round text count bytes at [] h e top few = record { entries = refl; passed = refl }
entries_round text count bytes at (x ∷ es) h e top few =
    let a = and_true (is_lawful_entry text count x) (list_all (is_lawful_entry text count) es) e in
    let fit = entry_fits text count x a.0 top few in
    let rows : List (ℕ × ℕ) = (8, x.address) ∷ (8, x.signature) ∷ [] in
    let first = Has-left bytes at (numbers rows) (entries_bytes es) h in
    let held = holds bytes at 0 rows (Has-start bytes at (numbers rows) first) (fit.0, (fit.1, tt)) in
    let address : u64_at bytes at ≡ x.address = ap (λ (k : ℕ). u64_at bytes k) (sym (add-zero at)) ∙ held.0 in
    let signature : u64_at bytes (at + 8) ≡ x.signature = held.1.0 in
    let is : entry_at bytes at ≡ x = rw (address, signature) refl in
    let rest = entries_round text count bytes (at + 16) es (Has-next bytes at (at + 16) (numbers rows) (entries_bytes es) h (omega (arith, length-numbers rows))) a.1 top few in
    record {
      entries = ap (λ (y : Entry). y ∷ entries_at (length es) bytes (at + 16)) is ∙ ap (λ (ys : List Entry). x ∷ ys) rest.entries;
      passed = ap (λ (v : Option ImageError). or_else v (bad_entries_from (length es) text count bytes (at + 16))) (entry_passes text count bytes at x is a.0) ∙ rest.passed;
    }

entries_stand : (i : Image) → IsLawful i → EntriesRound (4 * length i.text) (length i.entries) (bytes_of i) (layout_for i).entries.offset i.entries
entries_stand i h = entries_round (4 * length i.text) (length i.entries) (bytes_of i) (layout_for i).entries.offset i.entries (stands i h).entries h.entries h.addresses h.many

entries_pass : (i : Image) → IsLawful i → bad_entries (layout_for i) (bytes_of i) ≡ None
unfolding bad_entries layout_for
entries_pass i h =
    let xs = bytes_of i in
    let l = layout_for i in
    let sixteenth : 16 * length i.entries / 16 ≡ length i.entries = omega arith in
    ap (λ (n : ℕ). bad_entries_from n (4 * length i.text) n xs l.entries.offset) sixteenth ∙ (entries_stand i h).passed

-- ---- the tests behind the headers

abbrev terra_rows : Image → List (ℕ × ℕ)
terra_rows i = (4, version_of (16 * length i.entries)) ∷ (4, length i.exports) ∷ (8, i.memory) ∷ (8, i.heap) ∷ (8, i.private) ∷ []

version_small : (v : Bool) → cond v 1 2 < 2 ^ 32
version_small true = small 1 (2 ^ 32) refl
version_small false = small 2 (2 ^ 32) refl

terra_holds : (i : Image) → IsLawful i → Holds (bytes_of i) (layout_for i).terra.offset 0 (terra_rows i)
unfolding terra_bytes
terra_holds i h =
    let xs = bytes_of i in
    let at = (layout_for i).terra.offset in
    let m : i.memory ≤ 67108864 = multiple_le 1024 65536 67108864 i.memory h.memory in
    let p : i.private ≤ 603979776 = multiple_le 512 0 603979776 i.private h.private in
    let half : 2 * length i.statics ≤ i.memory = h.statics in
    let heap : i.heap ≡ heap_start (length i.statics) = h.heap in
    holds xs at 0 (terra_rows i) (Has-start xs at _ (Has-left xs at (numbers (terra_rows i)) (records_bytes 36 i.exports) (stands i h).terra))
    (version_small (eqb (16 * length i.entries) 0), (h.count, (omega arith, (omega arith, (omega arith, tt)))))

exports_stand : (i : Image) → IsLawful i → ExportsRound (layout_for i) (bytes_of i) ((layout_for i).terra.offset + 32) ((layout_for i).symtab.offset + 24) i.exports
unfolding terra_bytes symtab_bytes strtab_bytes layout_for
exports_stand i h =
    let xs = bytes_of i in
    let l = layout_for i in
    let s = stands i h in
    let r = Has-next xs l.terra.offset (l.terra.offset + 32) (numbers (terra_rows i)) (records_bytes 36 i.exports) s.terra (omega (arith, length-numbers (terra_rows i))) in
    let y = Has-next xs l.symtab.offset (l.symtab.offset + 24) (replicate 24 0) (symbols_bytes 36 i.exports) s.symtab refl in
    let whole : names_of l xs ≡ section_names ++ names_bytes i.exports = range-has xs l.strtab.offset l.strtab.size (strtab_bytes i.exports) s.strtab (length-strtab i.exports) in
    let names : drop 36 (names_of l xs) ≡ names_bytes i.exports = ap (drop 36) whole ∙ drop_at section_names (names_bytes i.exports) 36 refl in
    exports_round l xs (4 * length i.text) (l.terra.offset + 32) (l.symtab.offset + 24) 36 i.exports r y names h.symbols h.names h.addresses refl

pub tables_round : (i : Image) → IsLawful i → HeadersHold (bytes_of i) (layout_for i) → verdict_tables (layout_for i) (bytes_of i) ≡ None
unfolding verdict_tables short_parts overlapping_parts short_tables bad_terra bad_counts bad_first_symbol symtab_bytes strtab_bytes layout_for
tables_round i h hh =
    let xs = bytes_of i in
    let l = layout_for i in
    let s = stands i h in
    let b = bounded i h in
    let th = terra_holds i h in
    let size : length xs ≡ l.sections + 384 = s.size in
    let count : export_count l xs ≡ length i.exports = th.1.0 in
    let r1 : u64_at xs (l.sections + 224) ≡ l.terra.size = hh.terra_place.1.1.1.1.1.0 in
    let y1 : u64_at xs (l.sections + 288) ≡ l.symtab.size = hh.symtab_place.1.1.1.1.1.0 in
    let n1 : u64_at xs (l.sections + 352) ≡ l.strtab.size = hh.strtab_place.1.1.1.1.1.0 in
    let terra-most : l.terra.size < 2 ^ 64 = b.terra_size in
    let strtab-most : l.strtab.size < 2 ^ 64 = b.strtab_size in
    let behind : List Part = l.terra ∷ l.symtab ∷ l.strtab ∷ part l.sections 384 ∷ [] in
    let behind-ends : AllEnd (length xs) behind = (omega arith, (omega arith, (omega arith, (omega arith, tt)))) in
    let behind-ordered : InOrder (l.entries.offset + l.entries.size) behind = (omega arith, (omega arith, (omega arith, (omega arith, tt)))) in
    let ends : AllEnd (length xs) (parts_of l) = (omega arith, (omega arith, (omega arith, all_end_split (length xs) l.entries behind (eqb l.entries.size 0) (omega arith) behind-ends))) in
    let ordered : InOrder 0 (parts_of l) = (omega arith, (omega arith, (omega arith, in_order_with (l.statics.offset + l.statics.size) l.entries behind (omega arith) behind-ordered))) in
    let n = export_count l xs in
    none_first_of (short_parts l xs ∷ overlapping_parts l ∷ short_tables l xs ∷ bad_terra l xs ∷ bad_counts l xs ∷ bad_terra_records l xs ∷ bad_first_symbol l xs ∷ bad_section_names l xs ∷ []) (
      ap (λ (v : Bool). unless v Short) (all_end (length xs) (parts_of l) ends),
      (
        ap (λ (v : Bool). unless v Overlap) (apart_in_order 0 (parts_of l) ordered),
        (
          none_bad_fields xs l.sections (field 224 8 (Between 32 (2 ^ 64 - 1)) ∷ field 352 8 (Between 36 (2 ^ 64 - 1)) ∷ []) (
            by_rule (Between 32 (2 ^ 64 - 1)) _ _ r1 (and_intro _ _ (le-leb 32 l.terra.size (omega arith)) (le-leb l.terra.size (2 ^ 64 - 1) (omega arith))),
            (by_rule (Between 36 (2 ^ 64 - 1)) _ _ n1 (and_intro _ _ (le-leb 36 l.strtab.size (omega arith)) (le-leb l.strtab.size (2 ^ 64 - 1) (omega arith))), tt),
          ),
          (
            none_bad_fields xs l.terra.offset (terra_fields l)
                (is_allowed _ _ th.0, (refl, (is_allowed _ _ th.1.1.0, (is_allowed _ _ (th.1.1.1.0 ∙ h.heap), (is_allowed _ _ th.1.1.1.1.0, tt))))),
            (
              none_bad_fields xs l.sections (field 224 8 (Is (32 + 24 * n)) ∷ field 288 8 (Is (24 + 24 * n)) ∷ [])
                  (is_allowed _ _ (r1 ∙ ap (λ (k : ℕ). 32 + 24 * k) (sym count)), (is_allowed _ _ (y1 ∙ ap (λ (k : ℕ). 24 + 24 * k) (sym count)), tt)),
              (
                ap (λ (k : ℕ). bad_records k xs (l.terra.offset + 32)) count ∙ (exports_stand i h).records,
                (
                  bytes_stand xs l.symtab.offset 0 (replicate 24 0) (Has-start xs l.symtab.offset (replicate 24 0) (Has-left xs l.symtab.offset (replicate 24 0) (symbols_bytes 36 i.exports) s.symtab)),
                  (
                    names_stand xs l (names_bytes i.exports) s.strtab,
                    tt,
                  ),
                ),
              ),
            ),
          ),
        ),
      ),
    )

image_round : (i : Image) → IsLawful i → image_at (layout_for i) (bytes_of i) ≡ i
unfolding image_at layout_for
image_round i h =
    let xs = bytes_of i in
    let l = layout_for i in
    let s = stands i h in
    let th = terra_holds i h in
    let fourth : 4 * length i.text / 4 ≡ length i.text = omega arith in
    let text : words_at (4 * length i.text / 4) xs l.text.offset ≡ i.text = ap (λ (n : ℕ). words_at n xs l.text.offset) fourth ∙ words_round xs l.text.offset i.text s.text h.words in
    let statics : slice_range xs l.statics.offset (l.statics.offset + l.statics.size) ≡ i.statics = range-has xs l.statics.offset l.statics.size i.statics s.statics refl in
    let heap : u64_at xs (l.terra.offset + 16) ≡ i.heap = th.1.1.1.0 in
    let sixteenth : 16 * length i.entries / 16 ≡ length i.entries = omega arith in
    let entries : entries_at (16 * length i.entries / 16) xs l.entries.offset ≡ i.entries = ap (λ (n : ℕ). entries_at n xs l.entries.offset) sixteenth ∙ (entries_stand i h).entries in
    let exports : symbols_at (export_count l xs) l xs (l.terra.offset + 32) ≡ i.exports = ap (λ (n : ℕ). symbols_at n l xs (l.terra.offset + 32)) th.1.0 ∙ (exports_stand i h).symbols in
    rw (text, statics, entries, heap, exports) refl

exports_pass : (i : Image) → IsLawful i → bad_exports (layout_for i) (bytes_of i) ≡ None
unfolding bad_exports
exports_pass i h =
    let xs = bytes_of i in
    let l = layout_for i in
    let th = terra_holds i h in
    let e = exports_stand i h in
    let test : ℕ → Bool = λ n. are_right n l xs (l.terra.offset + 32) (l.symtab.offset + 24) && names_differ (symbols_at n l xs (l.terra.offset + 32)) in
    let differ : names_differ (symbols_at (length i.exports) l xs (l.terra.offset + 32)) ≡ true = ap names_differ e.symbols ∙ h.differ in
    let passed : test (export_count l xs) ≡ true = ap test th.1.0 ∙ and_intro _ _ e.right differ in
    ap (λ (v : Bool). unless v BadSymbol) passed

pub round_trip : (i : Image) → IsLawful i → Loads (bytes_of i) i
unfolding verdict_of
round_trip i h =
    let xs = bytes_of i in
    let l = layout_for i in
    let hh = headers_hold i h in
    let le = layout_read xs l hh in
    let V : Layout → Type 0 = λ k. first_of (verdict_headers xs ∷ verdict_tables k xs ∷ bad_exports k xs ∷ bad_entries k xs ∷ []) ≡ None in
    let at : V l = none_first_of (verdict_headers xs ∷ verdict_tables l xs ∷ bad_exports l xs ∷ bad_entries l xs ∷ []) (headers_round i h hh le, (tables_round i h hh, (exports_pass i h, (entries_pass i h, tt)))) in
    (subst V (sym le) at, sym (ap (λ (k : Layout). image_at k xs) le ∙ image_round i h))
