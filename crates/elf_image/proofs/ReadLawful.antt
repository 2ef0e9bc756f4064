-- What is read can be written.
use Rattle.std.proofs.Common.{◌≡◌, ℕ, zero, suc, ◌+◌, ◌-◌, ◌*◌, ◌/◌, ◌%◌, ◌^◌, ◌<◌, ◌≤◌, Bool, true, false, cond, eqb, leb, ltb, List, []}
use Rattle.std.proofs.Common.{◌∷◌, ◌&&◌, length, get_or, take, drop, slice_range, Option, None, Result, Ok, Err, refl, sym, ap, subst, ◌∙◌, inl}
use Rattle.std.proofs.Common.{inr, arith}
use Rattle.std.specs.List.{list_all}
use Rattle.std.specs.Option.{is_none}
use Rattle.std.specs.Prelude.{IfOk}
use Rattle.std.proofs.lemmas.Bool.{leb-true, le-leb, eqb-true, eqb-false, lt-ltb, cases_lt}
use Rattle.std.proofs.lemmas.List.{length-take, length-drop, get_or-take, get_or-drop, get_or_past}
use Rattle.byteorder.specs.Numbers.{little_from-lt}
use Rattle.elf_image.specs.declared.error.ImageError.{ImageError}
use Rattle.elf_image.specs.declared.error.ImageError.TheVariants.{BadField, BadSymbol}
use Rattle.elf_image.specs.declared.rule.Rule.TheVariants.{Is, Between}
use Rattle.elf_image.specs.declared.layout.Layout.{Layout}
use Rattle.elf_image.specs.declared.image.Symbol.{Symbol}
use Rattle.elf_image.specs.declared.image.Image.{Image}
use Rattle.elf_image.specs.Fields.{u8_at, u32_at, u64_at, number_at, field, allows, bad_field, bad_fields}
use Rattle.elf_image.specs.Layout.{layout_of, heap_start}
use Rattle.elf_image.specs.Exports.{export_count, names_of, before_zero, code_rule, param_rule, result_rule, code_fields, record_fields}
use Rattle.elf_image.specs.Exports.{bad_record, bad_records, symbol_at, symbols_at, symbol_fields, is_in_text, is_name_at, is_right}
use Rattle.elf_image.specs.Exports.{are_right, names_differ}
use Rattle.elf_image.specs.Entries.{entry_count, signature_rule, bad_entry, bad_entries_from, entry_at, entries_at}
use Rattle.elf_image.specs.Tests.{verdict_headers, verdict_tables, bad_exports, bad_entries, verdict_of}
use Rattle.elf_image.specs.Loads.{words_at, image_at}
use Rattle.elf_image.specs.Answers.{Gives}
use Rattle.elf_image.specs.Lawful.{IsLawful, is_name, is_lawful_symbol, is_lawful_entry, names_fit}
use Rattle.elf_image.proofs.Steps.{or_else_none, unless_none, and_true, params_le}
use Rattle.elf_image.proofs.Passed.{bad_fields_none, first_of_none, headers_passed, tables_passed}
use Rattle.elf_image.proofs.LawfulLemmas.{file_size_lt, and_intro, name_le}

-- ---- bytes and words

abbrev pub IsBytes : List ℕ → Type 0
IsBytes bytes = (i : ℕ) → get_or bytes i 0 < 256

IsBytes-drop : (n : ℕ) (bytes : List ℕ) → IsBytes bytes → IsBytes (drop n bytes)
IsBytes-drop n bytes h i = rw get_or-drop (h (n + i))

IsBytes-take : (n : ℕ) (bytes : List ℕ) → IsBytes bytes → IsBytes (take n bytes)
IsBytes-take n bytes h i =
    elim (cases_lt i n) [
      | inl lt ↦ rw (get_or-take n bytes i 0 lt) (h i)
      | inr le ↦ rw (get_or_past (take n bytes) i 0 (omega (arith, length-take n bytes))) (omega arith)
    ]

pub IsBytes-range : (a b : ℕ) (bytes : List ℕ) → IsBytes bytes → IsBytes (slice_range bytes a b)
IsBytes-range a b bytes h = IsBytes-take (b - a) (drop a bytes) (IsBytes-drop a bytes h)

pub number_at-lt : (size at : ℕ) (bytes : List ℕ) → IsBytes bytes → number_at size bytes at < 256 ^ size
unfolding number_at
number_at-lt size at bytes h = little_from-lt at size bytes h

pub number_at-1 : (at : ℕ) (bytes : List ℕ) → number_at 1 bytes at ≡ get_or bytes at 0
unfolding number_at
number_at-1 at bytes = omega arith

words_at-lt : (n at k : ℕ) (bytes : List ℕ) → IsBytes bytes → get_or (words_at n bytes at) k 0 < 2 ^ 32
unfolding words_at
words_at-lt zero at k bytes h = omega arith
words_at-lt (suc n) at zero bytes h = number_at-lt 4 at bytes h
words_at-lt (suc n) at (suc k) bytes h = words_at-lt n (at + 4) k bytes h

pub length-words_at : (n at : ℕ) (bytes : List ℕ) → length (words_at n bytes at) ≡ n
unfolding words_at
length-words_at zero at bytes = refl
length-words_at (suc n) at bytes = let h = length-words_at n (at + 4) bytes in omega (arith, h)

pub length-range : (a size : ℕ) (bytes : List ℕ) → a + size ≤ length bytes → length (slice_range bytes a (a + size)) ≡ size
length-range a size bytes le =
    let h = length-take (a + size - a) (drop a bytes) in
    let d = length-drop a bytes in
    omega arith

pub range_at : (a size k : ℕ) (bytes : List ℕ) → k < size → get_or (slice_range bytes a (a + size)) k 0 ≡ get_or bytes (a + k) 0
range_at a size k bytes lt =
    get_or-take (a + size - a) (drop a bytes) k 0 (omega arith) ∙ get_or-drop a bytes k 0

-- ---- a test of each item

list_all-intro : (p : ℕ → Bool) (xs : List ℕ) → ((k : ℕ) → k < length xs → p (get_or xs k 0) ≡ true) → list_all p xs ≡ true
list_all-intro p [] h = refl
list_all-intro p (x ∷ xs) h = and_intro (p x) (list_all p xs) (h 0 (omega arith)) (list_all-intro p xs (λ k lt. h (suc k) (omega arith)))

-- ---- one record

code_at : (bytes : List ℕ) (at params i n k : ℕ) → bad_fields bytes at (code_fields params i n) ≡ None → k < n → allows (code_rule params (i + k)) (number_at 1 bytes (at + (8 + (i + k)))) ≡ true
unfolding code_fields bad_field
code_at bytes at params i zero k e lt = absurd (omega arith)
code_at bytes at params i (suc n) zero e lt =
    let h = or_else_none (bad_field bytes at (field (8 + i) 1 (code_rule params i))) (bad_fields bytes at (code_fields params (i + 1) n)) e in
    let g : allows (code_rule params i) (number_at 1 bytes (at + (8 + i))) ≡ true = unless_none _ _ h.0 in
    let same : i ≡ i + 0 = omega arith in
    subst (λ (j : ℕ). allows (code_rule params j) (number_at 1 bytes (at + (8 + j))) ≡ true) same g
code_at bytes at params i (suc n) (suc k) e lt =
    let h = or_else_none (bad_field bytes at (field (8 + i) 1 (code_rule params i))) (bad_fields bytes at (code_fields params (i + 1) n)) e in
    let g = code_at bytes at params (i + 1) n k h.1 (omega arith) in
    let same : i + 1 + k ≡ i + suc k = omega arith in
    subst (λ (j : ℕ). allows (code_rule params j) (number_at 1 bytes (at + (8 + j))) ≡ true) same g

pub params_allowed : (bytes : List ℕ) (at : ℕ) → at + 24 ≤ length bytes → bad_record bytes at ≡ None → list_all (allows param_rule) (slice_range bytes (at + 8) (at + 8 + u8_at bytes (at + 16))) ≡ true
unfolding bad_record
params_allowed bytes at le e =
    let n = u8_at bytes (at + 16) in
    let most = params_le bytes at e in
    let h = or_else_none (bad_fields bytes at (code_fields n 0 8)) (bad_fields bytes at record_fields) e in
    let len = length-range (at + 8) n bytes (omega arith) in
    list_all-intro (allows param_rule) (slice_range bytes (at + 8) (at + 8 + n)) (λ k lt.
    let kn : k < n = omega arith in
    let x = number_at 1 bytes (at + (8 + (0 + k))) in
    let g : allows (code_rule n (0 + k)) x ≡ true = code_at bytes at n 0 8 k h.0 (omega arith) in
    let rule : code_rule n (0 + k) ≡ param_rule = ap (λ v. cond v param_rule (Is 0)) (lt-ltb (0 + k) n (omega arith)) in
    let place : at + (8 + (0 + k)) ≡ at + 8 + k = omega arith in
    let item : x ≡ get_or (slice_range bytes (at + 8) (at + 8 + n)) k 0 = number_at-1 (at + (8 + (0 + k))) bytes ∙ ap (λ (j : ℕ). get_or bytes j 0) place ∙ sym (range_at (at + 8) n k bytes kn) in
    ap (allows param_rule) (sym item) ∙ ap (λ r. allows r x) (sym rule) ∙ g)

result_allowed : (bytes : List ℕ) (at : ℕ) → bad_record bytes at ≡ None → allows result_rule (u8_at bytes (at + 17)) ≡ true
unfolding bad_record
result_allowed bytes at e =
    let h = or_else_none (bad_fields bytes at (code_fields (u8_at bytes (at + 16)) 0 8)) (bad_fields bytes at record_fields) e in
    (bad_fields_none bytes at record_fields h.1).1.0

byte_allowed : (b : ℕ) → eqb b 0 ≡ false → b < 256 → allows (Between 1 255) b ≡ true
byte_allowed b e lt = let ne = eqb-false b 0 e in and_intro (leb 1 b) (leb b 255) (le-leb 1 b (omega arith)) (le-leb b 255 (omega arith))

-- the bytes before a zero byte are bytes of a name
name_bytes : (xs : List ℕ) → IsBytes xs → list_all (allows (Between 1 255)) (before_zero xs) ≡ true
name_bytes [] h = refl
name_bytes (b ∷ xs) h =
    let rest = name_bytes xs (λ k. h (suc k)) in
    let lt : b < 256 = h 0 in
    let by : (v : Bool) → eqb b 0 ≡ v → list_all (allows (Between 1 255)) (cond v [] (b ∷ before_zero xs)) ≡ true = λ v. elim v as (λ v. eqb b 0 ≡ v → list_all (allows (Between 1 255)) (cond v [] (b ∷ before_zero xs)) ≡ true) [
      | true ↦ λ _. refl
      | false ↦ λ (e : eqb b 0 ≡ false). and_intro (allows (Between 1 255) b) (list_all (allows (Between 1 255)) (before_zero xs)) (byte_allowed b e lt) rest
    ] in
    by (eqb b 0) refl

name_lawful : (names : List ℕ) → IsBytes names → is_name_at names ≡ true → is_name (before_zero names) ≡ true
name_lawful names h e =
    let a = and_true _ _ e in
    and_intro _ _ a.1 (name_bytes names h)

symbol_lawful : (l : Layout) (bytes : List ℕ) (at symbol : ℕ) → IsBytes bytes → at + 24 ≤ length bytes → bad_record bytes at ≡ None → is_right l bytes at symbol ≡ true → is_lawful_symbol l.text.size (symbol_at l bytes at) ≡ true
unfolding is_right symbol_at
symbol_lawful l bytes at symbol h le e r =
    let n = u8_at bytes (at + 16) in
    let a = and_true (is_none (bad_fields bytes symbol (symbol_fields (u32_at bytes (at + 20)) (u64_at bytes at)))) _ r in
    let b = and_true (is_in_text l.text.size (u64_at bytes at)) _ a.1 in
    let names = drop (u32_at bytes (at + 20)) (names_of l bytes) in
    let named = name_lawful names (IsBytes-drop (u32_at bytes (at + 20)) (names_of l bytes) (IsBytes-range l.strtab.offset (l.strtab.offset + l.strtab.size) bytes h)) b.1 in
    let most = params_le bytes at e in
    let len = length-range (at + 8) n bytes (omega arith) in
    let few : leb (length (slice_range bytes (at + 8) (at + 8 + n))) 8 ≡ true = le-leb _ _ (omega arith) in
    and_intro _ _ named (and_intro _ _ b.0 (and_intro _ _ (and_intro _ _ few (params_allowed bytes at le e)) (result_allowed bytes at e)))

symbols_lawful : (n : ℕ) (l : Layout) (bytes : List ℕ) (at symbol : ℕ) → IsBytes bytes → at + 24 * n ≤ length bytes → bad_records n bytes at ≡ None → are_right n l bytes at symbol ≡ true → list_all (is_lawful_symbol l.text.size) (symbols_at n l bytes at) ≡ true
unfolding bad_records are_right symbols_at
symbols_lawful zero l bytes at symbol h le e r = refl
symbols_lawful (suc n) l bytes at symbol h le e r =
    let a = or_else_none (bad_record bytes at) (bad_records n bytes (at + 24)) e in
    let b = and_true (is_right l bytes at symbol) (are_right n l bytes (at + 24) (symbol + 24)) r in
    and_intro _ _ (symbol_lawful l bytes at symbol h (omega arith) a.0 b.0) (symbols_lawful n l bytes (at + 24) (symbol + 24) h (omega arith) a.1 b.1)

length-symbols_at : (n : ℕ) (l : Layout) (bytes : List ℕ) (at : ℕ) → length (symbols_at n l bytes at) ≡ n
unfolding symbols_at
length-symbols_at zero l bytes at = refl
length-symbols_at (suc n) l bytes at = let h = length-symbols_at n l bytes (at + 24) in omega arith

-- where there are few enough names, their offsets fit
few_names_fit : (text at : ℕ) (ss : List Symbol) → at + 256 * length ss ≤ 2 ^ 32 → list_all (is_lawful_symbol text) ss ≡ true → names_fit at ss ≡ true
few_names_fit text at [] le e = refl
few_names_fit text at (s ∷ ss) le e =
    let a = and_true (is_lawful_symbol text s) (list_all (is_lawful_symbol text) ss) e in
    let n = name_le text s a.0 in
    and_intro (ltb at (2 ^ 32)) _ (lt-ltb _ _ (omega arith)) (few_names_fit text (at + length s.name + 1) ss (omega arith) a.1)

-- ---- the entries

entry_lawful : (text count : ℕ) (bytes : List ℕ) (at : ℕ) → bad_entry text count bytes at ≡ None → is_lawful_entry text count (entry_at bytes at) ≡ true
unfolding bad_entry bad_field
entry_lawful text count bytes at e =
    let a = or_else_none _ (bad_field bytes at (field 8 8 (signature_rule count))) e in
    and_intro _ _ (unless_none (is_in_text text (u64_at bytes at)) (BadField at) a.0) (unless_none (allows (signature_rule count) (u64_at bytes (at + 8))) (BadField (at + 8)) a.1)

entries_lawful : (n text count : ℕ) (bytes : List ℕ) (at : ℕ) → bad_entries_from n text count bytes at ≡ None → list_all (is_lawful_entry text count) (entries_at n bytes at) ≡ true
unfolding bad_entries_from entries_at
entries_lawful zero text count bytes at e = refl
entries_lawful (suc n) text count bytes at e =
    let a = or_else_none (bad_entry text count bytes at) (bad_entries_from n text count bytes (at + 16)) e in
    and_intro _ _ (entry_lawful text count bytes at a.0) (entries_lawful n text count bytes (at + 16) a.1)

length-entries_at : (n : ℕ) (bytes : List ℕ) (at : ℕ) → length (entries_at n bytes at) ≡ n
unfolding entries_at
length-entries_at zero bytes at = refl
length-entries_at (suc n) bytes at = let h = length-entries_at n bytes (at + 16) in omega arith

-- ---- the image

pub image_lawful : (bytes : List ℕ) → IsBytes bytes → length bytes ≤ 268435456 → verdict_of bytes ≡ None → IsLawful (image_at (layout_of bytes) bytes)
unfolding verdict_of bad_exports bad_entries image_at
image_lawful bytes h most e =
    let l = layout_of bytes in
    let n = export_count l bytes in
    let v = first_of_none (verdict_headers bytes ∷ verdict_tables l bytes ∷ bad_exports l bytes ∷ bad_entries l bytes ∷ []) e in
    let hp = headers_passed bytes l refl v.0 in
    let tp = tables_passed bytes l refl v.1.0 in
    let x = and_true (are_right n l bytes (l.terra.offset + 32) (l.symtab.offset + 24)) (names_differ (symbols_at n l bytes (l.terra.offset + 32))) (unless_none _ BadSymbol v.1.1.0) in
    let terra : l.terra.offset + l.terra.size ≤ length bytes = tp.parts.terra in
    let counted : l.terra.size ≡ 32 + 24 * n = tp.terra in
    let symbols = symbols_lawful n l bytes (l.terra.offset + 32) (l.symtab.offset + 24) h (omega arith) tp.records x.0 in
    let ss = symbols_at n l bytes (l.terra.offset + 32) in
    let ss-len : length ss ≡ n = length-symbols_at n l bytes (l.terra.offset + 32) in
    let text-len : length (words_at (l.text.size / 4) bytes l.text.offset) ≡ l.text.size / 4 = length-words_at (l.text.size / 4) l.text.offset bytes in
    let even : l.text.size % 4 ≡ 0 = eqb-true _ _ (and_true _ _ hp.text).0 in
    let text-is : l.text.size ≡ 4 * length (words_at (l.text.size / 4) bytes l.text.offset) = omega arith in
    let statics-len : length (slice_range bytes l.statics.offset (l.statics.offset + l.statics.size)) ≡ l.statics.size = length-range l.statics.offset l.statics.size bytes tp.parts.statics in
    let half : 2 * l.statics.size ≤ l.memory = hp.statics in
    let top : l.memory ≤ 67108864 = hp.most in
    let text-end : l.text.offset + l.text.size ≤ length bytes = tp.parts.text in
    let lawful : list_all (is_lawful_symbol (4 * length (words_at (l.text.size / 4) bytes l.text.offset))) ss ≡ true = subst (λ (t : ℕ). list_all (is_lawful_symbol t) ss ≡ true) text-is symbols in
    let m = entry_count l in
    let es = entries_at m bytes l.entries.offset in
    let es-len : length es ≡ m = length-entries_at m bytes l.entries.offset in
    let most-entries : l.entries.size ≤ 2097152 = leb-true l.entries.size 2097152 (and_true (leb 0 l.entries.size) (leb l.entries.size 2097152) (and_true (eqb (l.entries.size % 16) 0) (leb 0 l.entries.size && leb l.entries.size 2097152) hp.entries).1).1 in
    let many : length es ≤ 131072 = omega arith in
    let counted-entries : list_all (is_lawful_entry l.text.size (length es)) es ≡ true = subst (λ (k : ℕ). list_all (is_lawful_entry l.text.size k) es ≡ true) (sym es-len) (entries_lawful m l.text.size m bytes l.entries.offset v.1.1.1.0) in
    let lawful-entries : list_all (is_lawful_entry (4 * length (words_at (l.text.size / 4) bytes l.text.offset)) (length es)) es ≡ true = subst (λ (t : ℕ). list_all (is_lawful_entry t (length es)) es ≡ true) text-is counted-entries in
    let fit = few_names_fit l.text.size 36 ss (omega arith) symbols in
    let count : length ss < 2 ^ 32 = omega arith in
    record {
      words = λ k. words_at-lt (l.text.size / 4) l.text.offset k bytes h;
      bytes = IsBytes-range l.statics.offset (l.statics.offset + l.statics.size) bytes h;
      addresses = omega arith;
      memory = hp.memory;
      statics = omega arith;
      heap = tp.heap ∙ ap heap_start (sym statics-len);
      private = hp.private;
      entries = lawful-entries;
      many = many;
      symbols = lawful;
      differ = x.1;
      count = count;
      names = fit;
      size = file_size_lt (image_at l bytes) (omega arith) (omega arith) many count lawful fit;
    }

-- what is read is lawful where each image without a fault is
pub ok_lawful : (r : Result Image ImageError) (verdict : Option ImageError) (value : Image) → Gives (λ (i : Image). i) r verdict value → (verdict ≡ None → IsLawful value) → IfOk r (λ image. IsLawful image)
ok_lawful (Ok image) verdict value g h = subst IsLawful (sym g.1) (h g.0)
ok_lawful (Err error) verdict value g h = tt
