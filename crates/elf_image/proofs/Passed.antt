-- What tests that found no fault say.
use Rattle.std.proofs.Common.{◌≡◌, ℕ, ◌+◌, ◌-◌, ◌*◌, ◌/◌, ◌%◌, ◌^◌, ◌≤◌, Bool, true, false, cond, eqb, leb, List, [], ◌∷◌, length, Option, None, refl, sym, ap}
use Rattle.std.proofs.Common.{subst, ◌∙◌, arith}
use Rattle.std.specs.List.{list_all}
use Rattle.std.proofs.lemmas.Bool.{leb-true, le-leb, eqb-true}
use Rattle.elf_image.specs.declared.error.ImageError.{ImageError}
use Rattle.elf_image.specs.declared.error.ImageError.TheVariants.{BadField, Short}
use Rattle.elf_image.specs.declared.rule.Rule.TheVariants.{Is, Between}
use Rattle.elf_image.specs.declared.layout.Part.{Part}
use Rattle.elf_image.specs.declared.layout.Layout.{Layout}
use Rattle.elf_image.specs.Fields.{u64_at, number_at, Field, field, allows, or_else, unless, first_of, bad_field, bad_fields}
use Rattle.elf_image.specs.Layout.{layout_of, parts_of, with_entries, text_size_rule, memory_rule, private_rule, entries_rule}
use Rattle.elf_image.specs.Layout.{beyond_entries, segment_fields, text_address}
use Rattle.elf_image.specs.Layout.{part, region_address, private_address, heap_start, terra_fields}
use Rattle.elf_image.specs.Exports.{export_count}
use Rattle.elf_image.specs.Tests.{short_header, bad_magic, bad_header, short_segments, bad_segments, short_sections, bad_sections}
use Rattle.elf_image.specs.Tests.{verdict_headers, short_parts, overlapping_parts, short_tables, bad_terra, bad_counts, bad_terra_records}
use Rattle.elf_image.specs.Tests.{bad_first_symbol, bad_section_names, verdict_tables}
use Rattle.elf_image.proofs.Steps.{or_else_none, unless_none, and_true}
use Rattle.elf_image.proofs.LawfulLemmas.{and_intro}

-- no test found a fault
abbrev pub AllNone : List (Option ImageError) → Type 0
AllNone [] = Unit {0}
AllNone (test ∷ tests) = (test ≡ None) × AllNone tests

pub first_of_none : (tests : List (Option ImageError)) → first_of tests ≡ None → AllNone tests
first_of_none [] e = tt
first_of_none (test ∷ tests) e =
    let h = or_else_none test (first_of tests) e in
    (h.0, first_of_none tests h.1)

pub none_first_of : (tests : List (Option ImageError)) → AllNone tests → first_of tests ≡ None
none_first_of [] h = refl
none_first_of (test ∷ tests) h = ap (λ (t : Option ImageError). or_else t (first_of tests)) h.0 ∙ none_first_of tests h.1

-- each field holds what it may
abbrev pub AllAllowed : List ℕ → ℕ → List Field → Type 0
AllAllowed bytes base [] = Unit {0}
AllAllowed bytes base (row ∷ rows) =
    (allows row.rule (number_at row.size bytes (base + row.offset)) ≡ true) × AllAllowed bytes base rows

pub bad_fields_none : (bytes : List ℕ) (base : ℕ) (rows : List Field) → bad_fields bytes base rows ≡ None → AllAllowed bytes base rows
unfolding bad_field
bad_fields_none bytes base [] e = tt
bad_fields_none bytes base (row ∷ rows) e =
    let h = or_else_none (bad_field bytes base row) (bad_fields bytes base rows) e in (
      unless_none (allows row.rule (number_at row.size bytes (base + row.offset))) (BadField (base + row.offset)) h.0,
      bad_fields_none bytes base rows h.1,
    )

pub none_bad_fields : (bytes : List ℕ) (base : ℕ) (rows : List Field) → AllAllowed bytes base rows → bad_fields bytes base rows ≡ None
unfolding bad_field
none_bad_fields bytes base [] h = refl
none_bad_fields bytes base (row ∷ rows) h =
    ap (λ (t : Bool). or_else (unless t (BadField (base + row.offset))) (bad_fields bytes base rows)) h.0
    ∙ none_bad_fields bytes base rows h.1

-- ---- the headers

pub record HeadersPassed (bytes : List ℕ) (l : Layout) : Type 0 where
  pub long : 232 ≤ length bytes
  pub sections : l.sections + 384 ≤ length bytes
  pub text : allows text_size_rule l.text.size ≡ true
  pub statics : 2 * l.statics.size ≤ l.memory
  pub memory : allows memory_rule l.memory ≡ true
  pub most : l.memory ≤ 67108864
  pub private : allows private_rule l.private ≡ true
  pub entries : allows entries_rule l.entries.size ≡ true

-- what the private segment has in memory beyond its entries
private_beyond : (entries n : ℕ) → allows (beyond_entries entries) n ≡ true → allows private_rule (n - entries) ≡ true
private_beyond entries n e =
    let a = and_true (leb entries n) _ e in
    let b = and_true (eqb ((n - entries) % 512) 0) (leb (n - entries) 603979776) a.1 in
    and_intro _ _ b.0 (and_intro (leb 0 (n - entries)) (leb (n - entries) 603979776) (le-leb 0 (n - entries) (omega arith)) b.1)

half_le : (n m : ℕ) → leb n (m / 2) ≡ true → 2 * n ≤ m
half_le n m e = let h = leb-true n (m / 2) e in omega arith

pub headers_passed : (bytes : List ℕ) (l : Layout) → l ≡ layout_of bytes → verdict_headers bytes ≡ None → HeadersPassed bytes l
unfolding verdict_headers bad_segments layout_of
headers_passed bytes l le e =
    let lo = layout_of bytes in
    let t = first_of_none (short_header bytes ∷ bad_magic bytes ∷ bad_header bytes ∷ short_segments bytes ∷ bad_segments bytes ∷ short_sections lo bytes ∷ bad_sections lo bytes ∷ []) e in
    let s = first_of_none (
    bad_fields bytes 64 (segment_fields 5 text_address text_size_rule (Is (u64_at bytes 96)))
    ∷ bad_fields bytes 120 (segment_fields 6 region_address (Between 0 (u64_at bytes 160 / 2)) memory_rule)
    ∷ bad_fields bytes 176 (segment_fields 6 private_address entries_rule (beyond_entries (u64_at bytes 208)))
    ∷ []) t.1.1.1.1.0 in
    let text = bad_fields_none bytes 64 (segment_fields 5 text_address text_size_rule (Is (u64_at bytes 96))) s.0 in
    let region = bad_fields_none bytes 120 (segment_fields 6 region_address (Between 0 (u64_at bytes 160 / 2)) memory_rule) s.1.0 in
    let own = bad_fields_none bytes 176 (segment_fields 6 private_address entries_rule (beyond_entries (u64_at bytes 208))) s.1.1.0 in
    let P : Layout → Type 0 = λ k. HeadersPassed bytes k in
    subst P (sym le) (record {
      long = leb-true _ _ (unless_none (leb 232 (length bytes)) Short t.1.1.1.0);
      sections = leb-true _ _ (unless_none (leb (lo.sections + 384) (length bytes)) Short t.1.1.1.1.1.0);
      text = text.1.1.1.1.1.0;
      statics = half_le (u64_at bytes 152) (u64_at bytes 160) (and_true _ _ region.1.1.1.1.1.0).1;
      memory = region.1.1.1.1.1.1.0;
      most = leb-true _ _ (and_true _ _ (and_true _ _ region.1.1.1.1.1.1.0).1).1;
      private = private_beyond (u64_at bytes 208) (u64_at bytes 216) own.1.1.1.1.1.1.0;
      entries = own.1.1.1.1.1.0;
    })

-- ---- the parts and the tables

pub record PartsPassed (bytes : List ℕ) (l : Layout) : Type 0 where
  pub text : l.text.offset + l.text.size ≤ length bytes
  pub statics : l.statics.offset + l.statics.size ≤ length bytes
  pub entries : (l.entries.size ≡ 0 → ⊥) → l.entries.offset + l.entries.size ≤ length bytes
  pub terra : l.terra.offset + l.terra.size ≤ length bytes
  pub symtab : l.symtab.offset + l.symtab.size ≤ length bytes
  pub strtab : l.strtab.offset + l.strtab.size ≤ length bytes

abbrev ends : ℕ → Part → Bool
ends n p = leb (p.offset + p.size) n

abbrev AllTrue : {X : Type 0} → (X → Bool) → List X → Type 0
AllTrue test [] = Unit {0}
AllTrue test (x ∷ xs) = (test x ≡ true) × AllTrue test xs

pub all_true : {X : Type 0} (test : X → Bool) (xs : List X) → list_all test xs ≡ true → AllTrue test xs
all_true test [] e = tt
all_true test (x ∷ xs) e =
    let h = and_true (test x) (list_all test xs) e in
    (h.0, all_true test xs h.1)

entries_split : (test : Part → Bool) (e : Part) (ps : List Part) (v : Bool) → eqb e.size 0 ≡ v → list_all test (cond v ps (e ∷ ps)) ≡ true → ((e.size ≡ 0 → ⊥) → test e ≡ true) × (list_all test ps ≡ true)
entries_split test e ps true z h = (λ some. absurd (some (eqb-true e.size 0 z)), h)
entries_split test e ps false z h = let a = and_true (test e) (list_all test ps) h in (λ some. a.0, a.1)

-- a test of all parts is one of the entries, where there are any, and of the others
pub with_entries_all : (test : Part → Bool) (e : Part) (ps : List Part) → list_all test (with_entries e ps) ≡ true → ((e.size ≡ 0 → ⊥) → test e ≡ true) × (list_all test ps ≡ true)
with_entries_all test e ps h = entries_split test e ps (eqb e.size 0) refl h

pub parts_passed : (bytes : List ℕ) (l : Layout) → short_parts l bytes ≡ None → PartsPassed bytes l
unfolding short_parts
parts_passed bytes l e =
    let n = length bytes in
    let behind : List Part = l.terra ∷ l.symtab ∷ l.strtab ∷ part l.sections 384 ∷ [] in
    let a = and_true (ends n (part 0 232)) _ (unless_none (list_all (ends n) (parts_of l)) Short e) in
    let b = and_true (ends n l.text) _ a.1 in
    let c = and_true (ends n l.statics) _ b.1 in
    let d = with_entries_all (ends n) l.entries behind c.1 in
    let h = all_true (ends n) behind d.1 in
    record {
      text = leb-true _ _ b.0;
      statics = leb-true _ _ c.0;
      entries = λ some. leb-true _ _ (d.0 some);
      terra = leb-true _ _ h.0;
      symtab = leb-true _ _ h.1.0;
      strtab = leb-true _ _ h.1.1.0;
    }

pub tables_sized : (bytes : List ℕ) (l : Layout) → l ≡ layout_of bytes → short_tables l bytes ≡ None → (32 ≤ l.terra.size) × (36 ≤ l.strtab.size)
unfolding short_tables layout_of
tables_sized bytes l le e =
    let lo = layout_of bytes in
    let P : Layout → Type 0 = λ k. short_tables k bytes ≡ None → (32 ≤ k.terra.size) × (36 ≤ k.strtab.size) in
    let f : P lo = λ (e : short_tables lo bytes ≡ None).
    let h = bad_fields_none bytes lo.sections (field 224 8 (Between 32 (2 ^ 64 - 1)) ∷ field 352 8 (Between 36 (2 ^ 64 - 1)) ∷ []) e in
    (leb-true _ _ (and_true _ _ h.0).0, leb-true _ _ (and_true _ _ h.1.0).0) in
    subst P (sym le) f e

pub tables_counted : (bytes : List ℕ) (l : Layout) → l ≡ layout_of bytes → bad_counts l bytes ≡ None → (l.terra.size ≡ 32 + 24 * export_count l bytes) × (l.symtab.size ≡ 24 + 24 * export_count l bytes)
unfolding bad_counts layout_of
tables_counted bytes l le e =
    let lo = layout_of bytes in
    let P : Layout → Type 0 = λ k. bad_counts k bytes ≡ None → (k.terra.size ≡ 32 + 24 * export_count k bytes) × (k.symtab.size ≡ 24 + 24 * export_count k bytes) in
    let f : P lo = λ (e : bad_counts lo bytes ≡ None).
    let n = export_count lo bytes in
    let h = bad_fields_none bytes lo.sections (field 224 8 (Is (32 + 24 * n)) ∷ field 288 8 (Is (24 + 24 * n)) ∷ []) e in
    (eqb-true _ _ h.0, eqb-true _ _ h.1.0) in
    subst P (sym le) f e

pub record TablesPassed (bytes : List ℕ) (l : Layout) : Type 0 where
  pub parts : PartsPassed bytes l
  pub terra : l.terra.size ≡ 32 + 24 * export_count l bytes
  pub symtab : l.symtab.size ≡ 24 + 24 * export_count l bytes
  pub strtab : 36 ≤ l.strtab.size
  pub heap : u64_at bytes (l.terra.offset + 16) ≡ heap_start l.statics.size
  pub records : bad_terra_records l bytes ≡ None

pub tables_passed : (bytes : List ℕ) (l : Layout) → l ≡ layout_of bytes → verdict_tables l bytes ≡ None → TablesPassed bytes l
unfolding verdict_tables bad_terra
tables_passed bytes l le e =
    let t = first_of_none (short_parts l bytes ∷ overlapping_parts l ∷ short_tables l bytes ∷ bad_terra l bytes ∷ bad_counts l bytes ∷ bad_terra_records l bytes ∷ bad_first_symbol l bytes ∷ bad_section_names l bytes ∷ []) e in
    let counted = tables_counted bytes l le t.1.1.1.1.0 in
    let terra = bad_fields_none bytes l.terra.offset (terra_fields l) t.1.1.1.0 in
    record {
      parts = parts_passed bytes l t.0;
      terra = counted.0;
      symtab = counted.1;
      strtab = (tables_sized bytes l le t.1.1.0).1;
      heap = eqb-true _ _ terra.1.1.1.0;
      records = t.1.1.1.1.1.0;
    }
