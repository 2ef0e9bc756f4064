-- The headers of a file that was written are read.
use Rattle.std.proofs.Common.{◌≡◌, ℕ, ◌+◌, ◌-◌, ◌*◌, ◌/◌, ◌%◌, ◌^◌, ◌<◌, ◌≤◌, Bool, true, ◌&&◌, eqb, leb, ltb, List, [], ◌∷◌, ◌++◌, length, Option}
use Rattle.std.proofs.Common.{None, refl, sym, ap, subst, ◌∙◌, arith, add-zero}
use Rattle.std.proofs.lemmas.Bool.{leb-true, le-leb, eq-eqb, ltb-true}
use Rattle.elf_image.specs.declared.error.ImageError.{ImageError}
use Rattle.elf_image.specs.declared.error.ImageError.TheVariants.{Short, BadMagic}
use Rattle.elf_image.specs.declared.rule.Rule.{Rule}
use Rattle.elf_image.specs.declared.rule.Rule.TheVariants.{Is, Any, Between, Multiple}
use Rattle.elf_image.specs.declared.image.Image.{Image}
use Rattle.elf_image.specs.declared.layout.Layout.{Layout}
use Rattle.elf_image.specs.Fields.{u32_at, u64_at, allows, unless, or_else, first_of, bad_fields}
use Rattle.elf_image.specs.Layout.{layout_of, identification_fields, header_fields, segment_fields, section_fields, text_size_rule}
use Rattle.elf_image.specs.Layout.{memory_rule, private_rule, entries_rule, beyond_entries, text_address, region_address, private_address}
use Rattle.elf_image.specs.Tests.{short_header, bad_magic, bad_header, short_segments, bad_segments, short_sections, bad_sections}
use Rattle.elf_image.specs.Tests.{verdict_headers}
use Rattle.elf_image.specs.Lawful.{IsLawful}
use Rattle.elf_image.specs.Written.{layout_for, header_bytes, segment_bytes, segments_bytes, section_bytes, sections_bytes, bytes_of}
use Rattle.elf_image.proofs.Steps.{and_true}
use Rattle.elf_image.proofs.Passed.{none_first_of, none_bad_fields}
use Rattle.elf_image.proofs.LawfulLemmas.{and_intro}
use Rattle.elf_image.proofs.Has.{Has, Has-left, Has-at, Has-next, Holds, holds, AllFit, is_allowed, by_rule}
use Rattle.elf_image.proofs.Lengths.{stands, length-segment, length-section}

-- a number that is written out fits
pub small : (n limit : ℕ) → ltb n limit ≡ true → n < limit
small n limit e = ltb-true n limit e

pub Has-start : (bytes : List ℕ) (base : ℕ) (xs : List ℕ) → Has bytes base xs → Has bytes (base + 0) xs
Has-start bytes base xs h = Has-at bytes base (base + 0) xs (sym (add-zero base)) h

-- ---- the header

abbrev pub header_rows : ℕ → List (ℕ × ℕ)
header_rows sections =
    (4, 0x464C457F) ∷ (1, 2) ∷ (1, 1) ∷ (1, 1) ∷ (1, 0) ∷ (1, 0) ∷ (1, 0) ∷ (1, 0) ∷ (1, 0) ∷ (1, 0) ∷ (1, 0) ∷ (1, 0) ∷ (1, 0)
    ∷ (2, 2) ∷ (2, 243) ∷ (4, 1) ∷ (8, 0) ∷ (8, 64) ∷ (8, sections) ∷ (4, 0)
    ∷ (2, 64) ∷ (2, 56) ∷ (2, 3) ∷ (2, 64) ∷ (2, 6) ∷ (2, 5) ∷ []

header_fit : (sections : ℕ) → sections < 2 ^ 64 → AllFit (header_rows sections)
header_fit sections lt = (
  small _ _ refl,
  (
    small _ _ refl,
    (
      small _ _ refl,
      (
        small _ _ refl,
        (
          small _ _ refl,
          (
            small _ _ refl,
            (
              small _ _ refl,
              (
                small _ _ refl,
                (
                  small _ _ refl,
                  (
                    small _ _ refl,
                    (
                      small _ _ refl,
                      (
                        small _ _ refl,
                        (
                          small _ _ refl,
                          (
                            small _ _ refl,
                            (
                              small _ _ refl,
                              (
                                small _ _ refl,
                                (
                                  small _ _ refl,
                                  (
                                    small _ _ refl,
                                    (
                                      lt,
                                      (
                                        small _ _ refl,
                                        (small _ _ refl, (small _ _ refl, (small _ _ refl, (small _ _ refl, (small _ _ refl, (small _ _ refl, tt)))))),
                                      ),
                                    ),
                                  ),
                                ),
                              ),
                            ),
                          ),
                        ),
                      ),
                    ),
                  ),
                ),
              ),
            ),
          ),
        ),
      ),
    ),
  ),
)

pub header_holds : (bytes : List ℕ) (l : Layout) → Has bytes 0 (header_bytes l) → l.sections < 2 ^ 64 → Holds bytes 0 0 (header_rows l.sections)
unfolding header_bytes
header_holds bytes l h lt = holds bytes 0 0 (header_rows l.sections) h (header_fit l.sections lt)

pub header_ok : (bytes : List ℕ) (sections : ℕ) → Holds bytes 0 0 (header_rows sections) → bad_header bytes ≡ None
unfolding bad_header
header_ok bytes sections h =
    let i = h.1 in
    let a = i.1.1.1.1.1.1.1.1.1.1.1.1 in
    let first = none_bad_fields bytes 0 identification_fields (
      is_allowed _ _ i.0,
      (
        is_allowed _ _ i.1.0,
        (
          is_allowed _ _ i.1.1.0,
          (
            is_allowed _ _ i.1.1.1.0,
            (
              is_allowed _ _ i.1.1.1.1.0,
              (
                is_allowed _ _ i.1.1.1.1.1.0,
                (is_allowed _ _ i.1.1.1.1.1.1.0, (is_allowed _ _ i.1.1.1.1.1.1.1.0, (is_allowed _ _ i.1.1.1.1.1.1.1.1.0, (is_allowed _ _ i.1.1.1.1.1.1.1.1.1.0, (is_allowed _ _ i.1.1.1.1.1.1.1.1.1.1.0, (is_allowed _ _ i.1.1.1.1.1.1.1.1.1.1.1.0, tt)))))),
              ),
            ),
          ),
        ),
      ),
    ) in
    let second = none_bad_fields bytes 0 header_fields (
      is_allowed _ _ a.0,
      (
        is_allowed _ _ a.1.0,
        (
          is_allowed _ _ a.1.1.0,
          (
            is_allowed _ _ a.1.1.1.0,
            (
              is_allowed _ _ a.1.1.1.1.0,
              (
                refl,
                (
                  is_allowed _ _ a.1.1.1.1.1.1.0,
                  (is_allowed _ _ a.1.1.1.1.1.1.1.0, (is_allowed _ _ a.1.1.1.1.1.1.1.1.0, (is_allowed _ _ a.1.1.1.1.1.1.1.1.1.0, (is_allowed _ _ a.1.1.1.1.1.1.1.1.1.1.0, (is_allowed _ _ a.1.1.1.1.1.1.1.1.1.1.1.0, (is_allowed _ _ a.1.1.1.1.1.1.1.1.1.1.1.1.0, tt)))))),
                ),
              ),
            ),
          ),
        ),
      ),
    ) in
    ap (λ (v : Option ImageError). or_else v (bad_fields bytes 0 header_fields)) first ∙ second

-- ---- program headers

abbrev pub segment_rows : (flags offset address in_file in_memory : ℕ) → List (ℕ × ℕ)
segment_rows flags offset address in_file in_memory =
    (4, 1) ∷ (4, flags) ∷ (8, offset) ∷ (8, address) ∷ (8, address) ∷ (8, in_file) ∷ (8, in_memory) ∷ (8, 1) ∷ []

pub segment_holds : (bytes : List ℕ) (base flags offset address in_file in_memory : ℕ) → Has bytes base (segment_bytes flags offset address in_file in_memory)
    → flags < 2 ^ 32 → offset < 2 ^ 64 → address < 2 ^ 64 → in_file < 2 ^ 64 → in_memory < 2 ^ 64 → Holds bytes base 0 (segment_rows flags offset address in_file in_memory)
unfolding segment_bytes
segment_holds bytes base flags offset address in_file in_memory h f o a s m =
    holds bytes base 0 (segment_rows flags offset address in_file in_memory) (Has-start bytes base _ h) (small _ _ refl, (f, (o, (a, (a, (s, (m, (small _ _ refl, tt))))))))

pub segment_ok : (bytes : List ℕ) (base flags offset address in_file in_memory : ℕ) (file memory : Rule) → Holds bytes base 0 (segment_rows flags offset address in_file in_memory)
    → allows file in_file ≡ true → allows memory in_memory ≡ true → bad_fields bytes base (segment_fields flags address file memory) ≡ None
segment_ok bytes base flags offset address in_file in_memory file memory h f m =
    none_bad_fields bytes base (segment_fields flags address file memory) (
      is_allowed _ _ h.0,
      (
        is_allowed _ _ h.1.0,
        (
          refl,
          (
            is_allowed _ _ h.1.1.1.0,
            (
              is_allowed _ _ h.1.1.1.1.0,
              (by_rule file _ _ h.1.1.1.1.1.0 f, (by_rule memory _ _ h.1.1.1.1.1.1.0 m, (is_allowed _ _ h.1.1.1.1.1.1.1.0, tt))),
            ),
          ),
        ),
      ),
    )

-- ---- section headers

abbrev pub section_rows : (name kind flags address offset size link info align entry : ℕ) → List (ℕ × ℕ)
section_rows name kind flags address offset size link info align entry =
    (4, name) ∷ (4, kind) ∷ (8, flags) ∷ (8, address) ∷ (8, offset) ∷ (8, size) ∷ (4, link) ∷ (4, info) ∷ (8, align) ∷ (8, entry) ∷ []

pub section_holds : (bytes : List ℕ) (base start name kind flags address offset size link info align entry : ℕ) → Has bytes (base + start) (section_bytes name kind flags address offset size link info align entry)
    → name < 2 ^ 32 → kind < 2 ^ 32 → flags < 2 ^ 64 → address < 2 ^ 64 → offset < 2 ^ 64 → size < 2 ^ 64 → link < 2 ^ 32 → info < 2 ^ 32 → align < 2 ^ 64 → entry < 2 ^ 64
    → Holds bytes base start (section_rows name kind flags address offset size link info align entry)
unfolding section_bytes
section_holds bytes base start name kind flags address offset size link info align entry h a b c d e f g i j k =
    holds bytes base start (section_rows name kind flags address offset size link info align entry) h (a, (b, (c, (d, (e, (f, (g, (i, (j, (k, tt))))))))))

pub section_ok : (bytes : List ℕ) (base name kind flags address offset size link info align entry : ℕ) (place bytes_rule : Rule) → Holds bytes base 0 (section_rows name kind flags address offset size link info align entry)
    → allows place offset ≡ true → allows bytes_rule size ≡ true → bad_fields bytes base (section_fields name kind flags address place bytes_rule link info align entry) ≡ None
section_ok bytes base name kind flags address offset size link info align entry place bytes_rule h p s =
    none_bad_fields bytes base (section_fields name kind flags address place bytes_rule link info align entry) (
      is_allowed _ _ h.0,
      (
        is_allowed _ _ h.1.0,
        (
          is_allowed _ _ h.1.1.0,
          (
            is_allowed _ _ h.1.1.1.0,
            (
              by_rule place _ _ h.1.1.1.1.0 p,
              (
                by_rule bytes_rule _ _ h.1.1.1.1.1.0 s,
                (is_allowed _ _ h.1.1.1.1.1.1.0, (is_allowed _ _ h.1.1.1.1.1.1.1.0, (is_allowed _ _ h.1.1.1.1.1.1.1.1.0, (is_allowed _ _ h.1.1.1.1.1.1.1.1.1.0, tt)))),
              ),
            ),
          ),
        ),
      ),
    )

-- ---- the headers of an image

pub record Bounded (i : Image) (l : Layout) : Type 0 where
  pub sections : l.sections < 2 ^ 64
  pub text_offset : l.text.offset < 2 ^ 64
  pub text_size : l.text.size < 2 ^ 64
  pub statics_offset : l.statics.offset < 2 ^ 64
  pub statics_size : l.statics.size < 2 ^ 64
  pub entries_offset : l.entries.offset < 2 ^ 64
  pub entries_size : l.entries.size < 2 ^ 64
  pub terra_offset : l.terra.offset < 2 ^ 64
  pub terra_size : l.terra.size < 2 ^ 64
  pub symtab_offset : l.symtab.offset < 2 ^ 64
  pub symtab_size : l.symtab.size < 2 ^ 64
  pub strtab_offset : l.strtab.offset < 2 ^ 64
  pub strtab_size : l.strtab.size < 2 ^ 64
  pub memory : l.memory < 2 ^ 64
  pub own_size : l.entries.size + l.private < 2 ^ 64

pub multiple_le : (step low high n : ℕ) → allows (Multiple step low high) n ≡ true → n ≤ high
multiple_le step low high n e = leb-true n high (and_true _ _ (and_true _ _ e).1).1

pub bounded : (i : Image) → IsLawful i → Bounded i (layout_for i)
unfolding layout_for
bounded i h =
    let size : (layout_for i).sections + 384 < 2 ^ 64 = h.size in
    let m : i.memory ≤ 67108864 = multiple_le 1024 65536 67108864 i.memory h.memory in
    let p : i.private ≤ 603979776 = multiple_le 512 0 603979776 i.private h.private in
    record {
      sections = omega arith;
      text_offset = omega arith;
      text_size = omega arith;
      statics_offset = omega arith;
      statics_size = omega arith;
      entries_offset = omega arith;
      entries_size = omega (arith, h.many);
      terra_offset = omega arith;
      terra_size = omega arith;
      symtab_offset = omega arith;
      symtab_size = omega arith;
      strtab_offset = omega arith;
      strtab_size = omega arith;
      memory = omega arith;
      own_size = omega (arith, h.many);
    }

-- what is read of the headers
pub record HeadersHold (bytes : List ℕ) (l : Layout) : Type 0 where
  pub header : Holds bytes 0 0 (header_rows l.sections)
  pub text : Holds bytes 64 0 (segment_rows 5 l.text.offset text_address l.text.size l.text.size)
  pub region : Holds bytes 120 0 (segment_rows 6 l.statics.offset region_address l.statics.size l.memory)
  pub own : Holds bytes 176 0 (segment_rows 6 l.entries.offset private_address l.entries.size (l.entries.size + l.private))
  pub null_section : Holds bytes l.sections 0 (section_rows 0 0 0 0 0 0 0 0 0 0)
  pub text_section : Holds bytes (l.sections + 64) 0 (section_rows 1 1 6 text_address l.text.offset l.text.size 0 0 1 0)
  pub data_section : Holds bytes (l.sections + 128) 0 (section_rows 7 1 3 region_address l.statics.offset l.statics.size 0 0 1 0)
  pub terra_section : Holds bytes (l.sections + 192) 0 (section_rows 13 1 0 0 l.terra.offset l.terra.size 0 0 1 0)
  pub symtab_section : Holds bytes (l.sections + 256) 0 (section_rows 20 2 0 0 l.symtab.offset l.symtab.size 5 1 1 24)
  pub strtab_section : Holds bytes (l.sections + 320) 0 (section_rows 28 3 0 0 l.strtab.offset l.strtab.size 0 0 1 0)
  pub terra_place : Holds bytes l.sections 192 (section_rows 13 1 0 0 l.terra.offset l.terra.size 0 0 1 0)
  pub symtab_place : Holds bytes l.sections 256 (section_rows 20 2 0 0 l.symtab.offset l.symtab.size 5 1 1 24)
  pub strtab_place : Holds bytes l.sections 320 (section_rows 28 3 0 0 l.strtab.offset l.strtab.size 0 0 1 0)

pub headers_hold : (i : Image) → IsLawful i → HeadersHold (bytes_of i) (layout_for i)
unfolding segments_bytes sections_bytes
headers_hold i h =
    let xs = bytes_of i in
    let l = layout_for i in
    let s = stands i h in
    let b = bounded i h in
    let p1 = segment_bytes 5 l.text.offset text_address l.text.size l.text.size in
    let p2 = segment_bytes 6 l.statics.offset region_address l.statics.size l.memory in
    let p3 = segment_bytes 6 l.entries.offset private_address l.entries.size (l.entries.size + l.private) in
    let q2 : Has xs 120 (p2 ++ p3) = Has-next xs 64 120 p1 (p2 ++ p3) s.segments (omega (arith, length-segment 5 l.text.offset text_address l.text.size l.text.size)) in
    let q3 : Has xs 176 p3 = Has-next xs 120 176 p2 p3 q2 (omega (arith, length-segment 6 l.statics.offset region_address l.statics.size l.memory)) in
    let a = section_bytes 0 0 0 0 0 0 0 0 0 0 in
    let t = section_bytes 1 1 6 text_address l.text.offset l.text.size 0 0 1 0 in
    let c = section_bytes 7 1 3 region_address l.statics.offset l.statics.size 0 0 1 0 in
    let d = section_bytes 13 1 0 0 l.terra.offset l.terra.size 0 0 1 0 in
    let e = section_bytes 20 2 0 0 l.symtab.offset l.symtab.size 5 1 1 24 in
    let f = section_bytes 28 3 0 0 l.strtab.offset l.strtab.size 0 0 1 0 in
    let r1 : Has xs (l.sections + 64) (t ++ (c ++ (d ++ (e ++ f)))) = Has-next xs l.sections (l.sections + 64) a (t ++ (c ++ (d ++ (e ++ f)))) s.sections (omega (arith, length-section 0 0 0 0 0 0 0 0 0 0)) in
    let r2 : Has xs (l.sections + 128) (c ++ (d ++ (e ++ f))) = Has-next xs (l.sections + 64) (l.sections + 128) t (c ++ (d ++ (e ++ f))) r1 (omega (arith, length-section 1 1 6 text_address l.text.offset l.text.size 0 0 1 0)) in
    let r3 : Has xs (l.sections + 192) (d ++ (e ++ f)) = Has-next xs (l.sections + 128) (l.sections + 192) c (d ++ (e ++ f)) r2 (omega (arith, length-section 7 1 3 region_address l.statics.offset l.statics.size 0 0 1 0)) in
    let r4 : Has xs (l.sections + 256) (e ++ f) = Has-next xs (l.sections + 192) (l.sections + 256) d (e ++ f) r3 (omega (arith, length-section 13 1 0 0 l.terra.offset l.terra.size 0 0 1 0)) in
    let r5 : Has xs (l.sections + 320) f = Has-next xs (l.sections + 256) (l.sections + 320) e f r4 (omega (arith, length-section 20 2 0 0 l.symtab.offset l.symtab.size 5 1 1 24)) in
    let l0 = Has-left xs l.sections a (t ++ (c ++ (d ++ (e ++ f)))) s.sections in
    let l1 = Has-left xs (l.sections + 64) t (c ++ (d ++ (e ++ f))) r1 in
    let l2 = Has-left xs (l.sections + 128) c (d ++ (e ++ f)) r2 in
    let l3 = Has-left xs (l.sections + 192) d (e ++ f) r3 in
    let l4 = Has-left xs (l.sections + 256) e f r4 in
    let z = small 0 (2 ^ 64) refl in
    record {
      header = header_holds xs l s.header b.sections;
      text = segment_holds xs 64 5 l.text.offset text_address l.text.size l.text.size (Has-left xs 64 p1 (p2 ++ p3) s.segments) (small _ _ refl) b.text_offset (small _ _ refl) b.text_size b.text_size;
      region = segment_holds xs 120 6 l.statics.offset region_address l.statics.size l.memory (Has-left xs 120 p2 p3 q2) (small _ _ refl) b.statics_offset (small _ _ refl) b.statics_size b.memory;
      own = segment_holds xs 176 6 l.entries.offset private_address l.entries.size (l.entries.size + l.private) q3 (small _ _ refl) b.entries_offset (small _ _ refl) b.entries_size b.own_size;
      null_section = section_holds xs l.sections 0 0 0 0 0 0 0 0 0 0 0 (Has-start xs l.sections a l0) (small _ _ refl) (small _ _ refl) z z z z (small _ _ refl) (small _ _ refl) z z;
      text_section = section_holds xs (l.sections + 64) 0 1 1 6 text_address l.text.offset l.text.size 0 0 1 0 (Has-start xs (l.sections + 64) t l1) (small _ _ refl) (small _ _ refl) (small _ _ refl) (small _ _ refl) b.text_offset b.text_size (small _ _ refl) (small _ _ refl) (small _ _ refl) z;
      data_section = section_holds xs (l.sections + 128) 0 7 1 3 region_address l.statics.offset l.statics.size 0 0 1 0 (Has-start xs (l.sections + 128) c l2) (small _ _ refl) (small _ _ refl) (small _ _ refl) (small _ _ refl) b.statics_offset b.statics_size (small _ _ refl) (small _ _ refl) (small _ _ refl) z;
      terra_section = section_holds xs (l.sections + 192) 0 13 1 0 0 l.terra.offset l.terra.size 0 0 1 0 (Has-start xs (l.sections + 192) d l3) (small _ _ refl) (small _ _ refl) z z b.terra_offset b.terra_size (small _ _ refl) (small _ _ refl) (small _ _ refl) z;
      symtab_section = section_holds xs (l.sections + 256) 0 20 2 0 0 l.symtab.offset l.symtab.size 5 1 1 24 (Has-start xs (l.sections + 256) e l4) (small _ _ refl) (small _ _ refl) z z b.symtab_offset b.symtab_size (small _ _ refl) (small _ _ refl) (small _ _ refl) (small _ _ refl);
      strtab_section = section_holds xs (l.sections + 320) 0 28 3 0 0 l.strtab.offset l.strtab.size 0 0 1 0 (Has-start xs (l.sections + 320) f r5) (small _ _ refl) (small _ _ refl) z z b.strtab_offset b.strtab_size (small _ _ refl) (small _ _ refl) (small _ _ refl) z;
      terra_place = section_holds xs l.sections 192 13 1 0 0 l.terra.offset l.terra.size 0 0 1 0 l3 (small _ _ refl) (small _ _ refl) z z b.terra_offset b.terra_size (small _ _ refl) (small _ _ refl) (small _ _ refl) z;
      symtab_place = section_holds xs l.sections 256 20 2 0 0 l.symtab.offset l.symtab.size 5 1 1 24 l4 (small _ _ refl) (small _ _ refl) z z b.symtab_offset b.symtab_size (small _ _ refl) (small _ _ refl) (small _ _ refl) (small _ _ refl);
      strtab_place = section_holds xs l.sections 320 28 3 0 0 l.strtab.offset l.strtab.size 0 0 1 0 r5 (small _ _ refl) (small _ _ refl) z z b.strtab_offset b.strtab_size (small _ _ refl) (small _ _ refl) (small _ _ refl) z;
    }

-- the layout that is read is the one that was written
pub layout_read : (bytes : List ℕ) (l : Layout) → HeadersHold bytes l → layout_of bytes ≡ l
unfolding layout_of
layout_read bytes l h =
    let e : u64_at bytes 40 ≡ l.sections = h.header.1.1.1.1.1.1.1.1.1.1.1.1.1.1.1.1.1.1.0 in
    let t0 : u64_at bytes 72 ≡ l.text.offset = h.text.1.1.0 in
    let t1 : u64_at bytes 96 ≡ l.text.size = h.text.1.1.1.1.1.0 in
    let s0 : u64_at bytes 128 ≡ l.statics.offset = h.region.1.1.0 in
    let s1 : u64_at bytes 152 ≡ l.statics.size = h.region.1.1.1.1.1.0 in
    let m : u64_at bytes 160 ≡ l.memory = h.region.1.1.1.1.1.1.0 in
    let g0 : u64_at bytes 184 ≡ l.entries.offset = h.own.1.1.0 in
    let g1 : u64_at bytes 208 ≡ l.entries.size = h.own.1.1.1.1.1.0 in
    let g2 : u64_at bytes 216 ≡ l.entries.size + l.private = h.own.1.1.1.1.1.1.0 in
    let p : u64_at bytes 216 - u64_at bytes 208 ≡ l.private = omega arith in
    let r0 : u64_at bytes (l.sections + 216) ≡ l.terra.offset = h.terra_place.1.1.1.1.0 in
    let r1 : u64_at bytes (l.sections + 224) ≡ l.terra.size = h.terra_place.1.1.1.1.1.0 in
    let y0 : u64_at bytes (l.sections + 280) ≡ l.symtab.offset = h.symtab_place.1.1.1.1.0 in
    let y1 : u64_at bytes (l.sections + 288) ≡ l.symtab.size = h.symtab_place.1.1.1.1.1.0 in
    let n0 : u64_at bytes (l.sections + 344) ≡ l.strtab.offset = h.strtab_place.1.1.1.1.0 in
    let n1 : u64_at bytes (l.sections + 352) ≡ l.strtab.size = h.strtab_place.1.1.1.1.1.0 in
    rw (e, t0, t1, s0, s1, m, p, g0, g1, r0, r1, y0, y1, n0, n1) refl

-- the private segment's sizes are as they may be
own_beyond : (entries private n : ℕ) → n ≡ entries → allows private_rule private ≡ true → allows (beyond_entries n) (entries + private) ≡ true
own_beyond entries private n e h =
    let a = and_true (eqb (private % 512) 0) (leb 0 private && leb private 603979776) h in
    let b = and_true (leb 0 private) (leb private 603979776) a.1 in
    let rest : entries + private - entries ≡ private = omega arith in
    let test : ℕ → Bool = λ k. eqb (k % 512) 0 && leb k 603979776 in
    let more : test (entries + private - entries) ≡ true = ap test rest ∙ and_intro _ _ a.0 b.1 in
    ap (λ (k : ℕ). allows (beyond_entries k) (entries + private)) e ∙ and_intro (leb entries (entries + private)) _ (le-leb _ _ (omega arith)) more

own_entries : (count : ℕ) → count ≤ 131072 → allows entries_rule (16 * count) ≡ true
own_entries count le =
    and_intro _ _ (eq-eqb (16 * count % 16) 0 (omega arith)) (and_intro (leb 0 (16 * count)) (leb (16 * count) 2097152) (le-leb _ _ (omega arith)) (le-leb _ _ (omega arith)))

pub headers_round : (i : Image) → IsLawful i → HeadersHold (bytes_of i) (layout_for i) → layout_of (bytes_of i) ≡ layout_for i → verdict_headers (bytes_of i) ≡ None
unfolding verdict_headers bad_segments bad_sections layout_for
headers_round i h hh le =
    let xs = bytes_of i in
    let l = layout_for i in
    let b = bounded i h in
    let size : length xs ≡ l.sections + 384 = (stands i h).size in
    let long : 232 ≤ length xs = omega arith in
    let text-rule : allows text_size_rule l.text.size ≡ true = and_intro _ _ (eq-eqb (4 * length i.text % 4) 0 (omega arith)) (and_intro (leb 0 (4 * length i.text)) (leb (4 * length i.text) (2 ^ 64 - 1)) (le-leb _ _ (omega arith)) (le-leb _ _ (omega (arith, b.text_size)))) in
    let t1 : u64_at xs 96 ≡ l.text.size = hh.text.1.1.1.1.1.0 in
    let m : u64_at xs 160 ≡ l.memory = hh.region.1.1.1.1.1.1.0 in
    let half : 2 * length i.statics ≤ i.memory = h.statics in
    let statics-rule : allows (Between 0 (u64_at xs 160 / 2)) l.statics.size ≡ true = and_intro (leb 0 (length i.statics)) (leb (length i.statics) (u64_at xs 160 / 2)) (le-leb _ _ (omega arith)) (le-leb _ _ (omega arith)) in
    let V : Layout → Type 0 = λ k. first_of (short_header xs ∷ bad_magic xs ∷ bad_header xs ∷ short_segments xs ∷ bad_segments xs ∷ short_sections k xs ∷ bad_sections k xs ∷ []) ≡ None in
    let at : V l = none_first_of (short_header xs ∷ bad_magic xs ∷ bad_header xs ∷ short_segments xs ∷ bad_segments xs ∷ short_sections l xs ∷ bad_sections l xs ∷ []) (
      ap (λ (t : Bool). unless t Short) (le-leb 64 (length xs) (omega arith)),
      (
        ap (λ (t : Bool). unless t BadMagic) (eq-eqb (u32_at xs 0) 0x464C457F hh.header.0),
        (
          header_ok xs l.sections hh.header,
          (
            ap (λ (t : Bool). unless t Short) (le-leb 232 (length xs) long),
            (
              none_first_of (
                  bad_fields xs 64 (segment_fields 5 text_address text_size_rule (Is (u64_at xs 96)))
                  ∷ bad_fields xs 120 (segment_fields 6 region_address (Between 0 (u64_at xs 160 / 2)) memory_rule)
                  ∷ bad_fields xs 176 (segment_fields 6 private_address entries_rule (beyond_entries (u64_at xs 208)))
                  ∷ []) (
                    segment_ok xs 64 5 l.text.offset text_address l.text.size l.text.size text_size_rule (Is (u64_at xs 96)) hh.text text-rule (eq-eqb l.text.size (u64_at xs 96) (sym t1)),
                    (
                      segment_ok xs 120 6 l.statics.offset region_address l.statics.size l.memory (Between 0 (u64_at xs 160 / 2)) memory_rule hh.region statics-rule h.memory,
                      (segment_ok xs 176 6 l.entries.offset private_address l.entries.size (l.entries.size + l.private) entries_rule (beyond_entries (u64_at xs 208)) hh.own (own_entries (length i.entries) h.many) (own_beyond l.entries.size l.private (u64_at xs 208) hh.own.1.1.1.1.1.0 h.private), tt),
                    ),
                  ),
              (
                ap (λ (t : Bool). unless t Short) (le-leb (l.sections + 384) (length xs) (omega arith)),
                (
                  none_first_of (
                      bad_fields xs l.sections (section_fields 0 0 0 0 (Is 0) (Is 0) 0 0 0 0)
                      ∷ bad_fields xs (l.sections + 64) (section_fields 1 1 6 text_address (Is l.text.offset) (Is l.text.size) 0 0 1 0)
                      ∷ bad_fields xs (l.sections + 128) (section_fields 7 1 3 region_address (Is l.statics.offset) (Is l.statics.size) 0 0 1 0)
                      ∷ bad_fields xs (l.sections + 192) (section_fields 13 1 0 0 Any Any 0 0 1 0)
                      ∷ bad_fields xs (l.sections + 256) (section_fields 20 2 0 0 Any Any 5 1 1 24)
                      ∷ bad_fields xs (l.sections + 320) (section_fields 28 3 0 0 Any Any 0 0 1 0)
                      ∷ []) (
                        section_ok xs l.sections 0 0 0 0 0 0 0 0 0 0 (Is 0) (Is 0) hh.null_section refl refl,
                        (
                          section_ok xs (l.sections + 64) 1 1 6 text_address l.text.offset l.text.size 0 0 1 0 (Is l.text.offset) (Is l.text.size) hh.text_section (eq-eqb l.text.offset l.text.offset refl) (eq-eqb l.text.size l.text.size refl),
                          (
                            section_ok xs (l.sections + 128) 7 1 3 region_address l.statics.offset l.statics.size 0 0 1 0 (Is l.statics.offset) (Is l.statics.size) hh.data_section (eq-eqb l.statics.offset l.statics.offset refl) (eq-eqb l.statics.size l.statics.size refl),
                            (
                              section_ok xs (l.sections + 192) 13 1 0 0 l.terra.offset l.terra.size 0 0 1 0 Any Any hh.terra_section refl refl,
                              (
                                section_ok xs (l.sections + 256) 20 2 0 0 l.symtab.offset l.symtab.size 5 1 1 24 Any Any hh.symtab_section refl refl,
                                (section_ok xs (l.sections + 320) 28 3 0 0 l.strtab.offset l.strtab.size 0 0 1 0 Any Any hh.strtab_section refl refl, tt),
                              ),
                            ),
                          ),
                        ),
                      ),
                  tt,
                ),
              ),
            ),
          ),
        ),
      ),
    ) in
    subst V (sym le) at
