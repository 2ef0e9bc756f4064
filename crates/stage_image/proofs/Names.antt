-- Names that exports can have, and how many bytes they have in all.
use Rattle.std.proofs.Common.{◌≡◌, ℕ, zero, suc, ◌+◌, ◌*◌, ◌≤◌, ◌<◌, Bool, true, false, List, [], ◌∷◌, length, Some, refl, sym, ap, ◌∙◌}
use Rattle.std.proofs.Common.{subst, arith, slice_get}
use Rattle.std.specs.Prelude.{◌^◌, ◌==◌, ◌&&◌, not, nat_le, nat_lt}
use Rattle.std.specs.List.{list_all}
use Rattle.std.proofs.lemmas.Bool.{and_parts, and_from, le-leb, ltb-true, ltb-false}
use Rattle.std.proofs.lemmas.Option.{slice_get_within}
use Rattle.elf_image.specs.declared.rule.Rule.TheVariants.{Between}
use Rattle.elf_image.specs.Fields.{allows}
use Rattle.elf_image.specs.Lawful.{is_name}
use Rattle.terra_term.specs.declared.store.Export.{Export}
use Rattle.check_sound.specs.Exports.{HasName}
use Rattle.check_sound.proofs.Tests.{no, same-some}
use Rattle.back_end.specs.Compiled.{AreNamed, name_bytes}
use Rattle.stage_image.specs.Emitted.{AreBytes, HaveBytes, HaveNames}

not-zero : (b : ℕ) → not (b == 0) ≡ true → 1 ≤ b
not-zero zero h = absurd (no h)
not-zero (suc b) h = omega arith

bytes-allowed : (name : List ℕ) → AreBytes name → list_all (λ b. not (b == 0)) name ≡ true →
    list_all (allows (Between 1 255)) name ≡ true
bytes-allowed [] bytes h = refl
bytes-allowed (b ∷ name) bytes h =
    let p = and_parts (not (b == 0)) (list_all (λ c. not (c == 0)) name) h in
    let small : b < 2 ^ 8 = bytes zero in
    and_from (nat_le 1 b && nat_le b 255) (list_all (allows (Between 1 255)) name)
    (and_from (nat_le 1 b) (nat_le b 255) (le-leb 1 b (not-zero b p.0)) (le-leb b 255 (omega (arith, small))))
    (bytes-allowed name (λ k. bytes (suc k)) p.1)

pub is-name : (e : Export) → AreBytes e.name → HasName e → is_name e.name ≡ true
is-name e bytes has =
    and_from (nat_le 1 (length e.name) && nat_le (length e.name) 255) (list_all (allows (Between 1 255)) e.name)
    (and_from (nat_le 1 (length e.name)) (nat_le (length e.name) 255) (le-leb 1 (length e.name) has.least)
    (le-leb (length e.name) 255 has.most))
    (bytes-allowed e.name bytes has.no_zero)

-- names of at most 255 bytes have at most 256 with one byte more for each
pub bytes-of-names : (exports : List Export) → ((i : ℕ) (e : Export) → slice_get exports i ≡ Some e → length e.name ≤ 255) →
    name_bytes exports ≤ 256 * length exports
bytes-of-names [] each = omega arith
bytes-of-names (e ∷ exports) each =
    omega (arith, each zero e refl, bytes-of-names exports (λ i d at. each (suc i) d at))

pub are-named : (exports : List Export) → HaveNames exports → HaveBytes exports → AreNamed exports
are-named exports have bytes = record {
  names = λ i e at. is-name e (bytes i e at) (have.names i e at);
  differ = have.differ;
  few = have.few;
}

-- ---- names one behind the other

abbrev pub BytesBelow : List Export → ℕ → Type 0
BytesBelow exports n = (i : ℕ) (e : Export) → i < n → slice_get exports i ≡ Some e → AreBytes e.name

pub one-more : (exports : List Export) (n : ℕ) (d : Export) → BytesBelow exports n → slice_get exports n ≡ Some d →
    AreBytes d.name → BytesBelow exports (n + 1)
one-more exports n d below at bytes i e h there = by (nat_lt i n) refl
  where
    by : (c : Bool) → nat_lt i n ≡ c → AreBytes e.name
    by true k = below i e (ltb-true i n k) there
    by false k =
        let same : n ≡ i = omega (arith, h, ltb-false i n k) in
        let own : d ≡ e = same-some d e (sym at ∙ (ap (slice_get exports) same ∙ there)) in
        subst (λ (x : Export). AreBytes x.name) own bytes

pub all-below : (exports : List Export) (n : ℕ) → BytesBelow exports n → length exports ≤ n → HaveBytes exports
all-below exports n below le i e at = below i e (omega (arith, le, slice_get_within exports i e at)) at
