-- Nodes whose places have numbers of 32 bits, one behind the other.
use Rattle.std.proofs.Common.{◌≡◌, ℕ, ◌+◌, ◌<◌, Bool, true, false, [], ◌∷◌, length, get_or, refl, sym, ap, ◌∙◌, subst, arith}
use Rattle.std.specs.Prelude.{◌^◌, pred, nat_lt}
use Rattle.std.proofs.lemmas.Bool.{and_from, ltb-true, ltb-false, lt-ltb}
use Rattle.std.proofs.lemmas.Option.{slice_get-get_or, slice_get_within}
use Rattle.tl_base.specs.declared.ids.NodeId.{NodeId}
use Rattle.tl_base.specs.declared.place.Place.{Place}
use Rattle.tl_tree.specs.Nodes.{item_at, last_of, absent_item}
use Rattle.tl_tree.specs.Code.{Items, place_of}
use Rattle.terra_term.specs.WellTyped.{is_placed}
use Rattle.check_sound.proofs.Tests.{same-some}
use Rattle.spec_sound.specs.Places.{IsSmall, IsSmallItem}
use Rattle.spec_sound.specs.Sound.{word_of, ArePlaced}

-- the nodes below a number
abbrev pub AreSmallBelow : Items → ℕ → Type 0
AreSmallBelow items n = (i : ℕ) → i < n → IsSmallItem (item_at items (record { 0 = i }))

pub one-more : (items : Items) (n : ℕ) → AreSmallBelow items n → IsSmallItem (item_at items (record { 0 = n })) →
    AreSmallBelow items (n + 1)
one-more items n first last i h = by (nat_lt i n) refl
  where
    by : (c : Bool) → nat_lt i n ≡ c → IsSmallItem (item_at items (record { 0 = i }))
    by true e = first i (ltb-true i n e)
    by false e =
        let same : n ≡ i = omega (arith, h, ltb-false i n e) in
        subst (λ k. IsSmallItem (item_at items (record { 0 = k }))) same last

small-placed : (place : Place) → IsSmall place → is_placed place ≡ true
small-placed place h =
    and_from (nat_lt place.line (2 ^ 32)) (nat_lt place.word (2 ^ 32)) (lt-ltb place.line (2 ^ 32) h.0)
    (lt-ltb place.word (2 ^ 32) h.1)

up-to-last : (items : Items) (i : ℕ) → i < length items → i < pred (length items) + 1
up-to-last [] i h = absurd (omega (arith, h))
up-to-last (x ∷ items) i h = omega (arith, h)

-- the last of them is the root
pub all-placed : (items : Items) (root : NodeId) → root ≡ last_of items → AreSmallBelow items root.0 →
    IsSmallItem (item_at items root) → ArePlaced items
all-placed items root is first last i x at =
    let within = slice_get_within items i x at in
    let below : i < root.0 + 1 = omega (arith, up-to-last items i within, ap (λ (n : NodeId). n.0) is) in
    let small : IsSmallItem x =
    subst IsSmallItem
    (same-some (get_or items i absent_item) x (sym (slice_get-get_or items i absent_item within) ∙ at))
    (one-more items root.0 first last i below) in
    (small-placed (place_of x) small.0, small-placed (word_of x) small.1)
