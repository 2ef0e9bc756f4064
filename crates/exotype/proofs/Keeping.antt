-- What is read after a property is kept.
use Rattle.std.proofs.Common.{ℕ, Bool, true, false, cond, ◌≡◌, ◌==◌, ◌&&◌, List, [], ◌∷◌, Option, Some, None, refl, sym, ◌∙◌, ap}
use Rattle.std.specs.Prelude.{position, unwrap_or}
use Rattle.std.specs.Map.{keys_of, lookup}
use Rattle.std.proofs.lemmas.Bool.Decides.{Decides-eqb}
use Rattle.indexmap.specs.IndexMap.{set_value_at}
use Rattle.indexmap.proofs.MapLemmas.{Found-position, insert_entry-first}
use Rattle.exotype.specs.declared.property.Known.{Known}
use Rattle.exotype.specs.declared.property.Known.TheVariants.{Unasked}
use Rattle.exotype.specs.declared.property.Property.{Property}
use Rattle.exotype.specs.Properties.{rank, type_number, name_number, same_property, known_in, with_known_in}

abbrev pub Entries : Type 0
Entries = List (Property × Known)

parts : (a b c : Bool) → (a && b && c) ≡ true → (a ≡ true) × (b ≡ true) × (c ≡ true)
parts true true true h = (refl, refl, refl)
parts true true false h = absurd (cc h)
parts true false c h = absurd (cc h)
parts false b c h = absurd (cc h)

both : (a b c : Bool) → a ≡ true → b ≡ true → c ≡ true → (a && b && c) ≡ true
both a b c e f g = rw (e, f, g) refl

same_itself : (p : Property) → same_property p p ≡ true
same_itself p =
    both (rank p == rank p) (type_number p == type_number p) (name_number p == name_number p)
    ((Decides-eqb (rank p) (rank p)).1 refl) ((Decides-eqb (type_number p) (type_number p)).1 refl)
    ((Decides-eqb (name_number p) (name_number p)).1 refl)

alike_by : (q : Property) (r t n r2 t2 n2 : ℕ) → r ≡ r2 → t ≡ t2 → n ≡ n2 →
    ((rank q == r) && (type_number q == t) && (name_number q == n)) ≡ ((rank q == r2) && (type_number q == t2) && (name_number q == n2))
alike_by q r t n r2 t2 n2 a b c = rw (a, b, c) refl

-- what is the same as one of two that are the same is the same as the other
pub alike : (q p r : Property) → same_property p r ≡ true → same_property q p ≡ same_property q r
alike q p r h =
    let each = parts (rank p == rank r) (type_number p == type_number r) (name_number p == name_number r) h in
    alike_by q (rank p) (type_number p) (name_number p) (rank r) (type_number r) (name_number r)
    ((Decides-eqb (rank p) (rank r)).0 each.0) ((Decides-eqb (type_number p) (type_number r)).0 each.1)
    ((Decides-eqb (name_number p) (name_number r)).0 each.2)

there_by : (t : Bool) (e : Property × Known) (es inserted : Entries) (p : Property) (known : Known) → same_property p e.0 ≡ t →
    known_in inserted p ≡ known → known_in (cond t ((e.0, known) ∷ es) (e ∷ inserted)) p ≡ known
there_by true e es inserted p known h rest = rw h refl
there_by false e es inserted p known h rest = rw h rest

pub known_there : (es : Entries) (p : Property) (known : Known) → known_in (with_known_in es p known) p ≡ known
known_there [] p known = rw (same_itself p) refl
known_there (e ∷ es) p known = there_by (same_property p e.0) e es (with_known_in es p known) p known refl (known_there es p known)

elsewhere_by : (t : Bool) (e : Property × Known) (es inserted : Entries) (p q : Property) (known : Known) → same_property p e.0 ≡ t →
    same_property q p ≡ false → known_in inserted q ≡ known_in es q →
    known_in (cond t ((e.0, known) ∷ es) (e ∷ inserted)) q ≡ known_in (e ∷ es) q
elsewhere_by true e es inserted p q known h apart rest = let f : same_property q e.0 ≡ false = sym (alike q p e.0 h) ∙ apart in rw f refl
elsewhere_by false e es inserted p q known h apart rest =
    after (same_property q e.0)
  where
    after : (u : Bool) → unwrap_or (cond u (Some e.1) (lookup (same_property q) inserted)) Unasked
        ≡ unwrap_or (cond u (Some e.1) (lookup (same_property q) es)) Unasked
    after true = refl
    after false = rest

pub known_elsewhere : (es : Entries) (p q : Property) (known : Known) → same_property q p ≡ false →
    known_in (with_known_in es p known) q ≡ known_in es q
known_elsewhere [] p q known apart = rw apart refl
known_elsewhere (e ∷ es) p q known apart =
    elsewhere_by (same_property p e.0) e es (with_known_in es p known) p q known refl apart (known_elsewhere es p q known apart)

-- what is put in the place of a property
pub replaced : (es : Entries) (p : Property) (known : Known) (i : ℕ) → position (same_property p) (keys_of es) ≡ Some i →
    set_value_at es i known ≡ with_known_in es p known
replaced es p known i h = sym (insert_entry-first same_property p known es i (Found-position (same_property p) es i h).first)
