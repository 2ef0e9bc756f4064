-- What is known of a property once something is kept of it.
use Rattle.std.proofs.Common.{◌≡◌, Bool, true, false, cond, List, [], ◌∷◌, Some, refl, sym, ◌∙◌}
use Rattle.std.specs.Prelude.{◌==◌, ◌&&◌, unwrap_or}
use Rattle.std.specs.Map.{lookup}
use Rattle.std.proofs.lemmas.Bool.{eq-eqb}
use Rattle.exotype.specs.declared.property.Known.{Known}
use Rattle.exotype.specs.declared.property.Known.TheVariants.{Unasked}
use Rattle.exotype.specs.declared.property.Property.{Property}
use Rattle.exotype.specs.Properties.{rank, type_number, name_number, same_property, known_in, with_known_in}
use Rattle.exotype.proofs.Keeping.{alike}

both : (a b c : Bool) → a ≡ true → b ≡ true → c ≡ true → (a && b && c) ≡ true
both a b c e f g = rw (e, f, g) refl

same-itself : (p : Property) → same_property p p ≡ true
same-itself p =
    both (rank p == rank p) (type_number p == type_number p) (name_number p == name_number p) (eq-eqb (rank p) (rank p) refl)
    (eq-eqb (type_number p) (type_number p) refl) (eq-eqb (name_number p) (name_number p) refl)

there-by : (t : Bool) (e : Property × Known) (es inserted : List (Property × Known)) (p : Property) (k : Known) →
    same_property p e.0 ≡ t → known_in inserted p ≡ k → known_in (cond t ((e.0, k) ∷ es) (e ∷ inserted)) p ≡ k
there-by true e es inserted p k h rest = rw h refl
there-by false e es inserted p k h rest = rw h rest

pub known-there : (es : List (Property × Known)) (p : Property) (k : Known) → known_in (with_known_in es p k) p ≡ k
known-there [] p k = rw (same-itself p) refl
known-there (e ∷ es) p k =
    there-by (same_property p e.0) e es (with_known_in es p k) p k refl (known-there es p k)

elsewhere-by : (t : Bool) (e : Property × Known) (es inserted : List (Property × Known)) (p q : Property) (k : Known) →
    same_property p e.0 ≡ t → same_property q p ≡ false → known_in inserted q ≡ known_in es q →
    known_in (cond t ((e.0, k) ∷ es) (e ∷ inserted)) q ≡ known_in (e ∷ es) q
elsewhere-by true e es inserted p q k h apart rest =
    let f : same_property q e.0 ≡ false = sym (alike q p e.0 h) ∙ apart in rw f refl
elsewhere-by false e es inserted p q k h apart rest = after (same_property q e.0)
  where
    after : (u : Bool) → unwrap_or (cond u (Some e.1) (lookup (same_property q) inserted)) Unasked
        ≡ unwrap_or (cond u (Some e.1) (lookup (same_property q) es)) Unasked
    after true = refl
    after false = rest

pub known-elsewhere : (es : List (Property × Known)) (p q : Property) (k : Known) → same_property q p ≡ false →
    known_in (with_known_in es p k) q ≡ known_in es q
known-elsewhere [] p q k apart = rw apart refl
known-elsewhere (e ∷ es) p q k apart =
    elsewhere-by (same_property p e.0) e es (with_known_in es p k) p q k refl apart (known-elsewhere es p q k apart)
