-- Tests that are passed together, and ids that are the same.
use Rattle.std.proofs.Common.{◌≡◌, Bool, true, false, List, [], ◌∷◌, refl, ap, ◌∙◌, arith}
use Rattle.std.specs.Prelude.{◌&&◌}
use Rattle.std.proofs.lemmas.Bool.{and_parts, eqb-true}
use Rattle.tl_base.specs.declared.ids.TypeId.{TypeId}
use Rattle.terra_term.specs.WellTyped.{same, are_same}

pub no : false ≡ true → ⊥
no e = grind (arith, e)

pub three : (a b c : Bool) → (a && b && c) ≡ true → (a ≡ true) × (b ≡ true) × (c ≡ true)
three a b c h = let x = and_parts (a && b) c h in let y = and_parts a b x.0 in (y.0, y.1, x.1)

pub four : (a b c d : Bool) → (a && b && c && d) ≡ true → (a ≡ true) × (b ≡ true) × (c ≡ true) × (d ≡ true)
four a b c d h = let x = and_parts (a && b && c) d h in let y = three a b c x.0 in (y.0, y.1, y.2, x.1)

pub five : (a b c d e : Bool) → (a && b && c && d && e) ≡ true → (a ≡ true) × (b ≡ true) × (c ≡ true) × (d ≡ true) × (e ≡ true)
five a b c d e h = let x = and_parts (a && b && c && d) e h in let y = four a b c d x.0 in (y.0, y.1, y.2, y.3, x.1)

pub same-id : (a b : TypeId) → same a b ≡ true → a ≡ b
same-id a b e = ap (λ m. record { 0 = m }) (eqb-true a.0 b.0 e)

pub same-ids : (ms bs : List TypeId) → are_same ms bs ≡ true → ms ≡ bs
same-ids [] [] e = refl
same-ids (a ∷ ms) (b ∷ bs) e =
    let h = and_parts (same a b) (are_same ms bs) e in
    ap (λ x. x ∷ ms) (same-id a b h.0) ∙ ap (λ l. b ∷ l) (same-ids ms bs h.1)
same-ids [] (b ∷ bs) e = absurd (no e)
same-ids (a ∷ ms) [] e = absurd (no e)
