-- What is kept of methods.
use Rattle.std.proofs.Common.{ℕ, ◌≡◌, Bool, true, false, ◌==◌, ◌&&◌, refl, sym, subst, ap, ◌∙◌}
use Rattle.std.proofs.lemmas.Bool.Decides.{Decides-eqb}
use Rattle.tl_base.specs.declared.ids.TextId.{TextId}
use Rattle.tl_base.specs.declared.ids.TypeId.{TypeId}
use Rattle.exotype.specs.World.{StageState, KeptState}
use Rattle.exotype.specs.Properties.{same_property, known_of, with_known}
use Rattle.exotype.specs.declared.property.Property.{Property}
use Rattle.exotype.specs.declared.property.Property.TheVariants.{Entries, Method}
use Rattle.exotype.specs.declared.property.Known.{Known}
use Rattle.exotype.specs.declared.property.Known.TheVariants as known_as
use Rattle.check_model.specs.Keeping.{StaysKnown}
use Rattle.check_model.specs.Expressions.{settled_as}
use Rattle.check_expr.specs.Asking.{with_method, with_settled}
use Rattle.check_expr.specs.Keeping.{KeepsStage}
use Rattle.check_expr.specs.Kept.{store_itself, stage_itself, known_itself}

-- a property that is the same as a method is that method
same_method : (p : Property) (t : TypeId) (x : TextId) → same_property p (Method t x) ≡ true → p ≡ Method t x
same_method (Method u y) t x h =
    ap (λ (n : ℕ). Method (record { 0 = n }) y) ((Decides-eqb u.0 t.0).0 (middle (u.0 == t.0) (y.0 == x.0) h))
    ∙ ap (λ (n : ℕ). Method t (record { 0 = n })) ((Decides-eqb y.0 x.0).0 (last (u.0 == t.0) (y.0 == x.0) h))
  where
    middle : (a b : Bool) → (true && a && b) ≡ true → a ≡ true
    middle true b h = refl
    middle false b h = absurd (cc h)

    last : (a b : Bool) → (true && a && b) ≡ true → b ≡ true
    last true b h = h
    last false b h = absurd (cc h)
same_method (Entries u) t x h = absurd (cc h)

-- what is known of a property once it is put there, and of the others
abbrev pub IsThere : Type 0
IsThere = (kept : KeptState) (p : Property) (k : Known) → known_of (with_known kept p k) p ≡ k

abbrev pub IsElsewhere : Type 0
IsElsewhere =
    (kept : KeptState) (p q : Property) (k : Known) → same_property q p ≡ false → known_of (with_known kept p k) q ≡ known_of kept q

-- what is known of it may be put where that isn't an answer yet
put_kept : (kept : KeptState) (t : TypeId) (x : TextId) (k : Known) (p : Property) → IsThere → IsElsewhere
    → StaysKnown (known_of kept (Method t x)) k → StaysKnown (known_of kept p) (known_of (with_known kept (Method t x) k) p)
put_kept kept t x k p there elsewhere free =
    by_test (same_property p (Method t x)) refl
  where
    new : KeptState
    new = with_known kept (Method t x) k

    put : StaysKnown (known_of kept (Method t x)) (known_of new (Method t x))
    put = subst (StaysKnown (known_of kept (Method t x))) (sym (there kept (Method t x) k)) free

    by_test : (c : Bool) → same_property p (Method t x) ≡ c → StaysKnown (known_of kept p) (known_of new p)
    by_test true is =
        subst (λ (q : Property). StaysKnown (known_of kept q) (known_of new q)) (sym (same_method p t x is)) put
    by_test false is = subst (StaysKnown (known_of kept p)) (sym (elsewhere kept (Method t x) p k is)) (known_itself (known_of kept p))

pub keeps_method : (w : StageState) (t : TypeId) (x : TextId) (k : Known) → IsThere → IsElsewhere
    → StaysKnown (known_of w.kept (Method t x)) k → KeepsStage w (with_method w t x k)
keeps_method w t x k there elsewhere free = record {
  heap = refl;
  store = store_itself w.store;
  structs = refl;
  known = λ p. put_kept w.kept t x k p there elsewhere free;
  exports = refl;
  memory = refl;
}

-- where it isn't being asked for, nothing changes
pub keeps_settled : (w : StageState) (t : TypeId) (x : TextId) (k : Known) → IsThere → IsElsewhere → KeepsStage w (with_settled w t x k)
keeps_settled w t x k there elsewhere = by_known (known_of w.kept (Method t x)) refl
  where
    by_known : (c : Known) → known_of w.kept (Method t x) ≡ c → KeepsStage w (record w { kept = settled_as c w.kept t x k })
    by_known known_as.Asked is = keeps_method w t x k there elsewhere (subst (λ c. StaysKnown c k) (sym is) tt)
    by_known known_as.Unasked is = stage_itself w
    by_known (known_as.Value v) is = stage_itself w
    by_known (known_as.Refused kind) is = stage_itself w
