-- What a layout keeps of the world, whatever it puts there: what is known of entries that aren't known yet, and a
-- layout that isn't settled.
use Rattle.std.proofs.Common.{ℕ, ◌≡◌, Bool, true, false, ◌==◌, ◌&&◌, refl, sym, subst, ap, arith, Option}
use Rattle.std.specs.Prelude.{IsTrue}
use Rattle.std.proofs.lemmas.Bool.Decides.{Decides-eqb}
use Rattle.tl_base.specs.declared.ids.TypeId.{TypeId}
use Rattle.terra_types.specs.declared.layout.Layout.{Layout}
use Rattle.terra_types.specs.Making.{is_unsettled, with_settled}
use Rattle.terra_types.proofs.Staying.{keeps-settled}
use Rattle.terra_term.specs.Held.{with_types}
use Rattle.exotype.specs.World.{StageState, KeptState, with_store}
use Rattle.exotype.specs.Properties.{rank, name_number, same_property, known_of, with_known}
use Rattle.exotype.specs.declared.property.Property.{Property}
use Rattle.exotype.specs.declared.property.Property.TheVariants.{Entries, Method}
use Rattle.exotype.specs.declared.property.Known.{Known}
use Rattle.exotype.specs.declared.property.Known.TheVariants as known
use Rattle.check_model.specs.Keeping.{StaysKnown}
use Rattle.check_model.specs.Layouts.{settled_as}
use Rattle.check_flow.specs.Keeping.{KeepsLayouts}
use Rattle.check_flow.specs.Kept.{keeps_itself}

-- ---- what is known of entries

middle : (a b c : Bool) → (a && b && c) ≡ true → b ≡ true
middle true true c h = refl
middle true false c h = absurd (cc h)
middle false b c h = absurd (cc h)

first : (a b c : Bool) → (a && b && c) ≡ true → a ≡ true
first true b c h = refl
first false b c h = absurd (cc h)

-- the property of a struct's entries is the same as no other
same_entries : (p : Property) (t : TypeId) → same_property p (Entries t) ≡ true → p ≡ Entries t
same_entries (Entries u) t h =
    ap (λ (n : ℕ). Entries (record { 0 = n }))
    ((Decides-eqb u.0 t.0).0 (middle (rank (Entries u) == rank (Entries t)) (u.0 == t.0) (name_number (Entries u) == name_number (Entries t)) h))
same_entries (Method u x) t h =
    absurd (apart ((Decides-eqb (rank (Method u x)) (rank (Entries t))).0
    (first (rank (Method u x) == rank (Entries t)) (u.0 == t.0) (name_number (Method u x) == name_number (Entries t)) h)))
  where
    apart : ◌≡◌ {A = ℕ} 1 0 → ⊥
    apart e = omega (arith, e)

-- what is known of a property once it is put there, and of the others
abbrev pub IsThere : Type 0
IsThere = (kept : KeptState) (p : Property) (k : Known) → known_of (with_known kept p k) p ≡ k

abbrev pub IsElsewhere : Type 0
IsElsewhere =
    (kept : KeptState) (p q : Property) (k : Known) → same_property q p ≡ false → known_of (with_known kept p k) q ≡ known_of kept q

-- what is known of them may be put where they aren't known yet
put_kept : (w : StageState) (t : TypeId) (k : Known) (p : Property) → IsThere → IsElsewhere → StaysKnown (known_of w.kept (Entries t)) k
    → StaysKnown (known_of w.kept p) (known_of (with_known w.kept (Entries t) k) p)
put_kept w t k p there elsewhere free =
    by_test (same_property p (Entries t)) refl
  where
    put : StaysKnown (known_of w.kept (Entries t)) (known_of (with_known w.kept (Entries t) k) (Entries t))
    put = subst (StaysKnown (known_of w.kept (Entries t))) (sym (there w.kept (Entries t) k)) free

    by_test : (c : Bool) → same_property p (Entries t) ≡ c → StaysKnown (known_of w.kept p) (known_of (with_known w.kept (Entries t) k) p)
    by_test true is =
        subst (λ (q : Property). StaysKnown (known_of w.kept q) (known_of (with_known w.kept (Entries t) k) q)) (sym (same_entries p t is)) put
    by_test false is =
        subst (StaysKnown (known_of w.kept p)) (sym (elsewhere w.kept (Entries t) p k is)) ((keeps_itself w).known p)

keeps_put : (w : StageState) (t : TypeId) (k : Known) → IsThere → IsElsewhere → StaysKnown (known_of w.kept (Entries t)) k
    → KeepsLayouts w (record w { kept = with_known w.kept (Entries t) k })
keeps_put w t k there elsewhere free =
    let same = keeps_itself w in
    record {
      types = same.types;
      store = refl;
      known = λ p. put_kept w t k p there elsewhere free;
      structs = refl;
      heap = refl;
      exports = refl;
      memory = refl;
    }

-- the entries of a struct that weren't asked for, and those that are being asked for
pub keeps_asking : (w : StageState) (t : TypeId) (k : Known) → IsThere → IsElsewhere → known_of w.kept (Entries t) ≡ known.Unasked
    → KeepsLayouts w (record w { kept = with_known w.kept (Entries t) k })
keeps_asking w t k there elsewhere is = keeps_put w t k there elsewhere (subst (λ (x : Known). StaysKnown x k) (sym is) tt)

pub keeps_known : (w : StageState) (t : TypeId) (k : Known) → IsThere → IsElsewhere
    → KeepsLayouts w (record w { kept = settled_as (known_of w.kept (Entries t)) w.kept t k })
keeps_known w t k there elsewhere =
    by_known (known_of w.kept (Entries t)) refl
  where
    by_known : (c : Known) → known_of w.kept (Entries t) ≡ c → KeepsLayouts w (record w { kept = settled_as c w.kept t k })
    by_known known.Asked is = keeps_put w t k there elsewhere (subst (λ (x : Known). StaysKnown x k) (sym is) tt)
    by_known known.Unasked is = keeps_itself w
    by_known (known.Value v) is = keeps_itself w
    by_known (known.Refused kind) is = keeps_itself w

-- ---- a layout that isn't settled

pub keeps_layout : (w : StageState) (t : TypeId) (layout : Option Layout) → IsTrue (is_unsettled w.store.types t)
    → KeepsLayouts w (with_store w (with_types w.store (with_settled w.store.types t layout)))
keeps_layout w t layout unsettled =
    let same = keeps_itself w in
    record {
      types = keeps-settled w.store.types t layout unsettled;
      store = refl;
      known = same.known;
      structs = refl;
      heap = refl;
      exports = refl;
      memory = refl;
    }

-- ---- one step and the next

pub kept_as : (u v w : StageState) → v ≡ w → KeepsLayouts u w → KeepsLayouts u v
kept_as u v w is kept = subst (KeepsLayouts u) (sym is) kept
