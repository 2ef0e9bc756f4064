-- Lowering keeps runs: the types of a store are as large as they should be, and the rest is proved of its functions.
use Rattle.std.proofs.Common.{◌≡◌, ℕ, zero, suc, ◌≤◌, false, List, [], ◌∷◌, length, Option, Some, None, refl, sym, ap, subst, arith}
use Rattle.std.specs.Prelude.{slice_get, unwrap_or}
use Rattle.tl_base.specs.declared.ids.TypeId.{TypeId}
use Rattle.terra_types.specs.declared.types.TypeForm.{TypeForm}
use Rattle.terra_types.specs.declared.types.TypeForm.TheVariants as forms
use Rattle.terra_types.specs.declared.measure.Measure.{Measure}
use Rattle.terra_types.specs.Opening.{boolean, unit}
use Rattle.terra_types.specs.Sizes.{measure_of, measured, for_some}
use Rattle.terra_types.proofs.Growing.{is_array, plain-measure, past-measure}
use Rattle.terra_meaning.specs.Values.{form_at, bytes_at}
use Rattle.tac_lower.specs.Lowering.{lowered}
use Rattle.tac_lower.specs.Laws.{LoweringKeepsRuns}
use Rattle.tac_lower.proofs.Standing.{SizedBy}
use Rattle.tac_lower.proofs.Runs.{has_run}
use Rattle.tac_lower.proofs.Needing.{body-needs}

-- forms that aren't made of others
abbrev is_plain : TypeForm → Type 0
is_plain (forms.Array t n) = ⊥
is_plain _ = Unit {0}

not-array : (form : TypeForm) → is_plain form → is_array form ≡ false
not-array (forms.Integer i) h = refl
not-array forms.Bool h = refl
not-array forms.Unit h = refl
not-array (forms.Pointer t) h = refl
not-array (forms.Function params result) h = refl
not-array (forms.Struct number place layout) h = refl
not-array (forms.Array t n) h = absurd h

-- there is no type behind the last
past : (types : List TypeForm) (i : ℕ) → slice_get types i ≡ None → length types ≤ i
past [] i e = omega arith
past (x ∷ xs) zero e = absurd (grind (arith, e))
past (x ∷ xs) (suc i) e = let h = past xs i e in omega (arith, h)

bytes_by : Option Measure → ℕ
bytes_by m = unwrap_or (for_some m (λ x. Some x.size)) 0

-- how many bytes a form has of itself
sized-form : (form : TypeForm) (m : Option Measure) → (is_plain form → m ≡ measured [] form) → SizedBy form (bytes_by m)
unfolding bytes_by
sized-form (forms.Integer i) m e = ap bytes_by (e tt)
sized-form forms.Bool m e = ap bytes_by (e tt)
sized-form forms.Unit m e = ap bytes_by (e tt)
sized-form (forms.Pointer t) m e = ap bytes_by (e tt)
sized-form (forms.Function params result) m e = ap bytes_by (e tt)
sized-form (forms.Array t n) m e = tt
sized-form (forms.Struct number place layout) m e = tt

pub sizes : (types : List TypeForm) (t : TypeId) → SizedBy (form_at types t) (bytes_at types t)
unfolding bytes_by
sizes types t = by (slice_get types t.0) refl
  where
    by : (o : Option TypeForm) → slice_get types t.0 ≡ o → SizedBy (unwrap_or o forms.Unit) (bytes_by (measure_of types t))
    by (Some form) e = sized-form form (measure_of types t) (λ plain. plain-measure types t.0 form (not-array form plain) e)
    by None e = ap bytes_by (past-measure types t.0 (past types t.0 e))

pub lowering_keeps_runs : LoweringKeepsRuns lowered
lowering_keeps_runs store p types are few lowered_are memory n f k arguments size statics there narrow values =
    let boolean_is : form_at store.types boolean ≡ forms.Bool =
    subst (λ l. form_at l boolean ≡ forms.Bool) (sym types.opened.1) refl in
    let unit_is : form_at store.types unit ≡ forms.Unit = subst (λ l. form_at l unit ≡ forms.Unit) (sym types.opened.1) refl in
    has_run p store memory size.2 (sizes store.types) boolean_is unit_is lowered_are
    (λ g j at. body-needs store types p.entries few j (are g j at)) n f k arguments size statics there narrow values
