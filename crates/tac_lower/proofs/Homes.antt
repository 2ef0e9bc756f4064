-- Homes of declarations: each lies within its function's frame, or is a value alone, as its type asks.
use Rattle.std.proofs.Common.{◌≡◌, ℕ, zero, suc, ◌+◌, ◌*◌, ◌<◌, ◌≤◌, Bool, true, false, List, [], ◌∷◌, ◌++◌, length, Option, Some, None}
use Rattle.std.proofs.Common.{refl, sym, ap, ◌∙◌, subst, arith, append-nil, length-append}
use Rattle.std.specs.Prelude.{◌||◌, nat_le, slice_get, unwrap_or, if◌then◌else◌}
use Rattle.std.proofs.lemmas.Bool.{leb-true, or_parts}
use Rattle.std.proofs.lemmas.Option.{none-some, same_Some}
use Rattle.tl_base.specs.declared.place.Place.{Place}
use Rattle.tl_base.specs.declared.ids.TypeId.{TypeId}
use Rattle.terra_types.specs.declared.measure.Measure.{Measure}
use Rattle.terra_types.specs.declared.types.Integer.{Integer}
use Rattle.terra_types.specs.declared.types.Integer.TheVariants.{Int8, Int16, Int32, Int64, Uint8, Uint16, Uint32, Uint64}
use Rattle.terra_types.specs.declared.types.TypeForm.{TypeForm}
use Rattle.terra_types.specs.declared.types.TypeForm.TheVariants as forms
use Rattle.terra_types.specs.Opening.{AreTypes}
use Rattle.terra_types.specs.Sizes.{Within, measure_of, for_some, repeated, largest_size, align_of, bytes_of}
use Rattle.terra_types.specs.Layouts.{rounded}
use Rattle.terra_types.proofs.Growing.{array-measure, plain-measure, past-measure}
use Rattle.terra_term.specs.TypedTerms.{Expression, typed, Constant', Variable, Global, Operate, Both, Either, Dereference, Select, Follow}
use Rattle.terra_term.specs.TypedTerms.{Element, Index, Address, Decay, Let, Body}
use Rattle.terra_term.specs.declared.operators.Operation.{Operation}
use Rattle.terra_term.specs.declared.operators.Operation.TheVariants as operations
use Rattle.terra_term.specs.Events.{Event, Opens, Closes, Declares, Takes, Uses, Mentions, operation_events, takes, scope, body_events}
use Rattle.terra_term.specs.Events.{declared_in}
use Rattle.terra_meaning.specs.Values.{bytes_at, is_aggregate}
use Rattle.terra_meaning.specs.Frames.{Home, by_value, in_frame, home_at, has, Frame, with_home, framed, frame_of, taken}
use Rattle.tac_lower.specs.Needs.{GoodHome}

-- measures

pub past : (types : List TypeForm) (i : ℕ) → slice_get types i ≡ None → length types ≤ i
past [] i e = omega arith
past (x ∷ xs) zero e = absurd (none-some x (sym e))
past (x ∷ xs) (suc i) e = let h = past xs i e in omega (arith, h)

integer-within : (i : Integer) → Within (record { size = bytes_of i; align = bytes_of i })
integer-within Int8 = (omega arith, omega arith, omega arith)
integer-within Int16 = (omega arith, omega arith, omega arith)
integer-within Int32 = (omega arith, omega arith, omega arith)
integer-within Int64 = (omega arith, omega arith, omega arith)
integer-within Uint8 = (omega arith, omega arith, omega arith)
integer-within Uint16 = (omega arith, omega arith, omega arith)
integer-within Uint32 = (omega arith, omega arith, omega arith)
integer-within Uint64 = (omega arith, omega arith, omega arith)

limited-within : (m : Measure) (b : Bool) → nat_le m.size largest_size ≡ b → 1 ≤ m.align → m.align ≤ 8 → (x : Measure) →
    (if b then Some m else None) ≡ Some x → Within x
limited-within m true e least most x h = subst Within (same_Some m x h) (leb-true m.size largest_size e, least, most)
limited-within m false e least most x h = absurd (none-some x h)

repeated-within : (n : ℕ) (o : Option Measure) → ((m : Measure) → o ≡ Some m → Within m) → (x : Measure) → for_some o (repeated n) ≡ Some
    x →
    Within x
repeated-within n None within x h = absurd (none-some x h)
repeated-within n (Some m) within x h =
    let w = within m refl in
    limited-within (record m { size = n * m.size }) (nat_le (n * m.size) largest_size) refl w.1 w.2 x h

module _ (types : List TypeForm) (are : AreTypes types) where
  -- of the types before a number
  within-before : (n i : ℕ) → i < n → (m : Measure) → measure_of types (record { 0 = i }) ≡ Some m → Within m
  within-before zero i lt m e = absurd (omega (arith, lt))
  within-before (suc n) i lt m e = by (slice_get types i) refl (λ j below x h. within-before n j below x h)
    where
      plain : (form : TypeForm) (x : Measure) → measure_of types (record { 0 = i }) ≡ Some x → Within x → Within m
      plain form x at h = subst Within (same_Some x m (sym at ∙ e)) h

      by : (o : Option TypeForm) → slice_get types i ≡ o →
          ((j : ℕ) → j < n → (x : Measure) → measure_of types (record { 0 = j }) ≡ Some x → Within x) → Within m
      by None at earlier = absurd (none-some m (sym (past-measure types i (past types i at)) ∙ e))
      by (Some (forms.Integer k)) at earlier =
          plain (forms.Integer k) (record { size = bytes_of k; align = bytes_of k }) (plain-measure types i (forms.Integer k) refl at)
          (integer-within k)
      by (Some forms.Bool) at earlier =
          plain forms.Bool (record { size = 1; align = 1 }) (plain-measure types i forms.Bool refl at) (
            omega arith,
            omega arith,
            omega
                arith,
          )
      by (Some forms.Unit) at earlier =
          plain forms.Unit (record { size = 0; align = 1 }) (plain-measure types i forms.Unit refl at) (
            omega arith,
            omega arith,
            omega
                arith,
          )
      by (Some (forms.Pointer t)) at earlier =
          plain (forms.Pointer t) (record { size = 8; align = 8 }) (plain-measure types i (forms.Pointer t) refl at)
          (omega arith, omega arith, omega arith)
      by (Some (forms.Function ps r)) at earlier =
          plain (forms.Function ps r) (record { size = 8; align = 8 }) (plain-measure types i (forms.Function ps r) refl at)
          (omega arith, omega arith, omega arith)
      by (Some (forms.Struct k p None)) at earlier =
          absurd (none-some m (sym (plain-measure types i (forms.Struct k p None) refl at) ∙ e))
      by (Some (forms.Struct k p (Some l))) at earlier =
          plain (forms.Struct k p (Some l)) (record { size = l.size; align = l.align })
          (plain-measure types i (forms.Struct k p (Some l)) refl at) (are.limited i k p l at)
      by (Some (forms.Array t k)) at earlier =
          let below : t.0 < i = are.before i (forms.Array t k) at in
          repeated-within k (measure_of types t) (λ x h. earlier t.0 (omega (arith, below, lt)) x h) m
          (sym (array-measure types i k t below at) ∙ e)

  pub within : (t : TypeId) (m : Measure) → measure_of types t ≡ Some m → Within m
  within t m e = within-before (suc t.0) t.0 (omega arith) m e

  -- alignments are at least 1, and sizes within the limit
  pub aligned : (t : TypeId) → 1 ≤ unwrap_or (align_of types t) 1
  aligned t = by (measure_of types t) (within t)
    where
      by : (o : Option Measure) → ((m : Measure) → o ≡ Some m → Within m) → 1 ≤ unwrap_or (for_some o (λ m. Some m.align)) 1
      by None h = omega arith
      by (Some m) h = (h m refl).1

  pub sized : (t : TypeId) → bytes_at types t ≤ largest_size
  sized t = by (measure_of types t) (within t)
    where
      by : (o : Option Measure) → ((m : Measure) → o ≡ Some m → Within m) → unwrap_or (for_some o (λ m. Some m.size)) 0 ≤ largest_size
      by None h = omega arith
      by (Some m) h = (h m refl).0

-- frames

rounded-least : (n a : ℕ) → 1 ≤ a → n ≤ rounded n a
rounded-least n a h = omega (arith, h)

-- declarations of these types from the k-th on are where their types ask
abbrev pub Homes : List TypeForm → (frame : ℕ) → List Home → ℕ → List TypeId → Type 0
Homes types frame homes k [] = Unit {0}
Homes types frame homes k (t ∷ ts) = GoodHome types frame t (home_at homes k) × Homes types frame homes (suc k) ts

behind : (types : List TypeForm) (frame : ℕ) (h : Home) (hs : List Home) (k : ℕ) (ts : List TypeId) → Homes types frame hs k ts →
    Homes types frame (h ∷ hs) (suc k) ts
behind types frame h hs k [] x = tt
behind types frame h hs k (t ∷ ts) x = (x.0, behind types frame h hs (suc k) ts x.1)

module _ (types : List TypeForm) (are : AreTypes types) (placed : List ℕ) where
  frame-holds : (ts : List TypeId) (next offset : ℕ) → offset ≤ (framed types placed next offset ts).size
  frame-holds [] next offset = rounded-least offset 16 (omega arith)
  frame-holds (t ∷ ts) next offset =
      by (is_aggregate types t || has next placed) (λ o. frame-holds ts (suc next) o)
    where
      at : ℕ
      at = rounded offset (unwrap_or (align_of types t) 1)

      whole : Bool → Frame
      whole b = if b then with_home (in_frame at) (framed types placed (suc next) (at + bytes_at types t) ts)
          else with_home by_value (framed types placed (suc next) offset ts)

      by : (b : Bool) → ((o : ℕ) → o ≤ (framed types placed (suc next) o ts).size) → offset ≤ (whole b).size
      by true more_holds =
          let least = rounded-least offset (unwrap_or (align_of types t) 1) (aligned types are t) in
          let more = more_holds (at + bytes_at types t) in omega (arith, least, more)
      by false more_holds = more_holds offset

  framed-homes : (ts : List TypeId) (next offset : ℕ) →
      Homes types (framed types placed next offset ts).size (framed types placed next offset ts).homes 0 ts
  framed-homes [] next offset = tt
  framed-homes (t ∷ ts) next offset =
      by (is_aggregate types t || has next placed) refl (λ o. framed-homes ts (suc next) o)
    where
      at : ℕ
      at = rounded offset (unwrap_or (align_of types t) 1)

      whole : Bool → Frame
      whole b = if b then with_home (in_frame at) (framed types placed (suc next) (at + bytes_at types t) ts)
          else with_home by_value (framed types placed (suc next) offset ts)

      by : (b : Bool) → (is_aggregate types t || has next placed) ≡ b →
          ((o : ℕ) → Homes types (framed types placed (suc next) o ts).size (framed types placed (suc next) o ts).homes 0 ts) →
          Homes types (whole b).size (whole b).homes 0 (t ∷ ts)
      by true e more =
          let f = framed types placed (suc next) (at + bytes_at types t) ts in (
            frame-holds ts (suc next) (at + bytes_at types t),
            behind types f.size (in_frame at) f.homes 0 ts (more (at + bytes_at types t)),
          )
      by false e more =
          let f = framed types placed (suc next) offset ts in (
            (or_parts (is_aggregate types t) (has next placed) e).0,
            behind types f.size by_value f.homes 0 ts (more offset),
          )

pub homes-of : (types : List TypeForm) (b : Body) → AreTypes types →
    Homes types (frame_of types b).size (frame_of types b).homes 0 (declared_in (body_events b))
homes-of types b are = framed-homes types are (taken (body_events b) [] [] 0) (declared_in (body_events b)) 0 0

-- declarations of parts

pub declared-append : (es fs : List Event) → declared_in (es ++ fs) ≡ declared_in es ++ declared_in fs
declared-append [] fs = refl
declared-append (Opens ∷ es) fs = declared-append es fs
declared-append (Closes ∷ es) fs = declared-append es fs
declared-append (Declares x t ∷ es) fs = ap (λ l. t ∷ l) (declared-append es fs)
declared-append (Takes x ∷ es) fs = declared-append es fs
declared-append (Uses at x t ∷ es) fs = declared-append es fs
declared-append (Mentions at f ∷ es) fs = declared-append es fs

pub declared-scope : (es : List Event) → declared_in (scope es) ≡ declared_in es
declared-scope es = declared-append es (Closes ∷ []) ∙ append-nil (declared_in es)

pub declared-takes : (e : Expression) → declared_in (takes e) ≡ []
declared-takes (typed at of (Constant' k)) = refl
declared-takes (typed at of (Variable x)) = refl
declared-takes (typed at of (Global a)) = refl
declared-takes (typed at of (Operate op es)) = refl
declared-takes (typed at of (Both a b)) = refl
declared-takes (typed at of (Either a b)) = refl
declared-takes (typed at of (Dereference p)) = refl
declared-takes (typed at of (Select o e)) = refl
declared-takes (typed at of (Follow o p)) = refl
declared-takes (typed at of (Element a i)) = refl
declared-takes (typed at of (Index p i)) = refl
declared-takes (typed at of (Address e)) = refl
declared-takes (typed at of (Decay e)) = refl
declared-takes (typed at of (Let ss e)) = refl

pub declared-operation : (at : Place) (op : Operation) → declared_in (operation_events at op) ≡ []
declared-operation at operations.Negate = refl
declared-operation at operations.Not = refl
declared-operation at (operations.Binary op) = refl
declared-operation at operations.StepForward = refl
declared-operation at operations.StepBack = refl
declared-operation at operations.Difference = refl
declared-operation at operations.Convert = refl
declared-operation at (operations.Extract o) = refl
declared-operation at (operations.Call f) = refl
declared-operation at (operations.Primitive p) = refl
declared-operation at operations.CallValue = refl
declared-operation at (operations.Construct os) = refl

module _ (types : List TypeForm) (frame : ℕ) (homes : List Home) where
  -- of the events of a part
  abbrev pub HomesOf : ℕ → List Event → Type 0
  HomesOf k es = Homes types frame homes k (declared_in es)

  split-types : (ms bs : List TypeId) (k : ℕ) → Homes types frame homes k (ms ++ bs) →
      Homes types frame homes k ms × Homes types frame homes (k + length ms) bs
  split-types [] bs k h = (tt, subst (λ j. Homes types frame homes j bs) (let e : k ≡ k + 0 = omega arith in e) h)
  split-types (a ∷ ms) bs k h =
      let more = split-types ms bs (suc k) h.1 in
      ((h.0, more.0), subst (λ j. Homes types frame homes j bs) (let e : suc k + length ms ≡ k + suc (length ms) = omega arith in e) more.1)

  pub halves : (es fs : List Event) (k : ℕ) → HomesOf k (es ++ fs) → HomesOf k es × HomesOf (k + length (declared_in es)) fs
  halves es fs k h = split-types (declared_in es) (declared_in fs) k (subst (Homes types frame homes k) (declared-append es fs) h)

  -- where the first part declares nothing
  pub second-half : (es fs : List Event) (k : ℕ) → declared_in es ≡ [] → HomesOf k (es ++ fs) → HomesOf k fs
  second-half es fs k none h =
      subst (λ j. HomesOf j fs) (let e : k + 0 ≡ k = omega arith in ap (λ l. k + length l) none ∙ e) (halves es fs k h).1

  pub in-scope : (es : List Event) (k : ℕ) → HomesOf k (scope es) → HomesOf k es
  in-scope es k h = subst (Homes types frame homes k) (declared-scope es) h

-- behind a part and a scope
pub behind-both : (es fs : List Event) (k : ℕ) →
    k + length (declared_in (es ++ scope fs)) ≡ k + length (declared_in es) + length (declared_in fs)
behind-both es fs k =
    let a = ap length (declared-append es (scope fs)) in
    let b = ap length (declared-scope fs) in
    let c = length-append (declared_in es) (declared_in (scope fs)) in omega (arith, a, b, c)
