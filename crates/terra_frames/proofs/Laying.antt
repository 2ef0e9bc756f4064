-- Frames are laid out from their begin: what is declared later goes on where what is declared before ends.
use Rattle.std.proofs.Common.{◌≡◌, ℕ, zero, suc, ◌+◌, ◌*◌, ◌<◌, ◌≤◌, Bool, true, false, List, [], ◌∷◌, Some}
use Rattle.std.proofs.Common.{refl, sym, ap, subst, arith}
use Rattle.std.specs.Prelude.{◌||◌, ◌-◌, ◌/◌, slice_get, unwrap_or, if◌then◌else◌}
use Rattle.std.proofs.lemmas.Option.{none-some, same_Some}
use Rattle.tl_base.specs.declared.ids.TypeId.{TypeId}
use Rattle.terra_types.specs.declared.types.TypeForm.{TypeForm}
use Rattle.terra_types.specs.Opening.{AreTypes}
use Rattle.terra_types.specs.Sizes.{align_of}
use Rattle.terra_types.specs.Layouts.{rounded}
use Rattle.terra_term.specs.Events.{body_events, declared_in}
use Rattle.terra_meaning.specs.Frames.{Home, by_value, in_frame, has, Frame, with_home, framed, taken}
use Rattle.terra_meaning.specs.Values.{bytes_at, is_aggregate}
use Rattle.tac_lower.proofs.Homes.{aligned}
use Rattle.terra_frames.specs.Laid.{FramesAreLaidOut}

rounded-least : (n a : ℕ) → 1 ≤ a → n ≤ rounded n a
rounded-least n a h = omega (arith, h)

abbrev offset_of : Home → ℕ
offset_of by_value = 0
offset_of (in_frame at) = at

same-offset : (a b : ℕ) → Some (in_frame a) ≡ Some (in_frame b) → a ≡ b
same-offset a b e = ap offset_of (same_Some (in_frame a) (in_frame b) e)

no-offset : {A : Type 0} (at : ℕ) → Some by_value ≡ Some (in_frame at) → A
no-offset at e = absurd (cc e)

module _ (types : List TypeForm) (are : AreTypes types) (placed : List ℕ) where
  abbrev align : TypeId → ℕ
  align t = unwrap_or (align_of types t) 1

  abbrev here : TypeId → ℕ → ℕ
  here t offset = rounded offset (align t)

  least : (t : TypeId) (offset : ℕ) → offset ≤ here t offset
  least t offset = rounded-least offset (align t) (aligned types are t)

  abbrev rest : List TypeId → (next offset : ℕ) → Frame
  rest ts next offset = framed types placed next offset ts

  -- a frame with one more declaration in front, which lies in it or doesn't
  abbrev whole : Bool → TypeId → List TypeId → (next offset : ℕ) → Frame
  whole b t ts next offset =
      if b then with_home (in_frame (here t offset)) (rest ts (suc next) (here t offset + bytes_at types t))
      else with_home by_value (rest ts (suc next) offset)

  abbrev lies : TypeId → ℕ → Bool
  lies t next = is_aggregate types t || has next placed

  holds : (ts : List TypeId) (next offset : ℕ) → offset ≤ (rest ts next offset).size
  holds [] next offset = rounded-least offset 16 (omega arith)
  holds (t ∷ ts) next offset = by (lies t next) (λ o. holds ts (suc next) o)
    where
      by : (b : Bool) → ((o : ℕ) → o ≤ (rest ts (suc next) o).size) → offset ≤ (whole b t ts next offset).size
      by true on =
          let one = least t offset in
          let more = on (here t offset + bytes_at types t) in omega (arith, one, more)
      by false on = on offset

  multiple : (ts : List TypeId) (next offset : ℕ) → (k : ℕ) × ((rest ts next offset).size ≡ k * 16)
  multiple [] next offset = ((offset + 15) / 16, refl)
  multiple (t ∷ ts) next offset = by (lies t next) (λ o. multiple ts (suc next) o)
    where
      by : (b : Bool) → ((o : ℕ) → (k : ℕ) × ((rest ts (suc next) o).size ≡ k * 16)) →
          (k : ℕ) × ((whole b t ts next offset).size ≡ k * 16)
      by true on = on (here t offset + bytes_at types t)
      by false on = on offset

  -- all lie at the offset at which the frame goes on, or behind it
  not-before : (ts : List TypeId) (next offset i at : ℕ) → slice_get (rest ts next offset).homes i ≡ Some (in_frame at) → offset ≤ at
  not-before [] next offset i at h = absurd (none-some (in_frame at) h)
  not-before (t ∷ ts) next offset i at h = by (lies t next) (λ o j e. not-before ts (suc next) o j at e) i h
    where
      by : (b : Bool) → ((o j : ℕ) → slice_get (rest ts (suc next) o).homes j ≡ Some (in_frame at) → o ≤ at) → (i : ℕ) →
          slice_get (whole b t ts next offset).homes i ≡ Some (in_frame at) → offset ≤ at
      by true on zero e = subst (λ n. offset ≤ n) (same-offset (here t offset) at e) (least t offset)
      by true on (suc i) e =
          let one = least t offset in
          let more = on (here t offset + bytes_at types t) i e in omega (arith, one, more)
      by false on zero e = no-offset at e
      by false on (suc i) e = on offset i e

  inside : (ts : List TypeId) (next offset i at : ℕ) (of : TypeId) → slice_get ts i ≡ Some of →
      slice_get (rest ts next offset).homes i ≡ Some (in_frame at) → at + bytes_at types of ≤ (rest ts next offset).size
  inside [] next offset i at of d h = absurd (none-some of d)
  inside (t ∷ ts) next offset i at of d h = by (lies t next) (λ o j g e. inside ts (suc next) o j at of g e) i d h
    where
      by : (b : Bool) →
          ((o j : ℕ) → slice_get ts j ≡ Some of → slice_get (rest ts (suc next) o).homes j ≡ Some (in_frame at) →
          at + bytes_at types of ≤ (rest ts (suc next) o).size) →
          (i : ℕ) → slice_get (t ∷ ts) i ≡ Some of → slice_get (whole b t ts next offset).homes i ≡ Some (in_frame at) →
          at + bytes_at types of ≤ (whole b t ts next offset).size
      by true on zero d e =
          subst (λ (u : TypeId). at + bytes_at types u ≤ (whole true t ts next offset).size) (same_Some t of d)
          (subst (λ n. n + bytes_at types t ≤ (whole true t ts next offset).size) (same-offset (here t offset) at e)
          (holds ts (suc next) (here t offset + bytes_at types t)))
      by true on (suc i) d e = on (here t offset + bytes_at types t) i d e
      by false on zero d e = no-offset at e
      by false on (suc i) d e = on offset i d e

  at-multiple : (ts : List TypeId) (next offset i at : ℕ) (of : TypeId) → slice_get ts i ≡ Some of →
      slice_get (rest ts next offset).homes i ≡ Some (in_frame at) → (k : ℕ) × (at ≡ k * align of)
  at-multiple [] next offset i at of d h = absurd (none-some of d)
  at-multiple (t ∷ ts) next offset i at of d h = by (lies t next) (λ o j g e. at-multiple ts (suc next) o j at of g e) i d h
    where
      by : (b : Bool) →
          ((o j : ℕ) → slice_get ts j ≡ Some of → slice_get (rest ts (suc next) o).homes j ≡ Some (in_frame at) →
          (k : ℕ) × (at ≡ k * align of)) →
          (i : ℕ) → slice_get (t ∷ ts) i ≡ Some of → slice_get (whole b t ts next offset).homes i ≡ Some (in_frame at) →
          (k : ℕ) × (at ≡ k * align of)
      by true on zero d e =
          subst (λ (u : TypeId). (k : ℕ) × (at ≡ k * align u)) (same_Some t of d)
          ((offset + (align t - 1)) / align t, sym (same-offset (here t offset) at e))
      by true on (suc i) d e = on (here t offset + bytes_at types t) i d e
      by false on zero d e = no-offset at e
      by false on (suc i) d e = on offset i d e

  ends-before : (ts : List TypeId) (next offset i j at other : ℕ) (of : TypeId) → i < j → slice_get ts i ≡ Some of →
      slice_get (rest ts next offset).homes i ≡ Some (in_frame at) → slice_get (rest ts next offset).homes j ≡ Some (in_frame other) →
      at + bytes_at types of ≤ other
  ends-before [] next offset i j at other of lt d h g = absurd (none-some of d)
  ends-before (t ∷ ts) next offset i j at other of lt d h g =
      by (lies t next) (λ o k l less a e f. ends-before ts (suc next) o k l at other of less a e f) i j lt d h g
    where
      by : (b : Bool) →
          ((o k l : ℕ) → k < l → slice_get ts k ≡ Some of → slice_get (rest ts (suc next) o).homes k ≡ Some (in_frame at) →
          slice_get (rest ts (suc next) o).homes l ≡ Some (in_frame other) → at + bytes_at types of ≤ other) →
          (i j : ℕ) → i < j → slice_get (t ∷ ts) i ≡ Some of → slice_get (whole b t ts next offset).homes i ≡ Some (in_frame at) →
          slice_get (whole b t ts next offset).homes j ≡ Some (in_frame other) → at + bytes_at types of ≤ other
      by b on i zero lt d e f = absurd (omega (arith, lt))
      by true on zero (suc j) lt d e f =
          subst (λ (u : TypeId). at + bytes_at types u ≤ other) (same_Some t of d)
          (subst (λ n. n + bytes_at types t ≤ other) (same-offset (here t offset) at e)
          (not-before ts (suc next) (here t offset + bytes_at types t) j other f))
      by true on (suc i) (suc j) lt d e f = on (here t offset + bytes_at types t) i j (omega (arith, lt)) d e f
      by false on zero (suc j) lt d e f = no-offset at e
      by false on (suc i) (suc j) lt d e f = on offset i j (omega (arith, lt)) d e f

pub frames_are_laid_out : FramesAreLaidOut
frames_are_laid_out forms are body =
    let placed = taken (body_events body) [] [] 0 in
    let types = declared_in (body_events body) in
    record {
      within = λ i at of h. inside forms are placed types 0 0 i at of h.declared h.home;
      aligned = λ i at of h. at-multiple forms are placed types 0 0 i at of h.declared h.home;
      behind = λ i j at next of other lt h g. ends-before forms are placed types 0 0 i j at next of lt h.declared h.home g.home;
      size = multiple forms are placed types 0 0;
    }
