-- What is gone through from a function: all that it reaches, each function once, and nothing else.
use Rattle.std.proofs.Common.{◌≡◌, ℕ, zero, suc, ◌+◌, ◌<◌, ◌≤◌, List, [], ◌∷◌, length, Option, Some, None, refl, sym, ap, ◌∙◌, subst, arith}
use Rattle.std.proofs.Common.{slice_get}
use Rattle.std.specs.Prelude.{◌⊎◌}
use mathlib.Core.Logic.{inl, inr}
use Rattle.std.proofs.lemmas.Bool.{cases_order}
use Rattle.std.proofs.lemmas.Option.{slice_get_within}
use Rattle.tl_base.specs.declared.place.Place.{Place}
use Rattle.tl_base.specs.declared.ids.FnId.{FnId}
use Rattle.exotype.specs.World.{StageState}
use Rattle.check_model.specs.declared.job.Reached.{Reached}
use Rattle.check_model.specs.Checks.{mentions_at}
use Rattle.check_library.specs.Counting.{numbered, with_function, with_functions, mentioned, gone_on, gone_through}
use Rattle.check_sound.specs.Exports.{Stands}
use Rattle.check_sound.proofs.Reaching.{extends, stands}
use Rattle.check_sound.proofs.Tests.{none-some, same-some, get-past}
use Rattle.export_count.proofs.Lists.{Once, Longer, longer-itself, longer-twice, stands-longer, old-or-new, no-more-than, Put, put}

-- ---- what a function mentions

-- a mention is one of those that a function's term has
pub mentioned-was : (w : StageState) (f : ℕ) (j : ℕ) (r : Reached) → slice_get (mentioned w f) j ≡ Some r →
    (i : ℕ) × ((m : Place × FnId) × ((slice_get (mentions_at w (numbered f)) i ≡ Some m) × (r.function ≡ m.1)))
mentioned-was w f j r h =
    let e = extends [] (numbered f) (mentions_at w (numbered f)) in
    e.new j r (ap (λ l. slice_get l j) (sym e.is) ∙ h)

-- and each of those is one
pub was-mentioned : (w : StageState) (f : ℕ) (i : ℕ) (m : Place × FnId) → slice_get (mentions_at w (numbered f)) i ≡ Some m →
    (j : ℕ) × ((r : Reached) × ((slice_get (mentioned w f) j ≡ Some r) × (r.function ≡ m.1)))
was-mentioned w f i m h =
    let e = extends [] (numbered f) (mentions_at w (numbered f)) in
    let s = stands m.1 (mentioned w f) (e.all i m h) in
    (s.place, (s.reached, (s.at, sym s.is)))

-- ---- functions behind others

pub record All (P : ℕ → Type 0) (fs : List ℕ) (rs : List Reached) (next : List ℕ) : Type 0 where
  pub longer : Longer P fs next
  pub stand : (j : ℕ) (r : Reached) → slice_get rs j ≡ Some r → Stands next r.function.0

pub put-all : (P : ℕ → Type 0) (rs : List Reached) (fs : List ℕ) →
    ((j : ℕ) (r : Reached) → slice_get rs j ≡ Some r → P r.function.0) → All P fs rs (with_functions fs rs)
put-all P [] fs h = record { longer = longer-itself P fs; stand = λ j r at. absurd (none-some r at) }
put-all P (x ∷ rs) fs h =
    next (put P fs x.function.0 (h zero x refl))
    (put-all P rs (with_function fs x.function.0) (λ j r at. h (suc j) r at))
  where
    next : Put P fs x.function.0 (with_function fs x.function.0) →
        All P (with_function fs x.function.0) rs (with_functions (with_function fs x.function.0) rs) →
        All P fs (x ∷ rs) (with_functions (with_function fs x.function.0) rs)
    next p a = record { longer = longer-twice P fs (with_function fs x.function.0) _ p.longer a.longer; stand = stand }
      where
        stand : (j : ℕ) (r : Reached) → slice_get (x ∷ rs) j ≡ Some r →
            Stands (with_functions (with_function fs x.function.0) rs) r.function.0
        stand zero r at =
            subst (λ (z : Reached). Stands (with_functions (with_function fs x.function.0) rs) z.function.0) (same-some x r at)
            (stands-longer P (with_function fs x.function.0) (with_functions (with_function fs x.function.0) rs) a.longer
            x.function.0 p.stands)
        stand (suc j) r at = a.stand j r at

-- ---- all that is reached

module _ (w : StageState) (many : ℕ) (P : ℕ → Type 0) (below : (f : ℕ) → P f → f < many)
    (on : (f : ℕ) → P f → (j : ℕ) (r : Reached) → slice_get (mentioned w f) j ≡ Some r → P r.function.0) where
  -- what a function mentions stands among others
  abbrev pub Closed : List ℕ → ℕ → Type 0
  Closed fs f = (j : ℕ) (r : Reached) → slice_get (mentioned w f) j ≡ Some r → Stands fs r.function.0

  -- functions that are gone through up to a place
  pub record Through (i : ℕ) (fs : List ℕ) : Type 0 where
    pub once : Once fs
    pub within : (k f : ℕ) → slice_get fs k ≡ Some f → f < many
    pub closed : (k f : ℕ) → k < i → slice_get fs k ≡ Some f → Closed fs f
    pub ahead : (k f : ℕ) → i ≤ k → slice_get fs k ≡ Some f → P f

  -- and to the end
  pub record Gone (fs next : List ℕ) : Type 0 where
    pub longer : Longer P fs next
    pub once : Once next
    pub closed : (k f : ℕ) → slice_get next k ≡ Some f → Closed next f

  at-end : (i : ℕ) (fs : List ℕ) → Through i fs → length fs ≤ i → Gone fs fs
  at-end i fs t past = record {
    longer = longer-itself P fs;
    once = t.once;
    closed = λ k f at. let inside : k < length fs = slice_get_within fs k f at in t.closed k f (omega (arith, inside, past)) at;
  }

  -- a step: what stands at the place has its mentions behind the others
  step : (i f : ℕ) (fs next : List ℕ) → Through i fs → slice_get fs i ≡ Some f → All P fs (mentioned w f) next →
      Through (i + 1) next
  step i f fs next t at a = record { once = a.longer.once t.once; within = within; closed = closed; ahead = ahead }
    where
      within : (k g : ℕ) → slice_get next k ≡ Some g → g < many
      within k g h = by (old-or-new P fs next a.longer k g h)
        where
          by : (slice_get fs k ≡ Some g) ⊎ ((length fs ≤ k) × P g) → g < many
          by (inl e) = t.within k g e
          by (inr e) = below g e.1

      inside : i < length fs
      inside = slice_get_within fs i f at

      earlier : (k g : ℕ) → slice_get fs k ≡ Some g → (k ≡ i) ⊎ ((k < i) ⊎ (i < k)) → k < i + 1 → Closed next g
      earlier k g e (inl same) less =
          let here : slice_get fs i ≡ Some g = ap (λ z. slice_get fs z) (sym same) ∙ e in
          subst (λ z. Closed next z) (same-some f g (sym at ∙ here)) a.stand
      earlier k g e (inr (inl before)) less = λ j r m.
          stands-longer P fs next a.longer r.function.0 (t.closed k g before e j r m)
      earlier k g e (inr (inr after)) less = absurd (omega (arith, less, after))

      closed : (k g : ℕ) → k < i + 1 → slice_get next k ≡ Some g → Closed next g
      closed k g less h = by (old-or-new P fs next a.longer k g h)
        where
          by : (slice_get fs k ≡ Some g) ⊎ ((length fs ≤ k) × P g) → Closed next g
          by (inl e) = earlier k g e (cases_order k i) less
          by (inr e) = absurd (omega (arith, e.0, inside, less))

      ahead : (k g : ℕ) → i + 1 ≤ k → slice_get next k ≡ Some g → P g
      ahead k g more h = by (old-or-new P fs next a.longer k g h)
        where
          by : (slice_get fs k ≡ Some g) ⊎ ((length fs ≤ k) × P g) → P g
          by (inl e) = t.ahead k g (omega (arith, more)) e
          by (inr e) = e.1

  -- As many steps serve as there are functions, since there are no more to go through.
  pub goes-through : (n i : ℕ) (fs : List ℕ) → Through i fs → many ≤ i + n → Gone fs (gone_through w n i fs)
  goes-through zero i fs t enough =
      let few : length fs ≤ many = no-more-than fs many t.once t.within in
      at-end i fs t (omega (arith, few, enough))
  goes-through (suc n) i fs t enough =
      by (λ next u. goes-through n (i + 1) next u (omega (arith, enough))) (slice_get fs i) refl
    where
      by : ((next : List ℕ) → Through (i + 1) next → Gone next (gone_through w n (i + 1) next)) →
          (o : Option ℕ) → slice_get fs i ≡ o →
          Gone fs (gone_on o fs (λ f. gone_through w n (i + 1) (with_functions fs (mentioned w f))))
      by rest None at = at-end i fs t (get-past fs i at)
      by rest (Some f) at =
          let a = put-all P (mentioned w f) fs (on f (t.ahead i f (omega arith) at)) in
          let g = rest (with_functions fs (mentioned w f)) (step i f fs (with_functions fs (mentioned w f)) t at a) in
          record {
            longer = longer-twice P fs (with_functions fs (mentioned w f)) _ a.longer g.longer;
            once = g.once;
            closed = g.closed;
          }
