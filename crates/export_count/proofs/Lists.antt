-- Numbers in lists: where they stand, that each stands there once, and how many there can be.
use Rattle.std.proofs.Common.{◌≡◌, ℕ, zero, suc, ◌<◌, ◌≤◌, Bool, true, false, eqb, List, [], ◌∷◌, ◌++◌, append_assoc, append-nil, length}
use Rattle.std.proofs.Common.{Some, refl, sym, ap, ◌∙◌, subst, arith, slice_get}
use Rattle.std.specs.Prelude.{◌⊎◌, nat_eq, if◌then◌else◌}
use Rattle.std.specs.List.{list_any, IsDistinct, AllByRecursion}
use mathlib.Core.Logic.{inl, inr}
use Rattle.std.proofs.lemmas.Bool.{eqb-true, eq-eqb, or_cases, or_parts, false_from_ne_true}
use Rattle.std.proofs.lemmas.Map.Steps.{length-le_from_distinct_below}
use Rattle.indexmap.specs.IndexSet.{insert_key}
use Rattle.check_sound.specs.Exports.{Stands}
use Rattle.check_sound.proofs.Tests.{no, none-some, same-some}

-- each number stands in a list once
abbrev pub Once : List ℕ → Type 0
Once fs = (i j f : ℕ) → slice_get fs i ≡ Some f → slice_get fs j ≡ Some f → i ≡ j

-- ---- lists side by side

pub get-front : {A : Type 0} (xs ys : List A) (i : ℕ) (x : A) → slice_get xs i ≡ Some x → slice_get (xs ++ ys) i ≡ Some x
get-front [] ys i x h = absurd (none-some x h)
get-front (y ∷ xs) ys zero x h = h
get-front (y ∷ xs) ys (suc i) x h = get-front xs ys i x h

pub get-behind : {A : Type 0} (xs ys : List A) (j : ℕ) (x : A) → slice_get ys j ≡ Some x →
    (k : ℕ) × (slice_get (xs ++ ys) k ≡ Some x)
get-behind [] ys j x h = (j, h)
get-behind (y ∷ xs) ys j x h = let s = get-behind xs ys j x h in (suc s.0, s.1)

-- what stands in two lists side by side stands in the first, or behind it in the second
pub record Behind {A : Type 0} (xs ys : List A) (i : ℕ) (x : A) : Type 0 where
  pub past : length xs ≤ i
  pub place : ℕ
  pub at : slice_get ys place ≡ Some x

pub front-or-behind : {A : Type 0} (xs ys : List A) (i : ℕ) (x : A) → slice_get (xs ++ ys) i ≡ Some x →
    (slice_get xs i ≡ Some x) ⊎ Behind xs ys i x
front-or-behind [] ys i x h = inr (record { past = omega arith; place = i; at = h })
front-or-behind (y ∷ xs) ys zero x h = inl h
front-or-behind (y ∷ xs) ys (suc i) x h = by (front-or-behind xs ys i x h)
  where
    by : (slice_get xs i ≡ Some x) ⊎ Behind xs ys i x → (slice_get xs i ≡ Some x) ⊎ Behind (y ∷ xs) ys (suc i) x
    by (inl e) = inl e
    by (inr b) = inr (record { past = omega (arith, b.past); place = b.place; at = b.at })

-- what stands in a list with one more stands in the list, or is that one
pub in-front-or-last : {A : Type 0} (xs : List A) (y : A) (i : ℕ) (x : A) → slice_get (xs ++ y ∷ []) i ≡ Some x →
    (slice_get xs i ≡ Some x) ⊎ ((i ≡ length xs) × (y ≡ x))
in-front-or-last [] y zero x h = inr (refl, same-some y x h)
in-front-or-last [] y (suc i) x h = absurd (none-some x h)
in-front-or-last (z ∷ xs) y zero x h = inl h
in-front-or-last (z ∷ xs) y (suc i) x h = by (in-front-or-last xs y i x h)
  where
    by : (slice_get xs i ≡ Some x) ⊎ ((i ≡ length xs) × (y ≡ x)) →
        (slice_get xs i ≡ Some x) ⊎ ((suc i ≡ length (z ∷ xs)) × (y ≡ x))
    by (inl e) = inl e
    by (inr b) = inr (ap suc b.0, b.1)

-- ---- each number once

pub once-last : (fs : List ℕ) (f : ℕ) → Once fs → ((k : ℕ) → slice_get fs k ≡ Some f → ⊥) → Once (fs ++ f ∷ [])
once-last fs f once new i j g a b = by (in-front-or-last fs f i g a) (in-front-or-last fs f j g b)
  where
    absent : (k : ℕ) → f ≡ g → slice_get fs k ≡ Some g → ⊥
    absent k e h = new k (h ∙ ap (λ z. Some z) (sym e))

    by : (slice_get fs i ≡ Some g) ⊎ ((i ≡ length fs) × (f ≡ g)) → (slice_get fs j ≡ Some g) ⊎ ((j ≡ length fs) × (f ≡ g)) →
        i ≡ j
    by (inl x) (inl y) = once i j g x y
    by (inl x) (inr y) = absurd (absent i y.1 x)
    by (inr x) (inl y) = absurd (absent j x.1 y)
    by (inr x) (inr y) = x.0 ∙ sym y.0

pub in-list : (f : ℕ) (fs : List ℕ) → list_any (nat_eq f) fs ≡ true → Stands fs f
in-list f [] h = absurd (no h)
in-list f (x ∷ fs) h = by (λ e. in-list f fs e) (or_cases (nat_eq f x) (list_any (nat_eq f) fs) h)
  where
    by : (list_any (nat_eq f) fs ≡ true → Stands fs f) → (nat_eq f x ≡ true) ⊎ (list_any (nat_eq f) fs ≡ true) →
        Stands (x ∷ fs) f
    by behind (inl e) = (zero, ap (λ z. Some z) (sym (eqb-true f x e)))
    by behind (inr e) = let s = behind e in (suc s.0, s.1)

pub not-in-list : (f : ℕ) (fs : List ℕ) → list_any (nat_eq f) fs ≡ false → (k : ℕ) → slice_get fs k ≡ Some f → ⊥
not-in-list f [] h k at = none-some f at
not-in-list f (x ∷ fs) h zero at =
    no (sym (or_parts (nat_eq f x) (list_any (nat_eq f) fs) h).0 ∙ eq-eqb f x (sym (same-some x f at)))
not-in-list f (x ∷ fs) h (suc k) at = not-in-list f fs (or_parts (nat_eq f x) (list_any (nat_eq f) fs) h).1 k at

-- ---- how many numbers there can be

all-apart : (x : ℕ) (fs : List ℕ) → ((k y : ℕ) → slice_get fs k ≡ Some y → eqb x y ≡ false) →
    AllByRecursion (λ y. eqb x y ≡ false) fs
all-apart x [] h = tt
all-apart x (y ∷ fs) h = (h zero y refl, all-apart x fs (λ k z at. h (suc k) z at))

distinct : (fs : List ℕ) → Once fs → IsDistinct eqb fs
unfolding IsDistinct
distinct [] once = tt
distinct (x ∷ fs) once = (
  all-apart x fs (λ k y at. false_from_ne_true (eqb x y) (λ e.
      let at_x : slice_get fs k ≡ Some x = at ∙ ap (λ z. Some z) (sym (eqb-true x y e)) in
      let same : zero ≡ suc k = once zero (suc k) x refl at_x in
      absurd (omega (arith, same)))),
  distinct fs (λ i j f a b. let e : suc i ≡ suc j = once (suc i) (suc j) f a b in omega (arith, e)),
)

-- numbers below n, each once, are at most n
pub no-more-than : (fs : List ℕ) (n : ℕ) → Once fs → ((k f : ℕ) → slice_get fs k ≡ Some f → f < n) → length fs ≤ n
no-more-than fs n once below =
    length-le_from_distinct_below fs n (distinct fs once) (λ q h. let s = in-list q fs h in below s.0 q s.1)

-- ---- lists that grow

-- A list with more behind it, which has a property; each number stands there once, if it did before.
pub record Longer (P : ℕ → Type 0) (fs next : List ℕ) : Type 0 where
  pub more : List ℕ
  pub is : next ≡ fs ++ more
  pub new : (j x : ℕ) → slice_get more j ≡ Some x → P x
  pub once : Once fs → Once next

pub longer-itself : (P : ℕ → Type 0) (fs : List ℕ) → Longer P fs fs
longer-itself P fs = record {
  more = [];
  is = sym (append-nil fs);
  new = λ j x h. absurd (none-some x h);
  once = λ o. o;
}

pub longer-twice : (P : ℕ → Type 0) (fs gs hs : List ℕ) → Longer P fs gs → Longer P gs hs → Longer P fs hs
longer-twice P fs gs hs a b = record {
  more = a.more ++ b.more;
  is = b.is ∙ (ap (λ l. l ++ b.more) a.is ∙ append_assoc fs a.more b.more);
  new = λ j x h. by j x (front-or-behind a.more b.more j x h);
  once = λ o. b.once (a.once o);
}
  where
    by : (j x : ℕ) → (slice_get a.more j ≡ Some x) ⊎ Behind a.more b.more j x → P x
    by j x (inl e) = a.new j x e
    by j x (inr e) = b.new e.place x e.at

pub get-longer : (P : ℕ → Type 0) (fs next : List ℕ) → Longer P fs next → (k f : ℕ) → slice_get fs k ≡ Some f →
    slice_get next k ≡ Some f
get-longer P fs next l k f h = ap (λ z. slice_get z k) l.is ∙ get-front fs l.more k f h

pub stands-longer : (P : ℕ → Type 0) (fs next : List ℕ) → Longer P fs next → (f : ℕ) → Stands fs f → Stands next f
stands-longer P fs next l f s = (s.0, get-longer P fs next l s.0 f s.1)

-- what stands in the longer list stood in the list before, or is new
pub old-or-new : (P : ℕ → Type 0) (fs next : List ℕ) → Longer P fs next → (k f : ℕ) → slice_get next k ≡ Some f →
    (slice_get fs k ≡ Some f) ⊎ ((length fs ≤ k) × P f)
old-or-new P fs next l k f h =
    by (front-or-behind fs l.more k f (ap (λ z. slice_get z k) (sym l.is) ∙ h))
  where
    by : (slice_get fs k ≡ Some f) ⊎ Behind fs l.more k f → (slice_get fs k ≡ Some f) ⊎ ((length fs ≤ k) × P f)
    by (inl e) = inl e
    by (inr e) = inr (e.past, l.new e.place f e.at)

-- a number is put behind a list, unless it stands there
pub record Put (P : ℕ → Type 0) (fs : List ℕ) (f : ℕ) (next : List ℕ) : Type 0 where
  pub longer : Longer P fs next
  pub stands : Stands next f

pub put : (P : ℕ → Type 0) (fs : List ℕ) (f : ℕ) → P f → Put P fs f (insert_key nat_eq fs f)
put P fs f p = choose (list_any (nat_eq f) fs) refl
  where
    one : (j x : ℕ) → slice_get (f ∷ []) j ≡ Some x → P x
    one zero x h = subst P (same-some f x h) p
    one (suc j) x h = absurd (none-some x h)

    choose : (c : Bool) → list_any (nat_eq f) fs ≡ c → Put P fs f (if c then fs else fs ++ f ∷ [])
    choose true e = record { longer = longer-itself P fs; stands = in-list f fs e }
    choose false e = record {
      longer = record {
        more = f ∷ [];
        is = refl;
        new = one;
        once = λ o. once-last fs f o (not-in-list f fs e);
      };
      stands = get-behind fs (f ∷ []) zero f refl;
    }
