-- Homes are taken one after the other, and numbers tell homes apart.
use Rattle.std.proofs.Common.{◌≡◌, ◌≢◌, ℕ, ◌+◌, ◌-◌, ◌<◌, ◌≤◌, Bool, true, false, ◌&&◌, cond, ltb, leb, List}
use Rattle.std.proofs.Common.{length, get_or, set, replicate, Option, Some, None, refl, sym, ap, ◌∙◌, subst, ⊎_elim, arith}
use Rattle.std.specs.Prelude.{slice_get}
use Rattle.std.proofs.lemmas.List.{length-set, get_or-set_same, get_or-set_other, get_or_past, get_or-replicate, length-replicate}
use Rattle.std.proofs.lemmas.Option.{slice_get-get_or}
use Rattle.std.proofs.lemmas.Bool.{cases_eq, cases_lt, and_parts, leb-true, ltb-true, true≢false, false≢true}
use Rattle.reg_alloc.specs.declared.assignment.Home.{Home}
use Rattle.reg_alloc.specs.declared.assignment.Home.TheVariants.{Register, Slot}
use Rattle.reg_alloc.specs.Right.{is_some_home, has_home}
use Rattle.tac_live.specs.Sets.{at}
use Rattle.reg_alloc.specs.Homes.{home_number, TakesNumber, TakesIf, IsRightSet, IsTaken}

some-if : (b : Bool) (m n : ℕ) → cond b (Some m) None ≡ Some n → (b ≡ true) × (m ≡ n)
some-if true m n e = (refl, cc)
some-if false m n e = cc

none-if : (b : Bool) (m : ℕ) → cond b (Some m) None ≡ None → b ≡ false
none-if true m e = cc
none-if false m e = refl

pub number-home : (slots n : ℕ) (h : Option Home) → home_number slots h ≡ Some n → is_some_home slots (Some h) ≡ true
number-home slots n None e = cc
number-home slots n (Some (Register x)) e = (some-if (leb 18 x && leb x 27) (slots + (x - 18)) n e).0
number-home slots n (Some (Slot s)) e = (some-if (ltb s slots) s n e).0

pub number-below : (slots n : ℕ) (h : Option Home) → home_number slots h ≡ Some n → n < slots + 10
number-below slots n None e = cc
number-below slots n (Some (Register x)) e =
    let p = some-if (leb 18 x && leb x 27) (slots + (x - 18)) n e in
    let q = and_parts (leb 18 x) (leb x 27) p.0 in
    omega (arith, p.1, leb-true 18 x q.0, leb-true x 27 q.1)
number-below slots n (Some (Slot s)) e =
    let p = some-if (ltb s slots) s n e in omega (arith, p.1, ltb-true s slots p.0)

pub no-number : (slots : ℕ) (h : Option Home) → home_number slots h ≡ None → is_some_home slots (Some h) ≡ false
no-number slots None e = refl
no-number slots (Some (Register x)) e = none-if (leb 18 x && leb x 27) (slots + (x - 18)) e
no-number slots (Some (Slot s)) e = none-if (ltb s slots) s e

pub numbers-apart : (slots n : ℕ) (h g : Option Home) → home_number slots h ≡ Some n → home_number slots g ≡ Some n → h ≡ g
numbers-apart slots n None g e f = cc
numbers-apart slots n (Some (Register x)) None e f = cc
numbers-apart slots n (Some (Slot s)) None e f = cc
numbers-apart slots n (Some (Register x)) (Some (Register y)) e f =
    let p = some-if (leb 18 x && leb x 27) (slots + (x - 18)) n e in
    let q = some-if (leb 18 y && leb y 27) (slots + (y - 18)) n f in
    let a = leb-true 18 x (and_parts (leb 18 x) (leb x 27) p.0).0 in
    let b = leb-true 18 y (and_parts (leb 18 y) (leb y 27) q.0).0 in
    ap (λ r. Some (Register r)) (omega (arith, p.1, q.1, a, b))
numbers-apart slots n (Some (Register x)) (Some (Slot t)) e f =
    let p = some-if (leb 18 x && leb x 27) (slots + (x - 18)) n e in
    let q = some-if (ltb t slots) t n f in
    absurd (omega (arith, p.1, q.1, ltb-true t slots q.0))
numbers-apart slots n (Some (Slot s)) (Some (Register y)) e f =
    let p = some-if (ltb s slots) s n e in
    let q = some-if (leb 18 y && leb y 27) (slots + (y - 18)) n f in
    absurd (omega (arith, p.1, q.1, ltb-true s slots p.0))
numbers-apart slots n (Some (Slot s)) (Some (Slot t)) e f =
    let p = some-if (ltb s slots) s n e in
    let q = some-if (ltb t slots) t n f in
    ap (λ r. Some (Slot r)) (p.1 ∙ sym q.1)

pub taken-none : (homes : List (Option Home)) (xs : List Bool) (taken : List Bool) → taken ≡ replicate (length homes + 10) false → IsTaken homes xs 0 taken
taken-none homes xs taken e = record {
  long = ap length e ∙ length-replicate (length homes + 10) false;
  right = record {
    homes_are = λ t l u. absurd (omega arith);
    apart = λ t u l k a b. absurd (omega arith);
  };
  theirs = λ t n l. absurd (omega arith);
  no_others = λ n h. absurd (false≢true (sym (ap (λ v. at v n) e ∙ nothing n) ∙ h));
}
  where
    nothing : (n : ℕ) → at (replicate (length homes + 10) false) n ≡ false
    nothing n =
        ⊎_elim
        (λ l. get_or-replicate (length homes + 10) n false false l)
        (λ g. get_or_past (replicate (length homes + 10) false) n false (omega (arith, length-replicate (length homes + 10) false)))
        (cases_lt n (length homes + 10))

-- one that isn't in the set
taken-skips : (homes : List (Option Home)) (xs taken : List Bool) (t : ℕ) → at xs t ≡ false → IsTaken homes xs t taken → IsTaken homes xs (t + 1) taken
taken-skips homes xs taken t e h = record {
  long = h.long;
  right = record {
    homes_are = λ u l a. h.right.homes_are u (less u l a) a;
    apart = λ u v l k a b. h.right.apart u v (less u l a) (less v k b) a b;
  };
  theirs = λ u n l a. h.theirs u n (less u l a) a;
  no_others = λ n a. let r = h.no_others n a in (r.0, omega (arith, r.1), r.2, r.3);
}
  where
    less : (u : ℕ) → u < t + 1 → at xs u ≡ true → u < t
    less u l a = ⊎_elim (λ s. absurd (false≢true (sym e ∙ (sym (ap (λ v. at xs v) s) ∙ a)))) (λ o. omega (arith, o)) (cases_eq u t)

-- one whose home was free
taken-takes : (homes : List (Option Home)) (xs taken new : List Bool) (t n : ℕ) → t < length homes → at xs t ≡ true →
    home_number (length homes) (get_or homes t None) ≡ Some n → at taken n ≡ false → new ≡ set taken n true →
    IsTaken homes xs t taken → IsTaken homes xs (t + 1) new
taken-takes homes xs taken new t n short a num free e h = record {
  long = ap length e ∙ length-set taken n true ∙ h.long;
  right = record {
    homes_are = λ u l b.
        ⊎_elim
        (λ s. subst (λ n. has_home homes n ≡ true) (sym s) here-is)
        (λ o. h.right.homes_are u (omega (arith, o)) b)
        (cases_eq u t);
    apart = λ u v l k b c d.
        ⊎_elim
        (λ s.
        ⊎_elim
        (λ r. absurd (d (s ∙ sym r)))
        (λ o. λ q. clash v (omega (arith, o)) c (sym (sym (ap (λ w. slice_get homes w) s) ∙ q)))
        (cases_eq v t))
        (λ o.
        ⊎_elim
        (λ r. λ q. clash u (omega (arith, o)) b (q ∙ ap (λ w. slice_get homes w) r))
        (λ p. h.right.apart u v (omega (arith, o)) (omega (arith, p)) b c d)
        (cases_eq v t))
        (cases_eq u t);
  };
  theirs = λ u m l b q.
      ⊎_elim
      (λ s.
      let same : Some m ≡ Some n = sym q ∙ (ap (λ w. home_number (length homes) (get_or homes w None)) s ∙ num) in
      let same' : m ≡ n = cc in
      subst (λ k. at new k ≡ true) (sym same') (ap (λ v. at v n) e ∙ get_or-set_same taken n true false inside))
      (λ o. grown m (h.theirs u m (omega (arith, o)) b q))
      (cases_eq u t);
  no_others = λ m b.
      ⊎_elim
      (λ s. (t, omega arith, a, num ∙ ap Some (sym s)))
      (λ o.
      let old : at taken m ≡ true = sym (ap (λ v. at v m) e ∙ get_or-set_other taken n m true false o) ∙ b in
      let r = h.no_others m old in
      (r.0, omega (arith, r.1), r.2, r.3))
      (cases_eq m n);
}
  where
    inside : n < length taken
    inside = let b = number-below (length homes) n (get_or homes t None) num in let l = h.long in omega arith

    here-is : has_home homes t ≡ true
    here-is = ap (is_some_home (length homes)) (slice_get-get_or homes t None short) ∙ number-home (length homes) n (get_or homes t None) num

    grown : (m : ℕ) → at taken m ≡ true → at new m ≡ true
    grown m b =
        ⊎_elim
        (λ s. subst (λ k. at new k ≡ true) (sym s) (ap (λ v. at v n) e ∙ get_or-set_same taken n true false inside))
        (λ o. ap (λ v. at v m) e ∙ get_or-set_other taken n m true false o ∙ b)
        (cases_eq m n)

    clash : (v : ℕ) → v < t → at xs v ≡ true → slice_get homes v ≡ slice_get homes t → ⊥
    clash v l b q =
        let p : Some (get_or homes v None) ≡ Some (get_or homes t None) =
        sym (slice_get-get_or homes v None (omega arith)) ∙ (q ∙ slice_get-get_or homes t None short) in
        let p' : get_or homes v None ≡ get_or homes t None = cc in
        let w = h.theirs v n l b (ap (home_number (length homes)) p' ∙ num) in
        false≢true (sym free ∙ w)

pub taken-turn : (homes : List (Option Home)) (xs taken new : List Bool) (t : ℕ) → t < length homes →
    TakesIf (at xs t) (length homes) (get_or homes t None) taken new true → IsTaken homes xs t taken → IsTaken homes xs (t + 1) new
taken-turn homes xs taken new t short = go (at xs t) refl (home_number (length homes) (get_or homes t None)) refl
  where
    go : (b : Bool) → at xs t ≡ b → (m : Option ℕ) → home_number (length homes) (get_or homes t None) ≡ m →
        TakesIf b (length homes) (get_or homes t None) taken new true → IsTaken homes xs t taken → IsTaken homes xs (t + 1) new
    go false e m num k h = subst (λ v. IsTaken homes xs (t + 1) v) (sym k.1) (taken-skips homes xs taken t e h)
    go true e None num k h =
        let k' : TakesNumber None taken new true = subst (λ o. TakesNumber o taken new true) num k in absurd (true≢false k')
    go true e (Some n) num k h =
        let k' : TakesNumber (Some n) taken new true = subst (λ o. TakesNumber o taken new true) num k in
        let f = k'.0 refl in
        taken-takes homes xs taken new t n short e num f.0 f.1 h

-- one that has no home, or whose home was taken
pub taken-fails : (homes : List (Option Home)) (xs taken new : List Bool) (t : ℕ) → t < length homes →
    TakesIf (at xs t) (length homes) (get_or homes t None) taken new false → IsTaken homes xs t taken → IsRightSet homes xs → ⊥
taken-fails homes xs taken new t short = go (at xs t) refl (home_number (length homes) (get_or homes t None)) refl
  where
    here : slice_get homes t ≡ Some (get_or homes t None)
    here = slice_get-get_or homes t None short

    go : (b : Bool) → at xs t ≡ b → (m : Option ℕ) → home_number (length homes) (get_or homes t None) ≡ m →
        TakesIf b (length homes) (get_or homes t None) taken new false → IsTaken homes xs t taken → IsRightSet homes xs → ⊥
    go false e m num k h r = false≢true k.0
    go true e None num k h r =
        false≢true (sym (ap (is_some_home (length homes)) here ∙ no-number (length homes) (get_or homes t None) num) ∙ r.homes_are t short e)
    go true e (Some n) num k h r =
        let k' : TakesNumber (Some n) taken new false = subst (λ o. TakesNumber o taken new false) num k in
        let o = h.no_others n (k'.1 refl) in
        let l : o.0 < length homes = let p = o.1 in omega arith in
        let ne : o.0 ≢ t = λ s. let p = o.1 in omega arith in
        r.apart o.0 t l short o.2 e ne
        (slice_get-get_or homes o.0 None l ∙ (ap Some (numbers-apart (length homes) n (get_or homes o.0 None) (get_or homes t None) o.3 num) ∙ sym here))

pub taken-all : (homes : List (Option Home)) (xs taken : List Bool) (t : ℕ) → length homes ≤ t → IsTaken homes xs t taken → IsRightSet homes xs
taken-all homes xs taken t g h = record {
  homes_are = λ u l a. h.right.homes_are u (omega arith) a;
  apart = λ u v l k a b. h.right.apart u v (omega arith) (omega arith) a b;
}
