-- The words of parameters as homes.
use Rattle.std.proofs.Common.{◌≡◌, ◌≢◌, ℕ, zero, suc, ◌+◌, ◌<◌, ◌≤◌, Bool, true, false, ◌||◌, List, [], ◌∷◌, length, set, Option, Some}
use Rattle.std.proofs.Common.{None, refl, sym, ap, ◌∙◌, subst, ⊎_elim, inl, inr, arith}
use Rattle.std.specs.Prelude.{nat_eq, slice_get, ◌⊎◌}
use Rattle.std.specs.List.{list_any}
use Rattle.std.proofs.lemmas.Bool.{cases_eq, eq-eqb}
use Rattle.std.proofs.lemmas.List.{length-set}
use Rattle.reg_alloc.specs.declared.assignment.Home.{Home}
use Rattle.reg_alloc.specs.declared.assignment.Home.TheVariants.{Register, Slot}
use Rattle.tac_form.specs.declared.tac.Destination.{Destination}
use Rattle.tac_form.specs.declared.tac.Destination.TheVariants.{Temp, Area, Nothing}
use Rattle.tac_form.specs.Fits.{goes_to}
use Rattle.rv_select.specs.Asked.{home_in, if_small, slot_instead, with_word, with_words}

-- one item of a list is set
abbrev replaced : {A : Type 0} → Option A → A → Option A
replaced None x = None
replaced (Some y) x = Some x

set-get : {A : Type 0} (xs : List A) (k : ℕ) (x : A) → slice_get (set xs k x) k ≡ replaced (slice_get xs k) x
set-get [] k x = refl
set-get (y ∷ xs) zero x = refl
set-get (y ∷ xs) (suc k) x = set-get xs k x

pub set-other : {A : Type 0} (xs : List A) (k j : ℕ) (x : A) → j ≢ k → slice_get (set xs k x) j ≡ slice_get xs j
set-other [] k j x n = refl
set-other (y ∷ xs) zero zero x n = absurd (n refl)
set-other (y ∷ xs) zero (suc j) x n = refl
set-other (y ∷ xs) (suc k) zero x n = refl
set-other (y ∷ xs) (suc k) (suc j) x n = set-other xs k j x (λ e. n (ap (λ z. suc z) e))

-- there are as many homes as before
words-length : (first : ℕ) (ds : List Destination) (given : List (Option Home)) → length (with_words first ds given) ≡ length given
words-length first [] given = refl
words-length first (Temp t ∷ ds) given =
    let x : Option Home = slot_instead (first + length ds) (home_in (slice_get given t)) in
    words-length first ds (set given t x) ∙ length-set given t x
words-length first (Area n ∷ ds) given = words-length first ds given
words-length first (Nothing ∷ ds) given = words-length first ds given

-- A temporary that takes one of these parameters has its word in place of a slot.
record OneWord (k : ℕ) (given next : List (Option Home)) (u t : ℕ) : Type 0 where
  same : t ≡ u
  slot : ℕ
  had : slice_get given t ≡ Some (Some (Slot slot))
  has : slice_get next t ≡ Some (Some (Slot k))

one-either : (given : List (Option Home)) (u k t : ℕ) →
    (slice_get (with_word (Temp u) k given) t ≡ slice_get given t) ⊎ OneWord k given (with_word (Temp u) k given) u t
one-either given u k t =
    ⊎_elim
    (λ e. subst (λ z. (slice_get next z ≡ slice_get given z) ⊎ OneWord k given next u z) (sym e) (here (slice_get given u) refl))
    (λ n. inl (set-other given u t (slot_instead k (home_in (slice_get given u))) n))
    (cases_eq t u)
  where
    next : List (Option Home)
    next = with_word (Temp u) k given

    by : (o : Option (Option Home)) → slice_get given u ≡ o → slice_get next u ≡ replaced o (slot_instead k (home_in o))
    by o q = set-get given u (slot_instead k (home_in (slice_get given u))) ∙ ap (λ z. replaced z (slot_instead k (home_in z))) q

    here : (o : Option (Option Home)) → slice_get given u ≡ o → (slice_get next u ≡ slice_get given u) ⊎ OneWord k given next u u
    here None q = inl (by None q ∙ sym q)
    here (Some None) q = inl (by (Some None) q ∙ sym q)
    here (Some (Some (Register x))) q = inl (by (Some (Some (Register x))) q ∙ sym q)
    here (Some (Some (Slot s))) q = inr (record { same = refl; slot = s; had = q; has = by (Some (Some (Slot s))) q })

-- a parameter that so many follow goes to a temporary
abbrev pub TakesAt : List Destination → (behind t : ℕ) → Type 0
TakesAt [] j t = ⊥
TakesAt (d ∷ ds) j t = ((j ≡ length ds) × (d ≡ Temp t)) ⊎ TakesAt ds j t

pub takes-below : (ds : List Destination) (j t : ℕ) → TakesAt ds j t → j < length ds
takes-below [] j t h = absurd h
takes-below (d ∷ ds) j t h = ⊎_elim (λ e. omega (arith, e.0)) (λ o. omega (arith, takes-below ds j t o)) h

temp-same : (d : Destination) (t u : ℕ) → d ≡ Temp t → d ≡ Temp u → t ≡ u
temp-same d t u e f = cc

pub takes-one : (ds : List Destination) (j t u : ℕ) → TakesAt ds j t → TakesAt ds j u → t ≡ u
takes-one [] j t u h g = absurd h
takes-one (d ∷ ds) j t u h g =
    ⊎_elim
    (λ a. ⊎_elim (λ b. temp-same d t u a.1 b.1) (λ b. absurd (apart a.0 (takes-below ds j u b))) g)
    (λ a. ⊎_elim (λ b. absurd (apart b.0 (takes-below ds j t a))) (λ b. takes-one ds j t u a b) g)
    h
  where
    apart : j ≡ length ds → j < length ds → ⊥
    apart e l = omega (arith, e, l)

pub record AtWord (first : ℕ) (ds : List Destination) (given last : List (Option Home)) (t : ℕ) : Type 0 where
  pub slot : ℕ
  pub behind : ℕ
  pub had : slice_get given t ≡ Some (Some (Slot slot))
  pub has : slice_get last t ≡ Some (Some (Slot (first + behind)))
  pub takes : TakesAt ds behind t

words-either : (first : ℕ) (ds : List Destination) (given : List (Option Home)) (t : ℕ) →
    (slice_get (with_words first ds given) t ≡ slice_get given t) ⊎ AtWord first ds given (with_words first ds given) t
words-either first [] given t = inl refl
words-either first (Area n ∷ ds) given t =
    ⊎_elim (λ e. inl e)
    (λ w. inr (record { slot = w.slot; behind = w.behind; had = w.had; has = w.has; takes = inr w.takes }))
    (words-either first ds given t)
words-either first (Nothing ∷ ds) given t =
    ⊎_elim (λ e. inl e)
    (λ w. inr (record { slot = w.slot; behind = w.behind; had = w.had; has = w.has; takes = inr w.takes }))
    (words-either first ds given t)
words-either first (Temp u ∷ ds) given t =
    let next : List (Option Home) = with_word (Temp u) (first + length ds) given in
    ⊎_elim
    (λ e.
    ⊎_elim (λ same. inl (e ∙ same))
    (λ w. inr (record { slot = w.slot; behind = length ds; had = w.had; has = e ∙ w.has; takes = inl (refl, ap (λ z. Temp z) (sym w.same)) }))
    (one-either given u (first + length ds) t))
    (λ w.
    ⊎_elim
    (λ same. inr (record { slot = w.slot; behind = w.behind; had = sym same ∙ w.had; has = w.has; takes = inr w.takes }))
    (λ one. inr (record { slot = one.slot; behind = w.behind; had = one.had; has = w.has; takes = inr w.takes }))
    (one-either given u (first + length ds) t))
    (words-either first ds next t)

-- A parameter's temporary that takes none of those behind has this parameter's word, where its home is a slot.
pub neither : (a b : Bool) → (a || b) ≡ false → (a ≡ false) × (b ≡ false)
neither true b e = cc
neither false b e = (refl, e)

words-untaken : (first : ℕ) (ds : List Destination) (given : List (Option Home)) (t : ℕ) → list_any (goes_to t) ds ≡ false →
    slice_get (with_words first ds given) t ≡ slice_get given t
words-untaken first [] given t h = refl
words-untaken first (Area n ∷ ds) given t h = words-untaken first ds given t h
words-untaken first (Nothing ∷ ds) given t h = words-untaken first ds given t h
words-untaken first (Temp u ∷ ds) given t h =
    let two = neither (nat_eq u t) (list_any (goes_to t) ds) h in
    let x : Option Home = slot_instead (first + length ds) (home_in (slice_get given u)) in
    words-untaken first ds (set given u x) t two.1
    ∙ set-other given u t x (λ e. let yes : nat_eq u t ≡ true = eq-eqb u t (sym e) in let not : nat_eq u t ≡ false = two.0 in cc)

own-word : (o : Option (Option Home)) (k s : ℕ) → replaced o (slot_instead k (home_in o)) ≡ Some (Some (Slot s)) → s ≡ k
own-word None k s e = cc
own-word (Some None) k s e = cc
own-word (Some (Some (Register x))) k s e = cc
own-word (Some (Some (Slot z))) k s e = cc

abbrev pub IsOwn : (homes : List (Option Home)) → (first : ℕ) → Destination → (behind : List Destination) → Type 0
IsOwn homes first (Temp t) ds =
    (s : ℕ) → slice_get homes t ≡ Some (Some (Slot s)) → first ≤ s → list_any (goes_to t) ds ≡ false → s ≡ first + length ds
IsOwn homes first (Area n) ds = Unit {0}
IsOwn homes first Nothing ds = Unit {0}

abbrev pub AreOwn : (homes : List (Option Home)) → (first : ℕ) → List Destination → Type 0
AreOwn homes first [] = Unit {0}
AreOwn homes first (d ∷ ds) = IsOwn homes first d ds × AreOwn homes first ds

words-own : (first : ℕ) (ds : List Destination) (given : List (Option Home)) → AreOwn (with_words first ds given) first ds
words-own first [] given = tt
words-own first (Area n ∷ ds) given = (tt, words-own first ds given)
words-own first (Nothing ∷ ds) given = (tt, words-own first ds given)
words-own first (Temp t ∷ ds) given =
    let k : ℕ = first + length ds in
    let x : Option Home = slot_instead k (home_in (slice_get given t)) in (
      λ s e l none. own-word (slice_get given t) k s (sym (set-get given t x) ∙ (sym (words-untaken first ds (set given t x) t none) ∙ e)),
      words-own first ds (set given t x),
    )

-- or the homes of parameters are none of these words
abbrev pub AreBelow : (homes : List (Option Home)) → (first : ℕ) → List Destination → Type 0
AreBelow homes first ds = (t s : ℕ) → list_any (goes_to t) ds ≡ true → slice_get homes t ≡ Some (Some (Slot s)) → s < first

either-first : (a b : Bool) → a ≡ true → (a || b) ≡ true
either-first true b e = refl
either-first false b e = cc

either-second : (a b : Bool) → b ≡ true → (a || b) ≡ true
either-second true b e = refl
either-second false b e = e

below-own : (first : ℕ) (ds : List Destination) (given : List (Option Home)) → AreBelow given first ds → AreOwn given first ds
below-own first [] given h = tt
below-own first (Area n ∷ ds) given h = (tt, below-own first ds given h)
below-own first (Nothing ∷ ds) given h = (tt, below-own first ds given h)
below-own first (Temp t ∷ ds) given h = (
  λ s e l none. absurd (apart s l (h t s (either-first (nat_eq t t) (list_any (goes_to t) ds) (eq-eqb t t refl)) e)),
  below-own first ds given (λ u s g e. h u s (either-second (nat_eq t u) (list_any (goes_to u) ds) g) e),
)
  where
    apart : (s : ℕ) → first ≤ s → s < first → ⊥
    apart s l g = omega (arith, l, g)

-- whether the words are homes or not
pub small-length : (b : Bool) (first : ℕ) (ds : List Destination) (given : List (Option Home)) → length (if_small b first ds given) ≡ length given
small-length true first ds given = words-length first ds given
small-length false first ds given = refl

pub small-either : (b : Bool) (first : ℕ) (ds : List Destination) (given : List (Option Home)) (t : ℕ) →
    (slice_get (if_small b first ds given) t ≡ slice_get given t) ⊎ AtWord first ds given (if_small b first ds given) t
small-either true first ds given t = words-either first ds given t
small-either false first ds given t = inl refl

pub small-own : (b : Bool) (first : ℕ) (ds : List Destination) (given : List (Option Home)) → AreBelow given first ds →
    AreOwn (if_small b first ds given) first ds
small-own true first ds given h = words-own first ds given
small-own false first ds given h = below-own first ds given h
