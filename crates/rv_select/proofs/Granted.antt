-- The homes of the temporaries that a function's code asks for.
use Rattle.std.proofs.Common.{◌≡◌, ℕ, zero, suc, ◌<◌, ◌≤◌, Bool, true, false, ◌||◌, List, [], ◌∷◌, ◌++◌, length, set, replicate}
use Rattle.std.proofs.Common.{Option, Some, None, refl, sym, ap, ◌∙◌, subst, ⊎_elim, inl, inr, arith}
use Rattle.std.specs.Prelude.{nat_eq, slice_get, ◌⊎◌}
use Rattle.std.specs.List.{flat_map}
use Rattle.std.proofs.lemmas.Bool.{cases_Bool, cases_eq, cases_lt, eqb-true}
use Rattle.std.proofs.lemmas.List.{length-replicate, length-set}
use Rattle.std.proofs.lemmas.Option.{slice_get_past, slice_get_within}
use Rattle.reg_alloc.specs.declared.assignment.Home.{Home}
use Rattle.reg_alloc.specs.Right.{has_home, is_some_home}
use Rattle.tac_form.specs.declared.tac.Block.{Block}
use Rattle.tac_form.specs.declared.tac.Tac.{Tac}
use Rattle.tac_form.specs.Live.{has}
use Rattle.rv_select.specs.declared.pairs.Reads.{Reads}
use Rattle.rv_select.specs.Asked.{asked_homes, asked_of, block_asks, first_word, home_in, if_small, is_small, with_given}
use Rattle.rv_select.specs.Pairs.{reads_of}
use Rattle.rv_select.specs.Places.{HasHome, is_given, layout_of}
use Rattle.rv_select.proofs.Worded.{AreBelow, AreOwn, AtWord, set-other, small-either, small-length, small-own}

-- parts of lists
pub has-left : (xs ys : List ℕ) (t : ℕ) → has xs t ≡ true → has (xs ++ ys) t ≡ true
has-left [] ys t h = cc
has-left (x ∷ xs) ys t h = ⊎_elim (λ e. ap (λ b. b || has (xs ++ ys) t) e) (λ e. ap (λ b. b || has (xs ++ ys) t) e ∙ has-left xs ys t (sym (ap (λ b. b || has xs t) e) ∙ h)) (cases_Bool (nat_eq x t))

or-second : (a b : Bool) → b ≡ true → (a || b) ≡ true
or-second true b q = refl
or-second false b q = q

pub has-right : (xs ys : List ℕ) (t : ℕ) → has ys t ≡ true → has (xs ++ ys) t ≡ true
has-right [] ys t h = h
has-right (x ∷ xs) ys t h = or-second (nat_eq x t) (has (xs ++ ys) t) (has-right xs ys t h)

-- one item of a list is set
set-same : {A : Type 0} (xs : List A) (k : ℕ) (x : A) → k < length xs → slice_get (set xs k x) k ≡ Some x
set-same [] k x h = absurd (none h)
  where
    none : k < 0 → ⊥
    none g = omega (arith, g)
set-same (y ∷ xs) zero x h = refl
set-same (y ∷ xs) (suc k) x h = set-same xs k x (less (length xs) h)
  where
    less : (n : ℕ) → suc k < suc n → k < n
    less n g = omega (arith, g)

-- what is given
abbrev IsGiven : (homes given : List (Option Home)) → ℕ → Type 0
IsGiven homes given t = slice_get given t ≡ Some (home_in (slice_get homes t))

pub given-length : (homes given : List (Option Home)) (ts : List ℕ) → length (with_given homes given ts) ≡ length given
given-length homes given [] = refl
given-length homes given (t ∷ ts) =
    given-length homes (set given t (home_in (slice_get homes t))) ts ∙ length-set given t (home_in (slice_get homes t))

given-one : (homes given : List (Option Home)) (u t : ℕ) → IsGiven homes given t → IsGiven homes (set given u (home_in (slice_get homes u))) t
given-one homes given u t h =
    ⊎_elim
    (λ e.
    subst (λ z. IsGiven homes (set given z (home_in (slice_get homes z))) t) e
    (set-same given t (home_in (slice_get homes t)) (slice_get_within given t (home_in (slice_get homes t)) h)))
    (λ n. set-other given u t (home_in (slice_get homes u)) n ∙ h)
    (cases_eq t u)

given-stays : (homes given : List (Option Home)) (ts : List ℕ) (t : ℕ) → IsGiven homes given t → IsGiven homes (with_given homes given ts) t
given-stays homes given [] t h = h
given-stays homes given (u ∷ ts) t h =
    given-stays homes (set given u (home_in (slice_get homes u))) ts t (given-one homes given u t h)

given-has : (homes given : List (Option Home)) (ts : List ℕ) (t : ℕ) → t < length given → has ts t ≡ true →
    IsGiven homes (with_given homes given ts) t
given-has homes given [] t l h = cc
given-has homes given (u ∷ ts) t l h =
    let next : List (Option Home) = set given u (home_in (slice_get homes u)) in
    ⊎_elim
    (λ e.
    given-stays homes next ts t
    (subst (λ z. IsGiven homes (set given z (home_in (slice_get homes z))) t) (sym (eqb-true u t e))
    (set-same given t (home_in (slice_get homes t)) l)))
    (λ e.
    given-has homes next ts t (subst (λ n. t < n) (sym (length-set given u (home_in (slice_get homes u)))) l)
    (sym (ap (λ b. b || has ts t) e) ∙ h))
    (cases_Bool (nat_eq u t))

-- what isn't given is as it was
given-either : (homes given : List (Option Home)) (ts : List ℕ) (t : ℕ) →
    (slice_get (with_given homes given ts) t ≡ slice_get given t) ⊎ IsGiven homes (with_given homes given ts) t
given-either homes given [] t = inl refl
given-either homes given (u ∷ ts) t =
    let next : List (Option Home) = set given u (home_in (slice_get homes u)) in
    ⊎_elim
    (λ e.
    ⊎_elim
    (λ s.
    ⊎_elim
    (λ l. inr (given-stays homes next ts t
    (subst (λ z. IsGiven homes (set given z (home_in (slice_get homes z))) t) s
    (set-same given t (home_in (slice_get homes t)) l))))
    (λ m. inl (past (with_given homes next ts) t (long m) ∙ sym (past given t m)))
    (cases_lt t (length given)))
    (λ n. inl (e ∙ set-other given u t (home_in (slice_get homes u)) n))
    (cases_eq t u))
    (λ g. inr g)
    (given-either homes next ts t)
  where
    long : length given ≤ t → length (with_given homes (set given u (home_in (slice_get homes u))) ts) ≤ t
    long m = subst (λ n. n ≤ t) (sym (given-length homes given (u ∷ ts))) m

    past : {A : Type 0} (xs : List A) (k : ℕ) → length xs ≤ k → slice_get xs k ≡ None
    past xs k h = slice_get_past xs k h

-- no temporary has a home at first
none-given : (n t : ℕ) → is_given (slice_get (replicate n None) t) ≡ false
none-given zero t = refl
none-given (suc n) zero = refl
none-given (suc n) (suc t) = none-given n t

home-given : (o : Option (Option Home)) → is_given (Some (home_in o)) ≡ true → Some (home_in o) ≡ o
home-given (Some (Some h)) e = refl
home-given (Some None) e = cc
home-given None e = cc

pub asked-length : (code : Tac) (homes : List (Option Home)) → length (asked_homes code homes) ≡ length homes
unfolding asked_homes
asked-length code homes =
    small-length (is_small (first_word code homes) (length code.parameters)) (first_word code homes) code.parameters
    (with_given homes (replicate (length homes) None) (asked_of code))
    ∙ (given-length homes (replicate (length homes) None) (asked_of code) ∙ length-replicate (length homes) None)

-- a home that is given is that of the assignment
given-is : (homes : List (Option Home)) (ts : List ℕ) (t : ℕ) →
    is_given (slice_get (with_given homes (replicate (length homes) None) ts) t) ≡ true →
    slice_get (with_given homes (replicate (length homes) None) ts) t ≡ slice_get homes t
given-is homes ts t h =
    ⊎_elim
    (λ e. let no : true ≡ false = sym h ∙ (ap is_given e ∙ none-given (length homes) t) in cc)
    (λ g. g ∙ home-given (slice_get homes t) (sym (ap is_given g) ∙ h))
    (given-either homes (replicate (length homes) None) ts t)

-- and one that a temporary has is that, or in place of a slot the word of a parameter
pub asked-either : (code : Tac) (homes : List (Option Home)) (t : ℕ) → HasHome (layout_of code homes) t →
    (slice_get (asked_homes code homes) t ≡ slice_get homes t)
    ⊎ AtWord (first_word code homes) code.parameters homes (asked_homes code homes) t
unfolding asked_homes
asked-either code homes t h =
    ⊎_elim
    (λ e. inl (e ∙ given-is homes (asked_of code) t (ap is_given (sym e) ∙ h)))
    (λ w.
    let is : slice_get (with_given homes (replicate (length homes) None) (asked_of code)) t ≡ slice_get homes t =
    given-is homes (asked_of code) t (ap is_given w.had) in
    inr (record { slot = w.slot; behind = w.behind; had = sym is ∙ w.had; has = w.has; takes = w.takes }))
    (small-either (is_small (first_word code homes) (length code.parameters)) (first_word code homes) code.parameters
    (with_given homes (replicate (length homes) None) (asked_of code)) t)

-- where a parameter's temporary has its own word, if it has one of these
pub asked-own : (code : Tac) (homes : List (Option Home)) → AreBelow homes (length homes) code.parameters →
    AreOwn (asked_homes code homes) (first_word code homes) code.parameters
unfolding asked_homes
asked-own code homes h =
    small-own (is_small (first_word code homes) (length code.parameters)) (first_word code homes) code.parameters
    (with_given homes (replicate (length homes) None) (asked_of code))
    (λ t s g e. below s (h t s g (sym (given-is homes (asked_of code) t (ap is_given e)) ∙ e)))
  where
    below : (s : ℕ) → s < length homes → s < first_word code homes
    below s l = omega (arith, l)

-- and a temporary that a block asks for has one
in-blocks : (reads : List Reads) (bs : List Block) (b : ℕ) (block : Block) (t : ℕ) → slice_get bs b ≡ Some block →
    has (block_asks reads block) t ≡ true → has (flat_map (block_asks reads) bs) t ≡ true
in-blocks reads [] b block t e h = cc
in-blocks reads (c ∷ bs) zero block t e h =
    let same : c ≡ block = cc in
    has-left (block_asks reads c) (flat_map (block_asks reads) bs) t (ap (λ z. has (block_asks reads z) t) same ∙ h)
in-blocks reads (c ∷ bs) (suc b) block t e h =
    has-right (block_asks reads c) (flat_map (block_asks reads) bs) t (in-blocks reads bs b block t e h)

some-given : (n : ℕ) (o : Option (Option Home)) → is_some_home n o ≡ true → is_given (Some (home_in o)) ≡ true
some-given n (Some (Some h)) e = refl
some-given n (Some None) e = cc
some-given n None e = cc

some-within : (n : ℕ) (homes : List (Option Home)) (t : ℕ) → is_some_home n (slice_get homes t) ≡ true → t < length homes
some-within n homes t e = within (slice_get homes t) refl e
  where
    within : (o : Option (Option Home)) → slice_get homes t ≡ o → is_some_home n o ≡ true → t < length homes
    within (Some h) i e = slice_get_within homes t h i
    within None i e = cc

small-given : (b : Bool) (first : ℕ) (code : Tac) (given : List (Option Home)) (t : ℕ) → is_given (slice_get given t) ≡ true →
    is_given (slice_get (if_small b first code.parameters given) t) ≡ true
small-given b first code given t h =
    ⊎_elim (λ e. ap is_given e ∙ h) (λ w. ap is_given w.has) (small-either b first code.parameters given t)

pub asked-has : (code : Tac) (homes : List (Option Home)) (b t : ℕ) (block : Block) → has_home homes t ≡ true → slice_get code.blocks b ≡ Some block →
    has (block_asks (reads_of code) block) t ≡ true → HasHome (layout_of code homes) t
unfolding asked_homes asked_of
asked-has code homes b t block home here h =
    let asked : List ℕ = flat_map (block_asks (reads_of code)) code.blocks in
    let few : t < length (replicate (length homes) None) =
    subst (λ n. t < n) (sym (length-replicate (length homes) None)) (some-within (length homes) homes t home) in
    small-given (is_small (first_word code homes) (length code.parameters)) (first_word code homes) code (with_given homes (replicate (length homes) None) asked) t
    (ap is_given (given-has homes (replicate (length homes) None) asked t few
    (in-blocks (reads_of code) code.blocks b block t here h))
    ∙ some-given (length homes) (slice_get homes t) home)
