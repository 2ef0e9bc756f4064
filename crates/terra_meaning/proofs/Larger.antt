-- How a larger count changes what a part of a program gives: nothing, but where more was needed. This file has the
-- ways in which parts are put together, and `Meant` goes through the terms.
use Rattle.std.proofs.Common.{append-nil, append_assoc, ◌≡◌, ℕ, zero, suc, ◌+◌, ◌≤◌, Bool, true, false, List, [], ◌++◌, length, refl, sym}
use Rattle.std.proofs.Common.{arith}
use Rattle.std.specs.Prelude.{if◌then◌else◌}
use Rattle.terra_words.specs.Words.{wrapped}
use Rattle.terra_words.specs.declared.words.Width.{Width}
use Rattle.tl_base.specs.Outside.{IsFront}
use Rattle.terra_words.specs.Runs.{Value, Over, More, output_of}
use Rattle.terra_meaning.specs.Running.{State, Variable, Got, Gives, Ends, next, need_more, counted_from, counted, leaving, scoped}
use Rattle.terra_meaning.specs.Meaning.{Way, goes_on, breaks, gives_back, along, turned, rounds, runs, for_rounds, kept}

pub front-self : (xs : List ℕ) → IsFront xs xs
front-self xs = ([], sym (append-nil xs))

pub front-more : (xs ys : List ℕ) → IsFront xs (xs ++ ys)
front-more xs ys = (ys, refl)

front-then : (xs ys zs : List ℕ) → IsFront xs ys → IsFront ys zs → IsFront xs zs
front-then xs ys zs a b = (a.0 ++ b.0, rw (b.1, a.1) (append_assoc xs a.0 b.0))

-- the output that was there at the end of a part
abbrev pub shown : {A : Type 0} → Got A → List ℕ
shown (Gives a s) = s.out
shown (Ends r) = output_of r

-- the output only grows
abbrev pub Grows : {A : Type 0} → (State → Got A) → Type 0
Grows go = (s : State) → IsFront s.out (shown (go s))

abbrev pub more : ℕ → State → State
more d s = record s { left = s.left + d }

-- what a part gives, against what it gives at a count that is larger by d
abbrev pub Carries : {A : Type 0} → ℕ → Got A → Got A → Type 0
Carries d (Gives a s) y = y ≡ Gives a (more d s)
Carries d (Ends (Over e out)) y = y ≡ Ends (Over e out)
Carries d (Ends (More out)) y = IsFront out (shown y)

pub record Longer {A : Type 0} (d : ℕ) (go more_go : State → Got A) : Type 0 where
  pub carries : (s : State) → Carries d (go s) (more_go (more d s))
  pub grows : Grows more_go

-- one part and then another

grows-next : {A B : Type 0} (out : List ℕ) (x : Got A) (go : A → State → Got B) → IsFront out (shown x) →
    ((a : A) → Grows (go a)) → IsFront out (shown (next x go))
grows-next out (Gives a s) go h k = front-then out s.out (shown (go a s)) h (k a s)
grows-next out (Ends r) go h k = h

carries-next : {A B : Type 0} (d : ℕ) (x y : Got A) (go more_go : A → State → Got B) → Carries d x y →
    ((a : A) → Longer d (go a) (more_go a)) → Carries d (next x go) (next y more_go)
carries-next d (Gives a s) y go more_go h k = rw h ((k a).carries s)
carries-next d (Ends (Over e out)) y go more_go h k = rw h refl
carries-next d (Ends (More out)) y go more_go h k = grows-next out y more_go h (λ a. (k a).grows)

pub longer-next : {A B : Type 0} (d : ℕ) (x y : State → Got A) (go more_go : A → State → Got B) → Longer d x y →
    ((a : A) → Longer d (go a) (more_go a)) → Longer d (λ s. next (x s) go) (λ s. next (y s) more_go)
longer-next d x y go more_go h k = record {
  carries = λ s. carries-next d (x s) (y (more d s)) go more_go (h.carries s) k;
  grows = λ s. grows-next s.out (y s) more_go (h.grows s) (λ a. (k a).grows);
}

-- a value alone
pub longer-gives : {A : Type 0} (d : ℕ) (a : A) → Longer d (λ s. Gives a s) (λ s. Gives a s)
longer-gives d a = record { carries = λ s. refl; grows = λ s. front-self s.out }

-- a choice that the state doesn't make
pub longer-if : {A : Type 0} (d : ℕ) (b : Bool) (x x' y y' : State → Got A) → Longer d x x' → Longer d y y' →
    Longer d (λ s. if b then x s else y s) (λ s. if b then x' s else y' s)
longer-if d true x x' y y' h k = h
longer-if d false x x' y y' h k = k

-- a scope
grows-leaving : {A : Type 0} (out : List ℕ) (n : ℕ) (x : Got A) → IsFront out (shown x) → IsFront out (shown
    (leaving n x))
grows-leaving out n (Gives a s) h = h
grows-leaving out n (Ends r) h = h

carries-leaving : {A : Type 0} (d n : ℕ) (x y : Got A) → Carries d x y → Carries d (leaving n x) (leaving n y)
carries-leaving d n (Gives a s) y h = rw h refl
carries-leaving d n (Ends (Over e out)) y h = rw h refl
carries-leaving d n (Ends (More out)) y h = grows-leaving out n y h

pub longer-scoped : {A : Type 0} (d : ℕ) (x y : State → Got A) → Longer d x y →
    Longer d (λ s. scoped s (x s)) (λ s. scoped s (y s))
longer-scoped d x y h = record {
  carries = λ s. carries-leaving d (length s.variables) (x s) (y (more d s)) (h.carries s);
  grows = λ s. grows-leaving s.out (length s.variables) (y s) (h.grows s);
}

-- a caller's variables
grows-kept : (out : List ℕ) (vs : List Variable) (x : Got Value) → IsFront out (shown x) → IsFront out (shown
    (kept vs x))
grows-kept out vs (Gives a s) h = h
grows-kept out vs (Ends r) h = h

carries-kept : (d : ℕ) (vs : List Variable) (x y : Got Value) → Carries d x y → Carries d (kept vs x) (kept vs y)
carries-kept d vs (Gives a s) y h = rw h refl
carries-kept d vs (Ends (Over e out)) y h = rw h refl
carries-kept d vs (Ends (More out)) y h = grows-kept out vs y h

longer-kept : (d : ℕ) (vs : List Variable) (x y : State → Got Value) → Longer d x y →
    Longer d (λ s. kept vs (x s)) (λ s. kept vs (y s))
longer-kept d vs x y h = record {
  carries = λ s. carries-kept d vs (x s) (y (more d s)) (h.carries s);
  grows = λ s. grows-kept s.out vs (y s) (h.grows s);
}

-- what counts
grows-counted : {A : Type 0} (n : ℕ) (s : State) (go : State → Got A) → Grows go → IsFront s.out (shown
    (counted_from n s go))
grows-counted zero s go h = front-self s.out
grows-counted (suc n) s go h = h (record s { left = n })

carries-counted : {A : Type 0} (d n : ℕ) (s : State) (go more_go : State → Got A) → Longer d go more_go →
    Carries d (counted_from n s go) (counted_from (n + d) (more d s) more_go)
carries-counted d zero s go more_go h = grows-counted (zero + d) (more d s) more_go h.grows
carries-counted d (suc n) s go more_go h =
    let e : suc n + d ≡ suc (n + d) = omega arith in
    rw e (h.carries (record s { left = n }))

pub longer-counted : {A : Type 0} (d : ℕ) (go more_go : State → Got A) → Longer d go more_go →
    Longer d (λ s. counted s go) (λ s. counted s more_go)
longer-counted d go more_go h = record {
  carries = λ s. carries-counted d s.left s go more_go h;
  grows = λ s. grows-counted s.left s more_go h.grows;
}

-- a call
pub longer-call : (d : ℕ) (x y : State → Got Value) → Longer d x y →
    Longer d (λ s. counted s (λ s'. kept s.variables (x s'))) (λ s. counted s (λ s'. kept s.variables (y s')))
longer-call d x y h = record {
  carries = λ s. carries-counted d s.left s (λ s'. kept s.variables (x s')) (λ s'. kept s.variables (y s'))
      (longer-kept d s.variables x y h);
  grows = λ s. grows-counted s.left s (λ s'. kept s.variables (y s')) (longer-kept d s.variables x y h).grows;
}

-- statements and loops

pub longer-along : (d : ℕ) (way : Way) (go more_go : State → Got Way) → Longer d go more_go →
    Longer d (λ s. along way s go) (λ s. along way s more_go)
longer-along d goes_on go more_go h = h
longer-along d breaks go more_go h = longer-gives d breaks
longer-along d (gives_back v) go more_go h = longer-gives d (gives_back v)

longer-turned : (d : ℕ) (way : Way) (go more_go : State → Got Way) → Longer d go more_go →
    Longer d (λ s. turned way s go) (λ s. turned way s more_go)
longer-turned d goes_on go more_go h = longer-counted d go more_go h
longer-turned d breaks go more_go h = longer-gives d goes_on
longer-turned d (gives_back v) go more_go h = longer-gives d (gives_back v)

grows-turned : (way : Way) (s : State) (go : State → Got Way) → Grows go → IsFront s.out (shown (turned way s go))
grows-turned goes_on s go h = grows-counted s.left s go h
grows-turned breaks s go h = front-self s.out
grows-turned (gives_back v) s go h = front-self s.out

-- a part that needs more stands for any that grows
pub longer-more : {A : Type 0} (d : ℕ) (go : State → Got A) → Grows go → Longer d (λ s. need_more s) go
longer-more d go h = record { carries = λ s. h (more d s); grows = h }

grows-rounds : (n : ℕ) (round : State → Got Way) → Grows round → Grows (rounds n round)
grows-rounds zero round h = λ s. front-self s.out
grows-rounds (suc n) round h = λ s. grows-next s.out (round s) (λ way s'. turned way s' (rounds n round)) (h s)
    (λ way s'. grows-turned way s' (rounds n round) (grows-rounds n round h))

pub longer-rounds : (d n m : ℕ) → n ≤ m → (round more_round : State → Got Way) → Longer d round more_round →
    Longer d (rounds n round) (rounds m more_round)
longer-rounds d zero m le round more_round h = longer-more d (rounds m more_round) (grows-rounds m more_round h.grows)
longer-rounds d (suc n) zero le round more_round h = absurd (omega (arith, le))
longer-rounds d (suc n) (suc m) le round more_round h =
    longer-next d round more_round (λ way s'. turned way s' (rounds n round)) (λ way s'. turned way s'
    (rounds m more_round)) h
    (λ way. longer-turned d way (rounds n round) (rounds m more_round)
    (longer-rounds d n m (omega (arith, le)) round more_round h))

grows-if : {A : Type 0} (b : Bool) (x y : State → Got A) → Grows x → Grows y → Grows (λ s. if b then x s else y s)
grows-if true x y h k = h
grows-if false x y h k = k

grows-for : (n : ℕ) (w : Width) (limit step : ℕ) (round : ℕ → State → Got Way) → ((i : ℕ) → Grows (round i)) → (i : ℕ) →
    Grows (for_rounds n w limit step round i)
grows-for zero w limit step round h i = λ s. front-self s.out
grows-for (suc n) w limit step round h i =
    grows-if (runs w i limit step)
    (λ s. next (round i s) (λ way s'. turned way s' (for_rounds n w limit step round (wrapped w (i + step)))))
    (λ s. Gives goes_on s)
    (λ s. grows-next s.out (round i s) (λ way s'. turned way s' (for_rounds n w limit step round (wrapped w
    (i + step)))) (h i s)
    (λ way s'. grows-turned way s' (for_rounds n w limit step round (wrapped w (i + step)))
    (grows-for n w limit step round h (wrapped w (i + step)))))
    (λ s. front-self s.out)

pub longer-for : (d n m : ℕ) → n ≤ m → (w : Width) (limit step : ℕ) (round more_round : ℕ → State → Got Way) →
    ((i : ℕ) → Longer d (round i) (more_round i)) → (i : ℕ) →
    Longer d (for_rounds n w limit step round i) (for_rounds m w limit step more_round i)
longer-for d zero m le w limit step round more_round h i =
    longer-more d (for_rounds m w limit step more_round i) (grows-for m w limit step more_round (λ j. (h j).grows) i)
longer-for d (suc n) zero le w limit step round more_round h i = absurd (omega (arith, le))
longer-for d (suc n) (suc m) le w limit step round more_round h i =
    longer-if d (runs w i limit step)
    (λ s. next (round i s) (λ way s'. turned way s' (for_rounds n w limit step round (wrapped w (i + step)))))
    (λ s. next (more_round i s) (λ way s'. turned way s' (for_rounds m w limit step more_round (wrapped w (i + step)))))
    (λ s. Gives goes_on s) (λ s. Gives goes_on s)
    (longer-next d (round i) (more_round i) (λ way s'. turned way s' (for_rounds n w limit step round (wrapped w
    (i + step))))
    (λ way s'. turned way s' (for_rounds m w limit step more_round (wrapped w (i + step)))) (h i)
    (λ way. longer-turned d way (for_rounds n w limit step round (wrapped w (i + step)))
    (for_rounds m w limit step more_round (wrapped w (i + step)))
    (longer-for d n m (omega (arith, le)) w limit step round more_round h (wrapped w (i + step)))))
    (longer-gives d goes_on)
