-- What three-address code has left where it ends at a count is what its run didn't need.
use Rattle.std.proofs.Common.{◌≡◌, ℕ, zero, suc, ◌+◌, ◌-◌, ◌<◌, ◌≤◌, Bool, true, false, List, [], Option, Some, None, refl, sym, ap, ◌∙◌}
use Rattle.std.proofs.Common.{subst, inl, inr, ⊎_elim, arith}
use Rattle.std.specs.Prelude.{◌⊎◌, nat_lt, if◌then◌else◌}
use Rattle.std.proofs.lemmas.Bool.{cases_lt}
use Rattle.tl_base.specs.declared.place.Place.{Place}
use Rattle.tl_base.specs.declared.ids.FnId.{FnId}
use Rattle.terra_memory.specs.Region.{Contents, end_address, fresh, heap_limit}
use Rattle.terra_words.specs.declared.words.FaultKind.TheVariants.{StackFull}
use Rattle.terra_words.specs.Runs.{End, Fault, More, Over, Run, Stuck, Value}
use Rattle.tac_form.specs.declared.tac.Tac.{Tac}
use Rattle.tac_form.specs.Flow.{Activation, Moved, Goes, Program, State, Stops, TacRun, accepts_all, begun, enter, place_of, step, steps}
use Rattle.tac_form.specs.Flow.{takes_all}
use Rattle.tac_counts.specs.Counts.{Needs, counting, left_after, left_in}
use Rattle.tac_counts.proofs.Lifting.{stops-stay}
use Rattle.tac_counts.proofs.Needing.{needs}
use Rattle.back_end.specs.Units as units

-- one begin stops in one way
one-stop : (p : Program) (k j : ℕ) (m : Moved) (a b : Run) → steps p k m ≡ Stops a → steps p j m ≡ Stops b → a ≡ b
one-stop p k j (Stops r) a b x y =
    let e : Stops r ≡ Stops a = sym (stops-stay p k r) ∙ x in
    let f : Stops r ≡ Stops b = sym (stops-stay p j r) ∙ y in
    cc
one-stop p zero j (Goes s) a b x y = cc
one-stop p (suc k) zero (Goes s) a b x y = cc
one-stop p (suc k) (suc j) (Goes s) a b x y = one-stop p k j (step p s) a b x y

-- a function begins at each count in one way: it stops at once, or goes on from one state
abbrev BeginsAlike : (ℕ → Moved) → Type 0
BeginsAlike begins = ((r : Run) × ((n : ℕ) → begins n ≡ Stops r)) ⊎ ((s : State) × ((n : ℕ) → begins n ≡ Goes (counting n s)))

module _ (place : Place) (f : FnId) (vs : List Value) (region : Contents) (nowhere : Activation) (top : ℕ) where
  abbrev start : ℕ → State
  start n = record { here = nowhere; callers = []; region = region; left = n; out = [] }

  by-tests : (code : Tac) (here : Activation) (b c : Bool) →
      BeginsAlike (λ n. if b then Stops (Over (Fault StackFull place) [])
      else (if c then Goes (record (start n) { callers = []; here = here }) else Stops (Over Stuck [])))
  by-tests code here true c = inl (Over (Fault StackFull place) [], λ n. refl)
  by-tests code here false true = inr (record (start 0) { here = here }, λ n. refl)
  by-tests code here false false = inl (Over Stuck [], λ n. refl)

  begins-alike : (o : Option Tac) → BeginsAlike (λ n. enter place f o vs top [] (start n))
  begins-alike None = inl (Over Stuck [], λ n. refl)
  begins-alike (Some code) =
      by-tests code
      (takes_all code.parameters vs
      (record { function = f; block = 0; at = 0; temps = λ t. 0; areas = λ n. []; base = top - code.frame }))
      (nat_lt top (heap_limit region + code.frame)) (accepts_all code code.parameters vs)

over-more : (r : Run) (e : End) (out less : List ℕ) → r ≡ Over e out → r ≡ More less → ⊥
over-more r e out less x y = cc

-- runs of a function at all counts
module _ (p : Program) (statics : List ℕ) (memory : ℕ) (f : FnId) (vs : List Value) (source : ℕ → Run)
    (runs : (n : ℕ) → TacRun p statics memory n f vs (source n)) where
  abbrev begins : ℕ → Moved
  begins n = begun p statics memory n f vs

  source-is : (n k : ℕ) (r : Run) → steps p k (begins n) ≡ Stops r → source n ≡ r
  source-is n k r h = one-stop p (runs n).0 k (begins n) (source n) r (runs n).1 h

  abbrev nowhere : Activation
  nowhere = record {
    function = f;
    block = 0;
    at = 0;
    temps = λ t. 0;
    areas = λ a. [];
    base = end_address (fresh memory statics);
  }

  alike : BeginsAlike begins
  alike = begins-alike (place_of (p.code f)) f vs (fresh memory statics) nowhere (end_address (fresh memory statics)) (p.code f)

  -- what needs no less and no more is one number
  one-need : (m n : ℕ) → units.Needs source m → (e : End) (out : List ℕ) → source n ≡ Over e out →
      ((j : ℕ) → j < n → (less : List ℕ) × (source j ≡ More less)) → m ≡ n
  one-need m n need e out ends fewer =
      ⊎_elim
      (λ lt. let x = fewer m lt in absurd (over-more (source m) need.end need.out x.0 need.ends x.1))
      (λ ge. ⊎_elim
      (λ lt. let x = need.fewer n lt in absurd (over-more (source n) e out x.0 ends x.1))
      (λ le. omega (arith, ge, le))
      (cases_lt n m))
      (cases_lt m n)

  pub left-is : (n m : ℕ) (e : End) (out : List ℕ) → source n ≡ Over e out → units.Needs source m →
      left_after (begins n) (left_in p (runs n).0) n ≡ n - m
  left-is n m e out ends need = ⊎_elim at-once goes alike
    where
      at-once : (r : Run) × ((j : ℕ) → begins j ≡ Stops r) → left_after (begins n) (left_in p (runs n).0) n ≡ n - m
      at-once b =
          let every : (j : ℕ) → source j ≡ b.0 =
          λ j. source-is j 0 b.0 (b.1 j) in
          let none : m ≡ 0 =
          one-need m 0 need e out (every 0 ∙ (sym (every n) ∙ ends)) (λ j lt. absurd (omega (arith, lt))) in
          ap (λ x. left_after x (left_in p (runs n).0) n) (b.1 n) ∙ omega (arith, none)

      goes : (s : State) × ((j : ℕ) → begins j ≡ Goes (counting j s)) → left_after (begins n) (left_in p (runs n).0) n ≡ n - m
      goes b =
          let s : State = b.0 in
          let k : ℕ = (runs n).0 in
          let left : ℕ = left_in p k (counting n s) in
          let from : steps p k (Goes (counting n s)) ≡ Stops (Over e out) =
          ap (steps p k) (sym (b.1 n)) ∙ ((runs n).1 ∙ ap Stops ends) in
          let q : (left ≤ n) × Needs p k s e out (n - left) = needs p k n s e out from in
          let least : source (n - left) ≡ Over e out =
          source-is (n - left) k (Over e out) (ap (steps p k) (b.1 (n - left)) ∙ q.1.ends) in
          let same : m ≡ n - left =
          one-need m (n - left) need e out least
          (λ j lt.
          let x = q.1.fewer j lt in
          (x.0, source-is j k (More x.0) (ap (steps p k) (b.1 j) ∙ x.1))) in
          ap (λ x. left_after x (left_in p k) n) (b.1 n) ∙ omega (arith, same, q.0)
