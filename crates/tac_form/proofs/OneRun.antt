-- Steps are a function, so a run ends in one way.
use Rattle.std.proofs.Common.{ap, sym, ◌∙◌, ◌+◌, ◌≡◌, refl, ℕ, zero, suc, List, arith}
use Rattle.tl_base.specs.declared.ids.FnId.{FnId}
use Rattle.terra_words.specs.Runs.{Value, Run}
use Rattle.tac_form.specs.Flow.{Program, Moved, Goes, Stops, step, steps, begun, TacRun}

stopped : (p : Program) (k : ℕ) (r : Run) → steps p k (Stops r) ≡ Stops r
stopped p zero r = refl
stopped p (suc k) r = refl

run_in : Run → Moved → Run
run_in other (Goes s) = other
run_in other (Stops r) = r

same : (p : Program) (r q : Run) (k j : ℕ) (m : Moved) → steps p k m ≡ Stops r → steps p j m ≡ Stops q → q ≡ r
same p r q k j (Stops o) hk hj = grind (arith, stopped p k o, stopped p j o, hk, hj)
same p r q zero j (Goes s) hk hj = grind (arith, hk)
same p r q (suc k) zero (Goes s) hk hj = grind (arith, hj)
same p r q (suc k) (suc j) (Goes s) hk hj = same p r q k j (step p s) hk hj

pub one-run : (p : Program) (statics : List ℕ) (memory n : ℕ) (f : FnId) (arguments : List Value) (r q : Run) →
    TacRun p statics memory n f arguments r → TacRun p statics memory n f arguments q → q ≡ r
one-run p statics memory n f arguments r q a b =
    same p r q a.0 b.0 (begun p statics memory n f arguments) a.1 b.1

pub steps-add : (p : Program) (k j : ℕ) (m : Moved) → steps p (k + j) m ≡ steps p j (steps p k m)
steps-add p zero j m = let e : zero + j ≡ j = omega arith in ap (λ n. steps p n m) e
steps-add p (suc k) j (Stops r) = stopped p (suc k + j) r ∙ sym (stopped p j r)
steps-add p (suc k) j (Goes s) =
    let e : suc k + j ≡ suc (k + j) = omega arith in
    ap (λ n. steps p n (Goes s)) e ∙ steps-add p k j (step p s)
