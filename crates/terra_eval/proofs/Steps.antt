-- What follows a part that gave something, or that ended the run.
use Rattle.std.proofs.Common.{◌≡◌, sym, ap, ◌∙◌, subst, ℕ, ◌-◌, List, length, drop}
use Rattle.std.specs.Prelude.{Result}
use Rattle.terra_words.specs.Runs.{Value}
use Rattle.terra_meaning.specs.Running as running
use Rattle.terra_meaning.specs.Running.{State, Got, Gives, Ends, next, scoped}
use Rattle.terra_meaning.specs.Meaning.{Way, kept}
use Rattle.terra_eval.specs.declared.stop.Stop.{Stop}
use Rattle.terra_eval.specs.declared.stop.Stop.TheVariants as stops
use Rattle.terra_eval.specs.declared.call.Way as code_ways
use Rattle.terra_eval.specs.Views.{Ended, GaveValue, GaveUnit, GaveWay}

pub ended_next : {A B : Type 0} (e : Stop) (s : State) (got : Got A) (go : A → State → Got B) → Ended e s got → Ended e s (next got go)
ended_next stops.NoMemory s got go same = tt
ended_next (stops.Halted h) s got go same = ap (λ (g : Got _). next g go) same

pub ended_scope : {A : Type 0} (e : Stop) (s around : State) (got : Got A) → Ended e s got → Ended e s (scoped around got)
ended_scope stops.NoMemory s around got same = tt
ended_scope (stops.Halted h) s around got same = ap (λ (g : Got _). scoped around g) same

pub ended_kept : (e : Stop) (s : State) (variables : List running.Variable) (got : Got Value) → Ended e s got → Ended e s (kept variables got)
ended_kept stops.NoMemory s variables got same = tt
ended_kept (stops.Halted h) s variables got same = ap (λ (g : Got Value). kept variables g) same

pub gives_next : {A B : Type 0} (x : A) (s : State) (got : Got A) (go : A → State → Got B) → got ≡ Gives x s → next got go ≡ go x s
gives_next x s got go same = ap (λ (g : Got _). next g go) same

pub value_next : {A : Type 0} (r : Result Value Stop) (s before : State) (x : A) (got : Got A) (go : A → State → Got Value)
    → got ≡ Gives x before → GaveValue r s (go x before) → GaveValue r s (next got go)
value_next r s before x got go same behind = subst (λ (g : Got _). GaveValue r s (next g go)) (sym same) behind

pub unit_next : {A : Type 0} (r : Result (Unit {0}) Stop) (s before : State) (x : A) (got : Got A) (go : A → State → Got Value)
    → got ≡ Gives x before → GaveUnit r s (go x before) → GaveUnit r s (next got go)
unit_next r s before x got go same behind = subst (λ (g : Got _). GaveUnit r s (next g go)) (sym same) behind

pub way_next : {A : Type 0} (r : Result code_ways.Way Stop) (s before : State) (x : A) (got : Got A) (go : A → State → Got Way)
    → got ≡ Gives x before → GaveWay r s (go x before) → GaveWay r s (next got go)
way_next r s before x got go same behind = subst (λ (g : Got _). GaveWay r s (next g go)) (sym same) behind

pub way_scoped : (way : Way) (s around : State) (got : Got Way) → got ≡ Gives way s
    → scoped around got ≡ Gives way (record s { variables = drop (length s.variables - length around.variables) s.variables })
way_scoped way s around got same = ap (λ (g : Got Way). scoped around g) same

-- a part in a scope gave something, and the scope is left
pub scope_left : {A : Type 0} (x : A) (around s after : State) (count : ℕ) (got : Got A) → got ≡ Gives x s → count ≡ length around.variables
    → after ≡ record s { variables = drop (length s.variables - count) s.variables } → scoped around got ≡ Gives x after
scope_left x around s after count got same many left =
    ap (λ (g : Got _). scoped around g) same
    ∙ sym (ap (λ (t : State). Gives x t) (left ∙ ap (λ (n : ℕ). record s { variables = drop (length s.variables - n) s.variables }) many))
