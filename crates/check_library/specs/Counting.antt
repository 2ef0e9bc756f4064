-- How many typed nodes exports have with all that they reach. Each function counts once.
use Rattle.std.specs.Prelude.{ℕ, zero, suc, ◌+◌, nat_lt, nat_eq, if◌then◌else◌, List, [], ◌∷◌, length, drop, Option}
use Rattle.std.specs.Prelude.{Some, None, slice_get}
use Rattle.indexmap.specs.IndexSet.{insert_key}
use Rattle.tl_base.specs.declared.ids.FnId.{FnId}
use Rattle.tl_base.specs.declared.ids.TermId.{TermId}
use Rattle.tl_base.specs.declared.limits.TheConstants.{MAX_COMPILED_NODES}
use Rattle.terra_term.specs.declared.store.Export.{Export}
use Rattle.terra_term.specs.Held.{state_of, typed_in}
use Rattle.exotype.specs.Terms.{typed_size}
use Rattle.exotype.specs.World.{StageState}
use Rattle.check_model.specs.declared.job.Reached.{Reached}
use Rattle.check_model.specs.Checks.{mentions_at, with_mentions}

-- the most typed nodes of exports with all that they reach
abbrev pub most_nodes : ℕ
most_nodes = MAX_COMPILED_NODES

-- how many exports were counted, the functions that they reach, by their numbers, in the order in which these were first reached, and the
-- typed nodes of these
pub record CountedState : Type 0 where
  pub exports : ℕ
  pub functions : List ℕ
  pub nodes : ℕ

abbrev pub nothing : CountedState
nothing = record { exports = 0; functions = []; nodes = 0 }

-- ---- what is reached

abbrev pub numbered : ℕ → FnId
numbered f = record { 0 = f }

-- a function behind others, unless it is among them
abbrev pub with_function : List ℕ → ℕ → List ℕ
with_function fs f = insert_key nat_eq fs f

abbrev pub with_functions : List ℕ → List Reached → List ℕ
with_functions fs [] = fs
with_functions fs (r ∷ rs) = with_functions (with_function fs r.function.0) rs

-- a function, where there is one
abbrev pub one_at : Option Reached → List Reached
one_at None = []
one_at (Some r) = r ∷ []

-- the functions that a typed function mentions, each once, in the order in which it first does
abbrev pub mentioned : StageState → ℕ → List Reached
mentioned w f = with_mentions [] (numbered f) (mentions_at w (numbered f))

abbrev pub gone_on : Option ℕ → List ℕ → (ℕ → List ℕ) → List ℕ
gone_on None fs go = fs
gone_on (Some f) fs go = go f

-- Goes through functions from a place on, in so many steps at most: what each one mentions comes behind the others, where it is new.
abbrev pub gone_through : StageState → (steps place : ℕ) → List ℕ → List ℕ
gone_through w zero i fs = fs
gone_through w (suc n) i fs =
    gone_on (slice_get fs i) fs (λ f. gone_through w n (i + 1) (with_functions fs (mentioned w f)))

-- Functions, and behind them a function and what it reaches, where that is new. There are no more steps than functions.
abbrev pub with_reached : StageState → List ℕ → ℕ → List ℕ
with_reached w fs f = gone_through w (length w.store.functions) (length fs) (with_function fs f)

-- ---- what is counted

abbrev pub nodes_if : StageState → Option TermId → ℕ
nodes_if w None = 0
nodes_if w (Some made) = (typed_size w made).nodes

-- the nodes of a function's typed term
abbrev pub nodes_of : StageState → ℕ → ℕ
nodes_of w f = nodes_if w (typed_in (state_of w.store (numbered f)))

-- a sum of nodes, and the function that would take it past the most that there may be, if there is one
pub record Sum : Type 0 where
  pub nodes : ℕ
  pub passing : Option ℕ

abbrev pub summed : StageState → ℕ → List ℕ → Sum
summed w n [] = record { nodes = n; passing = None }
summed w n (f ∷ fs) =
    if nat_lt most_nodes (n + nodes_of w f) then record { nodes = n; passing = Some f } else summed w (n + nodes_of w f) fs

-- what was counted, and the function that passes the most that there may be, if there is one
pub record Count : Type 0 where
  pub counted : CountedState
  pub passing : Option ℕ

abbrev pub count_by : CountedState → List ℕ → Sum → Count
count_by c fs sum = record {
  counted = record { exports = c.exports + 1; functions = fs; nodes = sum.nodes };
  passing = sum.passing;
}

-- an export of a function is counted, with what it reaches that no export before it does
abbrev pub count_function : StageState → CountedState → FnId → Count
count_function w c f =
    let fs = with_reached w c.functions f.0 in
    count_by c fs (summed w c.nodes (drop (length c.functions) fs))

abbrev pub count_on : Option ℕ → Count → (CountedState → Count) → Count
count_on None count go = go count.counted
count_on (Some f) count go = count

abbrev pub count_then : Count → (CountedState → Count) → Count
count_then count go = count_on count.passing count go

abbrev pub count_exports : StageState → CountedState → List Export → Count
count_exports w c [] = record { counted = c; passing = None }
count_exports w c (e ∷ es) = count_then (count_function w c e.function) (λ d. count_exports w d es)

-- the exports that weren't counted yet, and behind them one of a function
abbrev pub count_with : StageState → CountedState → FnId → Count
count_with w c f = count_then (count_exports w c (drop c.exports w.exports.list)) (λ d. count_function w d f)
