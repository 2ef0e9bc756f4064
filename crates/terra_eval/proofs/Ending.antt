-- How the run of an entry ends.
use Rattle.std.proofs.Common.{◌≡◌, refl, sym, ap, ◌∙◌, subst, ℕ, List}
use Rattle.std.specs.Prelude.{Result}
use Rattle.tl_base.specs.declared.place.Place.{Place}
use Rattle.terra_words.specs.Runs.{Value, Over, Returned}
use Rattle.terra_meaning.specs.Running.{Got, Gives, Ends, State, Variable}
use Rattle.terra_meaning.specs.Meaning.{kept, run_of}
use Rattle.terra_eval.specs.declared.stop.Halt.{Halt}
use Rattle.terra_eval.specs.declared.stop.Stop.{Stop}
use Rattle.terra_eval.specs.Views.{GaveValue, halted}

kept-run : (variables : List Variable) (got : Got Value) → run_of (kept variables got) ≡ run_of got
kept-run variables (Gives v s) = refl
kept-run variables (Ends r) = refl

pub returned-run : (variables : List Variable) (got : Got Value) (s : State) (out : List ℕ) (v : Value) → s.out ≡ out → kept variables got ≡ Gives v s
    → Over (Returned v) out ≡ run_of got
returned-run variables got s out v same gave =
    sym (sym (kept-run variables got) ∙ ap (λ (g : Got Value). run_of g) gave ∙ ap (λ (o : List ℕ). Over (Returned v) o) same)

pub halted-run : (variables : List Variable) (got : Got Value) (s : State) (out : List ℕ) (h : Halt) → s.out ≡ out → kept variables got ≡ Ends (halted h s.out)
    → halted h out ≡ run_of got
halted-run variables got s out h same gave =
    sym (sym (kept-run variables got) ∙ ap (λ (g : Got Value). run_of g) gave ∙ ap (λ (o : List ℕ). halted h o) same)

-- what is given from a start is given from another that is the same
pub same-start : (r : Result Value Stop) (after s start : State) (top first : ℕ) (at place : Place) (go : ℕ → Place → State → Got Value)
    → s ≡ start → top ≡ first → at ≡ place → GaveValue r after (kept s.variables (go top at s)) → GaveValue r after (kept start.variables (go first place start))
same-start r after s start top first at place go one two three gave =
    subst (λ (p : Place). GaveValue r after (kept start.variables (go first p start))) three
    (subst (λ (n : ℕ). GaveValue r after (kept start.variables (go n at start))) two
    (subst (λ (t : State). GaveValue r after (kept t.variables (go top at t))) one gave))
