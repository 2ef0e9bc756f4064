-- The turns of the evaluator's loops.
use Rattle.std.proofs.Common.{◌≡◌, refl, sym, ap, ◌∙◌, subst, ℕ, zero, suc, ◌+◌, ◌<◌, ◌≤◌, Bool, true, false, List, [], ◌∷◌, ◌++◌, Option}
use Rattle.std.proofs.Common.{length, drop, get_or, slice_get, arith, append_assoc, append-nil}
use Rattle.std.specs.Prelude.{if◌then◌else◌}
use Rattle.tl_base.specs.declared.place.Place.{Place}
use Rattle.tl_base.specs.declared.ids.TermId.{TermId}
use Rattle.terra_words.specs.Runs.{Value, number, value_at, word, More}
use Rattle.terra_words.specs.Words.{wrapped}
use Rattle.terra_words.specs.declared.words.Width.{Width}
use Rattle.terra_types.specs.declared.types.TypeForm.{TypeForm}
use Rattle.terra_term.specs.declared.lists.TypedName.{TypedName}
use Rattle.terra_term.specs.Held.{Held}
use Rattle.terra_term.specs.TypedTerms.{Expression, typed, Variable}
use Rattle.terra_meaning.specs.Running.{State, Got, Gives, Ends, next, counted, counted_from}
use Rattle.terra_meaning.specs.Meaning.{Call, Wanted, Way, along, turned, goes_on, rounds, for_rounds, runs, meant, meant_all, done_one}
use Rattle.terra_meaning.specs.Meaning.{done_all, declared, declared_all, assigned, assigned_all, first_of, behind, in_expression}
use Rattle.terra_meaning.specs.Meaning.{in_statement}
use Rattle.terra_eval.specs.Trees.{expression_before, list_before, statement_before, block_before}
use Rattle.terra_eval.specs.declared.stop.Stop.{Stop}
use Rattle.terra_eval.specs.Views.{Ended}
use Rattle.terra_eval.proofs.Turns.{turn, none-left}
use Rattle.terra_eval.proofs.Steps.{ended_next, gives_next}

-- values by their positions

pub first-drop : (vs : List Value) (i : ℕ) → first_of (drop i vs) ≡ slice_get vs i
first-drop [] zero = refl
first-drop [] (suc i) = refl
first-drop (v ∷ vs) zero = refl
first-drop (v ∷ vs) (suc i) = first-drop vs i

behind-suc : (vs : List Value) (i : ℕ) → behind (drop i vs) ≡ drop (suc i) vs
behind-suc [] zero = refl
behind-suc [] (suc i) = refl
behind-suc (v ∷ vs) zero = refl
behind-suc (v ∷ vs) (suc i) = behind-suc vs i

pub behind-drop : (vs : List Value) (i : ℕ) → behind (drop i vs) ≡ drop (i + 1) vs
behind-drop vs i =
    let next : suc i ≡ i + 1 = omega arith in
    behind-suc vs i ∙ ap (λ (n : ℕ). drop n vs) next

pub value-drop : (vs : List Value) (i : ℕ) → value_at (drop i vs) 0 ≡ value_at vs i
value-drop [] zero = refl
value-drop [] (suc i) = refl
value-drop (v ∷ vs) zero = refl
value-drop (v ∷ vs) (suc i) = value-drop vs i

-- a list's values, behind those so far

abbrev pub with_front : List Value → Got (List Value) → Got (List Value)
with_front vs got = next got (λ ws s. Gives (vs ++ ws) s)

front-none : (got : Got (List Value)) → with_front [] got ≡ got
front-none (Gives ws s) = refl
front-none (Ends r) = refl

front-more : (vs : List Value) (v : Value) (got : Got (List Value)) → with_front vs (next got (λ ws s. Gives (v ∷ ws) s)) ≡ with_front (vs ++ v ∷ []) got
front-more vs v (Gives ws s) = ap (λ (l : List Value). Gives l s) (sym (append_assoc vs (v ∷ []) ws))
front-more vs v (Ends r) = refl

pub front-ended : (e : Stop) (s : State) (vs : List Value) (got : Got (List Value)) → Ended e s got → Ended e s (with_front vs got)
front-ended e s vs got ended = ended_next e s got (λ ws s. Gives (vs ++ ws) s) ended

module _ (c : Call) (want : Wanted) (store : Held) (below : ℕ) (nodes : List TermId) where
  pub list-begins : (from : ℕ) (s : State)
      → meant_all c want (list_before store below nodes) from s ≡ with_front [] (meant_all c want (list_before store below (drop 0 nodes)) from s)
  list-begins from s = sym (front-none (meant_all c want (list_before store below nodes) from s))

  pub list-step : (i : ℕ) (d : TermId) (from : ℕ) (s : State) (vs : List Value) (whole : Got (List Value)) → i < length nodes
      → whole ≡ with_front vs (meant_all c want (list_before store below (drop i nodes)) from s)
      → whole ≡ with_front vs (next (meant c want (expression_before store below (get_or nodes i d)) from s) (λ v s1.
      next (meant_all c want (list_before store below (drop (i + 1) nodes)) (from + in_expression (expression_before store below (get_or nodes i d))) s1) (λ ws s2. Gives (v ∷ ws) s2)))
  list-step i d from s vs whole within so_far =
      so_far ∙ ap (λ (l : List TermId). with_front vs (meant_all c want (list_before store below l) from s)) (turn nodes i d within)

  pub list-later : (i : ℕ) (d : TermId) (from later : ℕ) (s s1 : State) (vs new : List Value) (v : Value) (whole : Got (List Value)) → i < length nodes
      → whole ≡ with_front vs (meant_all c want (list_before store below (drop i nodes)) from s)
      → meant c want (expression_before store below (get_or nodes i d)) from s ≡ Gives v s1
      → later ≡ from + in_expression (expression_before store below (get_or nodes i d))
      → new ≡ vs ++ v ∷ []
      → whole ≡ with_front new (meant_all c want (list_before store below (drop (i + 1) nodes)) later s1)
  list-later i d from later s s1 vs new v whole within so_far gave count push =
      let rest = λ (n : ℕ). meant_all c want (list_before store below (drop (i + 1) nodes)) n s1 in
      list-step i d from s vs whole within so_far
      ∙ ap (λ (g : Got (List Value)). with_front vs g) (gives_next v s1 (meant c want (expression_before store below (get_or nodes i d)) from s) (λ v s1.
      next (meant_all c want (list_before store below (drop (i + 1) nodes)) (from + in_expression (expression_before store below (get_or nodes i d))) s1) (λ ws s2. Gives (v ∷ ws) s2)) gave)
      ∙ front-more vs v (rest (from + in_expression (expression_before store below (get_or nodes i d))))
      ∙ ap (λ (n : ℕ). with_front (vs ++ v ∷ []) (rest n)) (sym count)
      ∙ ap (λ (l : List Value). with_front l (rest later)) (sym push)

  pub list-stops : (i : ℕ) (d : TermId) (from : ℕ) (s s1 : State) (vs : List Value) (e : Stop) (whole : Got (List Value)) → i < length nodes
      → whole ≡ with_front vs (meant_all c want (list_before store below (drop i nodes)) from s)
      → Ended e s1 (meant c want (expression_before store below (get_or nodes i d)) from s)
      → Ended e s1 whole
  list-stops i d from s s1 vs e whole within so_far ended =
      subst (λ (g : Got (List Value)). Ended e s1 g) (sym (list-step i d from s vs whole within so_far))
      (front-ended e s1 vs _ (ended_next e s1 (meant c want (expression_before store below (get_or nodes i d)) from s) (λ v s1.
      next (meant_all c want (list_before store below (drop (i + 1) nodes)) (from + in_expression (expression_before store below (get_or nodes i d))) s1) (λ ws s2. Gives (v ∷ ws) s2)) ended))

  pub list-all : (i : ℕ) (from : ℕ) (s : State) (vs : List Value) (whole : Got (List Value)) → length nodes ≤ i
      → whole ≡ with_front vs (meant_all c want (list_before store below (drop i nodes)) from s)
      → whole ≡ Gives vs s
  list-all i from s vs whole past so_far =
      so_far ∙ ap (λ (l : List TermId). with_front vs (meant_all c want (list_before store below l) from s)) (none-left nodes i past)
      ∙ ap (λ (l : List Value). Gives l s) (append-nil vs)

-- statements

module _ (c : Call) (store : Held) (below : ℕ) (nodes : List TermId) (i : ℕ) (d : TermId) (from : ℕ) (s : State) (whole : Got Way)
    (within : i < length nodes)
    (so_far : whole ≡ done_all c (block_before store below (drop i nodes)) from s) where
  pub block-step : whole ≡ next (done_one c (statement_before store below (get_or nodes i d)) from s) (λ way s1. along way s1
      (done_all c (block_before store below (drop (i + 1) nodes)) (from + in_statement (statement_before store below (get_or nodes i d)))))
  block-step = so_far ∙ ap (λ (l : List TermId). done_all c (block_before store below l) from s) (turn nodes i d within)

  pub block-gave : (way : Way) (s1 : State) → done_one c (statement_before store below (get_or nodes i d)) from s ≡ Gives way s1
      → whole ≡ along way s1 (done_all c (block_before store below (drop (i + 1) nodes)) (from + in_statement (statement_before store below (get_or nodes i d))))
  block-gave way s1 gave =
      block-step ∙ gives_next way s1 (done_one c (statement_before store below (get_or nodes i d)) from s) (λ way s1. along way s1
      (done_all c (block_before store below (drop (i + 1) nodes)) (from + in_statement (statement_before store below (get_or nodes i d))))) gave

  pub block-later : (later : ℕ) (s1 : State) → done_one c (statement_before store below (get_or nodes i d)) from s ≡ Gives goes_on s1
      → later ≡ from + in_statement (statement_before store below (get_or nodes i d))
      → whole ≡ done_all c (block_before store below (drop (i + 1) nodes)) later s1
  block-later later s1 gave count =
      block-gave goes_on s1 gave ∙ ap (λ (n : ℕ). done_all c (block_before store below (drop (i + 1) nodes)) n s1) (sym count)

  pub block-stops : (e : Stop) (s1 : State) → Ended e s1 (done_one c (statement_before store below (get_or nodes i d)) from s) → Ended e s1 whole
  block-stops e s1 ended =
      subst (λ (g : Got Way). Ended e s1 g) (sym block-step)
      (ended_next e s1 (done_one c (statement_before store below (get_or nodes i d)) from s) (λ way s1. along way s1
      (done_all c (block_before store below (drop (i + 1) nodes)) (from + in_statement (statement_before store below (get_or nodes i d))))) ended)

pub block-all : (c : Call) (store : Held) (below : ℕ) (nodes : List TermId) (i from : ℕ) (s : State) (whole : Got Way) → length nodes ≤ i
    → whole ≡ done_all c (block_before store below (drop i nodes)) from s → whole ≡ Gives goes_on s
block-all c store below nodes i from s whole past so_far =
    so_far ∙ ap (λ (l : List TermId). done_all c (block_before store below l) from s) (none-left nodes i past)

-- declarations

module _ (c : Call) (at : Place) (names : List TypedName) (values : List Value) (i : ℕ) (d : TypedName) (number : ℕ) (s : State) (whole : Got Value)
    (within : i < length names)
    (so_far : whole ≡ declared_all c at (drop i names) (drop i values) number s) where
  pub declare-step : whole ≡ next (declared c at (get_or names i d) (slice_get values i) number s) (λ _ s1. declared_all c at (drop (i + 1) names) (drop (i + 1) values) (suc number) s1)
  declare-step =
      so_far ∙ ap (λ (l : List TypedName). declared_all c at l (drop i values) number s) (turn names i d within)
      ∙ ap (λ (v : Option Value). next (declared c at (get_or names i d) v number s) (λ _ s1. declared_all c at (drop (i + 1) names) (behind (drop i values)) (suc number) s1)) (first-drop values i)
      ∙ ap (λ (l : List Value). next (declared c at (get_or names i d) (slice_get values i) number s) (λ _ s1. declared_all c at (drop (i + 1) names) l (suc number) s1)) (behind-drop values i)

  pub declare-later : (later : ℕ) (v : Value) (s1 : State) → declared c at (get_or names i d) (slice_get values i) number s ≡ Gives v s1
      → later ≡ number + 1 → whole ≡ declared_all c at (drop (i + 1) names) (drop (i + 1) values) later s1
  declare-later later v s1 gave count =
      let next : suc number ≡ later = omega (arith, count) in
      declare-step ∙ gives_next v s1 (declared c at (get_or names i d) (slice_get values i) number s) (λ _ s1. declared_all c at (drop (i + 1) names) (drop (i + 1) values) (suc number) s1) gave
      ∙ ap (λ (n : ℕ). declared_all c at (drop (i + 1) names) (drop (i + 1) values) n s1) next

  pub declare-stops : (e : Stop) (s1 : State) → Ended e s1 (declared c at (get_or names i d) (slice_get values i) number s) → Ended e s1 whole
  declare-stops e s1 ended =
      subst (λ (g : Got Value). Ended e s1 g) (sym declare-step)
      (ended_next e s1 (declared c at (get_or names i d) (slice_get values i) number s) (λ _ s1. declared_all c at (drop (i + 1) names) (drop (i + 1) values) (suc number) s1) ended)

pub declare-all : (c : Call) (at : Place) (names : List TypedName) (values : List Value) (i number : ℕ) (s : State) (whole : Got Value) → length names ≤ i
    → whole ≡ declared_all c at (drop i names) (drop i values) number s → whole ≡ Gives (word 0) s
declare-all c at names values i number s whole past so_far =
    so_far ∙ ap (λ (l : List TypedName). declared_all c at l (drop i values) number s) (none-left names i past)

-- assignments

module _ (types : List TypeForm) (store : Held) (below : ℕ) (targets : List TermId) (places values : List Value) (i : ℕ) (d : TermId) (s : State) (whole : Got Value)
    (within : i < length targets)
    (so_far : whole ≡ assigned_all types (list_before store below (drop i targets)) (drop i places) (drop i values) s) where
  pub assign-step : whole ≡ next (assigned types (expression_before store below (get_or targets i d)) (value_at places i) (value_at values i) s)
      (λ _ s1. assigned_all types (list_before store below (drop (i + 1) targets)) (drop (i + 1) places) (drop (i + 1) values) s1)
  assign-step =
      let e = expression_before store below (get_or targets i d) in
      let rest = list_before store below (drop (i + 1) targets) in
      so_far ∙ ap (λ (l : List TermId). assigned_all types (list_before store below l) (drop i places) (drop i values) s) (turn targets i d within)
      ∙ ap (λ (v : Value). next (assigned types e v (value_at (drop i values) 0) s) (λ _ s1. assigned_all types rest (behind (drop i places)) (behind (drop i values)) s1)) (value-drop places i)
      ∙ ap (λ (v : Value). next (assigned types e (value_at places i) v s) (λ _ s1. assigned_all types rest (behind (drop i places)) (behind (drop i values)) s1)) (value-drop values i)
      ∙ ap (λ (l : List Value). next (assigned types e (value_at places i) (value_at values i) s) (λ _ s1. assigned_all types rest l (behind (drop i values)) s1)) (behind-drop places i)
      ∙ ap (λ (l : List Value). next (assigned types e (value_at places i) (value_at values i) s) (λ _ s1. assigned_all types rest (drop (i + 1) places) l s1)) (behind-drop values i)

  pub assign-later : (v : Value) (s1 : State) → assigned types (expression_before store below (get_or targets i d)) (value_at places i) (value_at values i) s ≡ Gives v s1
      → whole ≡ assigned_all types (list_before store below (drop (i + 1) targets)) (drop (i + 1) places) (drop (i + 1) values) s1
  assign-later v s1 gave =
      assign-step ∙ gives_next v s1 (assigned types (expression_before store below (get_or targets i d)) (value_at places i) (value_at values i) s)
      (λ _ s1. assigned_all types (list_before store below (drop (i + 1) targets)) (drop (i + 1) places) (drop (i + 1) values) s1) gave

  pub assign-stops : (e : Stop) (s1 : State) → Ended e s1 (assigned types (expression_before store below (get_or targets i d)) (value_at places i) (value_at values i) s) → Ended e s1 whole
  assign-stops e s1 ended =
      subst (λ (g : Got Value). Ended e s1 g) (sym assign-step)
      (ended_next e s1 (assigned types (expression_before store below (get_or targets i d)) (value_at places i) (value_at values i) s)
      (λ _ s1. assigned_all types (list_before store below (drop (i + 1) targets)) (drop (i + 1) places) (drop (i + 1) values) s1) ended)

pub assign-all : (types : List TypeForm) (store : Held) (below : ℕ) (targets : List TermId) (places values : List Value) (i : ℕ) (s : State) (whole : Got Value) → length targets ≤ i
    → whole ≡ assigned_all types (list_before store below (drop i targets)) (drop i places) (drop i values) s → whole ≡ Gives (word 0) s
assign-all types store below targets places values i s whole past so_far =
    so_far ∙ ap (λ (l : List TermId). assigned_all types (list_before store below l) (drop i places) (drop i values) s) (none-left targets i past)

-- calls and turns that count

pub counts : {A : Type 0} (s after : State) (go : State → Got A) → s.left ≡ suc after.left → after ≡ record s { left = after.left } → counted s go ≡ go after
counts s after go left same =
    ap (λ (n : ℕ). counted_from n s go) left ∙ ap (λ (t : State). go t) (sym same)

pub counts-none : {A : Type 0} (s : State) (go : State → Got A) → s.left ≡ 0 → counted s go ≡ Ends (More s.out)
counts-none s go none = ap (λ (n : ℕ). counted_from n s go) none

module _ (round : State → Got Way) (n : ℕ) (s : State) (whole : Got Way) (so_far : whole ≡ rounds (suc n) round s) where
  pub rounds-gave : (way : Way) (s1 : State) → round s ≡ Gives way s1 → whole ≡ turned way s1 (rounds n round)
  rounds-gave way s1 gave = so_far ∙ gives_next way s1 (round s) (λ way s1. turned way s1 (rounds n round)) gave

  pub rounds-stops : (e : Stop) (s1 : State) → Ended e s1 (round s) → Ended e s1 whole
  rounds-stops e s1 ended =
      subst (λ (g : Got Way). Ended e s1 g) (sym so_far) (ended_next e s1 (round s) (λ way s1. turned way s1 (rounds n round)) ended)

  pub rounds-later : (s1 after : State) → round s ≡ Gives goes_on s1 → s1.left ≡ suc after.left → after ≡ record s1 { left = after.left } → whole ≡ rounds n round after
  rounds-later s1 after gave left same = rounds-gave goes_on s1 gave ∙ counts s1 after (rounds n round) left same

  pub rounds-none : (s1 : State) → round s ≡ Gives goes_on s1 → s1.left ≡ 0 → whole ≡ Ends (More s1.out)
  rounds-none s1 gave none = rounds-gave goes_on s1 gave ∙ counts-none s1 (rounds n round) none

module _ (w : Width) (limit step : ℕ) (round : ℕ → State → Got Way) (n i : ℕ) (s : State) (whole : Got Way)
    (so_far : whole ≡ for_rounds (suc n) w limit step round i s) where
  pub for-goes : runs w i limit step ≡ true → whole ≡ next (round i s) (λ way s1. turned way s1 (for_rounds n w limit step round (wrapped w (i + step))))
  for-goes test = so_far ∙ ap (λ (b : Bool). if b then next (round i s) (λ way s1. turned way s1 (for_rounds n w limit step round (wrapped w (i + step)))) else Gives goes_on s) test

  pub for-ends : runs w i limit step ≡ false → whole ≡ Gives goes_on s
  for-ends test = so_far ∙ ap (λ (b : Bool). if b then next (round i s) (λ way s1. turned way s1 (for_rounds n w limit step round (wrapped w (i + step)))) else Gives goes_on s) test

  pub for-gave : runs w i limit step ≡ true → (way : Way) (s1 : State) → round i s ≡ Gives way s1 → whole ≡ turned way s1 (for_rounds n w limit step round (wrapped w (i + step)))
  for-gave test way s1 gave = for-goes test ∙ gives_next way s1 (round i s) (λ way s1. turned way s1 (for_rounds n w limit step round (wrapped w (i + step)))) gave

  pub for-stops : runs w i limit step ≡ true → (e : Stop) (s1 : State) → Ended e s1 (round i s) → Ended e s1 whole
  for-stops test e s1 ended =
      subst (λ (g : Got Way). Ended e s1 g) (sym (for-goes test)) (ended_next e s1 (round i s) (λ way s1. turned way s1 (for_rounds n w limit step round (wrapped w (i + step)))) ended)

  pub for-later : runs w i limit step ≡ true → (s1 after : State) → round i s ≡ Gives goes_on s1 → s1.left ≡ suc after.left → after ≡ record s1 { left = after.left }
      → whole ≡ for_rounds n w limit step round (wrapped w (i + step)) after
  for-later test s1 after gave left same = for-gave test goes_on s1 gave ∙ counts s1 after (for_rounds n w limit step round (wrapped w (i + step))) left same

-- of an address only its number counts
pub assigned-number : (types : List TypeForm) (e : Expression) (a v : Value) (s : State) → assigned types e (word (number a)) v s ≡ assigned types e a v s
assigned-number types (typed at of (Variable x)) a v s = refl
assigned-number types (typed at of form) a v s = refl
