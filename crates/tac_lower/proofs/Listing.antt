-- The pieces of lists of nodes, one after the other.
use Rattle.std.proofs.Common.{◌≡◌, sym, ap, ◌∙◌, ℕ, ◌+◌, ◌<◌, ◌≤◌, List, [], ◌∷◌, ◌++◌, map, length, drop, get_or, append_assoc, append-nil}
use Rattle.std.proofs.lemmas.List.{map-append}
use Rattle.tl_base.specs.declared.ids.TermId.{TermId}
use Rattle.terra_term.specs.Events.{block_events, doing_events, events_of, list_events}
use Rattle.terra_term.specs.TypedTerms as typed
use Rattle.terra_meaning.specs.Meaning.{in_block, in_expression, in_list, in_statement, the_value}
use Rattle.terra_eval.specs.Trees.{block_before, expression_before, list_before, statement_before}
use Rattle.tac_lower.specs.Pieces.{Result, taken}
use Rattle.tac_lower.specs.Lowering.{Target, all, pieces, targets}
use Rattle.tac_lower.specs.Works.{Made, past, scoped}
use Rattle.tac_lower.specs.Data.{result_of, target_of}
use Rattle.tac_lower.specs.Views.{all_of, around_of, one_of, piece_of, pieces_of, target_at, targets_of}
use Rattle.tac_lower.specs.declared.around.Around.{Around}
use Rattle.tac_lower.specs.declared.value.Value.{Value}
use Rattle.tac_lower.specs.declared.value.Target as code_target
use Rattle.terra_eval.proofs.Turns.{turn}
use Rattle.tac_lower.proofs.Lines.{none-left}
use Rattle.tac_lower.proofs.Adding.{past-known, past-then, scoped-known, scoped-then}
use Rattle.tac_lower.proofs.Passing.{declared_append}

-- one more result
more-results : {A B : Type 0} (view : A → B) (values new : List A) (v : A) (y : B) (whole rest : List B) → whole ≡ map view values ++ y ∷ rest
    → view v ≡ y → new ≡ values ++ v ∷ [] → whole ≡ map view new ++ rest
more-results view values new v y whole rest so_far same push =
    so_far ∙ ap (λ (x : _). map view values ++ x ∷ rest) (sym same) ∙ sym (append_assoc (map view values) (view v ∷ []) rest)
    ∙ ap (λ (l : List _). l ++ rest) (sym (ap (map view) push ∙ map-append view values (v ∷ [])))

module _ (c : Around) (below : ℕ) (nodes : List TermId) (i : ℕ) (w : Made) (W : Made) where
  -- expressions
  module _ (R : List Result) (values : List Value)
      (results : R ≡ map result_of values ++ (pieces_of c below (drop i nodes) w).result)
      (works : W ≡ past w (pieces_of c below (drop i nodes) w) (in_list (list_before c.store.now below (drop i nodes)))) where
    pub list-result : (d : TermId) (w1 : Made) (v : Value) (new : List Value) → i < length nodes
        → result_of v ≡ (piece_of c the_value below (get_or nodes i d) w).result
        → w1 ≡ past w (piece_of c the_value below (get_or nodes i d) w) (in_expression (expression_before c.store.now below (get_or nodes i d)))
        → new ≡ values ++ v ∷ []
        → R ≡ map result_of new ++ (pieces_of c below (drop (i + 1) nodes) w1).result
    list-result d w1 v new within same first push =
        let e = expression_before c.store.now below (get_or nodes i d) in
        let p = piece_of c the_value below (get_or nodes i d) w in
        more-results result_of values new v p.result R (pieces_of c below (drop (i + 1) nodes) w1).result
        (results ∙ ap (λ (l : List TermId). map result_of values ++ (pieces_of c below l w).result) (turn nodes i d within)
        ∙ ap (λ (z : Made). map result_of values ++ p.result ∷ (pieces_of c below (drop (i + 1) nodes) z).result) (sym first)) same push

    pub list-work : (d : TermId) (w1 : Made) → i < length nodes
        → w1 ≡ past w (piece_of c the_value below (get_or nodes i d) w) (in_expression (expression_before c.store.now below (get_or nodes i d)))
        → W ≡ past w1 (pieces_of c below (drop (i + 1) nodes) w1) (in_list (list_before c.store.now below (drop (i + 1) nodes)))
    list-work d w1 within first =
        let e = expression_before c.store.now below (get_or nodes i d) in
        let p = piece_of c the_value below (get_or nodes i d) w in
        let es = list_before c.store.now below (drop (i + 1) nodes) in
        works ∙ ap (λ (l : List TermId). past w (pieces_of c below l w) (in_list (list_before c.store.now below l))) (turn nodes i d within)
        ∙ past-then w p (λ v u. taken (λ vs. v ∷ vs) (pieces (around_of c) es (w.next + in_expression e) w.scope u)) (in_expression e) (in_list es)
        (in_list (typed.then_one e es)) (declared_append (events_of e) (list_events es))
        ∙ ap (λ (z : Made). past z (pieces_of c below (drop (i + 1) nodes) z) (in_list es)) (sym first)

    pub list-all : length nodes ≤ i → (map result_of values ≡ R) × (w ≡ W)
    list-all past_end = (
      sym (results ∙ ap (λ (l : List TermId). map result_of values ++ (pieces_of c below l w).result) (none-left nodes i past_end)
          ∙ append-nil (map result_of values)),
      sym (works ∙ ap (λ (l : List TermId). past w (pieces_of c below l w) (in_list (list_before c.store.now below l))) (none-left nodes i past_end)
          ∙ past-known {A = List Result} w []),
    )

  -- targets
  module _ (R : List Target) (values : List code_target.Target)
      (results : R ≡ map target_of values ++ (targets_of c below (drop i nodes) w).result)
      (works : W ≡ past w (targets_of c below (drop i nodes) w) (in_list (list_before c.store.now below (drop i nodes)))) where
    pub target-result : (d : TermId) (w1 : Made) (v : code_target.Target) (new : List code_target.Target) → i < length nodes
        → target_of v ≡ (target_at c below (get_or nodes i d) w).result
        → w1 ≡ past w (target_at c below (get_or nodes i d) w) (in_expression (expression_before c.store.now below (get_or nodes i d)))
        → new ≡ values ++ v ∷ []
        → R ≡ map target_of new ++ (targets_of c below (drop (i + 1) nodes) w1).result
    target-result d w1 v new within same first push =
        let p = target_at c below (get_or nodes i d) w in
        more-results target_of values new v p.result R (targets_of c below (drop (i + 1) nodes) w1).result
        (results ∙ ap (λ (l : List TermId). map target_of values ++ (targets_of c below l w).result) (turn nodes i d within)
        ∙ ap (λ (z : Made). map target_of values ++ p.result ∷ (targets_of c below (drop (i + 1) nodes) z).result) (sym first)) same push

    pub target-work : (d : TermId) (w1 : Made) → i < length nodes
        → w1 ≡ past w (target_at c below (get_or nodes i d) w) (in_expression (expression_before c.store.now below (get_or nodes i d)))
        → W ≡ past w1 (targets_of c below (drop (i + 1) nodes) w1) (in_list (list_before c.store.now below (drop (i + 1) nodes)))
    target-work d w1 within first =
        let e = expression_before c.store.now below (get_or nodes i d) in
        let p = target_at c below (get_or nodes i d) w in
        let es = list_before c.store.now below (drop (i + 1) nodes) in
        works ∙ ap (λ (l : List TermId). past w (targets_of c below l w) (in_list (list_before c.store.now below l))) (turn nodes i d within)
        ∙ past-then w p (λ v u. taken (λ vs. v ∷ vs) (targets (around_of c) es (w.next + in_expression e) w.scope u)) (in_expression e) (in_list es)
        (in_list (typed.then_one e es)) (declared_append (events_of e) (list_events es))
        ∙ ap (λ (z : Made). past z (targets_of c below (drop (i + 1) nodes) z) (in_list es)) (sym first)

    pub target-all : length nodes ≤ i → (map target_of values ≡ R) × (w ≡ W)
    target-all past_end = (
      sym (results ∙ ap (λ (l : List TermId). map target_of values ++ (targets_of c below l w).result) (none-left nodes i past_end)
          ∙ append-nil (map target_of values)),
      sym (works ∙ ap (λ (l : List TermId). past w (targets_of c below l w) (in_list (list_before c.store.now below l))) (none-left nodes i past_end)
          ∙ past-known {A = List Target} w []),
    )

  -- statements
  module _ (works : W ≡ scoped w (all_of c below (drop i nodes) w) (in_block (block_before c.store.now below (drop i nodes)))) where
    pub block-later : (d : TermId) (w1 : Made) → i < length nodes
        → w1 ≡ scoped w (one_of c below (get_or nodes i d) w) (in_statement (statement_before c.store.now below (get_or nodes i d)))
        → W ≡ scoped w1 (all_of c below (drop (i + 1) nodes) w1) (in_block (block_before c.store.now below (drop (i + 1) nodes)))
    block-later d w1 within first =
        let s = statement_before c.store.now below (get_or nodes i d) in
        let p = one_of c below (get_or nodes i d) w in
        let ss = block_before c.store.now below (drop (i + 1) nodes) in
        works ∙ ap (λ (l : List TermId). scoped w (all_of c below l w) (in_block (block_before c.store.now below l))) (turn nodes i d within)
        ∙ scoped-then w p (λ scope u. all (around_of c) ss (w.next + in_statement s) scope u) (in_statement s) (in_block ss)
        (in_block (typed.and_then s ss)) (declared_append (doing_events s) (block_events ss))
        ∙ ap (λ (z : Made). scoped z (all_of c below (drop (i + 1) nodes) z) (in_block ss)) (sym first)

    pub block-all : length nodes ≤ i → w ≡ W
    block-all past_end =
        sym (works ∙ ap (λ (l : List TermId). scoped w (all_of c below l w) (in_block (block_before c.store.now below l))) (none-left nodes i past_end)
        ∙ scoped-known w)
