-- Events behind others, one part after the other.
use Rattle.std.proofs.Common.{◌≡◌, sym, ap, ◌∙◌, ℕ, ◌+◌, ◌<◌, ◌≤◌, List, [], ◌∷◌, ◌++◌, length, drop, get_or, append_assoc, append-nil}
use Rattle.tl_base.specs.declared.ids.TermId.{TermId}
use Rattle.terra_term.specs.declared.lists.TypedName.{TypedName}
use Rattle.terra_term.specs.Held.{Held}
use Rattle.terra_term.specs.Events.{declares, declares_all, events_of, list_events, doing_events, block_events}
use Rattle.terra_meaning.specs.Meaning.{types_of}
use Rattle.terra_term.specs.TypedTerms.{type_of}
use Rattle.terra_eval.specs.Trees.{expression_before, list_before, statement_before, block_before}
use Rattle.terra_eval.proofs.Turns.{turn, none-left}

-- two parts, behind others
pub two : {A : Type 0} (old mid new xs ys : List A) → mid ≡ old ++ xs → new ≡ mid ++ ys → new ≡ old ++ (xs ++ ys)
two old mid new xs ys first second = second ∙ ap (λ (l : List _). l ++ ys) first ∙ append_assoc old xs ys

-- a part goes from what is left to what there is
pub part-turn : {A : Type 0} (whole old mid new xs left rest : List A) → old ++ whole ≡ mid ++ left → left ≡ xs ++ rest → new ≡ mid ++ xs → old ++ whole ≡ new ++ rest
part-turn whole old mid new xs left rest so_far step put =
    so_far ∙ ap (λ (l : List _). mid ++ l) step ∙ sym (append_assoc mid xs rest) ∙ ap (λ (l : List _). l ++ rest) (sym put)

pub part-end : {A : Type 0} (whole old mid left : List A) → old ++ whole ≡ mid ++ left → left ≡ [] → mid ≡ old ++ whole
part-end whole old mid left so_far none = sym (so_far ∙ ap (λ (l : List _). mid ++ l) none ∙ append-nil mid)

-- in a scope
pub in-scope : {A : Type 0} (o z : A) (old one two new xs : List A) → one ≡ old ++ o ∷ [] → two ≡ one ++ xs → new ≡ two ++ z ∷ [] → new ≡ old ++ (o ∷ (xs ++ z ∷ []))
in-scope o z old one two new xs first second third =
    third ∙ ap (λ (l : List _). l ++ z ∷ []) (second ∙ ap (λ (l : List _). l ++ xs) first)
    ∙ append_assoc (old ++ o ∷ []) xs (z ∷ []) ∙ append_assoc old (o ∷ []) (xs ++ z ∷ [])

pub names-turn : (xs : List TypedName) (i : ℕ) (d : TypedName) → i < length xs → declares_all (drop i xs) ≡ declares (get_or xs i d) ++ declares_all (drop (i + 1) xs)
names-turn xs i d within = ap declares_all (turn xs i d within)

pub names-end : (xs : List TypedName) (i : ℕ) → length xs ≤ i → declares_all (drop i xs) ≡ []
names-end xs i past = ap declares_all (none-left xs i past)

module _ (store : Held) (below : ℕ) (nodes : List TermId) (i : ℕ) where
  pub list-turn : (d : TermId) → i < length nodes
      → list_events (list_before store below (drop i nodes)) ≡ events_of (expression_before store below (get_or nodes i d)) ++ list_events (list_before store below (drop (i + 1) nodes))
  list-turn d within = ap (λ (l : List TermId). list_events (list_before store below l)) (turn nodes i d within)

  pub list-end : length nodes ≤ i → list_events (list_before store below (drop i nodes)) ≡ []
  list-end past = ap (λ (l : List TermId). list_events (list_before store below l)) (none-left nodes i past)

  pub block-turn : (d : TermId) → i < length nodes
      → block_events (block_before store below (drop i nodes)) ≡ doing_events (statement_before store below (get_or nodes i d)) ++ block_events (block_before store below (drop (i + 1) nodes))
  block-turn d within = ap (λ (l : List TermId). block_events (block_before store below l)) (turn nodes i d within)

  pub block-end : length nodes ≤ i → block_events (block_before store below (drop i nodes)) ≡ []
  block-end past = ap (λ (l : List TermId). block_events (block_before store below l)) (none-left nodes i past)

  pub types-next : (d : TermId) → i < length nodes
      → types_of (list_before store below (drop i nodes)) ≡ type_of (expression_before store below (get_or nodes i d)) ∷ types_of (list_before store below (drop (i + 1) nodes))
  types-next d within = ap (λ (l : List TermId). types_of (list_before store below l)) (turn nodes i d within)

  pub types-none : length nodes ≤ i → types_of (list_before store below (drop i nodes)) ≡ []
  types-none past = ap (λ (l : List TermId). types_of (list_before store below l)) (none-left nodes i past)
