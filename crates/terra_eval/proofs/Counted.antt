-- A `for` is made of its rounds.
use Rattle.std.proofs.Common.{◌≡◌, sym, ap, ◌∙◌, ℕ, suc, ◌+◌, List, Some}
use Rattle.tl_base.specs.declared.place.Place.{Place}
use Rattle.tl_base.specs.declared.ids.TermId.{TermId}
use Rattle.terra_words.specs.Runs.{Value, number, value_at, word}
use Rattle.terra_words.specs.declared.words.Width.{Width}
use Rattle.terra_term.specs.declared.lists.TypedName.{TypedName}
use Rattle.terra_term.specs.declared.typed.TypedStatement.TheVariants as kinds
use Rattle.terra_term.specs.Held.{Held}
use Rattle.terra_meaning.specs.Values.{width_of}
use Rattle.terra_meaning.specs.Running.{State, Got, Gives, next, scoped}
use Rattle.terra_meaning.specs.Meaning.{Call, Way, behind, counted_for, declared, done_all, done_one, for_rounds, in_list, meant_all}
use Rattle.terra_meaning.specs.Meaning.{step_of, the_value}
use Rattle.terra_eval.specs.declared.looping.Counting.{Counting}
use Rattle.terra_eval.specs.Trees.{block_before, list_before, statement_tree}
use Rattle.terra_eval.specs.Rounds.{counted_round}
use Rattle.terra_eval.proofs.Steps.{gives_next}

module _ (c : Call) (store : Held) (below : ℕ) (at : Place) (name : TypedName) (bounds body : List TermId) (from : ℕ) (s s1 : State) (vs : List Value) (k : Counting) where
  -- its rounds, by the parts of the statement
  round : Place → TypedName → List TermId → (from : ℕ) → ℕ → State → Got Way
  round at name body from i s =
      scoped s (next (declared c at name (Some (word i)) from s) (λ _ s1. done_all c (block_before store below body) (suc from) s1))

  pub counted-for : (later : ℕ) → meant_all c the_value (list_before store below bounds) from s ≡ Gives vs s1
      → k.at ≡ at → k.name ≡ name → k.body.now ≡ body → later ≡ from + in_list (list_before store below bounds)
      → k.width ≡ width_of c.store.types name.of → k.start ≡ number (value_at vs 0) → k.limit ≡ number (value_at vs 1) → k.step ≡ step_of (behind (behind vs))
      → for_rounds c.turns k.width k.limit k.step (counted_round c store below k later) k.start s1 ≡ done_one c (statement_tree store below at (kinds.For name bounds body)) from s
  unfolding round
  counted-for later gave place names block first_is width start limit step =
      let first = from + in_list (list_before store below bounds) in
      ap (λ (p : Place). for_rounds c.turns k.width k.limit k.step (round p k.name k.body.now later) k.start s1) place
      ∙ ap (λ (x : TypedName). for_rounds c.turns k.width k.limit k.step (round at x k.body.now later) k.start s1) names
      ∙ ap (λ (b : List TermId). for_rounds c.turns k.width k.limit k.step (round at name b later) k.start s1) block
      ∙ ap (λ (n : ℕ). for_rounds c.turns k.width k.limit k.step (round at name body n) k.start s1) first_is
      ∙ ap (λ (w : Width). for_rounds c.turns w k.limit k.step (round at name body first) k.start s1) width
      ∙ ap (λ (n : ℕ). for_rounds c.turns (width_of c.store.types name.of) k.limit k.step (round at name body first) n s1) start
      ∙ ap (λ (n : ℕ). for_rounds c.turns (width_of c.store.types name.of) n k.step (round at name body first) (number (value_at vs 0)) s1) limit
      ∙ ap (λ (n : ℕ). for_rounds c.turns (width_of c.store.types name.of) (number (value_at vs 1)) n (round at name body first) (number (value_at vs 0)) s1) step
      ∙ sym (gives_next vs s1 (meant_all c the_value (list_before store below bounds) from s)
      (λ vs s1. counted_for c (width_of c.store.types name.of) (round at name body first) vs s1) gave)
