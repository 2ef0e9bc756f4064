-- The bytes of a struct are made of its entries, one after the other.
use Rattle.std.proofs.Common.{◌≡◌, sym, ap, ◌∙◌, ℕ, ◌+◌, ◌<◌, ◌≤◌, List, ◌∷◌, length, drop, get_or, min, arith, inl, inr}
use Rattle.std.proofs.lemmas.Bool.{cases_lt}
use Rattle.tl_base.specs.declared.ids.TypeId.{TypeId}
use Rattle.terra_memory.specs.Numbers.{overwritten}
use Rattle.terra_words.specs.Runs.{Value}
use Rattle.terra_types.specs.declared.types.TypeForm.{TypeForm}
use Rattle.terra_meaning.specs.Values.{encoded}
use Rattle.terra_meaning.specs.Meaning.{constructed}
use Rattle.terra_eval.proofs.Turns.{turn, none-left}

module _ (types : List TypeForm) (os : List ℕ) (ts : List TypeId) (vs : List Value) (i : ℕ) (all whole : List ℕ)
    (so_far : whole ≡ constructed types all (drop i os) (drop i ts) (drop i vs)) where
  -- one more entry
  pub entry-later : (t : TypeId) (v : Value) → i < length os → i < length ts → i < length vs
      → whole ≡ constructed types (overwritten all (get_or os i 0) (encoded types (get_or ts i t) (get_or vs i v))) (drop (i + 1) os) (drop (i + 1) ts) (drop (i + 1) vs)
  entry-later t v one two three =
      so_far ∙ ap (λ (l : List ℕ). constructed types all l (drop i ts) (drop i vs)) (turn os i 0 one)
      ∙ ap (λ (l : List TypeId). constructed types all (get_or os i 0 ∷ drop (i + 1) os) l (drop i vs)) (turn ts i t two)
      ∙ ap (λ (l : List Value). constructed types all (get_or os i 0 ∷ drop (i + 1) os) (get_or ts i t ∷ drop (i + 1) ts) l) (turn vs i v three)

  no-offset : length os ≤ i → whole ≡ all
  no-offset past = so_far ∙ ap (λ (l : List ℕ). constructed types all l (drop i ts) (drop i vs)) (none-left os i past)

  no-type : i < length os → length ts ≤ i → whole ≡ all
  no-type one past =
      so_far ∙ ap (λ (l : List ℕ). constructed types all l (drop i ts) (drop i vs)) (turn os i 0 one)
      ∙ ap (λ (l : List TypeId). constructed types all (get_or os i 0 ∷ drop (i + 1) os) l (drop i vs)) (none-left ts i past)

  no-value : (t : TypeId) → i < length os → i < length ts → length vs ≤ i → whole ≡ all
  no-value t one two past =
      so_far ∙ ap (λ (l : List ℕ). constructed types all l (drop i ts) (drop i vs)) (turn os i 0 one)
      ∙ ap (λ (l : List TypeId). constructed types all (get_or os i 0 ∷ drop (i + 1) os) l (drop i vs)) (turn ts i t two)
      ∙ ap (λ (l : List Value). constructed types all (get_or os i 0 ∷ drop (i + 1) os) (get_or ts i t ∷ drop (i + 1) ts) l) (none-left vs i past)

  -- no entry is left
  pub entries-end : min (min (length os) (length ts)) (length vs) ≤ i → all ≡ whole
  entries-end past =
      let t : TypeId = record { 0 = 0 } in
      elim (cases_lt i (length os)) [
        | inr h ↦ sym (no-offset h)
        | inl h ↦ elim (cases_lt i (length ts)) [
          | inr k ↦ sym (no-type h k)
          | inl k ↦ sym (no-value t h k (omega arith))
        ]
      ]
