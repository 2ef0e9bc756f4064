-- The symbols that are written so are as long as the text.
use Rattle.std.proofs.Common.{◌≡◌, ℕ, Bool, true, false, cond, eqb, List, [], ◌∷◌, length, refl, ap, ◌∙◌, arith}
use Rattle.std.specs.Prelude.{bytes_eq, ◌&&◌, nat_eq}
use Rattle.std.proofs.lemmas.Bool.{eqb-false}
use Rattle.tl_tree.specs.declared.symbol.Symbol.{Symbol}
use Rattle.tl_tree.specs.Symbols.{spelling, written, of_length}

and_none : (a : Bool) → (a && false) ≡ false
and_none true = refl
and_none false = refl

other_length : (a b : List ℕ) → (length b ≡ length a → ⊥) → bytes_eq a b ≡ false
other_length [] [] h = absurd (h refl)
other_length [] (y ∷ ys) h = refl
other_length (x ∷ xs) [] h = refl
other_length (x ∷ xs) (y ∷ ys) h =
    ap (λ (t : Bool). nat_eq x y && t) (other_length xs ys (λ e. h (omega arith))) ∙ and_none (nat_eq x y)

by_length : (ss : List Symbol) (text : List ℕ) → written ss text ≡ written (of_length (length text) ss) text
by_length [] text = refl
by_length (s ∷ more) text = go (eqb (length (spelling s)) (length text)) refl (by_length more text)
  where
    go : (b : Bool) → eqb (length (spelling s)) (length text) ≡ b
        → written more text ≡ written (of_length (length text) more) text
        → cond (bytes_eq text (spelling s)) s (written more text)
        ≡ written (cond b (s ∷ of_length (length text) more) (of_length (length text) more)) text
    go true e ih = ap (λ (t : Symbol). cond (bytes_eq text (spelling s)) s t) ih
    go false e ih = ap (λ (c : Bool). cond c s (written more text))
        (other_length text (spelling s) (eqb-false (length (spelling s)) (length text) e)) ∙ ih

pub written_of_length : (ss : List Symbol) (text : List ℕ) (n : ℕ) → length text ≡ n
    → written ss text ≡ written (of_length n ss) text
written_of_length ss text n e = by_length ss text ∙ ap (λ (m : ℕ). written (of_length m ss) text) e
