-- The words that take parameters are within their weight.
use Rattle.std.proofs.Common.{◌≡◌, ℕ, ◌+◌, ◌≤◌, List, [], ◌∷◌, sum_by, arith}
use Rattle.std.specs.Prelude.{fold}
use Rattle.std.proofs.lemmas.List.Sums.{sum_by-cons}
use Rattle.tac_form.specs.declared.tac.Destination.{Destination}
use Rattle.tac_form.specs.declared.tac.Destination.TheVariants.{Temp, Area, Nothing}
use Rattle.tac_form.specs.declared.tac.Tac.{Tac}
use Rattle.tac_form.specs.Weights.{block_words, code_words}
use Rattle.rv_select.specs.Entering.{parameter_words, receiving}

each-least : (f : Destination → ℕ) → ((d : Destination) → parameter_words d ≤ f d) → (ds : List Destination) → receiving ds ≤ sum_by f ds
each-least f h [] = omega arith
each-least f h (d ∷ ds) = least (receiving ds) (parameter_words d) (sum_by f ds) (sum_by f (d ∷ ds)) (f d) (each-least f h ds) (h d)
    (sum_by-cons f d ds)
  where
    least : (r w a c n : ℕ) → r ≤ a → w ≤ n → c ≡ n + a → w + r ≤ c
    least r w a c n g k e = omega (arith, g, k, e)

taken-least : (f : Destination → ℕ) (ds : List Destination) (other : ℕ) → ((t : ℕ) → 6 ≤ f (Temp t)) → ((n : ℕ) → 42 ≤ f (Area n)) →
    79 + receiving ds + other ≤ 79 + fold (λ a x. a + f x) 0 ds + other
taken-least f ds other temp area = let h = each-least f least ds in omega (arith, h)
  where
    least : (d : Destination) → parameter_words d ≤ f d
    least (Temp t) = temp t
    least (Area n) = area n
    least Nothing = omega arith

pub params-least : (code : Tac) → 79 + receiving code.parameters + sum_by block_words code.blocks ≤ code_words code
params-least code = taken-least _ code.parameters (sum_by block_words code.blocks) (λ t. omega arith) (λ n. omega arith)
