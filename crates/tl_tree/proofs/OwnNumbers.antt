-- Each symbol has a number of its own.
use Rattle.std.proofs.Common.{◌≡◌, ℕ, true, eqb, List, [], ◌∷◌, ◌++◌, get_or, ◌⊎◌, inl, inr, refl, sym, ap, ◌∙◌}
use Rattle.std.proofs.lemmas.Bool.{false≢true, eq-eqb}
use Rattle.tl_tree.specs.declared.symbol.Symbol.{Symbol}
use Rattle.tl_tree.specs.declared.symbol.Symbol.TheVariants as symbols
use Rattle.tl_tree.specs.Symbols.{number_of, is_bad, words, signs}
use Rattle.tl_tree.specs.Laws.{HasOwnNumbers}

-- the symbols in the order of their numbers; at 65 stands that of what breaks a rule
abbrev in_order : List Symbol
in_order = words ++ signs
    ++ (symbols.Name ∷ symbols.Numeral ∷ symbols.LongNumeral ∷ symbols.UnsignedNumeral ∷ symbols.Literal
    ∷ symbols.Finish ∷ symbols.Finish ∷ [])

abbrev symbol_at : ℕ → Symbol
symbol_at n = get_or in_order n symbols.Finish

found : (s : Symbol) → (is_bad s ≡ true) ⊎ (symbol_at (number_of s) ≡ s)
found (symbols.Bad why) = inl refl
found _ = inr refl

bad_number : (s : Symbol) → is_bad s ≡ true → number_of s ≡ 65
bad_number (symbols.Bad why) h = refl
bad_number _ h = absurd (false≢true h)

bad_by : (s : Symbol) → eqb (number_of s) 65 ≡ true → is_bad s ≡ true
bad_by (symbols.Bad why) h = refl
bad_by _ h = absurd (false≢true h)

only_bad : (s : Symbol) → number_of s ≡ 65 → is_bad s ≡ true
only_bad s h = bad_by s (eq-eqb (number_of s) 65 h)

pub own_numbers : HasOwnNumbers
own_numbers a b e = go (found a) (found b)
  where
    go : (is_bad a ≡ true) ⊎ (symbol_at (number_of a) ≡ a) → (is_bad b ≡ true) ⊎ (symbol_at (number_of b) ≡ b)
        → (a ≡ b) ⊎ ((is_bad a ≡ true) × (is_bad b ≡ true))
    go (inl p) q = inr (p, only_bad b (sym e ∙ bad_number a p))
    go (inr p) (inl q) = inr (only_bad a (e ∙ bad_number b q), q)
    go (inr p) (inr q) = inl (sym p ∙ ap (λ (n : ℕ). symbol_at n) e ∙ q)
