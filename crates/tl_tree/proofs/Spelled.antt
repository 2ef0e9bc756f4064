-- Tokens as a text gives them that has one space before each: where they stand, and how they are written.
use Rattle.std.proofs.Common.{◌≡◌, ℕ, Bool, true, false, List, [], ◌∷◌, ◌++◌, length, refl, ap}
use Rattle.std.specs.Prelude.{◌==◌, ◌||◌}
use Rattle.std.proofs.lemmas.Bool.{eq-eqb}
use Rattle.tl_lex.specs.Answers.{Position}
use Rattle.tl_lex.specs.Lexing as lexing
use Rattle.tl_lex.proofs.CutTexts.{spaced}
use Rattle.tl_tree.specs.declared.symbol.Symbol.{Symbol}
use Rattle.tl_tree.specs.declared.symbol.Symbol.TheVariants as symbols
use Rattle.tl_tree.specs.Symbols.{spelling, number_of}
use Rattle.tl_tree.specs.Tokens.{Token, among}

-- a text can have a token of this symbol
abbrev pub is_written : Symbol → Bool
is_written (symbols.Bad why) = false
is_written symbols.Finish = false
is_written _ = true

-- the shortest token of this symbol, behind a space at a position
abbrev pub placed : Position → Symbol → Token
placed p k = record {
  symbol = k;
  text = spelling k;
  place = (spaced p).place;
  offset = (spaced p).offset;
  first_on_line = (spaced p).place.word == 1;
}

-- the position behind a space and a token with these bytes
abbrev pub next_at : Position → List ℕ → Position
next_at p text = lexing.behind (spaced p) (length text) 0 1

abbrev pub next_word : Position → Symbol → Position
next_word p k = next_at p (spelling k)

-- the position behind tokens that stand on one line from this position on
abbrev pub behind : Position → List Token → Position
behind p [] = p
behind p (t ∷ ts) = behind (next_at p t.text) ts

-- the tokens stand one behind the other from this position on, each in its shortest form
abbrev pub Spelled : Position → List Token → Type 0
Spelled p [] = Unit {0}
Spelled p (t ∷ ts) = ((k : Symbol) × (is_written k ≡ true) × (t ≡ placed p k)) × Spelled (next_at p t.text) ts

pub spelled-append : (p : Position) (xs ys : List Token) → Spelled p xs → Spelled (behind p xs) ys
    → Spelled p (xs ++ ys)
spelled-append p [] ys a b = b
spelled-append p (x ∷ xs) ys a b = (a.0, spelled-append (next_at p x.text) xs ys a.1 b)

pub among_one : (k : Symbol) (p : Position) → among (k ∷ []) (placed p k) ≡ true
among_one k p = ap (λ (b : Bool). b || false) (eq-eqb (number_of k) (number_of k) refl)
