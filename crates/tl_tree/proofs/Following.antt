-- What may follow each part, and the completions of the forms that both languages share.
use Rattle.std.proofs.Common.{◌≡◌, ℕ, Bool, true, List, [], ◌∷◌, refl}
use Rattle.tl_tree.specs.declared.symbol.Symbol.{Symbol}
use Rattle.tl_tree.specs.declared.symbol.Symbol.TheVariants as symbols
use Rattle.tl_tree.specs.Tokens.{Token, among, is, sample}
use Rattle.tl_tree.specs.Tree.{Tree, Part, Expression, Operand, Concatenation, Arguments, Fields, Statements}
use Rattle.tl_tree.specs.Tree.{FunctionBody, Entries, TerraExpression, TerraOperand, TerraArguments, Initialisers}
use Rattle.tl_tree.specs.Tree.{TerraStatements, TerraFunctionBody, QuotedCode}
use Rattle.tl_tree.specs.Grammar.{Grammar, give, bind, Rule, Parts, is_of}
use Rattle.tl_tree.specs.Forms.{sign, listed_behind, listed, separated_behind, name, semicolon, separator, path_names}
use Rattle.tl_tree.specs.Forms.{Chained, operators, right_operator}
use Rattle.tl_tree.proofs.Classes.{disjoint, subset, apart_from, within}
use Rattle.tl_tree.proofs.Spelled.{is_written}
use Rattle.tl_tree.proofs.Settings.{Setting}
use Rattle.tl_tree.proofs.Going.{one, Begins, begins-give, begins-next, begins-then, begins-when, begins-many, Goes}
use Rattle.tl_tree.proofs.Going.{goes-give, goes-next, goes-then, goes-token, goes-when, goes-many}

-- what may follow a block
abbrev pub after_block : List Symbol
after_block = symbols.End ∷ symbols.Else ∷ symbols.Elseif ∷ symbols.Until ∷ []

-- what may follow an expression
abbrev pub after_expression : List Symbol
after_expression =
    symbols.CloseParen ∷ symbols.CloseBracket ∷ symbols.CloseBrace ∷ symbols.Comma ∷ symbols.Do ∷ symbols.Then
    ∷ symbols.End ∷ symbols.Else ∷ symbols.Elseif
    ∷ symbols.Until ∷ symbols.In ∷ symbols.Equal ∷ []

abbrev pub following : Part → List Symbol
following (Expression m) = after_expression
following (Operand m) = after_expression
following (Concatenation m) = after_expression
following (Arguments m) = one symbols.CloseParen
following (Fields m) = one symbols.CloseBrace
following (Statements c) = after_block
following FunctionBody = after_expression
following (Entries m) = one symbols.CloseBrace
following TerraExpression = after_expression
following TerraOperand = after_expression
following TerraArguments = one symbols.CloseParen
following Initialisers = one symbols.CloseBrace
following TerraStatements = after_block
following (TerraFunctionBody place) = after_expression
following QuotedCode = one symbols.End

abbrev pub after_part : Part → Token → Bool
after_part part = among (following part)

-- ---- from nothing on

module _ {levels : ℕ} {parts : Rule → Parts} where
  pub begins-name : {xs : List Symbol} → Begins levels parts name (one symbols.Name) xs
  begins-name = begins-then symbols.Name (λ x. begins-give) refl refl

  pub begins-listed_behind : {x : Grammar Tree} {a : Tree} (xs : List Symbol) → disjoint xs (one symbols.Comma) ≡ true
      → Begins levels parts (listed_behind x a) xs xs
  begins-listed_behind xs d = begins-many (λ b. apart_from xs (one symbols.Comma) d)

  pub begins-listed : {x : Grammar Tree} {first : List Symbol} (xs : List Symbol) → Begins levels parts x first xs
      → disjoint xs (one symbols.Comma) ≡ true → Begins levels parts (listed x) first xs
  begins-listed xs p d = begins-next p (λ e. begins-listed_behind xs d)

  pub begins-separated_behind : {x : Grammar Tree} {a : Tree}
      → Begins levels parts (separated_behind x a) (one symbols.CloseBrace) (one symbols.CloseBrace)
  begins-separated_behind =
      begins-many (λ b. apart_from (one symbols.CloseBrace) (symbols.Comma ∷ symbols.Semicolon ∷ []) refl)

  pub begins-operators : (ss : List Symbol) (x : ℕ → Grammar Chained) (make : Token → Tree → Tree → Tree) {a : Chained}
      (xs : List Symbol) → disjoint xs ss ≡ true → Begins levels parts (operators ss x make a) xs xs
  begins-operators ss x make xs d = begins-many (λ b. apart_from xs ss d)

  pub begins-right_operator : {part : Part} (make : Token → Tree → Tree → Tree) {a : Chained} (k : Symbol)
      (xs : List Symbol) → disjoint xs (one k) ≡ true → Begins levels parts (right_operator k part make a) xs xs
  begins-right_operator make k xs d = begins-when begins-give (apart_from xs (one k) d)

-- ---- from any front

module _ {s : Setting after_part} where
  -- a token, and nothing behind it
  pub goes-closed : {A : Type 0} {f : Token × Tree → A} {xs : List Symbol} (k : Symbol)
      → is_of (is k) (sample k) ≡ true → is_written k ≡ true → Goes s (bind (sign k) λ y. give (f y)) (one k) xs
  goes-closed k good written = goes-then k (λ y. goes-give) good written

  pub goes-name : {xs : List Symbol} → Goes s name (one symbols.Name) xs
  goes-name = goes-closed symbols.Name refl refl

  pub goes-listed_behind : {x : Grammar Tree} {a : Tree} {first : List Symbol} (xs : List Symbol) → Goes s x first xs
      → disjoint xs (one symbols.Comma) ≡ true → Goes s (listed_behind x a) xs xs
  goes-listed_behind {x} {a} {first} xs p d =
      goes-many (λ t. first) (λ b t h. tt) (λ t y b h. goes-next p (λ e. goes-give))
      (λ b. apart_from xs (one symbols.Comma) d)

  pub goes-listed : {x : Grammar Tree} {first : List Symbol} (xs : List Symbol) → Goes s x first xs
      → disjoint xs (one symbols.Comma) ≡ true → Goes s (listed x) first xs
  goes-listed xs p d = goes-next p (λ e. goes-listed_behind xs p d)

  pub goes-separated_behind : {x : Grammar Tree} {a : Tree} {first : List Symbol}
      → Goes s x first (one symbols.CloseBrace) → disjoint first (one symbols.CloseBrace) ≡ true
      → Goes s (separated_behind x a) (one symbols.CloseBrace) (one symbols.CloseBrace)
  goes-separated_behind {x} {a} {first} p d =
      goes-many (λ t. first) (λ b t h. tt)
      (λ t y b h. goes-when goes-give (goes-next p (λ e. goes-give)) (apart_from first (one symbols.CloseBrace) d))
      (λ b. apart_from (one symbols.CloseBrace) (symbols.Comma ∷ symbols.Semicolon ∷ []) refl)

  pub goes-semicolon : (xs : List Symbol) → disjoint xs (one symbols.Semicolon) ≡ true → Goes s semicolon xs xs
  goes-semicolon xs d = goes-when (goes-closed symbols.Semicolon refl refl) goes-give
      (apart_from xs (one symbols.Semicolon) d)

  pub goes-separator : (xs : List Symbol) → disjoint xs (symbols.Comma ∷ symbols.Semicolon ∷ []) ≡ true
      → Goes s separator xs xs
  goes-separator xs d =
      goes-when (goes-token symbols.Semicolon (λ t. xs) (λ t h. tt) (λ y h. goes-give) (λ p. refl) refl) goes-give
      (apart_from xs (symbols.Comma ∷ symbols.Semicolon ∷ []) d)

  pub goes-path_names : {a : Tree} (xs : List Symbol) → disjoint xs (one symbols.Dot) ≡ true
      → Goes s (path_names a) xs xs
  goes-path_names xs d = goes-many (λ t. one symbols.Name) (λ b t h. tt)
      (λ t x b h. goes-closed symbols.Name refl refl) (λ b. apart_from xs (one symbols.Dot) d)

  pub goes-operators : (ss : List Symbol) (x : ℕ → Grammar Chained) (make : Token → Tree → Tree → Tree) (a : Chained)
      {first : List Symbol} (xs : List Symbol) → ((n : ℕ) → Goes s (x n) first xs) → disjoint xs ss ≡ true
      → Goes s (operators ss x make a) xs xs
  goes-operators ss x make a {first} xs p d =
      goes-many (λ t. first) (λ b t h. tt) (λ t y b h. goes-next (p _) (λ c. goes-give)) (λ b. apart_from xs ss d)

  pub goes-right_operator : {part : Part} (make : Token → Tree → Tree → Tree) {a : Chained} (k : Symbol)
      (xs : List Symbol) → is_of (is k) (sample k) ≡ true → is_written k ≡ true → subset xs (following part) ≡ true
      → disjoint xs (one k) ≡ true → Goes s (right_operator k part make a) xs xs
  goes-right_operator {part} make k xs good written w d =
      goes-when (goes-token k (λ t. xs) (λ t h. within xs (following part) w) (λ x h. goes-give) (λ p. good) written)
      goes-give (apart_from xs (one k) d)
