-- The completions of Terra expressions, one for each name of the grammar.
use Rattle.std.proofs.Common.{◌≡◌, ℕ, true, List, refl}
use Rattle.tl_tree.specs.declared.symbol.Symbol.{Symbol}
use Rattle.tl_tree.specs.declared.symbol.Symbol.TheVariants as symbols
use Rattle.tl_tree.specs.declared.mode.Mode.TheVariants as modes
use Rattle.tl_tree.specs.declared.mode.OperandKind.{OperandKind}
use Rattle.tl_tree.specs.declared.mode.OperandKind.TheVariants as operands
use Rattle.tl_tree.specs.Tokens.{Token, among}
use Rattle.tl_tree.specs.Tree.{Tree, Expression, TerraExpression, TerraArguments}
use Rattle.tl_tree.specs.Grammar.{Rule, Parts}
use Rattle.tl_tree.specs.Forms.{Chained, comparisons, additive, multiplicative}
use Rattle.tl_tree.specs.LuaExpressions.{may_continue}
use Rattle.tl_tree.specs.TerraExpressions.{escape, terra_name, terra_base, terra_suffix_symbols, TerraSuffix, InParens}
use Rattle.tl_tree.specs.TerraExpressions.{InBrackets, Selects, CallsMethod, Constructs, terra_suffix_of}
use Rattle.tl_tree.specs.TerraExpressions.{terra_suffix_opens, terra_suffix, terra_suffixes, terra_numerals}
use Rattle.tl_tree.specs.TerraExpressions.{terra_primary, terra_operation, terra_prefix_symbols, terra_prefixed}
use Rattle.tl_tree.specs.TerraExpressions.{terra_exponent, terra_power, terra_unary, terra_product, terra_sum, shifts}
use Rattle.tl_tree.specs.TerraExpressions.{terra_shift, terra_comparison, terra_conjunction, terra_disjunction}
use Rattle.tl_tree.specs.TerraExpressions.{terra_expression_behind, terra_expression, terra_expressions}
use Rattle.tl_tree.specs.TerraExpressions.{terra_operand_of, terra_arguments_of, named_initialiser}
use Rattle.tl_tree.specs.TerraExpressions.{positional_initialisers, initialisers_behind, initialisers}
use Rattle.tl_tree.proofs.Classes.{disjoint, subset, apart_from, apart_from_and, within}
use Rattle.tl_tree.proofs.Settings.{Setting, CoveredBy}
use Rattle.tl_tree.proofs.Going.{one, Begins, begins-give, begins-bind, begins-next, begins-when, begins-many, Goes}
use Rattle.tl_tree.proofs.Going.{goes-within, goes-give, goes-bind, goes-next, goes-then, goes-open, goes-token}
use Rattle.tl_tree.proofs.Going.{goes-when, goes-many}
use Rattle.tl_tree.proofs.Following.{after_expression, after_part, begins-name, begins-listed_behind}
use Rattle.tl_tree.proofs.Following.{begins-separated_behind, begins-operators, goes-closed, goes-name, goes-listed}
use Rattle.tl_tree.proofs.Following.{goes-separated_behind, goes-operators}
use Rattle.tl_tree.proofs.LuaExpressionsGo.{only_name, goes-as_operand, goes-leaf}

-- ---- from nothing on

module _ {levels : ℕ} {parts : Rule → Parts} where
  pub begins-terra_name : {xs : List Symbol} → Begins levels parts terra_name only_name xs
  begins-terra_name = begins-when begins-name (apart_from only_name (one symbols.OpenBracket) refl)

  begins-terra_base : {xs : List Symbol} → Begins levels parts terra_base only_name xs
  begins-terra_base =
      begins-when (begins-when (begins-next begins-name (λ n. begins-give))
      (apart_from only_name (one symbols.OpenBracket) refl)) (apart_from only_name (one symbols.OpenParen) refl)

  begins-terra_primary : {links : ℕ} → Begins levels parts (terra_primary links) only_name after_expression
  begins-terra_primary =
      begins-when
      (begins-when
      (begins-when
      (begins-when
      (begins-when
      (begins-next begins-terra_base
      (λ b. begins-next (begins-many
      (λ c. apart_from_and after_expression terra_suffix_symbols (may_continue modes.Types) refl)) (λ a. begins-give)))
      (apart_from only_name (one symbols.True) refl))
      (apart_from only_name (one symbols.False) refl))
      (apart_from only_name (one symbols.Nil) refl))
      (apart_from only_name (one symbols.Literal) refl))
      (apart_from only_name terra_numerals refl)

  begins-terra_unary : {links : ℕ} → Begins levels parts (terra_unary links) only_name after_expression
  begins-terra_unary =
      begins-when (begins-next begins-terra_primary
      (λ a. begins-operators (one symbols.Caret) terra_exponent terra_operation after_expression refl))
      (apart_from only_name terra_prefix_symbols refl)

  begins-terra_product : {links : ℕ} → Begins levels parts (terra_product links) only_name after_expression
  begins-terra_product = begins-next begins-terra_unary
      (λ a. begins-operators multiplicative terra_unary terra_operation after_expression refl)

  begins-terra_sum : {links : ℕ} → Begins levels parts (terra_sum links) only_name after_expression
  begins-terra_sum = begins-next begins-terra_product
      (λ a. begins-operators additive terra_product terra_operation after_expression refl)

  begins-terra_shift : {links : ℕ} → Begins levels parts (terra_shift links) only_name after_expression
  begins-terra_shift = begins-next begins-terra_sum
      (λ a. begins-operators shifts terra_sum terra_operation after_expression refl)

  begins-terra_comparison : {links : ℕ} → Begins levels parts (terra_comparison links) only_name after_expression
  begins-terra_comparison =
      begins-next begins-terra_shift
      (λ a. begins-operators comparisons terra_shift terra_operation after_expression refl)

  begins-terra_conjunction : {links : ℕ} → Begins levels parts (terra_conjunction links) only_name after_expression
  begins-terra_conjunction =
      begins-next begins-terra_comparison
      (λ a. begins-operators (one symbols.And) terra_comparison terra_operation after_expression refl)

  begins-terra_disjunction : {links : ℕ} → Begins levels parts (terra_disjunction links) only_name after_expression
  begins-terra_disjunction =
      begins-next begins-terra_conjunction
      (λ a. begins-operators (one symbols.Or) terra_conjunction terra_operation after_expression refl)

  pub begins-terra_expression : Begins levels parts terra_expression only_name after_expression
  begins-terra_expression = begins-next begins-terra_disjunction (λ a. begins-give)

  pub begins-terra_operand_of : Begins levels parts terra_operand_of only_name after_expression
  begins-terra_operand_of = begins-next begins-terra_unary (λ a. begins-give)

  pub begins-terra_arguments_of : Begins levels parts terra_arguments_of only_name (one symbols.CloseParen)
  begins-terra_arguments_of =
      begins-when (begins-bind begins-terra_expression (λ e. begins-listed_behind (one symbols.CloseParen) refl) refl)
      (apart_from only_name (one symbols.CloseParen) refl)

  begins-initialisers_behind : (kind : OperandKind) (e : Tree)
      → Begins levels parts (initialisers_behind kind e) (one symbols.CloseBrace) (one symbols.CloseBrace)
  begins-initialisers_behind operands.Name e =
      begins-when begins-separated_behind (apart_from (one symbols.CloseBrace) (one symbols.Equal) refl)
  begins-initialisers_behind _ e = begins-separated_behind

  pub begins-initialisers : Begins levels parts initialisers only_name (one symbols.CloseBrace)
  begins-initialisers = begins-when
      (begins-bind begins-terra_disjunction (λ e. begins-initialisers_behind e.kind e.tree) refl)
      (apart_from only_name (one symbols.CloseBrace) refl)

-- ---- from any front

-- what a suffix goes on with, by its form
abbrev terra_suffix_first : TerraSuffix → List Symbol
terra_suffix_first InParens = one symbols.CloseParen
terra_suffix_first InBrackets = one symbols.CloseBracket
terra_suffix_first Selects = only_name
terra_suffix_first CallsMethod = only_name
terra_suffix_first Constructs = one symbols.CloseBrace

terra_suffix_covers : (s : Setting after_part) (f : TerraSuffix)
    → CoveredBy s (among (terra_suffix_first f)) (terra_suffix_opens f)
terra_suffix_covers s InParens = within (one symbols.CloseParen) (one symbols.CloseParen) refl
terra_suffix_covers s InBrackets = within (one symbols.CloseBracket) after_expression refl
terra_suffix_covers s Selects = tt
terra_suffix_covers s CallsMethod = tt
terra_suffix_covers s Constructs = within (one symbols.CloseBrace) (one symbols.CloseBrace) refl

module _ {s : Setting after_part} where
  pub goes-escape : {xs : List Symbol} → Goes s escape (one symbols.OpenBracket) xs
  goes-escape =
      goes-open symbols.OpenBracket (Expression modes.Plain) (λ x. goes-closed symbols.CloseBracket refl refl) refl
      refl (within (one symbols.CloseBracket) after_expression refl)

  pub goes-terra_name : {xs : List Symbol} → Goes s terra_name only_name xs
  goes-terra_name = goes-when goes-escape goes-name (apart_from only_name (one symbols.OpenBracket) refl)

  goes-terra_base : {xs : List Symbol} → Goes s terra_base only_name xs
  goes-terra_base =
      goes-when (goes-open symbols.OpenParen TerraExpression (λ x. goes-closed symbols.CloseParen refl refl) refl refl
      (within (one symbols.CloseParen) after_expression refl))
      (goes-when (goes-next goes-escape (λ e. goes-give)) (goes-next goes-name (λ n. goes-give))
      (apart_from only_name (one symbols.OpenBracket) refl))
      (apart_from only_name (one symbols.OpenParen) refl)

  goes-terra_suffix : (f : TerraSuffix) (t : Token) (x : Tree) (a : Chained) (xs : List Symbol)
      → Goes s (terra_suffix f t x a) (terra_suffix_first f) xs
  goes-terra_suffix InParens t x a xs = goes-closed symbols.CloseParen refl refl
  goes-terra_suffix InBrackets t x a xs = goes-closed symbols.CloseBracket refl refl
  goes-terra_suffix Selects t x a xs = goes-next goes-terra_name (λ n. goes-give)
  goes-terra_suffix CallsMethod t x a xs =
      goes-next goes-terra_name
      (λ n. goes-open symbols.OpenParen TerraArguments (λ es. goes-closed symbols.CloseParen refl refl) refl refl
      (within (one symbols.CloseParen) (one symbols.CloseParen) refl))
  goes-terra_suffix Constructs t x a xs = goes-closed symbols.CloseBrace refl refl

  pub goes-terra_suffixes : (a : Chained) (xs : List Symbol) → disjoint xs terra_suffix_symbols ≡ true
      → Goes s (terra_suffixes a) xs xs
  goes-terra_suffixes a xs d =
      goes-many (λ t. terra_suffix_first (terra_suffix_of t.symbol))
      (λ b t h. terra_suffix_covers s (terra_suffix_of t.symbol))
      (λ t x b h. goes-terra_suffix (terra_suffix_of t.symbol) t x b xs)
      (λ b. apart_from_and xs terra_suffix_symbols (may_continue modes.Types) d)

  goes-terra_primary : {links : ℕ} → Goes s (terra_primary links) only_name after_expression
  goes-terra_primary =
      goes-when (goes-as_operand
      (goes-token symbols.Numeral (λ t. after_expression) (λ t h. tt) (λ x h. goes-give) (λ p. refl) refl))
      (goes-when (goes-leaf symbols.Literal refl refl)
      (goes-when (goes-leaf symbols.Nil refl refl)
      (goes-when (goes-leaf symbols.False refl refl)
      (goes-when (goes-leaf symbols.True refl refl)
      (goes-next goes-terra_base (λ b. goes-next (goes-terra_suffixes b after_expression refl) (λ a. goes-give)))
      (apart_from only_name (one symbols.True) refl))
      (apart_from only_name (one symbols.False) refl))
      (apart_from only_name (one symbols.Nil) refl))
      (apart_from only_name (one symbols.Literal) refl))
      (apart_from only_name terra_numerals refl)

  goes-terra_prefixed : {links : ℕ} → Goes s (terra_prefixed links) (one symbols.Minus) after_expression
  goes-terra_prefixed = goes-token symbols.Minus (λ t. after_expression)
      (λ t h. within after_expression after_expression refl) (λ x h. goes-give) (λ p. refl) refl

  goes-terra_exponent : {links : ℕ} → Goes s (terra_exponent links) only_name after_expression
  goes-terra_exponent = goes-when goes-terra_prefixed goes-terra_primary
      (apart_from only_name terra_prefix_symbols refl)

  goes-terra_power : {links : ℕ} → Goes s (terra_power links) only_name after_expression
  goes-terra_power = goes-next goes-terra_primary
      (λ a. goes-operators (one symbols.Caret) terra_exponent terra_operation a after_expression
      (λ n. goes-terra_exponent) refl)

  goes-terra_unary : {links : ℕ} → Goes s (terra_unary links) only_name after_expression
  goes-terra_unary = goes-when goes-terra_prefixed goes-terra_power (apart_from only_name terra_prefix_symbols refl)

  goes-terra_product : {links : ℕ} → Goes s (terra_product links) only_name after_expression
  goes-terra_product = goes-next goes-terra_unary
      (λ a. goes-operators multiplicative terra_unary terra_operation a after_expression (λ n. goes-terra_unary) refl)

  goes-terra_sum : {links : ℕ} → Goes s (terra_sum links) only_name after_expression
  goes-terra_sum = goes-next goes-terra_product
      (λ a. goes-operators additive terra_product terra_operation a after_expression (λ n. goes-terra_product) refl)

  goes-terra_shift : {links : ℕ} → Goes s (terra_shift links) only_name after_expression
  goes-terra_shift = goes-next goes-terra_sum
      (λ a. goes-operators shifts terra_sum terra_operation a after_expression (λ n. goes-terra_sum) refl)

  goes-terra_comparison : {links : ℕ} → Goes s (terra_comparison links) only_name after_expression
  goes-terra_comparison = goes-next goes-terra_shift
      (λ a. goes-operators comparisons terra_shift terra_operation a after_expression (λ n. goes-terra_shift) refl)

  goes-terra_conjunction : {links : ℕ} → Goes s (terra_conjunction links) only_name after_expression
  goes-terra_conjunction =
      goes-next goes-terra_comparison
      (λ a. goes-operators (one symbols.And) terra_comparison terra_operation a after_expression
      (λ n. goes-terra_comparison) refl)

  goes-terra_disjunction : {links : ℕ} → Goes s (terra_disjunction links) only_name after_expression
  goes-terra_disjunction =
      goes-next goes-terra_conjunction
      (λ a. goes-operators (one symbols.Or) terra_conjunction terra_operation a after_expression
      (λ n. goes-terra_conjunction) refl)

  pub goes-terra_expression_behind : (a : Chained)
      → Goes s (terra_expression_behind a) after_expression after_expression
  goes-terra_expression_behind a =
      goes-next (goes-operators multiplicative terra_unary terra_operation a after_expression (λ n. goes-terra_unary)
      refl)
      (λ b. goes-next (goes-operators additive terra_product terra_operation b after_expression
      (λ n. goes-terra_product) refl)
      (λ d. goes-next (goes-operators shifts terra_sum terra_operation d after_expression (λ n. goes-terra_sum) refl)
      (λ e. goes-next (goes-operators comparisons terra_shift terra_operation e after_expression
      (λ n. goes-terra_shift) refl)
      (λ f. goes-next (goes-operators (one symbols.And) terra_comparison terra_operation f after_expression
      (λ n. goes-terra_comparison) refl)
      (λ g. goes-operators (one symbols.Or) terra_conjunction terra_operation g after_expression
      (λ n. goes-terra_conjunction) refl)))))

  pub goes-terra_expression : Goes s terra_expression only_name after_expression
  goes-terra_expression = goes-next goes-terra_disjunction (λ a. goes-give)

  pub goes-terra_expressions : (xs : List Symbol) → subset xs after_expression ≡ true
      → disjoint xs (one symbols.Comma) ≡ true → Goes s terra_expressions only_name xs
  goes-terra_expressions xs w d = goes-listed xs (goes-within goes-terra_expression refl w) d

  -- ---- what the tokens of expressions open

  pub goes-terra_operand_of : Goes s terra_operand_of only_name after_expression
  goes-terra_operand_of = goes-next goes-terra_unary (λ a. goes-give)

  pub goes-terra_arguments_of : Goes s terra_arguments_of only_name (one symbols.CloseParen)
  goes-terra_arguments_of =
      goes-when goes-give (goes-terra_expressions (one symbols.CloseParen) refl refl)
      (apart_from only_name (one symbols.CloseParen) refl)

  goes-named_initialiser : Goes s named_initialiser only_name (one symbols.CloseBrace)
  goes-named_initialiser =
      goes-next goes-name (λ n.
      goes-then symbols.Equal (λ y. goes-bind goes-terra_expression (λ v. goes-give) refl) refl refl)

  goes-positional_initialisers : {e : Tree}
      → Goes s (positional_initialisers e) (one symbols.CloseBrace) (one symbols.CloseBrace)
  goes-positional_initialisers =
      goes-separated_behind {first = only_name} (goes-within goes-terra_expression refl refl) refl

  goes-initialisers_behind : (kind : OperandKind) (e : Tree)
      → Goes s (initialisers_behind kind e) (one symbols.CloseBrace) (one symbols.CloseBrace)
  goes-initialisers_behind operands.Name e =
      goes-when (goes-then symbols.Equal
      (λ y. goes-bind goes-terra_expression (λ v. goes-separated_behind goes-named_initialiser refl) refl) refl
      refl) goes-positional_initialisers
      (apart_from (one symbols.CloseBrace) (one symbols.Equal) refl)
  goes-initialisers_behind _ e = goes-positional_initialisers

  pub goes-initialisers : Goes s initialisers only_name (one symbols.CloseBrace)
  goes-initialisers = goes-when goes-give
      (goes-bind goes-terra_disjunction (λ e. goes-initialisers_behind e.kind e.tree) refl)
      (apart_from only_name (one symbols.CloseBrace) refl)
