-- The completions of Lua expressions, one for each name of the grammar.
use Rattle.std.proofs.Common.{◌≡◌, ℕ, true, List, refl}
use Rattle.tl_tree.specs.declared.symbol.Symbol.{Symbol}
use Rattle.tl_tree.specs.declared.symbol.Symbol.TheVariants as symbols
use Rattle.tl_tree.specs.declared.mode.Mode.{Mode}
use Rattle.tl_tree.specs.declared.mode.Mode.TheVariants.{Plain, Variadic, Types}
use Rattle.tl_tree.specs.declared.mode.OperandKind.{OperandKind}
use Rattle.tl_tree.specs.declared.mode.OperandKind.TheVariants as operands
use Rattle.tl_tree.specs.Tokens.{Token, among, is, sample}
use Rattle.tl_tree.specs.Tree.{Tree, Expression, Arguments, Fields, FunctionBody, Entries, TerraExpression}
use Rattle.tl_tree.specs.Tree.{TerraFunctionBody, QuotedCode}
use Rattle.tl_tree.specs.Grammar.{Grammar, give, bind, Rule, Parts, is_of}
use Rattle.tl_tree.specs.Forms.{sign, Chained, comparisons, additive, multiplicative}
use Rattle.tl_tree.specs.LuaExpressions.{paren, base, suffix_symbols, may_continue, Suffix, InParens, InBrackets, Selects}
use Rattle.tl_tree.specs.LuaExpressions.{CallsMethod, WithTable, WithText, suffix_of, suffix_opens, arguments, suffix}
use Rattle.tl_tree.specs.LuaExpressions.{suffixes, prefix, as_operand, is_varargs, function, table, struct_body}
use Rattle.tl_tree.specs.LuaExpressions.{terra_symbols, begins_terra, terra_code, primary, operation, power}
use Rattle.tl_tree.specs.LuaExpressions.{prefix_symbols, unary, product, sum, concatenation, comparison, conjunction}
use Rattle.tl_tree.specs.LuaExpressions.{disjunction, chained_expression, expression, expressions, operand_of}
use Rattle.tl_tree.specs.LuaExpressions.{concatenation_of, arguments_of, field_behind, keyed_field, field, fields}
use Rattle.tl_tree.specs.LuaExpressions.{entries}
use Rattle.tl_tree.proofs.Classes.{disjoint, subset, apart_from, apart_from_and, apart_none, within}
use Rattle.tl_tree.proofs.Spelled.{is_written}
use Rattle.tl_tree.proofs.Settings.{Setting, CoveredBy}
use Rattle.tl_tree.proofs.Going.{one, Apart, Begins, begins-give, begins-bind, begins-next, begins-when, begins-many}
use Rattle.tl_tree.proofs.Going.{Goes, goes-within, goes-give, goes-bind, goes-next, goes-then, goes-open, goes-open_at}
use Rattle.tl_tree.proofs.Going.{goes-token, goes-when, goes-many}
use Rattle.tl_tree.proofs.Following.{after_expression, after_part, begins-name, begins-listed_behind}
use Rattle.tl_tree.proofs.Following.{begins-separated_behind, begins-operators, begins-right_operator, goes-closed}
use Rattle.tl_tree.proofs.Following.{goes-name, goes-listed, goes-separated_behind, goes-separator, goes-operators}
use Rattle.tl_tree.proofs.Following.{goes-right_operator}

varargs_apart : (m : Mode) (xs : List Symbol) → disjoint xs (one symbols.Ellipsis) ≡ true → Apart xs (is_varargs m)
varargs_apart Plain xs d = apart_none xs
varargs_apart Variadic xs d = apart_from xs (one symbols.Ellipsis) d
varargs_apart Types xs d = apart_none xs

pub terra_apart : (xs : List Symbol) → disjoint xs terra_symbols ≡ true → Apart xs begins_terra
terra_apart xs d = apart_from xs terra_symbols d

abbrev pub only_name : List Symbol
only_name = one symbols.Name

-- ---- from nothing on

module _ {levels : ℕ} {parts : Rule → Parts} where
  begins-base : {m : Mode} {xs : List Symbol} → Begins levels parts (base m) only_name xs
  begins-base = begins-when (begins-next begins-name (λ n. begins-give))
      (apart_from only_name (one symbols.OpenParen) refl)

  pub begins-prefix : {m : Mode} {links : ℕ} → Begins levels parts (prefix m links) only_name after_expression
  begins-prefix {m} {links} =
      begins-next begins-base (λ b.
      begins-next (begins-many (λ c. apart_from_and after_expression suffix_symbols (may_continue m) refl))
      (λ a. begins-give))

  begins-primary : {m : Mode} {links : ℕ} → Begins levels parts (primary m links) only_name after_expression
  begins-primary {m} {links} =
      begins-when
      (begins-when
      (begins-when
      (begins-when
      (begins-when
      (begins-when
      (begins-when
      (begins-when (begins-when begins-prefix (terra_apart only_name refl))
      (apart_from only_name (one symbols.OpenBrace) refl))
      (apart_from only_name (one symbols.Function) refl))
      (varargs_apart m only_name refl))
      (apart_from only_name (one symbols.True) refl))
      (apart_from only_name (one symbols.False) refl))
      (apart_from only_name (one symbols.Nil) refl))
      (apart_from only_name (one symbols.Literal) refl))
      (apart_from only_name (one symbols.Numeral) refl)

  begins-power : {m : Mode} {links : ℕ} → Begins levels parts (power m links) only_name after_expression
  begins-power = begins-next (begins-primary) (λ a. begins-right_operator operation symbols.Caret after_expression refl)

  pub begins-unary : {m : Mode} {links : ℕ} → Begins levels parts (unary m links) only_name after_expression
  begins-unary = begins-when (begins-power) (apart_from only_name prefix_symbols refl)

  begins-product : {m : Mode} {links : ℕ} → Begins levels parts (product m links) only_name after_expression
  begins-product {m} = begins-next (begins-unary)
      (λ a. begins-operators multiplicative (unary m) operation after_expression refl)

  begins-sum : {m : Mode} {links : ℕ} → Begins levels parts (sum m links) only_name after_expression
  begins-sum {m} = begins-next (begins-product)
      (λ a. begins-operators additive (product m) operation after_expression refl)

  pub begins-concatenation : {m : Mode} {links : ℕ}
      → Begins levels parts (concatenation m links) only_name after_expression
  begins-concatenation = begins-next (begins-sum)
      (λ a. begins-right_operator operation symbols.DoubleDot after_expression refl)

  begins-comparison : {m : Mode} {links : ℕ} → Begins levels parts (comparison m links) only_name after_expression
  begins-comparison {m} = begins-next (begins-concatenation)
      (λ a. begins-operators comparisons (concatenation m) operation after_expression refl)

  begins-conjunction : {m : Mode} {links : ℕ} → Begins levels parts (conjunction m links) only_name after_expression
  begins-conjunction {m} =
      begins-next (begins-comparison)
      (λ a. begins-operators (one symbols.And) (comparison m) operation after_expression refl)

  begins-disjunction : {m : Mode} {links : ℕ} → Begins levels parts (disjunction m links) only_name after_expression
  begins-disjunction {m} =
      begins-next (begins-conjunction)
      (λ a. begins-operators (one symbols.Or) (conjunction m) operation after_expression refl)

  begins-chained_expression : {m : Mode} → Begins levels parts (chained_expression m) only_name after_expression
  begins-chained_expression =
      begins-next (begins-disjunction) (λ a. begins-right_operator operation symbols.Arrow after_expression refl)

  pub begins-expression : {m : Mode} → Begins levels parts (expression m) only_name after_expression
  begins-expression = begins-next (begins-chained_expression) (λ a. begins-give)

  pub begins-operand_of : {m : Mode} → Begins levels parts (operand_of m) only_name after_expression
  begins-operand_of = begins-next (begins-unary) (λ a. begins-give)

  pub begins-concatenation_of : {m : Mode} → Begins levels parts (concatenation_of m) only_name after_expression
  begins-concatenation_of = begins-next (begins-concatenation) (λ a. begins-give)

  pub begins-arguments_of : {m : Mode} → Begins levels parts (arguments_of m) only_name (one symbols.CloseParen)
  begins-arguments_of {m} =
      begins-when (begins-bind (begins-expression) (λ e. begins-listed_behind (one symbols.CloseParen) refl) refl)
      (apart_from only_name (one symbols.CloseParen) refl)

  begins-field_behind : (m : Mode) (kind : OperandKind) (e : Tree)
      → Begins levels parts (field_behind m kind e) (one symbols.CloseBrace) (one symbols.CloseBrace)
  begins-field_behind m operands.Name e =
      begins-when begins-give (apart_from (one symbols.CloseBrace) (one symbols.Equal) refl)
  begins-field_behind m _ e = begins-give

  begins-field : {m : Mode} → Begins levels parts (field m) only_name (one symbols.CloseBrace)
  begins-field {m} = begins-when
      (begins-bind (begins-chained_expression) (λ e. begins-field_behind m e.kind e.tree) refl)
      (apart_from only_name (one symbols.OpenBracket) refl)

  pub begins-fields : {m : Mode} → Begins levels parts (fields m) only_name (one symbols.CloseBrace)
  begins-fields = begins-when (begins-next (begins-field) (λ f. begins-separated_behind))
      (apart_from only_name (one symbols.CloseBrace) refl)

  pub begins-entries : {m : Mode} → Begins levels parts (entries m) (one symbols.CloseBrace) (one symbols.CloseBrace)
  begins-entries = begins-many (λ b. apart_from (one symbols.CloseBrace) only_name refl)

-- ---- from any front

-- what a suffix goes on with, by its form
abbrev pub suffix_first : Suffix → List Symbol → List Symbol
suffix_first InParens xs = one symbols.CloseParen
suffix_first InBrackets xs = one symbols.CloseBracket
suffix_first Selects xs = only_name
suffix_first CallsMethod xs = only_name
suffix_first WithTable xs = one symbols.CloseBrace
suffix_first WithText xs = xs

pub suffix_covers : (s : Setting after_part) (m : Mode) (f : Suffix) (xs : List Symbol)
    → CoveredBy s (among (suffix_first f xs)) (suffix_opens m f)
suffix_covers s m InParens xs = within (one symbols.CloseParen) (one symbols.CloseParen) refl
suffix_covers s m InBrackets xs = within (one symbols.CloseBracket) after_expression refl
suffix_covers s m Selects xs = tt
suffix_covers s m CallsMethod xs = tt
suffix_covers s m WithTable xs = within (one symbols.CloseBrace) (one symbols.CloseBrace) refl
suffix_covers s m WithText xs = tt

module _ {s : Setting after_part} where
  pub goes-paren : {m : Mode} {xs : List Symbol} → Goes s (paren m) (one symbols.OpenParen) xs
  goes-paren {m} = goes-open symbols.OpenParen (Expression m) (λ x. goes-closed symbols.CloseParen refl refl) refl refl
      (within (one symbols.CloseParen) after_expression refl)

  pub goes-base : {m : Mode} {xs : List Symbol} → Goes s (base m) only_name xs
  goes-base = goes-when goes-paren (goes-next goes-name (λ n. goes-give))
      (apart_from only_name (one symbols.OpenParen) refl)

  goes-arguments : {m : Mode} {xs : List Symbol} → Goes s (arguments m) (one symbols.Literal) xs
  goes-arguments {m} =
      goes-when (goes-open symbols.OpenParen (Arguments m) (λ x. goes-closed symbols.CloseParen refl refl) refl refl
      (within (one symbols.CloseParen) (one symbols.CloseParen) refl))
      (goes-when (goes-open symbols.OpenBrace (Fields m) (λ x. goes-closed symbols.CloseBrace refl refl) refl refl
      (within (one symbols.CloseBrace) (one symbols.CloseBrace) refl))
      (goes-closed symbols.Literal refl refl) (apart_from (one symbols.Literal) (one symbols.OpenBrace) refl))
      (apart_from (one symbols.Literal) (one symbols.OpenParen) refl)

  pub goes-suffix : (m : Mode) (t : Token) (x : Tree) (a : Chained) (f : Suffix) (xs : List Symbol)
      → Goes s (suffix m f t x a) (suffix_first f xs) xs
  goes-suffix m t x a InParens xs = goes-closed symbols.CloseParen refl refl
  goes-suffix m t x a InBrackets xs = goes-closed symbols.CloseBracket refl refl
  goes-suffix m t x a Selects xs = goes-next goes-name (λ n. goes-give)
  goes-suffix m t x a CallsMethod xs = goes-next goes-name (λ n. goes-next goes-arguments (λ es. goes-give))
  goes-suffix m t x a WithTable xs = goes-closed symbols.CloseBrace refl refl
  goes-suffix m t x a WithText xs = goes-give

  pub goes-suffixes : {m : Mode} {a : Chained} (xs : List Symbol) → disjoint xs suffix_symbols ≡ true
      → Goes s (suffixes m a) xs xs
  goes-suffixes {m} {a} xs d =
      goes-many (λ t. suffix_first (suffix_of t.symbol) xs) (λ b t h. suffix_covers s m (suffix_of t.symbol) xs)
      (λ t x b h. goes-suffix m t x b (suffix_of t.symbol) xs)
      (λ b. apart_from_and xs suffix_symbols (may_continue m) d)

  goes-prefix : {m : Mode} {links : ℕ} → Goes s (prefix m links) only_name after_expression
  goes-prefix = goes-next goes-base (λ b. goes-next (goes-suffixes after_expression refl) (λ a. goes-give))

  pub goes-as_operand : {links : ℕ} {x : Grammar Tree} {first xs : List Symbol} → Goes s x first xs
      → Goes s (as_operand links x) first xs
  goes-as_operand p = goes-next p (λ e. goes-give)

  -- a token alone, as an operand
  pub goes-leaf : {links : ℕ} {f : Token × Tree → Tree} {xs : List Symbol} (k : Symbol) → is_of (is k) (sample k) ≡ true
      → is_written k ≡ true → Goes s (as_operand links (bind (sign k) λ x. give (f x))) (one k) xs
  goes-leaf k good written = goes-as_operand (goes-closed k good written)

  goes-function : Goes s function (one symbols.Function) after_expression
  goes-function =
      goes-then symbols.Function
      (λ f. goes-open symbols.OpenParen FunctionBody (λ x. goes-give) refl refl
      (within after_expression after_expression refl)) refl refl

  goes-table : {m : Mode} {xs : List Symbol} → Goes s (table m) (one symbols.OpenBrace) xs
  goes-table {m} = goes-open symbols.OpenBrace (Fields m) (λ x. goes-closed symbols.CloseBrace refl refl) refl refl
      (within (one symbols.CloseBrace) (one symbols.CloseBrace) refl)

  pub goes-struct_body : {m : Mode} {xs : List Symbol} → Goes s (struct_body m) (one symbols.OpenBrace) xs
  goes-struct_body {m} = goes-open symbols.OpenBrace (Entries m) (λ x. goes-closed symbols.CloseBrace refl refl) refl
      refl (within (one symbols.CloseBrace) (one symbols.CloseBrace) refl)

  goes-terra_code : {m : Mode} → Goes s (terra_code m) (one symbols.Backtick) after_expression
  goes-terra_code =
      goes-when (goes-then symbols.Terra
      (λ t. goes-open_at symbols.OpenParen TerraFunctionBody (λ x. goes-give) refl refl
      (λ place. within after_expression after_expression refl)) refl refl)
      (goes-when (goes-then symbols.Struct (λ t. goes-next goes-struct_body (λ es. goes-give)) refl refl)
      (goes-when (goes-open symbols.Quote QuotedCode (λ x. goes-closed symbols.End refl refl) refl refl
      (within (one symbols.End) (one symbols.End) refl))
      (goes-open symbols.Backtick TerraExpression (λ x. goes-give) refl refl
      (within after_expression after_expression refl))
      (apart_from (one symbols.Backtick) (one symbols.Quote) refl))
      (apart_from (one symbols.Backtick) (one symbols.Struct) refl))
      (apart_from (one symbols.Backtick) (one symbols.Terra) refl)

  goes-primary : {m : Mode} {links : ℕ} → Goes s (primary m links) only_name after_expression
  goes-primary {m} {links} =
      goes-when (goes-as_operand
      (goes-token symbols.Numeral (λ t. after_expression) (λ t h. tt) (λ x h. goes-give) (λ p. refl) refl))
      (goes-when (goes-leaf symbols.Literal refl refl)
      (goes-when (goes-leaf symbols.Nil refl refl)
      (goes-when (goes-leaf symbols.False refl refl)
      (goes-when (goes-leaf symbols.True refl refl)
      (goes-when (goes-leaf symbols.Ellipsis refl refl)
      (goes-when (goes-as_operand goes-function)
      (goes-when (goes-as_operand goes-table)
      (goes-when (goes-as_operand goes-terra_code) goes-prefix (terra_apart only_name refl))
      (apart_from only_name (one symbols.OpenBrace) refl))
      (apart_from only_name (one symbols.Function) refl))
      (varargs_apart m only_name refl))
      (apart_from only_name (one symbols.True) refl))
      (apart_from only_name (one symbols.False) refl))
      (apart_from only_name (one symbols.Nil) refl))
      (apart_from only_name (one symbols.Literal) refl))
      (apart_from only_name (one symbols.Numeral) refl)

  goes-power : {m : Mode} {links : ℕ} → Goes s (power m links) only_name after_expression
  goes-power = goes-next (goes-primary)
      (λ a. goes-right_operator operation symbols.Caret after_expression refl refl refl refl)

  goes-unary : {m : Mode} {links : ℕ} → Goes s (unary m links) only_name after_expression
  goes-unary =
      goes-when (goes-token symbols.Minus (λ t. after_expression)
      (λ t h. within after_expression after_expression refl) (λ x h. goes-give) (λ p. refl) refl) (goes-power)
      (apart_from only_name prefix_symbols refl)

  goes-product : {m : Mode} {links : ℕ} → Goes s (product m links) only_name after_expression
  goes-product {m} = goes-next (goes-unary)
      (λ a. goes-operators multiplicative (unary m) operation a after_expression (λ n. goes-unary) refl)

  goes-sum : {m : Mode} {links : ℕ} → Goes s (sum m links) only_name after_expression
  goes-sum {m} = goes-next (goes-product)
      (λ a. goes-operators additive (product m) operation a after_expression (λ n. goes-product) refl)

  goes-concatenation : {m : Mode} {links : ℕ} → Goes s (concatenation m links) only_name after_expression
  goes-concatenation = goes-next (goes-sum)
      (λ a. goes-right_operator operation symbols.DoubleDot after_expression refl refl refl refl)

  goes-comparison : {m : Mode} {links : ℕ} → Goes s (comparison m links) only_name after_expression
  goes-comparison {m} = goes-next (goes-concatenation)
      (λ a. goes-operators comparisons (concatenation m) operation a after_expression (λ n. goes-concatenation) refl)

  goes-conjunction : {m : Mode} {links : ℕ} → Goes s (conjunction m links) only_name after_expression
  goes-conjunction {m} = goes-next (goes-comparison)
      (λ a. goes-operators (one symbols.And) (comparison m) operation a after_expression (λ n. goes-comparison) refl)

  goes-disjunction : {m : Mode} {links : ℕ} → Goes s (disjunction m links) only_name after_expression
  goes-disjunction {m} = goes-next (goes-conjunction)
      (λ a. goes-operators (one symbols.Or) (conjunction m) operation a after_expression (λ n. goes-conjunction) refl)

  goes-chained_expression : {m : Mode} → Goes s (chained_expression m) only_name after_expression
  goes-chained_expression =
      goes-next (goes-disjunction)
      (λ a. goes-right_operator operation symbols.Arrow after_expression refl refl refl refl)

  pub goes-expression : {m : Mode} → Goes s (expression m) only_name after_expression
  goes-expression = goes-next (goes-chained_expression) (λ a. goes-give)

  pub goes-expressions : {m : Mode} (xs : List Symbol) → subset xs after_expression ≡ true
      → disjoint xs (one symbols.Comma) ≡ true → Goes s (expressions m) only_name xs
  goes-expressions xs w d = goes-listed xs (goes-within (goes-expression) refl w) d

  -- ---- what the tokens of expressions open

  pub goes-operand_of : {m : Mode} → Goes s (operand_of m) only_name after_expression
  goes-operand_of = goes-next (goes-unary) (λ a. goes-give)

  pub goes-concatenation_of : {m : Mode} → Goes s (concatenation_of m) only_name after_expression
  goes-concatenation_of = goes-next (goes-concatenation) (λ a. goes-give)

  pub goes-arguments_of : {m : Mode} → Goes s (arguments_of m) only_name (one symbols.CloseParen)
  goes-arguments_of = goes-when goes-give (goes-expressions (one symbols.CloseParen) refl refl)
      (apart_from only_name (one symbols.CloseParen) refl)

  goes-value : {m : Mode} {f : Tree → Tree} (xs : List Symbol) → subset xs after_expression ≡ true
      → Goes s (bind (expression m) λ v. give (f v)) only_name xs
  goes-value xs w = goes-bind (goes-expression) (λ v. goes-give) w

  goes-field_behind : (m : Mode) (kind : OperandKind) (e : Tree)
      → Goes s (field_behind m kind e) (one symbols.CloseBrace) (one symbols.CloseBrace)
  goes-field_behind m operands.Name e =
      goes-when (goes-then symbols.Equal (λ y. goes-value (one symbols.CloseBrace) refl) refl refl) goes-give
      (apart_from (one symbols.CloseBrace) (one symbols.Equal) refl)
  goes-field_behind m _ e = goes-give

  goes-keyed_field : {m : Mode} → Goes s (keyed_field m) (one symbols.OpenBracket) (one symbols.CloseBrace)
  goes-keyed_field {m} =
      goes-open symbols.OpenBracket (Expression m)
      (λ k. goes-then symbols.CloseBracket
      (λ y. goes-then symbols.Equal (λ z. goes-value (one symbols.CloseBrace) refl) refl refl) refl refl) refl refl
      (within (one symbols.CloseBracket) after_expression refl)

  goes-field : {m : Mode} → Goes s (field m) only_name (one symbols.CloseBrace)
  goes-field {m} = goes-when (goes-keyed_field)
      (goes-bind (goes-chained_expression) (λ e. goes-field_behind m e.kind e.tree) refl)
      (apart_from only_name (one symbols.OpenBracket) refl)

  pub goes-fields : {m : Mode} → Goes s (fields m) only_name (one symbols.CloseBrace)
  goes-fields = goes-when goes-give (goes-next (goes-field) (λ f. goes-separated_behind (goes-field) refl))
      (apart_from only_name (one symbols.CloseBrace) refl)

  pub goes-entries : {m : Mode} → Goes s (entries m) (one symbols.CloseBrace) (one symbols.CloseBrace)
  goes-entries =
      goes-many (λ t. one symbols.Colon) (λ b t h. tt)
      (λ t x b h. goes-then symbols.Colon
      (λ y. goes-bind (goes-expression)
      (λ e. goes-next (goes-separator (one symbols.CloseBrace) refl) (λ z. goes-give)) refl) refl refl)
      (λ b. apart_from (one symbols.CloseBrace) only_name refl)
