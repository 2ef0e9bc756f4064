-- The completions of Terra statements, functions and quotes, one for each name of the grammar.
use Rattle.std.proofs.Common.{◌≡◌, ◌&&◌, ℕ, Bool, true, not, List, [], ◌∷◌, refl}
use Rattle.tl_base.specs.declared.place.Place.{Place}
use Rattle.tl_tree.specs.declared.symbol.Symbol.{Symbol}
use Rattle.tl_tree.specs.declared.symbol.Symbol.TheVariants as symbols
use Rattle.tl_tree.specs.declared.mode.Mode.TheVariants as modes
use Rattle.tl_tree.specs.declared.mode.OperandKind.{OperandKind}
use Rattle.tl_tree.specs.declared.mode.OperandKind.TheVariants as operands
use Rattle.tl_tree.specs.Tokens.{Token, among}
use Rattle.tl_tree.specs.Tree.{Tree, Expression, TerraStatements}
use Rattle.tl_tree.specs.Grammar.{Rule, Parts}
use Rattle.tl_tree.specs.Forms.{Chained}
use Rattle.tl_tree.specs.TerraStatements.{terra_assignment, terra_simple_statement, written_type, terra_loop, terra_arm}
use Rattle.tl_tree.specs.TerraStatements.{terra_arms, terra_otherwise, terra_step, variable_behind, terra_variable}
use Rattle.tl_tree.specs.TerraStatements.{terra_initial_values, terra_expression_symbols, terra_returned_values}
use Rattle.tl_tree.specs.TerraStatements.{TerraStatement, FromName, FromParen, FromBracket, FromAt, FromDo, FromWhile}
use Rattle.tl_tree.specs.TerraStatements.{FromRepeat, FromIf, FromFor, FromVar, FromEscape, FromReturn, FromBreak}
use Rattle.tl_tree.specs.TerraStatements.{terra_statement_of, terra_statement_symbols, terra_statement_opens}
use Rattle.tl_tree.specs.TerraStatements.{terra_simple_behind, terra_statement, terra_block, terra_parameter}
use Rattle.tl_tree.specs.TerraStatements.{terra_parameters, terra_function_body, quoted_code}
use Rattle.tl_tree.proofs.Classes.{disjoint, subset, apart_from, apart_from_and, within}
use Rattle.tl_tree.proofs.Settings.{Setting, CoveredBy}
use Rattle.tl_tree.proofs.Going.{one, Apart, Begins, begins-give, begins-bind, begins-next, begins-then, begins-when}
use Rattle.tl_tree.proofs.Going.{begins-many, Goes, goes-within, goes-give, goes-bind, goes-next, goes-then, goes-open}
use Rattle.tl_tree.proofs.Going.{goes-when, goes-many}
use Rattle.tl_tree.proofs.Following.{after_block, after_expression, after_part, begins-listed, goes-closed}
use Rattle.tl_tree.proofs.Following.{goes-listed_behind, goes-listed, goes-semicolon}
use Rattle.tl_tree.proofs.LuaExpressionsGo.{only_name, begins-expression, goes-expression}
use Rattle.tl_tree.proofs.TerraExpressionsGo.{goes-terra_name, goes-terra_suffixes, goes-terra_expression_behind}
use Rattle.tl_tree.proofs.TerraExpressionsGo.{goes-terra_expression, goes-terra_expressions}

-- what may follow a block of a quote, of a function, of a statement
terra_statement_apart : (ended : Bool) (xs : List Symbol) → disjoint xs terra_statement_symbols ≡ true
    → Apart xs (λ t. among terra_statement_symbols t && not ended)
terra_statement_apart ended xs d = apart_from_and xs terra_statement_symbols (λ t. not ended) d

-- ---- from nothing on

module _ {levels : ℕ} {parts : Rule → Parts} where
  pub begins-terra_block : Begins levels parts terra_block after_block after_block
  begins-terra_block = begins-next (begins-many (λ b. terra_statement_apart b.ended after_block refl))
      (λ a. begins-give)

  begins-written_type : (xs : List Symbol) → disjoint xs (one symbols.Colon) ≡ true
      → Begins levels parts written_type xs xs
  begins-written_type xs d = begins-when begins-give (apart_from xs (one symbols.Colon) d)

  begins-terra_parameter : Begins levels parts terra_parameter only_name (one symbols.CloseParen)
  begins-terra_parameter =
      begins-when (begins-then symbols.Name
      (λ n. begins-then symbols.Colon (λ y. begins-bind begins-expression (λ e. begins-give) refl) refl refl) refl
      refl) (apart_from only_name (one symbols.OpenBracket) refl)

  begins-terra_parameters : Begins levels parts terra_parameters only_name (one symbols.CloseParen)
  begins-terra_parameters =
      begins-when (begins-listed (one symbols.CloseParen) begins-terra_parameter refl)
      (apart_from only_name (one symbols.CloseParen) refl)

  pub begins-terra_function_body : {place : Place}
      → Begins levels parts (terra_function_body place) only_name after_expression
  begins-terra_function_body =
      begins-next begins-terra_parameters
      (λ ps. begins-then symbols.CloseParen
      (λ y. begins-next (begins-written_type after_block refl)
      (λ r. begins-bind begins-terra_block (λ b. begins-then symbols.End (λ z. begins-give) refl refl) refl)) refl
      refl)

  pub begins-quoted_code : Begins levels parts quoted_code after_block (one symbols.End)
  begins-quoted_code = begins-bind begins-terra_block
      (λ b. begins-when begins-give (apart_from (one symbols.End) (one symbols.In) refl)) refl

-- ---- from any front

-- what a statement goes on with behind its first token and what that opens
abbrev after_simple : List Symbol
after_simple = symbols.Equal ∷ after_block

abbrev terra_statement_first : TerraStatement → List Symbol
terra_statement_first FromName = after_simple
terra_statement_first FromParen = one symbols.CloseParen
terra_statement_first FromBracket = one symbols.CloseBracket
terra_statement_first FromAt = after_expression
terra_statement_first FromDo = one symbols.End
terra_statement_first FromRepeat = one symbols.Until
terra_statement_first FromEscape = one symbols.End
terra_statement_first FromReturn = after_block
terra_statement_first FromBreak = after_block
terra_statement_first _ = only_name

terra_statement_covers : (s : Setting after_part) (f : TerraStatement)
    → CoveredBy s (among (terra_statement_first f)) (terra_statement_opens f)
terra_statement_covers s FromParen = within (one symbols.CloseParen) after_expression refl
terra_statement_covers s FromBracket = within (one symbols.CloseBracket) after_expression refl
terra_statement_covers s FromAt = within after_expression after_expression refl
terra_statement_covers s FromDo = within (one symbols.End) after_block refl
terra_statement_covers s FromRepeat = within (one symbols.Until) after_block refl
terra_statement_covers s FromEscape = within (one symbols.End) after_block refl
terra_statement_covers s _ = tt

module _ {s : Setting after_part} where
  goes-terra_assignment : (t : Token) (e : Tree) → Goes s (terra_assignment t e) (one symbols.Equal) after_block
  goes-terra_assignment t e =
      goes-next (goes-listed_behind {first = only_name} (one symbols.Equal)
      (goes-within goes-terra_expression refl refl) refl)
      (λ targets. goes-then symbols.Equal
      (λ y. goes-next (goes-terra_expressions after_block refl refl) (λ es. goes-give)) refl refl)

  goes-terra_simple_statement : (t : Token) (kind : OperandKind) (e : Tree)
      → Goes s (terra_simple_statement t kind e) after_simple after_block
  goes-terra_simple_statement t operands.Call e =
      goes-within {first = after_block} {after = after_block} goes-give refl refl
  goes-terra_simple_statement t operands.Escape e =
      goes-within {first = after_block} {after = after_block}
      (goes-when (goes-terra_assignment t e) goes-give
      (apart_from after_block (symbols.Equal ∷ symbols.Comma ∷ []) refl)) refl refl
  goes-terra_simple_statement t _ e = goes-within (goes-terra_assignment t e) refl refl

  goes-terra_simple_behind : (t : Token) (b : Chained) → Goes s (terra_simple_behind t b) after_simple after_block
  goes-terra_simple_behind t b =
      goes-next (goes-terra_suffixes b after_simple refl) (λ a. goes-terra_simple_statement t a.kind a.tree)

  goes-written_type : (xs : List Symbol) → subset xs after_expression ≡ true → disjoint xs (one symbols.Colon) ≡ true
      → Goes s written_type xs xs
  goes-written_type xs w d =
      goes-when (goes-then symbols.Colon (λ y. goes-bind goes-expression (λ e. goes-give) w) refl refl) goes-give
      (apart_from xs (one symbols.Colon) d)

  goes-terra_loop : {xs : List Symbol} → Goes s terra_loop (one symbols.Do) xs
  goes-terra_loop = goes-open symbols.Do TerraStatements (λ x. goes-closed symbols.End refl refl) refl refl
      (within (one symbols.End) after_block refl)

  goes-terra_arm : {a : Tree} → Goes s (terra_arm a) only_name (one symbols.End)
  goes-terra_arm = goes-bind goes-terra_expression
      (λ e. goes-open symbols.Then TerraStatements (λ x. goes-give) refl refl
      (within (one symbols.End) after_block refl)) refl

  goes-terra_arms : {a : Tree} → Goes s (terra_arms a) (one symbols.End) (one symbols.End)
  goes-terra_arms = goes-many (λ t. only_name) (λ b t h. tt) (λ t x b h. goes-terra_arm)
      (λ b. apart_from (one symbols.End) (one symbols.Elseif) refl)

  goes-terra_otherwise : Goes s terra_otherwise (one symbols.End) (one symbols.End)
  goes-terra_otherwise = goes-when
      (goes-open symbols.Else TerraStatements (λ x. goes-give) refl refl (within (one symbols.End) after_block refl))
      goes-give (apart_from (one symbols.End) (one symbols.Else) refl)

  goes-terra_step : Goes s terra_step (one symbols.Do) (one symbols.Do)
  goes-terra_step = goes-when
      (goes-then symbols.Comma (λ y. goes-bind goes-terra_expression (λ e. goes-give) refl) refl refl) goes-give
      (apart_from (one symbols.Do) (one symbols.Comma) refl)

  goes-variable_behind : {place : Place} {n : Tree} → Goes s (variable_behind place n) after_block after_block
  goes-variable_behind = goes-next (goes-written_type after_block refl refl) (λ e. goes-give)

  goes-terra_variable : Goes s terra_variable only_name after_block
  goes-terra_variable =
      goes-when
      (goes-open symbols.OpenBracket (Expression modes.Plain)
      (λ x. goes-then symbols.CloseBracket (λ y. goes-variable_behind) refl refl) refl refl
      (within (one symbols.CloseBracket) after_expression refl))
      (goes-then symbols.Name (λ n. goes-variable_behind) refl refl)
      (apart_from only_name (one symbols.OpenBracket) refl)

  goes-terra_initial_values : Goes s terra_initial_values after_block after_block
  goes-terra_initial_values =
      goes-when (goes-then symbols.Equal (λ y. goes-terra_expressions after_block refl refl) refl refl) goes-give
      (apart_from after_block (one symbols.Equal) refl)

  goes-terra_returned_values : Goes s terra_returned_values after_block after_block
  goes-terra_returned_values =
      goes-when (goes-terra_expressions after_block refl refl) goes-give
      (apart_from after_block terra_expression_symbols refl)

  goes-terra_statement : (f : TerraStatement) (t : Token) (x : Tree)
      → Goes s (terra_statement f t x) (terra_statement_first f) after_block
  goes-terra_statement FromName t x = goes-terra_simple_behind t _
  goes-terra_statement FromParen t x = goes-then symbols.CloseParen (λ y. goes-terra_simple_behind t _) refl refl
  goes-terra_statement FromBracket t x = goes-then symbols.CloseBracket (λ y. goes-terra_simple_behind t _) refl refl
  goes-terra_statement FromAt t x =
      goes-bind (goes-terra_expression_behind _) (λ a. goes-terra_assignment t a.tree) refl
  goes-terra_statement FromDo t x = goes-closed symbols.End refl refl
  goes-terra_statement FromWhile t x =
      goes-bind goes-terra_expression (λ e. goes-next goes-terra_loop (λ b. goes-give)) refl
  goes-terra_statement FromRepeat t x =
      goes-then symbols.Until (λ y. goes-bind goes-terra_expression (λ e. goes-give) refl) refl refl
  goes-terra_statement FromIf t x =
      goes-next goes-terra_arm
      (λ first. goes-next goes-terra_arms
      (λ all. goes-next goes-terra_otherwise (λ o. goes-closed symbols.End refl refl)))
  goes-terra_statement FromFor t x =
      goes-next goes-terra_name
      (λ n. goes-then symbols.Equal
      (λ y. goes-bind goes-terra_expression
      (λ a. goes-then symbols.Comma
      (λ z. goes-bind goes-terra_expression
      (λ b. goes-next goes-terra_step (λ st. goes-next goes-terra_loop (λ d. goes-give))) refl) refl refl)
      refl)
      refl refl)
  goes-terra_statement FromVar t x =
      goes-next (goes-listed after_block goes-terra_variable refl)
      (λ vs. goes-next goes-terra_initial_values (λ es. goes-give))
  goes-terra_statement FromEscape t x = goes-closed symbols.End refl refl
  goes-terra_statement FromReturn t x = goes-next goes-terra_returned_values (λ es. goes-give)
  goes-terra_statement FromBreak t x = goes-give

  pub goes-terra_block : Goes s terra_block after_block after_block
  goes-terra_block =
      goes-next
      (goes-many (λ t. terra_statement_first (terra_statement_of t.symbol))
      (λ b t h. terra_statement_covers s (terra_statement_of t.symbol))
      (λ t x b h. goes-next (goes-terra_statement (terra_statement_of t.symbol) t x)
      (λ st. goes-next (goes-semicolon after_block refl) (λ y. goes-give)))
      (λ b. terra_statement_apart b.ended after_block refl))
      (λ a. goes-give)

  goes-terra_parameter : Goes s terra_parameter only_name (one symbols.CloseParen)
  goes-terra_parameter =
      goes-when
      (goes-open symbols.OpenBracket (Expression modes.Plain) (λ x. goes-closed symbols.CloseBracket refl refl) refl
      refl (within (one symbols.CloseBracket) after_expression refl))
      (goes-then symbols.Name (λ n.
      goes-then symbols.Colon (λ y. goes-bind goes-expression (λ e. goes-give) refl) refl refl) refl refl)
      (apart_from only_name (one symbols.OpenBracket) refl)

  goes-terra_parameters : Goes s terra_parameters only_name (one symbols.CloseParen)
  goes-terra_parameters = goes-when goes-give (goes-listed (one symbols.CloseParen) goes-terra_parameter refl)
      (apart_from only_name (one symbols.CloseParen) refl)

  pub goes-terra_function_body : {place : Place} → Goes s (terra_function_body place) only_name after_expression
  goes-terra_function_body =
      goes-next goes-terra_parameters
      (λ ps. goes-then symbols.CloseParen
      (λ y. goes-next (goes-written_type after_block refl refl)
      (λ r. goes-bind goes-terra_block (λ b. goes-closed symbols.End refl refl) refl)) refl refl)

  pub goes-quoted_code : Goes s quoted_code after_block (one symbols.End)
  goes-quoted_code =
      goes-bind goes-terra_block
      (λ b. goes-when (goes-then symbols.In (λ y. goes-bind goes-terra_expression (λ e. goes-give) refl) refl refl)
      goes-give (apart_from (one symbols.End) (one symbols.In) refl)) refl
