-- The completions of Lua statements and functions, one for each name of the grammar.
use Rattle.std.proofs.Common.{◌≡◌, ◌&&◌, ℕ, Bool, true, not, List, [], ◌∷◌, refl}
use Rattle.tl_lex.specs.Answers.{Position}
use Rattle.tl_tree.specs.declared.symbol.Symbol.{Symbol}
use Rattle.tl_tree.specs.declared.symbol.Symbol.TheVariants as symbols
use Rattle.tl_tree.specs.declared.mode.Mode.{Mode}
use Rattle.tl_tree.specs.declared.mode.Mode.TheVariants.{Plain, Variadic, Types}
use Rattle.tl_tree.specs.declared.mode.Context.{Context}
use Rattle.tl_tree.specs.declared.mode.OperandKind.{OperandKind}
use Rattle.tl_tree.specs.declared.mode.OperandKind.TheVariants as operands
use Rattle.tl_tree.specs.Tokens.{Token, among}
use Rattle.tl_tree.specs.Tree.{Tree, Statements, FunctionBody, TerraFunctionBody}
use Rattle.tl_tree.specs.Grammar.{Rule, Parts, is_of}
use Rattle.tl_tree.specs.Forms.{Chained}
use Rattle.tl_tree.specs.LuaExpressions.{suffix_symbols, may_continue, is_suffix, suffix_of, begins_terra}
use Rattle.tl_tree.specs.LuaStatements.{looped, fresh, next_suffix, call_symbols, index_symbols, to_variable, as_variable}
use Rattle.tl_tree.specs.LuaStatements.{variable_suffixes, variable, path_method, path, struct_path, loop, Statement}
use Rattle.tl_tree.specs.LuaStatements.{FromName, FromParen, FromDo, FromWhile, FromRepeat, FromIf, FromFor}
use Rattle.tl_tree.specs.LuaStatements.{FromFunction, FromLocal, FromReturn, FromBreak, FromTerra, FromStruct, FromEmit}
use Rattle.tl_tree.specs.LuaStatements.{statement_of, statement_symbols, has_place, is_statement, statement_opens}
use Rattle.tl_tree.specs.LuaStatements.{parameter, parameters, body_mode, expression_symbols, assignment}
use Rattle.tl_tree.specs.LuaStatements.{call_or_assignment, arm, arms, otherwise, step, numeric_for, generic_for}
use Rattle.tl_tree.specs.LuaStatements.{initial_values, returned_values, terra_definition, local_terra, statement}
use Rattle.tl_tree.specs.LuaStatements.{block, function_body}
use Rattle.tl_tree.proofs.Classes.{disjoint, apart_from, apart_from_and, apart_and, apart_or, within}
use Rattle.tl_tree.proofs.Spelled.{placed}
use Rattle.tl_tree.proofs.Settings.{Setting, CoveredBy}
use Rattle.tl_tree.proofs.Going.{one, Apart, Begins, begins-give, begins-bind, begins-next, begins-then, begins-when}
use Rattle.tl_tree.proofs.Going.{begins-many, Goes, goes-within, goes-give, goes-bind, goes-next, goes-then, goes-open}
use Rattle.tl_tree.proofs.Going.{goes-open_at, goes-token, goes-when, goes-many}
use Rattle.tl_tree.proofs.Following.{after_block, after_expression, after_part, begins-name, goes-closed, goes-name}
use Rattle.tl_tree.proofs.Following.{goes-listed_behind, goes-listed, goes-semicolon, goes-path_names}
use Rattle.tl_tree.proofs.LuaExpressionsGo.{only_name, suffix_first, terra_apart, goes-paren, suffix_covers}
use Rattle.tl_tree.proofs.LuaExpressionsGo.{goes-suffix, goes-suffixes, goes-struct_body, goes-expression}
use Rattle.tl_tree.proofs.LuaExpressionsGo.{goes-expressions}

statement_apart : (c : Context) (ended : Bool) (xs : List Symbol) → disjoint xs statement_symbols ≡ true
    → Apart xs (λ t. is_statement c t && not ended)
statement_apart c ended xs d =
    apart_and xs (is_statement c) (λ t. not ended) (apart_from_and xs statement_symbols (has_place c) d)

dot_is_suffix : (m : Mode) (p : Position) → is_of (is_suffix m) (placed p symbols.Dot) ≡ true
dot_is_suffix Plain p = refl
dot_is_suffix Variadic p = refl
dot_is_suffix Types p = refl

dot_is_index : (m : Mode) (p : Position)
    → is_of (λ t. among index_symbols t && is_suffix m t) (placed p symbols.Dot) ≡ true
dot_is_index Plain p = refl
dot_is_index Variadic p = refl
dot_is_index Types p = refl

-- ---- from nothing on

module _ {levels : ℕ} {parts : Rule → Parts} where
  pub begins-block : {c : Context} → Begins levels parts (block c) after_block after_block
  begins-block {c} = begins-next (begins-many (λ b. statement_apart c b.ended after_block refl)) (λ a. begins-give)

  begins-parameters : Begins levels parts parameters only_name (one symbols.CloseParen)
  begins-parameters =
      begins-when
      (begins-next (begins-when (begins-next begins-name (λ n. begins-give))
      (apart_from only_name (one symbols.Ellipsis) refl))
      (λ p. begins-many (λ b. apart_from_and (one symbols.CloseParen) (one symbols.Comma) (λ u. not b.variadic) refl)))
      (apart_from only_name (one symbols.CloseParen) refl)

  pub begins-function_body : Begins levels parts (function_body) only_name after_expression
  begins-function_body =
      begins-next begins-parameters
      (λ p. begins-then symbols.CloseParen
      (λ y. begins-bind (begins-block) (λ b. begins-then symbols.End (λ z. begins-give) refl refl) refl) refl refl)

-- ---- from any front

-- what a statement goes on with behind its first token and what that opens
abbrev after_prefix : List Symbol
after_prefix = symbols.Equal ∷ after_block

abbrev statement_first : Statement → List Symbol
statement_first FromName = after_prefix
statement_first FromParen = one symbols.CloseParen
statement_first FromDo = one symbols.End
statement_first FromRepeat = one symbols.Until
statement_first FromReturn = after_block
statement_first FromBreak = after_block
statement_first _ = only_name

-- what a suffix of a variable may be followed by: an index, where it is a call
abbrev after_variable : List Symbol
after_variable = symbols.Dot ∷ symbols.Equal ∷ []

statement_covers : (s : Setting after_part) (c : Context) (f : Statement)
    → CoveredBy s (among (statement_first f)) (statement_opens c f)
statement_covers s c FromParen = within (one symbols.CloseParen) after_expression refl
statement_covers s c FromDo = within (one symbols.End) after_block refl
statement_covers s c FromRepeat = within (one symbols.Until) after_block refl
statement_covers s c _ = tt

module _ {s : Setting after_part} where
  goes-next_suffix : (m : Mode) (a : Chained) (xs : List Symbol) → Goes s (next_suffix m a) (one symbols.Dot) xs
  goes-next_suffix m a xs =
      goes-token symbols.Dot (λ t. suffix_first (suffix_of t.symbol) xs)
      (λ t h. suffix_covers s m (suffix_of t.symbol) xs) (λ x h. goes-suffix m x.0 x.1 a (suffix_of x.0.symbol) xs)
      (dot_is_suffix m) refl

  goes-to_variable : (m : Mode) (a : Chained) (xs : List Symbol) → Goes s (to_variable m a) (one symbols.Dot) xs
  goes-to_variable m a xs =
      goes-next
      (goes-many (λ t. suffix_first (suffix_of t.symbol) (one symbols.Dot))
      (λ b t h. suffix_covers s m (suffix_of t.symbol) (one symbols.Dot))
      (λ t x b h. goes-suffix m t x b (suffix_of t.symbol) (one symbols.Dot))
      (λ b. apart_from_and (one symbols.Dot) call_symbols (is_suffix m) refl))
      (λ b. goes-token symbols.Dot (λ t. suffix_first (suffix_of t.symbol) xs)
      (λ t h. suffix_covers s m (suffix_of t.symbol) xs) (λ x h. goes-suffix m x.0 x.1 b (suffix_of x.0.symbol) xs)
      (dot_is_index m) refl)

  goes-as_variable : (m : Mode) (kind : OperandKind) (a : Chained)
      → Goes s (as_variable m kind a) after_variable (one symbols.Equal)
  goes-as_variable m operands.Call a = goes-within (goes-to_variable m a (one symbols.Equal)) refl refl
  goes-as_variable m _ a = goes-within {first = one symbols.Equal} {after = one symbols.Equal} goes-give refl refl

  goes-variable_suffixes : (m : Mode) (a : Chained)
      → Goes s (variable_suffixes m a) (one symbols.Equal) (one symbols.Equal)
  goes-variable_suffixes m a =
      goes-many (λ t. suffix_first (suffix_of t.symbol) after_variable)
      (λ b t h. suffix_covers s m (suffix_of t.symbol) after_variable)
      (λ t x b h. goes-next (goes-suffix m t x b (suffix_of t.symbol) after_variable) (λ d. goes-as_variable m d.kind d))
      (λ b. apart_from_and (one symbols.Equal) suffix_symbols (may_continue m) refl)

  goes-variable : (m : Mode) → Goes s (variable m) only_name (one symbols.Equal)
  goes-variable m =
      goes-when (goes-next goes-paren
      (λ b. goes-next (goes-to_variable m b (one symbols.Equal))
      (λ d. goes-next (goes-variable_suffixes m d) (λ a. goes-give))))
      (goes-next goes-name (λ n. goes-next (goes-variable_suffixes m _) (λ a. goes-give)))
      (apart_from only_name (one symbols.OpenParen) refl)

  goes-path_method : {ns : Tree} (xs : List Symbol) → disjoint xs (one symbols.Colon) ≡ true
      → Goes s (path_method ns) xs xs
  goes-path_method xs d = goes-when (goes-then symbols.Colon (λ c. goes-closed symbols.Name refl refl) refl refl)
      goes-give (apart_from xs (one symbols.Colon) d)

  goes-path : (xs : List Symbol) → disjoint xs (one symbols.Dot) ≡ true → disjoint xs (one symbols.Colon) ≡ true
      → Goes s path only_name xs
  goes-path xs d e = goes-next goes-name (λ n. goes-next (goes-path_names xs d) (λ ns. goes-path_method xs e))

  goes-struct_path : Goes s struct_path only_name (one symbols.OpenBrace)
  goes-struct_path = goes-next goes-name
      (λ n. goes-next (goes-path_names (one symbols.OpenBrace) refl) (λ ns. goes-give))

  goes-loop : (c : Context) {xs : List Symbol} → Goes s (loop c) (one symbols.Do) xs
  goes-loop c = goes-open symbols.Do (Statements (looped c)) (λ x. goes-closed symbols.End refl refl) refl refl
      (within (one symbols.End) after_block refl)

  goes-assignment : (m : Mode) (t : Token) (e : Tree) → Goes s (assignment m t e) (one symbols.Equal) after_block
  goes-assignment m t e =
      goes-next (goes-listed_behind (one symbols.Equal) (goes-variable m) refl)
      (λ targets. goes-then symbols.Equal
      (λ y. goes-next (goes-expressions after_block refl refl) (λ es. goes-give)) refl refl)

  goes-call_or_assignment : (m : Mode) (t : Token) (kind : OperandKind) (e : Tree)
      → Goes s (call_or_assignment m t kind e) after_prefix after_block
  goes-call_or_assignment m t operands.Call e =
      goes-within {first = after_block} {after = after_block} goes-give refl refl
  goes-call_or_assignment m t _ e = goes-within (goes-assignment m t e) refl refl

  goes-arm : {c : Context} {a : Tree} → Goes s (arm c a) only_name (one symbols.End)
  goes-arm {c} = goes-bind (goes-expression)
      (λ e. goes-open symbols.Then (Statements c) (λ x. goes-give) refl refl
      (within (one symbols.End) after_block refl)) refl

  goes-arms : {c : Context} {a : Tree} → Goes s (arms c a) (one symbols.End) (one symbols.End)
  goes-arms = goes-many (λ t. only_name) (λ b t h. tt) (λ t x b h. goes-arm)
      (λ b. apart_from (one symbols.End) (one symbols.Elseif) refl)

  goes-otherwise : {c : Context} → Goes s (otherwise c) (one symbols.End) (one symbols.End)
  goes-otherwise {c} =
      goes-when (goes-open symbols.Else (Statements c) (λ x. goes-give) refl refl
      (within (one symbols.End) after_block refl)) goes-give (apart_from (one symbols.End) (one symbols.Else) refl)

  goes-step : {m : Mode} → Goes s (step m) (one symbols.Do) (one symbols.Do)
  goes-step = goes-when (goes-then symbols.Comma (λ y. goes-bind (goes-expression) (λ e. goes-give) refl) refl refl)
      goes-give (apart_from (one symbols.Do) (one symbols.Comma) refl)

  goes-numeric_for : (c : Context) (t : Token) (n : Tree) → Goes s (numeric_for c t n) (one symbols.Equal) after_block
  goes-numeric_for c t n =
      goes-then symbols.Equal
      (λ y. goes-bind (goes-expression)
      (λ a. goes-then symbols.Comma
      (λ z. goes-bind (goes-expression)
      (λ b. goes-next (goes-step) (λ st. goes-next (goes-loop c) (λ x. goes-give))) refl) refl refl)
      refl)
      refl refl

  goes-generic_for : (c : Context) (t : Token) (n : Tree) → Goes s (generic_for c t n) (one symbols.In) after_block
  goes-generic_for c t n =
      goes-next (goes-listed_behind (one symbols.In) goes-name refl)
      (λ ns. goes-then symbols.In
      (λ y. goes-next (goes-expressions (one symbols.Do) refl refl)
      (λ es. goes-next (goes-loop c) (λ x. goes-give))) refl refl)

  goes-initial_values : {m : Mode} → Goes s (initial_values m) after_block after_block
  goes-initial_values = goes-when (goes-then symbols.Equal (λ y. goes-expressions after_block refl refl) refl refl)
      goes-give (apart_from after_block (one symbols.Equal) refl)

  goes-returned_values : {m : Mode} → Goes s (returned_values m) after_block after_block
  goes-returned_values =
      goes-when (goes-expressions after_block refl refl) goes-give
      (apart_or after_block (among expression_symbols) begins_terra
      (apart_from after_block expression_symbols refl) (terra_apart after_block refl))

  goes-terra_definition : (c : Context) (declare define : Tree → Tree)
      → Goes s (terra_definition c declare define) (one symbols.OpenParen) after_block
  goes-terra_definition c declare define =
      goes-when (goes-then symbols.DoubleColon (λ y. goes-bind (goes-expression) (λ e. goes-give) refl) refl refl)
      (goes-open_at symbols.OpenParen TerraFunctionBody (λ b. goes-give) refl refl
      (λ place. within after_block after_expression refl))
      (apart_from (one symbols.OpenParen) (one symbols.DoubleColon) refl)

  goes-local_terra : (c : Context) (t : Token) → Goes s (local_terra c t) (one symbols.Terra) after_block
  goes-local_terra c t =
      goes-when (goes-then symbols.Struct
      (λ y. goes-next goes-name (λ n. goes-next goes-struct_body (λ es. goes-give))) refl refl)
      (goes-then symbols.Terra (λ y. goes-next goes-name (λ n. goes-terra_definition c _ _)) refl refl)
      (apart_from (one symbols.Terra) (one symbols.Struct) refl)

  goes-statement : (c : Context) (f : Statement) (t : Token) (x : Tree)
      → Goes s (statement c f t x) (statement_first f) after_block
  goes-statement c FromName t x =
      goes-next (goes-suffixes after_prefix refl) (λ a. goes-call_or_assignment c.mode t a.kind a.tree)
  goes-statement c FromParen t x =
      goes-then symbols.CloseParen
      (λ y. goes-next (goes-next_suffix c.mode _ after_prefix)
      (λ b. goes-next (goes-suffixes after_prefix refl) (λ a. goes-call_or_assignment c.mode t a.kind a.tree)))
      refl refl
  goes-statement c FromDo t x = goes-closed symbols.End refl refl
  goes-statement c FromWhile t x = goes-bind (goes-expression) (λ e. goes-next (goes-loop c) (λ b. goes-give)) refl
  goes-statement c FromRepeat t x =
      goes-then symbols.Until (λ y. goes-bind (goes-expression) (λ e. goes-give) refl) refl refl
  goes-statement c FromIf t x =
      goes-next (goes-arm) (λ first.
      goes-next (goes-arms) (λ all. goes-next (goes-otherwise) (λ o. goes-closed symbols.End refl refl)))
  goes-statement c FromFor t x =
      goes-next goes-name (λ n.
      goes-when (goes-numeric_for c t n) (goes-generic_for c t n)
      (apart_from (one symbols.In) (one symbols.Equal) refl))
  goes-statement c FromFunction t x =
      goes-next (goes-path (one symbols.OpenParen) refl refl)
      (λ p. goes-open symbols.OpenParen FunctionBody (λ b. goes-give) refl refl
      (within after_block after_expression refl))
  goes-statement c FromLocal t x =
      goes-when (goes-then symbols.Function
      (λ y. goes-next goes-name
      (λ n. goes-open symbols.OpenParen FunctionBody (λ b. goes-give) refl refl
      (within after_block after_expression refl))) refl refl)
      (goes-when (goes-local_terra c t)
      (goes-next (goes-listed after_block goes-name refl) (λ ns. goes-next (goes-initial_values) (λ es. goes-give)))
      (apart_from only_name (symbols.Terra ∷ symbols.Struct ∷ []) refl))
      (apart_from only_name (one symbols.Function) refl)
  goes-statement c FromReturn t x = goes-next (goes-returned_values) (λ es. goes-give)
  goes-statement c FromBreak t x = goes-give
  goes-statement c FromTerra t x =
      goes-next (goes-path (one symbols.OpenParen) refl refl) (λ p. goes-terra_definition c _ _)
  goes-statement c FromStruct t x = goes-next goes-struct_path (λ p. goes-next goes-struct_body (λ es. goes-give))
  goes-statement c FromEmit t x = goes-bind (goes-expression) (λ e. goes-give) refl

  pub goes-block : (c : Context) → Goes s (block c) after_block after_block
  goes-block c =
      goes-next
      (goes-many (λ t. statement_first (statement_of t.symbol)) (λ b t h. statement_covers s c (statement_of t.symbol))
      (λ t x b h. goes-next (goes-statement c (statement_of t.symbol) t x)
      (λ st. goes-next (goes-semicolon after_block refl) (λ y. goes-give)))
      (λ b. statement_apart c b.ended after_block refl))
      (λ a. goes-give)

  goes-parameter : {before : Tree} → Goes s (parameter before) only_name (one symbols.CloseParen)
  goes-parameter = goes-when (goes-closed symbols.Ellipsis refl refl) (goes-next goes-name (λ n. goes-give))
      (apart_from only_name (one symbols.Ellipsis) refl)

  goes-parameters : Goes s parameters only_name (one symbols.CloseParen)
  goes-parameters =
      goes-when goes-give
      (goes-next goes-parameter
      (λ p. goes-many (λ t. only_name) (λ b t h. tt) (λ t x b h. goes-parameter)
      (λ b. apart_from_and (one symbols.CloseParen) (one symbols.Comma) (λ u. not b.variadic) refl)))
      (apart_from only_name (one symbols.CloseParen) refl)

  pub goes-function_body : Goes s (function_body) only_name after_expression
  goes-function_body =
      goes-next goes-parameters
      (λ p. goes-then symbols.CloseParen
      (λ y. goes-bind (goes-block (fresh (body_mode p.variadic))) (λ b. goes-closed symbols.End refl refl) refl)
      refl refl)
