-- The grammar of Terra statements, functions and quotes, one definition for each of its names.
use Rattle.std.specs.Prelude.{Bool, true, false, not, List, [], ◌∷◌, ◌&&◌, Option, Some, None}
use Rattle.tl_base.specs.declared.place.Place.{Place}
use Rattle.tl_tree.specs.declared.symbol.Symbol.{Symbol}
use Rattle.tl_tree.specs.declared.symbol.Symbol.TheVariants as symbols
use Rattle.tl_tree.specs.declared.mode.Mode.TheVariants as modes
use Rattle.tl_tree.specs.declared.mode.Context.{Context}
use Rattle.tl_tree.specs.declared.mode.TokenUse.TheVariants.{Plain}
use Rattle.tl_tree.specs.declared.mode.OperandKind.{OperandKind}
use Rattle.tl_tree.specs.declared.mode.OperandKind.TheVariants as operands
use Rattle.tl_tree.specs.declared.node.UnaryOperator.TheVariants as unary
use Rattle.tl_tree.specs.Tokens.{Token, among, is}
use Rattle.tl_tree.specs.Tree.{Tree, Nothing, More, Just, Name, TerraUnary, TerraParen, Escape, TerraAssign}
use Rattle.tl_tree.specs.Tree.{TerraCallStatement, Splice, TerraDo, TerraWhile, TerraRepeat, TerraIf, TerraFor, Var}
use Rattle.tl_tree.specs.Tree.{EscapeBlock, TerraReturn, TerraBreak, Block, Arm, Quoted, TerraBody, Parameter}
use Rattle.tl_tree.specs.Tree.{SpliceParameter, Variable, Part, Expression, Statements, TerraExpression, TerraOperand}
use Rattle.tl_tree.specs.Tree.{TerraStatements}
use Rattle.tl_tree.specs.Grammar.{Grammar, give, bind, when, many}
use Rattle.tl_tree.specs.Forms.{sign, opening, listed, listed_behind, named, semicolon, chain, Chained, chained}
use Rattle.tl_tree.specs.Forms.{operand}
use Rattle.tl_tree.specs.LuaExpressions.{expression}
use Rattle.tl_tree.specs.LuaStatements.{sequence}
use Rattle.tl_tree.specs.TerraExpressions.{escaped, terra_name, terra_suffixes, terra_expression_behind}
use Rattle.tl_tree.specs.TerraExpressions.{terra_expression, terra_expressions}

-- ---- assignments, calls and splices

-- {"," texp} "=" texps, behind the first target
abbrev pub terra_assignment : Token → Tree → Grammar Tree
terra_assignment t e =
    bind (listed_behind terra_expression (More Nothing e)) λ targets. bind (sign symbols.Equal) λ y.
    bind terra_expressions λ es.
    give (TerraAssign t.place targets es)

-- A call alone is a statement, Lua code in brackets may be one, and all others are assigned to.
abbrev pub terra_simple_statement : Token → OperandKind → Tree → Grammar Tree
terra_simple_statement t operands.Call e = give (TerraCallStatement t.place e)
terra_simple_statement t operands.Escape e =
    when (among (symbols.Equal ∷ symbols.Comma ∷ [])) (terra_assignment t e) (give (Splice t.place e))
terra_simple_statement t _ e = terra_assignment t e

-- ---- parts of statements

-- a type of Terra code is Lua code
abbrev pub terra_type : Grammar Tree
terra_type = expression modes.Types

-- [":" exp]
abbrev pub written_type : Grammar Tree
written_type = when (is symbols.Colon) (bind (sign symbols.Colon) λ y. bind terra_type λ e. give (Just e))
    (give Nothing)

-- "do" tblock "end" of a loop
abbrev pub terra_loop : Grammar Tree
terra_loop = bind (opening symbols.Do TerraStatements) λ x. bind (sign symbols.End) λ y. give x.1

-- texp "then" tblock
abbrev pub terra_arm : Tree → Grammar Tree
terra_arm a = bind terra_expression λ e. bind (opening symbols.Then TerraStatements) λ x. give (More a (Arm e x.1))

-- {"elseif" texp "then" tblock}
abbrev pub terra_arms : Tree → Grammar Tree
terra_arms a = many (λ b t. is symbols.Elseif t) (λ b t. Plain) (λ b t. None) (λ t x b. terra_arm b) a

-- ["else" tblock]
abbrev pub terra_otherwise : Grammar Tree
terra_otherwise = when (is symbols.Else) (bind (opening symbols.Else TerraStatements) λ x. give (Just x.1))
    (give Nothing)

-- ["," texp]
abbrev pub terra_step : Grammar Tree
terra_step = when (is symbols.Comma) (bind (sign symbols.Comma) λ y. bind terra_expression λ e. give (Just e))
    (give Nothing)

-- [":" exp], behind the name of a variable
abbrev pub variable_behind : Place → Tree → Grammar Tree
variable_behind place n = bind written_type λ e. give (Variable place n e)

-- tvar = tname [":" exp]
abbrev pub terra_variable : Grammar Tree
terra_variable = when (is symbols.OpenBracket) (escaped variable_behind) (named variable_behind)

-- ["=" texps]
abbrev pub terra_initial_values : Grammar Tree
terra_initial_values = when (is symbols.Equal) (bind (sign symbols.Equal) λ y. terra_expressions) (give Nothing)

-- the tokens that begin an expression
abbrev pub terra_expression_symbols : List Symbol
terra_expression_symbols =
    symbols.Name ∷ symbols.Numeral ∷ symbols.LongNumeral ∷ symbols.UnsignedNumeral ∷ symbols.Literal ∷ symbols.Nil
    ∷ symbols.False ∷ symbols.True
    ∷ symbols.OpenParen ∷ symbols.OpenBracket ∷ symbols.Not ∷ symbols.Minus ∷ symbols.At ∷ symbols.Ampersand ∷ []

-- [texps] behind "return"
abbrev pub terra_returned_values : Grammar Tree
terra_returned_values = when (among terra_expression_symbols) terra_expressions (give Nothing)

-- the block of an `escape`
abbrev pub emitting : Context
emitting = record { mode = modes.Plain; in_loop = false; emits = true }

-- ---- statements

-- what a statement is, by its first token
pub data TerraStatement : Type 0 where
  FromName FromParen FromBracket FromAt FromDo FromWhile FromRepeat FromIf FromFor FromVar FromEscape FromReturn
      FromBreak : TerraStatement

abbrev pub terra_statement_of : Symbol → TerraStatement
terra_statement_of symbols.OpenParen = FromParen
terra_statement_of symbols.OpenBracket = FromBracket
terra_statement_of symbols.At = FromAt
terra_statement_of symbols.Do = FromDo
terra_statement_of symbols.While = FromWhile
terra_statement_of symbols.Repeat = FromRepeat
terra_statement_of symbols.If = FromIf
terra_statement_of symbols.For = FromFor
terra_statement_of symbols.Var = FromVar
terra_statement_of symbols.Escape = FromEscape
terra_statement_of symbols.Return = FromReturn
terra_statement_of symbols.Break = FromBreak
terra_statement_of _ = FromName

abbrev pub terra_statement_symbols : List Symbol
terra_statement_symbols =
    symbols.Name ∷ symbols.OpenParen ∷ symbols.OpenBracket ∷ symbols.At ∷ symbols.Do ∷ symbols.While ∷ symbols.Repeat
    ∷ symbols.If ∷ symbols.For
    ∷ symbols.Var ∷ symbols.Escape ∷ symbols.Return ∷ symbols.Break ∷ []

-- what the first token of a statement opens
abbrev pub terra_statement_opens : TerraStatement → Option Part
terra_statement_opens FromParen = Some TerraExpression
terra_statement_opens FromBracket = Some (Expression modes.Plain)
terra_statement_opens FromAt = Some TerraOperand
terra_statement_opens FromDo = Some TerraStatements
terra_statement_opens FromRepeat = Some TerraStatements
terra_statement_opens FromEscape = Some (Statements emitting)
terra_statement_opens _ = None

-- The first target of an assignment is a `tsuf`, or an expression that begins with `@`. Here the rest of the statement
-- behind the first part of that `tsuf`.
abbrev pub terra_simple_behind : Token → Chained → Grammar Tree
terra_simple_behind t b = bind (terra_suffixes b) λ a. terra_simple_statement t a.kind a.tree

-- what a statement has behind its first token and what that opens
abbrev pub terra_statement : TerraStatement → Token → Tree → Grammar Tree
terra_statement FromName t x = terra_simple_behind t (chained (Name t.place t.offset t.text) chain operands.Name)
terra_statement FromParen t x =
    bind (sign symbols.CloseParen) λ y. terra_simple_behind t (chained (TerraParen t.place x) chain operands.Other)
terra_statement FromBracket t x =
    bind (sign symbols.CloseBracket) λ y. terra_simple_behind t (chained (Escape t.place x) chain operands.Escape)
terra_statement FromAt t x =
    bind (terra_expression_behind (operand chain (TerraUnary t.place unary.Dereference x))) λ a.
    terra_assignment t a.tree
terra_statement FromDo t x = bind (sign symbols.End) λ y. give (TerraDo t.place x)
terra_statement FromWhile t x = bind terra_expression λ e. bind terra_loop λ b. give (TerraWhile t.place e b)
terra_statement FromRepeat t x =
    bind (sign symbols.Until) λ y. bind terra_expression λ e. give (TerraRepeat t.place x e)
terra_statement FromIf t x =
    bind (terra_arm Nothing) λ first. bind (terra_arms first) λ all. bind terra_otherwise λ o.
    bind (sign symbols.End) λ y. give (TerraIf t.place all o)
terra_statement FromFor t x =
    bind terra_name λ n. bind (sign symbols.Equal) λ y. bind terra_expression λ a. bind (sign symbols.Comma) λ z.
    bind terra_expression λ b.
    bind terra_step λ s. bind terra_loop λ d. give (TerraFor t.place n a b s d)
terra_statement FromVar t x =
    bind (listed terra_variable) λ vs. bind terra_initial_values λ es. give (Var t.place vs es)
terra_statement FromEscape t x = bind (sign symbols.End) λ y. give (EscapeBlock t.place x)
terra_statement FromReturn t x = bind terra_returned_values λ es. give (TerraReturn t.place es)
terra_statement FromBreak t x = give (TerraBreak t.place)

-- ---- blocks

-- `return` and `break` end a block.
abbrev pub ends_terra_block : TerraStatement → Bool
ends_terra_block FromReturn = true
ends_terra_block FromBreak = true
ends_terra_block _ = false

-- tblock = { tstat [";"] } [ tlast [";"] ]
abbrev pub terra_block : Grammar Tree
terra_block =
    bind (many (λ a t. among terra_statement_symbols t && not a.ended) (λ a t. Plain)
    (λ a t. terra_statement_opens (terra_statement_of t.symbol))
    (λ t x a. bind (terra_statement (terra_statement_of t.symbol) t x) λ s. bind semicolon λ y.
    give (sequence (More a.statements s) (ends_terra_block (terra_statement_of t.symbol))))
    (sequence Nothing false)) λ a.
    give (Block a.statements)

-- ---- functions and quotes

-- param = Name ":" exp | "[" exp "]"
abbrev pub terra_parameter : Grammar Tree
terra_parameter =
    when (is symbols.OpenBracket) (escaped λ place e. give (SpliceParameter place e))
    (named λ place n. bind (sign symbols.Colon) λ y. bind terra_type λ e. give (Parameter place n e))

-- [param {"," param}], up to a ")"
abbrev pub terra_parameters : Grammar Tree
terra_parameters = when (is symbols.CloseParen) (give Nothing) (listed terra_parameter)

-- the parameters, ")" [":" exp] tblock "end", behind a "(" at this place
abbrev pub terra_function_body : Place → Grammar Tree
terra_function_body place =
    bind terra_parameters λ ps. bind (sign symbols.CloseParen) λ y. bind written_type λ r. bind terra_block λ b.
    bind (sign symbols.End) λ z.
    give (TerraBody place ps r b)

-- tblock ["in" texp], behind "quote"
abbrev pub quoted_code : Grammar Tree
quoted_code =
    bind terra_block λ b.
    when (is symbols.In) (bind (sign symbols.In) λ y. bind terra_expression λ e. give (Quoted b (Just e)))
    (give (Quoted b Nothing))
