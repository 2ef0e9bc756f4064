-- The grammar of Lua statements and functions (Lua 5.1 manual, sections 2.4 and 8), one definition for each of its
-- names.
use Rattle.std.specs.Prelude.{Bool, true, false, not, List, [], ◌∷◌, ◌&&◌, ◌||◌, if◌then◌else◌, Option, Some, None}
use Rattle.tl_tree.specs.declared.symbol.Symbol.{Symbol}
use Rattle.tl_tree.specs.declared.symbol.Symbol.TheVariants as symbols
use Rattle.tl_tree.specs.declared.mode.Mode.{Mode}
use Rattle.tl_tree.specs.declared.mode.Mode.TheVariants as modes
use Rattle.tl_tree.specs.declared.mode.Context.{Context}
use Rattle.tl_tree.specs.declared.mode.TokenUse.TheVariants.{Plain}
use Rattle.tl_tree.specs.declared.mode.OperandKind.{OperandKind}
use Rattle.tl_tree.specs.declared.mode.OperandKind.TheVariants as operands
use Rattle.tl_tree.specs.Tokens.{Token, among, is, sample}
use Rattle.tl_tree.specs.Tree.{Tree, Nothing, More, Just, Name, Paren, Assign, CallStatement, Do, While, Repeat, If}
use Rattle.tl_tree.specs.Tree.{NumericFor, GenericFor, DefineFunction, LocalFunction, Local, Return, Break, DefineTerra}
use Rattle.tl_tree.specs.Tree.{DeclareTerra, LocalTerra, LocalDeclareTerra, DefineStruct, LocalStruct, Emit, Block, Arm}
use Rattle.tl_tree.specs.Tree.{Body, Path, Part, Expression, Statements, FunctionBody, TerraFunctionBody}
use Rattle.tl_tree.specs.Grammar.{Grammar, give, token, bind, when, many}
use Rattle.tl_tree.specs.Forms.{sign, opening, opening_at, listed_behind, name, names, path_names, semicolon, chain}
use Rattle.tl_tree.specs.Forms.{Chained, chained}
use Rattle.tl_tree.specs.LuaExpressions.{paren, is_suffix, suffix_of, suffix_opens, suffix_use, suffix, suffixes}
use Rattle.tl_tree.specs.LuaExpressions.{struct_body, begins_terra, expression, expressions}

-- ---- contexts

-- the block of a loop
abbrev pub looped : Context → Context
looped c = record c { in_loop = true }

-- the block of a function, and the chunk
abbrev pub fresh : Mode → Context
fresh m = record { mode = m; in_loop = false; emits = false }

-- ---- targets of assignments

-- one suffix behind a prefix expression
abbrev pub next_suffix : Mode → Chained → Grammar Chained
next_suffix m a =
    bind (token (is_suffix m) (λ t. suffix_use a t) (λ t. suffix_opens m (suffix_of t.symbol)) (sample symbols.Dot))
    λ x.
    suffix m (suffix_of x.0.symbol) x.0 x.1 a

-- the tokens of suffixes that are calls
abbrev pub call_symbols : List Symbol
call_symbols = symbols.OpenParen ∷ symbols.Colon ∷ symbols.OpenBrace ∷ symbols.Literal ∷ []

-- the tokens of suffixes that index
abbrev pub index_symbols : List Symbol
index_symbols = symbols.OpenBracket ∷ symbols.Dot ∷ []

-- Calls and then an index, which make a variable of what is none.
abbrev pub to_variable : Mode → Chained → Grammar Chained
to_variable m a =
    bind (many (λ b t. among call_symbols t && is_suffix m t) (λ b t. suffix_use b t)
    (λ b t. suffix_opens m (suffix_of t.symbol)) (λ t x b. suffix m (suffix_of t.symbol) t x b) a) λ b.
    bind (token (λ t. among index_symbols t && is_suffix m t) (λ t. suffix_use b t)
    (λ t. suffix_opens m (suffix_of t.symbol)) (sample symbols.Dot)) λ x.
    suffix m (suffix_of x.0.symbol) x.0 x.1 b

-- A call is no variable.
abbrev pub as_variable : Mode → OperandKind → Chained → Grammar Chained
as_variable m operands.Call a = to_variable m a
as_variable m _ a = give a

-- suffixes behind a variable, of which the last is no call
abbrev pub variable_suffixes : Mode → Chained → Grammar Chained
variable_suffixes m a =
    many (λ b t. is_suffix m t) (λ b t. suffix_use b t) (λ b t. suffix_opens m (suffix_of t.symbol))
    (λ t x b. bind (suffix m (suffix_of t.symbol) t x b) λ d. as_variable m d.kind d) a

-- var = Name | prefix "[" exp "]" | prefix "." Name
abbrev pub variable : Mode → Grammar Tree
variable m =
    when (is symbols.OpenParen)
    (bind (paren m) λ b. bind (to_variable m b) λ d. bind (variable_suffixes m d) λ a. give a.tree)
    (bind name λ n. bind (variable_suffixes m (chained n chain operands.Name)) λ a. give a.tree)

-- ---- paths and loops

-- [":" Name]
abbrev pub path_method : Tree → Grammar Tree
path_method ns =
    when (is symbols.Colon)
    (bind (sign symbols.Colon) λ c. bind (sign symbols.Name) λ n.
    give (Path ns (Just (Name c.0.place n.0.offset n.0.text))))
    (give (Path ns Nothing))

-- path = Name {"." Name} [":" Name]
abbrev pub path : Grammar Tree
path = bind name λ n. bind (path_names (More Nothing n)) λ ns. path_method ns

-- Name {"." Name}
abbrev pub struct_path : Grammar Tree
struct_path = bind name λ n. bind (path_names (More Nothing n)) λ ns. give (Path ns Nothing)

-- "do" block "end" of a loop
abbrev pub loop : Context → Grammar Tree
loop c = bind (opening symbols.Do (Statements (looped c))) λ x. bind (sign symbols.End) λ y. give x.1

-- ---- statements by their first token

-- what a statement is, by its first token
pub data Statement : Type 0 where
  FromName FromParen FromDo FromWhile FromRepeat FromIf FromFor FromFunction FromLocal FromReturn FromBreak FromTerra
      FromStruct FromEmit : Statement

abbrev pub statement_of : Symbol → Statement
statement_of symbols.OpenParen = FromParen
statement_of symbols.Do = FromDo
statement_of symbols.While = FromWhile
statement_of symbols.Repeat = FromRepeat
statement_of symbols.If = FromIf
statement_of symbols.For = FromFor
statement_of symbols.Function = FromFunction
statement_of symbols.Local = FromLocal
statement_of symbols.Return = FromReturn
statement_of symbols.Break = FromBreak
statement_of symbols.Terra = FromTerra
statement_of symbols.Struct = FromStruct
statement_of symbols.Emit = FromEmit
statement_of _ = FromName

abbrev pub statement_symbols : List Symbol
statement_symbols =
    symbols.Name ∷ symbols.OpenParen ∷ symbols.Do ∷ symbols.While ∷ symbols.Repeat ∷ symbols.If ∷ symbols.For
    ∷ symbols.Function ∷ symbols.Local
    ∷ symbols.Return ∷ symbols.Break ∷ symbols.Terra ∷ symbols.Struct ∷ symbols.Emit ∷ []

-- `break` stands in a loop, and `emit` in an `escape`.
abbrev pub has_place : Context → Token → Bool
has_place c t = if is symbols.Break t then c.in_loop else (if is symbols.Emit t then c.emits else true)

abbrev pub is_statement : Context → Token → Bool
is_statement c t = among statement_symbols t && has_place c t

-- what the first token of a statement opens
abbrev pub statement_opens : Context → Statement → Option Part
statement_opens c FromParen = Some (Expression c.mode)
statement_opens c FromDo = Some (Statements c)
statement_opens c FromRepeat = Some (Statements (looped c))
statement_opens c _ = None

-- ---- blocks and parameters

-- the statements of a block so far, and whether the last of them ends it
pub record Sequence : Type 0 where
  pub statements : Tree
  pub ended : Bool

abbrev pub sequence : Tree → Bool → Sequence
sequence statements ended = record { statements = statements; ended = ended }

-- `return` and `break` end a block.
abbrev pub ends_block : Statement → Bool
ends_block FromReturn = true
ends_block FromBreak = true
ends_block _ = false

-- the names of parameters so far, and whether `...` came behind them
pub record Parameters : Type 0 where
  pub names : Tree
  pub variadic : Bool

abbrev pub parameters_of : Tree → Bool → Parameters
parameters_of names variadic = record { names = names; variadic = variadic }

-- Name | "..."
abbrev pub parameter : Tree → Grammar Parameters
parameter before =
    when (is symbols.Ellipsis) (bind (sign symbols.Ellipsis) λ y. give (parameters_of before true))
    (bind name λ n. give (parameters_of (More before n) false))

-- [names ["," "..."] | "..."], up to a ")"
abbrev pub parameters : Grammar Parameters
parameters =
    when (is symbols.CloseParen) (give (parameters_of Nothing false))
    (bind (parameter Nothing) λ p.
    many (λ a t. is symbols.Comma t && not a.variadic) (λ a t. Plain) (λ a t. None) (λ t x a. parameter a.names) p)

abbrev pub body_mode : Bool → Mode
body_mode true = modes.Variadic
body_mode false = modes.Plain

-- the tokens that begin an expression without Terra code
abbrev pub expression_symbols : List Symbol
expression_symbols =
    symbols.Name ∷ symbols.Numeral ∷ symbols.Literal ∷ symbols.Nil ∷ symbols.False ∷ symbols.True ∷ symbols.Ellipsis
    ∷ symbols.Function
    ∷ symbols.OpenParen ∷ symbols.OpenBrace ∷ symbols.Not ∷ symbols.Hash ∷ symbols.Minus ∷ symbols.Ampersand ∷ []

-- {"," var} "=" exps, behind the first variable
abbrev pub assignment : Mode → Token → Tree → Grammar Tree
assignment m t e =
    bind (listed_behind (variable m) (More Nothing e)) λ targets. bind (sign symbols.Equal) λ y.
    bind (expressions m) λ es. give (Assign t.place targets es)

-- A call alone is a statement; a variable is assigned to.
abbrev pub call_or_assignment : Mode → Token → OperandKind → Tree → Grammar Tree
call_or_assignment m t operands.Call e = give (CallStatement t.place e)
call_or_assignment m t _ e = assignment m t e

-- ---- parts of statements

-- exp "then" block
abbrev pub arm : Context → Tree → Grammar Tree
arm c a = bind (expression c.mode) λ e. bind (opening symbols.Then (Statements c)) λ x. give (More a (Arm e x.1))

-- {"elseif" exp "then" block}
abbrev pub arms : Context → Tree → Grammar Tree
arms c a = many (λ b t. is symbols.Elseif t) (λ b t. Plain) (λ b t. None) (λ t x b. arm c b) a

-- ["else" block]
abbrev pub otherwise : Context → Grammar Tree
otherwise c = when (is symbols.Else) (bind (opening symbols.Else (Statements c)) λ x. give (Just x.1)) (give Nothing)

-- ["," exp]
abbrev pub step : Mode → Grammar Tree
step m = when (is symbols.Comma) (bind (sign symbols.Comma) λ y. bind (expression m) λ e. give (Just e)) (give Nothing)

-- "for" Name "=" exp "," exp ["," exp] "do" block "end"
abbrev pub numeric_for : Context → Token → Tree → Grammar Tree
numeric_for c t n =
    bind (sign symbols.Equal) λ y. bind (expression c.mode) λ a. bind (sign symbols.Comma) λ z.
    bind (expression c.mode) λ b. bind (step c.mode) λ s.
    bind (loop c) λ x. give (NumericFor t.place n a b s x)

-- "for" names "in" exps "do" block "end"
abbrev pub generic_for : Context → Token → Tree → Grammar Tree
generic_for c t n =
    bind (listed_behind name (More Nothing n)) λ ns. bind (sign symbols.In) λ y. bind (expressions c.mode) λ es.
    bind (loop c) λ x.
    give (GenericFor t.place ns es x)

-- ["=" exps]
abbrev pub initial_values : Mode → Grammar Tree
initial_values m = when (is symbols.Equal) (bind (sign symbols.Equal) λ y. expressions m) (give Nothing)

abbrev pub begins_expression : Token → Bool
begins_expression t = among expression_symbols t || begins_terra t

-- [exps] behind "return"
abbrev pub returned_values : Mode → Grammar Tree
returned_values m = when begins_expression (expressions m) (give Nothing)

-- "::" exp, or tbody, behind "terra" and a path or name
abbrev pub terra_definition : Context → (Tree → Tree) → (Tree → Tree) → Grammar Tree
terra_definition c declare define =
    when (is symbols.DoubleColon)
    (bind (sign symbols.DoubleColon) λ y. bind (expression c.mode) λ e. give (declare e))
    (bind (opening_at symbols.OpenParen TerraFunctionBody) λ b. give (define b.1))

-- "terra" Name .. | "struct" Name sbody, behind "local"
abbrev pub local_terra : Context → Token → Grammar Tree
local_terra c t =
    when (is symbols.Struct)
    (bind (sign symbols.Struct) λ y. bind name λ n. bind (struct_body c.mode) λ es.
    give (LocalStruct t.place y.0.place n es))
    (bind (sign symbols.Terra) λ y. bind name λ n.
    terra_definition c (LocalDeclareTerra t.place y.0.place n) (LocalTerra t.place y.0.place n))

-- the tokens of declarations of Terra code behind "local"
abbrev pub begins_local_terra : Token → Bool
begins_local_terra t = among (symbols.Terra ∷ symbols.Struct ∷ []) t

-- ---- statements

-- what a statement has behind its first token and what that opens
abbrev pub statement : Context → Statement → Token → Tree → Grammar Tree
statement c FromName t x =
    bind (suffixes c.mode (chained (Name t.place t.offset t.text) chain operands.Name)) λ a.
    call_or_assignment c.mode t a.kind a.tree
statement c FromParen t x =
    bind (sign symbols.CloseParen) λ y. bind (next_suffix c.mode (chained (Paren t.place x) chain operands.Other)) λ b.
    bind (suffixes c.mode b) λ a.
    call_or_assignment c.mode t a.kind a.tree
statement c FromDo t x = bind (sign symbols.End) λ y. give (Do t.place x)
statement c FromWhile t x = bind (expression c.mode) λ e. bind (loop c) λ b. give (While t.place e b)
statement c FromRepeat t x = bind (sign symbols.Until) λ y. bind (expression c.mode) λ e. give (Repeat t.place x e)
statement c FromIf t x =
    bind (arm c Nothing) λ first. bind (arms c first) λ all. bind (otherwise c) λ o. bind (sign symbols.End) λ y.
    give (If t.place all o)
statement c FromFor t x = bind name λ n. when (is symbols.Equal) (numeric_for c t n) (generic_for c t n)
statement c FromFunction t x =
    bind path λ p. bind (opening symbols.OpenParen FunctionBody) λ b. give (DefineFunction t.place p b.1)
statement c FromLocal t x =
    when (is symbols.Function)
    (bind (sign symbols.Function) λ y. bind name λ n. bind (opening symbols.OpenParen FunctionBody) λ b.
    give (LocalFunction t.place n b.1))
    (when begins_local_terra (local_terra c t)
    (bind names λ ns. bind (initial_values c.mode) λ es. give (Local t.place ns es)))
statement c FromReturn t x = bind (returned_values c.mode) λ es. give (Return t.place es)
statement c FromBreak t x = give (Break t.place)
statement c FromTerra t x = bind path λ p. terra_definition c (DeclareTerra t.place p) (DefineTerra t.place p)
statement c FromStruct t x = bind struct_path λ p. bind (struct_body c.mode) λ es. give (DefineStruct t.place p es)
statement c FromEmit t x = bind (expression c.mode) λ e. give (Emit t.place e)

-- ---- blocks

-- block = { stat [";"] } [ last [";"] ]
abbrev pub block : Context → Grammar Tree
block c =
    bind (many (λ a t. is_statement c t && not a.ended) (λ a t. Plain)
    (λ a t. statement_opens c (statement_of t.symbol))
    (λ t x a. bind (statement c (statement_of t.symbol) t x) λ s. bind semicolon λ y.
    give (sequence (More a.statements s) (ends_block (statement_of t.symbol))))
    (sequence Nothing false)) λ a.
    give (Block a.statements)

-- ---- functions

-- the parameters, ")" block "end"
abbrev pub function_body : Grammar Tree
function_body =
    bind parameters λ p. bind (sign symbols.CloseParen) λ y. bind (block (fresh (body_mode p.variadic))) λ b.
    bind (sign symbols.End) λ z.
    give (Body p.names p.variadic b)
