-- What both languages have, such as lists of expressions and arms, by the language.
use Rattle.std.specs.Prelude.{ℕ, ◌-◌, Bool, List, [], ◌∷◌, if◌then◌else◌, Option}
use Rattle.tl_base.specs.declared.place.Place.{Place}
use Rattle.tl_tree.specs.declared.symbol.Symbol.{Symbol}
use Rattle.tl_tree.specs.declared.symbol.Symbol.TheVariants as symbols
use Rattle.tl_tree.specs.Tokens.{Token, is, among}
use Rattle.tl_tree.specs.Tree.{Tree, Nothing, Just, Part, Expression, TerraExpression, Arguments, TerraArguments}
use Rattle.tl_tree.specs.Tree.{Statements}
use Rattle.tl_tree.specs.Tree.{TerraStatements, Do, While, Repeat, If, Return, TerraDo, TerraWhile, TerraRepeat}
use Rattle.tl_tree.specs.Tree.{TerraIf, TerraReturn}
use Rattle.tl_tree.specs.Tree.{FunctionBody, TerraFunctionBody}
use Rattle.tl_tree.specs.Grammar.{Grammar, Outcome, Took, ◌>>=◌, begins}
use Rattle.tl_tree.specs.LuaExpressions as lua
use Rattle.tl_tree.specs.LuaStatements as statements
use Rattle.tl_tree.specs.TerraExpressions as terra
use Rattle.tl_tree.specs.TerraStatements as terra_statements
use Rattle.tl_parse.specs.Views.Using.{part_at, sign_at, open_at}
use Rattle.tl_parse.specs.declared.parser.Code.{Code}
use Rattle.tl_parse.specs.declared.parser.Code.TheVariants as codes
use Rattle.tl_parse.specs.declared.parser.BlockCode.{BlockCode}
use Rattle.tl_parse.specs.declared.parser.BlockCode.TheVariants as block_codes

-- an expression, as its grammar and as a part
abbrev pub expression_of : Code → Grammar Tree
expression_of (codes.Lua m) = lua.expression m
expression_of codes.Terra = terra.terra_expression

abbrev pub expression_in : Code → Part
expression_in (codes.Lua m) = Expression m
expression_in codes.Terra = TerraExpression

-- a sign or word, and an expression behind it
unfoldable pub expression_behind_at : ℕ → Symbol → Code → List Token → Outcome Tree
expression_behind_at levels s code ts = sign_at s ts >>= λ y a. part_at levels (expression_in code) a

-- the same if the sign or word is there
unfoldable pub optional_expression_at : ℕ → Symbol → Code → List Token → Outcome Tree
optional_expression_at levels s code ts =
    if begins (is s) ts then (expression_behind_at levels s code ts >>= λ e rest. Took (Just e) rest)
    else Took Nothing ts

-- the tokens that begin an expression
abbrev pub lua_symbols : List Symbol
lua_symbols =
    symbols.Name ∷ symbols.Numeral ∷ symbols.Literal ∷ symbols.Nil ∷ symbols.False ∷ symbols.True ∷ symbols.Ellipsis
    ∷ symbols.Function
    ∷ symbols.OpenParen ∷ symbols.OpenBrace ∷ symbols.Not ∷ symbols.Hash ∷ symbols.Minus ∷ symbols.Ampersand
    ∷ symbols.Terra ∷ symbols.Struct
    ∷ symbols.Quote ∷ symbols.Backtick ∷ []

abbrev pub first_symbols : Code → List Symbol
first_symbols (codes.Lua m) = lua_symbols
first_symbols codes.Terra = terra_statements.terra_expression_symbols

-- what the parentheses of a call hold
abbrev pub arguments_in : Code → Part
arguments_in (codes.Lua m) = Arguments m
arguments_in codes.Terra = TerraArguments

-- what a function has behind its name, and the same of a function of Terra code, with the place of its "("
unfoldable pub opened_body_at : ℕ → List Token → Outcome Tree
opened_body_at levels ts = open_at symbols.OpenParen levels ts >>= λ t a. part_at (levels - 1) FunctionBody a

unfoldable pub opened_terra_body_at : ℕ → List Token → Outcome Tree
opened_terra_body_at levels ts =
    open_at symbols.OpenParen levels ts >>= λ t a. part_at (levels - 1) (TerraFunctionBody t.place) a

-- the expressions in a block, its statements, and the arms behind those before
abbrev pub code_of : BlockCode → Code
code_of (block_codes.Lua c) = codes.Lua c.mode
code_of block_codes.Terra = codes.Terra

abbrev pub statements_in : BlockCode → Part
statements_in (block_codes.Lua c) = Statements c
statements_in block_codes.Terra = TerraStatements

abbrev pub arms_of : BlockCode → Tree → Grammar Tree
arms_of (block_codes.Lua c) before = statements.arms c before
arms_of block_codes.Terra before = terra_statements.terra_arms before

-- the block of a loop in a block
abbrev pub looped_code : BlockCode → BlockCode
looped_code (block_codes.Lua c) = block_codes.Lua (statements.looped c)
looped_code block_codes.Terra = block_codes.Terra

-- the statements that both languages have
abbrev pub do_of : BlockCode → Place → Tree → Tree
do_of (block_codes.Lua c) place x = Do place x
do_of block_codes.Terra place x = TerraDo place x

abbrev pub while_of : BlockCode → Place → Tree → Tree → Tree
while_of (block_codes.Lua c) place e x = While place e x
while_of block_codes.Terra place e x = TerraWhile place e x

abbrev pub repeat_of : BlockCode → Place → Tree → Tree → Tree
repeat_of (block_codes.Lua c) place x e = Repeat place x e
repeat_of block_codes.Terra place x e = TerraRepeat place x e

abbrev pub if_of : BlockCode → Place → Tree → Tree → Tree
if_of (block_codes.Lua c) place all o = If place all o
if_of block_codes.Terra place all o = TerraIf place all o

abbrev pub return_of : BlockCode → Place → Tree → Tree
return_of (block_codes.Lua c) place es = Return place es
return_of block_codes.Terra place es = TerraReturn place es

-- a statement by its first token: whether that begins one, what it opens, what is behind that, and whether a block ends
abbrev pub begins_statement : BlockCode → Token → Bool
begins_statement (block_codes.Lua c) t = statements.is_statement c t
begins_statement block_codes.Terra t = among terra_statements.terra_statement_symbols t

abbrev pub statement_opens : BlockCode → Symbol → Option Part
statement_opens (block_codes.Lua c) s = statements.statement_opens c (statements.statement_of s)
statement_opens block_codes.Terra s = terra_statements.terra_statement_opens (terra_statements.terra_statement_of s)

abbrev pub statement_behind : BlockCode → Token → Tree → Grammar Tree
statement_behind (block_codes.Lua c) t x = statements.statement c (statements.statement_of t.symbol) t x
statement_behind block_codes.Terra t x =
    terra_statements.terra_statement (terra_statements.terra_statement_of t.symbol) t x

abbrev pub ends_block : BlockCode → Symbol → Bool
ends_block (block_codes.Lua c) s = statements.ends_block (statements.statement_of s)
ends_block block_codes.Terra s = terra_statements.ends_terra_block (terra_statements.terra_statement_of s)
