-- Texts of Lua and Terra code with their trees and refusals, computed from the grammar.
use Rattle.std.proofs.Common.{◌≡◌, ℕ, List, [], ◌∷◌, ◌++◌, refl}
use Rattle.std.specs.Prelude.{codes}
use Rattle.tl_lex.specs.declared.SyntaxKind.TheVariants as why
use Rattle.tl_tree.specs.declared.symbol.Symbol.TheVariants.{Break, Do, Else, Elseif, End, True, For, Function, If, In}
use Rattle.tl_tree.specs.declared.symbol.Symbol.TheVariants.{Nil, Not, Repeat, Return, Then, Until, While, Terra, Quote}
use Rattle.tl_tree.specs.declared.symbol.Symbol.TheVariants.{Escape, Emit, Struct, Var, Local, Plus, Minus, Star, Caret}
use Rattle.tl_tree.specs.declared.symbol.Symbol.TheVariants.{DoubleEqual, Equal, OpenParen, CloseParen, OpenBrace}
use Rattle.tl_tree.specs.declared.symbol.Symbol.TheVariants.{CloseBrace, OpenBracket, CloseBracket, Semicolon, Colon}
use Rattle.tl_tree.specs.declared.symbol.Symbol.TheVariants.{DoubleColon, Comma, Dot, Ellipsis, Arrow, At, Ampersand}
use Rattle.tl_tree.specs.declared.symbol.Symbol.TheVariants.{DoubleLess, Backtick, Name, Numeral, LongNumeral}
use Rattle.tl_tree.specs.declared.node.BinaryOperator.TheVariants as binary
use Rattle.tl_tree.specs.declared.node.UnaryOperator.TheVariants as unary
use Rattle.tl_tree.specs.Symbols.{spelling}
use Rattle.tl_tree.specs.Tokens.{Token}
use Rattle.tl_tree.specs.Counting.{nodes_of}
use Rattle.tl_tree.specs.Tree as t
use Rattle.tl_tree.specs.Refusing.{Answer, IsTree, Refused}
use Rattle.tl_tree.proofs.Answering.{reads}
use Rattle.tl_tree.proofs.Examples.{p, row, text, numeral, x, ◌&◌, none, chunk_of, refused}

-- local terra x(x : x) : {x} -> x return x end
local_terra :
    reads (text (Local ∷ Terra ∷ Name ∷ OpenParen ∷ Name ∷ Colon ∷ Name ∷ CloseParen ∷ Colon ∷ OpenBrace ∷ Name
    ∷ CloseBrace ∷ Arrow ∷ Name ∷ Return ∷ Name ∷ End ∷ []))
    ≡ chunk_of
    (t.LocalTerra (p 1) (p 2) (x 3)
    (t.TerraBody (p 4) (none & t.Parameter (p 5) (x 5) (x 7))
    (t.Just (t.Binary (p 13) binary.Arrow (t.Table (p 10) (none & x 11)) (x 14)))
    (t.Block (none & t.TerraReturn (p 15) (none & x 16)))))
local_terra = refl

-- terra x.x:x() end  terra x :: x  local terra x :: x
declarations :
    reads (text (Terra ∷ Name ∷ Dot ∷ Name ∷ Colon ∷ Name ∷ OpenParen ∷ CloseParen ∷ End ∷ Terra ∷ Name ∷ DoubleColon
    ∷ Name ∷ Local ∷ Terra ∷ Name ∷ DoubleColon ∷ Name ∷ []))
    ≡ IsTree
    (t.Block
    (none & t.DefineTerra (p 1)
    (t.Path (none & x 2 & t.Name (p 3) 4 (spelling Name)) (t.Just (t.Name (p 5) 6 (spelling Name))))
    (t.TerraBody (p 7) none t.Nothing (t.Block none))
    & t.DeclareTerra (p 10) (t.Path (none & x 11) t.Nothing) (x 13) & t.LocalDeclareTerra (p 14) (p 15) (x 16) (x 18)))
declarations = refl

-- struct x { x : x , x : & x ; x : x }  local struct x { }
structs :
    reads (text (Struct ∷ Name ∷ OpenBrace ∷ Name ∷ Colon ∷ Name ∷ Comma ∷ Name ∷ Colon ∷ Ampersand ∷ Name ∷ Semicolon
    ∷ Name ∷ Colon ∷ Name ∷ CloseBrace ∷ Local ∷ Struct ∷ Name ∷ OpenBrace ∷ CloseBrace ∷ []))
    ≡ IsTree
    (t.Block
    (none
    & t.DefineStruct (p 1) (t.Path (none & x 2) t.Nothing)
    (none & t.Entry (x 4) (x 6) & t.Entry (x 8) (t.Unary (p 10) unary.Address (x 11)) & t.Entry (x 13) (x 15))
    & t.LocalStruct (p 17) (p 18) (x 19) none))
structs = refl

-- a chunk that returns one expression
abbrev returns : t.Tree → Answer t.Tree
returns e = chunk_of (t.Return (p 1) (none & e))

-- return ` not x == x << x + x * @ x
terra_precedence :
    reads (text (Return ∷ Backtick ∷ Not ∷ Name ∷ DoubleEqual ∷ Name ∷ DoubleLess ∷ Name ∷ Plus ∷ Name ∷ Star ∷ At
    ∷ Name ∷ []))
    ≡ returns
    (t.Backtick (p 2)
    (t.TerraBinary (p 5) binary.Equal (t.TerraUnary (p 3) unary.Not (x 4))
    (t.TerraBinary (p 7) binary.ShiftLeft (x 6)
    (t.TerraBinary (p 9) binary.Add (x 8)
    (t.TerraBinary (p 11) binary.Multiply (x 10) (t.TerraUnary (p 12) unary.Dereference (x 13)))))))
terra_precedence = refl

-- return ` x ^ x ^ - x ^ x
terra_powers :
    reads (text (Return ∷ Backtick ∷ Name ∷ Caret ∷ Name ∷ Caret ∷ Minus ∷ Name ∷ Caret ∷ Name ∷ []))
    ≡ returns (t.Backtick (p 2)
    (t.TerraBinary (p 6) binary.Power (t.TerraBinary (p 4) binary.Power (x 3) (x 5))
    (t.TerraUnary (p 7) unary.Negate (t.TerraBinary (p 9) binary.Power (x 8) (x 10)))))
terra_powers = refl

-- return quote x ( x ) in x end
quote_with_value :
    reads (text (Return ∷ Quote ∷ Name ∷ OpenParen ∷ Name ∷ CloseParen ∷ In ∷ Name ∷ End ∷ []))
    ≡ returns (t.Quote (p 2)
    (t.Quoted (t.Block (none & t.TerraCallStatement (p 3) (t.TerraCall (p 4) (x 3) (none & x 5)))) (t.Just (x 8))))
quote_with_value = refl

-- return quote var x = x in x , x end
one_value : reads (text (Return ∷ Quote ∷ Var ∷ Name ∷ Equal ∷ Name ∷ In ∷ Name ∷ Comma ∷ Name ∷ End ∷ []))
    ≡ refused why.Unexpected 8 (text (Return ∷ Quote ∷ Var ∷ Name ∷ Equal ∷ Name ∷ In ∷ Name ∷ Comma ∷ Name ∷ End ∷ []))
one_value = refl

-- return quote ... end, of one statement
abbrev quotes : ℕ → t.Tree → Answer t.Tree
quotes w s = returns (t.Quote (p 2) (t.Quoted (t.Block (none & s)) t.Nothing))

-- [x] as a statement, a name, a field, a method's name and a target
splices :
    reads (text (Return ∷ Quote ∷ OpenBracket ∷ Name ∷ CloseBracket ∷ Var ∷ OpenBracket ∷ Name ∷ CloseBracket ∷ Colon
    ∷ Name ∷ Equal ∷ Name ∷ Dot ∷ OpenBracket ∷ Name ∷ CloseBracket ∷ Name ∷ Colon ∷ OpenBracket ∷ Name
    ∷ CloseBracket ∷ OpenParen ∷ Name ∷ CloseParen ∷ End ∷ []))
    ≡ returns
    (t.Quote (p 2)
    (t.Quoted
    (t.Block
    (none & t.Splice (p 3) (t.Escape (p 3) (x 4))
    & t.Var (p 6) (none & t.Variable (p 7) (t.Escape (p 7) (x 8)) (t.Just (x 11)))
    (none & t.TerraSelect (p 14) (x 13) (t.Escape (p 15) (x 16)))
    & t.TerraCallStatement (p 18) (t.TerraMethod (p 19) (x 18) (t.Escape (p 20) (x 21)) (none & x 24))))
    t.Nothing))
splices = refl

-- for [x] = x, x do end
spliced_for :
    reads (text (Return ∷ Quote ∷ For ∷ OpenBracket ∷ Name ∷ CloseBracket ∷ Equal ∷ Name ∷ Comma ∷ Name ∷ Do ∷ End
    ∷ End ∷ []))
    ≡ quotes 1 (t.TerraFor (p 3) (t.Escape (p 4) (x 5)) (x 8) (x 10) t.Nothing (t.Block none))
spliced_for = refl

-- a target that begins with `@` is a whole expression: @ x + x , x ( ) = x
dereferenced_target :
    reads (text (Return ∷ Quote ∷ At ∷ Name ∷ Plus ∷ Name ∷ Comma ∷ Name ∷ OpenParen ∷ CloseParen ∷ Equal ∷ Name ∷ End
    ∷ []))
    ≡ quotes 1 (t.TerraAssign (p 3)
    (none & t.TerraBinary (p 5) binary.Add (t.TerraUnary (p 3) unary.Dereference (x 4)) (x 6) & t.TerraCall (p 9)
    (x 8) none) (none & x 12))
dereferenced_target = refl

-- a first target is no call: x ( ) = x
terra_call_is_no_target : reads (text (Return ∷ Quote ∷ Name ∷ OpenParen ∷ CloseParen ∷ Equal ∷ Name ∷ End ∷ []))
    ≡ refused why.Unexpected 5 (text (Return ∷ Quote ∷ Name ∷ OpenParen ∷ CloseParen ∷ Equal ∷ Name ∷ End ∷ []))
terra_call_is_no_target = refl

-- initialisers: x { x , x ; }  x { x = x , x = x }
positional :
    reads (text (Return ∷ Backtick ∷ Name ∷ OpenBrace ∷ Name ∷ Comma ∷ Name ∷ Semicolon ∷ CloseBrace ∷ []))
    ≡ returns (t.Backtick (p 2) (t.Construct (p 4) (x 3) (none & x 5 & x 7)))
positional = refl

named :
    reads (text (Return ∷ Backtick ∷ Name ∷ OpenBrace ∷ Name ∷ Equal ∷ Name ∷ Comma ∷ Name ∷ Equal ∷ Name ∷ CloseBrace
    ∷ []))
    ≡ returns (t.Backtick (p 2) (t.Construct (p 4) (x 3) (none & t.NamedField (x 5) (x 7) & t.NamedField (x 9) (x 11))))
named = refl

-- but not both kinds: x { x , x = x }  x { x = x , x }
named_behind_positional : reads (text (Return ∷ Backtick ∷ Name ∷ OpenBrace ∷ Name ∷ Comma ∷ Name ∷ Equal ∷ []))
    ≡ refused why.Unexpected 7 (text (Return ∷ Backtick ∷ Name ∷ OpenBrace ∷ Name ∷ Comma ∷ Name ∷ Equal ∷ []))
named_behind_positional = refl

positional_behind_named : reads
    (text (Return ∷ Backtick ∷ Name ∷ OpenBrace ∷ Name ∷ Equal ∷ Name ∷ Comma ∷ Name ∷ CloseBrace ∷ []))
    ≡ refused why.Unexpected 9
    (text (Return ∷ Backtick ∷ Name ∷ OpenBrace ∷ Name ∷ Equal ∷ Name ∷ Comma ∷ Name ∷ CloseBrace ∷ []))
positional_behind_named = refl

-- escape do emit x end end
emits :
    reads (text (Return ∷ Quote ∷ Escape ∷ Do ∷ Emit ∷ Name ∷ End ∷ End ∷ End ∷ []))
    ≡ quotes 1 (t.EscapeBlock (p 3) (t.Block (none & t.Do (p 4) (t.Block (none & t.Emit (p 5) (x 6))))))
emits = refl

-- outside of an escape, and in a function within one, `emit` is no statement
emits_outside : reads (text (Emit ∷ Name ∷ [])) ≡ refused why.Unexpected 0 (text (Emit ∷ Name ∷ []))
emits_outside = refl

emits_in_function : reads
    (text (Return ∷ Quote ∷ Escape ∷ Name ∷ Equal ∷ Function ∷ OpenParen ∷ CloseParen ∷ Emit ∷ []))
    ≡ refused why.Unexpected 8
    (text (Return ∷ Quote ∷ Escape ∷ Name ∷ Equal ∷ Function ∷ OpenParen ∷ CloseParen ∷ Emit ∷ []))
emits_in_function = refl

-- Terra code is a border for loops and `...`: while x do local x = quote escape break   return ` [ ...
no_loop_in_escape : reads (text (While ∷ Name ∷ Do ∷ Local ∷ Name ∷ Equal ∷ Quote ∷ Escape ∷ Break ∷ []))
    ≡ refused why.Unexpected 8 (text (While ∷ Name ∷ Do ∷ Local ∷ Name ∷ Equal ∷ Quote ∷ Escape ∷ Break ∷ []))
no_loop_in_escape = refl

no_dots_in_escape : reads (text (Return ∷ Backtick ∷ OpenBracket ∷ Ellipsis ∷ []))
    ≡ refused why.Unexpected 3 (text (Return ∷ Backtick ∷ OpenBracket ∷ Ellipsis ∷ []))
no_dots_in_escape = refl

-- terra x() : x and on the next line [x] = x end: a `[` that is first on its line begins a statement
bracket_begins_statement :
    reads (row 1 1 (Terra ∷ Name ∷ OpenParen ∷ CloseParen ∷ Colon ∷ Name ∷ [])
    ++ row 2 1 (OpenBracket ∷ Name ∷ CloseBracket ∷ Equal ∷ Nil ∷ End ∷ []))
    ≡ chunk_of
    (t.DefineTerra (p 1) (t.Path (none & x 2) t.Nothing)
    (t.TerraBody (p 3) none (t.Just (x 6))
    (t.Block
    (none
    & t.TerraAssign (record { line = 2; word = 1 })
    (none & t.Escape (record { line = 2; word = 1 }) (t.Name (record { line = 2; word = 2 }) 2 (spelling Name)))
    (none & t.TerraNil (record { line = 2; word = 5 }))))))
bracket_begins_statement = refl

-- struct x { x : x and on the next line [x] }: but not in Lua code
bracket_continues_type :
    reads (row 1 1 (Struct ∷ Name ∷ OpenBrace ∷ Name ∷ Colon ∷ Name ∷ [])
    ++ row 2 1 (OpenBracket ∷ Numeral ∷ CloseBracket ∷ CloseBrace ∷ []))
    ≡ chunk_of (t.DefineStruct (p 1) (t.Path (none & x 2) t.Nothing)
    (none & t.Entry (x 4) (t.Index (record { line = 2; word = 1 }) (x 6)
    (t.Numeral (record { line = 2; word = 2 }) (codes "0")))))
unfolding Rattle.tl_tree.specs.Numbers.value_of
bracket_continues_type = refl

-- terra x() [x] [x] end: on its own line Lua code in brackets is continued by what can continue a `tsuf`
escapes_in_a_row :
    reads (text (Terra ∷ Name ∷ OpenParen ∷ CloseParen ∷ OpenBracket ∷ Name ∷ CloseBracket ∷ OpenBracket ∷ Name
    ∷ CloseBracket ∷ End ∷ []))
    ≡ refused why.Unexpected 10
    (text (Terra ∷ Name ∷ OpenParen ∷ CloseParen ∷ OpenBracket ∷ Name ∷ CloseBracket ∷ OpenBracket ∷ Name
    ∷ CloseBracket ∷ End ∷ []))
escapes_in_a_row = refl

-- terra x() [x] (x) = x end
escape_is_called :
    reads (text (Terra ∷ Name ∷ OpenParen ∷ CloseParen ∷ OpenBracket ∷ Name ∷ CloseBracket ∷ OpenParen ∷ Name
    ∷ CloseParen ∷ Equal ∷ Name ∷ End ∷ []))
    ≡ refused why.Unexpected 10
    (text (Terra ∷ Name ∷ OpenParen ∷ CloseParen ∷ OpenBracket ∷ Name ∷ CloseBracket ∷ OpenParen ∷ Name
    ∷ CloseParen ∷ Equal ∷ Name ∷ End ∷ []))
escape_is_called = refl

-- where an operand is wanted it begins one: terra x() return and on the next line [x] end
bracket_begins_operand :
    reads (row 1 1 (Terra ∷ Name ∷ OpenParen ∷ CloseParen ∷ Return ∷ [])
    ++ row 2 1 (OpenBracket ∷ Nil ∷ CloseBracket ∷ End ∷ []))
    ≡ chunk_of
    (t.DefineTerra (p 1) (t.Path (none & x 2) t.Nothing)
    (t.TerraBody (p 3) none t.Nothing
    (t.Block (none & t.TerraReturn (p 5)
    (none & t.Escape (record { line = 2; word = 1 }) (t.Nil (record { line = 2; word = 2 })))))))
bracket_begins_operand = refl

-- numbers of Terra code
abbrev in_terra : Token → List Token
in_terra n = text (Return ∷ Backtick ∷ []) ++ n ∷ []

largest_int32 : reads (in_terra (numeral 3 Numeral (codes "2147483647")))
    ≡ returns (t.Backtick (p 2) (t.Numeral (p 3) (codes "2147483647")))
unfolding Rattle.tl_tree.specs.Numbers.value_of
largest_int32 = refl

larger_int32 : reads (in_terra (numeral 3 Numeral (codes "2147483648")))
    ≡ Refused why.BadNumber (numeral 3 Numeral (codes "2147483648") ∷ [])
unfolding Rattle.tl_tree.specs.Numbers.value_of
larger_int32 = refl

largest_int64 : reads (in_terra (numeral 3 LongNumeral (codes "0x7fffFFFFffffFFFFLL")))
    ≡ returns (t.Backtick (p 2) (t.Numeral (p 3) (codes "0x7fffFFFFffffFFFFLL")))
unfolding Rattle.tl_tree.specs.Numbers.value_of
largest_int64 = refl

larger_int64 : reads (in_terra (numeral 3 LongNumeral (codes "9223372036854775808LL")))
    ≡ Refused why.BadNumber (numeral 3 LongNumeral (codes "9223372036854775808LL") ∷ [])
unfolding Rattle.tl_tree.specs.Numbers.value_of
larger_int64 = refl

-- ---- nodes

abbrev nodes_in : Answer t.Tree → ℕ
nodes_in (IsTree tree) = nodes_of tree
nodes_in (Refused kind rest) = 0

-- local x = terra() end
terra_expression_nodes : nodes_in (reads (text (Local ∷ Name ∷ Equal ∷ Terra ∷ OpenParen ∷ CloseParen ∷ End ∷ []))) ≡ 3
terra_expression_nodes = refl

-- local terra x() end
local_terra_nodes : nodes_in (reads (text (Local ∷ Terra ∷ Name ∷ OpenParen ∷ CloseParen ∷ End ∷ []))) ≡ 2
local_terra_nodes = refl

-- terra x() end
terra_nodes : nodes_in (reads (text (Terra ∷ Name ∷ OpenParen ∷ CloseParen ∷ End ∷ []))) ≡ 3
terra_nodes = refl

-- local x = ` nil
backtick_nodes : nodes_in (reads (text (Local ∷ Name ∷ Equal ∷ Backtick ∷ Nil ∷ []))) ≡ 3
backtick_nodes = refl

-- local x = ` [ nil ]
escape_nodes : nodes_in (reads (text (Local ∷ Name ∷ Equal ∷ Backtick ∷ OpenBracket ∷ Nil ∷ CloseBracket ∷ []))) ≡ 4
escape_nodes = refl

-- local x = quote [ { } ] end
splice_nodes : nodes_in (reads
    (text (Local ∷ Name ∷ Equal ∷ Quote ∷ OpenBracket ∷ OpenBrace ∷ CloseBrace ∷ CloseBracket ∷ End ∷ []))) ≡ 4
splice_nodes = refl

-- x.x, x[(x)] = x { x } : a statement, two targets with their objects, a key in brackets, a call with its table and
-- field
assignment_nodes : nodes_in
    (reads (text (Name ∷ Dot ∷ Name ∷ Comma ∷ Name ∷ OpenBracket ∷ OpenParen ∷ Name ∷ CloseParen ∷ CloseBracket ∷ Equal
    ∷ Name ∷ OpenBrace ∷ Name ∷ CloseBrace ∷ []))) ≡ 11
assignment_nodes = refl

-- ---- the other statements of Terra code

-- do end  while x do break end  repeat until x  if x then elseif x then else end
terra_blocks :
    reads (text (Return ∷ Quote ∷ Do ∷ End ∷ While ∷ Name ∷ Do ∷ Break ∷ End ∷ Repeat ∷ Until ∷ Name ∷ If ∷ Name ∷ Then
    ∷ Elseif ∷ Name ∷ Then ∷ Else ∷ End ∷ End ∷ []))
    ≡ returns
    (t.Quote (p 2)
    (t.Quoted
    (t.Block
    (none & t.TerraDo (p 3) (t.Block none) & t.TerraWhile (p 5) (x 6) (t.Block (none & t.TerraBreak (p 8))) &
    t.TerraRepeat (p 10) (t.Block none) (x 12)
    & t.TerraIf (p 13) (none & t.Arm (x 14) (t.Block none) & t.Arm (x 17) (t.Block none)) (t.Just (t.Block none))))
    t.Nothing))
terra_blocks = refl

-- x[x], (x).x = x, nil
terra_targets :
    reads (text (Return ∷ Quote ∷ Name ∷ OpenBracket ∷ Name ∷ CloseBracket ∷ Comma ∷ OpenParen ∷ Name ∷ CloseParen
    ∷ Dot ∷ Name ∷ Equal ∷ Name ∷ Comma ∷ Nil ∷ End ∷ []))
    ≡ quotes 1
    (t.TerraAssign (p 3) (none & t.TerraIndex (p 4) (x 3) (x 5) & t.TerraSelect (p 11) (t.TerraParen (p 8) (x 9))
    (x 12)) (none & x 14 & t.TerraNil (p 16)))
terra_targets = refl

-- return & x, true; end
terra_return :
    reads (text (Return ∷ Quote ∷ Return ∷ Ampersand ∷ Name ∷ Comma ∷ True ∷ Semicolon ∷ End ∷ []))
    ≡ quotes 1 (t.TerraReturn (p 3) (none & t.TerraUnary (p 4) unary.Address (x 5) & t.TerraTrue (p 7)))
terra_return = refl

-- terra([x], x : x) end
terra_parameters :
    reads (text (Return ∷ Terra ∷ OpenParen ∷ OpenBracket ∷ Name ∷ CloseBracket ∷ Comma ∷ Name ∷ Colon ∷ Name
    ∷ CloseParen ∷ End ∷ []))
    ≡ returns (t.TerraFunction (p 2)
    (t.TerraBody (p 3) (none & t.SpliceParameter (p 4) (t.Escape (p 4) (x 5)) & t.Parameter (p 8) (x 8) (x 10))
    t.Nothing (t.Block none)))
terra_parameters = refl
