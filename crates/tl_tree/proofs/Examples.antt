-- Texts with their trees and refusals, computed from the grammar. The tokens of a text stand on one line unless it says
-- otherwise.
use Rattle.std.proofs.Common.{◌≡◌, ℕ, zero, suc, true, false, List, [], ◌∷◌, ◌++◌, ◌+◌, ◌==◌, drop, refl, Some}
use Rattle.std.specs.Prelude.{codes}
use Rattle.tl_base.specs.declared.place.Place.{Place}
use Rattle.tl_lex.specs.declared.SyntaxKind.{SyntaxKind}
use Rattle.tl_lex.specs.declared.SyntaxKind.TheVariants as why
use Rattle.tl_tree.specs.declared.symbol.Symbol.{Symbol}
use Rattle.tl_tree.specs.declared.symbol.Symbol.TheVariants.{Break, Do, Else, Elseif, End, False, True, Hash, For}
use Rattle.tl_tree.specs.declared.symbol.Symbol.TheVariants.{Function, If, In, Nil, Not, Or, And, Repeat, Return, Then}
use Rattle.tl_tree.specs.declared.symbol.Symbol.TheVariants.{Until, While, Local, Plus, Minus, Star, Caret, Less, Equal}
use Rattle.tl_tree.specs.declared.symbol.Symbol.TheVariants.{OpenParen, CloseParen, OpenBrace, CloseBrace, OpenBracket}
use Rattle.tl_tree.specs.declared.symbol.Symbol.TheVariants.{CloseBracket, Semicolon, Colon, Comma, Dot, DoubleDot}
use Rattle.tl_tree.specs.declared.symbol.Symbol.TheVariants.{Ellipsis, Arrow, Name, Numeral, LongNumeral, Literal}
use Rattle.tl_tree.specs.declared.node.BinaryOperator.TheVariants as binary
use Rattle.tl_tree.specs.declared.node.UnaryOperator.TheVariants as unary
use Rattle.tl_base.specs.declared.ids.NodeId.{NodeId}
use Rattle.tl_tree.specs.declared.node.Expression.TheVariants as expressions
use Rattle.tl_tree.specs.declared.node.Statement.TheVariants as statements
use Rattle.tl_tree.specs.declared.node.Piece.TheVariants as pieces
use Rattle.tl_tree.specs.Item.{Item}
use Rattle.tl_tree.specs.Item as items
use Rattle.tl_tree.specs.Nodes.{lay}
use Rattle.tl_tree.specs.Symbols.{spelling}
use Rattle.tl_tree.specs.Tokens.{Token}
use Rattle.tl_tree.specs.Tree as t
use Rattle.tl_tree.specs.Refusing.{Answer, IsTree, Refused}
use Rattle.tl_tree.proofs.Answering.{reads}

-- ---- tokens and trees

abbrev pub p : ℕ → Place
p w = record { line = 1; word = w }

-- tokens on a line, from a word on
abbrev pub row : ℕ → ℕ → List Symbol → List Token
row line w [] = []
row line w (s ∷ more) = record
    { symbol = s; text = spelling s; place = record { line = line; word = w }; offset = w; first_on_line = w == 1 }
    ∷ row line (w + 1) more

abbrev pub text : List Symbol → List Token
text ss = row 1 1 ss

-- the numeral with these bytes
abbrev pub numeral : ℕ → Symbol → List ℕ → Token
numeral w s bytes = record { symbol = s; text = bytes; place = p w; offset = w; first_on_line = false }

-- the name `x` at a word
abbrev pub x : ℕ → t.Tree
x w = t.Name (p w) w (spelling Name)

infixl 5 ◌&◌
abbrev pub ◌&◌ : t.Tree → t.Tree → t.Tree
a & b = t.More a b

abbrev pub none : t.Tree
none = t.Nothing

-- a chunk of one statement
abbrev pub chunk_of : t.Tree → Answer t.Tree
chunk_of s = IsTree (t.Block (none & s))

-- the tokens are refused behind so many of them
abbrev pub refused : SyntaxKind → ℕ → List Token → Answer t.Tree
refused kind n ts = Refused kind (drop n ts)

-- ---- Lua code

-- local x = = 1
second_equal : reads (text (Local ∷ Name ∷ Equal ∷ Equal ∷ Numeral ∷ []))
    ≡ refused why.Unexpected 3 (text (Local ∷ Name ∷ Equal ∷ Equal ∷ Numeral ∷ []))
second_equal = refl

-- x = x or x and x < x .. x .. x + x * - x ^ x ^ x
precedence :
    reads (text (Name ∷ Equal ∷ Name ∷ Or ∷ Name ∷ And ∷ Name ∷ Less ∷ Name ∷ DoubleDot ∷ Name ∷ DoubleDot ∷ Name
    ∷ Plus ∷ Name ∷ Star ∷ Minus ∷ Name ∷ Caret ∷ Name ∷ Caret ∷ Name ∷ []))
    ≡ chunk_of
    (t.Assign (p 1) (none & x 1)
    (none
    & t.Binary (p 4) binary.Or (x 3)
    (t.Binary (p 6) binary.And (x 5)
    (t.Binary (p 8) binary.Less (x 7)
    (t.Binary (p 10) binary.Concatenate (x 9)
    (t.Binary (p 12) binary.Concatenate (x 11)
    (t.Binary (p 14) binary.Add (x 13)
    (t.Binary (p 16) binary.Multiply (x 15)
    (t.Unary (p 17) unary.Negate
    (t.Binary (p 19) binary.Power (x 18) (t.Binary (p 21) binary.Power (x 20) (x 22))))))))))))
precedence = refl

-- x = x - x - x ; x = x -> x -> x
groups_left_and_right :
    reads (text (Name ∷ Equal ∷ Name ∷ Minus ∷ Name ∷ Minus ∷ Name ∷ Semicolon ∷ Name ∷ Equal ∷ Name ∷ Arrow ∷ Name
    ∷ Arrow ∷ Name ∷ []))
    ≡ IsTree
    (t.Block
    (none & t.Assign (p 1) (none & x 1)
    (none & t.Binary (p 6) binary.Subtract (t.Binary (p 4) binary.Subtract (x 3) (x 5)) (x 7))
    & t.Assign (p 9) (none & x 9)
    (none & t.Binary (p 12) binary.Arrow (x 11) (t.Binary (p 14) binary.Arrow (x 13) (x 15)))))
groups_left_and_right = refl

-- x.x:x(x)[x], x = x {}, x ''
targets :
    reads (text (Name ∷ Dot ∷ Name ∷ Colon ∷ Name ∷ OpenParen ∷ Name ∷ CloseParen ∷ OpenBracket ∷ Name ∷ CloseBracket
    ∷ Comma ∷ Name ∷ Equal ∷ Name ∷ OpenBrace ∷ CloseBrace ∷ Comma ∷ Name ∷ Literal ∷ []))
    ≡ chunk_of
    (t.Assign (p 1) (none & t.Index (p 9) (t.Method (p 4) (t.Select (p 2) (x 1) (x 3)) (x 5) (none & x 7)) (x 10) & x
    13)
    (none & t.Call (p 16) (x 15) (none & t.Table (p 16) none) & t.Call (p 20) (x 19)
    (none & t.Literal (p 20) (39 ∷ 39 ∷ []))))
targets = refl

-- x, (x)().x = x
called_target :
    reads (text (Name ∷ Comma ∷ OpenParen ∷ Name ∷ CloseParen ∷ OpenParen ∷ CloseParen ∷ Dot ∷ Name ∷ Equal ∷ Name
    ∷ []))
    ≡ chunk_of (t.Assign (p 1) (none & x 1 & t.Select (p 8) (t.Call (p 6) (t.Paren (p 3) (x 4)) none) (x 9))
    (none & x 11))
called_target = refl

-- no target: x, x() = x ; x() = x ; (x) = x ; x
call_is_no_target : reads (text (Name ∷ Comma ∷ Name ∷ OpenParen ∷ CloseParen ∷ Equal ∷ []))
    ≡ refused why.Unexpected 5 (text (Name ∷ Comma ∷ Name ∷ OpenParen ∷ CloseParen ∷ Equal ∷ []))
call_is_no_target = refl

first_call_is_no_target : reads (text (Name ∷ OpenParen ∷ CloseParen ∷ Equal ∷ []))
    ≡ refused why.Unexpected 3 (text (Name ∷ OpenParen ∷ CloseParen ∷ Equal ∷ []))
first_call_is_no_target = refl

brackets_are_no_target : reads (text (OpenParen ∷ Name ∷ CloseParen ∷ Equal ∷ []))
    ≡ refused why.Unexpected 3 (text (OpenParen ∷ Name ∷ CloseParen ∷ Equal ∷ []))
brackets_are_no_target = refl

name_alone : reads (text (Name ∷ [])) ≡ Refused why.Unexpected []
name_alone = refl

-- x = { x = x , [ x ] = x ; x , }
table :
    reads (text (Name ∷ Equal ∷ OpenBrace ∷ Name ∷ Equal ∷ Name ∷ Comma ∷ OpenBracket ∷ Name ∷ CloseBracket ∷ Equal
    ∷ Name ∷ Semicolon ∷ Name ∷ Comma ∷ CloseBrace ∷ []))
    ≡ chunk_of (t.Assign (p 1) (none & x 1)
    (none & t.Table (p 3) (none & t.NamedField (x 4) (x 6) & t.KeyedField (x 9) (x 12) & x 14)))
table = refl

-- function x.x:x(x, ...) return ... ; end
function_statement :
    reads (text (Function ∷ Name ∷ Dot ∷ Name ∷ Colon ∷ Name ∷ OpenParen ∷ Name ∷ Comma ∷ Ellipsis ∷ CloseParen
    ∷ Return ∷ Ellipsis ∷ Semicolon ∷ End ∷ []))
    ≡ chunk_of
    (t.DefineFunction (p 1) (t.Path (none & x 2 & t.Name (p 3) 4 (spelling Name))
    (t.Just (t.Name (p 5) 6 (spelling Name))))
    (t.Body (none & x 8) true (t.Block (none & t.Return (p 12) (none & t.Varargs (p 13))))))
function_statement = refl

-- function x(..., x): nothing follows `...`
nothing_behind_dots : reads (text (Function ∷ Name ∷ OpenParen ∷ Ellipsis ∷ Comma ∷ []))
    ≡ refused why.Unexpected 4 (text (Function ∷ Name ∷ OpenParen ∷ Ellipsis ∷ Comma ∷ []))
nothing_behind_dots = refl

-- local function x() return ...: this function has none
no_dots : reads (text (Local ∷ Function ∷ Name ∷ OpenParen ∷ CloseParen ∷ Return ∷ Ellipsis ∷ []))
    ≡ refused why.Unexpected 6 (text (Local ∷ Function ∷ Name ∷ OpenParen ∷ CloseParen ∷ Return ∷ Ellipsis ∷ []))
no_dots = refl

-- while x do break end
breaks_loop : reads (text (While ∷ Name ∷ Do ∷ Break ∷ End ∷ []))
    ≡ chunk_of (t.While (p 1) (x 2) (t.Block (none & t.Break (p 4))))
breaks_loop = refl

-- while x do x = function() break: the function is in no loop
breaks_no_loop : reads (text (While ∷ Name ∷ Do ∷ Name ∷ Equal ∷ Function ∷ OpenParen ∷ CloseParen ∷ Break ∷ []))
    ≡ refused why.Unexpected 8
    (text (While ∷ Name ∷ Do ∷ Name ∷ Equal ∷ Function ∷ OpenParen ∷ CloseParen ∷ Break ∷ []))
breaks_no_loop = refl

-- if x then elseif x then return else end
choice :
    reads (text (If ∷ Name ∷ Then ∷ Elseif ∷ Name ∷ Then ∷ Return ∷ Else ∷ End ∷ []))
    ≡ chunk_of (t.If (p 1) (none & t.Arm (x 2) (t.Block none) & t.Arm (x 5) (t.Block (none & t.Return (p 7) none)))
    (t.Just (t.Block none)))
choice = refl

-- for x = x, x, x do end  for x, x in x do end  repeat until x  do end
loops :
    reads (text (For ∷ Name ∷ Equal ∷ Name ∷ Comma ∷ Name ∷ Comma ∷ Name ∷ Do ∷ End ∷ For ∷ Name ∷ Comma ∷ Name ∷ In
    ∷ Name ∷ Do ∷ End ∷ Repeat ∷ Until ∷ Name ∷ Do ∷ End ∷ []))
    ≡ IsTree
    (t.Block
    (none & t.NumericFor (p 1) (x 2) (x 4) (x 6) (t.Just (x 8)) (t.Block none) & t.GenericFor (p 11)
    (none & x 12 & x 14) (none & x 16) (t.Block none) & t.Repeat (p 19) (t.Block none) (x 21)
    & t.Do (p 22) (t.Block none)))
loops = refl

-- return return
returns_once : reads (text (Return ∷ Return ∷ [])) ≡ refused why.Unexpected 1 (text (Return ∷ Return ∷ []))
returns_once = refl

-- x() and on the next line (x)()
ambiguous :
    reads (row 1 1 (Name ∷ OpenParen ∷ CloseParen ∷ [])
    ++ row 2 1 (OpenParen ∷ Name ∷ CloseParen ∷ OpenParen ∷ CloseParen ∷ []))
    ≡ Refused why.Ambiguous (row 2 1 (OpenParen ∷ Name ∷ CloseParen ∷ OpenParen ∷ CloseParen ∷ []))
ambiguous = refl

-- x:x and on the next line (x)
method_is_clear : reads (row 1 1 (Name ∷ Colon ∷ Name ∷ []) ++ row 2 1 (OpenParen ∷ CloseParen ∷ []))
    ≡ chunk_of (t.CallStatement (p 1) (t.Method (p 2) (x 1) (x 3) none))
method_is_clear = refl

-- a hundred blocks are open, and one more
abbrev times : ℕ → Symbol → List Symbol
times zero s = []
times (suc n) s = s ∷ times n s

open_blocks : reads (text (times 100 Do)) ≡ Refused why.Unexpected []
open_blocks = refl

too_many_blocks : reads (text (times 101 Do)) ≡ refused why.TooDeep 100 (text (times 101 Do))
too_many_blocks = refl

-- numbers
abbrev returned : Token → List Token
returned n = record { symbol = Return; text = codes "return"; place = p 1; offset = 1; first_on_line = true } ∷ n ∷ []

largest : reads (returned (numeral 2 Numeral (codes "99999999999999")))
    ≡ chunk_of (t.Return (p 1) (none & t.Numeral (p 2) (codes "99999999999999")))
unfolding Rattle.tl_tree.specs.Numbers.value_of
largest = refl

larger : reads (returned (numeral 2 Numeral (codes "100000000000000")))
    ≡ Refused why.BadNumber (numeral 2 Numeral (codes "100000000000000") ∷ [])
unfolding Rattle.tl_tree.specs.Numbers.value_of
larger = refl

suffix_in_lua : reads (returned (numeral 2 LongNumeral (codes "5LL")))
    ≡ Refused why.Unexpected (numeral 2 LongNumeral (codes "5LL") ∷ [])
suffix_in_lua = refl

-- so many times `.x`, and so many times `+ x`
abbrev selections : ℕ → List Symbol
selections zero = []
selections (suc n) = Dot ∷ Name ∷ selections n

too_many_suffixes : reads (text (Name ∷ selections 1001)) ≡ refused why.TooDeep 2001 (text (Name ∷ selections 1001))
too_many_suffixes = refl

all_suffixes : reads (text (Name ∷ selections 1000)) ≡ Refused why.Unexpected []
all_suffixes = refl

-- local function x() end  local x, x = x  (x).x''  x:x{x}
more_statements :
    reads (text (Local ∷ Function ∷ Name ∷ OpenParen ∷ CloseParen ∷ End ∷ Local ∷ Name ∷ Comma ∷ Name ∷ Equal ∷ Name
    ∷ Semicolon ∷ OpenParen ∷ Name ∷ CloseParen ∷ Dot ∷ Name ∷ Literal ∷ Name ∷ Colon ∷ Name ∷ OpenBrace ∷ Name
    ∷ CloseBrace ∷ []))
    ≡ IsTree
    (t.Block
    (none & t.LocalFunction (p 1) (x 3) (t.Body none false (t.Block none)) & t.Local (p 7) (none & x 8 & x 10)
    (none & x 12)
    & t.CallStatement (p 14) (t.Call (p 19) (t.Select (p 17) (t.Paren (p 14) (x 15)) (x 18))
    (none & t.Literal (p 19) (39 ∷ 39 ∷ [])))
    & t.CallStatement (p 20) (t.Method (p 21) (x 20) (x 22) (none & t.Table (p 23) (none & x 24)))))
more_statements = refl

-- return nil, false, true, #x, not x, function() end
operands :
    reads (text (Return ∷ Nil ∷ Comma ∷ False ∷ Comma ∷ True ∷ Comma ∷ Hash ∷ Name ∷ Comma ∷ Not ∷ Name ∷ Comma
    ∷ Function ∷ OpenParen ∷ CloseParen ∷ End ∷ []))
    ≡ chunk_of
    (t.Return (p 1)
    (none & t.Nil (p 2) & t.False (p 4) & t.True (p 6) & t.Unary (p 8) unary.Length (x 9) & t.Unary (p 11) unary.Not
    (x 12) & t.Function (p 14) (t.Body none false (t.Block none))))
operands = refl

-- ---- nodes

abbrev n : ℕ → NodeId
n k = record { 0 = k }

abbrev nodes_in : Answer t.Tree → List Item
nodes_in (IsTree tree) = lay tree []
nodes_in (Refused kind rest) = []

-- x = x:x{x}: children come before their node, in order of the text
nodes_of_assignment :
    nodes_in (reads (text (Name ∷ Equal ∷ Name ∷ Colon ∷ Name ∷ OpenBrace ∷ Name ∷ CloseBrace ∷ [])))
    ≡ items.Name (p 1) 1 (spelling Name) ∷ items.Name (p 3) 3 (spelling Name) ∷ items.Name (p 5) 5 (spelling Name)
    ∷ items.Name (p 7) 7 (spelling Name)
    ∷ items.Expression (p 6) (expressions.Table (n 3 ∷ []))
    ∷ items.Expression (p 4) (expressions.Method (n 1) (n 2) (n 4 ∷ []))
    ∷ items.Statement (p 1) (statements.Assign (n 0 ∷ []) (n 5 ∷ [])) ∷ items.Piece (pieces.Block (n 6 ∷ [])) ∷ []
nodes_of_assignment = refl

-- if x then else end
nodes_of_choice :
    nodes_in (reads (text (If ∷ Name ∷ Then ∷ Else ∷ End ∷ [])))
    ≡ items.Name (p 2) 2 (spelling Name) ∷ items.Piece (pieces.Block []) ∷ items.Piece (pieces.Arm (n 0) (n 1))
    ∷ items.Piece (pieces.Block [])
    ∷ items.Statement (p 1) (statements.If (n 2 ∷ []) (Some (n 3))) ∷ items.Piece (pieces.Block (n 4 ∷ [])) ∷ []
nodes_of_choice = refl
