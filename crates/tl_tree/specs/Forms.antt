-- What the grammars of Lua and Terra code are made of.
use Rattle.std.specs.Prelude.{ℕ, List, [], ◌∷◌, Some, None}
use Rattle.tl_base.specs.declared.place.Place.{Place}
use Rattle.tl_tree.specs.declared.symbol.Symbol.{Symbol}
use Rattle.tl_tree.specs.declared.symbol.Symbol.TheVariants as symbols
use Rattle.tl_tree.specs.declared.mode.TokenUse.TheVariants.{Plain, Continues}
use Rattle.tl_tree.specs.declared.mode.OperandKind.{OperandKind}
use Rattle.tl_tree.specs.declared.mode.OperandKind.TheVariants as operands
use Rattle.tl_tree.specs.declared.node.BinaryOperator.{BinaryOperator}
use Rattle.tl_tree.specs.declared.node.BinaryOperator.TheVariants as binary
use Rattle.tl_tree.specs.declared.node.UnaryOperator.{UnaryOperator}
use Rattle.tl_tree.specs.declared.node.UnaryOperator.TheVariants as unary
use Rattle.tl_tree.specs.Tokens.{Token, among, is, sample}
use Rattle.tl_tree.specs.Tree.{Tree, Nothing, More, Name, Part}
use Rattle.tl_tree.specs.Grammar.{Grammar, give, token, bind, when, many, down}

-- a token with a symbol
abbrev pub sign : Symbol → Grammar (Token × Tree)
sign s = token (is s) (λ t. Plain) (λ t. None) (sample s)

-- a token with a symbol, and the part that it opens, which depends on its place
abbrev pub opening_at : Symbol → (Place → Part) → Grammar (Token × Tree)
opening_at s part = token (is s) (λ t. Plain) (λ t. Some (part t.place)) (sample s)

-- a token with a symbol, and the part that it opens
abbrev pub opening : Symbol → Part → Grammar (Token × Tree)
opening s part = opening_at s (λ place. part)

-- {"," x}, behind a list
abbrev pub listed_behind : Grammar Tree → Tree → Grammar Tree
listed_behind x before =
    many (λ a t. is symbols.Comma t) (λ a t. Plain) (λ a t. None) (λ t y a. bind x λ e. give (More a e)) before

-- x {"," x}
abbrev pub listed : Grammar Tree → Grammar Tree
listed x = bind x λ e. listed_behind x (More Nothing e)

-- {("," | ";") x} [("," | ";")], up to a "}", behind a list
abbrev pub separated_behind : Grammar Tree → Tree → Grammar Tree
separated_behind x before =
    many (λ a t. among (symbols.Comma ∷ symbols.Semicolon ∷ []) t) (λ a t. Plain) (λ a t. None)
    (λ t y a. when (is symbols.CloseBrace) (give a) (bind x λ e. give (More a e))) before

-- Name, and what depends on its place and on it
abbrev pub named : {A : Type 0} → (Place → Tree → Grammar A) → Grammar A
named goes = bind (sign symbols.Name) λ n. goes n.0.place (Name n.0.place n.0.offset n.0.text)

-- Name
abbrev pub name : Grammar Tree
name = named λ place n. give n

-- Name {"," Name}
abbrev pub names : Grammar Tree
names = listed name

-- [";"]
abbrev pub semicolon : Grammar Tree
semicolon = when (is symbols.Semicolon) (bind (sign symbols.Semicolon) λ y. give Nothing) (give Nothing)

-- ["," | ";"]
abbrev pub separator : Grammar Tree
separator =
    when (among (symbols.Comma ∷ symbols.Semicolon ∷ []))
    (bind (token (among (symbols.Comma ∷ symbols.Semicolon ∷ [])) (λ t. Plain) (λ t. None) (sample symbols.Semicolon))
    λ y. give Nothing)
    (give Nothing)

-- {"." Name}: the names of a path have the places of their "."
abbrev pub path_names : Tree → Grammar Tree
path_names a =
    many (λ b t. is symbols.Dot t) (λ b t. Plain) (λ b t. None)
    (λ t x b. bind (sign symbols.Name) λ n. give (More b (Name t.place n.0.offset n.0.text))) a

-- ---- chains

-- how many tokens may continue a chain
abbrev pub chain : ℕ
chain = 1000

-- A tree, how many more tokens may continue its chain, and what the tree is, as far as what follows depends on it.
pub record Chained : Type 0 where
  pub tree : Tree
  pub links : ℕ
  pub kind : OperandKind

abbrev pub chained : Tree → ℕ → OperandKind → Chained
chained tree links kind = record { tree = tree; links = links; kind = kind }

-- an operand of a chain of operators
abbrev pub operand : ℕ → Tree → Chained
operand links tree = chained tree links operands.Other

-- the same tree in another chain
abbrev pub in_chain : ℕ → Chained → Chained
in_chain links a = chained a.tree links a.kind

-- ---- operators

-- the operator that a token is, between two operands
abbrev pub binary_of : Symbol → BinaryOperator
binary_of symbols.Or = binary.Or
binary_of symbols.And = binary.And
binary_of symbols.Less = binary.Less
binary_of symbols.Greater = binary.Greater
binary_of symbols.LessEqual = binary.LessEqual
binary_of symbols.GreaterEqual = binary.GreaterEqual
binary_of symbols.NotEqual = binary.NotEqual
binary_of symbols.DoubleEqual = binary.Equal
binary_of symbols.DoubleDot = binary.Concatenate
binary_of symbols.DoubleLess = binary.ShiftLeft
binary_of symbols.DoubleGreater = binary.ShiftRight
binary_of symbols.Plus = binary.Add
binary_of symbols.Minus = binary.Subtract
binary_of symbols.Star = binary.Multiply
binary_of symbols.Slash = binary.Divide
binary_of symbols.Percent = binary.Modulo
binary_of symbols.Caret = binary.Power
binary_of _ = binary.Arrow

-- the operator that a token is, before its operand
abbrev pub unary_of : Symbol → UnaryOperator
unary_of symbols.Not = unary.Not
unary_of symbols.Hash = unary.Length
unary_of symbols.Ampersand = unary.Address
unary_of symbols.At = unary.Dereference
unary_of _ = unary.Negate

abbrev pub comparisons : List Symbol
comparisons = symbols.Less ∷ symbols.Greater ∷ symbols.LessEqual ∷ symbols.GreaterEqual ∷ symbols.NotEqual
    ∷ symbols.DoubleEqual ∷ []

abbrev pub additive : List Symbol
additive = symbols.Plus ∷ symbols.Minus ∷ []

abbrev pub multiplicative : List Symbol
multiplicative = symbols.Star ∷ symbols.Slash ∷ symbols.Percent ∷ []

-- Operators of these symbols and their operands, which group to the left, behind a first operand. `make` makes the
-- tree; an operand is read in the chain that goes on.
abbrev pub operators : List Symbol → (ℕ → Grammar Chained) → (Token → Tree → Tree → Tree) → Chained → Grammar Chained
operators ss x make a =
    many (λ a t. among ss t) (λ a t. Continues a.links) (λ a t. None)
    (λ t y a. bind (x (down a.links)) λ b. give (operand b.links (make t a.tree b.tree))) a

-- An operator that groups to the right, with the part that is its right operand, behind a left operand; or the operand
-- alone.
abbrev pub right_operator : Symbol → Part → (Token → Tree → Tree → Tree) → Chained → Grammar Chained
right_operator s part make a =
    when (is s)
    (bind (token (is s) (λ t. Continues a.links) (λ t. Some part) (sample s)) λ x.
    give (operand (down a.links) (make x.0 a.tree x.1)))
    (give a)
