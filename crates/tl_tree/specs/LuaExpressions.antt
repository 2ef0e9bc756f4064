-- The grammar of Lua expressions (Lua 5.1 manual, sections 2.5 and 8), one definition for each of its names.
use Rattle.std.specs.Prelude.{ℕ, Bool, true, false, not, List, [], ◌∷◌, ◌&&◌, if◌then◌else◌, Option, Some, None}
use Rattle.tl_tree.specs.declared.symbol.Symbol.{Symbol}
use Rattle.tl_tree.specs.declared.symbol.Symbol.TheVariants as symbols
use Rattle.tl_tree.specs.declared.mode.Mode.{Mode}
use Rattle.tl_tree.specs.declared.mode.Mode.TheVariants.{Variadic, Types}
use Rattle.tl_tree.specs.declared.mode.TokenUse.{TokenUse}
use Rattle.tl_tree.specs.declared.mode.TokenUse.TheVariants.{Plain, Continues, Calls, LuaNumber}
use Rattle.tl_tree.specs.declared.mode.OperandKind.{OperandKind}
use Rattle.tl_tree.specs.declared.mode.OperandKind.TheVariants as operands
use Rattle.tl_tree.specs.Tokens.{Token, among, is, sample}
use Rattle.tl_tree.specs.Tree.{Tree, Nothing, More, Name, Numeral, Literal, Nil, False, True, Varargs, Function, Table}
use Rattle.tl_tree.specs.Tree.{Binary, Unary, Paren, Index, Select, Call, Method, NamedField, KeyedField, TerraFunction}
use Rattle.tl_tree.specs.Tree.{Struct, Quote, Backtick, Entry, Part, Expression, Operand, Concatenation, Arguments}
use Rattle.tl_tree.specs.Tree.{Fields, FunctionBody, Entries, TerraFunctionBody, QuotedCode, TerraExpression}
use Rattle.tl_tree.specs.Grammar.{Grammar, give, token, bind, when, many, down}
use Rattle.tl_tree.specs.Forms.{sign, opening, opening_at, listed, separated_behind, separator, name, chain, Chained}
use Rattle.tl_tree.specs.Forms.{chained, operand, in_chain, binary_of, unary_of, comparisons, additive, multiplicative}
use Rattle.tl_tree.specs.Forms.{operators, right_operator}

-- ---- prefix expressions, and what may follow them

-- "(" exp ")"
abbrev pub paren : Mode → Grammar Chained
paren m =
    bind (opening symbols.OpenParen (Expression m)) λ x. bind (sign symbols.CloseParen) λ y.
    give (chained (Paren x.0.place x.1) chain operands.Other)

-- Name | "(" exp ")"
abbrev pub base : Mode → Grammar Chained
base m = when (is symbols.OpenParen) (paren m) (bind name λ n. give (chained n chain operands.Name))

-- the tokens that follow a prefix expression, and belong to it
abbrev pub suffix_symbols : List Symbol
suffix_symbols = symbols.OpenParen ∷ symbols.OpenBracket ∷ symbols.Dot ∷ symbols.Colon ∷ symbols.OpenBrace
    ∷ symbols.Literal ∷ []

-- In a type of Terra code, a `[` that is first on its line begins a statement.
abbrev pub may_continue : Mode → Token → Bool
may_continue Types t = not (is symbols.OpenBracket t && t.first_on_line)
may_continue _ t = true

abbrev pub is_suffix : Mode → Token → Bool
is_suffix m t = among suffix_symbols t && may_continue m t

-- what a suffix is, by its first token
pub data Suffix : Type 0 where
  -- "(" [exps] ")" ; "[" exp "]" ; "." Name ; ":" Name args ; a table ; a text
  InParens InBrackets Selects CallsMethod WithTable WithText : Suffix

abbrev pub suffix_of : Symbol → Suffix
suffix_of symbols.OpenParen = InParens
suffix_of symbols.OpenBracket = InBrackets
suffix_of symbols.Dot = Selects
suffix_of symbols.Colon = CallsMethod
suffix_of symbols.OpenBrace = WithTable
suffix_of _ = WithText

abbrev pub suffix_opens : Mode → Suffix → Option Part
suffix_opens m InParens = Some (Arguments m)
suffix_opens m InBrackets = Some (Expression m)
suffix_opens m WithTable = Some (Fields m)
suffix_opens m _ = None

-- A "(" behind a prefix expression is ambiguous where it is first on its line.
abbrev pub suffix_use : Chained → Token → TokenUse
suffix_use a t = if is symbols.OpenParen t then Calls a.links else Continues a.links

-- a call, an index or a selection behind a prefix expression
abbrev pub called : Chained → Tree → Chained
called a tree = chained tree (down a.links) operands.Call

abbrev pub indexed : Chained → Tree → Chained
indexed a tree = chained tree (down a.links) operands.Variable

-- "(" [exps] ")" | table | Text, behind a method's name
abbrev pub arguments : Mode → Grammar Tree
arguments m =
    when (is symbols.OpenParen)
    (bind (opening symbols.OpenParen (Arguments m)) λ x. bind (sign symbols.CloseParen) λ y. give x.1)
    (when (is symbols.OpenBrace)
    (bind (opening symbols.OpenBrace (Fields m)) λ x. bind (sign symbols.CloseBrace) λ y.
    give (More Nothing (Table x.0.place x.1)))
    (bind (sign symbols.Literal) λ x. give (More Nothing (Literal x.0.place x.0.text))))

-- what a suffix has behind its first token and what that opens
abbrev pub suffix : Mode → Suffix → Token → Tree → Chained → Grammar Chained
suffix m InParens t x a = bind (sign symbols.CloseParen) λ y. give (called a (Call t.place a.tree x))
suffix m InBrackets t x a = bind (sign symbols.CloseBracket) λ y. give (indexed a (Index t.place a.tree x))
suffix m Selects t x a = bind name λ n. give (indexed a (Select t.place a.tree n))
suffix m CallsMethod t x a = bind name λ n. bind (arguments m) λ es. give (called a (Method t.place a.tree n es))
suffix m WithTable t x a =
    bind (sign symbols.CloseBrace) λ y. give (called a (Call t.place a.tree (More Nothing (Table t.place x))))
suffix m WithText t x a = give (called a (Call t.place a.tree (More Nothing (Literal t.place t.text))))

abbrev pub suffixes : Mode → Chained → Grammar Chained
suffixes m a =
    many (λ b t. is_suffix m t) (λ b t. suffix_use b t) (λ b t. suffix_opens m (suffix_of t.symbol))
    (λ t x b. suffix m (suffix_of t.symbol) t x b) a

-- prefix = var | call | "(" exp ")", as an operand
abbrev pub prefix : Mode → ℕ → Grammar Chained
prefix m links = bind (base m) λ b. bind (suffixes m b) λ a. give (in_chain links a)

-- ---- other operands

abbrev pub as_operand : ℕ → Grammar Tree → Grammar Chained
as_operand links x = bind x λ e. give (operand links e)

abbrev pub nil : Grammar Tree
nil = bind (sign symbols.Nil) λ x. give (Nil x.0.place)

abbrev pub constant_false : Grammar Tree
constant_false = bind (sign symbols.False) λ x. give (False x.0.place)

abbrev pub constant_true : Grammar Tree
constant_true = bind (sign symbols.True) λ x. give (True x.0.place)

-- A numeral in Lua code has no suffix, and a limit.
abbrev pub number : Grammar Tree
number = bind (token (is symbols.Numeral) (λ t. LuaNumber) (λ t. None) (sample symbols.Numeral)) λ x.
    give (Numeral x.0.place x.0.text)

abbrev pub literal : Grammar Tree
literal = bind (sign symbols.Literal) λ x. give (Literal x.0.place x.0.text)

-- `...` stands in functions that have it.
abbrev pub is_varargs : Mode → Token → Bool
is_varargs Variadic t = is symbols.Ellipsis t
is_varargs _ t = false

abbrev pub varargs : Grammar Tree
varargs = bind (sign symbols.Ellipsis) λ x. give (Varargs x.0.place)

-- "function" fbody
abbrev pub function : Grammar Tree
function = bind (sign symbols.Function) λ f. bind (opening symbols.OpenParen FunctionBody) λ x.
    give (Function f.0.place x.1)

-- "{" fields "}"
abbrev pub table : Mode → Grammar Tree
table m = bind (opening symbols.OpenBrace (Fields m)) λ x. bind (sign symbols.CloseBrace) λ y.
    give (Table x.0.place x.1)

-- "terra" tbody
abbrev pub terra_function : Grammar Tree
terra_function = bind (sign symbols.Terra) λ t. bind (opening_at symbols.OpenParen TerraFunctionBody) λ x.
    give (TerraFunction t.0.place x.1)

-- "{" {Name ":" exp ["," | ";"]} "}"
abbrev pub struct_body : Mode → Grammar Tree
struct_body m = bind (opening symbols.OpenBrace (Entries m)) λ x. bind (sign symbols.CloseBrace) λ y. give x.1

-- "struct" sbody
abbrev pub struct : Mode → Grammar Tree
struct m = bind (sign symbols.Struct) λ t. bind (struct_body m) λ es. give (Struct t.0.place es)

-- "quote" tblock ["in" texp] "end"
abbrev pub quote : Grammar Tree
quote = bind (opening symbols.Quote QuotedCode) λ x. bind (sign symbols.End) λ y. give (Quote x.0.place x.1)

-- "`" texp
abbrev pub backtick : Grammar Tree
backtick = bind (opening symbols.Backtick TerraExpression) λ x. give (Backtick x.0.place x.1)

-- the tokens that begin expressions of Lua code with Terra code in them
abbrev pub terra_symbols : List Symbol
terra_symbols = symbols.Terra ∷ symbols.Struct ∷ symbols.Quote ∷ symbols.Backtick ∷ []

abbrev pub begins_terra : Token → Bool
begins_terra t = among terra_symbols t

abbrev pub terra_code : Mode → Grammar Tree
terra_code m = when (is symbols.Terra) terra_function
    (when (is symbols.Struct) (struct m) (when (is symbols.Quote) quote backtick))

abbrev pub operation : Token → Tree → Tree → Tree
operation t a b = Binary t.place (binary_of t.symbol) a b

-- "not" | "#" | "-" | "&"
abbrev pub prefix_symbols : List Symbol
prefix_symbols = symbols.Not ∷ symbols.Hash ∷ symbols.Minus ∷ symbols.Ampersand ∷ []

abbrev pub primary : Mode → ℕ → Grammar Chained
primary m links =
    when (is symbols.Numeral) (as_operand links number)
    (when (is symbols.Literal) (as_operand links literal)
    (when (is symbols.Nil) (as_operand links nil)
    (when (is symbols.False) (as_operand links constant_false)
    (when (is symbols.True) (as_operand links constant_true)
    (when (is_varargs m) (as_operand links varargs)
    (when (is symbols.Function) (as_operand links function)
    (when (is symbols.OpenBrace) (as_operand links (table m))
    (when begins_terra (as_operand links (terra_code m))
    (prefix m links)))))))))

-- ---- operators, one definition for each level of precedence

-- `^` binds more than a prefix operator on its left, and less than one on its right.
abbrev pub power : Mode → ℕ → Grammar Chained
power m links = bind (primary m links) λ a. right_operator symbols.Caret (Operand m) operation a

abbrev pub unary : Mode → ℕ → Grammar Chained
unary m links =
    when (among prefix_symbols)
    (bind (token (among prefix_symbols) (λ t. Plain) (λ t. Some (Operand m)) (sample symbols.Minus)) λ x.
    give (operand links (Unary x.0.place (unary_of x.0.symbol) x.1)))
    (power m links)

-- `*` `/` `%`
abbrev pub product : Mode → ℕ → Grammar Chained
product m links = bind (unary m links) λ a. operators multiplicative (unary m) operation a

-- `+` `-`
abbrev pub sum : Mode → ℕ → Grammar Chained
sum m links = bind (product m links) λ a. operators additive (product m) operation a

-- `..`
abbrev pub concatenation : Mode → ℕ → Grammar Chained
concatenation m links = bind (sum m links) λ a. right_operator symbols.DoubleDot (Concatenation m) operation a

-- `<` `>` `<=` `>=` `~=` `==`
abbrev pub comparison : Mode → ℕ → Grammar Chained
comparison m links = bind (concatenation m links) λ a. operators comparisons (concatenation m) operation a

abbrev pub conjunction : Mode → ℕ → Grammar Chained
conjunction m links = bind (comparison m links) λ a. operators (symbols.And ∷ []) (comparison m) operation a

abbrev pub disjunction : Mode → ℕ → Grammar Chained
disjunction m links = bind (conjunction m links) λ a. operators (symbols.Or ∷ []) (conjunction m) operation a

-- `->`
abbrev pub chained_expression : Mode → Grammar Chained
chained_expression m = bind (disjunction m chain) λ a. right_operator symbols.Arrow (Expression m) operation a

abbrev pub expression : Mode → Grammar Tree
expression m = bind (chained_expression m) λ a. give a.tree

-- exp {"," exp}
abbrev pub expressions : Mode → Grammar Tree
expressions m = listed (expression m)

-- ---- what the tokens of expressions open

-- the operand of a prefix operator, and the right operand of `^`
abbrev pub operand_of : Mode → Grammar Tree
operand_of m = bind (unary m chain) λ a. give a.tree

-- the right operand of `..`
abbrev pub concatenation_of : Mode → Grammar Tree
concatenation_of m = bind (concatenation m chain) λ a. give a.tree

-- [exps], up to a ")"
abbrev pub arguments_of : Mode → Grammar Tree
arguments_of m = when (is symbols.CloseParen) (give Nothing) (expressions m)

-- A name alone before "=" names a field.
abbrev pub field_behind : Mode → OperandKind → Tree → Grammar Tree
field_behind m operands.Name e =
    when (is symbols.Equal) (bind (sign symbols.Equal) λ y. bind (expression m) λ v. give (NamedField e v)) (give e)
field_behind m _ e = give e

-- "[" exp "]" "=" exp
abbrev pub keyed_field : Mode → Grammar Tree
keyed_field m =
    bind (opening symbols.OpenBracket (Expression m)) λ k. bind (sign symbols.CloseBracket) λ y.
    bind (sign symbols.Equal) λ z.
    bind (expression m) λ v. give (KeyedField k.1 v)

-- field = "[" exp "]" "=" exp | Name "=" exp | exp
abbrev pub field : Mode → Grammar Tree
field m = when (is symbols.OpenBracket) (keyed_field m) (bind (chained_expression m) λ e. field_behind m e.kind e.tree)

-- [field {("," | ";") field} ["," | ";"]], up to a "}"
abbrev pub fields : Mode → Grammar Tree
fields m = when (is symbols.CloseBrace) (give Nothing) (bind (field m) λ f. separated_behind (field m) (More Nothing f))

-- {Name ":" exp ["," | ";"]}, up to a "}"
abbrev pub entries : Mode → Grammar Tree
entries m =
    many (λ a t. is symbols.Name t) (λ a t. Plain) (λ a t. None)
    (λ t x a. bind (sign symbols.Colon) λ y. bind (expression m) λ e. bind separator λ z.
    give (More a (Entry (Name t.place t.offset t.text) e)))
    Nothing
