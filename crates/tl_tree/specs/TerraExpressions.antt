-- The grammar of Terra expressions, one definition for each of its names.
use Rattle.std.specs.Prelude.{ℕ, Bool, List, [], ◌∷◌, ◌&&◌, Option, Some, None}
use Rattle.tl_base.specs.declared.place.Place.{Place}
use Rattle.tl_tree.specs.declared.symbol.Symbol.{Symbol}
use Rattle.tl_tree.specs.declared.symbol.Symbol.TheVariants as symbols
use Rattle.tl_tree.specs.declared.mode.Mode.TheVariants as modes
use Rattle.tl_tree.specs.declared.mode.TokenUse.TheVariants.{Plain, TerraNumber}
use Rattle.tl_tree.specs.declared.mode.OperandKind.{OperandKind}
use Rattle.tl_tree.specs.declared.mode.OperandKind.TheVariants as operands
use Rattle.tl_tree.specs.Tokens.{Token, among, is, sample}
use Rattle.tl_tree.specs.Tree.{Tree, Nothing, More, Numeral, NamedField, TerraNil, TerraFalse, TerraTrue, TerraBinary}
use Rattle.tl_tree.specs.Tree.{TerraUnary, TerraParen, Escape, TerraIndex, TerraSelect, TerraCall, TerraMethod}
use Rattle.tl_tree.specs.Tree.{Construct, Part, Expression, TerraExpression, TerraOperand, TerraArguments, Initialisers}
use Rattle.tl_tree.specs.Grammar.{Grammar, give, token, bind, when, many, down}
use Rattle.tl_tree.specs.Forms.{sign, opening, listed, separated_behind, name, chain, Chained, chained, operand}
use Rattle.tl_tree.specs.Forms.{in_chain, binary_of, unary_of, comparisons, additive, multiplicative, operators}
use Rattle.tl_tree.specs.LuaExpressions.{may_continue, suffix_use, called, indexed, as_operand, literal}

-- ---- names, and what may follow them

-- "[" exp "]", and what depends on its place and on it
abbrev pub escaped : {A : Type 0} → (Place → Tree → Grammar A) → Grammar A
escaped goes = bind (opening symbols.OpenBracket (Expression modes.Plain)) λ x. bind (sign symbols.CloseBracket) λ y.
    goes x.0.place (Escape x.0.place x.1)

-- "[" exp "]", where an expression stands and where a name does
abbrev pub escape : Grammar Tree
escape = escaped λ place e. give e

-- tname = Name | "[" exp "]"
abbrev pub terra_name : Grammar Tree
terra_name = when (is symbols.OpenBracket) escape name

-- "(" texp ")"
abbrev pub terra_paren : Grammar Chained
terra_paren =
    bind (opening symbols.OpenParen TerraExpression) λ x. bind (sign symbols.CloseParen) λ y.
    give (chained (TerraParen x.0.place x.1) chain operands.Other)

-- Name | "[" exp "]" | "(" texp ")"
abbrev pub terra_base : Grammar Chained
terra_base =
    when (is symbols.OpenParen) terra_paren
    (when (is symbols.OpenBracket) (bind escape λ e. give (chained e chain operands.Escape))
    (bind name λ n. give (chained n chain operands.Name)))

-- the tokens that follow a `tsuf`, and belong to it
abbrev pub terra_suffix_symbols : List Symbol
terra_suffix_symbols = symbols.OpenParen ∷ symbols.OpenBracket ∷ symbols.Dot ∷ symbols.Colon ∷ symbols.OpenBrace ∷ []

-- A `[` that is first on its line begins a statement.
abbrev pub is_terra_suffix : Token → Bool
is_terra_suffix t = among terra_suffix_symbols t && may_continue modes.Types t

-- what a suffix is, by its first token
pub data TerraSuffix : Type 0 where
  -- "(" [texps] ")" ; "[" texp "]" ; "." tname ; ":" tname "(" [texps] ")" ; "{" inits "}"
  InParens InBrackets Selects CallsMethod Constructs : TerraSuffix

abbrev pub terra_suffix_of : Symbol → TerraSuffix
terra_suffix_of symbols.OpenParen = InParens
terra_suffix_of symbols.OpenBracket = InBrackets
terra_suffix_of symbols.Dot = Selects
terra_suffix_of symbols.Colon = CallsMethod
terra_suffix_of _ = Constructs

abbrev pub terra_suffix_opens : TerraSuffix → Option Part
terra_suffix_opens InParens = Some TerraArguments
terra_suffix_opens InBrackets = Some TerraExpression
terra_suffix_opens Constructs = Some Initialisers
terra_suffix_opens _ = None

-- what a suffix has behind its first token and what that opens
abbrev pub terra_suffix : TerraSuffix → Token → Tree → Chained → Grammar Chained
terra_suffix InParens t x a = bind (sign symbols.CloseParen) λ y. give (called a (TerraCall t.place a.tree x))
terra_suffix InBrackets t x a = bind (sign symbols.CloseBracket) λ y. give (indexed a (TerraIndex t.place a.tree x))
terra_suffix Selects t x a = bind terra_name λ n. give (indexed a (TerraSelect t.place a.tree n))
terra_suffix CallsMethod t x a =
    bind terra_name λ n. bind (opening symbols.OpenParen TerraArguments) λ es. bind (sign symbols.CloseParen) λ y.
    give (called a (TerraMethod t.place a.tree n es.1))
terra_suffix Constructs t x a =
    bind (sign symbols.CloseBrace) λ y. give (chained (Construct t.place a.tree x) (down a.links) operands.Other)

abbrev pub terra_suffixes : Chained → Grammar Chained
terra_suffixes a =
    many (λ b t. is_terra_suffix t) (λ b t. suffix_use b t) (λ b t. terra_suffix_opens (terra_suffix_of t.symbol))
    (λ t x b. terra_suffix (terra_suffix_of t.symbol) t x b) a

-- a `tsuf`, as an operand
abbrev pub terra_prefix : ℕ → Grammar Chained
terra_prefix links = bind terra_base λ b. bind (terra_suffixes b) λ a. give (in_chain links a)

-- ---- other operands

abbrev pub terra_nil : Grammar Tree
terra_nil = bind (sign symbols.Nil) λ x. give (TerraNil x.0.place)

abbrev pub terra_false : Grammar Tree
terra_false = bind (sign symbols.False) λ x. give (TerraFalse x.0.place)

abbrev pub terra_true : Grammar Tree
terra_true = bind (sign symbols.True) λ x. give (TerraTrue x.0.place)

abbrev pub terra_numerals : List Symbol
terra_numerals = symbols.Numeral ∷ symbols.LongNumeral ∷ symbols.UnsignedNumeral ∷ []

-- A numeral in Terra code has a limit by its suffix.
abbrev pub terra_number : Grammar Tree
terra_number = bind (token (among terra_numerals) (λ t. TerraNumber) (λ t. None) (sample symbols.Numeral)) λ x.
    give (Numeral x.0.place x.0.text)

abbrev pub terra_primary : ℕ → Grammar Chained
terra_primary links =
    when (among terra_numerals) (as_operand links terra_number)
    (when (is symbols.Literal) (as_operand links literal)
    (when (is symbols.Nil) (as_operand links terra_nil)
    (when (is symbols.False) (as_operand links terra_false)
    (when (is symbols.True) (as_operand links terra_true)
    (terra_prefix links)))))

-- ---- operators, one definition for each level of precedence

abbrev pub terra_operation : Token → Tree → Tree → Tree
terra_operation t a b = TerraBinary t.place (binary_of t.symbol) a b

-- "not" | "-" | "@" | "&"
abbrev pub terra_prefix_symbols : List Symbol
terra_prefix_symbols = symbols.Not ∷ symbols.Minus ∷ symbols.At ∷ symbols.Ampersand ∷ []

-- a prefix operator with its operand
abbrev pub terra_prefixed : ℕ → Grammar Chained
terra_prefixed links =
    bind (token (among terra_prefix_symbols) (λ t. Plain) (λ t. Some TerraOperand) (sample symbols.Minus)) λ x.
    give (operand links (TerraUnary x.0.place (unary_of x.0.symbol) x.1))

-- the right operand of `^`
abbrev pub terra_exponent : ℕ → Grammar Chained
terra_exponent links = when (among terra_prefix_symbols) (terra_prefixed links) (terra_primary links)

-- `^` groups to the left.
abbrev pub terra_power : ℕ → Grammar Chained
terra_power links = bind (terra_primary links) λ a.
    operators (symbols.Caret ∷ []) (λ n. terra_exponent n) terra_operation a

abbrev pub terra_unary : ℕ → Grammar Chained
terra_unary links = when (among terra_prefix_symbols) (terra_prefixed links) (terra_power links)

-- `*` `/` `%`
abbrev pub terra_product : ℕ → Grammar Chained
terra_product links = bind (terra_unary links) λ a. operators multiplicative (λ n. terra_unary n) terra_operation a

-- `+` `-`
abbrev pub terra_sum : ℕ → Grammar Chained
terra_sum links = bind (terra_product links) λ a. operators additive (λ n. terra_product n) terra_operation a

abbrev pub shifts : List Symbol
shifts = symbols.DoubleLess ∷ symbols.DoubleGreater ∷ []

-- `<<` `>>`
abbrev pub terra_shift : ℕ → Grammar Chained
terra_shift links = bind (terra_sum links) λ a. operators shifts (λ n. terra_sum n) terra_operation a

-- `<` `>` `<=` `>=` `~=` `==`
abbrev pub terra_comparison : ℕ → Grammar Chained
terra_comparison links = bind (terra_shift links) λ a. operators comparisons (λ n. terra_shift n) terra_operation a

abbrev pub terra_conjunction : ℕ → Grammar Chained
terra_conjunction links =
    bind (terra_comparison links) λ a. operators (symbols.And ∷ []) (λ n. terra_comparison n) terra_operation a

abbrev pub terra_disjunction : ℕ → Grammar Chained
terra_disjunction links =
    bind (terra_conjunction links) λ a. operators (symbols.Or ∷ []) (λ n. terra_conjunction n) terra_operation a

-- an expression whose first operand of these operators is read
abbrev pub terra_expression_behind : Chained → Grammar Chained
terra_expression_behind a =
    bind (operators multiplicative (λ n. terra_unary n) terra_operation a) λ b.
    bind (operators additive (λ n. terra_product n) terra_operation b) λ d.
    bind (operators shifts (λ n. terra_sum n) terra_operation d) λ e.
    bind (operators comparisons (λ n. terra_shift n) terra_operation e) λ f.
    bind (operators (symbols.And ∷ []) (λ n. terra_comparison n) terra_operation f) λ g.
    operators (symbols.Or ∷ []) (λ n. terra_conjunction n) terra_operation g

abbrev pub terra_expression : Grammar Tree
terra_expression = bind (terra_disjunction chain) λ a. give a.tree

-- texp {"," texp}
abbrev pub terra_expressions : Grammar Tree
terra_expressions = listed terra_expression

-- ---- what the tokens of expressions open

-- the operand of a prefix operator
abbrev pub terra_operand_of : Grammar Tree
terra_operand_of = bind (terra_unary chain) λ a. give a.tree

-- [texps], up to a ")"
abbrev pub terra_arguments_of : Grammar Tree
terra_arguments_of = when (is symbols.CloseParen) (give Nothing) terra_expressions

-- Name "=" texp
abbrev pub named_initialiser : Grammar Tree
named_initialiser = bind name λ n. bind (sign symbols.Equal) λ y. bind terra_expression λ v. give (NamedField n v)

abbrev pub positional_initialisers : Tree → Grammar Tree
positional_initialisers e = separated_behind terra_expression (More Nothing e)

-- The initialisers behind a first expression: all are named where that is a name alone before "=", and else none is.
abbrev pub initialisers_behind : OperandKind → Tree → Grammar Tree
initialisers_behind operands.Name e =
    when (is symbols.Equal)
    (bind (sign symbols.Equal) λ y. bind terra_expression λ v.
    separated_behind named_initialiser (More Nothing (NamedField e v)))
    (positional_initialisers e)
initialisers_behind _ e = positional_initialisers e

-- [init {("," | ";") init} ["," | ";"]], up to a "}"
abbrev pub initialisers : Grammar Tree
initialisers = when (is symbols.CloseBrace) (give Nothing)
    (bind (terra_disjunction chain) λ e. initialisers_behind e.kind e.tree)
