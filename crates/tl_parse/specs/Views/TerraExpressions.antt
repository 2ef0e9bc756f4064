-- What reading each name of the grammar of Terra expressions gives, from left to right. `proofs/TerraAgreeing.antt`
-- shows that it is what the grammar of the name gives.
use Rattle.std.specs.Prelude.{ℕ, ◌-◌, Bool, true, false, List, [], ◌∷◌, if◌then◌else◌, Option, Some, None}
use Rattle.tl_base.specs.declared.place.Place.{Place}
use Rattle.tl_tree.specs.declared.symbol.Symbol.{Symbol}
use Rattle.tl_tree.specs.declared.symbol.Symbol.TheVariants as symbols
use Rattle.tl_tree.specs.declared.mode.Mode.TheVariants as modes
use Rattle.tl_tree.specs.declared.mode.TokenUse.TheVariants.{TerraNumber}
use Rattle.tl_tree.specs.declared.mode.OperandKind.{OperandKind}
use Rattle.tl_tree.specs.declared.mode.OperandKind.TheVariants as operands
use Rattle.tl_tree.specs.declared.node.TerraExpression as nodes
use Rattle.tl_tree.specs.declared.node.TerraExpression.TheVariants as expressions
use Rattle.tl_tree.specs.Tokens.{Token, among, is}
use Rattle.tl_tree.specs.Tree.{Tree, Nothing, More, Numeral, NamedField, TerraNil, TerraFalse, TerraTrue, TerraUnary}
use Rattle.tl_tree.specs.Tree.{TerraParen, Escape, TerraIndex, TerraSelect, TerraCall, TerraMethod, Construct}
use Rattle.tl_tree.specs.Tree.{Expression, TerraExpression, TerraOperand, TerraArguments, Initialisers}
use Rattle.tl_tree.specs.Grammar.{Grammar, Outcome, Took, ◌>>=◌, begins, down}
use Rattle.tl_tree.specs.Forms.{separated_behind, Chained, chained, chain, operand, in_chain, unary_of}
use Rattle.tl_tree.specs.Forms.{comparisons, additive, multiplicative, operators}
use Rattle.tl_tree.specs.TerraExpressions as terra
use Rattle.tl_tree.specs.TerraExpressions.{terra_numerals, terra_prefix_symbols, shifts}
use Rattle.tl_parse.specs.Views.Using.{symbol_at, reading, part_at, used, sign_at, open_at, prefix_at, operator_at}
use Rattle.tl_parse.specs.Views.Using.{raise_at}
use Rattle.tl_parse.specs.Views.Using.{call_at}
use Rattle.tl_parse.specs.Views.Using.{sign_among_at}
use Rattle.tl_parse.specs.Views.Codes.{expression_behind_at}
use Rattle.tl_parse.specs.Views.Expressions.{name_at, literal_at, is_name, separators}
use Rattle.tl_parse.specs.declared.parser.Code.TheVariants as codes
use Rattle.tl_parse.specs.declared.terra_expressions.TerraPrecedence.{TerraPrecedence}
use Rattle.tl_parse.specs.declared.terra_expressions.TerraPrecedence.TheVariants as precedences

-- ---- names, and what may follow them

unfoldable pub escape_at : ℕ → List Token → Outcome Tree
escape_at levels ts =
    open_at symbols.OpenBracket levels ts >>= λ t a. part_at (levels - 1) (Expression modes.Plain) a >>= λ x b.
    sign_at symbols.CloseBracket b >>= λ y rest.
    Took (Escape t.place x) rest

unfoldable pub terra_name_at : ℕ → List Token → Outcome Tree
terra_name_at levels ts = if begins (is symbols.OpenBracket) ts then escape_at levels ts else name_at ts

unfoldable pub terra_paren_at : ℕ → List Token → Outcome Chained
terra_paren_at levels ts =
    open_at symbols.OpenParen levels ts >>= λ t a. part_at (levels - 1) TerraExpression a >>= λ x b.
    sign_at symbols.CloseParen b >>= λ y rest.
    Took (chained (TerraParen t.place x) chain operands.Other) rest

unfoldable pub terra_base_at : ℕ → List Token → Outcome Chained
terra_base_at levels ts =
    if begins (is symbols.OpenParen) ts then terra_paren_at levels ts
    else (if begins (is symbols.OpenBracket) ts then (escape_at levels ts
    >>= λ e rest. Took (chained e chain operands.Escape) rest)
    else (name_at ts >>= λ n rest. Took (chained n chain operands.Name) rest))

-- a suffix without what is before it: the arguments of a call, a key, a name, a method's name and arguments, or
-- initialisers, each with its place
pub data TerraSuffixed : Type 0 where
  Calls Indexes Selects Constructs : Place → Tree → TerraSuffixed
  CallsMethod : Place → Tree → Tree → TerraSuffixed

abbrev pub terra_attached : TerraSuffixed → Tree → Tree
terra_attached (Calls place x) a = TerraCall place a x
terra_attached (Indexes place x) a = TerraIndex place a x
terra_attached (Selects place x) a = TerraSelect place a x
terra_attached (Constructs place x) a = Construct place a x
terra_attached (CallsMethod place n x) a = TerraMethod place a n x

abbrev pub terra_kind_of : TerraSuffixed → OperandKind
terra_kind_of (Indexes place x) = operands.Variable
terra_kind_of (Selects place x) = operands.Variable
terra_kind_of (Constructs place x) = operands.Other
terra_kind_of _ = operands.Call

unfoldable pub terra_call_suffix_at : ℕ → ℕ → List Token → Outcome TerraSuffixed
terra_call_suffix_at levels links ts =
    call_at levels links ts >>= λ t a. part_at (levels - 1) TerraArguments a >>= λ x b. sign_at symbols.CloseParen b
    >>= λ y rest. Took (Calls t.place x) rest

unfoldable pub terra_index_suffix_at : ℕ → ℕ → List Token → Outcome TerraSuffixed
terra_index_suffix_at levels links ts =
    raise_at symbols.OpenBracket levels links ts >>= λ t a. part_at (levels - 1) TerraExpression a >>= λ x b.
    sign_at symbols.CloseBracket b >>= λ y rest. Took (Indexes t.place x) rest

unfoldable pub terra_select_suffix_at : ℕ → ℕ → List Token → Outcome TerraSuffixed
terra_select_suffix_at levels links ts = operator_at (symbols.Dot ∷ []) links ts >>= λ t a. terra_name_at levels a
    >>= λ n rest. Took (Selects t.place n) rest

unfoldable pub terra_method_suffix_at : ℕ → ℕ → List Token → Outcome TerraSuffixed
terra_method_suffix_at levels links ts =
    operator_at (symbols.Colon ∷ []) links ts >>= λ t a. terra_name_at levels a >>= λ n b.
    open_at symbols.OpenParen levels b >>= λ u c. part_at (levels - 1) TerraArguments c >>= λ x d.
    sign_at symbols.CloseParen d >>= λ y rest. Took (CallsMethod t.place n x) rest

unfoldable pub construct_suffix_at : ℕ → ℕ → List Token → Outcome TerraSuffixed
construct_suffix_at levels links ts =
    raise_at symbols.OpenBrace levels links ts >>= λ t a. part_at (levels - 1) Initialisers a >>= λ x b.
    sign_at symbols.CloseBrace b >>= λ y rest. Took (Constructs t.place x) rest

-- a suffix whose first token has this symbol
abbrev pub terra_suffix_from : ℕ → ℕ → Symbol → List Token → Outcome TerraSuffixed
terra_suffix_from levels links symbols.OpenParen ts = terra_call_suffix_at levels links ts
terra_suffix_from levels links symbols.OpenBracket ts = terra_index_suffix_at levels links ts
terra_suffix_from levels links symbols.Dot ts = terra_select_suffix_at levels links ts
terra_suffix_from levels links symbols.Colon ts = terra_method_suffix_at levels links ts
terra_suffix_from levels links _ ts = construct_suffix_at levels links ts

unfoldable pub terra_suffix_at : ℕ → ℕ → List Token → Outcome TerraSuffixed
terra_suffix_at levels links ts = terra_suffix_from levels links (symbol_at ts) ts

unfoldable pub terra_suffixes_at : ℕ → Chained → List Token → Outcome Chained
terra_suffixes_at levels a ts = reading levels (terra.terra_suffixes a) ts

-- a `tsuf`
unfoldable pub terra_applied_at : ℕ → List Token → Outcome Chained
terra_applied_at levels ts = terra_base_at levels ts >>= λ b rest. terra_suffixes_at levels b rest

-- ---- other operands

-- a numeral of Terra code
unfoldable pub terra_number_at : List Token → Outcome Token
terra_number_at ts = used (among terra_numerals) false 0 TerraNumber ts

unfoldable pub terra_number_tree_at : List Token → Outcome Tree
terra_number_tree_at ts = terra_number_at ts >>= λ t rest. Took (Numeral t.place t.text) rest

-- a word that is an expression
unfoldable pub terra_constant : Symbol → Place → Tree
terra_constant symbols.Nil place = TerraNil place
terra_constant symbols.False place = TerraFalse place
terra_constant _ place = TerraTrue place

-- the same in its node
abbrev pub terra_constant_of : Symbol → nodes.TerraExpression
terra_constant_of symbols.Nil = expressions.Nil
terra_constant_of symbols.False = expressions.False
terra_constant_of _ = expressions.True

unfoldable pub terra_constant_at : Symbol → List Token → Outcome Tree
terra_constant_at s ts = sign_at s ts >>= λ t rest. Took (terra_constant s t.place) rest

-- an operand that is no `tsuf`
unfoldable pub terra_simple_at : List Token → Outcome Tree
terra_simple_at ts =
    if begins (among terra_numerals) ts then terra_number_tree_at ts
    else (if begins (is symbols.Literal) ts then literal_at ts
    else (if begins (is symbols.Nil) ts then terra_constant_at symbols.Nil ts
    else (if begins (is symbols.False) ts then terra_constant_at symbols.False ts
    else terra_constant_at symbols.True ts)))

-- the tokens that begin such an operand
abbrev pub terra_simple_symbols : List Symbol
terra_simple_symbols =
    symbols.Numeral ∷ symbols.LongNumeral ∷ symbols.UnsignedNumeral ∷ symbols.Literal ∷ symbols.Nil
    ∷ symbols.False ∷ symbols.True ∷ []

unfoldable pub terra_primary_at : ℕ → ℕ → List Token → Outcome Chained
terra_primary_at levels links ts =
    if begins (among terra_simple_symbols) ts then (terra_simple_at ts >>= λ e rest. Took (operand links e) rest)
    else (terra_applied_at levels ts >>= λ a rest. Took (in_chain links a) rest)

-- ---- operators

-- a prefix operator with its operand
unfoldable pub terra_prefixed_at : ℕ → ℕ → List Token → Outcome Chained
terra_prefixed_at levels links ts =
    prefix_at terra_prefix_symbols levels ts >>= λ t a. part_at (levels - 1) TerraOperand a
    >>= λ x rest. Took (operand links (TerraUnary t.place (unary_of t.symbol) x)) rest

-- the right operand of `^`
unfoldable pub terra_exponent_at : ℕ → ℕ → List Token → Outcome Chained
terra_exponent_at levels links ts = if begins (among terra_prefix_symbols) ts then terra_prefixed_at levels links ts
    else terra_primary_at levels links ts

-- the operators of a precedence
abbrev pub terra_symbols_of : TerraPrecedence → List Symbol
terra_symbols_of precedences.Power = symbols.Caret ∷ []
terra_symbols_of precedences.Product = multiplicative
terra_symbols_of precedences.Sum = additive
terra_symbols_of precedences.Shift = shifts
terra_symbols_of precedences.Comparison = comparisons
terra_symbols_of precedences.Conjunction = symbols.And ∷ []
terra_symbols_of precedences.Disjunction = symbols.Or ∷ []

-- their right operands
abbrev pub terra_inner_of : TerraPrecedence → ℕ → Grammar Chained
terra_inner_of precedences.Power links = terra.terra_exponent links
terra_inner_of precedences.Product links = terra.terra_unary links
terra_inner_of precedences.Sum links = terra.terra_product links
terra_inner_of precedences.Shift links = terra.terra_sum links
terra_inner_of precedences.Comparison links = terra.terra_shift links
terra_inner_of precedences.Conjunction links = terra.terra_comparison links
terra_inner_of precedences.Disjunction links = terra.terra_conjunction links

unfoldable pub terra_inner_at : ℕ → TerraPrecedence → ℕ → List Token → Outcome Chained
terra_inner_at levels p links ts = reading levels (terra_inner_of p links) ts

-- Their first operands are the same, but for that of `^`, which has no prefix operator.
unfoldable pub terra_first_at : ℕ → TerraPrecedence → ℕ → List Token → Outcome Chained
terra_first_at levels precedences.Power links ts = terra_primary_at levels links ts
terra_first_at levels precedences.Product links ts = terra_inner_at levels precedences.Product links ts
terra_first_at levels precedences.Sum links ts = terra_inner_at levels precedences.Sum links ts
terra_first_at levels precedences.Shift links ts = terra_inner_at levels precedences.Shift links ts
terra_first_at levels precedences.Comparison links ts = terra_inner_at levels precedences.Comparison links ts
terra_first_at levels precedences.Conjunction links ts = terra_inner_at levels precedences.Conjunction links ts
terra_first_at levels precedences.Disjunction links ts = terra_inner_at levels precedences.Disjunction links ts

unfoldable pub terra_more_at : ℕ → TerraPrecedence → Chained → List Token → Outcome Chained
terra_more_at levels p a ts = reading levels (operators (terra_symbols_of p) (λ links.
    terra_inner_of p links) terra.terra_operation a) ts

-- an operator and its right operand
unfoldable pub terra_one_more_at : ℕ → TerraPrecedence → ℕ → List Token → Outcome (Token × Chained)
terra_one_more_at levels p links ts = operator_at (terra_symbols_of p) links ts >>= λ t a.
    terra_inner_at levels p (down links) a >>= λ b rest. Took (t, b) rest

unfoldable pub terra_binary_at : ℕ → TerraPrecedence → ℕ → List Token → Outcome Chained
terra_binary_at levels p links ts = terra_first_at levels p links ts >>= λ a rest. terra_more_at levels p a rest

unfoldable pub terra_unary_at : ℕ → ℕ → List Token → Outcome Chained
terra_unary_at levels links ts = if begins (among terra_prefix_symbols) ts then terra_prefixed_at levels links ts
    else terra_binary_at levels precedences.Power links ts

-- ---- initialisers

unfoldable pub named_initialiser_at : ℕ → List Token → Outcome Tree
named_initialiser_at levels ts = name_at ts >>= λ n a. expression_behind_at levels symbols.Equal codes.Terra a
    >>= λ v rest. Took (NamedField n v) rest

-- initialisers behind the first, where they are named or aren't
abbrev pub initialiser_of : Bool → Grammar Tree
initialiser_of true = terra.named_initialiser
initialiser_of false = terra.terra_expression

unfoldable pub initialiser_at : ℕ → Bool → List Token → Outcome Tree
initialiser_at levels named ts = if named then named_initialiser_at levels ts else part_at levels TerraExpression ts

unfoldable pub more_initialisers_at : ℕ → Bool → Tree → List Token → Outcome Tree
more_initialisers_at levels named before ts = reading levels (separated_behind (initialiser_of named) before) ts

-- a separator, and an initialiser if one follows
unfoldable pub next_initialiser_at : ℕ → Bool → List Token → Outcome (Option Tree)
next_initialiser_at levels named ts =
    sign_among_at separators ts >>= λ y a. if begins (is symbols.CloseBrace) a then Took None a
    else (initialiser_at levels named a >>= λ f rest. Took (Some f) rest)

-- The first initialiser, and whether it is named: a name alone before "=" is.
abbrev pub initialiser_behind_at : ℕ → Chained → List Token → Outcome (Tree × Bool)
initialiser_behind_at levels e ts =
    if is_name e.kind then (if begins (is symbols.Equal) ts
    then (expression_behind_at levels symbols.Equal codes.Terra ts
    >>= λ v rest. Took (NamedField e.tree v, true) rest)
    else Took (e.tree, false) ts)
    else Took (e.tree, false) ts

unfoldable pub first_initialiser_at : ℕ → List Token → Outcome (Tree × Bool)
first_initialiser_at levels ts = terra_binary_at levels precedences.Disjunction chain ts >>= λ e rest.
    initialiser_behind_at levels e rest

unfoldable pub initialisers_at : ℕ → List Token → Outcome Tree
initialisers_at levels ts =
    if begins (is symbols.CloseBrace) ts then Took Nothing ts else (first_initialiser_at levels ts >>= λ f rest.
    more_initialisers_at levels f.1 (More Nothing f.0) rest)
