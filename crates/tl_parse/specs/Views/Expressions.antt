-- What reading each name of the grammar of Lua expressions gives, from left to right. `proofs/Agreeing.antt` shows that
-- it is what the grammar of the name gives.
use Rattle.std.specs.Prelude.{ℕ, zero, suc, ◌-◌, Bool, true, false, not, ◌&&◌, ◌==◌, List, [], ◌∷◌, if◌then◌else◌}
use Rattle.std.specs.Prelude.{Option, Some, None}
use Rattle.tl_base.specs.declared.place.Place.{Place}
use Rattle.tl_tree.specs.declared.symbol.Symbol.{Symbol}
use Rattle.tl_tree.specs.declared.symbol.Symbol.TheVariants as symbols
use Rattle.tl_tree.specs.declared.mode.Mode.{Mode}
use Rattle.tl_tree.specs.declared.mode.Mode.TheVariants as modes
use Rattle.tl_tree.specs.declared.mode.OperandKind.{OperandKind}
use Rattle.tl_tree.specs.declared.mode.OperandKind.TheVariants as operands
use Rattle.tl_tree.specs.declared.node.Expression as nodes
use Rattle.tl_tree.specs.declared.node.Expression.TheVariants as expressions
use Rattle.tl_tree.specs.Tokens.{Token, among, is}
use Rattle.tl_tree.specs.Tree.{Tree, Nothing, More, Name, Numeral, Literal, Nil, False, True, Varargs, Function}
use Rattle.tl_tree.specs.Tree.{Table, Unary, Paren, Index, Select, Call, Method, NamedField, KeyedField, Part}
use Rattle.tl_tree.specs.Tree.{Expression, Operand, Concatenation, Arguments, Fields}
use Rattle.tl_tree.specs.Grammar.{Grammar, Outcome, Took, ◌>>=◌, begins, down, unexpected}
use Rattle.tl_tree.specs.Forms.{separated_behind, Chained, chained, chain, operand, in_chain, unary_of}
use Rattle.tl_tree.specs.Forms.{comparisons, additive, multiplicative, operators}
use Rattle.tl_tree.specs.LuaExpressions as lua
use Rattle.tl_tree.specs.LuaExpressions.{is_varargs}
use Rattle.tl_parse.specs.Views.Using.{symbol_at, reading, part_at, sign_at, open_at, prefix_at, operator_at, raise_at}
use Rattle.tl_parse.specs.Views.Using.{call_at}
use Rattle.tl_parse.specs.Views.Using.{number_at, sign_among_at}
use Rattle.tl_parse.specs.Views.Codes.{expression_behind_at, opened_body_at}
use Rattle.tl_parse.specs.Views.Lists.{expressions_at}
use Rattle.tl_parse.specs.Views.TerraCode.{terra_code_at}
use Rattle.tl_parse.specs.declared.parser.Code.{Code}
use Rattle.tl_parse.specs.declared.parser.Code.TheVariants as codes
use Rattle.tl_parse.specs.Views.Ranks.{ranked_at}

unfoldable pub name_at : List Token → Outcome Tree
name_at ts = sign_at symbols.Name ts >>= λ t rest. Took (Name t.place t.offset t.text) rest

-- ---- texts and tables, which are operands and arguments

unfoldable pub literal_at : List Token → Outcome Tree
literal_at ts = sign_at symbols.Literal ts >>= λ t rest. Took (Literal t.place t.text) rest

unfoldable pub table_at : ℕ → Mode → List Token → Outcome Tree
table_at levels m ts =
    open_at symbols.OpenBrace levels ts >>= λ t a. part_at (levels - 1) (Fields m) a >>= λ x b.
    sign_at symbols.CloseBrace b >>= λ y rest. Took (Table t.place x) rest

-- ---- arguments

unfoldable pub arguments_at : ℕ → Code → List Token → Outcome Tree
arguments_at levels code ts =
    if begins (is symbols.CloseParen) ts then Took Nothing ts else expressions_at levels code ts

-- ---- prefix expressions

unfoldable pub paren_at : ℕ → Mode → List Token → Outcome Chained
paren_at levels m ts =
    open_at symbols.OpenParen levels ts >>= λ t a. part_at (levels - 1) (Expression m) a >>= λ x b.
    sign_at symbols.CloseParen b >>= λ y rest.
    Took (chained (Paren t.place x) chain operands.Other) rest

unfoldable pub base_at : ℕ → Mode → List Token → Outcome Chained
base_at levels m ts =
    if begins (is symbols.OpenParen) ts then paren_at levels m ts else (name_at ts
    >>= λ n rest. Took (chained n chain operands.Name) rest)

-- a suffix without what is before it: the arguments of a call, a key, a name, a method's name and arguments, each with
-- its place
pub data Suffixed : Type 0 where
  Calls Indexes Selects : Place → Tree → Suffixed
  CallsMethod : Place → Tree → Tree → Suffixed

abbrev pub attached : Suffixed → Tree → Tree
attached (Calls place x) a = Call place a x
attached (Indexes place x) a = Index place a x
attached (Selects place x) a = Select place a x
attached (CallsMethod place n x) a = Method place a n x

abbrev pub kind_of : Suffixed → OperandKind
kind_of (Indexes place x) = operands.Variable
kind_of (Selects place x) = operands.Variable
kind_of _ = operands.Call

unfoldable pub call_suffix_at : ℕ → Mode → ℕ → List Token → Outcome Suffixed
call_suffix_at levels m links ts =
    call_at levels links ts >>= λ t a. part_at (levels - 1) (Arguments m) a >>= λ x b. sign_at symbols.CloseParen b
    >>= λ y rest. Took (Calls t.place x) rest

unfoldable pub index_suffix_at : ℕ → Mode → ℕ → List Token → Outcome Suffixed
index_suffix_at levels m links ts =
    raise_at symbols.OpenBracket levels links ts >>= λ t a. part_at (levels - 1) (Expression m) a >>= λ x b.
    sign_at symbols.CloseBracket b >>= λ y rest. Took (Indexes t.place x) rest

unfoldable pub select_suffix_at : ℕ → List Token → Outcome Suffixed
select_suffix_at links ts = operator_at (symbols.Dot ∷ []) links ts >>= λ t a. name_at a
    >>= λ n rest. Took (Selects t.place n) rest

-- arguments in parentheses
unfoldable pub listed_arguments_at : ℕ → Mode → List Token → Outcome Tree
listed_arguments_at levels m ts =
    open_at symbols.OpenParen levels ts >>= λ t a.
    part_at (levels - 1) (Arguments m) a >>= λ x b. sign_at symbols.CloseParen b >>= λ y rest. Took x rest

-- the arguments behind a method's name
unfoldable pub method_arguments_at : ℕ → Mode → List Token → Outcome Tree
method_arguments_at levels m ts =
    if begins (is symbols.OpenParen) ts then listed_arguments_at levels m ts
    else (if begins (is symbols.OpenBrace) ts then (table_at levels m ts >>= λ x rest. Took (More Nothing x) rest)
    else (literal_at ts >>= λ x rest. Took (More Nothing x) rest))

unfoldable pub method_suffix_at : ℕ → Mode → ℕ → List Token → Outcome Suffixed
method_suffix_at levels m links ts =
    operator_at (symbols.Colon ∷ []) links ts >>= λ t a. name_at a >>= λ n b. method_arguments_at levels m b
    >>= λ x rest. Took (CallsMethod t.place n x) rest

unfoldable pub table_suffix_at : ℕ → Mode → ℕ → List Token → Outcome Suffixed
table_suffix_at levels m links ts =
    raise_at symbols.OpenBrace levels links ts >>= λ t a. part_at (levels - 1) (Fields m) a >>= λ x b.
    sign_at symbols.CloseBrace b >>= λ y rest.
    Took (Calls t.place (More Nothing (Table t.place x))) rest

unfoldable pub literal_suffix_at : ℕ → List Token → Outcome Suffixed
literal_suffix_at links ts = operator_at (symbols.Literal ∷ []) links ts
    >>= λ t rest. Took (Calls t.place (More Nothing (Literal t.place t.text))) rest

-- a suffix whose first token has this symbol
abbrev pub suffix_from : ℕ → Mode → ℕ → Symbol → List Token → Outcome Suffixed
suffix_from levels m links symbols.OpenParen ts = call_suffix_at levels m links ts
suffix_from levels m links symbols.OpenBracket ts = index_suffix_at levels m links ts
suffix_from levels m links symbols.Dot ts = select_suffix_at links ts
suffix_from levels m links symbols.Colon ts = method_suffix_at levels m links ts
suffix_from levels m links symbols.OpenBrace ts = table_suffix_at levels m links ts
suffix_from levels m links _ ts = literal_suffix_at links ts

unfoldable pub suffix_at : ℕ → Mode → ℕ → List Token → Outcome Suffixed
suffix_at levels m links ts = suffix_from levels m links (symbol_at ts) ts

unfoldable pub suffixes_at : ℕ → Mode → Chained → List Token → Outcome Chained
suffixes_at levels m a ts = reading levels (lua.suffixes m a) ts

-- the shape of brackets alone
abbrev pub is_other : OperandKind → Bool
is_other operands.Other = true
is_other _ = false

-- A prefix expression. Where it is to be a statement or a target, brackets alone are none.
unfoldable pub applied_at : ℕ → Mode → Bool → List Token → Outcome Chained
applied_at levels m bare ts =
    base_at levels m ts >>= λ b rest. if bare && (is_other b.kind && not (begins (lua.is_suffix m) rest)) then
    unexpected rest else suffixes_at levels m b rest

unfoldable pub prefixed_at : ℕ → Mode → ℕ → List Token → Outcome Chained
prefixed_at levels m links ts = applied_at levels m false ts >>= λ a rest. Took (in_chain links a) rest

-- ---- other operands

unfoldable pub number_tree_at : List Token → Outcome Tree
number_tree_at ts = number_at ts >>= λ t rest. Took (Numeral t.place t.text) rest

-- a word or sign that is an expression
unfoldable pub constant : Symbol → Place → Tree
constant symbols.Nil place = Nil place
constant symbols.False place = False place
constant symbols.True place = True place
constant _ place = Varargs place

-- the same in its node
abbrev pub constant_of : Symbol → nodes.Expression
constant_of symbols.Nil = expressions.Nil
constant_of symbols.False = expressions.False
constant_of symbols.True = expressions.True
constant_of _ = expressions.Varargs

unfoldable pub constant_at : Symbol → List Token → Outcome Tree
constant_at s ts = sign_at s ts >>= λ t rest. Took (constant s t.place) rest

unfoldable pub function_at : ℕ → List Token → Outcome Tree
function_at levels ts =
    sign_at symbols.Function ts >>= λ f a. opened_body_at levels a >>= λ x rest. Took (Function f.place x) rest

-- an operand that is no prefix expression
-- the same whose first token has this symbol
abbrev pub simple_from : ℕ → Mode → Symbol → List Token → Outcome Tree
simple_from levels m symbols.Numeral ts = number_tree_at ts
simple_from levels m symbols.Literal ts = literal_at ts
simple_from levels m symbols.Nil ts = constant_at symbols.Nil ts
simple_from levels m symbols.False ts = constant_at symbols.False ts
simple_from levels m symbols.True ts = constant_at symbols.True ts
simple_from levels m symbols.Ellipsis ts = constant_at symbols.Ellipsis ts
simple_from levels m symbols.Function ts = function_at levels ts
simple_from levels m symbols.OpenBrace ts = table_at levels m ts
simple_from levels m _ ts = terra_code_at levels m ts

unfoldable pub simple_at : ℕ → Mode → List Token → Outcome Tree
simple_at levels m ts = simple_from levels m (symbol_at ts) ts

abbrev pub is_types : Mode → Bool
is_types modes.Types = true
is_types _ = false

abbrev pub is_variadic : Mode → Bool
is_variadic modes.Variadic = true
is_variadic _ = false

-- the tokens that begin such an operand
abbrev pub simple_symbols : List Symbol
simple_symbols = symbols.Numeral ∷ symbols.Literal ∷ symbols.Nil ∷ symbols.False ∷ symbols.True ∷ symbols.Function
    ∷ symbols.OpenBrace ∷ symbols.Terra ∷ symbols.Struct ∷ symbols.Quote ∷ symbols.Backtick ∷ []

unfoldable pub is_simple : Mode → List Token → Bool
is_simple m ts = if begins (among simple_symbols) ts then true else begins (is_varargs m) ts

unfoldable pub primary_at : ℕ → Mode → ℕ → List Token → Outcome Chained
primary_at levels m links ts =
    if is_simple m ts then (simple_at levels m ts >>= λ e rest. Took (operand links e) rest)
    else prefixed_at levels m links ts

-- ---- operators

-- an operator that groups to the right, behind an operand
abbrev pub right_at : ℕ → Symbol → Part → Chained → List Token → Outcome Chained
right_at levels s part a ts =
    if begins (is s) ts then (raise_at s levels a.links ts >>= λ t b. part_at (levels - 1) part b
    >>= λ x rest. Took (operand (down a.links) (lua.operation t a.tree x)) rest)
    else Took a ts

unfoldable pub power_at : ℕ → Mode → ℕ → List Token → Outcome Chained
power_at levels m links ts = primary_at levels m links ts >>= λ a rest. right_at levels symbols.Caret (Operand m) a rest

unfoldable pub unary_at : ℕ → Mode → ℕ → List Token → Outcome Chained
unary_at levels m links ts =
    if begins (among lua.prefix_symbols) ts then
    (prefix_at lua.prefix_symbols levels ts >>= λ t a. part_at (levels - 1) (Operand m) a
    >>= λ x rest. Took (operand links (Unary t.place (unary_of t.symbol) x)) rest)
    else power_at levels m links ts

-- the operators of a rank
abbrev pub symbols_of : ℕ → List Symbol
symbols_of zero = multiplicative
symbols_of (suc zero) = additive
symbols_of (suc (suc zero)) = symbols.DoubleDot ∷ []
symbols_of (suc (suc (suc zero))) = comparisons
symbols_of (suc (suc (suc (suc zero)))) = symbols.And ∷ []
symbols_of _ = symbols.Or ∷ []

-- their operands
abbrev pub inner_of : ℕ → Mode → ℕ → Grammar Chained
inner_of zero m links = lua.unary m links
inner_of (suc zero) m links = lua.product m links
inner_of (suc (suc zero)) m links = lua.sum m links
inner_of (suc (suc (suc zero))) m links = lua.concatenation m links
inner_of (suc (suc (suc (suc zero)))) m links = lua.comparison m links
inner_of (suc (suc (suc (suc (suc zero))))) m links = lua.conjunction m links
inner_of _ m links = lua.disjunction m links

-- the operators of a rank behind an operand: `..` groups to the right, the others to the left
unfoldable pub more_at : ℕ → ℕ → Mode → Chained → List Token → Outcome Chained
more_at levels (suc (suc zero)) m a ts = right_at levels symbols.DoubleDot (Concatenation m) a ts
more_at levels rank m a ts =
    reading levels (operators (symbols_of rank) (λ links. inner_of rank m links) lua.operation a) ts

-- the operators of so many ranks from this one on, rank after rank, behind an operand
unfoldable pub ranks_at : ℕ → ℕ → ℕ → Mode → Chained → List Token → Outcome Chained
ranks_at levels zero rank m a ts = Took a ts
ranks_at levels (suc n) rank m a ts = more_at levels rank m a ts >>= λ b rest. ranks_at levels n (suc rank) m b rest

-- operands with operators of the first ranks between them, so many
unfoldable pub binary_at : ℕ → ℕ → Mode → ℕ → List Token → Outcome Chained
binary_at levels ranks m links ts = unary_at levels m links ts >>= λ a rest. ranks_at levels ranks 0 m a rest

-- an operator of a rank and its right operand
unfoldable pub one_more_at : ℕ → ℕ → Mode → ℕ → List Token → Outcome (Token × Chained)
one_more_at levels rank m links ts =
    if rank == 2 then (raise_at symbols.DoubleDot levels links ts >>= λ t a. part_at (levels - 1) (Concatenation m) a
    >>= λ x rest. Took (t, operand (down links) x) rest)
    else (ranked_at rank links ts >>= λ t a. binary_at levels rank m (down links) a >>= λ b rest. Took (t, b) rest)

unfoldable pub chained_at : ℕ → Mode → List Token → Outcome Chained
chained_at levels m ts = binary_at levels 6 m chain ts >>= λ a rest.
    right_at levels symbols.Arrow (Expression m) a rest

-- ---- fields of tables

abbrev pub is_name : OperandKind → Bool
is_name operands.Name = true
is_name _ = false

abbrev pub field_behind_at : ℕ → Mode → Chained → List Token → Outcome Tree
field_behind_at levels m e ts =
    if is_name e.kind then (if begins (is symbols.Equal) ts
    then (expression_behind_at levels symbols.Equal (codes.Lua m) ts
    >>= λ v rest. Took (NamedField e.tree v) rest) else Took e.tree ts)
    else Took e.tree ts

unfoldable pub keyed_field_at : ℕ → Mode → List Token → Outcome Tree
keyed_field_at levels m ts =
    open_at symbols.OpenBracket levels ts >>= λ t a. part_at (levels - 1) (Expression m) a >>= λ k b.
    sign_at symbols.CloseBracket b >>= λ y c. expression_behind_at levels symbols.Equal (codes.Lua m) c
    >>= λ v rest. Took (KeyedField k v) rest

unfoldable pub field_at : ℕ → Mode → List Token → Outcome Tree
field_at levels m ts =
    if begins (is symbols.OpenBracket) ts then keyed_field_at levels m ts else (chained_at levels m ts >>= λ e rest.
    field_behind_at levels m e rest)

abbrev pub separators : List Symbol
separators = symbols.Comma ∷ symbols.Semicolon ∷ []

unfoldable pub more_fields_at : ℕ → Mode → Tree → List Token → Outcome Tree
more_fields_at levels m before ts = reading levels (separated_behind (lua.field m) before) ts

-- a separator, and a field if one follows
unfoldable pub next_field_at : ℕ → Mode → List Token → Outcome (Option Tree)
next_field_at levels m ts =
    sign_among_at separators ts >>= λ y a. if begins (is symbols.CloseBrace) a then Took None a
    else (field_at levels m a >>= λ f rest. Took (Some f) rest)

abbrev pub more_if : Tree → Option Tree → Tree
more_if before None = before
more_if before (Some x) = More before x

unfoldable pub fields_at : ℕ → Mode → List Token → Outcome Tree
fields_at levels m ts =
    if begins (is symbols.CloseBrace) ts then Took Nothing ts else (field_at levels m ts >>= λ f rest.
    more_fields_at levels m (More Nothing f) rest)
