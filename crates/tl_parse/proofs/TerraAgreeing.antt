-- What reading each name of the grammar of Terra expressions gives is what its grammar gives.
use Rattle.std.proofs.Common.{◌≡◌, ℕ, Bool, true, false, cond, List, [], ◌∷◌, refl, sym, ap, ◌∙◌}
use Rattle.tl_base.specs.declared.place.Place.{Place}
use Rattle.tl_tree.specs.declared.mode.Mode.TheVariants as modes
use Rattle.tl_tree.specs.declared.mode.OperandKind.{OperandKind}
use Rattle.tl_tree.specs.declared.mode.OperandKind.TheVariants as operands
use Rattle.tl_tree.specs.declared.mode.TokenUse.TheVariants.{Plain, TerraNumber}
use Rattle.tl_tree.specs.declared.symbol.Symbol.{Symbol}
use Rattle.tl_tree.specs.declared.symbol.Symbol.TheVariants as symbols
use Rattle.tl_tree.specs.Tokens.{Token, is, among, sample}
use Rattle.tl_tree.specs.Tree.{Tree, Nothing, More, Numeral, NamedField, TerraUnary, TerraParen, Escape, Expression, TerraExpression}
use Rattle.tl_tree.specs.Tree.{TerraOperand}
use Rattle.tl_tree.specs.Grammar.{give, bind, Outcome, Took, ◌>>=◌, begins}
use Rattle.tl_tree.specs.Forms.{sign, separated_behind, name, Chained, chained, chain, operand, in_chain, operators, unary_of}
use Rattle.tl_tree.specs.LuaExpressions.{literal}
use Rattle.tl_tree.specs.TerraExpressions as terra
use Rattle.tl_tree.specs.TerraExpressions.{terra_numerals, terra_prefix_symbols}
use Rattle.tl_tree.proofs.Unrolling.{bind_again}
use Rattle.tl_parse.specs.Views.Using.{reading, part_at, used, sign_at, prefix_at}
use Rattle.tl_parse.specs.Views.Expressions.{name_at, literal_at, is_name}
use Rattle.tl_parse.specs.Views.TerraExpressions.{escape_at, terra_name_at, terra_paren_at, terra_base_at, terra_suffixes_at, terra_applied_at}
use Rattle.tl_parse.specs.Views.TerraExpressions.{terra_number_at, terra_number_tree_at, terra_constant, terra_constant_at, terra_simple_at}
use Rattle.tl_parse.specs.Views.TerraExpressions.{terra_primary_at, terra_prefixed_at, terra_exponent_at, terra_unary_at, terra_inner_at}
use Rattle.tl_parse.specs.Views.TerraExpressions.{terra_first_at, terra_more_at, terra_binary_at, named_initialiser_at, initialiser_of}
use Rattle.tl_parse.specs.Views.TerraExpressions.{initialiser_at, more_initialisers_at, initialiser_behind_at, first_initialiser_at}
use Rattle.tl_parse.specs.Views.TerraExpressions.{initialisers_at}
use Rattle.tl_parse.specs.Views.Codes.{expression_behind_at}
use Rattle.tl_parse.specs.declared.parser.Code.TheVariants as codes
use Rattle.tl_parse.specs.declared.terra_expressions.TerraPrecedence.TheVariants as precedences
use Rattle.tl_parse.proofs.Uses.{both, opening_is, plain_is}
use Rattle.tl_parse.proofs.Following.{sign_then, opened_then, open_then, then, either_is, behind_then, behind_give}
use Rattle.tl_parse.proofs.Agreeing as lua
use Rattle.tl_parse.proofs.Agreeing.{name_agrees, literal_agrees}

-- ---- names, prefix expressions

pub escape_agrees : (levels : ℕ) (ts : List Token) → reading levels terra.escape ts ≡ escape_at levels ts
unfolding escape_at
escape_agrees levels ts =
    open_then levels symbols.OpenBracket (Expression modes.Plain) (λ x. bind (sign symbols.CloseBracket) λ y. give (Escape x.0.place x.1)) (λ t x us. sign_at symbols.CloseBracket us >>= λ y rest. Took (Escape t.place x) rest)
    (λ t x us. sign_then levels symbols.CloseBracket (λ y. give (Escape t.place x)) (λ y rest. Took (Escape t.place x) rest) (λ y vs. refl) us) ts

pub terra_name_agrees : (levels : ℕ) (ts : List Token) → reading levels terra.terra_name ts ≡ terra_name_at levels ts
unfolding terra_name_at
terra_name_agrees levels ts =
    either_is (begins (is symbols.OpenBracket) ts) (reading levels terra.escape ts) (reading levels name ts) (escape_at levels ts) (name_at ts) (escape_agrees levels ts) (name_agrees levels ts)

terra_paren_agrees : (levels : ℕ) (ts : List Token) → reading levels terra.terra_paren ts ≡ terra_paren_at levels ts
unfolding terra_paren_at
terra_paren_agrees levels ts =
    open_then levels symbols.OpenParen TerraExpression (λ x. bind (sign symbols.CloseParen) λ y. give (chained (TerraParen x.0.place x.1) chain operands.Other)) (λ t x us. sign_at symbols.CloseParen us >>= λ y rest. Took (chained (TerraParen t.place x) chain operands.Other) rest)
    (λ t x us. sign_then levels symbols.CloseParen (λ y. give (chained (TerraParen t.place x) chain operands.Other)) (λ y rest. Took (chained (TerraParen t.place x) chain operands.Other) rest) (λ y vs. refl) us) ts

pub terra_base_agrees : (levels : ℕ) (ts : List Token) → reading levels terra.terra_base ts ≡ terra_base_at levels ts
unfolding terra_base_at
terra_base_agrees levels ts =
    either_is (begins (is symbols.OpenParen) ts) (reading levels terra.terra_paren ts) _ (terra_paren_at levels ts) _ (terra_paren_agrees levels ts)
    (either_is (begins (is symbols.OpenBracket) ts) (reading levels (bind terra.escape λ e. give (chained e chain operands.Escape)) ts) (reading levels (bind name λ n. give (chained n chain operands.Name)) ts)
    (escape_at levels ts >>= λ e rest. Took (chained e chain operands.Escape) rest) (name_at ts >>= λ n rest. Took (chained n chain operands.Name) rest)
    (then levels terra.escape (λ e. give (chained e chain operands.Escape)) (λ us. escape_at levels us) (λ e rest. Took (chained e chain operands.Escape) rest) (λ us. escape_agrees levels us) (λ e us. refl) ts)
    (then levels name (λ n. give (chained n chain operands.Name)) (λ us. name_at us) (λ n rest. Took (chained n chain operands.Name) rest) (λ us. name_agrees levels us) (λ n us. refl) ts))

pub terra_applied_agrees : (levels : ℕ) (ts : List Token) → reading levels (bind terra.terra_base λ b. terra.terra_suffixes b) ts ≡ terra_applied_at levels ts
unfolding terra_applied_at terra_suffixes_at
terra_applied_agrees levels ts =
    then levels terra.terra_base (λ b. terra.terra_suffixes b) (λ us. terra_base_at levels us) (λ b rest. terra_suffixes_at levels b rest) (λ us. terra_base_agrees levels us) (λ b us. refl) ts

terra_prefix_agrees : (levels links : ℕ) (ts : List Token) → reading levels (terra.terra_prefix links) ts ≡ (terra_applied_at levels ts >>= λ a rest. Took (in_chain links a) rest)
terra_prefix_agrees levels links ts =
    sym (bind_again (reading levels terra.terra_base ts) (λ b mid. reading levels (terra.terra_suffixes b) mid) (λ a rest. Took (in_chain links a) rest))
    ∙ ap (λ (o : Outcome Chained). o >>= λ a rest. Took (in_chain links a) rest) (terra_applied_agrees levels ts)

-- ---- other operands

terra_number_agrees : (levels : ℕ) (ts : List Token) → reading levels terra.terra_number ts ≡ terra_number_tree_at ts
unfolding terra_number_tree_at terra_number_at
terra_number_agrees levels ts =
    ap (λ (o : Outcome (Token × Tree)). o >>= λ x rest. Took (Numeral x.0.place x.0.text) rest) (plain_is levels (among terra_numerals) TerraNumber (sample symbols.Numeral) ts)
    ∙ bind_again (used (among terra_numerals) false 0 TerraNumber ts) (λ t rest. Took (both t Nothing) rest) (λ x rest. Took (Numeral x.0.place x.0.text) rest)

terra_constant_agrees : (levels : ℕ) (s : Symbol) (ts : List Token) → reading levels (bind (sign s) λ x. give (terra_constant s x.0.place)) ts ≡ terra_constant_at s ts
unfolding terra_constant_at
terra_constant_agrees levels s ts = sign_then levels s (λ x. give (terra_constant s x.0.place)) (λ t rest. Took (terra_constant s t.place) rest) (λ t us. refl) ts

-- by the first token
terra_primary_by : (levels links : ℕ) (symbol : Symbol) (text : List ℕ) (place : Place) (offset : ℕ) (first : Bool) (ts : List Token) →
    reading levels (terra.terra_primary links) (record { symbol = symbol; text = text; place = place; offset = offset; first_on_line = first } ∷ ts) ≡ terra_primary_at levels links (record { symbol = symbol; text = text; place = place; offset = offset; first_on_line = first } ∷ ts)
unfolding terra_primary_at terra_simple_at terra_constant
terra_primary_by levels links symbols.Numeral text place offset first ts =
    let us : List Token = record { symbol = symbols.Numeral; text = text; place = place; offset = offset; first_on_line = first } ∷ ts in lua.as_operand levels links terra.terra_number (terra_number_tree_at us) us (terra_number_agrees levels us)
terra_primary_by levels links symbols.LongNumeral text place offset first ts =
    let us : List Token = record { symbol = symbols.LongNumeral; text = text; place = place; offset = offset; first_on_line = first } ∷ ts in lua.as_operand levels links terra.terra_number (terra_number_tree_at us) us (terra_number_agrees levels us)
terra_primary_by levels links symbols.UnsignedNumeral text place offset first ts =
    let us : List Token = record { symbol = symbols.UnsignedNumeral; text = text; place = place; offset = offset; first_on_line = first } ∷ ts in lua.as_operand levels links terra.terra_number (terra_number_tree_at us) us (terra_number_agrees levels us)
terra_primary_by levels links symbols.Literal text place offset first ts =
    let us : List Token = record { symbol = symbols.Literal; text = text; place = place; offset = offset; first_on_line = first } ∷ ts in lua.as_operand levels links literal (literal_at us) us (literal_agrees levels us)
terra_primary_by levels links symbols.Nil text place offset first ts =
    let us : List Token = record { symbol = symbols.Nil; text = text; place = place; offset = offset; first_on_line = first } ∷ ts in lua.as_operand levels links terra.terra_nil (terra_constant_at symbols.Nil us) us (terra_constant_agrees levels symbols.Nil us)
terra_primary_by levels links symbols.False text place offset first ts =
    let us : List Token = record { symbol = symbols.False; text = text; place = place; offset = offset; first_on_line = first } ∷ ts in lua.as_operand levels links terra.terra_false (terra_constant_at symbols.False us) us (terra_constant_agrees levels symbols.False us)
terra_primary_by levels links symbols.True text place offset first ts =
    let us : List Token = record { symbol = symbols.True; text = text; place = place; offset = offset; first_on_line = first } ∷ ts in lua.as_operand levels links terra.terra_true (terra_constant_at symbols.True us) us (terra_constant_agrees levels symbols.True us)
terra_primary_by levels links symbol text place offset first ts = terra_prefix_agrees levels links (record { symbol = symbol; text = text; place = place; offset = offset; first_on_line = first } ∷ ts)

pub terra_primary_agrees : (levels links : ℕ) (ts : List Token) → reading levels (terra.terra_primary links) ts ≡ terra_primary_at levels links ts
unfolding terra_primary_at
terra_primary_agrees levels links [] = terra_prefix_agrees levels links []
terra_primary_agrees levels links (t ∷ ts) = terra_primary_by levels links t.symbol t.text t.place t.offset t.first_on_line ts

-- ---- operators

terra_prefixed_agrees : (levels links : ℕ) (ts : List Token) → reading levels (terra.terra_prefixed links) ts ≡ terra_prefixed_at levels links ts
unfolding terra_prefixed_at prefix_at
terra_prefixed_agrees levels links ts =
    ap (λ (o : Outcome (Token × Tree)). o >>= λ x rest. Took (operand links (TerraUnary x.0.place (unary_of x.0.symbol) x.1)) rest) (opening_is levels (among terra_prefix_symbols) Plain TerraOperand (sample symbols.Minus) ts)
    ∙ opened_then levels TerraOperand (used (among terra_prefix_symbols) true levels Plain ts) (λ x. give (operand links (TerraUnary x.0.place (unary_of x.0.symbol) x.1))) (λ t x rest. Took (operand links (TerraUnary t.place (unary_of t.symbol) x)) rest) (λ t x us. refl)

pub terra_exponent_agrees : (levels links : ℕ) (ts : List Token) → reading levels (terra.terra_exponent links) ts ≡ terra_exponent_at levels links ts
unfolding terra_exponent_at
terra_exponent_agrees levels links ts =
    either_is (begins (among terra_prefix_symbols) ts) (reading levels (terra.terra_prefixed links) ts) (reading levels (terra.terra_primary links) ts) (terra_prefixed_at levels links ts) (terra_primary_at levels links ts)
    (terra_prefixed_agrees levels links ts) (terra_primary_agrees levels links ts)

terra_power_agrees : (levels links : ℕ) (ts : List Token) → reading levels (terra.terra_power links) ts ≡ terra_binary_at levels precedences.Power links ts
unfolding terra_binary_at terra_first_at terra_more_at
terra_power_agrees levels links ts =
    then levels (terra.terra_primary links) (λ a. operators (symbols.Caret ∷ []) (λ n. terra.terra_exponent n) terra.terra_operation a) (λ us. terra_primary_at levels links us) (λ a rest. terra_more_at levels precedences.Power a rest)
    (λ us. terra_primary_agrees levels links us) (λ a us. refl) ts

pub terra_unary_agrees : (levels links : ℕ) (ts : List Token) → reading levels (terra.terra_unary links) ts ≡ terra_unary_at levels links ts
unfolding terra_unary_at
terra_unary_agrees levels links ts =
    either_is (begins (among terra_prefix_symbols) ts) (reading levels (terra.terra_prefixed links) ts) (reading levels (terra.terra_power links) ts) (terra_prefixed_at levels links ts) (terra_binary_at levels precedences.Power links ts)
    (terra_prefixed_agrees levels links ts) (terra_power_agrees levels links ts)

pub terra_product_agrees : (levels links : ℕ) (ts : List Token) → reading levels (terra.terra_product links) ts ≡ terra_binary_at levels precedences.Product links ts
unfolding terra_binary_at terra_first_at terra_inner_at terra_more_at
terra_product_agrees levels links ts = refl

pub terra_sum_agrees : (levels links : ℕ) (ts : List Token) → reading levels (terra.terra_sum links) ts ≡ terra_binary_at levels precedences.Sum links ts
unfolding terra_binary_at terra_first_at terra_inner_at terra_more_at
terra_sum_agrees levels links ts = refl

pub terra_shift_agrees : (levels links : ℕ) (ts : List Token) → reading levels (terra.terra_shift links) ts ≡ terra_binary_at levels precedences.Shift links ts
unfolding terra_binary_at terra_first_at terra_inner_at terra_more_at
terra_shift_agrees levels links ts = refl

pub terra_comparison_agrees : (levels links : ℕ) (ts : List Token) → reading levels (terra.terra_comparison links) ts ≡ terra_binary_at levels precedences.Comparison links ts
unfolding terra_binary_at terra_first_at terra_inner_at terra_more_at
terra_comparison_agrees levels links ts = refl

pub terra_conjunction_agrees : (levels links : ℕ) (ts : List Token) → reading levels (terra.terra_conjunction links) ts ≡ terra_binary_at levels precedences.Conjunction links ts
unfolding terra_binary_at terra_first_at terra_inner_at terra_more_at
terra_conjunction_agrees levels links ts = refl

pub terra_disjunction_agrees : (levels links : ℕ) (ts : List Token) → reading levels (terra.terra_disjunction links) ts ≡ terra_binary_at levels precedences.Disjunction links ts
unfolding terra_binary_at terra_first_at terra_inner_at terra_more_at
terra_disjunction_agrees levels links ts = refl

-- ---- initialisers

pub terra_expression_agrees : (levels : ℕ) (ts : List Token) → reading levels terra.terra_expression ts ≡ part_at levels TerraExpression ts
unfolding part_at
terra_expression_agrees levels ts = refl

named_initialiser_agrees : (levels : ℕ) (ts : List Token) → reading levels terra.named_initialiser ts ≡ named_initialiser_at levels ts
unfolding named_initialiser_at
named_initialiser_agrees levels ts =
    then levels name (λ n. bind (sign symbols.Equal) λ y. bind terra.terra_expression λ v. give (NamedField n v)) (λ us. name_at us) (λ n a. expression_behind_at levels symbols.Equal codes.Terra a >>= λ v rest. Took (NamedField n v) rest)
    (λ us. name_agrees levels us)
    (λ n a. behind_give levels symbols.Equal codes.Terra (λ v. NamedField n v) a) ts

pub initialiser_agrees : (levels : ℕ) (named : Bool) (ts : List Token) → reading levels (initialiser_of named) ts ≡ initialiser_at levels named ts
unfolding initialiser_at
initialiser_agrees levels true ts = named_initialiser_agrees levels ts
initialiser_agrees levels false ts = terra_expression_agrees levels ts

-- a first initialiser and those behind it
abbrev behind_first : ℕ → Tree × Bool → List Token → Outcome Tree
behind_first levels f rest = more_initialisers_at levels f.1 (More Nothing f.0) rest

abbrev with_name : Tree → Bool → Tree × Bool
with_name e named = (e, named)

named_behind : (levels : ℕ) (e : Tree) (ts : List Token) →
    reading levels (bind (sign symbols.Equal) λ y. bind terra.terra_expression λ v. separated_behind terra.named_initialiser (More Nothing (NamedField e v))) ts
    ≡ ((expression_behind_at levels symbols.Equal codes.Terra ts >>= λ v rest. Took (with_name (NamedField e v) true) rest) >>= λ f rest. behind_first levels f rest)
unfolding more_initialisers_at
named_behind levels e ts =
    behind_then levels symbols.Equal codes.Terra (λ v. separated_behind terra.named_initialiser (More Nothing (NamedField e v))) (λ v rest. more_initialisers_at levels true (More Nothing (NamedField e v)) rest) (λ v us. refl) ts
    ∙ sym (bind_again (expression_behind_at levels symbols.Equal codes.Terra ts) (λ v rest. Took (with_name (NamedField e v) true) rest) (λ f rest. behind_first levels f rest))

initialisers_behind_agrees : (levels : ℕ) (e : Chained) (ts : List Token) → reading levels (terra.initialisers_behind e.kind e.tree) ts ≡ (initialiser_behind_at levels e ts >>= λ f rest. behind_first levels f rest)
unfolding more_initialisers_at
initialisers_behind_agrees levels e ts = go e.kind
  where
    positional : reading levels (terra.positional_initialisers e.tree) ts ≡ behind_first levels (with_name e.tree false) ts
    positional = refl

    by : (b : Bool) → cond b (reading levels (bind (sign symbols.Equal) λ y. bind terra.terra_expression λ v. separated_behind terra.named_initialiser (More Nothing (NamedField e.tree v))) ts) (reading levels (terra.positional_initialisers e.tree) ts)
        ≡ (cond b (expression_behind_at levels symbols.Equal codes.Terra ts >>= λ v rest. Took (with_name (NamedField e.tree v) true) rest) (Took (with_name e.tree false) ts) >>= λ f rest. behind_first levels f rest)
    by true = named_behind levels e.tree ts
    by false = positional

    named : Outcome (Tree × Bool)
    named = cond (begins (is symbols.Equal) ts) (expression_behind_at levels symbols.Equal codes.Terra ts >>= λ v rest. Took (with_name (NamedField e.tree v) true) rest) (Took (with_name e.tree false) ts)

    go : (kind : OperandKind) → reading levels (terra.initialisers_behind kind e.tree) ts ≡ (cond (is_name kind) named (Took (with_name e.tree false) ts) >>= λ f rest. behind_first levels f rest)
    go operands.Name = by (begins (is symbols.Equal) ts)
    go operands.Variable = positional
    go operands.Call = positional
    go operands.Escape = positional
    go operands.Other = positional

pub initialisers_agree : (levels : ℕ) (ts : List Token) → reading levels terra.initialisers ts ≡ initialisers_at levels ts
unfolding initialisers_at first_initialiser_at
initialisers_agree levels ts =
    either_is (begins (is symbols.CloseBrace) ts) (Took Nothing ts) (reading levels (bind (terra.terra_disjunction chain) λ e. terra.initialisers_behind e.kind e.tree) ts) (Took Nothing ts)
    ((terra_binary_at levels precedences.Disjunction chain ts >>= λ e rest. initialiser_behind_at levels e rest) >>= λ f rest. behind_first levels f rest) refl
    (then levels (terra.terra_disjunction chain) (λ e. terra.initialisers_behind e.kind e.tree) (λ us. terra_binary_at levels precedences.Disjunction chain us) (λ e rest. initialiser_behind_at levels e rest >>= λ f rest. behind_first levels f rest)
    (λ us. terra_disjunction_agrees levels chain us) (λ e us. initialisers_behind_agrees levels e us) ts
    ∙ sym (bind_again (terra_binary_at levels precedences.Disjunction chain ts) (λ e rest. initialiser_behind_at levels e rest) (λ f rest. behind_first levels f rest)))
