-- What reading each name of the grammar of Lua expressions gives is what its grammar gives.
use Rattle.std.proofs.Common.{◌≡◌, ℕ, zero, suc, ◌+◌, ◌-◌, ◌<◌, ◌≤◌, Bool, true, false, cond, List, [], ◌∷◌, Some, refl, sym, ap, ◌∙◌, arith}
use Rattle.tl_base.specs.declared.place.Place.{Place}
use Rattle.tl_tree.specs.declared.mode.Mode.{Mode}
use Rattle.tl_tree.specs.declared.mode.Mode.TheVariants as modes
use Rattle.tl_tree.specs.declared.mode.OperandKind.{OperandKind}
use Rattle.tl_tree.specs.declared.mode.OperandKind.TheVariants as operands
use Rattle.tl_tree.specs.declared.mode.TokenUse.TheVariants.{Plain, Continues, LuaNumber}
use Rattle.tl_tree.specs.declared.symbol.Symbol.{Symbol}
use Rattle.tl_tree.specs.declared.symbol.Symbol.TheVariants as symbols
use Rattle.tl_tree.specs.Tokens.{Token, is, among, sample}
use Rattle.tl_tree.specs.Tree.{Tree, Nothing, More, Name, Numeral, Literal, Function, Table, Unary, Paren, NamedField, KeyedField, Part, Expression, Operand, Concatenation, Arguments, Fields, FunctionBody}
use Rattle.tl_tree.specs.Grammar.{Grammar, give, token, bind, Outcome, Took, Stop, ◌>>=◌, begins, down}
use Rattle.tl_tree.specs.Forms.{sign, opening, name, Chained, chained, chain, operand, in_chain, right_operator, unary_of}
use Rattle.tl_tree.specs.LuaExpressions as lua
use Rattle.tl_tree.proofs.Unrolling.{bind_again}
use Rattle.tl_parse.specs.Views.Using.{reading, part_at, used, sign_at, open_at, prefix_at, raise_at, number_at}
use Rattle.tl_parse.specs.Views.Expressions.{name_at, paren_at, base_at, method_arguments_at, listed_arguments_at, applied_at, suffixes_at, prefixed_at, number_tree_at, literal_at, constant, constant_at, function_at, table_at, simple_at, is_simple, primary_at, right_at, power_at, unary_at, inner_of, more_at, ranks_at, binary_at, chained_at, is_name, field_behind_at, keyed_field_at, field_at}
pub use Rattle.tl_parse.proofs.Following.{sign_then, opened_then, open_then, then, either_is}
use Rattle.tl_parse.proofs.Following.{behind_give, body_give}
use Rattle.tl_parse.proofs.TerraCodeAgreeing.{terra_code_agrees}
use Rattle.tl_parse.specs.Views.Codes.{expression_behind_at, opened_body_at}
use Rattle.tl_parse.specs.Views.TerraCode.{terra_code_at}
use Rattle.tl_parse.specs.declared.parser.Code.TheVariants as codes
use Rattle.tl_parse.proofs.Uses.{both, bind_same, opening_is, plain_is}

-- ---- names, prefix expressions

pub name_agrees : (levels : ℕ) (ts : List Token) → reading levels name ts ≡ name_at ts
unfolding name_at
name_agrees levels ts = sign_then levels symbols.Name (λ n. give (Name n.0.place n.0.offset n.0.text)) (λ t rest. Took (Name t.place t.offset t.text) rest) (λ t us. refl) ts

pub paren_agrees : (levels : ℕ) (m : Mode) (ts : List Token) → reading levels (lua.paren m) ts ≡ paren_at levels m ts
unfolding paren_at
paren_agrees levels m ts =
    open_then levels symbols.OpenParen (Expression m) (λ x. bind (sign symbols.CloseParen) λ y. give (chained (Paren x.0.place x.1) chain operands.Other)) (λ t x us. sign_at symbols.CloseParen us >>= λ y rest. Took (chained (Paren t.place x) chain operands.Other) rest)
    (λ t x us. sign_then levels symbols.CloseParen (λ y. give (chained (Paren t.place x) chain operands.Other)) (λ y rest. Took (chained (Paren t.place x) chain operands.Other) rest) (λ y vs. refl) us) ts

pub base_agrees : (levels : ℕ) (m : Mode) (ts : List Token) → reading levels (lua.base m) ts ≡ base_at levels m ts
unfolding base_at
base_agrees levels m ts =
    either_is (begins (is symbols.OpenParen) ts) (reading levels (lua.paren m) ts) (reading levels (bind name λ n. give (chained n chain operands.Name)) ts) (paren_at levels m ts) (name_at ts >>= λ n rest. Took (chained n chain operands.Name) rest)
    (paren_agrees levels m ts) (then levels name (λ n. give (chained n chain operands.Name)) (λ us. name_at us) (λ n rest. Took (chained n chain operands.Name) rest) (λ us. name_agrees levels us) (λ n us. refl) ts)

-- ---- texts and tables

pub literal_agrees : (levels : ℕ) (ts : List Token) → reading levels lua.literal ts ≡ literal_at ts
unfolding literal_at
literal_agrees levels ts = sign_then levels symbols.Literal (λ x. give (Literal x.0.place x.0.text)) (λ t rest. Took (Literal t.place t.text) rest) (λ t us. refl) ts

table_agrees : (levels : ℕ) (m : Mode) (ts : List Token) → reading levels (lua.table m) ts ≡ table_at levels m ts
unfolding table_at
table_agrees levels m ts =
    open_then levels symbols.OpenBrace (Fields m) (λ x. bind (sign symbols.CloseBrace) λ y. give (Table x.0.place x.1)) (λ t x us. sign_at symbols.CloseBrace us >>= λ y rest. Took (Table t.place x) rest)
    (λ t x us. sign_then levels symbols.CloseBrace (λ y. give (Table t.place x)) (λ y rest. Took (Table t.place x) rest) (λ y vs. refl) us) ts

-- ---- arguments

-- a table that is the one argument
table_argument_agrees : (levels : ℕ) (m : Mode) (ts : List Token) →
    reading levels (bind (opening symbols.OpenBrace (Fields m)) λ x. bind (sign symbols.CloseBrace) λ y. give (More Nothing (Table x.0.place x.1))) ts ≡ (table_at levels m ts >>= λ x rest. Took (More Nothing x) rest)
unfolding table_at
table_argument_agrees levels m ts =
    open_then levels symbols.OpenBrace (Fields m) (λ x. bind (sign symbols.CloseBrace) λ y. give (More Nothing (Table x.0.place x.1))) (λ t x us. closed t x us >>= λ e rest. alone e rest)
    (λ t x us. sign_then levels symbols.CloseBrace (λ y. give (More Nothing (Table t.place x))) (λ y rest. Took (More Nothing (Table t.place x)) rest) (λ y vs. refl) us ∙ sym (bind_again (sign_at symbols.CloseBrace us) (λ y rest. Took (Table t.place x) rest) (λ e rest. alone e rest))) ts
    ∙ sym (bind_again (open_at symbols.OpenBrace levels ts) (λ t a. part_at (levels - 1) (Fields m) a >>= λ x b. closed t x b) (λ e rest. alone e rest)
    ∙ bind_same (open_at symbols.OpenBrace levels ts) (λ t a. (part_at (levels - 1) (Fields m) a >>= λ x b. closed t x b) >>= λ e rest. alone e rest) (λ t a. part_at (levels - 1) (Fields m) a >>= λ x b. closed t x b >>= λ e rest. alone e rest)
    (λ t a. bind_again (part_at (levels - 1) (Fields m) a) (λ x b. closed t x b) (λ e rest. alone e rest)))
  where
    alone : Tree → List Token → Outcome Tree
    alone x rest = Took (More Nothing x) rest

    closed : Token → Tree → List Token → Outcome Tree
    closed t x us = sign_at symbols.CloseBrace us >>= λ y rest. Took (Table t.place x) rest

-- the same of a text
literal_argument_agrees : (levels : ℕ) (ts : List Token) → reading levels (bind (sign symbols.Literal) λ x. give (More Nothing (Literal x.0.place x.0.text))) ts ≡ (literal_at ts >>= λ x rest. Took (More Nothing x) rest)
unfolding literal_at
literal_argument_agrees levels ts =
    sign_then levels symbols.Literal (λ x. give (More Nothing (Literal x.0.place x.0.text))) (λ t rest. Took (More Nothing (Literal t.place t.text)) rest) (λ t us. refl) ts
    ∙ sym (bind_again (sign_at symbols.Literal ts) (λ t rest. Took (Literal t.place t.text) rest) (λ x rest. Took (More Nothing x) rest))

pub method_arguments_agree : (levels : ℕ) (m : Mode) (ts : List Token) → reading levels (lua.arguments m) ts ≡ method_arguments_at levels m ts
unfolding method_arguments_at listed_arguments_at
method_arguments_agree levels m ts =
    either_is (begins (is symbols.OpenParen) ts) (reading levels (bind (opening symbols.OpenParen (Arguments m)) λ x. bind (sign symbols.CloseParen) λ y. give x.1) ts) (cond (begins (is symbols.OpenBrace) ts) (reading levels with_table ts) (reading levels with_text ts))
    (open_at symbols.OpenParen levels ts >>= λ t a. part_at (levels - 1) (Arguments m) a >>= λ x b. sign_at symbols.CloseParen b >>= λ y rest. Took x rest) _
    (open_then levels symbols.OpenParen (Arguments m) (λ x. bind (sign symbols.CloseParen) λ y. give x.1) (λ t x us. sign_at symbols.CloseParen us >>= λ y rest. Took x rest) (λ t x us. sign_then levels symbols.CloseParen (λ y. give x) (λ y rest. Took x rest) (λ y vs. refl) us) ts)
    (either_is (begins (is symbols.OpenBrace) ts) (reading levels with_table ts) (reading levels with_text ts) _ _ (table_argument_agrees levels m ts) (literal_argument_agrees levels ts))
  where
    with_table : Grammar Tree
    with_table = bind (opening symbols.OpenBrace (Fields m)) λ x. bind (sign symbols.CloseBrace) λ y. give (More Nothing (Table x.0.place x.1))

    with_text : Grammar Tree
    with_text = bind (sign symbols.Literal) λ x. give (More Nothing (Literal x.0.place x.0.text))

pub applied_agrees : (levels : ℕ) (m : Mode) (ts : List Token) → reading levels (bind (lua.base m) λ b. lua.suffixes m b) ts ≡ applied_at levels m false ts
unfolding applied_at suffixes_at
applied_agrees levels m ts = then levels (lua.base m) (λ b. lua.suffixes m b) (λ us. base_at levels m us) (λ b rest. suffixes_at levels m b rest) (λ us. base_agrees levels m us) (λ b us. refl) ts

pub prefixed_agrees : (levels : ℕ) (m : Mode) (links : ℕ) (ts : List Token) → reading levels (lua.prefix m links) ts ≡ prefixed_at levels m links ts
unfolding prefixed_at
prefixed_agrees levels m links ts =
    sym (bind_again (reading levels (lua.base m) ts) (λ b mid. reading levels (lua.suffixes m b) mid) (λ a rest. Took (in_chain links a) rest))
    ∙ ap (λ (o : Outcome Chained). o >>= λ a rest. Took (in_chain links a) rest) (applied_agrees levels m ts)

-- ---- operands

pub as_operand : (levels links : ℕ) (g : Grammar Tree) (g_at : Outcome Tree) (ts : List Token) → reading levels g ts ≡ g_at → reading levels (lua.as_operand links g) ts ≡ (g_at >>= λ e rest. Took (operand links e) rest)
as_operand levels links g g_at ts same = ap (λ (o : Outcome Tree). o >>= λ e rest. Took (operand links e) rest) same

number_agrees : (levels : ℕ) (ts : List Token) → reading levels lua.number ts ≡ number_tree_at ts
unfolding number_tree_at number_at
number_agrees levels ts =
    ap (λ (o : Outcome (Token × Tree)). o >>= λ x rest. Took (Numeral x.0.place x.0.text) rest) (plain_is levels (is symbols.Numeral) LuaNumber (sample symbols.Numeral) ts)
    ∙ bind_again (used (is symbols.Numeral) false 0 LuaNumber ts) (λ t rest. Took (both t Nothing) rest) (λ x rest. Took (Numeral x.0.place x.0.text) rest)

constant_agrees : (levels : ℕ) (s : Symbol) (ts : List Token) → reading levels (bind (sign s) λ x. give (constant s x.0.place)) ts ≡ constant_at s ts
unfolding constant_at
constant_agrees levels s ts = sign_then levels s (λ x. give (constant s x.0.place)) (λ t rest. Took (constant s t.place) rest) (λ t us. refl) ts

function_agrees : (levels : ℕ) (ts : List Token) → reading levels lua.function ts ≡ function_at levels ts
unfolding function_at
function_agrees levels ts =
    sign_then levels symbols.Function (λ f. bind (opening symbols.OpenParen FunctionBody) λ x. give (Function f.0.place x.1)) (λ f us. opened_body_at levels us >>= λ x rest. Took (Function f.place x) rest)
    (λ f us. body_give levels (λ x. Function f.place x) us) ts

-- Terra code is an operand of Lua code.
terra_operand : (levels : ℕ) (m : Mode) (links : ℕ) (ts : List Token) → reading levels (lua.as_operand links (lua.terra_code m)) ts ≡ (terra_code_at levels m ts >>= λ e rest. Took (operand links e) rest)
terra_operand levels m links ts = as_operand levels links (lua.terra_code m) (terra_code_at levels m ts) ts (terra_code_agrees levels m ts)

-- by the first token
primary_by : (levels : ℕ) (m : Mode) (links : ℕ) (symbol : Symbol) (text : List ℕ) (place : Place) (offset : ℕ) (first : Bool) (ts : List Token) →
    reading levels (lua.primary m links) (record { symbol = symbol; text = text; place = place; offset = offset; first_on_line = first } ∷ ts) ≡ primary_at levels m links (record { symbol = symbol; text = text; place = place; offset = offset; first_on_line = first } ∷ ts)
unfolding primary_at is_simple simple_at constant
primary_by levels m links symbols.Numeral text place offset first ts =
    let us : List Token = record { symbol = symbols.Numeral; text = text; place = place; offset = offset; first_on_line = first } ∷ ts in as_operand levels links lua.number (number_tree_at us) us (number_agrees levels us)
primary_by levels m links symbols.Literal text place offset first ts =
    let us : List Token = record { symbol = symbols.Literal; text = text; place = place; offset = offset; first_on_line = first } ∷ ts in as_operand levels links lua.literal (literal_at us) us (literal_agrees levels us)
primary_by levels m links symbols.Nil text place offset first ts =
    let us : List Token = record { symbol = symbols.Nil; text = text; place = place; offset = offset; first_on_line = first } ∷ ts in as_operand levels links lua.nil (constant_at symbols.Nil us) us (constant_agrees levels symbols.Nil us)
primary_by levels m links symbols.False text place offset first ts =
    let us : List Token = record { symbol = symbols.False; text = text; place = place; offset = offset; first_on_line = first } ∷ ts in as_operand levels links lua.constant_false (constant_at symbols.False us) us (constant_agrees levels symbols.False us)
primary_by levels m links symbols.True text place offset first ts =
    let us : List Token = record { symbol = symbols.True; text = text; place = place; offset = offset; first_on_line = first } ∷ ts in as_operand levels links lua.constant_true (constant_at symbols.True us) us (constant_agrees levels symbols.True us)
primary_by levels modes.Variadic links symbols.Ellipsis text place offset first ts =
    let us : List Token = record { symbol = symbols.Ellipsis; text = text; place = place; offset = offset; first_on_line = first } ∷ ts in as_operand levels links lua.varargs (constant_at symbols.Ellipsis us) us (constant_agrees levels symbols.Ellipsis us)
primary_by levels modes.Variadic links symbols.Function text place offset first ts =
    let us : List Token = record { symbol = symbols.Function; text = text; place = place; offset = offset; first_on_line = first } ∷ ts in as_operand levels links lua.function (function_at levels us) us (function_agrees levels us)
primary_by levels modes.Plain links symbols.Function text place offset first ts =
    let us : List Token = record { symbol = symbols.Function; text = text; place = place; offset = offset; first_on_line = first } ∷ ts in as_operand levels links lua.function (function_at levels us) us (function_agrees levels us)
primary_by levels modes.Types links symbols.Function text place offset first ts =
    let us : List Token = record { symbol = symbols.Function; text = text; place = place; offset = offset; first_on_line = first } ∷ ts in as_operand levels links lua.function (function_at levels us) us (function_agrees levels us)
primary_by levels modes.Variadic links symbols.OpenBrace text place offset first ts =
    let us : List Token = record { symbol = symbols.OpenBrace; text = text; place = place; offset = offset; first_on_line = first } ∷ ts in as_operand levels links (lua.table modes.Variadic) (table_at levels modes.Variadic us) us (table_agrees levels modes.Variadic us)
primary_by levels modes.Plain links symbols.OpenBrace text place offset first ts =
    let us : List Token = record { symbol = symbols.OpenBrace; text = text; place = place; offset = offset; first_on_line = first } ∷ ts in as_operand levels links (lua.table modes.Plain) (table_at levels modes.Plain us) us (table_agrees levels modes.Plain us)
primary_by levels modes.Types links symbols.OpenBrace text place offset first ts =
    let us : List Token = record { symbol = symbols.OpenBrace; text = text; place = place; offset = offset; first_on_line = first } ∷ ts in as_operand levels links (lua.table modes.Types) (table_at levels modes.Types us) us (table_agrees levels modes.Types us)
primary_by levels modes.Variadic links symbols.Terra text place offset first ts = terra_operand levels modes.Variadic links (record { symbol = symbols.Terra; text = text; place = place; offset = offset; first_on_line = first } ∷ ts)
primary_by levels modes.Plain links symbols.Terra text place offset first ts = terra_operand levels modes.Plain links (record { symbol = symbols.Terra; text = text; place = place; offset = offset; first_on_line = first } ∷ ts)
primary_by levels modes.Types links symbols.Terra text place offset first ts = terra_operand levels modes.Types links (record { symbol = symbols.Terra; text = text; place = place; offset = offset; first_on_line = first } ∷ ts)
primary_by levels modes.Variadic links symbols.Struct text place offset first ts = terra_operand levels modes.Variadic links (record { symbol = symbols.Struct; text = text; place = place; offset = offset; first_on_line = first } ∷ ts)
primary_by levels modes.Plain links symbols.Struct text place offset first ts = terra_operand levels modes.Plain links (record { symbol = symbols.Struct; text = text; place = place; offset = offset; first_on_line = first } ∷ ts)
primary_by levels modes.Types links symbols.Struct text place offset first ts = terra_operand levels modes.Types links (record { symbol = symbols.Struct; text = text; place = place; offset = offset; first_on_line = first } ∷ ts)
primary_by levels modes.Variadic links symbols.Quote text place offset first ts = terra_operand levels modes.Variadic links (record { symbol = symbols.Quote; text = text; place = place; offset = offset; first_on_line = first } ∷ ts)
primary_by levels modes.Plain links symbols.Quote text place offset first ts = terra_operand levels modes.Plain links (record { symbol = symbols.Quote; text = text; place = place; offset = offset; first_on_line = first } ∷ ts)
primary_by levels modes.Types links symbols.Quote text place offset first ts = terra_operand levels modes.Types links (record { symbol = symbols.Quote; text = text; place = place; offset = offset; first_on_line = first } ∷ ts)
primary_by levels modes.Variadic links symbols.Backtick text place offset first ts = terra_operand levels modes.Variadic links (record { symbol = symbols.Backtick; text = text; place = place; offset = offset; first_on_line = first } ∷ ts)
primary_by levels modes.Plain links symbols.Backtick text place offset first ts = terra_operand levels modes.Plain links (record { symbol = symbols.Backtick; text = text; place = place; offset = offset; first_on_line = first } ∷ ts)
primary_by levels modes.Types links symbols.Backtick text place offset first ts = terra_operand levels modes.Types links (record { symbol = symbols.Backtick; text = text; place = place; offset = offset; first_on_line = first } ∷ ts)
primary_by levels modes.Variadic links symbol text place offset first ts = prefixed_agrees levels modes.Variadic links (record { symbol = symbol; text = text; place = place; offset = offset; first_on_line = first } ∷ ts)
primary_by levels modes.Plain links symbol text place offset first ts = prefixed_agrees levels modes.Plain links (record { symbol = symbol; text = text; place = place; offset = offset; first_on_line = first } ∷ ts)
primary_by levels modes.Types links symbol text place offset first ts = prefixed_agrees levels modes.Types links (record { symbol = symbol; text = text; place = place; offset = offset; first_on_line = first } ∷ ts)

pub primary_agrees : (levels : ℕ) (m : Mode) (links : ℕ) (ts : List Token) → reading levels (lua.primary m links) ts ≡ primary_at levels m links ts
unfolding primary_at is_simple
primary_agrees levels m links [] = prefixed_agrees levels m links []
primary_agrees levels m links (t ∷ ts) = primary_by levels m links t.symbol t.text t.place t.offset t.first_on_line ts

-- ---- operators

right_agrees : (levels : ℕ) (s : Symbol) (part : Part) (a : Chained) (ts : List Token) → reading levels (right_operator s part lua.operation a) ts ≡ right_at levels s part a ts
unfolding raise_at
right_agrees levels s part a ts =
    either_is (begins (is s) ts) (reading levels (bind (token (is s) (λ t. Continues a.links) (λ t. Some part) (sample s)) λ x. give (operand (down a.links) (lua.operation x.0 a.tree x.1))) ts) (Took a ts)
    (used (is s) true levels (Continues a.links) ts >>= λ t b. part_at (levels - 1) part b >>= λ x rest. Took (operand (down a.links) (lua.operation t a.tree x)) rest) (Took a ts)
    (ap (λ (o : Outcome (Token × Tree)). o >>= λ x rest. Took (operand (down a.links) (lua.operation x.0 a.tree x.1)) rest) (opening_is levels (is s) (Continues a.links) part (sample s) ts)
    ∙ opened_then levels part (used (is s) true levels (Continues a.links) ts) (λ x. give (operand (down a.links) (lua.operation x.0 a.tree x.1))) (λ t x rest. Took (operand (down a.links) (lua.operation t a.tree x)) rest) (λ t x us. refl))
    refl

pub power_agrees : (levels : ℕ) (m : Mode) (links : ℕ) (ts : List Token) → reading levels (lua.power m links) ts ≡ power_at levels m links ts
unfolding power_at
power_agrees levels m links ts =
    then levels (lua.primary m links) (λ a. right_operator symbols.Caret (Operand m) lua.operation a) (λ us. primary_at levels m links us) (λ a rest. right_at levels symbols.Caret (Operand m) a rest)
    (λ us. primary_agrees levels m links us) (λ a us. right_agrees levels symbols.Caret (Operand m) a us) ts

pub unary_agrees : (levels : ℕ) (m : Mode) (links : ℕ) (ts : List Token) → reading levels (lua.unary m links) ts ≡ unary_at levels m links ts
unfolding unary_at prefix_at
unary_agrees levels m links ts =
    either_is (begins (among lua.prefix_symbols) ts) (reading levels (bind (token (among lua.prefix_symbols) (λ t. Plain) (λ t. Some (Operand m)) (sample symbols.Minus)) λ x. give (operand links (Unary x.0.place (unary_of x.0.symbol) x.1))) ts) (reading levels (lua.power m links) ts)
    (used (among lua.prefix_symbols) true levels Plain ts >>= λ t a. part_at (levels - 1) (Operand m) a >>= λ x rest. Took (operand links (Unary t.place (unary_of t.symbol) x)) rest) (power_at levels m links ts)
    (ap (λ (o : Outcome (Token × Tree)). o >>= λ x rest. Took (operand links (Unary x.0.place (unary_of x.0.symbol) x.1)) rest) (opening_is levels (among lua.prefix_symbols) Plain (Operand m) (sample symbols.Minus) ts)
    ∙ opened_then levels (Operand m) (used (among lua.prefix_symbols) true levels Plain ts) (λ x. give (operand links (Unary x.0.place (unary_of x.0.symbol) x.1))) (λ t x rest. Took (operand links (Unary t.place (unary_of t.symbol) x)) rest) (λ t x us. refl))
    (power_agrees levels m links ts)

pub bind_end : {A : Type 0} (o : Outcome A) → (o >>= λ a rest. Took a rest) ≡ o
bind_end (Took a rest) = refl
bind_end (Stop kind rest) = refl

-- the operators of a rank come behind those of the ranks before it
rank_agrees : (levels rank : ℕ) (m : Mode) (links : ℕ) (ts : List Token) → rank < 6 → reading levels (inner_of (suc rank) m links) ts ≡ (reading levels (inner_of rank m links) ts >>= λ a rest. more_at levels rank m a rest)
unfolding more_at
rank_agrees levels zero m links ts h = refl
rank_agrees levels (suc zero) m links ts h = refl
rank_agrees levels (suc (suc zero)) m links ts h =
    then levels (lua.sum m links) (λ a. right_operator symbols.DoubleDot (Concatenation m) lua.operation a) (λ us. reading levels (lua.sum m links) us) (λ a rest. right_at levels symbols.DoubleDot (Concatenation m) a rest)
    (λ us. refl) (λ a us. right_agrees levels symbols.DoubleDot (Concatenation m) a us) ts
rank_agrees levels (suc (suc (suc zero))) m links ts h = refl
rank_agrees levels (suc (suc (suc (suc zero)))) m links ts h = refl
rank_agrees levels (suc (suc (suc (suc (suc zero))))) m links ts h = refl
rank_agrees levels (suc (suc (suc (suc (suc (suc rank)))))) m links ts h = absurd (omega (arith, h))

ranks_last : (n levels rank last : ℕ) (m : Mode) (a : Chained) (ts : List Token) → last ≡ rank + n → ranks_at levels (suc n) rank m a ts ≡ (ranks_at levels n rank m a ts >>= λ b rest. more_at levels last m b rest)
unfolding ranks_at
ranks_last zero levels rank last m a ts h =
    let same : rank ≡ last = omega (arith, h) in
    bind_end (more_at levels rank m a ts) ∙ ap (λ (k : ℕ). more_at levels k m a ts) same
ranks_last (suc n) levels rank last m a ts h =
    bind_same (more_at levels rank m a ts) (λ b rest. more_at levels (suc rank) m b rest >>= λ c rest. ranks_at levels n (suc (suc rank)) m c rest) (λ b rest. ranks_at levels n (suc rank) m b rest >>= λ c rest. more_at levels last m c rest)
    (λ b rest. ranks_last n levels (suc rank) last m b rest (omega (arith, h)))
    ∙ sym (bind_again (more_at levels rank m a ts) (λ b rest. ranks_at levels n (suc rank) m b rest) (λ c rest. more_at levels last m c rest))

-- operands with the operators of the first ranks between them, so many
pub binary_agrees : (ranks levels : ℕ) (m : Mode) (links : ℕ) (ts : List Token) → ranks ≤ 6 → reading levels (inner_of ranks m links) ts ≡ binary_at levels ranks m links ts
unfolding binary_at ranks_at
binary_agrees zero levels m links ts h = unary_agrees levels m links ts ∙ sym (bind_end (unary_at levels m links ts))
binary_agrees (suc n) levels m links ts h =
    rank_agrees levels n m links ts (omega (arith, h))
    ∙ ap (λ (o : Outcome Chained). o >>= λ a rest. more_at levels n m a rest) (binary_agrees n levels m links ts (omega (arith, h)))
    ∙ bind_again (unary_at levels m links ts) (λ a rest. ranks_at levels n 0 m a rest) (λ b rest. more_at levels n m b rest)
    ∙ bind_same (unary_at levels m links ts) (λ a mid. ranks_at levels n 0 m a mid >>= λ b rest. more_at levels n m b rest) (λ a mid. ranks_at levels (suc n) 0 m a mid) (λ a mid. sym (ranks_last n levels 0 n m a mid (omega arith)))

pub chained_agrees : (levels : ℕ) (m : Mode) (ts : List Token) → reading levels (lua.chained_expression m) ts ≡ chained_at levels m ts
unfolding chained_at
chained_agrees levels m ts =
    then levels (lua.disjunction m chain) (λ a. right_operator symbols.Arrow (Expression m) lua.operation a) (λ us. binary_at levels 6 m chain us) (λ a rest. right_at levels symbols.Arrow (Expression m) a rest)
    (λ us. binary_agrees 6 levels m chain us (omega arith)) (λ a us. right_agrees levels symbols.Arrow (Expression m) a us) ts

-- ---- fields

pub expression_agrees : (levels : ℕ) (m : Mode) (ts : List Token) → reading levels (lua.expression m) ts ≡ part_at levels (Expression m) ts
unfolding part_at
expression_agrees levels m ts = refl

field_behind_agrees : (levels : ℕ) (m : Mode) (e : Chained) (ts : List Token) → reading levels (lua.field_behind m e.kind e.tree) ts ≡ field_behind_at levels m e ts
field_behind_agrees levels m e ts = go e.kind
  where
    named : Outcome Tree
    named = cond (begins (is symbols.Equal) ts) (expression_behind_at levels symbols.Equal (codes.Lua m) ts >>= λ v rest. Took (NamedField e.tree v) rest) (Took e.tree ts)

    go : (kind : OperandKind) → reading levels (lua.field_behind m kind e.tree) ts ≡ cond (is_name kind) named (Took e.tree ts)
    go operands.Name =
        either_is (begins (is symbols.Equal) ts) (reading levels (bind (sign symbols.Equal) λ y. bind (lua.expression m) λ v. give (NamedField e.tree v)) ts) (Took e.tree ts) (expression_behind_at levels symbols.Equal (codes.Lua m) ts >>= λ v rest. Took (NamedField e.tree v) rest) (Took e.tree ts)
        (behind_give levels symbols.Equal (codes.Lua m) (λ v. NamedField e.tree v) ts)
        refl
    go operands.Variable = refl
    go operands.Call = refl
    go operands.Escape = refl
    go operands.Other = refl

keyed_field_agrees : (levels : ℕ) (m : Mode) (ts : List Token) → reading levels (lua.keyed_field m) ts ≡ keyed_field_at levels m ts
unfolding keyed_field_at
keyed_field_agrees levels m ts =
    open_then levels symbols.OpenBracket (Expression m) (λ k. bind (sign symbols.CloseBracket) λ y. bind (sign symbols.Equal) λ z. bind (lua.expression m) λ v. give (KeyedField k.1 v))
    (λ t k b. sign_at symbols.CloseBracket b >>= λ y c. expression_behind_at levels symbols.Equal (codes.Lua m) c >>= λ v rest. Took (KeyedField k v) rest)
    (λ t k b. sign_then levels symbols.CloseBracket (λ y. bind (sign symbols.Equal) λ z. bind (lua.expression m) λ v. give (KeyedField k v)) (λ y c. expression_behind_at levels symbols.Equal (codes.Lua m) c >>= λ v rest. Took (KeyedField k v) rest)
    (λ y c. behind_give levels symbols.Equal (codes.Lua m) (λ v. KeyedField k v) c) b) ts

pub field_agrees : (levels : ℕ) (m : Mode) (ts : List Token) → reading levels (lua.field m) ts ≡ field_at levels m ts
unfolding field_at
field_agrees levels m ts =
    either_is (begins (is symbols.OpenBracket) ts) (reading levels (lua.keyed_field m) ts) (reading levels (bind (lua.chained_expression m) λ e. lua.field_behind m e.kind e.tree) ts) (keyed_field_at levels m ts) (chained_at levels m ts >>= λ e rest. field_behind_at levels m e rest)
    (keyed_field_agrees levels m ts)
    (then levels (lua.chained_expression m) (λ e. lua.field_behind m e.kind e.tree) (λ us. chained_at levels m us) (λ e rest. field_behind_at levels m e rest) (λ us. chained_agrees levels m us) (λ e us. field_behind_agrees levels m e us) ts)
