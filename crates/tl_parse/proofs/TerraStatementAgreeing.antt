-- What reading each name of the grammar of Terra statements gives is what its grammar gives.
use Rattle.std.proofs.Common.{◌≡◌, ℕ, ◌-◌, Bool, true, false, cond, List, [], ◌∷◌, Option, Some, None, refl, sym, ap, ◌∙◌}
use Rattle.std.specs.Prelude.{◌&&◌, not}
use Rattle.tl_base.specs.declared.place.Place.{Place}
use Rattle.tl_lex.specs.declared.SyntaxKind.{SyntaxKind}
use Rattle.tl_tree.specs.declared.mode.Mode.TheVariants as modes
use Rattle.tl_tree.specs.declared.mode.OperandKind.{OperandKind}
use Rattle.tl_tree.specs.declared.mode.OperandKind.TheVariants as operands
use Rattle.tl_tree.specs.declared.mode.TokenUse.TheVariants.{Plain}
use Rattle.tl_tree.specs.declared.node.UnaryOperator.{UnaryOperator}
use Rattle.tl_tree.specs.declared.node.UnaryOperator.TheVariants as unary
use Rattle.tl_tree.specs.declared.symbol.Symbol.{Symbol}
use Rattle.tl_tree.specs.declared.symbol.Symbol.TheVariants as symbols
use Rattle.tl_tree.specs.Tokens.{Token, is, among}
use Rattle.tl_tree.specs.Tree.{Tree, Nothing, More, Just, Name, TerraUnary, TerraParen, Escape, TerraAssign, Splice, TerraDo, TerraWhile}
use Rattle.tl_tree.specs.Tree.{TerraRepeat, TerraIf, TerraFor, Var, EscapeBlock, TerraReturn, TerraBreak, Arm, Parameter, SpliceParameter}
use Rattle.tl_tree.specs.Tree.{Variable, Part, Expression, Statements, TerraExpression, TerraOperand, TerraStatements}
use Rattle.tl_tree.specs.Grammar.{Grammar, give, bind, Outcome, Took, Stop, ◌>>=◌, begins, is_of}
use Rattle.tl_tree.specs.Forms.{sign, opening, listed, listed_behind, named, Chained, chained, chain, operand, operators, unary_of}
use Rattle.tl_tree.specs.Forms.{comparisons, additive, multiplicative}
use Rattle.tl_tree.specs.TerraExpressions.{shifts, terra_prefix_symbols}
use Rattle.tl_tree.specs.TerraExpressions as expressions
use Rattle.tl_tree.specs.TerraStatements as terra
use Rattle.tl_tree.proofs.Unrolling.{bind_again}
use Rattle.tl_parse.specs.Views.Using.{reading, part_at, used, barred, sign_at, open_at, prefix_at}
use Rattle.tl_parse.specs.Views.Expressions.{name_at}
use Rattle.tl_parse.specs.Views.Statements.{first_place}
use Rattle.tl_parse.specs.Views.TerraExpressions.{escape_at, terra_name_at, terra_paren_at, terra_base_at, terra_suffixes_at, terra_applied_at}
use Rattle.tl_parse.specs.Views.TerraExpressions.{terra_prefixed_at, terra_unary_at, terra_binary_at}
use Rattle.tl_parse.specs.Views.TerraStatements.{written_type_at}
use Rattle.tl_parse.specs.Views.TerraStatements.{placed_name, placed_name_at, terra_variable_at}
use Rattle.tl_parse.specs.Views.TerraStatements.{terra_target_at}
use Rattle.tl_parse.specs.Views.TerraStatements.{terra_assignment_at, assignment_symbols, terra_statement_behind_at, terra_simple_statement_at}
use Rattle.tl_parse.specs.Views.Statements.{do_at, while_at, repeat_at, if_at, return_at}
use Rattle.tl_parse.specs.Views.TerraStatements.{terra_for_at, terra_var_at}
use Rattle.tl_parse.specs.Views.TerraStatements.{escape_block_at, terra_break_at, terra_statement_at, terra_parameter_at}
use Rattle.tl_parse.specs.Views.TerraStatements.{terra_parameters_at}
use Rattle.tl_parse.specs.declared.terra_expressions.TerraPrecedence.TheVariants as precedences
use Rattle.tl_parse.proofs.Uses.{never, bind_same, opens_any, opened_at, used_first}
use Rattle.tl_parse.proofs.Following.{sign_then, open_then, then, either_is, behind_then, behind_give, optional_agrees}
use Rattle.tl_parse.proofs.Turns.{used_here, used_use}
use Rattle.tl_parse.proofs.TerraAgreeing.{terra_name_agrees, terra_unary_agrees, terra_expression_agrees}
use Rattle.tl_parse.specs.Views.Lists.{element_at, more_elements_at, elements_at, expressions_at, expressions_behind_at}
use Rattle.tl_parse.specs.Views.Statements.{arm_at, arms_at, initial_values_at, loop_at, more_arms_at, otherwise_at, returned_values_at}
use Rattle.tl_parse.specs.Views.Statements.{Numeric, numeric, numeric_at}
use Rattle.tl_parse.specs.Views.Codes.{expression_of, expression_behind_at, optional_expression_at, code_of}
use Rattle.tl_parse.specs.declared.parser.Code.TheVariants as codes
use Rattle.tl_parse.specs.declared.parser.Element.TheVariants as elements
use Rattle.tl_parse.specs.declared.parser.BlockCode.{BlockCode}
use Rattle.tl_parse.specs.declared.parser.BlockCode.TheVariants as block_codes

-- ---- one form after the other

-- what is read, and then goes on
pub after : {A B C : Type 0} (o : Outcome A) (k : A → List Token → Outcome B) (f : B → List Token → Outcome C) (m : A → List Token → Outcome C) → ((a : A) (us : List Token) → (k a us >>= λ b vs. f b vs) ≡ m a us) → ((o >>= λ a us. k a us) >>= λ b vs. f b vs) ≡ (o >>= λ a us. m a us)
after o k f m same = bind_again o (λ a us. k a us) (λ b vs. f b vs) ∙ bind_same o (λ a us. k a us >>= λ b vs. f b vs) (λ a us. m a us) same

-- a value that is made of what is read
pub then_give : {A B : Type 0} (levels : ℕ) (g : Grammar A) (make : A → B) (g_at : List Token → Outcome A) → ((us : List Token) → reading levels g us ≡ g_at us) → (ts : List Token) → reading levels (bind g λ e. give (make e)) ts ≡ (g_at ts >>= λ e rest. Took (make e) rest)
then_give {A} levels g make g_at same ts = ap (λ (o : Outcome A). o >>= λ e rest. Took (make e) rest) (same ts)

pub sign_give : {A : Type 0} (levels : ℕ) (s : Symbol) (v : A) (ts : List Token) → reading levels (bind (sign s) λ y. give v) ts ≡ (sign_at s ts >>= λ y rest. Took v rest)
sign_give levels s v ts = sign_then levels s (λ y. give v) (λ y rest. Took v rest) (λ y us. refl) ts

-- ---- parts of statements

pub written_type_agrees : (levels : ℕ) (ts : List Token) → reading levels terra.written_type ts ≡ written_type_at levels ts
written_type_agrees levels ts = optional_agrees levels symbols.Colon (codes.Lua modes.Types) ts

pub terra_loop_agrees : (levels : ℕ) (ts : List Token) → reading levels terra.terra_loop ts ≡ loop_at levels block_codes.Terra ts
unfolding loop_at
terra_loop_agrees levels ts =
    open_then levels symbols.Do TerraStatements (λ x. bind (sign symbols.End) λ y. give x.1) (λ t x us. sign_at symbols.End us >>= λ y rest. Took x rest) (λ t x us. sign_give levels symbols.End x us) ts

pub terra_arm_agrees : (levels : ℕ) (a : Tree) (ts : List Token) → reading levels (terra.terra_arm a) ts ≡ (arm_at levels block_codes.Terra ts >>= λ e rest. Took (More a e) rest)
unfolding arm_at
terra_arm_agrees levels a ts =
    then levels expressions.terra_expression (λ e. bind (opening symbols.Then TerraStatements) λ x. give (More a (Arm e x.1))) (λ us. part_at levels TerraExpression us)
    (λ e us. open_at symbols.Then levels us >>= λ t b. part_at (levels - 1) TerraStatements b >>= λ x rest. Took (More a (Arm e x)) rest) (λ us. terra_expression_agrees levels us)
    (λ e us. open_then levels symbols.Then TerraStatements (λ x. give (More a (Arm e x.1))) (λ t x rest. Took (More a (Arm e x)) rest) (λ t x vs. refl) us) ts
    ∙ sym (after (part_at levels TerraExpression ts) (λ e us. open_at symbols.Then levels us >>= λ t b. part_at (levels - 1) TerraStatements b >>= λ x rest. Took (Arm e x) rest) (λ e rest. Took (More a e) rest)
    (λ e us. open_at symbols.Then levels us >>= λ t b. part_at (levels - 1) TerraStatements b >>= λ x rest. Took (More a (Arm e x)) rest)
    (λ e us. after (open_at symbols.Then levels us) (λ t b. part_at (levels - 1) TerraStatements b >>= λ x rest. Took (Arm e x) rest) (λ e rest. Took (More a e) rest) (λ t b. part_at (levels - 1) TerraStatements b >>= λ x rest. Took (More a (Arm e x)) rest)
    (λ t vs. bind_again (part_at (levels - 1) TerraStatements vs) (λ x rest. Took (Arm e x) rest) (λ e rest. Took (More a e) rest))))

pub terra_otherwise_agrees : (levels : ℕ) (ts : List Token) → reading levels terra.terra_otherwise ts ≡ otherwise_at levels block_codes.Terra ts
unfolding otherwise_at
terra_otherwise_agrees levels ts =
    either_is (begins (is symbols.Else) ts) (reading levels (bind (opening symbols.Else TerraStatements) λ x. give (Just x.1)) ts) (Took Nothing ts) (open_at symbols.Else levels ts >>= λ t a. part_at (levels - 1) TerraStatements a >>= λ x rest. Took (Just x) rest) (Took Nothing ts)
    (open_then levels symbols.Else TerraStatements (λ x. give (Just x.1)) (λ t x rest. Took (Just x) rest) (λ t x us. refl) ts) refl

-- what both languages have behind `for` and a name
pub numeric_then : (levels : ℕ) (block : BlockCode) (step loop : Grammar Tree) (make : Tree → Tree → Tree → Tree → Tree) → ((us : List Token) → reading levels step us ≡ optional_expression_at levels symbols.Comma (code_of block) us) → ((us : List Token) → reading levels loop us ≡ loop_at levels block us) → (ts : List Token) →
    reading levels (bind (sign symbols.Equal) λ y. bind (expression_of (code_of block)) λ a. bind (sign symbols.Comma) λ z. bind (expression_of (code_of block)) λ b. bind step λ s. bind loop λ x. give (make a b s x)) ts
    ≡ (numeric_at levels block ts >>= λ r rest. Took (make r.from r.limit r.step r.block) rest)
unfolding numeric_at
numeric_then levels block step loop make step_is loop_is ts =
    behind_then levels symbols.Equal (code_of block) (λ a. bind (sign symbols.Comma) λ z. bind (expression_of (code_of block)) λ b. bind step λ s. bind loop λ x. give (make a b s x)) limited
    (λ a us. behind_then levels symbols.Comma (code_of block) (λ b. bind step λ s. bind loop λ x. give (make a b s x)) (λ b vs. stepped a b vs)
    (λ b vs. then levels step (λ s. bind loop λ x. give (make a b s x)) (λ ws. optional_expression_at levels symbols.Comma (code_of block) ws) (λ s ws. loops a b s ws) step_is
    (λ s ws. then_give levels loop (λ x. make a b s x) (λ us. loop_at levels block us) loop_is ws) vs) us) ts
    ∙ sym (after (expression_behind_at levels symbols.Equal (code_of block) ts) _ made limited (λ a us. after (expression_behind_at levels symbols.Comma (code_of block) us) _ made (λ b vs. stepped a b vs)
    (λ b vs. after (optional_expression_at levels symbols.Comma (code_of block) vs) _ made (λ s ws. loops a b s ws) (λ s ws. bind_again (loop_at levels block ws) (λ x rest. Took (numeric a b s x) rest) made))))
  where
    made : Numeric → List Token → Outcome Tree
    made r rest = Took (make r.from r.limit r.step r.block) rest

    loops : Tree → Tree → Tree → List Token → Outcome Tree
    loops a b s ws = loop_at levels block ws >>= λ x rest. Took (make a b s x) rest

    stepped : Tree → Tree → List Token → Outcome Tree
    stepped a b vs = optional_expression_at levels symbols.Comma (code_of block) vs >>= λ s ws. loops a b s ws

    limited : Tree → List Token → Outcome Tree
    limited a us = expression_behind_at levels symbols.Comma (code_of block) us >>= λ b vs. stepped a b vs

bracket_none : {A : Type 0} (levels : ℕ) (h : Place → Tree → Grammar A) (k : Place → Tree → List Token → Outcome A) →
    reading levels (expressions.escaped h) [] ≡ (escape_at levels [] >>= λ n rest. k (first_place []) n rest)
unfolding escape_at open_at used
bracket_none levels h k = refl

-- a name that Lua code gives, with its place
bracket_agrees : {A : Type 0} (levels : ℕ) (h : Place → Tree → Grammar A) (k : Place → Tree → List Token → Outcome A) → ((place : Place) (n : Tree) (us : List Token) → reading levels (h place n) us ≡ k place n us) → (ts : List Token) →
    reading levels (expressions.escaped h) ts ≡ (escape_at levels ts >>= λ n rest. k (first_place ts) n rest)
unfolding escape_at open_at
bracket_agrees levels h k same [] = bracket_none levels h k
bracket_agrees {A} levels h k same (t ∷ ts) =
    open_then levels symbols.OpenBracket (Expression modes.Plain) (λ x. bind (sign symbols.CloseBracket) λ y. h x.0.place (Escape x.0.place x.1)) (λ u x us. closed u.place u x us)
    (λ u x us. sign_then levels symbols.CloseBracket (λ y. h u.place (Escape u.place x)) (λ y rest. k u.place (Escape u.place x) rest) (λ y vs. same u.place (Escape u.place x) vs) us) (t ∷ ts)
    ∙ sym (used_first (is symbols.OpenBracket) true levels Plain t ts (λ v u mid. part_at (levels - 1) (Expression modes.Plain) mid >>= λ x us. closed v.place u x us))
    ∙ sym (after (open_at symbols.OpenBracket levels (t ∷ ts)) (λ u a. part_at (levels - 1) (Expression modes.Plain) a >>= λ x b. sign_at symbols.CloseBracket b >>= λ y rest. Took (Escape u.place x) rest) (λ n rest. k t.place n rest)
    (λ u mid. part_at (levels - 1) (Expression modes.Plain) mid >>= λ x us. closed t.place u x us)
    (λ u mid. after (part_at (levels - 1) (Expression modes.Plain) mid) (λ x b. sign_at symbols.CloseBracket b >>= λ y rest. Took (Escape u.place x) rest) (λ n rest. k t.place n rest) (λ x us. closed t.place u x us)
    (λ x us. bind_again (sign_at symbols.CloseBracket us) (λ y rest. Took (Escape u.place x) rest) (λ n rest. k t.place n rest))))
  where
    closed : Place → Token → Tree → List Token → Outcome A
    closed place u x us = sign_at symbols.CloseBracket us >>= λ y rest. k place (Escape u.place x) rest

-- a name of either kind, and what goes on with it and its place
placed_then : {A : Type 0} (levels : ℕ) (h h' : Place → Tree → Grammar A) (k : Bool → Place → Tree → List Token → Outcome A) → ((place : Place) (n : Tree) (us : List Token) → reading levels (h place n) us ≡ k true place n us) → ((place : Place) (n : Tree) (us : List Token) → reading levels (h' place n) us ≡ k false place n us) → (b : Bool) (ts : List Token) →
    cond b (reading levels (expressions.escaped h) ts) (reading levels (named h') ts)
    ≡ (cond b (escape_at levels ts >>= λ n rest. Took (placed_name (first_place ts) n) rest) (sign_at symbols.Name ts >>= λ n rest. Took (placed_name n.place (Name n.place n.offset n.text)) rest) >>= λ p rest. k b p.place p.name rest)
placed_then levels h h' k same same' true ts =
    bracket_agrees levels h (λ place n us. k true place n us) same ts
    ∙ sym (bind_again (escape_at levels ts) (λ n rest. Took (placed_name (first_place ts) n) rest) (λ p rest. k true p.place p.name rest))
placed_then levels h h' k same same' false ts =
    sign_then levels symbols.Name (λ n. h' n.0.place (Name n.0.place n.0.offset n.0.text)) (λ n rest. k false n.place (Name n.place n.offset n.text) rest) (λ n us. same' n.place (Name n.place n.offset n.text) us) ts
    ∙ sym (bind_again (sign_at symbols.Name ts) (λ n rest. Took (placed_name n.place (Name n.place n.offset n.text)) rest) (λ p rest. k false p.place p.name rest))

variable_behind_agrees : (levels : ℕ) (place : Place) (n : Tree) (ts : List Token) → reading levels (terra.variable_behind place n) ts ≡ (written_type_at levels ts >>= λ e rest. Took (Variable place n e) rest)
variable_behind_agrees levels place n ts = then_give levels terra.written_type (λ e. Variable place n e) (λ vs. written_type_at levels vs) (λ vs. written_type_agrees levels vs) ts

pub terra_variable_agrees : (levels : ℕ) (ts : List Token) → reading levels terra.terra_variable ts ≡ terra_variable_at levels ts
unfolding terra_variable_at placed_name_at
terra_variable_agrees levels ts =
    placed_then levels terra.variable_behind terra.variable_behind (λ b place n us. written_type_at levels us >>= λ e rest. Took (Variable place n e) rest)
    (λ place n us. variable_behind_agrees levels place n us) (λ place n us. variable_behind_agrees levels place n us) (begins (is symbols.OpenBracket) ts) ts

pub terra_variables_agree : (levels : ℕ) (ts : List Token) → reading levels (listed terra.terra_variable) ts ≡ elements_at levels elements.TerraVariable ts
unfolding elements_at element_at more_elements_at
terra_variables_agree levels ts = refl

pub terra_expressions_agree : (levels : ℕ) (ts : List Token) → reading levels expressions.terra_expressions ts ≡ expressions_at levels codes.Terra ts
unfolding elements_at element_at more_elements_at
terra_expressions_agree levels ts = refl

pub terra_initial_values_agree : (levels : ℕ) (ts : List Token) → reading levels terra.terra_initial_values ts ≡ initial_values_at levels codes.Terra ts
unfolding initial_values_at expressions_behind_at
terra_initial_values_agree levels ts =
    either_is (begins (is symbols.Equal) ts) (reading levels (bind (sign symbols.Equal) λ y. expressions.terra_expressions) ts) (Took Nothing ts) (sign_at symbols.Equal ts >>= λ y a. expressions_at levels codes.Terra a) (Took Nothing ts)
    (sign_then levels symbols.Equal (λ y. expressions.terra_expressions) (λ y a. expressions_at levels codes.Terra a) (λ y us. terra_expressions_agree levels us) ts) refl

pub terra_returned_values_agree : (levels : ℕ) (ts : List Token) → reading levels terra.terra_returned_values ts ≡ returned_values_at levels codes.Terra ts
unfolding returned_values_at
terra_returned_values_agree levels ts =
    either_is (begins (among terra.terra_expression_symbols) ts) (reading levels expressions.terra_expressions ts) (Took Nothing ts) (expressions_at levels codes.Terra ts) (Took Nothing ts) (terra_expressions_agree levels ts) refl

-- ---- functions and quotes

pub terra_parameter_agrees : (levels : ℕ) (ts : List Token) → reading levels terra.terra_parameter ts ≡ terra_parameter_at levels ts
unfolding terra_parameter_at placed_name_at
terra_parameter_agrees levels ts =
    placed_then levels (λ place n. give (SpliceParameter place n)) (λ place n. bind (sign symbols.Colon) λ y. bind terra.terra_type λ e. give (Parameter place n e))
    (λ b place n us. cond b (Took (SpliceParameter place n) us) (expression_behind_at levels symbols.Colon (codes.Lua modes.Types) us >>= λ e rest. Took (Parameter place n e) rest))
    (λ place n us. refl) (λ place n us. behind_give levels symbols.Colon (codes.Lua modes.Types) (λ e. Parameter place n e) us) (begins (is symbols.OpenBracket) ts) ts

pub terra_parameters_agree : (levels : ℕ) (ts : List Token) → reading levels terra.terra_parameters ts ≡ terra_parameters_at levels ts
unfolding terra_parameters_at elements_at element_at more_elements_at
terra_parameters_agree levels ts = refl

-- ---- assignments, calls and splices

pub terra_assignment_agrees : (levels : ℕ) (t : Token) (e : Tree) (ts : List Token) → reading levels (terra.terra_assignment t e) ts ≡ terra_assignment_at levels t.place (More Nothing e) ts
unfolding terra_assignment_at more_elements_at expressions_behind_at
terra_assignment_agrees levels t e ts =
    then levels (listed_behind expressions.terra_expression (More Nothing e)) (λ targets. bind (sign symbols.Equal) λ y. bind expressions.terra_expressions λ es. give (TerraAssign t.place targets es)) (λ us. more_elements_at levels (elements.Expression codes.Terra) (More Nothing e) us)
    (λ targets a. expressions_behind_at levels symbols.Equal codes.Terra a >>= λ es rest. Took (TerraAssign t.place targets es) rest) (λ us. refl) (λ targets us. values_agree t.place targets us) ts
  where
    values_agree : (place : Place) (targets : Tree) (us : List Token) →
        reading levels (bind (sign symbols.Equal) λ y. bind expressions.terra_expressions λ es. give (TerraAssign place targets es)) us ≡ (expressions_behind_at levels symbols.Equal codes.Terra us >>= λ es rest. Took (TerraAssign place targets es) rest)
    values_agree place targets us =
        sign_then levels symbols.Equal (λ y. bind expressions.terra_expressions λ es. give (TerraAssign place targets es)) (λ y b. expressions_at levels codes.Terra b >>= λ es rest. Took (TerraAssign place targets es) rest)
        (λ y vs. then_give levels expressions.terra_expressions (λ es. TerraAssign place targets es) (λ ws. expressions_at levels codes.Terra ws) (λ ws. terra_expressions_agree levels ws) vs) us
        ∙ sym (bind_again (sign_at symbols.Equal us) (λ y b. expressions_at levels codes.Terra b) (λ es rest. Took (TerraAssign place targets es) rest))

splice_or : (b : Bool) (x y z : Outcome Tree) → x ≡ y → cond b x z ≡ cond (true && not b) z y
splice_or true x y z e = e
splice_or false x y z e = refl

simple_by : (levels : ℕ) (t : Token) (tree : Tree) (links : ℕ) (kind : OperandKind) (ts : List Token) → reading levels (terra.terra_simple_statement t kind tree) ts ≡ terra_statement_behind_at levels t.place (chained tree links kind) ts
simple_by levels t tree links operands.Call ts = refl
simple_by levels t tree links operands.Escape ts =
    splice_or (begins (among assignment_symbols) ts) (reading levels (terra.terra_assignment t tree) ts) (terra_assignment_at levels t.place (More Nothing tree) ts) (Took (Splice t.place tree) ts) (terra_assignment_agrees levels t tree ts)
simple_by levels t tree links operands.Name ts = terra_assignment_agrees levels t tree ts
simple_by levels t tree links operands.Variable ts = terra_assignment_agrees levels t tree ts
simple_by levels t tree links operands.Other ts = terra_assignment_agrees levels t tree ts

simple_behind_agrees : (levels : ℕ) (t : Token) (b : Chained) (ts : List Token) → reading levels (terra.terra_simple_behind t b) ts ≡ (terra_suffixes_at levels b ts >>= λ a rest. terra_statement_behind_at levels t.place a rest)
unfolding terra_suffixes_at
simple_behind_agrees levels t b ts =
    then levels (expressions.terra_suffixes b) (λ a. terra.terra_simple_statement t a.kind a.tree) (λ us. terra_suffixes_at levels b us) (λ a rest. terra_statement_behind_at levels t.place a rest) (λ us. refl) (λ a us. simple_by levels t a.tree a.links a.kind us) ts

-- ---- the first token of a statement

use_same : {A : Type 0} (b : Option SyntaxKind) (t : Token) (ts : List Token) (f g : Token → List Token → Outcome A) → f t ts ≡ g t ts → (used_here b t ts >>= λ u mid. f u mid) ≡ (used_here b t ts >>= λ u mid. g u mid)
use_same None t ts f g h = h
use_same (Some kind) t ts f g h = refl

sign_first : (s : Symbol) (t : Token) (ts : List Token) → is_of (is s) t ≡ true → sign_at s (t ∷ ts) ≡ Took t ts
unfolding sign_at
sign_first s t ts h = used_use (is s) false 0 Plain t ts h

open_first : (s : Symbol) (levels : ℕ) (t : Token) (ts : List Token) → is_of (is s) t ≡ true → open_at s levels (t ∷ ts) ≡ used_here (barred true levels Plain t) t ts
unfolding open_at
open_first s levels t ts h = used_use (is s) true levels Plain t ts h

-- a statement whose first token opens a part
pub opened_form : (levels : ℕ) (s : Symbol) (part : Part) (t : Token) (ts : List Token) (h : Tree → Grammar Tree) (k : Token → Tree → List Token → Outcome Tree) → is_of (is s) t ≡ true → ((x : Tree) (us : List Token) → reading levels (h x) us ≡ k t x us) →
    (used_here (barred true levels Plain t) t ts >>= λ u mid. part_at (levels - 1) part mid >>= λ x rest. reading levels (h x) rest) ≡ (open_at s levels (t ∷ ts) >>= λ u a. part_at (levels - 1) part a >>= λ x b. k u x b)
opened_form levels s part t ts h k first same =
    use_same (barred true levels Plain t) t ts (λ u mid. part_at (levels - 1) part mid >>= λ x rest. reading levels (h x) rest) (λ u a. part_at (levels - 1) part a >>= λ x b. k u x b)
    (bind_same (part_at (levels - 1) part ts) (λ x rest. reading levels (h x) rest) (λ x b. k t x b) same)
    ∙ ap (λ (o : Outcome Token). o >>= λ u a. part_at (levels - 1) part a >>= λ x b. k u x b) (sym (open_first s levels t ts first))

-- a statement whose first token opens none
pub signed_form : (levels : ℕ) (s : Symbol) (t : Token) (ts : List Token) (g : Grammar Tree) (k : Token → List Token → Outcome Tree) → is_of (is s) t ≡ true → reading levels g ts ≡ k t ts → reading levels g ts ≡ (sign_at s (t ∷ ts) >>= λ u a. k u a)
signed_form levels s t ts g k first same = same ∙ ap (λ (o : Outcome Token). o >>= λ u a. k u a) (sym (sign_first s t ts first))

-- ---- statements that a word begins

do_is : (levels : ℕ) (t : Token) (ts : List Token) → is_of (is symbols.Do) t ≡ true → (used_here (barred true levels Plain t) t ts >>= λ u mid. part_at (levels - 1) TerraStatements mid >>= λ x rest. reading levels (terra.terra_statement terra.FromDo t x) rest) ≡ do_at levels block_codes.Terra (t ∷ ts)
unfolding do_at
do_is levels t ts h =
    opened_form levels symbols.Do TerraStatements t ts (λ x. terra.terra_statement terra.FromDo t x) (λ u x b. sign_at symbols.End b >>= λ y rest. Took (TerraDo u.place x) rest) h (λ x us. sign_give levels symbols.End (TerraDo t.place x) us)

repeat_is : (levels : ℕ) (t : Token) (ts : List Token) → is_of (is symbols.Repeat) t ≡ true → (used_here (barred true levels Plain t) t ts >>= λ u mid. part_at (levels - 1) TerraStatements mid >>= λ x rest. reading levels (terra.terra_statement terra.FromRepeat t x) rest) ≡ repeat_at levels block_codes.Terra (t ∷ ts)
unfolding repeat_at
repeat_is levels t ts h =
    opened_form levels symbols.Repeat TerraStatements t ts (λ x. terra.terra_statement terra.FromRepeat t x) (λ u x b. expression_behind_at levels symbols.Until codes.Terra b >>= λ e rest. Took (TerraRepeat u.place x e) rest) h
    (λ x us. behind_give levels symbols.Until codes.Terra (λ e. TerraRepeat t.place x e) us)

escape_is : (levels : ℕ) (t : Token) (ts : List Token) → is_of (is symbols.Escape) t ≡ true → (used_here (barred true levels Plain t) t ts >>= λ u mid. part_at (levels - 1) (Statements terra.emitting) mid >>= λ x rest. reading levels (terra.terra_statement terra.FromEscape t x) rest) ≡ escape_block_at levels (t ∷ ts)
unfolding escape_block_at
escape_is levels t ts h =
    opened_form levels symbols.Escape (Statements terra.emitting) t ts (λ x. terra.terra_statement terra.FromEscape t x) (λ u x b. sign_at symbols.End b >>= λ y rest. Took (EscapeBlock u.place x) rest) h (λ x us. sign_give levels symbols.End (EscapeBlock t.place x) us)

while_is : (levels : ℕ) (t : Token) (ts : List Token) → is_of (is symbols.While) t ≡ true → reading levels (terra.terra_statement terra.FromWhile t Nothing) ts ≡ while_at levels block_codes.Terra (t ∷ ts)
unfolding while_at
while_is levels t ts h =
    signed_form levels symbols.While t ts (terra.terra_statement terra.FromWhile t Nothing) (λ u a. part_at levels TerraExpression a >>= λ e b. loop_at levels block_codes.Terra b >>= λ x rest. Took (TerraWhile u.place e x) rest) h
    (then levels expressions.terra_expression (λ e. bind terra.terra_loop λ b. give (TerraWhile t.place e b)) (λ us. part_at levels TerraExpression us) (λ e b. loop_at levels block_codes.Terra b >>= λ x rest. Took (TerraWhile t.place e x) rest) (λ us. terra_expression_agrees levels us)
    (λ e us. then_give levels terra.terra_loop (λ b. TerraWhile t.place e b) (λ vs. loop_at levels block_codes.Terra vs) (λ vs. terra_loop_agrees levels vs) us) ts)

-- arms, and what is behind them
arms_then : (levels : ℕ) (h : Tree → Grammar Tree) (k : Tree → List Token → Outcome Tree) → ((all : Tree) (us : List Token) → reading levels (h all) us ≡ k all us) → (ts : List Token) →
    reading levels (bind (terra.terra_arm Nothing) λ first. bind (terra.terra_arms first) λ all. h all) ts ≡ (arms_at levels block_codes.Terra ts >>= λ all b. k all b)
unfolding arms_at more_arms_at
arms_then levels h k same ts =
    ap (λ (o : Outcome Tree). o >>= λ first mid. reading levels (bind (terra.terra_arms first) λ all. h all) mid) (terra_arm_agrees levels Nothing ts)
    ∙ bind_again (arm_at levels block_codes.Terra ts) (λ e rest. Took (More Nothing e) rest) (λ first mid. reading levels (bind (terra.terra_arms first) λ all. h all) mid)
    ∙ bind_same (arm_at levels block_codes.Terra ts) (λ e mid. reading levels (bind (terra.terra_arms (More Nothing e)) λ all. h all) mid) (λ e mid. more_arms_at levels block_codes.Terra (More Nothing e) mid >>= λ all b. k all b)
    (λ e us. then levels (terra.terra_arms (More Nothing e)) (λ all. h all) (λ vs. more_arms_at levels block_codes.Terra (More Nothing e) vs) (λ all b. k all b) (λ vs. refl) same us)
    ∙ sym (bind_again (arm_at levels block_codes.Terra ts) (λ e rest. more_arms_at levels block_codes.Terra (More Nothing e) rest) (λ all b. k all b))

if_is : (levels : ℕ) (t : Token) (ts : List Token) → is_of (is symbols.If) t ≡ true → reading levels (terra.terra_statement terra.FromIf t Nothing) ts ≡ if_at levels block_codes.Terra (t ∷ ts)
unfolding if_at
if_is levels t ts h =
    signed_form levels symbols.If t ts (terra.terra_statement terra.FromIf t Nothing) (λ u a. arms_at levels block_codes.Terra a >>= λ all b. otherwise_at levels block_codes.Terra b >>= λ o d. sign_at symbols.End d >>= λ y rest. Took (TerraIf u.place all o) rest) h
    (arms_then levels (λ all. bind terra.terra_otherwise λ o. bind (sign symbols.End) λ y. give (TerraIf t.place all o)) (λ all b. otherwise_at levels block_codes.Terra b >>= λ o d. sign_at symbols.End d >>= λ y rest. Took (TerraIf t.place all o) rest)
    (λ all us. then levels terra.terra_otherwise (λ o. bind (sign symbols.End) λ y. give (TerraIf t.place all o)) (λ vs. otherwise_at levels block_codes.Terra vs) (λ o d. sign_at symbols.End d >>= λ y rest. Took (TerraIf t.place all o) rest) (λ vs. terra_otherwise_agrees levels vs)
    (λ o vs. sign_give levels symbols.End (TerraIf t.place all o) vs) us) ts)

for_is : (levels : ℕ) (t : Token) (ts : List Token) → is_of (is symbols.For) t ≡ true → reading levels (terra.terra_statement terra.FromFor t Nothing) ts ≡ terra_for_at levels (t ∷ ts)
unfolding terra_for_at
for_is levels t ts h =
    signed_form levels symbols.For t ts (terra.terra_statement terra.FromFor t Nothing) (λ u a. terra_name_at levels a >>= λ n b. numeric_at levels block_codes.Terra b >>= λ r rest. Took (TerraFor u.place n r.from r.limit r.step r.block) rest) h
    (then levels expressions.terra_name (λ n. bind (sign symbols.Equal) λ y. bind expressions.terra_expression λ a. bind (sign symbols.Comma) λ z. bind expressions.terra_expression λ b. bind terra.terra_step λ s. bind terra.terra_loop λ d. give (TerraFor t.place n a b s d)) (λ us. terra_name_at levels us)
    (λ n b. numeric_at levels block_codes.Terra b >>= λ r rest. Took (TerraFor t.place n r.from r.limit r.step r.block) rest) (λ us. terra_name_agrees levels us)
    (λ n us. numeric_then levels block_codes.Terra terra.terra_step terra.terra_loop (λ a b s x. TerraFor t.place n a b s x) (λ vs. optional_agrees levels symbols.Comma codes.Terra vs) (λ vs. terra_loop_agrees levels vs) us) ts)

var_is : (levels : ℕ) (t : Token) (ts : List Token) → is_of (is symbols.Var) t ≡ true → reading levels (terra.terra_statement terra.FromVar t Nothing) ts ≡ terra_var_at levels (t ∷ ts)
unfolding terra_var_at
var_is levels t ts h =
    signed_form levels symbols.Var t ts (terra.terra_statement terra.FromVar t Nothing) (λ u a. elements_at levels elements.TerraVariable a >>= λ vs b. initial_values_at levels codes.Terra b >>= λ es rest. Took (Var u.place vs es) rest) h
    (then levels (listed terra.terra_variable) (λ vs. bind terra.terra_initial_values λ es. give (Var t.place vs es)) (λ us. elements_at levels elements.TerraVariable us) (λ vs b. initial_values_at levels codes.Terra b >>= λ es rest. Took (Var t.place vs es) rest) (λ us. terra_variables_agree levels us)
    (λ vs us. then_give levels terra.terra_initial_values (λ es. Var t.place vs es) (λ ws. initial_values_at levels codes.Terra ws) (λ ws. terra_initial_values_agree levels ws) us) ts)

return_is : (levels : ℕ) (t : Token) (ts : List Token) → is_of (is symbols.Return) t ≡ true → reading levels (terra.terra_statement terra.FromReturn t Nothing) ts ≡ return_at levels block_codes.Terra (t ∷ ts)
unfolding return_at
return_is levels t ts h =
    signed_form levels symbols.Return t ts (terra.terra_statement terra.FromReturn t Nothing) (λ u a. returned_values_at levels codes.Terra a >>= λ es rest. Took (TerraReturn u.place es) rest) h
    (then_give levels terra.terra_returned_values (λ es. TerraReturn t.place es) (λ us. returned_values_at levels codes.Terra us) (λ us. terra_returned_values_agree levels us) ts)

break_is : (levels : ℕ) (t : Token) (ts : List Token) → is_of (is symbols.Break) t ≡ true → reading levels (terra.terra_statement terra.FromBreak t Nothing) ts ≡ terra_break_at (t ∷ ts)
unfolding terra_break_at
break_is levels t ts h = signed_form levels symbols.Break t ts (terra.terra_statement terra.FromBreak t Nothing) (λ u rest. Took (TerraBreak u.place) rest) h refl

-- ---- assignments, calls and splices, by their first token

name_is : (levels : ℕ) (t : Token) (ts : List Token) → is_of (is symbols.Name) t ≡ true → begins (is symbols.At) (t ∷ ts) ≡ false → begins (is symbols.OpenParen) (t ∷ ts) ≡ false → begins (is symbols.OpenBracket) (t ∷ ts) ≡ false →
    reading levels (terra.terra_statement terra.FromName t Nothing) ts ≡ terra_simple_statement_at levels (t ∷ ts)
unfolding terra_simple_statement_at terra_target_at terra_applied_at terra_base_at name_at
name_is levels t ts h no_at no_paren no_bracket =
    simple_behind_agrees levels t (chained (Name t.place t.offset t.text) chain operands.Name) ts
    ∙ sym (ap (λ (b : Bool). cond b (part_at levels TerraExpression (t ∷ ts) >>= λ e rest. Took (chained e chain operands.Other) rest) (cond (begins (is symbols.OpenParen) (t ∷ ts)) (terra_paren_at levels (t ∷ ts)) (cond (begins (is symbols.OpenBracket) (t ∷ ts)) bracket named) >>= λ b rest. terra_suffixes_at levels b rest) >>= λ a rest. terra_statement_behind_at levels t.place a rest) no_at
    ∙ ap (λ (b : Bool). (cond b (terra_paren_at levels (t ∷ ts)) (cond (begins (is symbols.OpenBracket) (t ∷ ts)) bracket named) >>= λ b rest. terra_suffixes_at levels b rest) >>= λ a rest. terra_statement_behind_at levels t.place a rest) no_paren
    ∙ ap (λ (b : Bool). (cond b bracket named >>= λ b rest. terra_suffixes_at levels b rest) >>= λ a rest. terra_statement_behind_at levels t.place a rest) no_bracket
    ∙ ap (λ (o : Outcome Token). (((o >>= λ t rest. Took (Name t.place t.offset t.text) rest) >>= λ n rest. Took (chained n chain operands.Name) rest) >>= λ b rest. terra_suffixes_at levels b rest) >>= λ a rest. terra_statement_behind_at levels t.place a rest) (sign_first symbols.Name t ts h))
  where
    bracket : Outcome Chained
    bracket = escape_at levels (t ∷ ts) >>= λ e rest. Took (chained e chain operands.Escape) rest

    named : Outcome Chained
    named = name_at (t ∷ ts) >>= λ n rest. Took (chained n chain operands.Name) rest

-- a part and a sign behind it make the first part of a statement
enclosed : (levels : ℕ) (opener closer : Symbol) (part : Part) (t : Token) (ts : List Token) (make : Place → Tree → Tree) (kind : OperandKind) → is_of (is opener) t ≡ true →
    (used_here (barred true levels Plain t) t ts >>= λ u mid. part_at (levels - 1) part mid >>= λ x rest. reading levels (bind (sign closer) λ y. terra.terra_simple_behind t (chained (make t.place x) chain kind)) rest)
    ≡ (((open_at opener levels (t ∷ ts) >>= λ u a. part_at (levels - 1) part a >>= λ x b. sign_at closer b >>= λ y rest. Took (chained (make u.place x) chain kind) rest) >>= λ b rest. terra_suffixes_at levels b rest) >>= λ a rest. terra_statement_behind_at levels t.place a rest)
enclosed levels opener closer part t ts make kind h =
    opened_form levels opener part t ts (λ x. bind (sign closer) λ y. terra.terra_simple_behind t (chained (make t.place x) chain kind)) (λ u x b. sign_at closer b >>= λ y rest. behind (chained (make u.place x) chain kind) rest) h
    (λ x us. sign_then levels closer (λ y. terra.terra_simple_behind t (chained (make t.place x) chain kind)) (λ y rest. behind (chained (make t.place x) chain kind) rest) (λ y vs. simple_behind_agrees levels t (chained (make t.place x) chain kind) vs) us)
    ∙ sym (bind_again (open_at opener levels (t ∷ ts) >>= λ u a. part_at (levels - 1) part a >>= λ x b. sign_at closer b >>= λ y rest. Took (chained (make u.place x) chain kind) rest) (λ b rest. terra_suffixes_at levels b rest) (λ a rest. terra_statement_behind_at levels t.place a rest)
    ∙ after (open_at opener levels (t ∷ ts)) (λ u a. part_at (levels - 1) part a >>= λ x b. sign_at closer b >>= λ y rest. Took (chained (make u.place x) chain kind) rest) (λ b rest. behind b rest) (λ u a. part_at (levels - 1) part a >>= λ x b. sign_at closer b >>= λ y rest. behind (chained (make u.place x) chain kind) rest)
    (λ u us. after (part_at (levels - 1) part us) (λ x b. sign_at closer b >>= λ y rest. Took (chained (make u.place x) chain kind) rest) (λ b rest. behind b rest) (λ x b. sign_at closer b >>= λ y rest. behind (chained (make u.place x) chain kind) rest)
    (λ x vs. bind_again (sign_at closer vs) (λ y rest. Took (chained (make u.place x) chain kind) rest) (λ b rest. behind b rest))))
  where
    behind : Chained → List Token → Outcome Tree
    behind b rest = terra_suffixes_at levels b rest >>= λ a next. terra_statement_behind_at levels t.place a next

paren_is : (levels : ℕ) (t : Token) (ts : List Token) → is_of (is symbols.OpenParen) t ≡ true → begins (is symbols.At) (t ∷ ts) ≡ false →
    (used_here (barred true levels Plain t) t ts >>= λ u mid. part_at (levels - 1) TerraExpression mid >>= λ x rest. reading levels (terra.terra_statement terra.FromParen t x) rest) ≡ terra_simple_statement_at levels (t ∷ ts)
unfolding terra_simple_statement_at terra_target_at terra_applied_at terra_base_at terra_paren_at
paren_is levels t ts h no_at =
    enclosed levels symbols.OpenParen symbols.CloseParen TerraExpression t ts (λ p x. TerraParen p x) operands.Other h
    ∙ sym (ap (λ (b : Bool). cond b (part_at levels TerraExpression (t ∷ ts) >>= λ e rest. Took (chained e chain operands.Other) rest) (cond (begins (is symbols.OpenParen) (t ∷ ts)) inner other >>= λ b rest. terra_suffixes_at levels b rest) >>= λ a rest. terra_statement_behind_at levels t.place a rest) no_at
    ∙ ap (λ (b : Bool). (cond b inner other >>= λ b rest. terra_suffixes_at levels b rest) >>= λ a rest. terra_statement_behind_at levels t.place a rest) h)
  where
    inner : Outcome Chained
    inner = open_at symbols.OpenParen levels (t ∷ ts) >>= λ u a. part_at (levels - 1) TerraExpression a >>= λ x b. sign_at symbols.CloseParen b >>= λ y rest. Took (chained (TerraParen u.place x) chain operands.Other) rest

    other : Outcome Chained
    other = cond (begins (is symbols.OpenBracket) (t ∷ ts)) (escape_at levels (t ∷ ts) >>= λ e rest. Took (chained e chain operands.Escape) rest) (name_at (t ∷ ts) >>= λ n rest. Took (chained n chain operands.Name) rest)

-- what is made of an escape
escaped : (levels : ℕ) (ts : List Token) → (escape_at levels ts >>= λ e rest. Took (chained e chain operands.Escape) rest)
    ≡ (open_at symbols.OpenBracket levels ts >>= λ u a. part_at (levels - 1) (Expression modes.Plain) a >>= λ x b. sign_at symbols.CloseBracket b >>= λ y rest. Took (chained (Escape u.place x) chain operands.Escape) rest)
unfolding escape_at
escaped levels ts =
    after (open_at symbols.OpenBracket levels ts) (λ u a. part_at (levels - 1) (Expression modes.Plain) a >>= λ x b. sign_at symbols.CloseBracket b >>= λ y rest. Took (Escape u.place x) rest) (λ e rest. Took (chained e chain operands.Escape) rest)
    (λ u a. part_at (levels - 1) (Expression modes.Plain) a >>= λ x b. sign_at symbols.CloseBracket b >>= λ y rest. Took (chained (Escape u.place x) chain operands.Escape) rest)
    (λ u us. after (part_at (levels - 1) (Expression modes.Plain) us) (λ x b. sign_at symbols.CloseBracket b >>= λ y rest. Took (Escape u.place x) rest) (λ e rest. Took (chained e chain operands.Escape) rest) (λ x b. sign_at symbols.CloseBracket b >>= λ y rest. Took (chained (Escape u.place x) chain operands.Escape) rest)
    (λ x vs. bind_again (sign_at symbols.CloseBracket vs) (λ y rest. Took (Escape u.place x) rest) (λ e rest. Took (chained e chain operands.Escape) rest)))

bracket_is : (levels : ℕ) (t : Token) (ts : List Token) → is_of (is symbols.OpenBracket) t ≡ true → begins (is symbols.At) (t ∷ ts) ≡ false → begins (is symbols.OpenParen) (t ∷ ts) ≡ false →
    (used_here (barred true levels Plain t) t ts >>= λ u mid. part_at (levels - 1) (Expression modes.Plain) mid >>= λ x rest. reading levels (terra.terra_statement terra.FromBracket t x) rest) ≡ terra_simple_statement_at levels (t ∷ ts)
unfolding terra_simple_statement_at terra_target_at terra_applied_at terra_base_at
bracket_is levels t ts h no_at no_paren =
    enclosed levels symbols.OpenBracket symbols.CloseBracket (Expression modes.Plain) t ts (λ p x. Escape p x) operands.Escape h
    ∙ sym (ap (λ (b : Bool). cond b (part_at levels TerraExpression (t ∷ ts) >>= λ e rest. Took (chained e chain operands.Other) rest) (cond (begins (is symbols.OpenParen) (t ∷ ts)) (terra_paren_at levels (t ∷ ts)) (cond (begins (is symbols.OpenBracket) (t ∷ ts)) inner named) >>= λ b rest. terra_suffixes_at levels b rest) >>= λ a rest. terra_statement_behind_at levels t.place a rest) no_at
    ∙ ap (λ (b : Bool). (cond b (terra_paren_at levels (t ∷ ts)) (cond (begins (is symbols.OpenBracket) (t ∷ ts)) inner named) >>= λ b rest. terra_suffixes_at levels b rest) >>= λ a rest. terra_statement_behind_at levels t.place a rest) no_paren
    ∙ ap (λ (b : Bool). (cond b inner named >>= λ b rest. terra_suffixes_at levels b rest) >>= λ a rest. terra_statement_behind_at levels t.place a rest) h
    ∙ ap (λ (o : Outcome Chained). (o >>= λ b rest. terra_suffixes_at levels b rest) >>= λ a rest. terra_statement_behind_at levels t.place a rest) (escaped levels (t ∷ ts)))
  where
    inner : Outcome Chained
    inner = escape_at levels (t ∷ ts) >>= λ e rest. Took (chained e chain operands.Escape) rest

    named : Outcome Chained
    named = name_at (t ∷ ts) >>= λ n rest. Took (chained n chain operands.Name) rest

-- readings one after the other
chain_of_4 : (o : Outcome Chained) (f2 f3 f4 f5 : Chained → List Token → Outcome Chained) → ((((o >>= f2) >>= f3) >>= f4) >>= f5) ≡ (o >>= λ d r2. f2 d r2 >>= λ e r3. f3 e r3 >>= λ f r4. f4 f r4 >>= λ g r5. f5 g r5)
chain_of_4 (Stop kind rest) f2 f3 f4 f5 = refl
chain_of_4 (Took b r) f2 f3 f4 f5 = bind_again (f2 b r >>= f3) f4 f5 ∙ bind_again (f2 b r) f3 (λ f r4. f4 f r4 >>= f5)

chain_of : (o : Outcome Chained) (f1 f2 f3 f4 f5 : Chained → List Token → Outcome Chained) → (((((o >>= f1) >>= f2) >>= f3) >>= f4) >>= f5) ≡ (o >>= λ b r1. f1 b r1 >>= λ d r2. f2 d r2 >>= λ e r3. f3 e r3 >>= λ f r4. f4 f r4 >>= λ g r5. f5 g r5)
chain_of (Stop kind rest) f1 f2 f3 f4 f5 = refl
chain_of (Took b r) f1 f2 f3 f4 f5 = chain_of_4 (f1 b r) f2 f3 f4 f5

-- an expression whose first operand is read, and what is behind it
expression_from : (levels : ℕ) (ts : List Token) → reading levels (expressions.terra_disjunction chain) ts ≡ (reading levels (expressions.terra_unary chain) ts >>= λ a rest. reading levels (expressions.terra_expression_behind a) rest)
expression_from levels ts = go (reading levels (expressions.terra_unary chain) ts)
  where
    go : (o : Outcome Chained) →
        ((((((o >>= λ a r. reading levels (operators multiplicative (λ n. expressions.terra_unary n) expressions.terra_operation a) r)
        >>= λ a r. reading levels (operators additive (λ n. expressions.terra_product n) expressions.terra_operation a) r)
        >>= λ a r. reading levels (operators shifts (λ n. expressions.terra_sum n) expressions.terra_operation a) r)
        >>= λ a r. reading levels (operators comparisons (λ n. expressions.terra_shift n) expressions.terra_operation a) r)
        >>= λ a r. reading levels (operators (symbols.And ∷ []) (λ n. expressions.terra_comparison n) expressions.terra_operation a) r)
        >>= λ a r. reading levels (operators (symbols.Or ∷ []) (λ n. expressions.terra_conjunction n) expressions.terra_operation a) r)
        ≡ (o >>= λ a rest. reading levels (expressions.terra_expression_behind a) rest)
    go (Stop kind rest) = refl
    go (Took a mid) =
        let product : Outcome Chained = reading levels (operators multiplicative (λ n. expressions.terra_unary n) expressions.terra_operation a) mid in
        let add : Chained → List Token → Outcome Chained = λ a r. reading levels (operators additive (λ n. expressions.terra_product n) expressions.terra_operation a) r in
        let shift : Chained → List Token → Outcome Chained = λ a r. reading levels (operators shifts (λ n. expressions.terra_sum n) expressions.terra_operation a) r in
        let compare : Chained → List Token → Outcome Chained = λ a r. reading levels (operators comparisons (λ n. expressions.terra_shift n) expressions.terra_operation a) r in
        let both_of : Chained → List Token → Outcome Chained = λ a r. reading levels (operators (symbols.And ∷ []) (λ n. expressions.terra_comparison n) expressions.terra_operation a) r in
        let either_of : Chained → List Token → Outcome Chained = λ a r. reading levels (operators (symbols.Or ∷ []) (λ n. expressions.terra_conjunction n) expressions.terra_operation a) r in
        chain_of product add shift compare both_of either_of

-- an assignment whose first target begins with a prefix operator
at_behind : (levels : ℕ) (t : Token) (a : Chained) (ts : List Token) → reading levels (bind (expressions.terra_expression_behind a) λ c. terra.terra_assignment t c.tree) ts ≡ (reading levels (expressions.terra_expression_behind a) ts >>= λ c rest. terra_assignment_at levels t.place (More Nothing c.tree) rest)
at_behind levels t a ts =
    then levels (expressions.terra_expression_behind a) (λ c. terra.terra_assignment t c.tree) (λ us. reading levels (expressions.terra_expression_behind a) us) (λ c rest. terra_assignment_at levels t.place (More Nothing c.tree) rest) (λ us. refl) (λ c us. terra_assignment_agrees levels t c.tree us) ts

prefixed_first : (levels : ℕ) (t : Token) (ts : List Token) → is_of (among terra_prefix_symbols) t ≡ true →
    reading levels (expressions.terra_unary chain) (t ∷ ts) ≡ (used_here (barred true levels Plain t) t ts >>= λ u mid. part_at (levels - 1) TerraOperand mid >>= λ x rest. Took (operand chain (TerraUnary u.place (unary_of u.symbol) x)) rest)
unfolding terra_unary_at terra_prefixed_at prefix_at
prefixed_first levels t ts h =
    terra_unary_agrees levels chain (t ∷ ts)
    ∙ ap (λ (b : Bool). cond b (used (among terra_prefix_symbols) true levels Plain (t ∷ ts) >>= λ u mid. part_at (levels - 1) TerraOperand mid >>= λ x rest. Took (operand chain (TerraUnary u.place (unary_of u.symbol) x)) rest) (terra_binary_at levels precedences.Power chain (t ∷ ts))) h
    ∙ ap (λ (o : Outcome Token). o >>= λ u mid. part_at (levels - 1) TerraOperand mid >>= λ x rest. Took (operand chain (TerraUnary u.place (unary_of u.symbol) x)) rest) (used_use (among terra_prefix_symbols) true levels Plain t ts h)

at_is : (levels : ℕ) (t : Token) (ts : List Token) → is_of (is symbols.At) t ≡ true → is_of (among terra_prefix_symbols) t ≡ true → unary_of t.symbol ≡ unary.Dereference →
    (used_here (barred true levels Plain t) t ts >>= λ u mid. part_at (levels - 1) TerraOperand mid >>= λ x rest. reading levels (terra.terra_statement terra.FromAt t x) rest) ≡ terra_simple_statement_at levels (t ∷ ts)
unfolding terra_simple_statement_at terra_target_at
at_is levels t ts h is_prefix same_operator =
    use_same (barred true levels Plain t) t ts (λ u mid. part_at (levels - 1) TerraOperand mid >>= λ x rest. reading levels (terra.terra_statement terra.FromAt t x) rest) (λ u mid. part_at (levels - 1) TerraOperand mid >>= λ x rest. goes (operand chain (TerraUnary u.place (unary_of u.symbol) x)) rest)
    (bind_same (part_at (levels - 1) TerraOperand ts) (λ x rest. reading levels (terra.terra_statement terra.FromAt t x) rest) (λ x rest. goes (operand chain (TerraUnary t.place (unary_of t.symbol) x)) rest)
    (λ x us. at_behind levels t (operand chain (TerraUnary t.place unary.Dereference x)) us ∙ sym (ap (λ (o : UnaryOperator). goes (operand chain (TerraUnary t.place o x)) us) same_operator)))
    ∙ sym (ap (λ (b : Bool). cond b (part_at levels TerraExpression (t ∷ ts) >>= λ e rest. Took (chained e chain operands.Other) rest) (terra_applied_at levels (t ∷ ts)) >>= λ a rest. terra_statement_behind_at levels t.place a rest) h
    ∙ bind_again (part_at levels TerraExpression (t ∷ ts)) (λ e rest. Took (chained e chain operands.Other) rest) (λ a rest. terra_statement_behind_at levels t.place a rest)
    ∙ ap (λ (o : Outcome Tree). o >>= λ e rest. terra_assignment_at levels t.place (More Nothing e) rest) (sym (terra_expression_agrees levels (t ∷ ts)))
    ∙ bind_again (reading levels (expressions.terra_disjunction chain) (t ∷ ts)) (λ a rest. Took a.tree rest) (λ e rest. terra_assignment_at levels t.place (More Nothing e) rest)
    ∙ ap (λ (o : Outcome Chained). o >>= λ a rest. terra_assignment_at levels t.place (More Nothing a.tree) rest) (expression_from levels (t ∷ ts))
    ∙ bind_again (reading levels (expressions.terra_unary chain) (t ∷ ts)) (λ a rest. reading levels (expressions.terra_expression_behind a) rest) (λ a rest. terra_assignment_at levels t.place (More Nothing a.tree) rest)
    ∙ ap (λ (o : Outcome Chained). o >>= λ a rest. goes a rest) (prefixed_first levels t ts is_prefix)
    ∙ after (used_here (barred true levels Plain t) t ts) (λ u mid. part_at (levels - 1) TerraOperand mid >>= λ x rest. Took (operand chain (TerraUnary u.place (unary_of u.symbol) x)) rest) (λ a rest. goes a rest) (λ u mid. part_at (levels - 1) TerraOperand mid >>= λ x rest. goes (operand chain (TerraUnary u.place (unary_of u.symbol) x)) rest)
    (λ u us. bind_again (part_at (levels - 1) TerraOperand us) (λ x rest. Took (operand chain (TerraUnary u.place (unary_of u.symbol) x)) rest) (λ a rest. goes a rest)))
  where
    goes : Chained → List Token → Outcome Tree
    goes a rest = reading levels (expressions.terra_expression_behind a) rest >>= λ c next. terra_assignment_at levels t.place (More Nothing c.tree) next

-- ---- statements

-- what the first token of a statement opens
abbrev pub statement_opens : Symbol → Option Part
statement_opens s = terra.terra_statement_opens (terra.terra_statement_of s)

pub statement_by : (levels : ℕ) (symbol : Symbol) (text : List ℕ) (place : Place) (offset : ℕ) (first : Bool) (ts : List Token) → is_of (among terra.terra_statement_symbols) (record { symbol = symbol; text = text; place = place; offset = offset; first_on_line = first }) ≡ true →
    (let t : Token = record { symbol = symbol; text = text; place = place; offset = offset; first_on_line = first } in
    used_here (barred (opens_any (statement_opens t.symbol)) levels Plain t) t ts >>= λ u mid. opened_at levels (statement_opens t.symbol) mid >>= λ x rest. reading levels (terra.terra_statement (terra.terra_statement_of t.symbol) t x) rest)
    ≡ terra_statement_at levels (record { symbol = symbol; text = text; place = place; offset = offset; first_on_line = first } ∷ ts)
unfolding terra_statement_at
statement_by levels symbols.Name text place offset first ts h = name_is levels (record { symbol = symbols.Name; text = text; place = place; offset = offset; first_on_line = first }) ts refl refl refl refl
statement_by levels symbols.OpenParen text place offset first ts h = paren_is levels (record { symbol = symbols.OpenParen; text = text; place = place; offset = offset; first_on_line = first }) ts refl refl
statement_by levels symbols.OpenBracket text place offset first ts h = bracket_is levels (record { symbol = symbols.OpenBracket; text = text; place = place; offset = offset; first_on_line = first }) ts refl refl refl
statement_by levels symbols.At text place offset first ts h = at_is levels (record { symbol = symbols.At; text = text; place = place; offset = offset; first_on_line = first }) ts refl refl refl
statement_by levels symbols.Do text place offset first ts h = do_is levels (record { symbol = symbols.Do; text = text; place = place; offset = offset; first_on_line = first }) ts refl
statement_by levels symbols.While text place offset first ts h = while_is levels (record { symbol = symbols.While; text = text; place = place; offset = offset; first_on_line = first }) ts refl
statement_by levels symbols.Repeat text place offset first ts h = repeat_is levels (record { symbol = symbols.Repeat; text = text; place = place; offset = offset; first_on_line = first }) ts refl
statement_by levels symbols.If text place offset first ts h = if_is levels (record { symbol = symbols.If; text = text; place = place; offset = offset; first_on_line = first }) ts refl
statement_by levels symbols.For text place offset first ts h = for_is levels (record { symbol = symbols.For; text = text; place = place; offset = offset; first_on_line = first }) ts refl
statement_by levels symbols.Var text place offset first ts h = var_is levels (record { symbol = symbols.Var; text = text; place = place; offset = offset; first_on_line = first }) ts refl
statement_by levels symbols.Escape text place offset first ts h = escape_is levels (record { symbol = symbols.Escape; text = text; place = place; offset = offset; first_on_line = first }) ts refl
statement_by levels symbols.Return text place offset first ts h = return_is levels (record { symbol = symbols.Return; text = text; place = place; offset = offset; first_on_line = first }) ts refl
statement_by levels symbols.Break text place offset first ts h = break_is levels (record { symbol = symbols.Break; text = text; place = place; offset = offset; first_on_line = first }) ts refl
statement_by levels _ text place offset first ts h = absurd (never h)
