-- What reading each name of the grammar of Lua statements and functions gives is what its grammar gives.
use Rattle.std.proofs.Common.{◌≡◌, ℕ, zero, suc, ◌-◌, ◌<◌, Bool, true, false, cond, List, [], ◌∷◌, length, Option, Some, None, refl, sym, ap, ◌∙◌, arith}
use Rattle.std.specs.Prelude.{◌&&◌, not}
use Rattle.tl_base.specs.declared.place.Place.{Place}
use Rattle.tl_lex.specs.declared.SyntaxKind.{SyntaxKind}
use Rattle.tl_tree.specs.declared.mode.Mode.{Mode}
use Rattle.tl_tree.specs.declared.mode.Context.{Context}
use Rattle.tl_tree.specs.declared.mode.OperandKind.{OperandKind}
use Rattle.tl_tree.specs.declared.mode.OperandKind.TheVariants as operands
use Rattle.tl_tree.specs.declared.mode.TokenUse.TheVariants.{Plain}
use Rattle.tl_tree.specs.declared.symbol.Symbol.{Symbol}
use Rattle.tl_tree.specs.declared.symbol.Symbol.TheVariants as symbols
use Rattle.tl_tree.specs.Symbols.{is_bad}
use Rattle.tl_tree.specs.Tokens.{Token, is, among, sample}
use Rattle.tl_tree.specs.Tree as trees
use Rattle.tl_tree.specs.Tree.{Tree, Nothing, More, Just, Expression, Statements, FunctionBody}
use Rattle.tl_tree.specs.Grammar.{Grammar, give, token, bind, when, many, Outcome, Took, Stop, ◌>>=◌, begins, is_of, unexpected, down}
use Rattle.tl_tree.specs.Forms.{sign, opening, name, names, listed_behind, Chained, chained, chain}
use Rattle.tl_tree.specs.LuaExpressions as expressions
use Rattle.tl_tree.specs.LuaStatements as lua
use Rattle.tl_tree.specs.LuaStatements.{looped, fresh, body_mode, Parameters, parameters_of}
use Rattle.tl_tree.proofs.Unrolling.{bind_again}
use Rattle.tl_parse.specs.Views.Using.{reading, part_at, used, barred, sign_at, open_at, call_at, operator_at, raise_at}
use Rattle.tl_parse.specs.Views.Expressions.{name_at, paren_at, base_at, is_other, applied_at, suffixes_at}
use Rattle.tl_parse.specs.Views.Expressions.{Suffixed, attached, kind_of, suffix_at, call_suffix_at, index_suffix_at, select_suffix_at}
use Rattle.tl_parse.specs.Views.Expressions.{method_arguments_at, method_suffix_at, table_suffix_at, literal_suffix_at}
use Rattle.tl_parse.specs.Views.Expressions as suffixed
use Rattle.tl_parse.specs.Views.Statements.{is_no_variable, variable_at, is_call}
use Rattle.tl_parse.specs.Views.Statements.{call_or_assignment_at, do_at, loop_at, while_at, repeat_at, arm_at, more_arms_at, arms_at}
use Rattle.tl_parse.specs.Views.Statements.{otherwise_at, if_at, numeric_at, generic, generic_at, for_at, function_statement_at}
use Rattle.tl_parse.specs.Views.Statements.{local_function_at, initial_values_at, local_names_at, definition_symbols, local_at}
use Rattle.tl_parse.specs.Views.Statements.{returned_values_at, return_at, break_at, emit_at, statement_at}
use Rattle.tl_parse.specs.Views.Statements.{parameter_at, with_parameter, more_parameters, more_parameters_at, parameters_at, body_at}
use Rattle.tl_parse.specs.Views.Paths.{more_names_at, names_at, path_at}
use Rattle.tl_parse.specs.Views.TerraDefinitions.{local_terra_at}
use Rattle.tl_parse.proofs.Uses.{never, both, bind_same, opened_at, opens_any, plain_is, unrolls, ends, refuses}
use Rattle.tl_parse.proofs.Uses.{used_classes}
use Rattle.tl_parse.proofs.Agreeing.{sign_then, open_then, then, either_is, name_agrees, paren_agrees, expression_agrees}
use Rattle.tl_parse.proofs.Turns.{with_suffix, used_here, use_same, suffix_turn_of, suffixes_go, suffixes_end, suffix_shorter}
use Rattle.tl_parse.proofs.Paths.{names_agree, path_agrees}
use Rattle.tl_parse.proofs.TerraDefinitionAgreeing.{define_terra_is, define_struct_is, local_terra_agrees}
use Rattle.tl_parse.proofs.Following.{behind_give, body_give, optional_agrees}
use Rattle.tl_parse.proofs.TerraStatementAgreeing.{numeric_then}
use Rattle.tl_parse.specs.Views.Codes.{expression_behind_at, opened_body_at, lua_symbols}
use Rattle.tl_parse.specs.declared.parser.Code.TheVariants as codes
use Rattle.tl_parse.specs.Views.Lists.{element_at, more_elements_at, elements_at, expressions_at, expressions_behind_at}
use Rattle.tl_parse.specs.declared.parser.Element.TheVariants as elements
use Rattle.tl_parse.specs.declared.parser.BlockCode.TheVariants as block_codes

-- the same where an outcome is known
bind_where : {A B : Type 0} (o : Outcome A) (f g : A → List Token → Outcome B) → ((a : A) (mid : List Token) → o ≡ Took a mid → f a mid ≡ g a mid) → (o >>= f) ≡ (o >>= g)
bind_where (Took a mid) f g h = h a mid refl
bind_where (Stop kind rest) f g h = refl

expressions_agree : (levels : ℕ) (m : Mode) (ts : List Token) → reading levels (expressions.expressions m) ts ≡ expressions_at levels (codes.Lua m) ts
unfolding elements_at element_at more_elements_at
expressions_agree levels m ts = refl

-- a sign and expressions, and what goes on with them
expressions_then : {A : Type 0} (levels : ℕ) (s : Symbol) (m : Mode) (h : Tree → Grammar A) (k : Tree → List Token → Outcome A) → ((es : Tree) (us : List Token) → reading levels (h es) us ≡ k es us) → (ts : List Token) →
    reading levels (bind (sign s) λ y. bind (expressions.expressions m) λ es. h es) ts ≡ (expressions_behind_at levels s (codes.Lua m) ts >>= λ es rest. k es rest)
unfolding expressions_behind_at
expressions_then levels s m h k same ts =
    sign_then levels s (λ y. bind (expressions.expressions m) λ es. h es) (λ y a. expressions_at levels (codes.Lua m) a >>= λ es rest. k es rest)
    (λ y us. then levels (expressions.expressions m) (λ es. h es) (λ vs. expressions_at levels (codes.Lua m) vs) (λ es rest. k es rest) (λ vs. expressions_agree levels m vs) same us) ts
    ∙ sym (bind_again (sign_at s ts) (λ y a. expressions_at levels (codes.Lua m) a) (λ es rest. k es rest))

-- ---- targets

-- the kind of what is read
record HasKind (o : Outcome Suffixed) (kind : OperandKind) : Type 0 where
  is_so : (s : Suffixed) (rest : List Token) → o ≡ Took s rest → kind_of s ≡ kind

kind_took : (s : Suffixed) (rest : List Token) → HasKind (Took s rest) (kind_of s)
kind_took s rest = record { is_so = λ r us e. let same : s ≡ r = cc in ap (λ (x : Suffixed). kind_of x) (sym same) }

kind_bind : {A : Type 0} (o : Outcome A) (f : A → List Token → Outcome Suffixed) (kind : OperandKind) → ((a : A) (mid : List Token) → HasKind (f a mid) kind) → HasKind (o >>= f) kind
kind_bind (Took a mid) f kind h = h a mid
kind_bind (Stop why rest) f kind h = record { is_so = λ s us e. absurd cc }

call_kind : (levels : ℕ) (m : Mode) (links : ℕ) (ts : List Token) → HasKind (call_suffix_at levels m links ts) operands.Call
unfolding call_suffix_at
call_kind levels m links ts = kind_bind {A = Token} (call_at levels links ts) _ operands.Call (λ t a. kind_bind {A = Tree} (part_at (levels - 1) (trees.Arguments m) a) _ operands.Call (λ x b. kind_bind {A = Token} (sign_at symbols.CloseParen b) _ operands.Call (λ y rest. kind_took (suffixed.Calls t.place x) rest)))

method_kind : (levels : ℕ) (m : Mode) (links : ℕ) (ts : List Token) → HasKind (method_suffix_at levels m links ts) operands.Call
unfolding method_suffix_at
method_kind levels m links ts = kind_bind {A = Token} (operator_at (symbols.Colon ∷ []) links ts) _ operands.Call (λ t a. kind_bind {A = Tree} (name_at a) _ operands.Call (λ n b. kind_bind {A = Tree} (method_arguments_at levels m b) _ operands.Call (λ x rest. kind_took (suffixed.CallsMethod t.place n x) rest)))

table_kind : (levels : ℕ) (m : Mode) (links : ℕ) (ts : List Token) → HasKind (table_suffix_at levels m links ts) operands.Call
unfolding table_suffix_at
table_kind levels m links ts = kind_bind {A = Token} (raise_at symbols.OpenBrace levels links ts) _ operands.Call (λ t a. kind_bind {A = Tree} (part_at (levels - 1) (trees.Fields m) a) _ operands.Call (λ x b. kind_bind {A = Token} (sign_at symbols.CloseBrace b) _ operands.Call (λ y rest. kind_took (suffixed.Calls t.place (More Nothing (trees.Table t.place x))) rest)))

literal_kind : (links : ℕ) (ts : List Token) → HasKind (literal_suffix_at links ts) operands.Call
unfolding literal_suffix_at
literal_kind links ts = kind_bind {A = Token} _ _ operands.Call (λ t rest. kind_took (suffixed.Calls t.place (More Nothing (trees.Literal t.place t.text))) rest)

index_kind : (levels : ℕ) (m : Mode) (links : ℕ) (ts : List Token) → HasKind (index_suffix_at levels m links ts) operands.Variable
unfolding index_suffix_at
index_kind levels m links ts = kind_bind {A = Token} (raise_at symbols.OpenBracket levels links ts) _ operands.Variable (λ t a. kind_bind {A = Tree} (part_at (levels - 1) (Expression m) a) _ operands.Variable (λ x b. kind_bind {A = Token} (sign_at symbols.CloseBracket b) _ operands.Variable (λ y rest. kind_took (suffixed.Indexes t.place x) rest)))

select_kind : (links : ℕ) (ts : List Token) → HasKind (select_suffix_at links ts) operands.Variable
unfolding select_suffix_at
select_kind links ts = kind_bind {A = Token} (operator_at (symbols.Dot ∷ []) links ts) _ operands.Variable (λ t a. kind_bind {A = Tree} (name_at a) _ operands.Variable (λ n rest. kind_took (suffixed.Selects t.place n) rest))

abbrev calls_class : Mode → Token → Bool
calls_class m t = among lua.call_symbols t && expressions.is_suffix m t

abbrev index_class : Mode → Token → Bool
index_class m t = among lua.index_symbols t && expressions.is_suffix m t

-- A suffix is a call or an index by its first token.
data Kind (m : Mode) (o : Outcome Suffixed) (t : Token) : Type 0 where
  IsCall : is_of (λ t. calls_class m t) t ≡ true → HasKind o operands.Call → Kind m o t
  IsIndex : is_of (λ t. calls_class m t) t ≡ false → is_of (λ t. index_class m t) t ≡ true → HasKind o operands.Variable → Kind m o t

kind_by : (levels : ℕ) (m : Mode) (links : ℕ) (symbol : Symbol) (text : List ℕ) (place : Place) (offset : ℕ) (first : Bool) (ts : List Token) → is_of (λ t. expressions.is_suffix m t) (record { symbol = symbol; text = text; place = place; offset = offset; first_on_line = first }) ≡ true →
    Kind m (suffix_at levels m links (record { symbol = symbol; text = text; place = place; offset = offset; first_on_line = first } ∷ ts)) (record { symbol = symbol; text = text; place = place; offset = offset; first_on_line = first })
unfolding suffix_at
kind_by levels m links symbols.OpenParen text place offset first ts h = IsCall h (call_kind levels m links _)
kind_by levels m links symbols.Colon text place offset first ts h = IsCall h (method_kind levels m links _)
kind_by levels m links symbols.OpenBrace text place offset first ts h = IsCall h (table_kind levels m links _)
kind_by levels m links symbols.Literal text place offset first ts h = IsCall h (literal_kind links _)
kind_by levels m links symbols.OpenBracket text place offset first ts h = IsIndex refl h (index_kind levels m links _)
kind_by levels m links symbols.Dot text place offset first ts h = IsIndex refl h (select_kind links _)
kind_by levels m links _ text place offset first ts h = absurd (never h)

-- suffixes behind a prefix expression, up to a variable
abbrev settling : Bool → Mode → Chained → Grammar Chained
settling true m a = bind (lua.to_variable m a) λ d. lua.variable_suffixes m d
settling false m a = lua.variable_suffixes m a

settle_at : ℕ → Mode → Chained → List Token → Outcome Chained
settle_at levels m a ts = reading levels (settling (is_no_variable a.kind) m a) ts

-- the grammars of the two turns of a target
abbrev more_calls : Mode → Chained → Grammar Chained
more_calls m a = many (λ b t. calls_class m t) (λ b t. expressions.suffix_use b t) (λ b t. expressions.suffix_opens m (expressions.suffix_of t.symbol)) (λ t x b. expressions.suffix m (expressions.suffix_of t.symbol) t x b) a

abbrev then_index : Mode → Chained → Grammar Chained
then_index m b =
    bind (token (λ t. index_class m t) (λ t. expressions.suffix_use b t) (λ t. expressions.suffix_opens m (expressions.suffix_of t.symbol)) (sample symbols.Dot)) λ x. expressions.suffix m (expressions.suffix_of x.0.symbol) x.0 x.1 b

unsettled_by : (levels : ℕ) (m : Mode) (a : Chained) (t : Token) (ts : List Token) → is_of (λ t. expressions.is_suffix m t) t ≡ true → Kind m (suffix_at levels m a.links (t ∷ ts)) t →
    reading levels (settling true m a) (t ∷ ts) ≡ (suffix_at levels m a.links (t ∷ ts) >>= λ s rest. reading levels (settling (is_no_variable (kind_of s)) m (with_suffix a s)) rest)
unsettled_by levels m a t ts h (IsCall c k) =
    ap (λ (o : Outcome Chained). (o >>= λ b mid. reading levels (then_index m b) mid) >>= λ d mid. reading levels (lua.variable_suffixes m d) mid)
    (unrolls levels (λ b t. calls_class m t) (λ b t. expressions.suffix_use b t) (λ b t. expressions.suffix_opens m (expressions.suffix_of t.symbol)) (λ t x b. expressions.suffix m (expressions.suffix_of t.symbol) t x b) (sample symbols.Dot) a (t ∷ ts) c
    ∙ ap (λ (o : Outcome Chained). o >>= λ y next. reading levels (more_calls m y) next) (suffix_turn_of levels (λ t. calls_class m t) m a (t ∷ ts) c h)
    ∙ bind_again (suffix_at levels m a.links (t ∷ ts)) (λ s rest. Took (with_suffix a s) rest) (λ y next. reading levels (more_calls m y) next))
    ∙ ap (λ (o : Outcome Chained). o >>= λ d mid. reading levels (lua.variable_suffixes m d) mid) (bind_again (suffix_at levels m a.links (t ∷ ts)) (λ s rest. reading levels (more_calls m (with_suffix a s)) rest) (λ b mid. reading levels (then_index m b) mid))
    ∙ bind_again (suffix_at levels m a.links (t ∷ ts)) (λ s rest. reading levels (more_calls m (with_suffix a s)) rest >>= λ b mid. reading levels (then_index m b) mid) (λ d mid. reading levels (lua.variable_suffixes m d) mid)
    ∙ bind_where (suffix_at levels m a.links (t ∷ ts)) (λ s rest. reading levels (settling true m (with_suffix a s)) rest) (λ s rest. reading levels (settling (is_no_variable (kind_of s)) m (with_suffix a s)) rest)
    (λ s rest e. ap (λ (x : OperandKind). reading levels (settling (is_no_variable x) m (with_suffix a s)) rest) (sym (k.is_so s rest e)))
unsettled_by levels m a t ts h (IsIndex c i k) =
    ap (λ (o : Outcome Chained). (o >>= λ b mid. reading levels (then_index m b) mid) >>= λ d mid. reading levels (lua.variable_suffixes m d) mid)
    (ends levels (λ b t. calls_class m t) (λ b t. expressions.suffix_use b t) (λ b t. expressions.suffix_opens m (expressions.suffix_of t.symbol)) (λ t x b. expressions.suffix m (expressions.suffix_of t.symbol) t x b) a (t ∷ ts) c)
    ∙ ap (λ (o : Outcome Chained). o >>= λ d mid. reading levels (lua.variable_suffixes m d) mid) (suffix_turn_of levels (λ t. index_class m t) m a (t ∷ ts) i h)
    ∙ bind_again (suffix_at levels m a.links (t ∷ ts)) (λ s rest. Took (with_suffix a s) rest) (λ d mid. reading levels (lua.variable_suffixes m d) mid)
    ∙ bind_where (suffix_at levels m a.links (t ∷ ts)) (λ s rest. reading levels (settling false m (with_suffix a s)) rest) (λ s rest. reading levels (settling (is_no_variable (kind_of s)) m (with_suffix a s)) rest)
    (λ s rest e. ap (λ (x : OperandKind). reading levels (settling (is_no_variable x) m (with_suffix a s)) rest) (sym (k.is_so s rest e)))

-- behind a variable
settled_by : (levels : ℕ) (m : Mode) (a : Chained) (t : Token) (ts : List Token) → is_of (λ t. expressions.is_suffix m t) t ≡ true →
    reading levels (settling false m a) (t ∷ ts) ≡ (suffix_at levels m a.links (t ∷ ts) >>= λ s rest. reading levels (settling (is_no_variable (kind_of s)) m (with_suffix a s)) rest)
settled_by levels m a t ts h =
    unrolls levels (λ b t. expressions.is_suffix m t) (λ b t. expressions.suffix_use b t) (λ b t. expressions.suffix_opens m (expressions.suffix_of t.symbol)) (λ t x b. bind (expressions.suffix m (expressions.suffix_of t.symbol) t x b) λ d. lua.as_variable m d.kind d) (sample symbols.Dot) a (t ∷ ts) h
    ∙ ap (λ (o : Outcome Chained). o >>= λ y next. reading levels (lua.variable_suffixes m y) next)
    (sym (bind_again first (λ x mid. reading levels (expressions.suffix m (expressions.suffix_of x.0.symbol) x.0 x.1 a) mid) (λ d mid. reading levels (lua.as_variable m d.kind d) mid))
    ∙ ap (λ (o : Outcome Chained). o >>= λ d mid. reading levels (lua.as_variable m d.kind d) mid) (suffix_turn_of levels (λ t. expressions.is_suffix m t) m a (t ∷ ts) h h)
    ∙ bind_again (suffix_at levels m a.links (t ∷ ts)) (λ s rest. Took (with_suffix a s) rest) (λ d mid. reading levels (lua.as_variable m d.kind d) mid))
    ∙ bind_again (suffix_at levels m a.links (t ∷ ts)) (λ s rest. reading levels (lua.as_variable m (kind_of s) (with_suffix a s)) rest) (λ y next. reading levels (lua.variable_suffixes m y) next)
    ∙ bind_same (suffix_at levels m a.links (t ∷ ts)) (λ s rest. reading levels (lua.as_variable m (kind_of s) (with_suffix a s)) rest >>= λ y next. reading levels (lua.variable_suffixes m y) next) (λ s rest. reading levels (settling (is_no_variable (kind_of s)) m (with_suffix a s)) rest) (λ s rest. goes s rest)
  where
    first : Outcome (Token × Tree)
    first = reading levels (token (λ t. expressions.is_suffix m t) (λ t. expressions.suffix_use a t) (λ t. expressions.suffix_opens m (expressions.suffix_of t.symbol)) (sample symbols.Dot)) (t ∷ ts)

    goes : (s : Suffixed) (rest : List Token) → (reading levels (lua.as_variable m (kind_of s) (with_suffix a s)) rest >>= λ y next. reading levels (lua.variable_suffixes m y) next) ≡ reading levels (settling (is_no_variable (kind_of s)) m (with_suffix a s)) rest
    goes (suffixed.Calls place x) rest = refl
    goes (suffixed.CallsMethod place n x) rest = refl
    goes (suffixed.Indexes place x) rest = refl
    goes (suffixed.Selects place x) rest = refl

settle_goes : (levels : ℕ) (m : Mode) (a : Chained) (b : Bool) (ts : List Token) → begins (λ t. expressions.is_suffix m t) ts ≡ true →
    reading levels (settling b m a) ts ≡ (suffix_at levels m a.links ts >>= λ s rest. reading levels (settling (is_no_variable (kind_of s)) m (with_suffix a s)) rest)
settle_goes levels m a b [] h = absurd cc
settle_goes levels m a true (t ∷ ts) h = unsettled_by levels m a t ts h (kind_by levels m a.links t.symbol t.text t.place t.offset t.first_on_line ts h)
settle_goes levels m a false (t ∷ ts) h = settled_by levels m a t ts h

narrower : (x y : Token → Bool) (ts : List Token) → begins y ts ≡ false → begins (λ t. x t && y t) ts ≡ false
narrower x y [] h = refl
narrower x y (t ∷ ts) h = by (symbols_bad t) (x t) (y t) h
  where
    symbols_bad : Token → Bool
    symbols_bad t = is_bad t.symbol

    by : (b c d : Bool) → cond b false d ≡ false → cond b false (c && d) ≡ false
    by true c d h = refl
    by false true d h = h
    by false false d h = refl

settle_ends : (levels : ℕ) (m : Mode) (a : Chained) (ts : List Token) → begins (λ t. expressions.is_suffix m t) ts ≡ false → reading levels (settling false m a) ts ≡ Took a ts
settle_ends levels m a ts h = ends levels (λ b t. expressions.is_suffix m t) (λ b t. expressions.suffix_use b t) (λ b t. expressions.suffix_opens m (expressions.suffix_of t.symbol)) (λ t x b. bind (expressions.suffix m (expressions.suffix_of t.symbol) t x b) λ d. lua.as_variable m d.kind d) a ts h

settle_refuses : (levels : ℕ) (m : Mode) (a : Chained) (ts : List Token) → begins (λ t. expressions.is_suffix m t) ts ≡ false → reading levels (settling true m a) ts ≡ unexpected ts
settle_refuses levels m a ts h =
    ap (λ (o : Outcome Chained). (o >>= λ b mid. reading levels (then_index m b) mid) >>= λ d mid. reading levels (lua.variable_suffixes m d) mid)
    (ends levels (λ b t. calls_class m t) (λ b t. expressions.suffix_use b t) (λ b t. expressions.suffix_opens m (expressions.suffix_of t.symbol)) (λ t x b. expressions.suffix m (expressions.suffix_of t.symbol) t x b) a ts (narrower (λ t. among lua.call_symbols t) (λ t. expressions.is_suffix m t) ts h))
    ∙ ap (λ (o : Outcome (Token × Tree)). (o >>= λ x mid. reading levels (expressions.suffix m (expressions.suffix_of x.0.symbol) x.0 x.1 a) mid) >>= λ d mid. reading levels (lua.variable_suffixes m d) mid)
    (refuses levels (λ t. index_class m t) (λ t. expressions.suffix_use a t) (λ t. expressions.suffix_opens m (expressions.suffix_of t.symbol)) (sample symbols.Dot) ts (narrower (λ t. among lua.index_symbols t) (λ t. expressions.is_suffix m t) ts h))
    ∙ go ts
  where
    go : (ts : List Token) → ((unexpected {A = Token × Tree} ts >>= λ x mid. reading levels (expressions.suffix m (expressions.suffix_of x.0.symbol) x.0 x.1 a) mid) >>= λ d mid. reading levels (lua.variable_suffixes m d) mid) ≡ unexpected ts
    go [] = refl
    go (t ∷ ts) = refl

-- a target, or the token behind what is none
abbrev target_of : Chained → List Token → Outcome Tree
target_of a rest = cond (is_no_variable a.kind) (unexpected rest) (Took a.tree rest)

-- Suffixes up to a variable are all suffixes, where these make a variable.
abbrev Settles : ℕ → Mode → Chained → List Token → Type 0
Settles levels m a ts = (reading levels (settling (is_no_variable a.kind) m a) ts >>= λ a rest. Took a.tree rest) ≡ (suffixes_at levels m a ts >>= λ a rest. target_of a rest)

settles : (levels : ℕ) (m : Mode) (n : ℕ) (tree : Tree) (links : ℕ) (kind : OperandKind) (ts : List Token) → length ts < n → Settles levels m (chained tree links kind) ts
settles levels m zero tree links kind ts short = absurd (omega arith)
settles levels m (suc n) tree links kind ts short =
    by (begins (λ t. expressions.is_suffix m t) ts) refl
    (λ s rest less. let shorter : length rest < n = omega arith in settles levels m n (attached s tree) (down links) (kind_of s) rest shorter)
  where
    nothing : (us : List Token) → (unexpected {A = Chained} us >>= λ a rest. Took a.tree rest) ≡ unexpected us
    nothing [] = refl
    nothing (t ∷ us) = refl

    last : (b : Bool) → begins (λ t. expressions.is_suffix m t) ts ≡ false →
        (reading levels (settling b m (chained tree links kind)) ts >>= λ a rest. Took a.tree rest) ≡ cond b (unexpected ts) (Took tree ts)
    last true h = ap (λ (o : Outcome Chained). o >>= λ a rest. Took a.tree rest) (settle_refuses levels m (chained tree links kind) ts h) ∙ nothing ts
    last false h = ap (λ (o : Outcome Chained). o >>= λ a rest. Took a.tree rest) (settle_ends levels m (chained tree links kind) ts h)

    by : (b : Bool) → begins (λ t. expressions.is_suffix m t) ts ≡ b → ((s : Suffixed) (rest : List Token) → length rest < length ts → Settles levels m (chained (attached s tree) (down links) (kind_of s)) rest) → Settles levels m (chained tree links kind) ts
    by true h again =
        ap (λ (o : Outcome Chained). o >>= λ a rest. Took a.tree rest) (settle_goes levels m (chained tree links kind) (is_no_variable kind) ts h)
        ∙ bind_again (suffix_at levels m links ts) (λ s rest. reading levels (settling (is_no_variable (kind_of s)) m (chained (attached s tree) (down links) (kind_of s))) rest) (λ a rest. Took a.tree rest)
        ∙ bind_where (suffix_at levels m links ts) (λ s rest. reading levels (settling (is_no_variable (kind_of s)) m (chained (attached s tree) (down links) (kind_of s))) rest >>= λ a us. Took a.tree us)
        (λ s rest. suffixes_at levels m (chained (attached s tree) (down links) (kind_of s)) rest >>= λ a us. target_of a us)
        (λ s rest e. again s rest (suffix_shorter levels m links s ts rest h e))
        ∙ sym (bind_again (suffix_at levels m links ts) (λ s rest. suffixes_at levels m (chained (attached s tree) (down links) (kind_of s)) rest) (λ a rest. target_of a rest))
        ∙ sym (ap (λ (o : Outcome Chained). o >>= λ a rest. target_of a rest) (suffixes_go levels m tree links kind ts h))
    by false h again = last (is_no_variable kind) h ∙ sym (ap (λ (o : Outcome Chained). o >>= λ a rest. target_of a rest) (suffixes_end levels m (chained tree links kind) ts h))

paren_settles : (levels : ℕ) (m : Mode) (ts : List Token) → (paren_at levels m ts >>= λ b mid. reading levels (settling true m b) mid) ≡ (paren_at levels m ts >>= λ b mid. settle_at levels m b mid)
unfolding paren_at settle_at
paren_settles levels m ts =
    bind_again (open_at symbols.OpenParen levels ts) (λ t a. part_at (levels - 1) (Expression m) a >>= λ x b. sign_at symbols.CloseParen b >>= λ y rest. Took (chained (trees.Paren t.place x) chain operands.Other) rest) (λ b mid. reading levels (settling true m b) mid)
    ∙ bind_same (open_at symbols.OpenParen levels ts) _ _ (λ t a. inner t (part_at (levels - 1) (Expression m) a))
    ∙ sym (bind_again (open_at symbols.OpenParen levels ts) (λ t a. part_at (levels - 1) (Expression m) a >>= λ x b. sign_at symbols.CloseParen b >>= λ y rest. Took (chained (trees.Paren t.place x) chain operands.Other) rest) (λ b mid. settle_at levels m b mid))
  where
    last : (t : Token) (x : Tree) (o : Outcome Token) → ((o >>= λ y rest. Took (chained (trees.Paren t.place x) chain operands.Other) rest) >>= λ b mid. reading levels (settling true m b) mid) ≡ ((o >>= λ y rest. Took (chained (trees.Paren t.place x) chain operands.Other) rest) >>= λ b mid. settle_at levels m b mid)
    last t x (Took y rest) = refl
    last t x (Stop kind rest) = refl

    inner : (t : Token) (o : Outcome Tree) → ((o >>= λ x b. sign_at symbols.CloseParen b >>= λ y rest. Took (chained (trees.Paren t.place x) chain operands.Other) rest) >>= λ b mid. reading levels (settling true m b) mid)
        ≡ ((o >>= λ x b. sign_at symbols.CloseParen b >>= λ y rest. Took (chained (trees.Paren t.place x) chain operands.Other) rest) >>= λ b mid. settle_at levels m b mid)
    inner t (Took x b) = last t x (sign_at symbols.CloseParen b)
    inner t (Stop kind rest) = refl

variable_settles : (levels : ℕ) (m : Mode) (ts : List Token) → reading levels (lua.variable m) ts ≡ (base_at levels m ts >>= λ b mid. settle_at levels m b mid >>= λ a rest. Took a.tree rest)
unfolding base_at settle_at
variable_settles levels m ts = by (begins (is symbols.OpenParen) ts)
  where
    name_goes : (o : Outcome Tree) → (o >>= λ n mid. reading levels (lua.variable_suffixes m (chained n chain operands.Name)) mid >>= λ a rest. Took a.tree rest) ≡ ((o >>= λ n rest. Took (chained n chain operands.Name) rest) >>= λ b mid. settle_at levels m b mid >>= λ a rest. Took a.tree rest)
    name_goes (Took n mid) = refl
    name_goes (Stop kind rest) = refl

    by : (b : Bool) → cond b (reading levels (bind (expressions.paren m) λ b. bind (lua.to_variable m b) λ d. bind (lua.variable_suffixes m d) λ a. give a.tree) ts) (reading levels (bind name λ n. bind (lua.variable_suffixes m (chained n chain operands.Name)) λ a. give a.tree) ts)
        ≡ (cond b (paren_at levels m ts) (name_at ts >>= λ n rest. Took (chained n chain operands.Name) rest) >>= λ b mid. settle_at levels m b mid >>= λ a rest. Took a.tree rest)
    by true =
        ap (λ (o : Outcome Chained). o >>= λ b mid. reading levels (bind (lua.to_variable m b) λ d. bind (lua.variable_suffixes m d) λ a. give a.tree) mid) (paren_agrees levels m ts)
        ∙ bind_same (paren_at levels m ts) (λ b mid. reading levels (bind (lua.to_variable m b) λ d. bind (lua.variable_suffixes m d) λ a. give a.tree) mid) (λ b mid. reading levels (settling true m b) mid >>= λ a rest. Took a.tree rest) (λ b mid. sym (bind_again (reading levels (lua.to_variable m b) mid) (λ d us. reading levels (lua.variable_suffixes m d) us) (λ a rest. Took a.tree rest)))
        ∙ sym (bind_again (paren_at levels m ts) (λ b mid. reading levels (settling true m b) mid) (λ a rest. Took a.tree rest))
        ∙ ap (λ (o : Outcome Chained). o >>= λ a rest. Took a.tree rest) (paren_settles levels m ts)
        ∙ bind_again (paren_at levels m ts) (λ b mid. settle_at levels m b mid) (λ a rest. Took a.tree rest)
    by false = ap (λ (o : Outcome Tree). o >>= λ n mid. reading levels (lua.variable_suffixes m (chained n chain operands.Name)) mid >>= λ a rest. Took a.tree rest) (name_agrees levels ts) ∙ name_goes (name_at ts)

-- the same behind what the suffixes are behind
base_settles : (levels : ℕ) (m : Mode) (a : Chained) (ts : List Token) → (settle_at levels m a ts >>= λ a rest. Took a.tree rest) ≡ (suffixes_at levels m a ts >>= λ a rest. target_of a rest)
unfolding settle_at
base_settles levels m a ts = let all : length ts < suc (length ts) = omega arith in settles levels m (suc (length ts)) a.tree a.links a.kind ts all

pub variable_agrees : (levels : ℕ) (m : Mode) (ts : List Token) → reading levels (lua.variable m) ts ≡ variable_at levels m ts
unfolding variable_at applied_at
variable_agrees levels m ts =
    variable_settles levels m ts
    ∙ bind_same (base_at levels m ts) (λ b mid. settle_at levels m b mid >>= λ a rest. Took a.tree rest) (λ b mid. suffixes_at levels m b mid >>= λ a rest. target_of a rest) (λ b mid. base_settles levels m b mid)
    ∙ sym (bind_again (base_at levels m ts) (λ b mid. suffixes_at levels m b mid) (λ a rest. target_of a rest))

-- ---- loops and choices

loop_agrees : (levels : ℕ) (c : Context) (ts : List Token) → reading levels (lua.loop c) ts ≡ loop_at levels (block_codes.Lua c) ts
unfolding loop_at
loop_agrees levels c ts =
    open_then levels symbols.Do (Statements (looped c)) (λ x. bind (sign symbols.End) λ y. give x.1) (λ t x b. sign_at symbols.End b >>= λ y rest. Took x rest) (λ t x b. sign_then levels symbols.End (λ y. give x) (λ y rest. Took x rest) (λ y us. refl) b) ts

-- a condition and its block, behind other arms
arm_agrees : (levels : ℕ) (c : Context) (before : Tree) (ts : List Token) → reading levels (lua.arm c before) ts ≡ (arm_at levels (block_codes.Lua c) ts >>= λ x rest. Took (More before x) rest)
unfolding arm_at
arm_agrees levels c before ts =
    then levels (expressions.expression c.mode) (λ e. bind (opening symbols.Then (Statements c)) λ x. give (More before (trees.Arm e x.1))) (λ us. part_at levels (Expression c.mode) us) (λ e a. open_at symbols.Then levels a >>= λ t b. part_at (levels - 1) (Statements c) b >>= λ x rest. Took (More before (trees.Arm e x)) rest)
    (λ us. expression_agrees levels c.mode us) (λ e a. open_then levels symbols.Then (Statements c) (λ x. give (More before (trees.Arm e x.1))) (λ t x rest. Took (More before (trees.Arm e x)) rest) (λ t x us. refl) a) ts
    ∙ sym (bind_again (part_at levels (Expression c.mode) ts) (λ e a. open_at symbols.Then levels a >>= λ t b. part_at (levels - 1) (Statements c) b >>= λ x rest. Took (trees.Arm e x) rest) (λ x rest. Took (More before x) rest)
    ∙ bind_same (part_at levels (Expression c.mode) ts) _ (λ e a. open_at symbols.Then levels a >>= λ t b. part_at (levels - 1) (Statements c) b >>= λ x rest. Took (More before (trees.Arm e x)) rest)
    (λ e a. bind_again (open_at symbols.Then levels a) (λ t b. part_at (levels - 1) (Statements c) b >>= λ x rest. Took (trees.Arm e x) rest) (λ x rest. Took (More before x) rest)
    ∙ bind_same (open_at symbols.Then levels a) _ (λ t b. part_at (levels - 1) (Statements c) b >>= λ x rest. Took (More before (trees.Arm e x)) rest) (λ t b. bind_again (part_at (levels - 1) (Statements c) b) (λ x rest. Took (trees.Arm e x) rest) (λ x rest. Took (More before x) rest))))

pub arm_turn : (levels : ℕ) (c : Context) (before : Tree) (ts : List Token) →
    reading levels (bind (token (λ t. is symbols.Elseif t) (λ t. Plain) (λ t. None) (sample symbols.Elseif)) λ x. lua.arm c before) ts ≡ ((sign_at symbols.Elseif ts >>= λ y a. arm_at levels (block_codes.Lua c) a) >>= λ x rest. Took (More before x) rest)
arm_turn levels c before ts =
    sign_then levels symbols.Elseif (λ x. lua.arm c before) (λ t a. arm_at levels (block_codes.Lua c) a >>= λ x rest. Took (More before x) rest) (λ t a. arm_agrees levels c before a) ts
    ∙ sym (bind_again (sign_at symbols.Elseif ts) (λ y a. arm_at levels (block_codes.Lua c) a) (λ x rest. Took (More before x) rest))

otherwise_agrees : (levels : ℕ) (c : Context) (ts : List Token) → reading levels (lua.otherwise c) ts ≡ otherwise_at levels (block_codes.Lua c) ts
unfolding otherwise_at
otherwise_agrees levels c ts =
    either_is (begins (is symbols.Else) ts) (reading levels (bind (opening symbols.Else (Statements c)) λ x. give (Just x.1)) ts) (Took Nothing ts) (open_at symbols.Else levels ts >>= λ t a. part_at (levels - 1) (Statements c) a >>= λ x rest. Took (Just x) rest) (Took Nothing ts)
    (open_then levels symbols.Else (Statements c) (λ x. give (Just x.1)) (λ t x rest. Took (Just x) rest) (λ t x us. refl) ts) refl

numeric_agrees : (levels : ℕ) (c : Context) (t : Token) (n : Tree) (ts : List Token) → reading levels (lua.numeric_for c t n) ts ≡ (numeric_at levels (block_codes.Lua c) ts >>= λ r rest. Took (trees.NumericFor t.place n r.from r.limit r.step r.block) rest)
numeric_agrees levels c t n ts =
    numeric_then levels (block_codes.Lua c) (lua.step c.mode) (lua.loop c) (λ a b s x. trees.NumericFor t.place n a b s x) (λ us. optional_agrees levels symbols.Comma (codes.Lua c.mode) us) (λ us. loop_agrees levels c us) ts

generic_agrees : (levels : ℕ) (c : Context) (t : Token) (ns : Tree) (ts : List Token) →
    reading levels (bind (sign symbols.In) λ y. bind (expressions.expressions c.mode) λ es. bind (lua.loop c) λ x. give (trees.GenericFor t.place ns es x)) ts ≡ (generic_at levels c ts >>= λ r rest. Took (trees.GenericFor t.place ns r.values r.block) rest)
unfolding generic_at
generic_agrees levels c t ns ts =
    expressions_then levels symbols.In c.mode (λ es. bind (lua.loop c) λ x. give (trees.GenericFor t.place ns es x)) (λ es b. loop_at levels (block_codes.Lua c) b >>= λ x rest. Took (trees.GenericFor t.place ns es x) rest)
    (λ es b. then levels (lua.loop c) (λ x. give (trees.GenericFor t.place ns es x)) (λ us. loop_at levels (block_codes.Lua c) us) (λ x rest. Took (trees.GenericFor t.place ns es x) rest) (λ us. loop_agrees levels c us) (λ x us. refl) b) ts
    ∙ sym (bind_again (expressions_behind_at levels symbols.In (codes.Lua c.mode) ts) (λ es b. loop_at levels (block_codes.Lua c) b >>= λ x rest. Took (generic es x) rest) (λ r rest. Took (trees.GenericFor t.place ns r.values r.block) rest)
    ∙ bind_same (expressions_behind_at levels symbols.In (codes.Lua c.mode) ts) (λ es b. (loop_at levels (block_codes.Lua c) b >>= λ x rest. Took (generic es x) rest) >>= λ r rest. Took (trees.GenericFor t.place ns r.values r.block) rest) (λ es b. loop_at levels (block_codes.Lua c) b >>= λ x rest. Took (trees.GenericFor t.place ns es x) rest)
    (λ es b. bind_again (loop_at levels (block_codes.Lua c) b) (λ x rest. Took (generic es x) rest) (λ r rest. Took (trees.GenericFor t.place ns r.values r.block) rest)))

-- ---- declarations

values_agree : (levels : ℕ) (m : Mode) (ts : List Token) → reading levels (bind (sign symbols.Equal) λ y. expressions.expressions m) ts ≡ expressions_behind_at levels symbols.Equal (codes.Lua m) ts
unfolding expressions_behind_at
values_agree levels m ts = sign_then levels symbols.Equal (λ y. expressions.expressions m) (λ y a. expressions_at levels (codes.Lua m) a) (λ y us. expressions_agree levels m us) ts

initial_values_agree : (levels : ℕ) (m : Mode) (ts : List Token) → reading levels (lua.initial_values m) ts ≡ initial_values_at levels (codes.Lua m) ts
unfolding initial_values_at
initial_values_agree levels m ts = either_is (begins (is symbols.Equal) ts) (reading levels (bind (sign symbols.Equal) λ y. expressions.expressions m) ts) (Took Nothing ts) (expressions_behind_at levels symbols.Equal (codes.Lua m) ts) (Took Nothing ts) (values_agree levels m ts) refl

local_function_agrees : (levels : ℕ) (place : Place) (ts : List Token) →
    reading levels (bind (sign symbols.Function) λ y. bind name λ n. bind (opening symbols.OpenParen FunctionBody) λ b. give (trees.LocalFunction place n b.1)) ts ≡ local_function_at levels place ts
unfolding local_function_at
local_function_agrees levels place ts =
    sign_then levels symbols.Function (λ y. bind name λ n. bind (opening symbols.OpenParen FunctionBody) λ b. give (trees.LocalFunction place n b.1)) (λ y a. name_at a >>= λ n b. opened_body_at levels b >>= λ x rest. Took (trees.LocalFunction place n x) rest)
    (λ y a. then levels name (λ n. bind (opening symbols.OpenParen FunctionBody) λ b. give (trees.LocalFunction place n b.1)) (λ us. name_at us) (λ n b. opened_body_at levels b >>= λ x rest. Took (trees.LocalFunction place n x) rest) (λ us. name_agrees levels us)
    (λ n b. body_give levels (λ x. trees.LocalFunction place n x) b) a) ts

local_names_agree : (levels : ℕ) (m : Mode) (place : Place) (ts : List Token) →
    reading levels (bind names λ ns. bind (lua.initial_values m) λ es. give (trees.Local place ns es)) ts ≡ local_names_at levels m place ts
unfolding local_names_at
local_names_agree levels m place ts =
    then levels names (λ ns. bind (lua.initial_values m) λ es. give (trees.Local place ns es)) (λ us. names_at levels us) (λ ns a. initial_values_at levels (codes.Lua m) a >>= λ es rest. Took (trees.Local place ns es) rest) (λ us. names_agree levels us)
    (λ ns a. then levels (lua.initial_values m) (λ es. give (trees.Local place ns es)) (λ us. initial_values_at levels (codes.Lua m) us) (λ es rest. Took (trees.Local place ns es) rest) (λ us. initial_values_agree levels m us) (λ es us. refl) a) ts

-- each token that has a place in both languages has it in the joint one
begins_local_terra_is : (ts : List Token) → begins (λ t. lua.begins_local_terra t) ts ≡ begins (among definition_symbols) ts
begins_local_terra_is [] = refl
begins_local_terra_is (t ∷ ts) = refl

abbrev pub token_with : Symbol → List ℕ → Place → ℕ → Bool → Token
token_with symbol text place offset first = record { symbol = symbol; text = text; place = place; offset = offset; first_on_line = first }

begins_expression_by : (symbol : Symbol) (text : List ℕ) (place : Place) (offset : ℕ) (first : Bool) → is_of (λ t. lua.begins_expression t) (token_with symbol text place offset first) ≡ is_of (among lua_symbols) (token_with symbol text place offset first)
begins_expression_by (symbols.Bad kind) text place offset first = refl
begins_expression_by _ text place offset first = refl

begins_expression_is : (ts : List Token) → begins (λ t. lua.begins_expression t) ts ≡ begins (among lua_symbols) ts
begins_expression_is [] = refl
begins_expression_is (t ∷ ts) = begins_expression_by t.symbol t.text t.place t.offset t.first_on_line

returned_values_agree : (levels : ℕ) (m : Mode) (ts : List Token) → reading levels (lua.returned_values m) ts ≡ returned_values_at levels (codes.Lua m) ts
unfolding returned_values_at
returned_values_agree levels m ts =
    ap (λ (b : Bool). cond b (reading levels (expressions.expressions m) ts) (Took Nothing ts)) (begins_expression_is ts)
    ∙ either_is (begins (among lua_symbols) ts) (reading levels (expressions.expressions m) ts) (Took Nothing ts) (expressions_at levels (codes.Lua m) ts) (Took Nothing ts) (expressions_agree levels m ts) refl

-- ---- calls and assignments

target_agrees : (levels : ℕ) (m : Mode) (place : Place) (kind : OperandKind) (e : Tree) (t : Token) (ts : List Token) → t.place ≡ place →
    reading levels (lua.call_or_assignment m t kind e) ts ≡ cond (is_call kind) (Took (trees.CallStatement place e) ts) (more_elements_at levels (elements.Target m) (More Nothing e) ts >>= λ targets c. expressions_behind_at levels symbols.Equal (codes.Lua m) c >>= λ es rest. Took (trees.Assign place targets es) rest)
unfolding more_elements_at
target_agrees levels m place kind e t ts p = by kind
  where
    assigns : reading levels (lua.assignment m t e) ts ≡ (more_elements_at levels (elements.Target m) (More Nothing e) ts >>= λ targets c. expressions_behind_at levels symbols.Equal (codes.Lua m) c >>= λ es rest. Took (trees.Assign place targets es) rest)
    assigns =
        then levels (listed_behind (lua.variable m) (More Nothing e)) (λ targets. bind (sign symbols.Equal) λ y. bind (expressions.expressions m) λ es. give (trees.Assign t.place targets es)) (λ us. more_elements_at levels (elements.Target m) (More Nothing e) us) (λ targets c. expressions_behind_at levels symbols.Equal (codes.Lua m) c >>= λ es rest. Took (trees.Assign place targets es) rest) (λ us. refl)
        (λ targets c. sym (bind_again (reading levels (sign symbols.Equal) c) (λ y us. reading levels (expressions.expressions m) us) (λ es rest. Took (trees.Assign t.place targets es) rest))
        ∙ ap (λ (o : Outcome Tree). o >>= λ es rest. Took (trees.Assign t.place targets es) rest) (values_agree levels m c)
        ∙ ap (λ (q : Place). expressions_behind_at levels symbols.Equal (codes.Lua m) c >>= λ es rest. Took (trees.Assign q targets es) rest) p) ts

    by : (kind : OperandKind) → reading levels (lua.call_or_assignment m t kind e) ts ≡ cond (is_call kind) (Took (trees.CallStatement place e) ts) (more_elements_at levels (elements.Target m) (More Nothing e) ts >>= λ targets c. expressions_behind_at levels symbols.Equal (codes.Lua m) c >>= λ es rest. Took (trees.Assign place targets es) rest)
    by operands.Call = ap (λ (q : Place). Took (trees.CallStatement q e) ts) p
    by operands.Name = assigns
    by operands.Variable = assigns
    by operands.Escape = assigns
    by operands.Other = assigns

-- one suffix and then others are suffixes, where one is next
next_suffix_then : (levels : ℕ) (m : Mode) (a : Chained) (ts : List Token) → reading levels (bind (lua.next_suffix m a) λ b. expressions.suffixes m b) ts ≡ cond (not (begins (λ t. expressions.is_suffix m t) ts)) (unexpected ts) (suffixes_at levels m a ts)
unfolding suffixes_at
next_suffix_then levels m a ts = by (begins (λ t. expressions.is_suffix m t) ts) refl
  where
    go : (ts : List Token) → ((unexpected {A = Token × Tree} ts >>= λ x mid. reading levels (expressions.suffix m (expressions.suffix_of x.0.symbol) x.0 x.1 a) mid) >>= λ d mid. reading levels (expressions.suffixes m d) mid) ≡ unexpected ts
    go [] = refl
    go (t ∷ ts) = refl

    by : (b : Bool) → begins (λ t. expressions.is_suffix m t) ts ≡ b → reading levels (bind (lua.next_suffix m a) λ b. expressions.suffixes m b) ts ≡ cond (not b) (unexpected ts) (suffixes_at levels m a ts)
    by true h = sym (unrolls levels (λ b t. expressions.is_suffix m t) (λ b t. expressions.suffix_use b t) (λ b t. expressions.suffix_opens m (expressions.suffix_of t.symbol)) (λ t x b. expressions.suffix m (expressions.suffix_of t.symbol) t x b) (sample symbols.Dot) a ts h)
    by false h =
        ap (λ (o : Outcome (Token × Tree)). (o >>= λ x mid. reading levels (expressions.suffix m (expressions.suffix_of x.0.symbol) x.0 x.1 a) mid) >>= λ d mid. reading levels (expressions.suffixes m d) mid)
        (refuses levels (λ t. expressions.is_suffix m t) (λ t. expressions.suffix_use a t) (λ t. expressions.suffix_opens m (expressions.suffix_of t.symbol)) (sample symbols.Dot) ts h)
        ∙ go ts

-- ---- statements by their first token

-- what a statement has behind its first token
abbrev pub behind : ℕ → Context → Token → List Token → Outcome Tree
behind levels c t mid = opened_at levels (lua.statement_opens c (lua.statement_of t.symbol)) mid >>= λ x rest. reading levels (lua.statement c (lua.statement_of t.symbol) t x) rest

-- what such a call or assignment has behind its prefix expression
abbrev target_behind : ℕ → Mode → Place → Chained → List Token → Outcome Tree
target_behind levels m place a b =
    cond (is_call a.kind) (Took (trees.CallStatement place a.tree) b) (more_elements_at levels (elements.Target m) (More Nothing a.tree) b >>= λ targets c. expressions_behind_at levels symbols.Equal (codes.Lua m) c >>= λ es rest. Took (trees.Assign place targets es) rest)

name_statement : (levels : ℕ) (c : Context) (text : List ℕ) (place : Place) (offset : ℕ) (first : Bool) (ts : List Token) (b : Option SyntaxKind) →
    let t : Token = token_with symbols.Name text place offset first in
    (used_here b t ts >>= λ u mid. behind levels c t mid)
    ≡ ((((used_here b t ts >>= λ t rest. Took (trees.Name t.place t.offset t.text) rest) >>= λ n rest. Took (chained n chain operands.Name) rest) >>= λ d rest. cond (is_other d.kind && not (begins (λ t. expressions.is_suffix c.mode t) rest)) (unexpected rest) (suffixes_at levels c.mode d rest)) >>= λ a b. target_behind levels c.mode place a b)
unfolding suffixes_at
name_statement levels c text place offset first ts (Some kind) = refl
name_statement levels c text place offset first ts None =
    let t : Token = token_with symbols.Name text place offset first in
    bind_same (reading levels (expressions.suffixes c.mode (chained (trees.Name place offset text) chain operands.Name)) ts) (λ a rest. reading levels (lua.call_or_assignment c.mode t a.kind a.tree) rest) (λ a b. target_behind levels c.mode place a b) (λ a rest. target_agrees levels c.mode place a.kind a.tree t rest refl)

paren_statement : (levels : ℕ) (c : Context) (text : List ℕ) (place : Place) (offset : ℕ) (first : Bool) (ts : List Token) (b : Option SyntaxKind) →
    let t : Token = token_with symbols.OpenParen text place offset first in
    (used_here b t ts >>= λ u mid. behind levels c t mid)
    ≡ (((used_here b t ts >>= λ t a. part_at (levels - 1) (Expression c.mode) a >>= λ x b. sign_at symbols.CloseParen b >>= λ y rest. Took (chained (trees.Paren t.place x) chain operands.Other) rest) >>= λ d rest. cond (is_other d.kind && not (begins (λ t. expressions.is_suffix c.mode t) rest)) (unexpected rest) (suffixes_at levels c.mode d rest)) >>= λ a b. target_behind levels c.mode place a b)
paren_statement levels c text place offset first ts (Some kind) = refl
paren_statement levels c text place offset first ts None = inner (part_at (levels - 1) (Expression c.mode) ts)
  where
    t : Token
    t = token_with symbols.OpenParen text place offset first

    last : (x : Tree) (rest : List Token) → reading levels (bind (lua.next_suffix c.mode (chained (trees.Paren place x) chain operands.Other)) λ b. bind (expressions.suffixes c.mode b) λ a. lua.call_or_assignment c.mode t a.kind a.tree) rest
        ≡ (cond (not (begins (λ t. expressions.is_suffix c.mode t) rest)) (unexpected rest) (suffixes_at levels c.mode (chained (trees.Paren place x) chain operands.Other) rest) >>= λ a b. target_behind levels c.mode place a b)
    last x rest =
        sym (bind_again (reading levels (lua.next_suffix c.mode (chained (trees.Paren place x) chain operands.Other)) rest) (λ b mid. reading levels (expressions.suffixes c.mode b) mid) (λ a mid. reading levels (lua.call_or_assignment c.mode t a.kind a.tree) mid))
        ∙ ap (λ (o : Outcome Chained). o >>= λ a mid. reading levels (lua.call_or_assignment c.mode t a.kind a.tree) mid) (next_suffix_then levels c.mode (chained (trees.Paren place x) chain operands.Other) rest)
        ∙ bind_same (cond (not (begins (λ t. expressions.is_suffix c.mode t) rest)) (unexpected rest) (suffixes_at levels c.mode (chained (trees.Paren place x) chain operands.Other) rest)) (λ a mid. reading levels (lua.call_or_assignment c.mode t a.kind a.tree) mid) (λ a b. target_behind levels c.mode place a b) (λ a mid. target_agrees levels c.mode place a.kind a.tree t mid refl)

    close : (x : Tree) (o : Outcome Token) → (o >>= λ y rest. reading levels (bind (lua.next_suffix c.mode (chained (trees.Paren place x) chain operands.Other)) λ b. bind (expressions.suffixes c.mode b) λ a. lua.call_or_assignment c.mode t a.kind a.tree) rest)
        ≡ (((o >>= λ y rest. Took (chained (trees.Paren place x) chain operands.Other) rest) >>= λ d rest. cond (is_other d.kind && not (begins (λ t. expressions.is_suffix c.mode t) rest)) (unexpected rest) (suffixes_at levels c.mode d rest)) >>= λ a b. target_behind levels c.mode place a b)
    close x (Took y rest) = last x rest
    close x (Stop kind rest) = refl

    inner : (o : Outcome Tree) → (o >>= λ x rest. reading levels (lua.statement c lua.FromParen t x) rest)
        ≡ (((o >>= λ x b. sign_at symbols.CloseParen b >>= λ y rest. Took (chained (trees.Paren place x) chain operands.Other) rest) >>= λ d rest. cond (is_other d.kind && not (begins (λ t. expressions.is_suffix c.mode t) rest)) (unexpected rest) (suffixes_at levels c.mode d rest)) >>= λ a b. target_behind levels c.mode place a b)
    inner (Took x rest) =
        sign_then levels symbols.CloseParen (λ y. bind (lua.next_suffix c.mode (chained (trees.Paren place x) chain operands.Other)) λ b. bind (expressions.suffixes c.mode b) λ a. lua.call_or_assignment c.mode t a.kind a.tree) (λ y us. reading levels (bind (lua.next_suffix c.mode (chained (trees.Paren place x) chain operands.Other)) λ b. bind (expressions.suffixes c.mode b) λ a. lua.call_or_assignment c.mode t a.kind a.tree) us) (λ y us. refl) rest
        ∙ close x (sign_at symbols.CloseParen rest)
    inner (Stop kind rest) = refl

if_behind : (levels : ℕ) (c : Context) (place : Place) (ts : List Token) →
    reading levels (bind (lua.arm c Nothing) λ first. bind (lua.arms c first) λ all. bind (lua.otherwise c) λ o. bind (sign symbols.End) λ y. give (trees.If place all o)) ts
    ≡ (arms_at levels (block_codes.Lua c) ts >>= λ all b. otherwise_at levels (block_codes.Lua c) b >>= λ o d. sign_at symbols.End d >>= λ y rest. Took (trees.If place all o) rest)
unfolding arms_at more_arms_at
if_behind levels c place ts =
    ap (λ (o : Outcome Tree). o >>= λ first a. reading levels (bind (lua.arms c first) λ all. bind (lua.otherwise c) λ o. bind (sign symbols.End) λ y. give (trees.If place all o)) a) (arm_agrees levels c Nothing ts)
    ∙ bind_again (arm_at levels (block_codes.Lua c) ts) (λ x rest. Took (More Nothing x) rest) (λ first a. reading levels (bind (lua.arms c first) λ all. bind (lua.otherwise c) λ o. bind (sign symbols.End) λ y. give (trees.If place all o)) a)
    ∙ bind_same (arm_at levels (block_codes.Lua c) ts) (λ x a. reading levels (bind (lua.arms c (More Nothing x)) λ all. bind (lua.otherwise c) λ o. bind (sign symbols.End) λ y. give (trees.If place all o)) a) (λ x a. more_arms_at levels (block_codes.Lua c) (More Nothing x) a >>= λ all b. otherwise_at levels (block_codes.Lua c) b >>= λ o d. sign_at symbols.End d >>= λ y rest. Took (trees.If place all o) rest)
    (λ x a. then levels (lua.arms c (More Nothing x)) (λ all. bind (lua.otherwise c) λ o. bind (sign symbols.End) λ y. give (trees.If place all o)) (λ us. more_arms_at levels (block_codes.Lua c) (More Nothing x) us) (λ all b. otherwise_at levels (block_codes.Lua c) b >>= λ o d. sign_at symbols.End d >>= λ y rest. Took (trees.If place all o) rest) (λ us. refl)
    (λ all b. then levels (lua.otherwise c) (λ o. bind (sign symbols.End) λ y. give (trees.If place all o)) (λ us. otherwise_at levels (block_codes.Lua c) us) (λ o d. sign_at symbols.End d >>= λ y rest. Took (trees.If place all o) rest) (λ us. otherwise_agrees levels c us)
    (λ o d. sign_then levels symbols.End (λ y. give (trees.If place all o)) (λ y rest. Took (trees.If place all o) rest) (λ y us. refl) d) b) a)
    ∙ sym (bind_again (arm_at levels (block_codes.Lua c) ts) (λ x a. more_arms_at levels (block_codes.Lua c) (More Nothing x) a) (λ all b. otherwise_at levels (block_codes.Lua c) b >>= λ o d. sign_at symbols.End d >>= λ y rest. Took (trees.If place all o) rest))

for_behind : (levels : ℕ) (c : Context) (t : Token) (ts : List Token) →
    reading levels (bind name λ n. when (is symbols.Equal) (lua.numeric_for c t n) (lua.generic_for c t n)) ts
    ≡ (name_at ts >>= λ n b. cond (begins (is symbols.Equal) b) (numeric_at levels (block_codes.Lua c) b >>= λ r rest. Took (trees.NumericFor t.place n r.from r.limit r.step r.block) rest)
    (more_names_at levels (More Nothing n) b >>= λ ns d. generic_at levels c d >>= λ r rest. Took (trees.GenericFor t.place ns r.values r.block) rest))
unfolding more_names_at
for_behind levels c t ts =
    then levels name (λ n. when (is symbols.Equal) (lua.numeric_for c t n) (lua.generic_for c t n)) (λ us. name_at us)
    (λ n b. cond (begins (is symbols.Equal) b) (numeric_at levels (block_codes.Lua c) b >>= λ r rest. Took (trees.NumericFor t.place n r.from r.limit r.step r.block) rest) (more_names_at levels (More Nothing n) b >>= λ ns d. generic_at levels c d >>= λ r rest. Took (trees.GenericFor t.place ns r.values r.block) rest))
    (λ us. name_agrees levels us)
    (λ n b. either_is (begins (is symbols.Equal) b) (reading levels (lua.numeric_for c t n) b) (reading levels (lua.generic_for c t n) b) (numeric_at levels (block_codes.Lua c) b >>= λ r rest. Took (trees.NumericFor t.place n r.from r.limit r.step r.block) rest) (more_names_at levels (More Nothing n) b >>= λ ns d. generic_at levels c d >>= λ r rest. Took (trees.GenericFor t.place ns r.values r.block) rest)
    (numeric_agrees levels c t n b)
    (then levels (listed_behind name (More Nothing n)) (λ ns. bind (sign symbols.In) λ y. bind (expressions.expressions c.mode) λ es. bind (lua.loop c) λ x. give (trees.GenericFor t.place ns es x)) (λ us. more_names_at levels (More Nothing n) us) (λ ns d. generic_at levels c d >>= λ r rest. Took (trees.GenericFor t.place ns r.values r.block) rest) (λ us. refl) (λ ns d. generic_agrees levels c t ns d) b)) ts

local_behind : (levels : ℕ) (c : Context) (t : Token) (ts : List Token) →
    reading levels (lua.statement c lua.FromLocal t Nothing) ts
    ≡ cond (begins (is symbols.Function) ts) (local_function_at levels t.place ts) (cond (begins (among definition_symbols) ts) (local_terra_at levels c.mode t.place ts) (local_names_at levels c.mode t.place ts))
local_behind levels c t ts =
    either_is (begins (is symbols.Function) ts) (reading levels (bind (sign symbols.Function) λ y. bind name λ n. bind (opening symbols.OpenParen FunctionBody) λ b. give (trees.LocalFunction t.place n b.1)) ts)
    (cond (begins (λ t. lua.begins_local_terra t) ts) (reading levels (lua.local_terra c t) ts) (reading levels (bind names λ ns. bind (lua.initial_values c.mode) λ es. give (trees.Local t.place ns es)) ts))
    (local_function_at levels t.place ts) (cond (begins (among definition_symbols) ts) (local_terra_at levels c.mode t.place ts) (local_names_at levels c.mode t.place ts))
    (local_function_agrees levels t.place ts)
    (ap (λ (b : Bool). cond b (reading levels (lua.local_terra c t) ts) (reading levels (bind names λ ns. bind (lua.initial_values c.mode) λ es. give (trees.Local t.place ns es)) ts)) (begins_local_terra_is ts)
    ∙ either_is (begins (among definition_symbols) ts) (reading levels (lua.local_terra c t) ts) (reading levels (bind names λ ns. bind (lua.initial_values c.mode) λ es. give (trees.Local t.place ns es)) ts)
    (local_terra_at levels c.mode t.place ts) (local_names_at levels c.mode t.place ts) (local_terra_agrees levels c t ts) (local_names_agree levels c.mode t.place ts))

pub statement_by : (levels : ℕ) (c : Context) (symbol : Symbol) (text : List ℕ) (place : Place) (offset : ℕ) (first : Bool) (ts : List Token) → is_of (λ t. lua.is_statement c t) (token_with symbol text place offset first) ≡ true →
    (used_here (barred (opens_any (lua.statement_opens c (lua.statement_of symbol))) levels Plain (token_with symbol text place offset first)) (token_with symbol text place offset first) ts >>= λ u mid. behind levels c (token_with symbol text place offset first) mid)
    ≡ statement_at levels c (token_with symbol text place offset first ∷ ts)
unfolding statement_at do_at while_at repeat_at if_at for_at function_statement_at local_at return_at break_at emit_at call_or_assignment_at applied_at base_at paren_at name_at sign_at open_at used
statement_by levels c symbols.Do text place offset first ts h =
    let t : Token = token_with symbols.Do text place offset first in
    use_same (barred true levels Plain t) t ts (λ u mid. behind levels c t mid) (λ t a. part_at (levels - 1) (Statements c) a >>= λ x b. sign_at symbols.End b >>= λ y rest. Took (trees.Do t.place x) rest)
    (bind_same (part_at (levels - 1) (Statements c) ts) (λ x rest. reading levels (bind (sign symbols.End) λ y. give (trees.Do place x)) rest) (λ x b. sign_at symbols.End b >>= λ y rest. Took (trees.Do place x) rest) (λ x b. sign_then levels symbols.End (λ y. give (trees.Do place x)) (λ y rest. Took (trees.Do place x) rest) (λ y us. refl) b))
statement_by levels c symbols.While text place offset first ts h =
    let t : Token = token_with symbols.While text place offset first in
    use_same (barred false levels Plain t) t ts (λ u mid. behind levels c t mid) (λ t a. part_at levels (Expression c.mode) a >>= λ e b. loop_at levels (block_codes.Lua c) b >>= λ x rest. Took (trees.While t.place e x) rest)
    (then levels (expressions.expression c.mode) (λ e. bind (lua.loop c) λ x. give (trees.While place e x)) (λ us. part_at levels (Expression c.mode) us) (λ e b. loop_at levels (block_codes.Lua c) b >>= λ x rest. Took (trees.While place e x) rest) (λ us. expression_agrees levels c.mode us)
    (λ e b. then levels (lua.loop c) (λ x. give (trees.While place e x)) (λ us. loop_at levels (block_codes.Lua c) us) (λ x rest. Took (trees.While place e x) rest) (λ us. loop_agrees levels c us) (λ x us. refl) b) ts)
statement_by levels c symbols.Repeat text place offset first ts h =
    let t : Token = token_with symbols.Repeat text place offset first in
    use_same (barred true levels Plain t) t ts (λ u mid. behind levels c t mid) (λ t a. part_at (levels - 1) (Statements (looped c)) a >>= λ x b. expression_behind_at levels symbols.Until (codes.Lua c.mode) b >>= λ e rest. Took (trees.Repeat t.place x e) rest)
    (bind_same (part_at (levels - 1) (Statements (looped c)) ts) (λ x rest. reading levels (bind (sign symbols.Until) λ y. bind (expressions.expression c.mode) λ e. give (trees.Repeat place x e)) rest) (λ x b. expression_behind_at levels symbols.Until (codes.Lua c.mode) b >>= λ e rest. Took (trees.Repeat place x e) rest)
    (λ x b. behind_give levels symbols.Until (codes.Lua c.mode) (λ e. trees.Repeat place x e) b))
statement_by levels c symbols.If text place offset first ts h =
    let t : Token = token_with symbols.If text place offset first in
    use_same (barred false levels Plain t) t ts (λ u mid. behind levels c t mid) (λ t a. arms_at levels (block_codes.Lua c) a >>= λ all b. otherwise_at levels (block_codes.Lua c) b >>= λ o d. sign_at symbols.End d >>= λ y rest. Took (trees.If t.place all o) rest) (if_behind levels c place ts)
statement_by levels c symbols.For text place offset first ts h =
    let t : Token = token_with symbols.For text place offset first in
    use_same (barred false levels Plain t) t ts (λ u mid. behind levels c t mid)
    (λ t a. name_at a >>= λ n b. cond (begins (is symbols.Equal) b) (numeric_at levels (block_codes.Lua c) b >>= λ r rest. Took (trees.NumericFor t.place n r.from r.limit r.step r.block) rest) (more_names_at levels (More Nothing n) b >>= λ ns d. generic_at levels c d >>= λ r rest. Took (trees.GenericFor t.place ns r.values r.block) rest))
    (for_behind levels c t ts)
statement_by levels c symbols.Function text place offset first ts h =
    let t : Token = token_with symbols.Function text place offset first in
    use_same (barred false levels Plain t) t ts (λ u mid. behind levels c t mid) (λ t a. path_at levels a >>= λ p b. opened_body_at levels b >>= λ x rest. Took (trees.DefineFunction t.place p x) rest)
    (then levels lua.path (λ p. bind (opening symbols.OpenParen FunctionBody) λ b. give (trees.DefineFunction place p b.1)) (λ us. path_at levels us) (λ p b. opened_body_at levels b >>= λ x rest. Took (trees.DefineFunction place p x) rest) (λ us. path_agrees levels us)
    (λ p b. body_give levels (λ x. trees.DefineFunction place p x) b) ts)
statement_by levels c symbols.Local text place offset first ts h =
    let t : Token = token_with symbols.Local text place offset first in
    use_same (barred false levels Plain t) t ts (λ u mid. behind levels c t mid) (λ t a. cond (begins (is symbols.Function) a) (local_function_at levels t.place a) (cond (begins (among definition_symbols) a) (local_terra_at levels c.mode t.place a) (local_names_at levels c.mode t.place a))) (local_behind levels c t ts)
statement_by levels c symbols.Return text place offset first ts h =
    let t : Token = token_with symbols.Return text place offset first in
    use_same (barred false levels Plain t) t ts (λ u mid. behind levels c t mid) (λ t a. returned_values_at levels (codes.Lua c.mode) a >>= λ es rest. Took (trees.Return t.place es) rest)
    (then levels (lua.returned_values c.mode) (λ es. give (trees.Return place es)) (λ us. returned_values_at levels (codes.Lua c.mode) us) (λ es rest. Took (trees.Return place es) rest) (λ us. returned_values_agree levels c.mode us) (λ es us. refl) ts)
statement_by levels c symbols.Break text place offset first ts h =
    let t : Token = token_with symbols.Break text place offset first in
    use_same (barred false levels Plain t) t ts (λ u mid. behind levels c t mid) (λ t rest. Took (trees.Break t.place) rest) refl
statement_by levels c symbols.Emit text place offset first ts h =
    let t : Token = token_with symbols.Emit text place offset first in
    use_same (barred false levels Plain t) t ts (λ u mid. behind levels c t mid) (λ t a. part_at levels (Expression c.mode) a >>= λ e rest. Took (trees.Emit t.place e) rest)
    (then levels (expressions.expression c.mode) (λ e. give (trees.Emit place e)) (λ us. part_at levels (Expression c.mode) us) (λ e rest. Took (trees.Emit place e) rest) (λ us. expression_agrees levels c.mode us) (λ e us. refl) ts)
statement_by levels c symbols.Terra text place offset first ts h = define_terra_is levels c (token_with symbols.Terra text place offset first) ts refl
statement_by levels c symbols.Struct text place offset first ts h = define_struct_is levels c (token_with symbols.Struct text place offset first) ts refl
statement_by levels c symbols.Name text place offset first ts h = name_statement levels c text place offset first ts (barred false levels Plain (token_with symbols.Name text place offset first))
statement_by levels c symbols.OpenParen text place offset first ts h = paren_statement levels c text place offset first ts (barred true levels Plain (token_with symbols.OpenParen text place offset first))
statement_by levels c _ text place offset first ts h = absurd (never h)

-- ---- functions

parameter_agrees : (levels : ℕ) (before : Tree) (ts : List Token) → reading levels (lua.parameter before) ts ≡ (parameter_at ts >>= λ o rest. Took (with_parameter before o) rest)
unfolding parameter_at
parameter_agrees levels before ts = by (begins (is symbols.Ellipsis) ts)
  where
    go : (o : Outcome Token) → (o >>= λ y rest. Took (parameters_of before true) rest) ≡ ((o >>= λ y rest. Took None rest) >>= λ o rest. Took (with_parameter before o) rest)
    go (Took t rest) = refl
    go (Stop kind rest) = refl

    named : (o : Outcome Tree) → (o >>= λ n rest. Took (parameters_of (More before n) false) rest) ≡ ((o >>= λ n rest. Took (Some n) rest) >>= λ o rest. Took (with_parameter before o) rest)
    named (Took n rest) = refl
    named (Stop kind rest) = refl

    by : (b : Bool) → cond b (reading levels (bind (sign symbols.Ellipsis) λ y. give (parameters_of before true)) ts) (reading levels (bind name λ n. give (parameters_of (More before n) false)) ts)
        ≡ (cond b (sign_at symbols.Ellipsis ts >>= λ y rest. Took None rest) (name_at ts >>= λ n rest. Took (Some n) rest) >>= λ o rest. Took (with_parameter before o) rest)
    by true = sign_then levels symbols.Ellipsis (λ y. give (parameters_of before true)) (λ y rest. Took (parameters_of before true) rest) (λ y us. refl) ts ∙ go (sign_at symbols.Ellipsis ts)
    by false = ap (λ (o : Outcome Tree). o >>= λ n rest. Took (parameters_of (More before n) false) rest) (name_agrees levels ts) ∙ named (name_at ts)

pub parameter_turn : (levels : ℕ) (before : Tree) (variadic : Bool) (ts : List Token) → not variadic ≡ true →
    reading levels (bind (token (λ t. is symbols.Comma t && not variadic) (λ t. Plain) (λ t. None) (sample symbols.Comma)) λ x. lua.parameter before) ts
    ≡ ((sign_at symbols.Comma ts >>= λ y a. parameter_at a) >>= λ o rest. Took (with_parameter before o) rest)
unfolding sign_at
parameter_turn levels before true ts h = absurd cc
parameter_turn levels before false ts h =
    ap (λ (o : Outcome (Token × Tree)). o >>= λ x mid. reading levels (lua.parameter before) mid) (plain_is levels (λ t. is symbols.Comma t && true) Plain (sample symbols.Comma) ts ∙ ap (λ (o : Outcome Token). o >>= λ t rest. Took (both t Nothing) rest) (plainly ts))
    ∙ go (used (is symbols.Comma) false 0 Plain ts)
  where
    and_true : (a : Bool) → (a && true) ≡ a
    and_true true = refl
    and_true false = refl

    plainly : (ts : List Token) → used (λ t. is symbols.Comma t && true) false 0 Plain ts ≡ used (is symbols.Comma) false 0 Plain ts
    plainly ts = used_classes (λ t. is symbols.Comma t && true) (is symbols.Comma) false 0 Plain (λ t. and_true (is symbols.Comma t)) ts

    go : (o : Outcome Token) → ((o >>= λ t rest. Took (both t Nothing) rest) >>= λ x mid. reading levels (lua.parameter before) mid) ≡ ((o >>= λ y a. parameter_at a) >>= λ o rest. Took (with_parameter before o) rest)
    go (Took t rest) = parameter_agrees levels before rest
    go (Stop kind rest) = refl

parameters_agree : (levels : ℕ) (ts : List Token) → reading levels lua.parameters ts ≡ parameters_at levels ts
unfolding parameters_at more_parameters_at
parameters_agree levels ts =
    either_is (begins (is symbols.CloseParen) ts) (Took (parameters_of Nothing false) ts) (reading levels (bind (lua.parameter Nothing) λ p. more_parameters p) ts) (Took (parameters_of Nothing false) ts) (parameter_at ts >>= λ o rest. more_parameters_at levels (with_parameter Nothing o).names (with_parameter Nothing o).variadic rest)
    refl
    (ap (λ (o : Outcome Parameters). o >>= λ p rest. reading levels (more_parameters p) rest) (parameter_agrees levels Nothing ts)
    ∙ bind_again (parameter_at ts) (λ o rest. Took (with_parameter Nothing o) rest) (λ p rest. reading levels (more_parameters p) rest))

pub body_agrees : (levels : ℕ) (ts : List Token) → part_at levels FunctionBody ts ≡ body_at levels ts
unfolding body_at part_at
body_agrees levels ts =
    then levels lua.parameters (λ p. bind (sign symbols.CloseParen) λ y. bind (lua.block (fresh (body_mode p.variadic))) λ b. bind (sign symbols.End) λ z. give (trees.Body p.names p.variadic b)) (λ us. parameters_at levels us)
    (λ p a. sign_at symbols.CloseParen a >>= λ y b. part_at levels (Statements (fresh (body_mode p.variadic))) b >>= λ x d. sign_at symbols.End d >>= λ z rest. Took (trees.Body p.names p.variadic x) rest) (λ us. parameters_agree levels us)
    (λ p a. sign_then levels symbols.CloseParen (λ y. bind (lua.block (fresh (body_mode p.variadic))) λ b. bind (sign symbols.End) λ z. give (trees.Body p.names p.variadic b)) (λ y b. part_at levels (Statements (fresh (body_mode p.variadic))) b >>= λ x d. sign_at symbols.End d >>= λ z rest. Took (trees.Body p.names p.variadic x) rest)
    (λ y b. then levels (lua.block (fresh (body_mode p.variadic))) (λ x. bind (sign symbols.End) λ z. give (trees.Body p.names p.variadic x)) (λ us. part_at levels (Statements (fresh (body_mode p.variadic))) us) (λ x d. sign_at symbols.End d >>= λ z rest. Took (trees.Body p.names p.variadic x) rest) (λ us. refl)
    (λ x d. sign_then levels symbols.End (λ z. give (trees.Body p.names p.variadic x)) (λ z rest. Took (trees.Body p.names p.variadic x) rest) (λ z us. refl) d) b) a) ts
