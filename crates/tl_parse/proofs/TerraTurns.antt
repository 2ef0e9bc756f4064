-- The repetitions in Terra expressions and in structs, turn by turn.
use Rattle.std.proofs.Common.{◌≡◌, ℕ, ◌-◌, ◌<◌, Bool, true, false, List, [], ◌∷◌, length, Option, Some, None, refl, sym, ap, ◌∙◌}
use Rattle.tl_base.specs.declared.place.Place.{Place}
use Rattle.tl_lex.specs.declared.SyntaxKind.{SyntaxKind}
use Rattle.tl_tree.specs.declared.mode.Mode.{Mode}
use Rattle.tl_tree.specs.declared.mode.OperandKind.{OperandKind}
use Rattle.tl_tree.specs.declared.mode.OperandKind.TheVariants as operands
use Rattle.tl_tree.specs.declared.mode.TokenUse.TheVariants.{Plain, Continues, Calls}
use Rattle.tl_tree.specs.declared.symbol.Symbol.{Symbol}
use Rattle.tl_tree.specs.declared.symbol.Symbol.TheVariants as symbols
use Rattle.tl_tree.specs.Tokens.{Token, is, among, sample}
use Rattle.tl_tree.specs.Tree.{Tree, Nothing, More, Name, Entry, TerraMethod, TerraSelect, TerraCall, TerraIndex, Construct, Part}
use Rattle.tl_tree.specs.Tree.{TerraExpression, TerraArguments, Initialisers}
use Rattle.tl_tree.specs.Grammar.{give, token, bind, when, Outcome, Took, Stop, ◌>>=◌, begins, is_of, down}
use Rattle.tl_tree.specs.Forms.{sign, opening, separator, Chained, chained, operand}
use Rattle.tl_tree.specs.LuaExpressions as lua
use Rattle.tl_tree.specs.TerraExpressions as terra
use Rattle.tl_tree.proofs.Unrolling.{bind_again}
use Rattle.tl_parse.specs.Views.Using.{reading, part_at, used, barred, sign_at, open_at, sign_among_at, operator_at, raise_at, call_at}
use Rattle.tl_parse.specs.Views.Expressions.{name_at, separators, more_if}
use Rattle.tl_parse.specs.Views.TerraExpressions.{TerraSuffixed, terra_attached, terra_kind_of, terra_name_at, terra_call_suffix_at}
use Rattle.tl_parse.specs.Views.TerraExpressions.{terra_index_suffix_at, terra_select_suffix_at, terra_method_suffix_at, construct_suffix_at}
use Rattle.tl_parse.specs.Views.TerraExpressions.{terra_suffix_at, terra_suffixes_at, terra_symbols_of, terra_inner_of, terra_inner_at}
use Rattle.tl_parse.specs.Views.TerraExpressions.{terra_more_at, terra_one_more_at}
use Rattle.tl_parse.specs.Views.TerraExpressions.{initialiser_of, initialiser_at, more_initialisers_at, next_initialiser_at}
use Rattle.tl_parse.specs.Views.TerraExpressions as suffixed
use Rattle.tl_parse.specs.Views.Entries.{separator_at, entry_at, more_entries_at}
use Rattle.tl_parse.specs.declared.terra_expressions.TerraPrecedence.{TerraPrecedence}
use Rattle.tl_parse.proofs.Uses.{never, both, operator_with, opened_at, opens_any, token_is, plain_is, sign_is, repeats, ends, shorter_turn}
use Rattle.tl_parse.specs.Views.Codes.{expression_behind_at}
use Rattle.tl_parse.specs.declared.parser.Code.TheVariants as codes
use Rattle.tl_parse.proofs.Following.{sign_then, open_then, then, either_is, behind_then}
use Rattle.tl_parse.proofs.TerraAgreeing.{terra_name_agrees, initialiser_agrees}
use Rattle.tl_parse.proofs.Turns.{operators_goes, operators_turn, fields_turn, used_here, used_use}
use Rattle.tl_parse.proofs.Turns.{use_behind}
use Rattle.tl_parse.proofs.Failing.{fails_after, fails_bind, fails_from, fails_same}
use Rattle.tl_parse.proofs.TerraParts.{entries_part, initialisers_part}

-- ---- operators

pub terra_operations_go : (levels : ℕ) (p : TerraPrecedence) (tree : Tree) (links : ℕ) (kind : OperandKind) (ts : List Token) → begins (among (terra_symbols_of p)) ts ≡ true → terra_more_at levels p (chained tree links kind) ts ≡ (terra_one_more_at levels p links ts >>= λ r rest. terra_more_at levels p (operand r.1.links (terra.terra_operation r.0 tree r.1.tree)) rest)
unfolding terra_more_at terra_one_more_at terra_inner_at
terra_operations_go levels p tree links kind ts h = operators_goes levels (terra_symbols_of p) (λ links. terra_inner_of p links) terra.terra_operation (chained tree links kind) ts h

pub terra_operations_end : (levels : ℕ) (p : TerraPrecedence) (a : Chained) (ts : List Token) → begins (among (terra_symbols_of p)) ts ≡ false → terra_more_at levels p a ts ≡ Took a ts
unfolding terra_more_at
terra_operations_end levels p a ts h = ends levels (λ a t. among (terra_symbols_of p) t) (λ a t. Continues a.links) (λ a t. None) (λ t y a. bind (terra_inner_of p (down a.links)) λ b. give (operand b.links (terra.terra_operation t a.tree b.tree))) a ts h

pub terra_operation_shorter : (levels : ℕ) (p : TerraPrecedence) (links : ℕ) (x : Token × Chained) (ts rest : List Token) → terra_one_more_at levels p links ts ≡ Took x rest → length rest < length ts
unfolding terra_one_more_at terra_inner_at
terra_operation_shorter levels p links x ts rest e =
    let a : Chained = operand links Nothing in
    shorter_turn levels (λ t. among (terra_symbols_of p) t) (λ t. Continues links) (λ t. None) (sample symbols.Plus) (λ y. bind (terra_inner_of p (down links)) λ b. give (operand b.links (terra.terra_operation y.0 Nothing b.tree)))
    (operator_at (terra_symbols_of p) links ts >>= λ t mid. reading levels (terra_inner_of p (down links)) mid >>= λ b rest. Took (operator_with t b) rest) (λ p. operand p.1.links (terra.terra_operation p.0 Nothing p.1.tree)) x ts rest (operators_turn levels (terra_symbols_of p) (λ links. terra_inner_of p links) terra.terra_operation (sample symbols.Plus) a ts) e

-- ---- initialisers

pub initialisers_go : (levels : ℕ) (named : Bool) (before : Tree) (ts : List Token) → begins (among separators) ts ≡ true → more_initialisers_at levels named before ts ≡ (next_initialiser_at levels named ts >>= λ f rest. more_initialisers_at levels named (more_if before f) rest)
unfolding more_initialisers_at next_initialiser_at
initialisers_go levels named before ts h =
    repeats levels (λ a t. among separators t) (λ a t. Plain) (λ a t. None) (λ t y a. when (is symbols.CloseBrace) (give a) (bind (initialiser_of named) λ e. give (More a e))) (sample symbols.Comma) before (next_initialiser_at levels named ts) (λ f. more_if before f) ts h
    (fields_turn levels (initialiser_of named) (λ us. initialiser_at levels named us) (λ us. initialiser_agrees levels named us) before ts)

pub initialisers_end : (levels : ℕ) (named : Bool) (before : Tree) (ts : List Token) → begins (among separators) ts ≡ false → more_initialisers_at levels named before ts ≡ Took before ts
unfolding more_initialisers_at
initialisers_end levels named before ts h = ends levels (λ a t. among separators t) (λ a t. Plain) (λ a t. None) (λ t y a. when (is symbols.CloseBrace) (give a) (bind (initialiser_of named) λ e. give (More a e))) before ts h

pub initialiser_shorter : (levels : ℕ) (named : Bool) (x : Option Tree) (ts rest : List Token) → next_initialiser_at levels named ts ≡ Took x rest → length rest < length ts
unfolding next_initialiser_at
initialiser_shorter levels named x ts rest e =
    shorter_turn levels (λ t. among separators t) (λ t. Plain) (λ t. None) (sample symbols.Comma) (λ y. when (is symbols.CloseBrace) (give Nothing) (bind (initialiser_of named) λ e. give (More Nothing e))) (next_initialiser_at levels named ts) (λ f. more_if Nothing f) x ts rest
    (fields_turn levels (initialiser_of named) (λ us. initialiser_at levels named us) (λ us. initialiser_agrees levels named us) Nothing ts) e

-- ---- entries of structs

separator_agrees : (levels : ℕ) (ts : List Token) → reading levels separator ts ≡ separator_at ts
unfolding separator_at sign_among_at
separator_agrees levels ts =
    either_is (begins (among separators) ts) (reading levels (bind (token (among separators) (λ t. Plain) (λ t. None) (sample symbols.Semicolon)) λ y. give Nothing) ts) (Took Nothing ts) (used (among separators) false 0 Plain ts >>= λ y rest. Took Nothing rest) (Took Nothing ts)
    (ap (λ (o : Outcome (Token × Tree)). o >>= λ y rest. Took Nothing rest) (plain_is levels (among separators) Plain (sample symbols.Semicolon) ts) ∙ bind_again (used (among separators) false 0 Plain ts) (λ t rest. Took (both t Nothing) rest) (λ y rest. Took Nothing rest))
    refl

entries_turn : (levels : ℕ) (m : Mode) (before : Tree) (ts : List Token) →
    reading levels (bind (sign symbols.Name) λ x. bind (sign symbols.Colon) λ y. bind (lua.expression m) λ e. bind separator λ z. give (More before (Entry (Name x.0.place x.0.offset x.0.text) e))) ts
    ≡ (entry_at levels m ts >>= λ e rest. Took (More before e) rest)
unfolding entry_at name_at
entries_turn levels m before ts =
    sign_then levels symbols.Name (λ x. bind (sign symbols.Colon) λ y. bind (lua.expression m) λ e. bind separator λ z. give (More before (Entry (Name x.0.place x.0.offset x.0.text) e))) (λ t a. behind_name (Name t.place t.offset t.text) a)
    (λ t a. behind_then levels symbols.Colon (codes.Lua m) (λ e. bind separator λ z. give (More before (Entry (Name t.place t.offset t.text) e))) (λ e b. separator_at b >>= λ z rest. Took (More before (Entry (Name t.place t.offset t.text) e)) rest)
    (λ e b. then levels separator (λ z. give (More before (Entry (Name t.place t.offset t.text) e))) (λ us. separator_at us) (λ z rest. Took (More before (Entry (Name t.place t.offset t.text) e)) rest) (λ us. separator_agrees levels us) (λ z us. refl) b) a) ts
    ∙ sym (go (sign_at symbols.Name ts))
  where
    behind_name : Tree → List Token → Outcome Tree
    behind_name n a = expression_behind_at levels symbols.Colon (codes.Lua m) a >>= λ e b. separator_at b >>= λ z rest. Took (More before (Entry n e)) rest

    value : (n : Tree) (o : Outcome Tree) → ((o >>= λ e b. separator_at b >>= λ z rest. Took (Entry n e) rest) >>= λ e rest. Took (More before e) rest) ≡ (o >>= λ e b. separator_at b >>= λ z rest. Took (More before (Entry n e)) rest)
    value n (Took e b) = bind_again (separator_at b) (λ z rest. Took (Entry n e) rest) (λ e rest. Took (More before e) rest)
    value n (Stop kind rest) = refl

    go : (o : Outcome Token) → (((o >>= λ t rest. Took (Name t.place t.offset t.text) rest) >>= λ n a. expression_behind_at levels symbols.Colon (codes.Lua m) a >>= λ e b. separator_at b >>= λ z rest. Took (Entry n e) rest) >>= λ e rest. Took (More before e) rest)
        ≡ (o >>= λ t a. behind_name (Name t.place t.offset t.text) a)
    go (Took t a) = value (Name t.place t.offset t.text) (expression_behind_at levels symbols.Colon (codes.Lua m) a)
    go (Stop kind rest) = refl

pub entries_go : (levels : ℕ) (m : Mode) (before : Tree) (ts : List Token) → begins (is symbols.Name) ts ≡ true → more_entries_at levels m before ts ≡ (entry_at levels m ts >>= λ e rest. more_entries_at levels m (More before e) rest)
unfolding more_entries_at
entries_go levels m before ts h =
    repeats levels (λ a t. is symbols.Name t) (λ a t. Plain) (λ a t. None) (λ t x a. bind (sign symbols.Colon) λ y. bind (lua.expression m) λ e. bind separator λ z. give (More a (Entry (Name t.place t.offset t.text) e))) (sample symbols.Name) before
    (entry_at levels m ts) (λ e. More before e) ts h (entries_turn levels m before ts)

pub entries_end : (levels : ℕ) (m : Mode) (before : Tree) (ts : List Token) → begins (is symbols.Name) ts ≡ false → more_entries_at levels m before ts ≡ Took before ts
unfolding more_entries_at
entries_end levels m before ts h =
    ends levels (λ a t. is symbols.Name t) (λ a t. Plain) (λ a t. None) (λ t x a. bind (sign symbols.Colon) λ y. bind (lua.expression m) λ e. bind separator λ z. give (More a (Entry (Name t.place t.offset t.text) e))) before ts h

pub entry_shorter : (levels : ℕ) (m : Mode) (x : Tree) (ts rest : List Token) → entry_at levels m ts ≡ Took x rest → length rest < length ts
entry_shorter levels m x ts rest e =
    shorter_turn levels (λ t. is symbols.Name t) (λ t. Plain) (λ t. None) (sample symbols.Name) (λ x. bind (sign symbols.Colon) λ y. bind (lua.expression m) λ e. bind separator λ z. give (More Nothing (Entry (Name x.0.place x.0.offset x.0.text) e)))
    (entry_at levels m ts) (λ e. More Nothing e) x ts rest (entries_turn levels m Nothing ts) e

-- ---- suffixes

-- the tree of a whole suffix
abbrev with_suffix : Chained → TerraSuffixed → Chained
with_suffix a s = chained (terra_attached s a.tree) (down a.links) (terra_kind_of s)

-- what a turn does behind its token
abbrev behind : ℕ → Chained → Token → List Token → Outcome Chained
behind levels a t mid = opened_at levels (terra.terra_suffix_opens (terra.terra_suffix_of t.symbol)) mid >>= λ x rest. reading levels (terra.terra_suffix (terra.terra_suffix_of t.symbol) t x a) rest

turn_of : (levels : ℕ) (a : Chained) (t : Token) (ts : List Token) (b : Option SyntaxKind) →
    ((used_here b t ts >>= λ u mid. opened_at levels (terra.terra_suffix_opens (terra.terra_suffix_of t.symbol)) mid >>= λ x rest. Took (both u x) rest) >>= λ x mid. reading levels (terra.terra_suffix (terra.terra_suffix_of x.0.symbol) x.0 x.1 a) mid) ≡ (used_here b t ts >>= λ u mid. behind levels a t mid)
turn_of levels a t ts None = bind_again (opened_at levels (terra.terra_suffix_opens (terra.terra_suffix_of t.symbol)) ts) (λ x rest. Took (both t x) rest) (λ x mid. reading levels (terra.terra_suffix (terra.terra_suffix_of x.0.symbol) x.0 x.1 a) mid)
turn_of levels a t ts (Some kind) = refl

suffix_token : (levels : ℕ) (a : Chained) (t : Token) (ts : List Token) → is_of (λ t. terra.is_terra_suffix t) t ≡ true →
    reading levels (bind (token (λ t. terra.is_terra_suffix t) (λ t. lua.suffix_use a t) (λ t. terra.terra_suffix_opens (terra.terra_suffix_of t.symbol)) (sample symbols.Dot)) λ x. terra.terra_suffix (terra.terra_suffix_of x.0.symbol) x.0 x.1 a) (t ∷ ts)
    ≡ (used_here (barred (opens_any (terra.terra_suffix_opens (terra.terra_suffix_of t.symbol))) levels (lua.suffix_use a t) t) t ts >>= λ u mid. behind levels a t mid)
suffix_token levels a t ts h =
    ap (λ (o : Outcome (Token × Tree)). o >>= λ x mid. reading levels (terra.terra_suffix (terra.terra_suffix_of x.0.symbol) x.0 x.1 a) mid) (token_is levels (λ t. terra.is_terra_suffix t) (λ t. lua.suffix_use a t) (λ t. terra.terra_suffix_opens (terra.terra_suffix_of t.symbol)) (sample symbols.Dot) t ts)
    ∙ ap (λ (o : Outcome Token). (o >>= λ u mid. opened_at levels (terra.terra_suffix_opens (terra.terra_suffix_of t.symbol)) mid >>= λ x rest. Took (both u x) rest) >>= λ x mid. reading levels (terra.terra_suffix (terra.terra_suffix_of x.0.symbol) x.0 x.1 a) mid) (used_use (λ t. terra.is_terra_suffix t) (opens_any (terra.terra_suffix_opens (terra.terra_suffix_of t.symbol))) levels (lua.suffix_use a t) t ts h)
    ∙ turn_of levels a t ts (barred (opens_any (terra.terra_suffix_opens (terra.terra_suffix_of t.symbol))) levels (lua.suffix_use a t) t)

-- a part and a sign behind it
part_behind : (levels : ℕ) (part : Part) (s : Symbol) (a : Chained) (v : Tree → Chained) (w : Tree → TerraSuffixed) (us : List Token) → ((x : Tree) → with_suffix a (w x) ≡ v x) →
    (part_at (levels - 1) part us >>= λ x rest. reading levels (bind (sign s) λ y. give (v x)) rest) ≡ ((part_at (levels - 1) part us >>= λ x b. sign_at s b >>= λ y rest. Took (w x) rest) >>= λ r rest. Took (with_suffix a r) rest)
part_behind levels part s a v w us e = go (part_at (levels - 1) part us)
  where
    closing : (x : Tree) (o : Outcome Token) → ((o >>= λ t rest. Took (both t Nothing) rest) >>= λ y rest. Took (v x) rest) ≡ ((o >>= λ y rest. Took (w x) rest) >>= λ r rest. Took (with_suffix a r) rest)
    closing x (Took t rest) = ap (λ (c : Chained). Took c rest) (sym (e x))
    closing x (Stop kind rest) = refl

    go : (o : Outcome Tree) → (o >>= λ x rest. reading levels (bind (sign s) λ y. give (v x)) rest) ≡ ((o >>= λ x b. sign_at s b >>= λ y rest. Took (w x) rest) >>= λ r rest. Took (with_suffix a r) rest)
    go (Took x b) = ap (λ (o : Outcome (Token × Tree)). o >>= λ y rest. Took (v x) rest) (sign_is levels s b) ∙ closing x (sign_at s b)
    go (Stop kind rest) = refl

-- a method's name and its arguments
method_behind : (levels : ℕ) (a : Chained) (place : Place) (ts : List Token) →
    reading levels (bind terra.terra_name λ n. bind (opening symbols.OpenParen TerraArguments) λ es. bind (sign symbols.CloseParen) λ y. give (lua.called a (TerraMethod place a.tree n es.1))) ts
    ≡ ((terra_name_at levels ts >>= λ n b. open_at symbols.OpenParen levels b >>= λ u c. part_at (levels - 1) TerraArguments c >>= λ x d. sign_at symbols.CloseParen d >>= λ y rest. Took (suffixed.CallsMethod place n x) rest) >>= λ r rest. Took (with_suffix a r) rest)
method_behind levels a place ts =
    then levels terra.terra_name (λ n. bind (opening symbols.OpenParen TerraArguments) λ es. bind (sign symbols.CloseParen) λ y. give (lua.called a (TerraMethod place a.tree n es.1))) (λ us. terra_name_at levels us)
    (λ n b. open_at symbols.OpenParen levels b >>= λ u c. part_at (levels - 1) TerraArguments c >>= λ x d. sign_at symbols.CloseParen d >>= λ y rest. Took (lua.called a (TerraMethod place a.tree n x)) rest) (λ us. terra_name_agrees levels us)
    (λ n b. open_then levels symbols.OpenParen TerraArguments (λ es. bind (sign symbols.CloseParen) λ y. give (lua.called a (TerraMethod place a.tree n es.1))) (λ u x d. sign_at symbols.CloseParen d >>= λ y rest. Took (lua.called a (TerraMethod place a.tree n x)) rest)
    (λ u x d. sign_then levels symbols.CloseParen (λ y. give (lua.called a (TerraMethod place a.tree n x))) (λ y rest. Took (lua.called a (TerraMethod place a.tree n x)) rest) (λ y us. refl) d) b) ts
    ∙ sym (go (terra_name_at levels ts))
  where
    arguments : (n : Tree) (o : Outcome Tree) → ((o >>= λ x d. sign_at symbols.CloseParen d >>= λ y rest. Took (suffixed.CallsMethod place n x) rest) >>= λ r rest. Took (with_suffix a r) rest) ≡ (o >>= λ x d. sign_at symbols.CloseParen d >>= λ y rest. Took (lua.called a (TerraMethod place a.tree n x)) rest)
    arguments n (Took x d) = bind_again (sign_at symbols.CloseParen d) (λ y rest. Took (suffixed.CallsMethod place n x) rest) (λ r rest. Took (with_suffix a r) rest)
    arguments n (Stop kind rest) = refl

    bracket : (n : Tree) (o : Outcome Token) → ((o >>= λ u c. part_at (levels - 1) TerraArguments c >>= λ x d. sign_at symbols.CloseParen d >>= λ y rest. Took (suffixed.CallsMethod place n x) rest) >>= λ r rest. Took (with_suffix a r) rest)
        ≡ (o >>= λ u c. part_at (levels - 1) TerraArguments c >>= λ x d. sign_at symbols.CloseParen d >>= λ y rest. Took (lua.called a (TerraMethod place a.tree n x)) rest)
    bracket n (Took u c) = arguments n (part_at (levels - 1) TerraArguments c)
    bracket n (Stop kind rest) = refl

    go : (o : Outcome Tree) → ((o >>= λ n b. open_at symbols.OpenParen levels b >>= λ u c. part_at (levels - 1) TerraArguments c >>= λ x d. sign_at symbols.CloseParen d >>= λ y rest. Took (suffixed.CallsMethod place n x) rest) >>= λ r rest. Took (with_suffix a r) rest)
        ≡ (o >>= λ n b. open_at symbols.OpenParen levels b >>= λ u c. part_at (levels - 1) TerraArguments c >>= λ x d. sign_at symbols.CloseParen d >>= λ y rest. Took (lua.called a (TerraMethod place a.tree n x)) rest)
    go (Took n b) = bracket n (open_at symbols.OpenParen levels b)
    go (Stop kind rest) = refl

suffix_by : (levels : ℕ) (a : Chained) (symbol : Symbol) (text : List ℕ) (place : Place) (offset : ℕ) (first : Bool) (ts : List Token) → is_of (λ t. terra.is_terra_suffix t) (record { symbol = symbol; text = text; place = place; offset = offset; first_on_line = first }) ≡ true →
    (let t : Token = record { symbol = symbol; text = text; place = place; offset = offset; first_on_line = first } in used_here (barred (opens_any (terra.terra_suffix_opens (terra.terra_suffix_of t.symbol))) levels (lua.suffix_use a t) t) t ts >>= λ u mid. behind levels a t mid)
    ≡ (terra_suffix_at levels a.links (record { symbol = symbol; text = text; place = place; offset = offset; first_on_line = first } ∷ ts) >>= λ s rest. Took (with_suffix a s) rest)
unfolding terra_suffix_at terra_call_suffix_at terra_index_suffix_at terra_select_suffix_at terra_method_suffix_at construct_suffix_at call_at raise_at operator_at used
suffix_by levels a symbols.OpenParen text place offset first ts h =
    let t : Token = record { symbol = symbols.OpenParen; text = text; place = place; offset = offset; first_on_line = first } in
    use_behind (barred true levels (Calls a.links) t) t ts (λ mid. behind levels a t mid) (λ t b. part_at (levels - 1) TerraArguments b >>= λ x c. sign_at symbols.CloseParen c >>= λ y rest. Took (suffixed.Calls t.place x) rest) (λ r. with_suffix a r)
    (part_behind levels TerraArguments symbols.CloseParen a (λ x. lua.called a (TerraCall place a.tree x)) (λ x. suffixed.Calls place x) ts (λ x. refl))
suffix_by levels a symbols.OpenBracket text place offset first ts h =
    let t : Token = record { symbol = symbols.OpenBracket; text = text; place = place; offset = offset; first_on_line = first } in
    use_behind (barred true levels (Continues a.links) t) t ts (λ mid. behind levels a t mid) (λ t b. part_at (levels - 1) TerraExpression b >>= λ x c. sign_at symbols.CloseBracket c >>= λ y rest. Took (suffixed.Indexes t.place x) rest) (λ r. with_suffix a r)
    (part_behind levels TerraExpression symbols.CloseBracket a (λ x. lua.indexed a (TerraIndex place a.tree x)) (λ x. suffixed.Indexes place x) ts (λ x. refl))
suffix_by levels a symbols.OpenBrace text place offset first ts h =
    let t : Token = record { symbol = symbols.OpenBrace; text = text; place = place; offset = offset; first_on_line = first } in
    use_behind (barred true levels (Continues a.links) t) t ts (λ mid. behind levels a t mid) (λ t b. part_at (levels - 1) Initialisers b >>= λ x c. sign_at symbols.CloseBrace c >>= λ y rest. Took (suffixed.Constructs t.place x) rest) (λ r. with_suffix a r)
    (part_behind levels Initialisers symbols.CloseBrace a (λ x. chained (Construct place a.tree x) (down a.links) operands.Other) (λ x. suffixed.Constructs place x) ts (λ x. refl))
suffix_by levels a symbols.Dot text place offset first ts h =
    let t : Token = record { symbol = symbols.Dot; text = text; place = place; offset = offset; first_on_line = first } in
    use_behind (barred false levels (Continues a.links) t) t ts (λ mid. behind levels a t mid) (λ t b. terra_name_at levels b >>= λ n rest. Took (suffixed.Selects t.place n) rest) (λ r. with_suffix a r)
    (ap (λ (o : Outcome Tree). o >>= λ n rest. Took (lua.indexed a (TerraSelect place a.tree n)) rest) (terra_name_agrees levels ts) ∙ sym (bind_again (terra_name_at levels ts) (λ n rest. Took (suffixed.Selects place n) rest) (λ r rest. Took (with_suffix a r) rest)))
suffix_by levels a symbols.Colon text place offset first ts h =
    let t : Token = record { symbol = symbols.Colon; text = text; place = place; offset = offset; first_on_line = first } in
    use_behind (barred false levels (Continues a.links) t) t ts (λ mid. behind levels a t mid)
    (λ t b. terra_name_at levels b >>= λ n c. open_at symbols.OpenParen levels c >>= λ u d. part_at (levels - 1) TerraArguments d >>= λ x e. sign_at symbols.CloseParen e >>= λ y rest. Took (suffixed.CallsMethod t.place n x) rest) (λ r. with_suffix a r) (method_behind levels a place ts)
suffix_by levels a _ text place offset first ts h = absurd (never h)

suffix_turn : (levels : ℕ) (a : Chained) (ts : List Token) → begins (λ t. terra.is_terra_suffix t) ts ≡ true →
    reading levels (bind (token (λ t. terra.is_terra_suffix t) (λ t. lua.suffix_use a t) (λ t. terra.terra_suffix_opens (terra.terra_suffix_of t.symbol)) (sample symbols.Dot)) λ x. terra.terra_suffix (terra.terra_suffix_of x.0.symbol) x.0 x.1 a) ts
    ≡ (terra_suffix_at levels a.links ts >>= λ s rest. Took (with_suffix a s) rest)
suffix_turn levels a [] h = absurd cc
suffix_turn levels a (t ∷ ts) h = suffix_token levels a t ts h ∙ suffix_by levels a t.symbol t.text t.place t.offset t.first_on_line ts h

pub terra_suffixes_go : (levels : ℕ) (tree : Tree) (links : ℕ) (kind : OperandKind) (ts : List Token) → begins (λ t. terra.is_terra_suffix t) ts ≡ true → terra_suffixes_at levels (chained tree links kind) ts ≡ (terra_suffix_at levels links ts >>= λ s rest. terra_suffixes_at levels (chained (terra_attached s tree) (down links) (terra_kind_of s)) rest)
unfolding terra_suffixes_at
terra_suffixes_go levels tree links kind ts h =
    repeats levels (λ b t. terra.is_terra_suffix t) (λ b t. lua.suffix_use b t) (λ b t. terra.terra_suffix_opens (terra.terra_suffix_of t.symbol)) (λ t x b. terra.terra_suffix (terra.terra_suffix_of t.symbol) t x b) (sample symbols.Dot) (chained tree links kind)
    (terra_suffix_at levels links ts) (λ s. chained (terra_attached s tree) (down links) (terra_kind_of s)) ts h (suffix_turn levels (chained tree links kind) ts h)

pub terra_suffixes_end : (levels : ℕ) (a : Chained) (ts : List Token) → begins (λ t. terra.is_terra_suffix t) ts ≡ false → terra_suffixes_at levels a ts ≡ Took a ts
unfolding terra_suffixes_at
terra_suffixes_end levels a ts h = ends levels (λ b t. terra.is_terra_suffix t) (λ b t. lua.suffix_use b t) (λ b t. terra.terra_suffix_opens (terra.terra_suffix_of t.symbol)) (λ t x b. terra.terra_suffix (terra.terra_suffix_of t.symbol) t x b) a ts h

pub terra_suffix_shorter : (levels links : ℕ) (x : TerraSuffixed) (ts rest : List Token) → begins (λ t. terra.is_terra_suffix t) ts ≡ true → terra_suffix_at levels links ts ≡ Took x rest → length rest < length ts
terra_suffix_shorter levels links x ts rest h e =
    let a : Chained = operand links Nothing in
    shorter_turn levels (λ t. terra.is_terra_suffix t) (λ t. lua.suffix_use a t) (λ t. terra.terra_suffix_opens (terra.terra_suffix_of t.symbol)) (sample symbols.Dot) (λ x. terra.terra_suffix (terra.terra_suffix_of x.0.symbol) x.0 x.1 a)
    (terra_suffix_at levels links ts) (λ s. chained (terra_attached s Nothing) (down links) (terra_kind_of s)) x ts rest (suffix_turn levels a ts h) e

pub ruleset entries = (fails_bind, fails_after, entries_part, fails_same, fails_from, entries_go, entries_end, entry_shorter)

pub ruleset suffixes = (fails_bind, fails_after, fails_from, terra_suffixes_go, terra_suffixes_end, terra_suffix_shorter)

pub ruleset operations = (fails_bind, fails_after, fails_from, terra_operations_go, terra_operations_end, terra_operation_shorter)

pub ruleset initialisers = (fails_bind, fails_after, initialisers_part, fails_same, fails_from, initialisers_go, initialisers_end, initialiser_shorter)
