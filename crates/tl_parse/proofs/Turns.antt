-- The repetitions in Lua expressions, turn by turn.
use Rattle.std.proofs.Common.{◌≡◌, ℕ, ◌-◌, ◌<◌, Bool, true, false, cond, List, [], ◌∷◌, length, Option, Some, None, refl, sym, ap, ◌∙◌}
use Rattle.tl_base.specs.declared.place.Place.{Place}
use Rattle.tl_lex.specs.declared.SyntaxKind.{SyntaxKind}
use Rattle.tl_tree.specs.declared.mode.Mode.{Mode}
use Rattle.tl_tree.specs.declared.mode.OperandKind.{OperandKind}
use Rattle.tl_tree.specs.declared.mode.TokenUse.{TokenUse}
use Rattle.tl_tree.specs.declared.mode.TokenUse.TheVariants.{Plain, Continues, Calls}
use Rattle.tl_tree.specs.declared.symbol.Symbol.{Symbol}
use Rattle.tl_tree.specs.declared.symbol.Symbol.TheVariants as symbols
use Rattle.tl_tree.specs.Tokens.{Token, is, among, sample}
use Rattle.tl_tree.specs.Tree.{Tree, Nothing, More, Part, Arguments, Expression, Fields}
use Rattle.tl_tree.specs.Grammar.{Grammar, give, token, bind, when, Outcome, Took, Stop, ◌>>=◌, begins, is_of, unless, blame, down}
use Rattle.tl_tree.specs.Forms.{sign, Chained, chained, operand, listed_behind, operators}
use Rattle.tl_tree.specs.LuaExpressions as lua
use Rattle.tl_tree.proofs.Unrolling.{bind_again}
use Rattle.tl_parse.specs.Views.Using.{reading, part_at, used, barred, sign_at, sign_among_at, operator_at, raise_at, call_at}
use Rattle.tl_parse.specs.Views.Expressions.{name_at, Suffixed, attached, kind_of, call_suffix_at, index_suffix_at, select_suffix_at, method_arguments_at, method_suffix_at, table_suffix_at, literal_suffix_at, suffix_at, suffixes_at, separators, field_at, more_fields_at, next_field_at, more_if}
use Rattle.tl_parse.specs.Views.Expressions as suffixed
use Rattle.tl_tree.specs.Tree as trees
use Rattle.tl_parse.proofs.Uses.{never, both, operator_with, bind_same, opened_at, opens_any, token_is, plain_is, sign_is, repeats, ends, shorter_turn}
use Rattle.tl_parse.proofs.Agreeing.{name_agrees, method_arguments_agree, field_agrees}
use Rattle.tl_parse.proofs.Failing.{fails_after, fails_bind, fails_from, fails_same, fails_unexpected}
use Rattle.tl_parse.proofs.Parts.{fields_part}
use Rattle.tl_parse.specs.Views.Lists.{element_of, element_at, next_element_at, more_elements_at}
use Rattle.tl_parse.specs.declared.parser.Element.{Element}

-- ---- lists

-- a turn of a list of what a grammar reads
pub list_turn : (levels : ℕ) (x : Grammar Tree) (before : Tree) (ts : List Token) →
    reading levels (bind (token (λ t. is symbols.Comma t) (λ t. Plain) (λ t. None) (sample symbols.Comma)) λ y. bind x λ e. give (More before e)) ts
    ≡ ((sign_at symbols.Comma ts >>= λ y rest. reading levels x rest) >>= λ e rest. Took (More before e) rest)
list_turn levels x before ts =
    ap (λ (o : Outcome (Token × Tree)). o >>= λ y mid. reading levels x mid >>= λ e rest. Took (More before e) rest) (sign_is levels symbols.Comma ts) ∙ go (sign_at symbols.Comma ts)
  where
    go : (o : Outcome Token) → ((o >>= λ t rest. Took (both t Nothing) rest) >>= λ y mid. reading levels x mid >>= λ e rest. Took (More before e) rest) ≡ ((o >>= λ y rest. reading levels x rest) >>= λ e rest. Took (More before e) rest)
    go (Took t rest) = refl
    go (Stop kind rest) = refl

pub list_goes : (levels : ℕ) (x : Grammar Tree) (before : Tree) (ts : List Token) → begins (is symbols.Comma) ts ≡ true →
    reading levels (listed_behind x before) ts ≡ ((sign_at symbols.Comma ts >>= λ y rest. reading levels x rest) >>= λ e rest. reading levels (listed_behind x (More before e)) rest)
list_goes levels x before ts h =
    repeats levels (λ a t. is symbols.Comma t) (λ a t. Plain) (λ a t. None) (λ t y a. bind x λ e. give (More a e)) (sample symbols.Comma) before (sign_at symbols.Comma ts >>= λ y rest. reading levels x rest) (λ e. More before e) ts h (list_turn levels x before ts)

pub list_ends : (levels : ℕ) (x : Grammar Tree) (before : Tree) (ts : List Token) → begins (is symbols.Comma) ts ≡ false → reading levels (listed_behind x before) ts ≡ Took before ts
list_ends levels x before ts h = ends levels (λ a t. is symbols.Comma t) (λ a t. Plain) (λ a t. None) (λ t y a. bind x λ e. give (More a e)) before ts h

pub list_shorter : (levels : ℕ) (x : Grammar Tree) (e : Tree) (ts rest : List Token) → (sign_at symbols.Comma ts >>= λ y rest. reading levels x rest) ≡ Took e rest → length rest < length ts
list_shorter levels x e ts rest h =
    shorter_turn levels (λ t. is symbols.Comma t) (λ t. Plain) (λ t. None) (sample symbols.Comma) (λ y. bind x λ e. give (More Nothing e)) (sign_at symbols.Comma ts >>= λ y rest. reading levels x rest) (λ e. More Nothing e) e ts rest (list_turn levels x Nothing ts) h

pub elements_go : (levels : ℕ) (kind : Element) (before : Tree) (ts : List Token) → begins (is symbols.Comma) ts ≡ true → more_elements_at levels kind before ts ≡ (next_element_at levels kind ts >>= λ e rest. more_elements_at levels kind (More before e) rest)
unfolding more_elements_at next_element_at element_at
elements_go levels kind before ts h = list_goes levels (element_of kind) before ts h

pub elements_end : (levels : ℕ) (kind : Element) (before : Tree) (ts : List Token) → begins (is symbols.Comma) ts ≡ false → more_elements_at levels kind before ts ≡ Took before ts
unfolding more_elements_at
elements_end levels kind before ts h = list_ends levels (element_of kind) before ts h

pub element_shorter : (levels : ℕ) (kind : Element) (x : Tree) (ts rest : List Token) → next_element_at levels kind ts ≡ Took x rest → length rest < length ts
unfolding next_element_at element_at
element_shorter levels kind x ts rest e = list_shorter levels (element_of kind) x ts rest e

-- ---- operators that group to the left

pub operators_turn : (levels : ℕ) (ss : List Symbol) (x : ℕ → Grammar Chained) (make : Token → Tree → Tree → Tree) (piece : Token) (a : Chained) (ts : List Token) →
    reading levels (bind (token (λ t. among ss t) (λ t. Continues a.links) (λ t. None) piece) λ y. bind (x (down a.links)) λ b. give (operand b.links (make y.0 a.tree b.tree))) ts
    ≡ ((operator_at ss a.links ts >>= λ t mid. reading levels (x (down a.links)) mid >>= λ b rest. Took (operator_with t b) rest) >>= λ p rest. Took (operand p.1.links (make p.0 a.tree p.1.tree)) rest)
unfolding operator_at
operators_turn levels ss x make piece a ts =
    ap (λ (o : Outcome (Token × Tree)). o >>= λ y mid. reading levels (x (down a.links)) mid >>= λ b rest. Took (operand b.links (make y.0 a.tree b.tree)) rest) (plain_is levels (λ t. among ss t) (Continues a.links) piece ts)
    ∙ go (used (among ss) false 0 (Continues a.links) ts)
  where
    go : (o : Outcome Token) → ((o >>= λ t rest. Took (both t Nothing) rest) >>= λ y mid. reading levels (x (down a.links)) mid >>= λ b rest. Took (operand b.links (make y.0 a.tree b.tree)) rest)
        ≡ ((o >>= λ t mid. reading levels (x (down a.links)) mid >>= λ b rest. Took (operator_with t b) rest) >>= λ p rest. Took (operand p.1.links (make p.0 a.tree p.1.tree)) rest)
    go (Took t rest) = sym (bind_again (reading levels (x (down a.links)) rest) (λ b rest. Took (operator_with t b) rest) (λ p rest. Took (operand p.1.links (make p.0 a.tree p.1.tree)) rest))
    go (Stop kind rest) = refl

pub operators_goes : (levels : ℕ) (ss : List Symbol) (x : ℕ → Grammar Chained) (make : Token → Tree → Tree → Tree) (a : Chained) (ts : List Token) → begins (among ss) ts ≡ true →
    reading levels (operators ss x make a) ts ≡ ((operator_at ss a.links ts >>= λ t mid. reading levels (x (down a.links)) mid >>= λ b rest. Took (operator_with t b) rest) >>= λ p rest. reading levels (operators ss x make (operand p.1.links (make p.0 a.tree p.1.tree))) rest)
operators_goes levels ss x make a ts h =
    repeats levels (λ a t. among ss t) (λ a t. Continues a.links) (λ a t. None) (λ t y a. bind (x (down a.links)) λ b. give (operand b.links (make t a.tree b.tree))) (sample symbols.Plus) a
    (operator_at ss a.links ts >>= λ t mid. reading levels (x (down a.links)) mid >>= λ b rest. Took (operator_with t b) rest) (λ p. operand p.1.links (make p.0 a.tree p.1.tree)) ts h (operators_turn levels ss x make (sample symbols.Plus) a ts)

-- ---- fields

pub fields_turn : (levels : ℕ) (x : Grammar Tree) (x_at : List Token → Outcome Tree) → ((us : List Token) → reading levels x us ≡ x_at us) → (before : Tree) (ts : List Token) →
    reading levels (bind (token (λ t. among separators t) (λ t. Plain) (λ t. None) (sample symbols.Comma)) λ y. when (is symbols.CloseBrace) (give before) (bind x λ e. give (More before e))) ts
    ≡ ((sign_among_at separators ts >>= λ y a. cond (begins (is symbols.CloseBrace) a) (Took None a) (x_at a >>= λ f rest. Took (Some f) rest)) >>= λ f rest. Took (more_if before f) rest)
unfolding sign_among_at
fields_turn levels x x_at agrees before ts =
    ap (λ (o : Outcome (Token × Tree)). o >>= λ y mid. cond (begins (is symbols.CloseBrace) mid) (Took before mid) (reading levels x mid >>= λ e rest. Took (More before e) rest)) (plain_is levels (λ t. among separators t) Plain (sample symbols.Comma) ts)
    ∙ go (used (among separators) false 0 Plain ts)
  where
    by : (b : Bool) (us : List Token) → cond b (Took before us) (reading levels x us >>= λ e rest. Took (More before e) rest) ≡ (cond b (Took None us) (x_at us >>= λ f rest. Took (Some f) rest) >>= λ f rest. Took (more_if before f) rest)
    by true us = refl
    by false us = ap (λ (o : Outcome Tree). o >>= λ e rest. Took (More before e) rest) (agrees us) ∙ sym (bind_again (x_at us) (λ f rest. Took (Some f) rest) (λ f rest. Took (more_if before f) rest))

    go : (o : Outcome Token) → ((o >>= λ t rest. Took (both t Nothing) rest) >>= λ y mid. cond (begins (is symbols.CloseBrace) mid) (Took before mid) (reading levels x mid >>= λ e rest. Took (More before e) rest))
        ≡ ((o >>= λ y a. cond (begins (is symbols.CloseBrace) a) (Took None a) (x_at a >>= λ f rest. Took (Some f) rest)) >>= λ f rest. Took (more_if before f) rest)
    go (Took t rest) = by (begins (is symbols.CloseBrace) rest) rest
    go (Stop kind rest) = refl

pub fields_go : (levels : ℕ) (m : Mode) (before : Tree) (ts : List Token) → begins (among separators) ts ≡ true → more_fields_at levels m before ts ≡ (next_field_at levels m ts >>= λ f rest. more_fields_at levels m (more_if before f) rest)
unfolding more_fields_at next_field_at
fields_go levels m before ts h =
    repeats levels (λ a t. among separators t) (λ a t. Plain) (λ a t. None) (λ t y a. when (is symbols.CloseBrace) (give a) (bind (lua.field m) λ e. give (More a e))) (sample symbols.Comma) before (next_field_at levels m ts) (λ f. more_if before f) ts h
    (fields_turn levels (lua.field m) (λ us. field_at levels m us) (λ us. field_agrees levels m us) before ts)

pub fields_end : (levels : ℕ) (m : Mode) (before : Tree) (ts : List Token) → begins (among separators) ts ≡ false → more_fields_at levels m before ts ≡ Took before ts
unfolding more_fields_at
fields_end levels m before ts h = ends levels (λ a t. among separators t) (λ a t. Plain) (λ a t. None) (λ t y a. when (is symbols.CloseBrace) (give a) (bind (lua.field m) λ e. give (More a e))) before ts h

pub field_shorter : (levels : ℕ) (m : Mode) (x : Option Tree) (ts rest : List Token) → next_field_at levels m ts ≡ Took x rest → length rest < length ts
unfolding next_field_at
field_shorter levels m x ts rest e =
    shorter_turn levels (λ t. among separators t) (λ t. Plain) (λ t. None) (sample symbols.Comma) (λ y. when (is symbols.CloseBrace) (give Nothing) (bind (lua.field m) λ e. give (More Nothing e))) (next_field_at levels m ts) (λ f. more_if Nothing f) x ts rest
    (fields_turn levels (lua.field m) (λ us. field_at levels m us) (λ us. field_agrees levels m us) Nothing ts) e

-- ---- suffixes

-- the tree of a whole suffix
abbrev pub with_suffix : Chained → Suffixed → Chained
with_suffix a s = chained (attached s a.tree) (down a.links) (kind_of s)

-- a token that the limits allow or refuse
abbrev pub used_here : Option SyntaxKind → Token → List Token → Outcome Token
used_here b t ts = unless b (t ∷ ts) (Took t ts)

pub use_same : {A : Type 0} (b : Option SyntaxKind) (t : Token) (ts : List Token) (f g : Token → List Token → Outcome A) → f t ts ≡ g t ts → (used_here b t ts >>= f) ≡ (used_here b t ts >>= g)
use_same None t ts f g h = h
use_same (Some kind) t ts f g h = refl

pub used_use : (class : Token → Bool) (opens : Bool) (levels : ℕ) (usage : TokenUse) (t : Token) (ts : List Token) → is_of class t ≡ true → used class opens levels usage (t ∷ ts) ≡ used_here (barred opens levels usage t) t ts
unfolding used
used_use class opens levels usage t ts h = ap (λ (c : Bool). cond c (used_here (barred opens levels usage t) t ts) (Stop (blame t.symbol) (t ∷ ts))) h

-- what a turn does behind its token
abbrev behind : ℕ → Mode → Chained → Token → List Token → Outcome Chained
behind levels m a t mid = opened_at levels (lua.suffix_opens m (lua.suffix_of t.symbol)) mid >>= λ x rest. reading levels (lua.suffix m (lua.suffix_of t.symbol) t x a) rest

turn_of : (levels : ℕ) (m : Mode) (a : Chained) (t : Token) (ts : List Token) (b : Option SyntaxKind) →
    ((used_here b t ts >>= λ u mid. opened_at levels (lua.suffix_opens m (lua.suffix_of t.symbol)) mid >>= λ x rest. Took (both u x) rest) >>= λ x mid. reading levels (lua.suffix m (lua.suffix_of x.0.symbol) x.0 x.1 a) mid) ≡ (used_here b t ts >>= λ u mid. behind levels m a t mid)
turn_of levels m a t ts None = bind_again (opened_at levels (lua.suffix_opens m (lua.suffix_of t.symbol)) ts) (λ x rest. Took (both t x) rest) (λ x mid. reading levels (lua.suffix m (lua.suffix_of x.0.symbol) x.0 x.1 a) mid)
turn_of levels m a t ts (Some kind) = refl

suffix_token : (levels : ℕ) (class : Token → Bool) (m : Mode) (a : Chained) (t : Token) (ts : List Token) → is_of class t ≡ true →
    reading levels (bind (token class (λ t. lua.suffix_use a t) (λ t. lua.suffix_opens m (lua.suffix_of t.symbol)) (sample symbols.Dot)) λ x. lua.suffix m (lua.suffix_of x.0.symbol) x.0 x.1 a) (t ∷ ts)
    ≡ (used_here (barred (opens_any (lua.suffix_opens m (lua.suffix_of t.symbol))) levels (lua.suffix_use a t) t) t ts >>= λ u mid. behind levels m a t mid)
suffix_token levels class m a t ts h =
    ap (λ (o : Outcome (Token × Tree)). o >>= λ x mid. reading levels (lua.suffix m (lua.suffix_of x.0.symbol) x.0 x.1 a) mid) (token_is levels class (λ t. lua.suffix_use a t) (λ t. lua.suffix_opens m (lua.suffix_of t.symbol)) (sample symbols.Dot) t ts)
    ∙ ap (λ (o : Outcome Token). (o >>= λ u mid. opened_at levels (lua.suffix_opens m (lua.suffix_of t.symbol)) mid >>= λ x rest. Took (both u x) rest) >>= λ x mid. reading levels (lua.suffix m (lua.suffix_of x.0.symbol) x.0 x.1 a) mid) (used_use class (opens_any (lua.suffix_opens m (lua.suffix_of t.symbol))) levels (lua.suffix_use a t) t ts h)
    ∙ turn_of levels m a t ts (barred (opens_any (lua.suffix_opens m (lua.suffix_of t.symbol))) levels (lua.suffix_use a t) t)

-- behind a sign, what is read goes on
pub sign_behind : {A B : Type 0} (levels : ℕ) (s : Symbol) (v : A) (w : B) (f : B → A) (us : List Token) → f w ≡ v → reading levels (bind (sign s) λ y. give v) us ≡ ((sign_at s us >>= λ y rest. Took w rest) >>= λ b rest. Took (f b) rest)
sign_behind {A} {B} levels s v w f us e =
    ap (λ (o : Outcome (Token × Tree)). o >>= λ y rest. Took v rest) (sign_is levels s us) ∙ go (sign_at s us)
  where
    go : (o : Outcome Token) → ((o >>= λ t rest. Took (both t Nothing) rest) >>= λ y rest. Took v rest) ≡ ((o >>= λ y rest. Took w rest) >>= λ b rest. Took (f b) rest)
    go (Took t rest) = ap (λ (x : A). Took x rest) (sym e)
    go (Stop kind rest) = refl

-- a part and a sign behind it
part_behind : (levels : ℕ) (part : Part) (s : Symbol) (a : Chained) (v : Tree → Chained) (w : Tree → Suffixed) (us : List Token) → ((x : Tree) → with_suffix a (w x) ≡ v x) →
    (part_at (levels - 1) part us >>= λ x rest. reading levels (bind (sign s) λ y. give (v x)) rest) ≡ ((part_at (levels - 1) part us >>= λ x b. sign_at s b >>= λ y rest. Took (w x) rest) >>= λ r rest. Took (with_suffix a r) rest)
part_behind levels part s a v w us e =
    bind_same (part_at (levels - 1) part us) (λ x rest. reading levels (bind (sign s) λ y. give (v x)) rest) (λ x b. (sign_at s b >>= λ y rest. Took (w x) rest) >>= λ r rest. Took (with_suffix a r) rest) (λ x rest. sign_behind levels s (v x) (w x) (λ r. with_suffix a r) rest (e x))
    ∙ sym (bind_again (part_at (levels - 1) part us) (λ x b. sign_at s b >>= λ y rest. Took (w x) rest) (λ r rest. Took (with_suffix a r) rest))

-- the token, and what is behind it
pub use_behind : {A : Type 0} (b : Option SyntaxKind) (t : Token) (ts : List Token) (f : List Token → Outcome Chained) (k : Token → List Token → Outcome A) (g : A → Chained) → f ts ≡ (k t ts >>= λ r rest. Took (g r) rest) → (used_here b t ts >>= λ u mid. f mid) ≡ ((used_here b t ts >>= λ u mid. k u mid) >>= λ r rest. Took (g r) rest)
use_behind None t ts f k g h = h
use_behind (Some kind) t ts f k g h = refl

suffix_by : (levels : ℕ) (m : Mode) (a : Chained) (symbol : Symbol) (text : List ℕ) (place : Place) (offset : ℕ) (first : Bool) (ts : List Token) → is_of (λ t. lua.is_suffix m t) (record { symbol = symbol; text = text; place = place; offset = offset; first_on_line = first }) ≡ true →
    (let t : Token = record { symbol = symbol; text = text; place = place; offset = offset; first_on_line = first } in used_here (barred (opens_any (lua.suffix_opens m (lua.suffix_of t.symbol))) levels (lua.suffix_use a t) t) t ts >>= λ u mid. behind levels m a t mid)
    ≡ (suffix_at levels m a.links (record { symbol = symbol; text = text; place = place; offset = offset; first_on_line = first } ∷ ts) >>= λ s rest. Took (with_suffix a s) rest)
unfolding suffix_at call_suffix_at index_suffix_at select_suffix_at method_suffix_at table_suffix_at literal_suffix_at call_at raise_at operator_at used
suffix_by levels m a symbols.OpenParen text place offset first ts h =
    let t : Token = record { symbol = symbols.OpenParen; text = text; place = place; offset = offset; first_on_line = first } in
    use_behind (barred true levels (Calls a.links) t) t ts (λ mid. behind levels m a t mid) (λ t b. part_at (levels - 1) (Arguments m) b >>= λ x c. sign_at symbols.CloseParen c >>= λ y rest. Took (suffixed.Calls t.place x) rest) (λ r. with_suffix a r)
    (part_behind levels (Arguments m) symbols.CloseParen a (λ x. lua.called a (trees.Call place a.tree x)) (λ x. suffixed.Calls place x) ts (λ x. refl))
suffix_by levels m a symbols.OpenBracket text place offset first ts h =
    let t : Token = record { symbol = symbols.OpenBracket; text = text; place = place; offset = offset; first_on_line = first } in
    use_behind (barred true levels (Continues a.links) t) t ts (λ mid. behind levels m a t mid) (λ t b. part_at (levels - 1) (Expression m) b >>= λ x c. sign_at symbols.CloseBracket c >>= λ y rest. Took (suffixed.Indexes t.place x) rest) (λ r. with_suffix a r)
    (part_behind levels (Expression m) symbols.CloseBracket a (λ x. lua.indexed a (trees.Index place a.tree x)) (λ x. suffixed.Indexes place x) ts (λ x. refl))
suffix_by levels m a symbols.OpenBrace text place offset first ts h =
    let t : Token = record { symbol = symbols.OpenBrace; text = text; place = place; offset = offset; first_on_line = first } in
    use_behind (barred true levels (Continues a.links) t) t ts (λ mid. behind levels m a t mid) (λ t b. part_at (levels - 1) (Fields m) b >>= λ x c. sign_at symbols.CloseBrace c >>= λ y rest. Took (suffixed.Calls t.place (More Nothing (trees.Table t.place x))) rest) (λ r. with_suffix a r)
    (part_behind levels (Fields m) symbols.CloseBrace a (λ x. lua.called a (trees.Call place a.tree (More Nothing (trees.Table place x)))) (λ x. suffixed.Calls place (More Nothing (trees.Table place x))) ts (λ x. refl))
suffix_by levels m a symbols.Dot text place offset first ts h =
    let t : Token = record { symbol = symbols.Dot; text = text; place = place; offset = offset; first_on_line = first } in
    use_behind (barred false levels (Continues a.links) t) t ts (λ mid. behind levels m a t mid) (λ t b. name_at b >>= λ n rest. Took (suffixed.Selects t.place n) rest) (λ r. with_suffix a r)
    (ap (λ (o : Outcome Tree). o >>= λ n rest. Took (lua.indexed a (trees.Select place a.tree n)) rest) (name_agrees levels ts) ∙ sym (bind_again (name_at ts) (λ n rest. Took (suffixed.Selects place n) rest) (λ r rest. Took (with_suffix a r) rest)))
suffix_by levels m a symbols.Colon text place offset first ts h =
    let t : Token = record { symbol = symbols.Colon; text = text; place = place; offset = offset; first_on_line = first } in
    use_behind (barred false levels (Continues a.links) t) t ts (λ mid. behind levels m a t mid) (λ t b. name_at b >>= λ n c. method_arguments_at levels m c >>= λ x rest. Took (suffixed.CallsMethod t.place n x) rest) (λ r. with_suffix a r)
    (ap (λ (o : Outcome Tree). o >>= λ n mid. reading levels (lua.arguments m) mid >>= λ es rest. Took (lua.called a (trees.Method place a.tree n es)) rest) (name_agrees levels ts)
    ∙ bind_same (name_at ts) (λ n mid. reading levels (lua.arguments m) mid >>= λ es rest. Took (lua.called a (trees.Method place a.tree n es)) rest) (λ n c. (method_arguments_at levels m c >>= λ x rest. Took (suffixed.CallsMethod place n x) rest) >>= λ r rest. Took (with_suffix a r) rest)
    (λ n c. ap (λ (o : Outcome Tree). o >>= λ es rest. Took (lua.called a (trees.Method place a.tree n es)) rest) (method_arguments_agree levels m c) ∙ sym (bind_again (method_arguments_at levels m c) (λ x rest. Took (suffixed.CallsMethod place n x) rest) (λ r rest. Took (with_suffix a r) rest)))
    ∙ sym (bind_again (name_at ts) (λ n c. method_arguments_at levels m c >>= λ x rest. Took (suffixed.CallsMethod place n x) rest) (λ r rest. Took (with_suffix a r) rest)))
suffix_by levels m a symbols.Literal text place offset first ts h =
    let t : Token = record { symbol = symbols.Literal; text = text; place = place; offset = offset; first_on_line = first } in
    use_behind (barred false levels (Continues a.links) t) t ts (λ mid. behind levels m a t mid) (λ t rest. Took (suffixed.Calls t.place (More Nothing (trees.Literal t.place t.text))) rest) (λ r. with_suffix a r) refl
suffix_by levels m a _ text place offset first ts h = absurd (never h)

pub suffix_turn_of : (levels : ℕ) (class : Token → Bool) (m : Mode) (a : Chained) (ts : List Token) → begins class ts ≡ true → begins (λ t. lua.is_suffix m t) ts ≡ true →
    reading levels (bind (token class (λ t. lua.suffix_use a t) (λ t. lua.suffix_opens m (lua.suffix_of t.symbol)) (sample symbols.Dot)) λ x. lua.suffix m (lua.suffix_of x.0.symbol) x.0 x.1 a) ts
    ≡ (suffix_at levels m a.links ts >>= λ s rest. Took (with_suffix a s) rest)
suffix_turn_of levels class m a [] h k = absurd cc
suffix_turn_of levels class m a (t ∷ ts) h k = suffix_token levels class m a t ts h ∙ suffix_by levels m a t.symbol t.text t.place t.offset t.first_on_line ts k

suffix_turn : (levels : ℕ) (m : Mode) (a : Chained) (ts : List Token) → begins (λ t. lua.is_suffix m t) ts ≡ true →
    reading levels (bind (token (λ t. lua.is_suffix m t) (λ t. lua.suffix_use a t) (λ t. lua.suffix_opens m (lua.suffix_of t.symbol)) (sample symbols.Dot)) λ x. lua.suffix m (lua.suffix_of x.0.symbol) x.0 x.1 a) ts
    ≡ (suffix_at levels m a.links ts >>= λ s rest. Took (with_suffix a s) rest)
suffix_turn levels m a ts h = suffix_turn_of levels (λ t. lua.is_suffix m t) m a ts h h

pub suffixes_go : (levels : ℕ) (m : Mode) (tree : Tree) (links : ℕ) (kind : OperandKind) (ts : List Token) → begins (λ t. lua.is_suffix m t) ts ≡ true → suffixes_at levels m (chained tree links kind) ts ≡ (suffix_at levels m links ts >>= λ s rest. suffixes_at levels m (chained (attached s tree) (down links) (kind_of s)) rest)
unfolding suffixes_at
suffixes_go levels m tree links kind ts h =
    repeats levels (λ b t. lua.is_suffix m t) (λ b t. lua.suffix_use b t) (λ b t. lua.suffix_opens m (lua.suffix_of t.symbol)) (λ t x b. lua.suffix m (lua.suffix_of t.symbol) t x b) (sample symbols.Dot) (chained tree links kind)
    (suffix_at levels m links ts) (λ s. chained (attached s tree) (down links) (kind_of s)) ts h (suffix_turn levels m (chained tree links kind) ts h)

pub suffixes_end : (levels : ℕ) (m : Mode) (a : Chained) (ts : List Token) → begins (λ t. lua.is_suffix m t) ts ≡ false → suffixes_at levels m a ts ≡ Took a ts
unfolding suffixes_at
suffixes_end levels m a ts h = ends levels (λ b t. lua.is_suffix m t) (λ b t. lua.suffix_use b t) (λ b t. lua.suffix_opens m (lua.suffix_of t.symbol)) (λ t x b. lua.suffix m (lua.suffix_of t.symbol) t x b) a ts h

pub suffix_shorter : (levels : ℕ) (m : Mode) (links : ℕ) (x : Suffixed) (ts rest : List Token) → begins (λ t. lua.is_suffix m t) ts ≡ true → suffix_at levels m links ts ≡ Took x rest → length rest < length ts
suffix_shorter levels m links x ts rest h e =
    let a : Chained = operand links Nothing in
    shorter_turn levels (λ t. lua.is_suffix m t) (λ t. lua.suffix_use a t) (λ t. lua.suffix_opens m (lua.suffix_of t.symbol)) (sample symbols.Dot) (λ x. lua.suffix m (lua.suffix_of x.0.symbol) x.0 x.1 a)
    (suffix_at levels m links ts) (λ s. chained (attached s Nothing) (down links) (kind_of s)) x ts rest (suffix_turn levels m a ts h) e

pub ruleset elements = (fails_bind, fails_after, fails_from, elements_go, elements_end, element_shorter)

pub ruleset suffixes = (fails_bind, fails_after, fails_from, fails_unexpected, suffixes_go, suffixes_end, suffix_shorter)

pub ruleset fields = (fails_bind, fails_after, fields_part, fails_same, fails_from, fields_go, fields_end, field_shorter)
