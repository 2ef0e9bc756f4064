-- The statements of a block, turn by turn, in either language.
use Rattle.std.proofs.Common.{◌≡◌, ℕ, ◌<◌, Bool, true, false, cond, List, [], ◌∷◌, length, Option, Some, None, refl, sym, ap, ◌∙◌}
use Rattle.std.specs.Prelude.{◌&&◌, not}
use Rattle.tl_base.specs.declared.place.Place.{Place}
use Rattle.tl_lex.specs.declared.SyntaxKind.{SyntaxKind}
use Rattle.tl_tree.specs.declared.mode.Context.{Context}
use Rattle.tl_tree.specs.declared.mode.TokenUse.TheVariants.{Plain}
use Rattle.tl_tree.specs.declared.symbol.Symbol.{Symbol}
use Rattle.tl_tree.specs.declared.symbol.Symbol.TheVariants as symbols
use Rattle.tl_tree.specs.Symbols.{is_bad}
use Rattle.tl_tree.specs.Tokens.{Token, is, among, sample}
use Rattle.tl_tree.specs.Tree.{Tree, Nothing, More}
use Rattle.tl_tree.specs.Grammar.{Grammar, give, token, bind, Outcome, Took, Stop, ◌>>=◌, begins, is_of}
use Rattle.tl_tree.specs.Forms.{sign, semicolon}
use Rattle.tl_tree.specs.LuaStatements.{Sequence, sequence}
use Rattle.tl_tree.specs.TerraStatements as terra
use Rattle.tl_tree.proofs.Unrolling.{bind_again}
use Rattle.tl_parse.specs.Views.Using.{reading, part_at, barred, sign_at}
use Rattle.tl_parse.specs.Views.Codes.{statements_in, begins_statement, statement_opens, statement_behind, ends_block}
use Rattle.tl_parse.specs.Views.Blocks.{statement_in_at, last_symbols, next_statement_at, plain_statements, goes_on, more_statements_at, block_at}
use Rattle.tl_parse.specs.declared.parser.BlockCode.{BlockCode}
use Rattle.tl_parse.specs.declared.parser.BlockCode.TheVariants as block_codes
use Rattle.tl_parse.proofs.Uses.{both, opened_at, opens_any, token_is, repeats, ends, shorter_turn}
use Rattle.tl_parse.proofs.Turns.{used_here, used_use}
use Rattle.tl_parse.proofs.AgreeingStatements.{token_with}
use Rattle.tl_parse.proofs.AgreeingStatements as lua_statements
use Rattle.tl_parse.proofs.TerraStatementAgreeing.{sign_give}
use Rattle.tl_parse.proofs.TerraStatementAgreeing as terra_statements
use Rattle.tl_parse.proofs.Failing.{fails_after, fails_bind, fails_from, fails_same}
use Rattle.tl_parse.proofs.Taking.{next_of}

-- ---- the next token

goes_on_break : (x e : Bool) → (x && not e) ≡ cond e false x
goes_on_break true true = refl
goes_on_break true false = refl
goes_on_break false true = refl
goes_on_break false false = refl

goes_on_never : (e : Bool) → false ≡ cond e false false
goes_on_never true = refl
goes_on_never false = refl

lua_goes_on_by : (c : Context) (ended : Bool) (symbol : Symbol) (text : List ℕ) (place : Place) (offset : ℕ) (first : Bool) →
    is_of (λ t. goes_on (block_codes.Lua c) ended t) (token_with symbol text place offset first) ≡ cond ended false (cond (is_of (is symbols.Break) (token_with symbol text place offset first)) c.in_loop (cond (is_of (is symbols.Emit) (token_with symbol text place offset first)) c.emits (is_of (among plain_statements) (token_with symbol text place offset first))))
lua_goes_on_by c ended symbols.Break text place offset first = goes_on_break c.in_loop ended
lua_goes_on_by c ended symbols.Emit text place offset first = goes_on_break c.emits ended
lua_goes_on_by c ended symbols.Name text place offset first = goes_on_break true ended
lua_goes_on_by c ended symbols.OpenParen text place offset first = goes_on_break true ended
lua_goes_on_by c ended symbols.Do text place offset first = goes_on_break true ended
lua_goes_on_by c ended symbols.While text place offset first = goes_on_break true ended
lua_goes_on_by c ended symbols.Repeat text place offset first = goes_on_break true ended
lua_goes_on_by c ended symbols.If text place offset first = goes_on_break true ended
lua_goes_on_by c ended symbols.For text place offset first = goes_on_break true ended
lua_goes_on_by c ended symbols.Function text place offset first = goes_on_break true ended
lua_goes_on_by c ended symbols.Local text place offset first = goes_on_break true ended
lua_goes_on_by c ended symbols.Return text place offset first = goes_on_break true ended
lua_goes_on_by c ended symbols.Terra text place offset first = goes_on_break true ended
lua_goes_on_by c ended symbols.Struct text place offset first = goes_on_break true ended
lua_goes_on_by c ended _ text place offset first = goes_on_never ended

pub lua_goes_on_is : (c : Context) (ended : Bool) (ts : List Token) → begins (λ t. goes_on (block_codes.Lua c) ended t) ts ≡ cond ended false (cond (begins (is symbols.Break) ts) c.in_loop (cond (begins (is symbols.Emit) ts) c.emits (begins (among plain_statements) ts)))
lua_goes_on_is c ended [] = goes_on_never ended
lua_goes_on_is c ended (t ∷ ts) = lua_goes_on_by c ended t.symbol t.text t.place t.offset t.first_on_line

pub terra_goes_on_is : (ended : Bool) (ts : List Token) → begins (λ t. goes_on block_codes.Terra ended t) ts ≡ cond ended false (begins (among terra.terra_statement_symbols) ts)
terra_goes_on_is ended [] = goes_on_never ended
terra_goes_on_is ended (t ∷ ts) = by (is_bad t.symbol) (among terra.terra_statement_symbols t) ended
  where
    by : (b x e : Bool) → cond b false (x && not e) ≡ cond e false (cond b false x)
    by true x e = goes_on_never e
    by false x e = goes_on_break x e

-- ---- statements

-- a token that goes on with a block begins a statement
begins_one : (b x y : Bool) → cond b false (x && y) ≡ true → cond b false x ≡ true
begins_one true x y h = absurd cc
begins_one false true y h = refl
begins_one false false y h = absurd cc

statement_is : (levels : ℕ) (block : BlockCode) (t : Token) (ts : List Token) → is_of (λ t. begins_statement block t) t ≡ true →
    (used_here (barred (opens_any (statement_opens block t.symbol)) levels Plain t) t ts >>= λ u mid. opened_at levels (statement_opens block t.symbol) mid >>= λ x rest. reading levels (statement_behind block t x) rest)
    ≡ statement_in_at levels block (t ∷ ts)
statement_is levels (block_codes.Lua c) t ts h = lua_statements.statement_by levels c t.symbol t.text t.place t.offset t.first_on_line ts h
statement_is levels block_codes.Terra t ts h = terra_statements.statement_by levels t.symbol t.text t.place t.offset t.first_on_line ts h

-- `return` and `break` end a block
ends_by : (block : BlockCode) (symbol : Symbol) (text : List ℕ) (place : Place) (offset : ℕ) (first : Bool) (ts : List Token) → ends_block block symbol ≡ begins (among last_symbols) (token_with symbol text place offset first ∷ ts)
ends_by (block_codes.Lua c) symbols.Return text place offset first ts = refl
ends_by (block_codes.Lua c) symbols.Break text place offset first ts = refl
ends_by (block_codes.Lua c) _ text place offset first ts = refl
ends_by block_codes.Terra symbols.Return text place offset first ts = refl
ends_by block_codes.Terra symbols.Break text place offset first ts = refl
ends_by block_codes.Terra _ text place offset first ts = refl

-- a statement, its `;`, and whether it ends the block
line_behind : (levels : ℕ) (tree : Tree) (ended : Bool) (o : Outcome Tree) →
    (o >>= λ s mid. reading levels (bind semicolon λ y. give (sequence (More tree s) ended)) mid)
    ≡ ((o >>= λ s a. cond (begins (is symbols.Semicolon) a) (sign_at symbols.Semicolon a >>= λ y rest. Took (sequence s ended) rest) (Took (sequence s ended) a)) >>= λ s rest. Took (sequence (More tree s.statements) s.ended) rest)
line_behind levels tree ended (Stop kind rest) = refl
line_behind levels tree ended (Took s mid) = by (begins (is symbols.Semicolon) mid)
  where
    by : (b : Bool) → (cond b (reading levels (bind (sign symbols.Semicolon) λ y. give Nothing) mid) (Took Nothing mid) >>= λ y rest. Took (sequence (More tree s) ended) rest)
        ≡ (cond b (sign_at symbols.Semicolon mid >>= λ y rest. Took (sequence s ended) rest) (Took (sequence s ended) mid) >>= λ s rest. Took (sequence (More tree s.statements) s.ended) rest)
    by false = refl
    by true =
        ap (λ (o : Outcome Tree). o >>= λ y rest. Took (sequence (More tree s) ended) rest) (sign_give levels symbols.Semicolon Nothing mid)
        ∙ bind_again (sign_at symbols.Semicolon mid) (λ y rest. Took Nothing rest) (λ y rest. Took (sequence (More tree s) ended) rest)
        ∙ sym (bind_again (sign_at symbols.Semicolon mid) (λ y rest. Took (sequence s ended) rest) (λ s rest. Took (sequence (More tree s.statements) s.ended) rest))

-- ---- turns

-- what a turn does behind a statement's first token and what that opens
abbrev step_of : BlockCode → Token → Tree → Tree → Grammar Sequence
step_of block t x tree = bind (statement_behind block t x) λ s. bind semicolon λ y. give (sequence (More tree s) (ends_block block t.symbol))

abbrev line_of : ℕ → BlockCode → Tree → Token → Tree → List Token → Outcome Sequence
line_of levels block tree t s mid = reading levels (bind semicolon λ y. give (sequence (More tree s) (ends_block block t.symbol))) mid

block_token : (levels : ℕ) (block : BlockCode) (tree : Tree) (ended : Bool) (t : Token) (ts : List Token) → is_of (λ t. goes_on block ended t) t ≡ true →
    reading levels (bind (token (λ t. goes_on block ended t) (λ t. Plain) (λ t. statement_opens block t.symbol) (sample symbols.Break)) λ x. step_of block x.0 x.1 tree) (t ∷ ts)
    ≡ ((used_here (barred (opens_any (statement_opens block t.symbol)) levels Plain t) t ts >>= λ u mid. opened_at levels (statement_opens block t.symbol) mid >>= λ x rest. reading levels (statement_behind block t x) rest)
    >>= λ s mid. line_of levels block tree t s mid)
block_token levels block tree ended t ts h =
    ap (λ (o : Outcome (Token × Tree)). o >>= λ x mid. reading levels (step_of block x.0 x.1 tree) mid) (token_is levels (λ t. goes_on block ended t) (λ t. Plain) (λ t. statement_opens block t.symbol) (sample symbols.Break) t ts)
    ∙ ap (λ (o : Outcome Token). (o >>= λ u mid. opened_at levels (statement_opens block t.symbol) mid >>= λ x rest. Took (both u x) rest) >>= λ x mid. reading levels (step_of block x.0 x.1 tree) mid) (used_use (λ t. goes_on block ended t) (opens_any (statement_opens block t.symbol)) levels Plain t ts h)
    ∙ by (barred (opens_any (statement_opens block t.symbol)) levels Plain t)
  where
    by : (b : Option SyntaxKind) →
        ((used_here b t ts >>= λ u mid. opened_at levels (statement_opens block t.symbol) mid >>= λ x rest. Took (both u x) rest) >>= λ x mid. reading levels (step_of block x.0 x.1 tree) mid)
        ≡ ((used_here b t ts >>= λ u mid. opened_at levels (statement_opens block t.symbol) mid >>= λ x rest. reading levels (statement_behind block t x) rest) >>= λ s mid. line_of levels block tree t s mid)
    by (Some kind) = refl
    by None =
        bind_again (opened_at levels (statement_opens block t.symbol) ts) (λ x rest. Took (both t x) rest) (λ x mid. reading levels (step_of block x.0 x.1 tree) mid)
        ∙ sym (bind_again (opened_at levels (statement_opens block t.symbol) ts) (λ x rest. reading levels (statement_behind block t x) rest) (λ s mid. line_of levels block tree t s mid))

block_turn : (levels : ℕ) (block : BlockCode) (tree : Tree) (ended : Bool) (ts : List Token) → begins (λ t. goes_on block ended t) ts ≡ true →
    reading levels (bind (token (λ t. goes_on block ended t) (λ t. Plain) (λ t. statement_opens block t.symbol) (sample symbols.Break)) λ x. step_of block x.0 x.1 tree) ts ≡ (next_statement_at levels block ts >>= λ s rest. Took (sequence (More tree s.statements) s.ended) rest)
unfolding next_statement_at
block_turn levels block tree ended [] h = absurd cc
block_turn levels block tree ended (t ∷ ts) h =
    block_token levels block tree ended t ts h
    ∙ ap (λ (o : Outcome Tree). o >>= λ s mid. line_of levels block tree t s mid) (statement_is levels block t ts (begins_one (is_bad t.symbol) (begins_statement block t) (not ended) h))
    ∙ line_behind levels tree (ends_block block t.symbol) (statement_in_at levels block (t ∷ ts))
    ∙ ap (λ (e : Bool). (statement_in_at levels block (t ∷ ts) >>= λ s a. cond (begins (is symbols.Semicolon) a) (sign_at symbols.Semicolon a >>= λ y rest. Took (sequence s e) rest) (Took (sequence s e) a)) >>= λ s rest. Took (sequence (More tree s.statements) s.ended) rest) (ends_by block t.symbol t.text t.place t.offset t.first_on_line ts)

pub block_part : (levels : ℕ) (block : BlockCode) (ts : List Token) → part_at levels (statements_in block) ts ≡ block_at levels block ts
unfolding part_at block_at more_statements_at
block_part levels (block_codes.Lua c) ts = refl
block_part levels block_codes.Terra ts = refl

pub block_goes : (levels : ℕ) (block : BlockCode) (tree : Tree) (ended : Bool) (ts : List Token) → begins (λ t. goes_on block ended t) ts ≡ true → more_statements_at levels block tree ended ts ≡ (next_statement_at levels block ts >>= λ s rest. more_statements_at levels block (More tree s.statements) s.ended rest)
unfolding more_statements_at
block_goes levels block tree ended ts h =
    repeats levels (λ a t. goes_on block a.ended t) (λ a t. Plain) (λ a t. statement_opens block t.symbol) (λ t x a. step_of block t x a.statements) (sample symbols.Break) (sequence tree ended) (next_statement_at levels block ts) (λ s. sequence (More tree s.statements) s.ended) ts h (block_turn levels block tree ended ts h)

pub block_ends : (levels : ℕ) (block : BlockCode) (tree : Tree) (ended : Bool) (ts : List Token) → begins (λ t. goes_on block ended t) ts ≡ false → more_statements_at levels block tree ended ts ≡ Took (sequence tree ended) ts
unfolding more_statements_at
block_ends levels block tree ended ts h = ends levels (λ a t. goes_on block a.ended t) (λ a t. Plain) (λ a t. statement_opens block t.symbol) (λ t x a. step_of block t x a.statements) (sequence tree ended) ts h

pub statement_shorter : (levels : ℕ) (block : BlockCode) (ended : Bool) (x : Sequence) (ts rest : List Token) → begins (λ t. goes_on block ended t) ts ≡ true → next_statement_at levels block ts ≡ Took x rest → length rest < length ts
statement_shorter levels block ended x ts rest h e =
    shorter_turn levels (λ t. goes_on block ended t) (λ t. Plain) (λ t. statement_opens block t.symbol) (sample symbols.Break) (λ x. step_of block x.0 x.1 Nothing) (next_statement_at levels block ts) (λ s. sequence (More Nothing s.statements) s.ended) x ts rest (block_turn levels block Nothing ended ts h) e

pub ruleset going_on = (lua_goes_on_is, terra_goes_on_is)

pub ruleset blocks = (fails_bind, fails_after, next_of, block_part, block_goes, block_ends, statement_shorter, fails_same, fails_from)
