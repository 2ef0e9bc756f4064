-- The repetitions in Lua statements, turn by turn, and what reading their parts gives.
use Rattle.std.proofs.Common.{◌≡◌, ℕ, ◌<◌, ◌-◌, Bool, true, false, cond, List, [], ◌∷◌, length, Option, None, refl, ap, ◌∙◌}
use Rattle.std.specs.Prelude.{◌&&◌, not}
use Rattle.tl_lex.specs.Lexing.{answers_left}
use Rattle.tl_tree.specs.declared.symbol.Symbol.TheVariants as symbols
use Rattle.tl_tree.specs.Symbols.{is_bad}
use Rattle.tl_tree.specs.Tokens.{Token, is, sample, tokens_in}
use Rattle.tl_tree.specs.declared.mode.TokenUse.TheVariants.{Plain}
use Rattle.tl_tree.specs.Tree.{Tree, Nothing, More, Name, FunctionBody}
use Rattle.tl_tree.specs.Grammar.{give, bind, Outcome, Took, ◌>>=◌, begins}
use Rattle.tl_tree.specs.Forms.{sign, name, listed_behind}
use Rattle.tl_tree.specs.LuaStatements as lua
use Rattle.tl_tree.specs.LuaStatements.{parameters_of}
use Rattle.tl_parse.specs.Views.Parsing.{tokens_left, token_of, with_token_by, HasNext}
use Rattle.tl_parse.specs.Views.Using.{reading, part_at, sign_at, open_at}
use Rattle.tl_parse.specs.Views.Codes.{opened_body_at}
use Rattle.tl_parse.specs.Views.Expressions.{name_at}
use Rattle.tl_parse.specs.Views.Statements.{first_place, more_parameters_at, parameter_at, next_parameter_at, with_parameter, body_at}
use Rattle.tl_parse.specs.Views.Paths.{more_names_at, next_name_at, behind_sign_at, path_names_at}
use Rattle.tl_parse.specs.declared.parser.Parser.{Parser}
use Rattle.tl_parse.proofs.Uses.{bind_same, repeats, ends, shorter_turn}
use Rattle.tl_parse.proofs.Agreeing.{name_agrees}
use Rattle.tl_parse.proofs.Turns.{list_goes, list_ends, list_shorter}
use Rattle.tl_parse.proofs.Paths.{path_turn}
use Rattle.tl_parse.proofs.AgreeingStatements.{parameter_turn, body_agrees}
use Rattle.tl_parse.proofs.Failing.{fails_after, fails_bind, fails_from, fails_same, fails_unexpected}

-- ---- the next token

pub next_place : (p : Parser) → HasNext (tokens_left p) → p.current.place ≡ first_place (tokens_left p)
unfolding tokens_left
next_place p h = go p.current.is_end (is_bad p.current.symbol) h
  where
    go : (e b : Bool) → HasNext (with_token_by e b (token_of p.current) (tokens_in (answers_left p.lexer)).tokens) → p.current.place ≡ first_place (with_token_by e b (token_of p.current) (tokens_in (answers_left p.lexer)).tokens)
    go true b h = absurd h
    go false true h = refl
    go false false h = refl

-- ---- names and paths

pub names_go : (levels : ℕ) (before : Tree) (ts : List Token) → begins (is symbols.Comma) ts ≡ true → more_names_at levels before ts ≡ (next_name_at ts >>= λ e rest. more_names_at levels (More before e) rest)
unfolding more_names_at next_name_at
names_go levels before ts h =
    list_goes levels name before ts h
    ∙ ap (λ (o : Outcome Tree). o >>= λ e rest. reading levels (listed_behind name (More before e)) rest) (bind_same (sign_at symbols.Comma ts) (λ y rest. reading levels name rest) (λ y rest. name_at rest) (λ y rest. name_agrees levels rest))

pub names_end : (levels : ℕ) (before : Tree) (ts : List Token) → begins (is symbols.Comma) ts ≡ false → more_names_at levels before ts ≡ Took before ts
unfolding more_names_at
names_end levels before ts h = list_ends levels name before ts h

pub name_shorter : (x : Tree) (ts rest : List Token) → next_name_at ts ≡ Took x rest → length rest < length ts
unfolding next_name_at
name_shorter x ts rest e = list_shorter 0 name x ts rest (bind_same (sign_at symbols.Comma ts) (λ y rest. reading 0 name rest) (λ y rest. name_at rest) (λ y rest. name_agrees 0 rest) ∙ e)

pub path_goes : (levels : ℕ) (before : Tree) (ts : List Token) → begins (is symbols.Dot) ts ≡ true → path_names_at levels before ts ≡ (behind_sign_at symbols.Dot ts >>= λ e rest. path_names_at levels (More before e) rest)
unfolding path_names_at
path_goes levels before ts h =
    repeats levels (λ b t. is symbols.Dot t) (λ b t. Plain) (λ b t. None) (λ t x b. bind (sign symbols.Name) λ n. give (More b (Name t.place n.0.offset n.0.text))) (sample symbols.Dot) before (behind_sign_at symbols.Dot ts) (λ e. More before e) ts h (path_turn levels before ts)

pub path_ends : (levels : ℕ) (before : Tree) (ts : List Token) → begins (is symbols.Dot) ts ≡ false → path_names_at levels before ts ≡ Took before ts
unfolding path_names_at
path_ends levels before ts h = ends levels (λ b t. is symbols.Dot t) (λ b t. Plain) (λ b t. None) (λ t x b. bind (sign symbols.Name) λ n. give (More b (Name t.place n.0.offset n.0.text))) before ts h

pub path_shorter : (x : Tree) (ts rest : List Token) → behind_sign_at symbols.Dot ts ≡ Took x rest → length rest < length ts
path_shorter x ts rest e =
    shorter_turn 0 (λ t. is symbols.Dot t) (λ t. Plain) (λ t. None) (sample symbols.Dot) (λ x. bind (sign symbols.Name) λ n. give (More Nothing (Name x.0.place n.0.offset n.0.text))) (behind_sign_at symbols.Dot ts) (λ e. More Nothing e) x ts rest (path_turn 0 Nothing ts) e

-- ---- functions

comma_class : (ts : List Token) → begins (λ t. is symbols.Comma t && true) ts ≡ begins (is symbols.Comma) ts
comma_class [] = refl
comma_class (t ∷ ts) = by (is_bad t.symbol) (is symbols.Comma t)
  where
    by : (b c : Bool) → cond b false (c && true) ≡ cond b false c
    by true c = refl
    by false true = refl
    by false false = refl

never : (ts : List Token) → begins (λ t. is symbols.Comma t && false) ts ≡ false
never [] = refl
never (t ∷ ts) = by (is_bad t.symbol) (is symbols.Comma t)
  where
    by : (b c : Bool) → cond b false (c && false) ≡ false
    by true c = refl
    by false true = refl
    by false false = refl

pub parameters_go : (levels : ℕ) (names : Tree) (ts : List Token) → begins (is symbols.Comma) ts ≡ true → more_parameters_at levels names false ts ≡ (next_parameter_at ts >>= λ o rest. more_parameters_at levels (with_parameter names o).names (with_parameter names o).variadic rest)
unfolding more_parameters_at next_parameter_at
parameters_go levels names ts h =
    repeats levels (λ a t. is symbols.Comma t && not a.variadic) (λ a t. Plain) (λ a t. None) (λ t x a. lua.parameter a.names) (sample symbols.Comma) (parameters_of names false) (sign_at symbols.Comma ts >>= λ y a. parameter_at a) (λ o. with_parameter names o) ts (comma_class ts ∙ h) (parameter_turn levels names false ts refl)

pub parameters_end : (levels : ℕ) (names : Tree) (ts : List Token) → begins (is symbols.Comma) ts ≡ false → more_parameters_at levels names false ts ≡ Took (parameters_of names false) ts
unfolding more_parameters_at
parameters_end levels names ts h = ends levels (λ a t. is symbols.Comma t && not a.variadic) (λ a t. Plain) (λ a t. None) (λ t x a. lua.parameter a.names) (parameters_of names false) ts (comma_class ts ∙ h)

pub parameters_stop : (levels : ℕ) (names : Tree) (ts : List Token) → more_parameters_at levels names true ts ≡ Took (parameters_of names true) ts
unfolding more_parameters_at
parameters_stop levels names ts = ends levels (λ a t. is symbols.Comma t && not a.variadic) (λ a t. Plain) (λ a t. None) (λ t x a. lua.parameter a.names) (parameters_of names true) ts (never ts)

pub parameter_shorter : (x : Option Tree) (ts rest : List Token) → next_parameter_at ts ≡ Took x rest → length rest < length ts
unfolding next_parameter_at
parameter_shorter x ts rest e =
    shorter_turn 0 (λ t. is symbols.Comma t && true) (λ t. Plain) (λ t. None) (sample symbols.Comma) (λ x. lua.parameter Nothing) (sign_at symbols.Comma ts >>= λ y a. parameter_at a) (λ o. with_parameter Nothing o) x ts rest (parameter_turn 0 Nothing false ts refl) e

pub body_part : (levels : ℕ) (ts : List Token) → opened_body_at levels ts ≡ (open_at symbols.OpenParen levels ts >>= λ t a. body_at (levels - 1) a)
unfolding opened_body_at
body_part levels ts = bind_same (open_at symbols.OpenParen levels ts) (λ t a. part_at (levels - 1) FunctionBody a) (λ t a. body_at (levels - 1) a) (λ t a. body_agrees (levels - 1) a)

pub ruleset names = (fails_bind, fails_after, fails_from, names_go, names_end, name_shorter)

pub ruleset paths = (fails_bind, fails_after, fails_from, path_goes, path_ends, path_shorter)

pub ruleset variables = (fails_bind, fails_after, fails_unexpected)

pub ruleset parameters = (fails_bind, fails_after, fails_from, parameters_go, parameters_end, parameters_stop, parameter_shorter)

pub ruleset body = (fails_bind, fails_after, fails_same, body_part)
