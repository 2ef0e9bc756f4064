-- What reading the parts of Terra statements gives.
use Rattle.std.proofs.Common.{◌≡◌, ℕ, ◌-◌, Bool, true, false, cond, List, refl, sym, ap, ◌∙◌}
use Rattle.tl_base.specs.declared.place.Place.{Place}
use Rattle.tl_tree.specs.declared.symbol.Symbol.TheVariants as symbols
use Rattle.tl_tree.specs.Tokens.{Token, is}
use Rattle.tl_tree.specs.Tree.{Tree, Nothing, Just, TerraBody, Quoted, TerraStatements, TerraFunctionBody, QuotedCode}
use Rattle.tl_tree.specs.Grammar.{give, bind, when, Outcome, Took, ◌>>=◌, begins}
use Rattle.tl_tree.specs.Forms.{sign}
use Rattle.tl_tree.specs.TerraExpressions as expressions
use Rattle.tl_tree.specs.TerraStatements as terra
use Rattle.tl_tree.proofs.Unrolling.{bind_again}
use Rattle.tl_parse.specs.Views.Parsing.{tokens_left, end_of, Fails}
use Rattle.tl_parse.specs.Views.Using.{reading, part_at, sign_at, open_at}
use Rattle.tl_parse.specs.Views.TerraStatements.{written_type_at, terra_parameters_at}
use Rattle.tl_parse.specs.Views.TerraStatements.{terra_function_body_at, quoted_code_at}
use Rattle.tl_parse.specs.Views.Codes.{expression_behind_at, optional_expression_at, opened_terra_body_at}
use Rattle.tl_parse.specs.declared.error.SyntaxError.{SyntaxError}
use Rattle.tl_parse.specs.declared.parser.Code.TheVariants as codes
use Rattle.tl_parse.specs.declared.parser.Parser.{Parser}
use Rattle.tl_parse.proofs.Uses.{bind_same}
use Rattle.tl_parse.proofs.Following.{sign_then, then, behind_give}
use Rattle.tl_parse.proofs.TerraStatementAgreeing.{sign_give, written_type_agrees, terra_parameters_agree}
use Rattle.tl_parse.proofs.Failing.{fails_after, fails_bind, fails_from, fails_same}

block_agrees : (levels : ℕ) (ts : List Token) → reading levels terra.terra_block ts ≡ part_at levels TerraStatements ts
unfolding part_at
block_agrees levels ts = refl

function_body_agrees : (levels : ℕ) (place : Place) (ts : List Token) → reading levels (terra.terra_function_body place) ts ≡ terra_function_body_at levels place ts
unfolding terra_function_body_at
function_body_agrees levels place ts =
    then levels terra.terra_parameters (λ ps. bind (sign symbols.CloseParen) λ y. bind terra.written_type λ r. bind terra.terra_block λ b. bind (sign symbols.End) λ z. give (TerraBody place ps r b)) (λ us. terra_parameters_at levels us)
    (λ ps a. sign_at symbols.CloseParen a >>= λ y b. written_type_at levels b >>= λ r d. part_at levels TerraStatements d >>= λ x e. sign_at symbols.End e >>= λ z rest. Took (TerraBody place ps r x) rest) (λ us. terra_parameters_agree levels us)
    (λ ps us. sign_then levels symbols.CloseParen (λ y. bind terra.written_type λ r. bind terra.terra_block λ b. bind (sign symbols.End) λ z. give (TerraBody place ps r b)) (λ y b. written_type_at levels b >>= λ r d. part_at levels TerraStatements d >>= λ x e. sign_at symbols.End e >>= λ z rest. Took (TerraBody place ps r x) rest)
    (λ y us. then levels terra.written_type (λ r. bind terra.terra_block λ b. bind (sign symbols.End) λ z. give (TerraBody place ps r b)) (λ vs. written_type_at levels vs) (λ r d. part_at levels TerraStatements d >>= λ x e. sign_at symbols.End e >>= λ z rest. Took (TerraBody place ps r x) rest) (λ vs. written_type_agrees levels vs)
    (λ r us. then levels terra.terra_block (λ b. bind (sign symbols.End) λ z. give (TerraBody place ps r b)) (λ vs. part_at levels TerraStatements vs) (λ x e. sign_at symbols.End e >>= λ z rest. Took (TerraBody place ps r x) rest) (λ vs. block_agrees levels vs)
    (λ x us. sign_give levels symbols.End (TerraBody place ps r x) us) us) us) us) ts

function_body_is : (levels : ℕ) (place : Place) (ts : List Token) → part_at levels (TerraFunctionBody place) ts ≡ reading levels (terra.terra_function_body place) ts
unfolding part_at
function_body_is levels place ts = refl

terra_function_body_part : (levels : ℕ) (place : Place) (ts : List Token) → part_at levels (TerraFunctionBody place) ts ≡ terra_function_body_at levels place ts
terra_function_body_part levels place ts = function_body_is levels place ts ∙ function_body_agrees levels place ts

pub terra_body_part : (levels : ℕ) (ts : List Token) → opened_terra_body_at levels ts ≡ (open_at symbols.OpenParen levels ts >>= λ t a. terra_function_body_at (levels - 1) t.place a)
unfolding opened_terra_body_at
terra_body_part levels ts = bind_same (open_at symbols.OpenParen levels ts) (λ t a. part_at (levels - 1) (TerraFunctionBody t.place) a) (λ t a. terra_function_body_at (levels - 1) t.place a) (λ t a. terra_function_body_part (levels - 1) t.place a)

-- what is behind the parameters of a body
abbrev behind_parameters : ℕ → Place → Tree → List Token → Outcome Tree
behind_parameters levels place ps ts = written_type_at levels ts >>= λ r d. part_at levels TerraStatements d >>= λ x e. sign_at symbols.End e >>= λ z rest. Took (TerraBody place ps r x) rest

terra_body_goes : (levels : ℕ) (ts us vs ws : List Token) (o t : Token) (ps : Tree) → open_at symbols.OpenParen levels ts ≡ Took o us → terra_parameters_at (levels - 1) us ≡ Took ps vs → sign_at symbols.CloseParen vs ≡ Took t ws →
    opened_terra_body_at levels ts ≡ behind_parameters (levels - 1) o.place ps ws
unfolding terra_function_body_at
terra_body_goes levels ts us vs ws o t ps opened listed closed =
    terra_body_part levels ts
    ∙ ap (λ (x : Outcome Token). x >>= λ o a. terra_function_body_at (levels - 1) o.place a) opened
    ∙ ap (λ (x : Outcome Tree). x >>= λ ps a. sign_at symbols.CloseParen a >>= λ y b. behind_parameters (levels - 1) o.place ps b) listed
    ∙ ap (λ (x : Outcome Token). x >>= λ y b. behind_parameters (levels - 1) o.place ps b) closed

-- a body stops where its type does, and where its block does
pub terra_type_fails : (start now : Parser) (levels : ℕ) (us vs : List Token) (o t : Token) (ps : Tree) (e : SyntaxError) → open_at symbols.OpenParen levels (tokens_left start) ≡ Took o us → terra_parameters_at (levels - 1) us ≡ Took ps vs → sign_at symbols.CloseParen vs ≡ Took t (tokens_left now) → end_of now ≡ end_of start →
    Fails now (written_type_at (levels - 1) (tokens_left now)) e → Fails start (opened_terra_body_at levels (tokens_left start)) e
terra_type_fails start now levels us vs o t ps e opened listed closed finish f =
    fails_from start now (opened_terra_body_at levels (tokens_left start)) (behind_parameters (levels - 1) o.place ps (tokens_left now)) e (terra_body_goes levels (tokens_left start) us vs (tokens_left now) o t ps opened listed closed) finish
    (fails_bind now (written_type_at (levels - 1) (tokens_left now)) (λ r d. part_at (levels - 1) TerraStatements d >>= λ x e. sign_at symbols.End e >>= λ z rest. Took (TerraBody o.place ps r x) rest) e f)

pub terra_block_fails : (start now : Parser) (levels : ℕ) (us vs ws : List Token) (o t : Token) (ps r : Tree) (e : SyntaxError) → open_at symbols.OpenParen levels (tokens_left start) ≡ Took o us → terra_parameters_at (levels - 1) us ≡ Took ps vs → sign_at symbols.CloseParen vs ≡ Took t ws →
    written_type_at (levels - 1) ws ≡ Took r (tokens_left now) → end_of now ≡ end_of start → Fails now (part_at (levels - 1) TerraStatements (tokens_left now)) e → Fails start (opened_terra_body_at levels (tokens_left start)) e
terra_block_fails start now levels us vs ws o t ps r e opened listed closed written finish f =
    fails_from start now (opened_terra_body_at levels (tokens_left start)) (part_at (levels - 1) TerraStatements (tokens_left now) >>= λ x e. sign_at symbols.End e >>= λ z rest. Took (TerraBody o.place ps r x) rest) e
    (terra_body_goes levels (tokens_left start) us vs ws o t ps opened listed closed
    ∙ ap (λ (x : Outcome Tree). x >>= λ r d. part_at (levels - 1) TerraStatements d >>= λ x e. sign_at symbols.End e >>= λ z rest. Took (TerraBody o.place ps r x) rest) written)
    finish
    (fails_bind now (part_at (levels - 1) TerraStatements (tokens_left now)) (λ x e. sign_at symbols.End e >>= λ z rest. Took (TerraBody o.place ps r x) rest) e f)

-- a block, and the expression behind it
behind_block : (levels : ℕ) (b : Tree) (ts : List Token) →
    reading levels (when (is symbols.In) (bind (sign symbols.In) λ y. bind expressions.terra_expression λ e. give (Quoted b (Just e))) (give (Quoted b Nothing))) ts ≡ (optional_expression_at levels symbols.In codes.Terra ts >>= λ e rest. Took (Quoted b e) rest)
unfolding optional_expression_at
behind_block levels b ts = by (begins (is symbols.In) ts)
  where
    by : (c : Bool) → cond c (reading levels (bind (sign symbols.In) λ y. bind expressions.terra_expression λ e. give (Quoted b (Just e))) ts) (Took (Quoted b Nothing) ts)
        ≡ (cond c (expression_behind_at levels symbols.In codes.Terra ts >>= λ e rest. Took (Just e) rest) (Took Nothing ts) >>= λ e rest. Took (Quoted b e) rest)
    by false = refl
    by true = behind_give levels symbols.In codes.Terra (λ e. Quoted b (Just e)) ts ∙ sym (bind_again (expression_behind_at levels symbols.In codes.Terra ts) (λ e rest. Took (Just e) rest) (λ e rest. Took (Quoted b e) rest))

quoted_code_agrees : (levels : ℕ) (ts : List Token) → reading levels terra.quoted_code ts ≡ quoted_code_at levels ts
unfolding quoted_code_at
quoted_code_agrees levels ts =
    then levels terra.terra_block (λ b. when (is symbols.In) (bind (sign symbols.In) λ y. bind expressions.terra_expression λ e. give (Quoted b (Just e))) (give (Quoted b Nothing))) (λ us. part_at levels TerraStatements us)
    (λ b a. optional_expression_at levels symbols.In codes.Terra a >>= λ e rest. Took (Quoted b e) rest) (λ us. block_agrees levels us) (λ b us. behind_block levels b us) ts

quoted_code_is : (levels : ℕ) (ts : List Token) → part_at levels QuotedCode ts ≡ reading levels terra.quoted_code ts
unfolding part_at
quoted_code_is levels ts = refl

pub quoted_code_part : (levels : ℕ) (ts : List Token) → part_at levels QuotedCode ts ≡ quoted_code_at levels ts
quoted_code_part levels ts = quoted_code_is levels ts ∙ quoted_code_agrees levels ts

pub ruleset terra_body = (fails_bind, fails_after, fails_same, terra_body_part)

pub ruleset quoted_code = (fails_bind, fails_after, fails_same, quoted_code_part)
