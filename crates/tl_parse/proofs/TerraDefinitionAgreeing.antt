-- What reading the Lua statements that define Terra functions and types gives is what their grammar gives.
use Rattle.std.proofs.Common.{◌≡◌, ℕ, true, cond, List, ◌∷◌, refl}
use Rattle.tl_tree.specs.declared.mode.Context.{Context}
use Rattle.tl_tree.specs.declared.symbol.Symbol.TheVariants as symbols
use Rattle.tl_tree.specs.Tokens.{Token, is}
use Rattle.tl_tree.specs.Tree.{Tree, Nothing, More, Path, DefineTerra, DeclareTerra, LocalTerra, LocalDeclareTerra, DefineStruct}
use Rattle.tl_tree.specs.Tree.{LocalStruct, TerraFunctionBody}
use Rattle.tl_tree.specs.Grammar.{give, bind, Outcome, Took, ◌>>=◌, begins, is_of}
use Rattle.tl_tree.specs.Forms.{sign, opening_at, name, path_names}
use Rattle.tl_tree.specs.LuaExpressions as expressions
use Rattle.tl_tree.specs.LuaStatements as lua
use Rattle.tl_parse.specs.Views.Using.{reading, sign_at}
use Rattle.tl_parse.specs.Views.Expressions.{name_at}
use Rattle.tl_parse.specs.Views.Paths.{path_names_at, path_at}
use Rattle.tl_parse.specs.Views.TerraCode.{struct_body_at}
use Rattle.tl_parse.specs.Views.TerraDefinitions.{struct_path_at, define_terra_at, local_terra_function_at, local_struct_at, local_terra_at}
use Rattle.tl_parse.specs.Views.TerraDefinitions.{define_struct_at}
use Rattle.tl_parse.specs.Views.Codes.{expression_behind_at, opened_terra_body_at}
use Rattle.tl_parse.specs.declared.parser.Code.TheVariants as codes
use Rattle.tl_parse.proofs.Following.{sign_then, then, either_is, behind_give, terra_body_give}
use Rattle.tl_parse.proofs.Agreeing.{name_agrees}
use Rattle.tl_parse.proofs.TerraCodeAgreeing.{struct_body_agrees}
use Rattle.tl_parse.proofs.TerraStatementAgreeing.{then_give, signed_form}
use Rattle.tl_parse.proofs.Paths.{path_agrees}

struct_path_agrees : (levels : ℕ) (ts : List Token) → reading levels lua.struct_path ts ≡ struct_path_at levels ts
unfolding struct_path_at path_names_at
struct_path_agrees levels ts =
    then levels name (λ n. bind (path_names (More Nothing n)) λ ns. give (Path ns Nothing)) (λ us. name_at us) (λ n a. path_names_at levels (More Nothing n) a >>= λ ns rest. Took (Path ns Nothing) rest) (λ us. name_agrees levels us)
    (λ n us. then_give levels (path_names (More Nothing n)) (λ ns. Path ns Nothing) (λ vs. path_names_at levels (More Nothing n) vs) (λ vs. refl) us) ts

-- a type behind `::`, or a function
definition_is : (levels : ℕ) (c : Context) (declare define : Tree → Tree) (ts : List Token) → reading levels (lua.terra_definition c declare define) ts
    ≡ cond (begins (is symbols.DoubleColon) ts) (expression_behind_at levels symbols.DoubleColon (codes.Lua c.mode) ts >>= λ e rest. Took (declare e) rest) (opened_terra_body_at levels ts >>= λ x rest. Took (define x) rest)
definition_is levels c declare define ts =
    either_is (begins (is symbols.DoubleColon) ts) (reading levels (bind (sign symbols.DoubleColon) λ y. bind (expressions.expression c.mode) λ e. give (declare e)) ts) (reading levels (bind (opening_at symbols.OpenParen TerraFunctionBody) λ b. give (define b.1)) ts)
    (expression_behind_at levels symbols.DoubleColon (codes.Lua c.mode) ts >>= λ e rest. Took (declare e) rest) (opened_terra_body_at levels ts >>= λ x rest. Took (define x) rest)
    (behind_give levels symbols.DoubleColon (codes.Lua c.mode) declare ts)
    (terra_body_give levels define ts)

-- the statements behind their first token
pub define_terra_is : (levels : ℕ) (c : Context) (t : Token) (ts : List Token) → is_of (is symbols.Terra) t ≡ true → reading levels (lua.statement c lua.FromTerra t Nothing) ts ≡ define_terra_at levels c.mode (t ∷ ts)
unfolding define_terra_at
define_terra_is levels c t ts h =
    signed_form levels symbols.Terra t ts (lua.statement c lua.FromTerra t Nothing)
    (λ u a. path_at levels a >>= λ p b. cond (begins (is symbols.DoubleColon) b) (expression_behind_at levels symbols.DoubleColon (codes.Lua c.mode) b >>= λ e rest. Took (DeclareTerra u.place p e) rest) (opened_terra_body_at levels b >>= λ x rest. Took (DefineTerra u.place p x) rest)) h
    (then levels lua.path (λ p. lua.terra_definition c (DeclareTerra t.place p) (DefineTerra t.place p)) (λ us. path_at levels us)
    (λ p b. cond (begins (is symbols.DoubleColon) b) (expression_behind_at levels symbols.DoubleColon (codes.Lua c.mode) b >>= λ e rest. Took (DeclareTerra t.place p e) rest) (opened_terra_body_at levels b >>= λ x rest. Took (DefineTerra t.place p x) rest))
    (λ us. path_agrees levels us) (λ p us. definition_is levels c (DeclareTerra t.place p) (DefineTerra t.place p) us) ts)

pub define_struct_is : (levels : ℕ) (c : Context) (t : Token) (ts : List Token) → is_of (is symbols.Struct) t ≡ true → reading levels (lua.statement c lua.FromStruct t Nothing) ts ≡ define_struct_at levels c.mode (t ∷ ts)
unfolding define_struct_at
define_struct_is levels c t ts h =
    signed_form levels symbols.Struct t ts (lua.statement c lua.FromStruct t Nothing) (λ u a. struct_path_at levels a >>= λ p b. struct_body_at levels c.mode b >>= λ es rest. Took (DefineStruct u.place p es) rest) h
    (then levels lua.struct_path (λ p. bind (expressions.struct_body c.mode) λ es. give (DefineStruct t.place p es)) (λ us. struct_path_at levels us) (λ p b. struct_body_at levels c.mode b >>= λ es rest. Took (DefineStruct t.place p es) rest) (λ us. struct_path_agrees levels us)
    (λ p us. then_give levels (expressions.struct_body c.mode) (λ es. DefineStruct t.place p es) (λ vs. struct_body_at levels c.mode vs) (λ vs. struct_body_agrees levels c.mode vs) us) ts)

-- what is behind `local`
pub local_terra_agrees : (levels : ℕ) (c : Context) (t : Token) (ts : List Token) → reading levels (lua.local_terra c t) ts ≡ local_terra_at levels c.mode t.place ts
unfolding local_terra_at local_struct_at local_terra_function_at
local_terra_agrees levels c t ts =
    either_is (begins (is symbols.Struct) ts) (reading levels (bind (sign symbols.Struct) λ y. bind name λ n. bind (expressions.struct_body c.mode) λ es. give (LocalStruct t.place y.0.place n es)) ts)
    (reading levels (bind (sign symbols.Terra) λ y. bind name λ n. lua.terra_definition c (LocalDeclareTerra t.place y.0.place n) (LocalTerra t.place y.0.place n)) ts)
    (sign_at symbols.Struct ts >>= λ u a. name_at a >>= λ n b. struct_body_at levels c.mode b >>= λ es rest. Took (LocalStruct t.place u.place n es) rest)
    (sign_at symbols.Terra ts >>= λ u a. name_at a >>= λ n b. defined u n b)
    (sign_then levels symbols.Struct (λ y. bind name λ n. bind (expressions.struct_body c.mode) λ es. give (LocalStruct t.place y.0.place n es)) (λ u a. name_at a >>= λ n b. struct_body_at levels c.mode b >>= λ es rest. Took (LocalStruct t.place u.place n es) rest)
    (λ u us. then levels name (λ n. bind (expressions.struct_body c.mode) λ es. give (LocalStruct t.place u.place n es)) (λ vs. name_at vs) (λ n b. struct_body_at levels c.mode b >>= λ es rest. Took (LocalStruct t.place u.place n es) rest) (λ vs. name_agrees levels vs)
    (λ n vs. then_give levels (expressions.struct_body c.mode) (λ es. LocalStruct t.place u.place n es) (λ ws. struct_body_at levels c.mode ws) (λ ws. struct_body_agrees levels c.mode ws) vs) us) ts)
    (sign_then levels symbols.Terra (λ y. bind name λ n. lua.terra_definition c (LocalDeclareTerra t.place y.0.place n) (LocalTerra t.place y.0.place n)) (λ u a. name_at a >>= λ n b. defined u n b)
    (λ u us. then levels name (λ n. lua.terra_definition c (LocalDeclareTerra t.place u.place n) (LocalTerra t.place u.place n)) (λ vs. name_at vs) (λ n b. defined u n b) (λ vs. name_agrees levels vs)
    (λ n vs. definition_is levels c (LocalDeclareTerra t.place u.place n) (LocalTerra t.place u.place n) vs) us) ts)
  where
    defined : Token → Tree → List Token → Outcome Tree
    defined u n b = cond (begins (is symbols.DoubleColon) b) (expression_behind_at levels symbols.DoubleColon (codes.Lua c.mode) b >>= λ e rest. Took (LocalDeclareTerra t.place u.place n e) rest) (opened_terra_body_at levels b >>= λ x rest. Took (LocalTerra t.place u.place n x) rest)
