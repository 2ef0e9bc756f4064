-- What reading the Lua statements that define Terra functions and types gives, from left to right.
use Rattle.std.specs.Prelude.{ℕ, List, if◌then◌else◌}
use Rattle.tl_base.specs.declared.place.Place.{Place}
use Rattle.tl_tree.specs.declared.symbol.Symbol.TheVariants as symbols
use Rattle.tl_tree.specs.declared.mode.Mode.{Mode}
use Rattle.tl_tree.specs.Tokens.{Token, is}
use Rattle.tl_tree.specs.Tree.{Tree, Nothing, More, Path, DefineTerra, DeclareTerra, LocalTerra, LocalDeclareTerra}
use Rattle.tl_tree.specs.Tree.{DefineStruct, LocalStruct}
use Rattle.tl_tree.specs.Grammar.{Outcome, Took, ◌>>=◌, begins}
use Rattle.tl_parse.specs.Views.Using.{sign_at}
use Rattle.tl_parse.specs.Views.Codes.{expression_behind_at, opened_terra_body_at}
use Rattle.tl_parse.specs.Views.Expressions.{name_at}
use Rattle.tl_parse.specs.Views.Paths.{path_names_at, path_at}
use Rattle.tl_parse.specs.Views.TerraCode.{struct_body_at}
use Rattle.tl_parse.specs.declared.parser.Code.TheVariants as codes

-- the path of a struct, which has no method
unfoldable pub struct_path_at : ℕ → List Token → Outcome Tree
struct_path_at levels ts = name_at ts >>= λ n a. path_names_at levels (More Nothing n) a
    >>= λ ns rest. Took (Path ns Nothing) rest

-- ---- statements

-- "terra" path and a function, or `::` and its type
unfoldable pub define_terra_at : ℕ → Mode → List Token → Outcome Tree
define_terra_at levels m ts =
    sign_at symbols.Terra ts >>= λ t a. path_at levels a >>= λ p b.
    if begins (is symbols.DoubleColon) b then (expression_behind_at levels symbols.DoubleColon (codes.Lua m) b
    >>= λ e rest. Took (DeclareTerra t.place p e) rest)
    else (opened_terra_body_at levels b >>= λ x rest. Took (DefineTerra t.place p x) rest)

-- the same of a local variable, behind `local` at a place
unfoldable pub local_terra_function_at : ℕ → Mode → Place → List Token → Outcome Tree
local_terra_function_at levels m place ts =
    sign_at symbols.Terra ts >>= λ t a. name_at a >>= λ n b.
    if begins (is symbols.DoubleColon) b then (expression_behind_at levels symbols.DoubleColon (codes.Lua m) b
    >>= λ e rest. Took (LocalDeclareTerra place t.place n e) rest)
    else (opened_terra_body_at levels b >>= λ x rest. Took (LocalTerra place t.place n x) rest)

unfoldable pub local_struct_at : ℕ → Mode → Place → List Token → Outcome Tree
local_struct_at levels m place ts =
    sign_at symbols.Struct ts >>= λ t a. name_at a >>= λ n b. struct_body_at levels m b
    >>= λ es rest. Took (LocalStruct place t.place n es) rest

unfoldable pub local_terra_at : ℕ → Mode → Place → List Token → Outcome Tree
local_terra_at levels m place ts = if begins (is symbols.Struct) ts then local_struct_at levels m place ts
    else local_terra_function_at levels m place ts

unfoldable pub define_struct_at : ℕ → Mode → List Token → Outcome Tree
define_struct_at levels m ts = sign_at symbols.Struct ts >>= λ t a. struct_path_at levels a >>= λ p b.
    struct_body_at levels m b >>= λ es rest. Took (DefineStruct t.place p es) rest
