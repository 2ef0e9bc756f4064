-- What reading each name of the grammar of Lua statements and functions gives, from left to right.
-- `proofs/AgreeingStatements.antt` shows that it is what the grammar of the name gives.
use Rattle.std.specs.Prelude.{ℕ, ◌-◌, Bool, true, false, not, ◌&&◌, List, [], ◌∷◌, if◌then◌else◌, Option, Some, None}
use Rattle.tl_base.specs.declared.place.Place.{Place}
use Rattle.tl_tree.specs.declared.symbol.Symbol.{Symbol}
use Rattle.tl_tree.specs.declared.symbol.Symbol.TheVariants as symbols
use Rattle.tl_tree.specs.declared.mode.Mode.{Mode}
use Rattle.tl_tree.specs.declared.mode.Context.{Context}
use Rattle.tl_tree.specs.declared.mode.TokenUse.TheVariants.{Plain}
use Rattle.tl_tree.specs.declared.mode.OperandKind.{OperandKind}
use Rattle.tl_tree.specs.declared.mode.OperandKind.TheVariants as operands
use Rattle.tl_tree.specs.Tokens.{Token, among, is}
use Rattle.tl_tree.specs.Tree.{Tree, Nothing, More, Just, Assign, CallStatement, NumericFor}
use Rattle.tl_tree.specs.Tree.{GenericFor, DefineFunction, LocalFunction, Local, Emit, Break, Arm}
use Rattle.tl_tree.specs.Tree.{Body, Expression, Statements}
use Rattle.tl_tree.specs.Grammar.{Grammar, many, Outcome, Took, ◌>>=◌, begins, unexpected}
use Rattle.tl_tree.specs.LuaStatements as lua
use Rattle.tl_tree.specs.LuaStatements.{fresh, Parameters, parameters_of, body_mode}
use Rattle.tl_parse.specs.Views.Using.{symbol_at, reading, part_at, sign_at, open_at}
use Rattle.tl_parse.specs.Views.Lists.{more_elements_at, expressions_at, expressions_behind_at}
use Rattle.tl_parse.specs.Views.Expressions.{name_at, applied_at}
use Rattle.tl_parse.specs.Views.Paths.{more_names_at, names_at, path_at}
use Rattle.tl_parse.specs.Views.TerraDefinitions.{define_terra_at, define_struct_at, local_terra_at}
use Rattle.tl_parse.specs.Views.Codes.{expression_in, expression_behind_at, optional_expression_at, code_of}
use Rattle.tl_parse.specs.Views.Codes.{statements_in}
use Rattle.tl_parse.specs.Views.Codes.{arms_of}
use Rattle.tl_parse.specs.Views.Codes.{opened_body_at, looped_code, first_symbols, do_of, while_of, repeat_of, if_of}
use Rattle.tl_parse.specs.Views.Codes.{return_of}
use Rattle.tl_parse.specs.declared.parser.Code.{Code}
use Rattle.tl_parse.specs.declared.parser.Code.TheVariants as codes
use Rattle.tl_parse.specs.declared.parser.Element.TheVariants as elements
use Rattle.tl_parse.specs.declared.parser.BlockCode.{BlockCode}
use Rattle.tl_parse.specs.declared.parser.BlockCode.TheVariants as block_codes

-- the place of the first token
abbrev pub first_place : List Token → Place
first_place [] = record { line = 0; word = 0 }
first_place (t ∷ ts) = t.place

-- ---- targets

-- what isn't a variable
abbrev pub is_no_variable : OperandKind → Bool
is_no_variable operands.Call = true
is_no_variable operands.Other = true
is_no_variable _ = false

-- a prefix expression that is a variable
unfoldable pub variable_at : ℕ → Mode → List Token → Outcome Tree
variable_at levels m ts = applied_at levels m false ts >>= λ a rest.
    if is_no_variable a.kind then unexpected rest else Took a.tree rest

abbrev pub is_call : OperandKind → Bool
is_call operands.Call = true
is_call _ = false

unfoldable pub call_or_assignment_at : ℕ → Mode → List Token → Outcome Tree
call_or_assignment_at levels m ts =
    applied_at levels m true ts >>= λ a b.
    if is_call a.kind then Took (CallStatement (first_place ts) a.tree) b
    else (more_elements_at levels (elements.Target m) (More Nothing a.tree) b >>= λ targets c.
    expressions_behind_at levels symbols.Equal (codes.Lua m) c
    >>= λ es rest. Took (Assign (first_place ts) targets es) rest)

-- ---- loops and choices

unfoldable pub do_at : ℕ → BlockCode → List Token → Outcome Tree
do_at levels block ts = open_at symbols.Do levels ts >>= λ t a. part_at (levels - 1) (statements_in block) a >>= λ x b.
    sign_at symbols.End b >>= λ y rest. Took (do_of block t.place x) rest

unfoldable pub loop_at : ℕ → BlockCode → List Token → Outcome Tree
loop_at levels block ts =
    open_at symbols.Do levels ts >>= λ t a. part_at (levels - 1) (statements_in (looped_code block)) a >>= λ x b.
    sign_at symbols.End b >>= λ y rest. Took x rest

unfoldable pub while_at : ℕ → BlockCode → List Token → Outcome Tree
while_at levels block ts =
    sign_at symbols.While ts >>= λ t a. part_at levels (expression_in (code_of block)) a >>= λ e b.
    loop_at levels block b >>= λ x rest. Took (while_of block t.place e x) rest

unfoldable pub repeat_at : ℕ → BlockCode → List Token → Outcome Tree
repeat_at levels block ts =
    open_at symbols.Repeat levels ts >>= λ t a. part_at (levels - 1) (statements_in (looped_code block)) a >>= λ x b.
    expression_behind_at levels symbols.Until (code_of block) b >>= λ e rest. Took (repeat_of block t.place x e) rest

unfoldable pub arm_at : ℕ → BlockCode → List Token → Outcome Tree
arm_at levels block ts =
    part_at levels (expression_in (code_of block)) ts >>= λ e a. open_at symbols.Then levels a >>= λ t b.
    part_at (levels - 1) (statements_in block) b >>= λ x rest. Took (Arm e x) rest

unfoldable pub more_arms_at : ℕ → BlockCode → Tree → List Token → Outcome Tree
more_arms_at levels block before ts = reading levels (arms_of block before) ts

unfoldable pub next_arm_at : ℕ → BlockCode → List Token → Outcome Tree
next_arm_at levels block ts = sign_at symbols.Elseif ts >>= λ y a. arm_at levels block a

unfoldable pub arms_at : ℕ → BlockCode → List Token → Outcome Tree
arms_at levels block ts = arm_at levels block ts >>= λ x a. more_arms_at levels block (More Nothing x) a

unfoldable pub otherwise_at : ℕ → BlockCode → List Token → Outcome Tree
otherwise_at levels block ts =
    if begins (is symbols.Else) ts then (open_at symbols.Else levels ts >>= λ t a.
    part_at (levels - 1) (statements_in block) a >>= λ x rest. Took (Just x) rest) else Took Nothing ts

unfoldable pub if_at : ℕ → BlockCode → List Token → Outcome Tree
if_at levels block ts =
    sign_at symbols.If ts >>= λ t a. arms_at levels block a >>= λ all b. otherwise_at levels block b >>= λ o d.
    sign_at symbols.End d >>= λ y rest. Took (if_of block t.place all o) rest

-- what a numeric `for` has behind its name
pub record Numeric : Type 0 where
  pub from : Tree
  pub limit : Tree
  pub step : Tree
  pub block : Tree

abbrev pub numeric : Tree → Tree → Tree → Tree → Numeric
numeric a b s x = record { from = a; limit = b; step = s; block = x }

unfoldable pub numeric_at : ℕ → BlockCode → List Token → Outcome Numeric
numeric_at levels block ts =
    expression_behind_at levels symbols.Equal (code_of block) ts >>= λ from a.
    expression_behind_at levels symbols.Comma (code_of block) a >>= λ limit b.
    optional_expression_at levels symbols.Comma (code_of block) b >>= λ s d.
    loop_at levels block d >>= λ x rest. Took (numeric from limit s x) rest

-- what a generic `for` has behind its names
pub record Generic : Type 0 where
  pub values : Tree
  pub block : Tree

abbrev pub generic : Tree → Tree → Generic
generic es x = record { values = es; block = x }

unfoldable pub generic_at : ℕ → Context → List Token → Outcome Generic
generic_at levels c ts =
    expressions_behind_at levels symbols.In (codes.Lua c.mode) ts >>= λ es a.
    loop_at levels (block_codes.Lua c) a >>= λ x rest. Took (generic es x) rest

unfoldable pub for_at : ℕ → Context → List Token → Outcome Tree
for_at levels c ts =
    sign_at symbols.For ts >>= λ t a. name_at a >>= λ n b.
    if begins (is symbols.Equal) b then (numeric_at levels (block_codes.Lua c) b
    >>= λ r rest. Took (NumericFor t.place n r.from r.limit r.step r.block) rest)
    else (more_names_at levels (More Nothing n) b >>= λ ns d. generic_at levels c d
    >>= λ r rest. Took (GenericFor t.place ns r.values r.block) rest)

-- ---- declarations

unfoldable pub function_statement_at : ℕ → List Token → Outcome Tree
function_statement_at levels ts =
    sign_at symbols.Function ts >>= λ t a. path_at levels a >>= λ p b.
    opened_body_at levels b >>= λ x rest. Took (DefineFunction t.place p x) rest

unfoldable pub local_function_at : ℕ → Place → List Token → Outcome Tree
local_function_at levels place ts =
    sign_at symbols.Function ts >>= λ y a. name_at a >>= λ n b.
    opened_body_at levels b >>= λ x rest. Took (LocalFunction place n x) rest

unfoldable pub initial_values_at : ℕ → Code → List Token → Outcome Tree
initial_values_at levels code ts =
    if begins (is symbols.Equal) ts then expressions_behind_at levels symbols.Equal code ts
    else Took Nothing ts

unfoldable pub local_names_at : ℕ → Mode → Place → List Token → Outcome Tree
local_names_at levels m place ts = names_at levels ts >>= λ ns a. initial_values_at levels (codes.Lua m) a
    >>= λ es rest. Took (Local place ns es) rest

-- the words of definitions of Terra code
abbrev pub definition_symbols : List Symbol
definition_symbols = symbols.Terra ∷ symbols.Struct ∷ []

unfoldable pub local_at : ℕ → Context → List Token → Outcome Tree
local_at levels c ts =
    sign_at symbols.Local ts >>= λ t a. if begins (is symbols.Function) a then local_function_at levels t.place a
    else (if begins (among definition_symbols) a then local_terra_at levels c.mode t.place a
    else local_names_at levels c.mode t.place a)

unfoldable pub returned_values_at : ℕ → Code → List Token → Outcome Tree
returned_values_at levels code ts =
    if begins (among (first_symbols code)) ts then expressions_at levels code ts else Took Nothing ts

unfoldable pub return_at : ℕ → BlockCode → List Token → Outcome Tree
return_at levels block ts = sign_at symbols.Return ts >>= λ t a. returned_values_at levels (code_of block) a
    >>= λ es rest. Took (return_of block t.place es) rest

unfoldable pub break_at : List Token → Outcome Tree
break_at ts = sign_at symbols.Break ts >>= λ t rest. Took (Break t.place) rest

unfoldable pub emit_at : ℕ → Mode → List Token → Outcome Tree
emit_at levels m ts = sign_at symbols.Emit ts >>= λ t a. part_at levels (Expression m) a
    >>= λ e rest. Took (Emit t.place e) rest

-- ---- statements

-- a statement whose first token has this symbol
abbrev pub statement_from : ℕ → Context → Symbol → List Token → Outcome Tree
statement_from levels c symbols.Do ts = do_at levels (block_codes.Lua c) ts
statement_from levels c symbols.While ts = while_at levels (block_codes.Lua c) ts
statement_from levels c symbols.Repeat ts = repeat_at levels (block_codes.Lua c) ts
statement_from levels c symbols.If ts = if_at levels (block_codes.Lua c) ts
statement_from levels c symbols.For ts = for_at levels c ts
statement_from levels c symbols.Function ts = function_statement_at levels ts
statement_from levels c symbols.Local ts = local_at levels c ts
statement_from levels c symbols.Return ts = return_at levels (block_codes.Lua c) ts
statement_from levels c symbols.Break ts = break_at ts
statement_from levels c symbols.Emit ts = emit_at levels c.mode ts
statement_from levels c symbols.Terra ts = define_terra_at levels c.mode ts
statement_from levels c symbols.Struct ts = define_struct_at levels c.mode ts
statement_from levels c _ ts = call_or_assignment_at levels c.mode ts

unfoldable pub statement_at : ℕ → Context → List Token → Outcome Tree
statement_at levels c ts = statement_from levels c (symbol_at ts) ts

-- ---- functions

-- a name, or nothing where it is `...`
unfoldable pub parameter_at : List Token → Outcome (Option Tree)
parameter_at ts = if begins (is symbols.Ellipsis) ts then (sign_at symbols.Ellipsis ts >>= λ y rest. Took None rest)
    else (name_at ts >>= λ n rest. Took (Some n) rest)

abbrev pub with_parameter : Tree → Option Tree → Parameters
with_parameter before None = parameters_of before true
with_parameter before (Some n) = parameters_of (More before n) false

-- the parameters behind those so far
abbrev pub more_parameters : Parameters → Grammar Parameters
more_parameters p = many (λ a t. is symbols.Comma t && not a.variadic) (λ a t. Plain) (λ a t. None) (λ t x a.
    lua.parameter a.names) p

unfoldable pub more_parameters_at : ℕ → Tree → Bool → List Token → Outcome Parameters
more_parameters_at levels names variadic ts = reading levels (more_parameters (parameters_of names variadic)) ts

unfoldable pub next_parameter_at : List Token → Outcome (Option Tree)
next_parameter_at ts = sign_at symbols.Comma ts >>= λ y a. parameter_at a

unfoldable pub parameters_at : ℕ → List Token → Outcome Parameters
parameters_at levels ts =
    if begins (is symbols.CloseParen) ts then Took (parameters_of Nothing false) ts
    else (parameter_at ts >>= λ o rest.
    more_parameters_at levels (with_parameter Nothing o).names (with_parameter Nothing o).variadic rest)

-- behind a "("
unfoldable pub body_at : ℕ → List Token → Outcome Tree
body_at levels ts =
    parameters_at levels ts >>= λ p a. sign_at symbols.CloseParen a >>= λ y b.
    part_at levels (Statements (fresh (body_mode p.variadic))) b >>= λ x d. sign_at symbols.End d >>= λ z rest.
    Took (Body p.names p.variadic x) rest
