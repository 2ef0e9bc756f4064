-- What reading each name of the grammar of Terra statements gives, from left to right.
use Rattle.std.specs.Prelude.{ℕ, ◌-◌, Bool, true, false, not, ◌&&◌, List, [], ◌∷◌, if◌then◌else◌}
use Rattle.tl_base.specs.declared.place.Place.{Place}
use Rattle.tl_tree.specs.declared.symbol.Symbol.{Symbol}
use Rattle.tl_tree.specs.declared.symbol.Symbol.TheVariants as symbols
use Rattle.tl_tree.specs.declared.mode.Mode.TheVariants as modes
use Rattle.tl_tree.specs.declared.mode.OperandKind.{OperandKind}
use Rattle.tl_tree.specs.declared.mode.OperandKind.TheVariants as operands
use Rattle.tl_tree.specs.Tokens.{Token, among, is}
use Rattle.tl_tree.specs.Tree.{Tree, Nothing, More, Name, TerraAssign, TerraCallStatement, Splice}
use Rattle.tl_tree.specs.Tree.{TerraFor, Var, EscapeBlock, TerraBreak}
use Rattle.tl_tree.specs.Tree.{Quoted, TerraBody, Parameter, SpliceParameter, Variable}
use Rattle.tl_tree.specs.Tree.{Statements, TerraExpression, TerraStatements}
use Rattle.tl_tree.specs.Grammar.{Outcome, Took, ◌>>=◌, begins}
use Rattle.tl_tree.specs.Forms.{Chained, chained, chain}
use Rattle.tl_tree.specs.TerraStatements as terra
use Rattle.tl_parse.specs.Views.Using.{symbol_at, part_at, sign_at, open_at}
use Rattle.tl_parse.specs.Views.Statements.{first_place, is_call, do_at, while_at, repeat_at, if_at, return_at}
use Rattle.tl_parse.specs.Views.TerraExpressions.{escape_at, terra_name_at}
use Rattle.tl_parse.specs.Views.TerraExpressions.{terra_applied_at}
use Rattle.tl_parse.specs.Views.Lists.{more_elements_at, elements_at, expressions_behind_at}
use Rattle.tl_parse.specs.Views.Statements.{initial_values_at, numeric_at}
use Rattle.tl_parse.specs.Views.Codes.{expression_behind_at, optional_expression_at}
use Rattle.tl_parse.specs.declared.parser.Code.TheVariants as codes
use Rattle.tl_parse.specs.declared.parser.Element.TheVariants as elements
use Rattle.tl_parse.specs.declared.parser.BlockCode.TheVariants as block_codes

-- ---- parts of statements

-- ":" and a type, if they are there
abbrev pub written_type_at : ℕ → List Token → Outcome Tree
written_type_at levels ts = optional_expression_at levels symbols.Colon (codes.Lua modes.Types) ts

-- a name, or what Lua code gives for it, with its place
pub record PlacedName : Type 0 where
  pub place : Place
  pub name : Tree

abbrev pub placed_name : Place → Tree → PlacedName
placed_name place n = record { place = place; name = n }

unfoldable pub placed_name_at : ℕ → List Token → Outcome PlacedName
placed_name_at levels ts =
    if begins (is symbols.OpenBracket) ts
    then (escape_at levels ts >>= λ e rest. Took (placed_name (first_place ts) e) rest)
    else (sign_at symbols.Name ts >>= λ n rest. Took (placed_name n.place (Name n.place n.offset n.text)) rest)

unfoldable pub terra_variable_at : ℕ → List Token → Outcome Tree
terra_variable_at levels ts = placed_name_at levels ts >>= λ p a. written_type_at levels a
    >>= λ e rest. Took (Variable p.place p.name e) rest

-- ---- assignments, calls and splices

abbrev pub is_escape : OperandKind → Bool
is_escape operands.Escape = true
is_escape _ = false

-- the first expression of a statement that no word begins
unfoldable pub terra_target_at : ℕ → List Token → Outcome Chained
terra_target_at levels ts =
    if begins (is symbols.At) ts then (part_at levels TerraExpression ts
    >>= λ e rest. Took (chained e chain operands.Other) rest) else terra_applied_at levels ts

-- more targets and the values behind a list of targets
unfoldable pub terra_assignment_at : ℕ → Place → Tree → List Token → Outcome Tree
terra_assignment_at levels place before ts =
    more_elements_at levels (elements.Expression codes.Terra) before ts >>= λ targets a.
    expressions_behind_at levels symbols.Equal codes.Terra a >>= λ es rest. Took (TerraAssign place targets es) rest

abbrev pub assignment_symbols : List Symbol
assignment_symbols = symbols.Equal ∷ symbols.Comma ∷ []

abbrev pub terra_statement_behind_at : ℕ → Place → Chained → List Token → Outcome Tree
terra_statement_behind_at levels place a ts =
    if is_call a.kind then Took (TerraCallStatement place a.tree) ts
    else (if is_escape a.kind && not (begins (among assignment_symbols) ts) then Took (Splice place a.tree) ts
    else terra_assignment_at levels place (More Nothing a.tree) ts)

unfoldable pub terra_simple_statement_at : ℕ → List Token → Outcome Tree
terra_simple_statement_at levels ts = terra_target_at levels ts >>= λ a rest.
    terra_statement_behind_at levels (first_place ts) a rest

-- ---- statements that a word begins

unfoldable pub terra_for_at : ℕ → List Token → Outcome Tree
terra_for_at levels ts =
    sign_at symbols.For ts >>= λ t a. terra_name_at levels a >>= λ n b. numeric_at levels block_codes.Terra b
    >>= λ r rest. Took (TerraFor t.place n r.from r.limit r.step r.block) rest

unfoldable pub terra_var_at : ℕ → List Token → Outcome Tree
terra_var_at levels ts =
    sign_at symbols.Var ts >>= λ t a. elements_at levels elements.TerraVariable a >>= λ vs b.
    initial_values_at levels codes.Terra b
    >>= λ es rest. Took (Var t.place vs es) rest

unfoldable pub escape_block_at : ℕ → List Token → Outcome Tree
escape_block_at levels ts =
    open_at symbols.Escape levels ts >>= λ t a. part_at (levels - 1) (Statements terra.emitting) a >>= λ x b.
    sign_at symbols.End b >>= λ y rest.
    Took (EscapeBlock t.place x) rest

unfoldable pub terra_break_at : List Token → Outcome Tree
terra_break_at ts = sign_at symbols.Break ts >>= λ t rest. Took (TerraBreak t.place) rest

-- ---- statements

-- a statement whose first token has this symbol
abbrev pub terra_statement_from : ℕ → Symbol → List Token → Outcome Tree
terra_statement_from levels symbols.Do ts = do_at levels block_codes.Terra ts
terra_statement_from levels symbols.While ts = while_at levels block_codes.Terra ts
terra_statement_from levels symbols.Repeat ts = repeat_at levels block_codes.Terra ts
terra_statement_from levels symbols.If ts = if_at levels block_codes.Terra ts
terra_statement_from levels symbols.For ts = terra_for_at levels ts
terra_statement_from levels symbols.Var ts = terra_var_at levels ts
terra_statement_from levels symbols.Escape ts = escape_block_at levels ts
terra_statement_from levels symbols.Return ts = return_at levels block_codes.Terra ts
terra_statement_from levels symbols.Break ts = terra_break_at ts
terra_statement_from levels _ ts = terra_simple_statement_at levels ts

unfoldable pub terra_statement_at : ℕ → List Token → Outcome Tree
terra_statement_at levels ts = terra_statement_from levels (symbol_at ts) ts

-- ---- functions and quotes

-- a parameter that Lua code gives, or a name with its type
unfoldable pub terra_parameter_at : ℕ → List Token → Outcome Tree
terra_parameter_at levels ts =
    placed_name_at levels ts >>= λ p a.
    if begins (is symbols.OpenBracket) ts then Took (SpliceParameter p.place p.name) a
    else (expression_behind_at levels symbols.Colon (codes.Lua modes.Types) a
    >>= λ e rest. Took (Parameter p.place p.name e) rest)

unfoldable pub terra_parameters_at : ℕ → List Token → Outcome Tree
terra_parameters_at levels ts = if begins (is symbols.CloseParen) ts then Took Nothing ts
    else elements_at levels elements.TerraParameter ts

-- behind a "(" at this place
unfoldable pub terra_function_body_at : ℕ → Place → List Token → Outcome Tree
terra_function_body_at levels place ts =
    terra_parameters_at levels ts >>= λ ps a. sign_at symbols.CloseParen a >>= λ y b. written_type_at levels b
    >>= λ r d. part_at levels TerraStatements d >>= λ x e.
    sign_at symbols.End e >>= λ z rest. Took (TerraBody place ps r x) rest

unfoldable pub quoted_code_at : ℕ → List Token → Outcome Tree
quoted_code_at levels ts =
    part_at levels TerraStatements ts >>= λ x a. optional_expression_at levels symbols.In codes.Terra a
    >>= λ e rest. Took (Quoted x e) rest
