-- What lists with commas hold is read as anywhere else.
use Rattle.std.proofs.Common.{◌≡◌, ℕ, List}
use Rattle.tl_tree.specs.declared.mode.Mode.{Mode}
use Rattle.tl_tree.specs.Tokens.{Token}
use Rattle.tl_parse.specs.Views.Using.{part_at}
use Rattle.tl_parse.specs.Views.Codes.{expression_in}
use Rattle.tl_parse.specs.Views.Lists.{element_at}
use Rattle.tl_parse.specs.Views.Statements.{variable_at}
use Rattle.tl_parse.specs.Views.TerraStatements.{terra_variable_at, terra_parameter_at}
use Rattle.tl_parse.specs.declared.parser.Code.{Code}
use Rattle.tl_parse.specs.declared.parser.Element.TheVariants as elements
use Rattle.tl_parse.proofs.Following.{expression_agrees}
use Rattle.tl_parse.proofs.AgreeingStatements.{variable_agrees}
use Rattle.tl_parse.proofs.TerraStatementAgreeing.{terra_variable_agrees, terra_parameter_agrees}
use Rattle.tl_parse.proofs.Failing.{fails_same}

pub expression_element : (levels : ℕ) (code : Code) (ts : List Token) → element_at levels (elements.Expression code) ts ≡ part_at levels (expression_in code) ts
unfolding element_at
expression_element levels code ts = expression_agrees levels code ts

pub target_element : (levels : ℕ) (m : Mode) (ts : List Token) → element_at levels (elements.Target m) ts ≡ variable_at levels m ts
unfolding element_at
target_element levels m ts = variable_agrees levels m ts

pub variable_element : (levels : ℕ) (ts : List Token) → element_at levels elements.TerraVariable ts ≡ terra_variable_at levels ts
unfolding element_at
variable_element levels ts = terra_variable_agrees levels ts

pub parameter_element : (levels : ℕ) (ts : List Token) → element_at levels elements.TerraParameter ts ≡ terra_parameter_at levels ts
unfolding element_at
parameter_element levels ts = terra_parameter_agrees levels ts

pub ruleset element = (fails_same, expression_element, target_element, variable_element, parameter_element)
