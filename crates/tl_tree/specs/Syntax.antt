-- The grammar of each part.
use Rattle.tl_tree.specs.declared.mode.Mode.TheVariants as modes
use Rattle.tl_tree.specs.Tree.{Part, Expression, Operand, Concatenation, Arguments, Fields, Statements, FunctionBody}
use Rattle.tl_tree.specs.Tree.{Entries, TerraExpression, TerraOperand, TerraArguments, Initialisers, TerraStatements}
use Rattle.tl_tree.specs.Tree.{TerraFunctionBody, QuotedCode}
use Rattle.tl_tree.specs.Grammar.{Table}
use Rattle.tl_tree.specs.LuaExpressions.{expression, operand_of, concatenation_of, arguments_of, fields, entries}
use Rattle.tl_tree.specs.LuaStatements.{fresh, block, function_body}
use Rattle.tl_tree.specs.TerraExpressions.{terra_expression, terra_operand_of, terra_arguments_of, initialisers}
use Rattle.tl_tree.specs.TerraStatements.{terra_block, terra_function_body, quoted_code}

abbrev pub syntax_of : Table
syntax_of (Expression m) = expression m
syntax_of (Operand m) = operand_of m
syntax_of (Concatenation m) = concatenation_of m
syntax_of (Arguments m) = arguments_of m
syntax_of (Fields m) = fields m
syntax_of (Statements c) = block c
syntax_of FunctionBody = function_body
syntax_of (Entries m) = entries m
syntax_of TerraExpression = terra_expression
syntax_of TerraOperand = terra_operand_of
syntax_of TerraArguments = terra_arguments_of
syntax_of Initialisers = initialisers
syntax_of TerraStatements = terra_block
syntax_of (TerraFunctionBody place) = terra_function_body place
syntax_of QuotedCode = quoted_code

-- a whole text
abbrev pub chunk : Part
chunk = Statements (fresh modes.Variadic)
