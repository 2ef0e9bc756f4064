-- Each part of the grammar can be completed from wherever reading stands in it.
use Rattle.std.proofs.Common.{ℕ, true, List, refl}
use Rattle.tl_tree.specs.declared.symbol.Symbol.{Symbol}
use Rattle.tl_tree.specs.Tokens.{among}
use Rattle.tl_tree.specs.Tree.{Tree, Part, Expression, Operand, Concatenation, Arguments, Fields, Statements}
use Rattle.tl_tree.specs.Tree.{FunctionBody, Entries, TerraExpression, TerraOperand, TerraArguments, Initialisers}
use Rattle.tl_tree.specs.Tree.{TerraStatements, TerraFunctionBody, QuotedCode}
use Rattle.tl_tree.specs.Grammar.{Grammar, Rule, Parts}
use Rattle.tl_tree.specs.Syntax.{syntax_of}
use Rattle.tl_tree.proofs.Completing.{Starts, bare-within}
use Rattle.tl_tree.proofs.Continuing.{completes-within}
use Rattle.tl_tree.proofs.Parting.{turned-within}
use Rattle.tl_tree.proofs.Settings.{Setting}
use Rattle.tl_tree.proofs.Levels.{Begun, Completed, Parted}
use Rattle.tl_tree.proofs.Going.{Begins, Goes}
use Rattle.tl_tree.proofs.Following.{following, after_part}
use Rattle.tl_tree.proofs.LuaExpressionsGo.{begins-expression, begins-operand_of, begins-concatenation_of}
use Rattle.tl_tree.proofs.LuaExpressionsGo.{begins-arguments_of, begins-fields, begins-entries, goes-expression}
use Rattle.tl_tree.proofs.LuaExpressionsGo.{goes-operand_of, goes-concatenation_of, goes-arguments_of, goes-fields}
use Rattle.tl_tree.proofs.LuaExpressionsGo.{goes-entries}
use Rattle.tl_tree.proofs.LuaStatementsGo.{begins-block, begins-function_body, goes-block, goes-function_body}
use Rattle.tl_tree.proofs.TerraExpressionsGo.{begins-terra_expression, begins-terra_operand_of}
use Rattle.tl_tree.proofs.TerraExpressionsGo.{begins-terra_arguments_of, begins-initialisers, goes-terra_expression}
use Rattle.tl_tree.proofs.TerraExpressionsGo.{goes-terra_operand_of, goes-terra_arguments_of, goes-initialisers}
use Rattle.tl_tree.proofs.TerraStatementsGo.{begins-terra_block, begins-terra_function_body, begins-quoted_code}
use Rattle.tl_tree.proofs.TerraStatementsGo.{goes-terra_block, goes-terra_function_body, goes-quoted_code}

started : {levels : ℕ} {parts : Rule → Parts} {g : Grammar Tree} {first after : List Symbol}
    → Begins levels parts g first after → Starts levels parts g (λ t. true) (among after)
started {levels} {parts} {g} {first} {after} p =
    bare-within levels parts g (among first) (λ t. true) (among after) (among after) (λ t h. refl) (λ t h. h) p.starts

pub begun : Begun syntax_of after_part
begun levels parts (Expression m) = started (begins-expression)
begun levels parts (Operand m) = started (begins-operand_of)
begun levels parts (Concatenation m) = started (begins-concatenation_of)
begun levels parts (Arguments m) = started (begins-arguments_of)
begun levels parts (Fields m) = started (begins-fields)
begun levels parts (Statements c) = started (begins-block)
begun levels parts FunctionBody = started (begins-function_body)
begun levels parts (Entries m) = started (begins-entries)
begun levels parts TerraExpression = started begins-terra_expression
begun levels parts TerraOperand = started begins-terra_operand_of
begun levels parts TerraArguments = started begins-terra_arguments_of
begun levels parts Initialisers = started begins-initialisers
begun levels parts TerraStatements = started begins-terra_block
begun levels parts (TerraFunctionBody place) = started begins-terra_function_body
begun levels parts QuotedCode = started begins-quoted_code

-- some symbols with which the part can begin
record PartGoes (s : Setting after_part) (part : Part) : Type 0 where
  first : List Symbol
  goes : Goes s (syntax_of part) first (following part)

gone : (s : Setting after_part) (part : Part) {first : List Symbol} → Goes s (syntax_of part) first (following part)
    → PartGoes s part
gone s part {first} p = record { first = first; goes = p }

part_goes : (s : Setting after_part) (part : Part) → PartGoes s part
part_goes s (Expression m) = gone s (Expression m) (goes-expression)
part_goes s (Operand m) = gone s (Operand m) (goes-operand_of)
part_goes s (Concatenation m) = gone s (Concatenation m) (goes-concatenation_of)
part_goes s (Arguments m) = gone s (Arguments m) (goes-arguments_of)
part_goes s (Fields m) = gone s (Fields m) (goes-fields)
part_goes s (Statements c) = gone s (Statements c) (goes-block c)
part_goes s FunctionBody = gone s FunctionBody (goes-function_body)
part_goes s (Entries m) = gone s (Entries m) (goes-entries)
part_goes s TerraExpression = gone s TerraExpression goes-terra_expression
part_goes s TerraOperand = gone s TerraOperand goes-terra_operand_of
part_goes s TerraArguments = gone s TerraArguments goes-terra_arguments_of
part_goes s Initialisers = gone s Initialisers goes-initialisers
part_goes s TerraStatements = gone s TerraStatements goes-terra_block
part_goes s (TerraFunctionBody place) = gone s (TerraFunctionBody place) goes-terra_function_body
part_goes s QuotedCode = gone s QuotedCode goes-quoted_code

pub completed : Completed syntax_of after_part
completed s part =
    let p = part_goes s part in
    completes-within s.levels s.readers s.parts after_part s.leave s.steady s.sound s.bare s.below (syntax_of part)
    (among p.first) (λ t. true) (after_part part) (after_part part) (λ t h. refl) (λ t h. h) p.goes.completes

pub turned : Parted syntax_of after_part
turned s part =
    let p = part_goes s part in
    turned-within s.deep (syntax_of part) (among p.first) (λ t. true) (after_part part) (after_part part) (λ t h. refl)
    (λ t h. h) p.goes.turned
