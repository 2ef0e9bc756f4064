-- A list of tokens that has a tree has, with its names changed, that tree with its names changed; and the names of the tree are those of the
-- tokens, in order.
use Rattle.std.proofs.Common.{◌≡◌, ℕ, zero, suc, List, [], sym, ap, ◌∙◌, append-nil}
use Rattle.tl_tree.specs.Tokens.{Token}
use Rattle.tl_tree.specs.Tree.{Tree, Part, Expression, Operand, Concatenation, Arguments, Fields, Statements, FunctionBody, Entries}
use Rattle.tl_tree.specs.Tree.{TerraExpression, TerraOperand, TerraArguments, Initialisers, TerraStatements, TerraFunctionBody, QuotedCode}
use Rattle.tl_tree.specs.Grammar.{Parts, parts_at, down}
use Rattle.tl_tree.specs.Refusing.{limits, HasTree}
use Rattle.tl_tree.specs.Laws.{IsChunk}
use Rattle.tl_tree.specs.Syntax.{syntax_of, chunk}
use Rattle.tl_renaming.proofs.Changed.{Change, all_named, changed_tokens, changed, names_in, tree}
use Rattle.tl_renaming.proofs.Keeping.{PartsKeep, Keeps}
use Rattle.tl_renaming.proofs.KeepingExpressions.{expression, operand_of, concatenation_of, arguments_of, fields, entries}
use Rattle.tl_renaming.proofs.KeepingStatements.{block, function_body}
use Rattle.tl_renaming.proofs.KeepingTerra.{terra_expression, terra_operand_of, terra_arguments_of, initialisers, terra_block, terra_function_body}
use Rattle.tl_renaming.proofs.KeepingTerra.{quoted_code}

keeps_part : (c : Change) (levels : ℕ) (parts : Parts) → PartsKeep c parts → (part : Part)
    → Keeps c levels parts (tree c) [] (syntax_of part) (syntax_of part)
keeps_part c levels parts keep (Expression m) = expression c levels parts keep m
keeps_part c levels parts keep (Operand m) = operand_of c levels parts keep m
keeps_part c levels parts keep (Concatenation m) = concatenation_of c levels parts keep m
keeps_part c levels parts keep (Arguments m) = arguments_of c levels parts keep m
keeps_part c levels parts keep (Fields m) = fields c levels parts keep m
keeps_part c levels parts keep (Statements d) = block c levels parts keep d
keeps_part c levels parts keep FunctionBody = function_body c levels parts keep
keeps_part c levels parts keep (Entries m) = entries c levels parts keep m
keeps_part c levels parts keep TerraExpression = terra_expression c levels parts keep
keeps_part c levels parts keep TerraOperand = terra_operand_of c levels parts keep
keeps_part c levels parts keep TerraArguments = terra_arguments_of c levels parts keep
keeps_part c levels parts keep Initialisers = initialisers c levels parts keep
keeps_part c levels parts keep TerraStatements = terra_block c levels parts keep
keeps_part c levels parts keep (TerraFunctionBody place) = terra_function_body c levels parts keep place
keeps_part c levels parts keep QuotedCode = quoted_code c levels parts keep

parts_keep : (c : Change) (depth levels : ℕ) → PartsKeep c (parts_at syntax_of limits depth levels)
parts_keep c zero levels part ts x rest h = absurd h
parts_keep c (suc depth) levels part ts x rest h =
    let k = (keeps_part c levels (parts_at syntax_of limits depth (down levels)) (parts_keep c depth (down levels)) part).all ts x rest h in
    record { front = k.front; parts = k.parts; names = k.names; reads = k.reads }

pub record KeepsTree (c : Change) (ts : List Token) (a : Tree) : Type 0 where
  pub names : names_in a ≡ all_named ts
  pub has : HasTree IsChunk (changed_tokens c ts) (changed c a)

pub keeps_tree : (c : Change) (ts : List Token) (a : Tree) → HasTree IsChunk ts a → KeepsTree c ts a
keeps_tree c ts a h =
    let k = parts_keep c h.0 100 chunk ts a [] h.1 in
    record { names = k.names ∙ ap all_named (sym (k.parts ∙ append-nil k.front)); has = (h.0, k.reads) }
