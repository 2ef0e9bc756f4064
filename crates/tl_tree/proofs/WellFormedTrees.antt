-- The trees of texts are well formed.
use Rattle.std.proofs.Common.{ℕ, zero, suc, List, []}
use Rattle.tl_tree.specs.Tokens.{tokens_of}
use Rattle.tl_tree.specs.Tree.{Part, Expression, Operand, Concatenation, Arguments, Fields, Statements, FunctionBody}
use Rattle.tl_tree.specs.Tree.{Entries, TerraExpression, TerraOperand, TerraArguments, Initialisers, TerraStatements}
use Rattle.tl_tree.specs.Tree.{TerraFunctionBody, QuotedCode}
use Rattle.tl_tree.specs.Grammar.{Rule, Parts, parts_at, down, all_levels}
use Rattle.tl_tree.specs.Refusing.{limits}
use Rattle.tl_tree.specs.Syntax.{syntax_of, chunk}
use Rattle.tl_tree.specs.Kinds.{HasWellFormedTrees}
use Rattle.tl_tree.proofs.Giving.{PartHas, Kept, Gives}
use Rattle.tl_tree.proofs.LuaGives as of_lua
use Rattle.tl_tree.proofs.TerraGives as of_terra

part_has : (rule : Rule) (levels : ℕ) (parts : Parts) → Kept parts → (part : Part)
    → Gives rule levels parts (PartHas part) (syntax_of part)
part_has rule levels parts kept (Expression m) = of_lua.expression rule levels parts kept m
part_has rule levels parts kept (Operand m) = of_lua.lua_operand rule levels parts kept m
part_has rule levels parts kept (Concatenation m) = of_lua.lua_concatenation rule levels parts kept m
part_has rule levels parts kept (Arguments m) = of_lua.lua_arguments rule levels parts kept m
part_has rule levels parts kept (Fields m) = of_lua.lua_fields rule levels parts kept m
part_has rule levels parts kept (Statements c) = of_lua.lua_block rule levels parts kept c
part_has rule levels parts kept FunctionBody = of_lua.lua_function_body rule levels parts kept
part_has rule levels parts kept (Entries m) = of_lua.lua_entries rule levels parts kept m
part_has rule levels parts kept TerraExpression = of_terra.terra_expression rule levels parts kept
part_has rule levels parts kept TerraOperand = of_terra.terra_operand rule levels parts kept
part_has rule levels parts kept TerraArguments = of_terra.terra_arguments rule levels parts kept
part_has rule levels parts kept Initialisers = of_terra.initialisers rule levels parts kept
part_has rule levels parts kept TerraStatements = of_terra.terra_block rule levels parts kept
part_has rule levels parts kept (TerraFunctionBody place) = of_terra.terra_function_body rule levels parts kept place
part_has rule levels parts kept QuotedCode = of_terra.quoted_code rule levels parts kept

-- part by part, down the levels of nesting
parts_have : (rule : Rule) (depth levels : ℕ) → Kept (parts_at syntax_of rule depth levels)
parts_have rule zero levels part ts x rest h = absurd h
parts_have rule (suc depth) levels part ts x rest h =
    (part_has rule levels (parts_at syntax_of rule depth (down levels)) (parts_have rule depth (down levels)) part).all
    ts x rest h

pub well_formed_trees : (text : List ℕ) → HasWellFormedTrees text
well_formed_trees text tree h = parts_have limits h.0 all_levels chunk (tokens_of text) tree [] h.1
