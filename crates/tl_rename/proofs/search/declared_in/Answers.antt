use Rattle.std.proofs.Common.{ap, ◌∙◌, take}
use Rattle.tl_tree.specs.Arena.{items_of}
use Rattle.tl_rename.proofs.Indexed.{nothing_in, all_there, all_in_scope}
use Rattle.tl_rename.proofs.search.declared_in.Goals as goal

pub returns-then-scope-declared : goal.returns-then-scope-declared
returns-then-scope-declared c = nothing_in (items_of c.args.tree.now) c.args.declared.now c.args.scope c.requires c.if-scope-declared.true

pub returns-then-scope-all : goal.returns-then-scope-all
returns-then-scope-all c =
    ap (take c.args.scope.count)
    (all_there (items_of c.args.tree.now) c.args.declared.now c.args.scope c.as_slice-all.result.now c.index-declared-scope.result c.requires
    c.if-scope-declared.false (c.as_slice-all.ensures ∙ c.index-declared-scope.is))

pub returns-else-scope-all : goal.returns-else-scope-all
returns-else-scope-all c =
    all_in_scope (items_of c.args.tree.now) c.args.scope c.as_slice-all.result.now
    (all_there (items_of c.args.tree.now) c.args.declared.now c.args.scope c.as_slice-all.result.now c.index-declared-scope.result c.requires
    c.if-scope-declared.false (c.as_slice-all.ensures ∙ c.index-declared-scope.is))
    c.if-scope-all.false
