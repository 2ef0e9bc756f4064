use Rattle.std.proofs.Common.{◌∙◌, ◌≡◌, ◌<◌, suc, ◌+◌, refl, sym, subst, arith, get_or, length}
use Rattle.tl_base.specs.declared.ids.NodeId.{NodeId}
use Rattle.tl_tree.specs.Arena.{items_of}
use Rattle.tl_rename.proofs.Keyed.{read_step, read_within}
use Rattle.tl_rename.proofs.index.read_next.Goals as goal

pub returns-clause-indexed : goal.returns-clause-indexed
returns-clause-indexed c =
    let none : NodeId = record { 0 = 0 } in
    let at = c.index-at.result.now in
    let d = get_or c.args.declared.now at none in
    let same : at ≡ get_or c.args.index.now.reached.items c.args.scope.owner.0 0 =
    c.index-at.ensures ∙ read_within c.args.index.now.reached.items c.args.scope.owner.0 at c.requires.owner in
    let lt : at < length c.args.declared.now = subst (λ n. n < length c.args.declared.now) (sym same) c.requires.more in
    let more : at + 1 ≡ suc at = omega arith in
    read_step (items_of c.args.tree.now) c.args.index.now.latest c.put.new.self c.args.index.now.reached.items c.args.scope c.args.declared.now at c.in-Ok.position
    (at + 1) d none c.declared_name.result.now c.requires.declared same lt refl c.requires.owner c.requires.indexed c.declared_name.ensures c.in-Ok.ensures.1 more
    c.in_ok-put.ensures
