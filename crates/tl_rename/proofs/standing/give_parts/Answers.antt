use Rattle.std.proofs.Common.{◌+◌, ap, ◌∙◌, length, flat_map}
use Rattle.tl_tree.specs.Arena.{items_of}
use Rattle.tl_tree.specs.Scopes.{give, all_in, in_order, declared_at}
use Rattle.tl_rename.specs.Lists.{within_of}
use Rattle.tl_rename.proofs.Giving.{parts_given}
use Rattle.tl_rename.proofs.standing.give_parts.Goals as goal

pub returns : goal.returns
returns c =
    let items = items_of c.args.tree.now in
    let n = c.args.n in
    let w = within_of c.args.inside.now in
    let all = c.in_ok-all.all in
    parts_given items n c.args.scope w all c.args.standing.now c.give_all.new.standing c.give_in_order.new.standing c.give_all-2.new.standing
    (c.give_all.ensures ∙ ap (λ l. give n.0 c.args.standing.now (all_in c.args.scope l)) c.as_slice.ensures)
    (c.in_ok-all.ensures.given
    ∙ ap (λ l. give n.0 c.give_all.new.standing (in_order items n c.len-before.result l)) c.as_slice-2.ensures
    ∙ ap (λ k. give n.0 c.give_all.new.standing (in_order items n k w.statements)) c.len-before.ensures)
    (c.in_ok-all.ensures.count
    ∙ ap (λ l. c.len-before.result + length (flat_map (declared_at items) l)) c.as_slice-2.ensures
    ∙ ap (λ k. k + length (flat_map (declared_at items) w.statements)) c.len-before.ensures)
    (c.give_all-2.ensures ∙ ap (λ l. give n.0 c.give_in_order.new.standing (all_in (record { owner = n; count = all }) l)) c.as_slice-3.ensures)
