use Rattle.std.proofs.Common.{[], sym, ◌∙◌}
use Rattle.std.proofs.lemmas.List.{get_or_default}
use Rattle.tac_live.proofs.Joins.{join-row}
use Rattle.tac_live.proofs.live.join_block.Goals as goal

pub returns-then-block-rows : goal.returns-then-block-rows
returns-then-block-rows c =
    let rows = c.args.rows.now in
    join-row rows c.args.block c.args.live.now c.mark_all.new.self c.as_slice.result.now
    (sym (c.as_slice.ensures ∙ (c.index-rows-block.is ∙ get_or_default rows c.args.block c.index-rows-block.result [] c.if-block-rows.true)))
    c.mark_all.ensures
