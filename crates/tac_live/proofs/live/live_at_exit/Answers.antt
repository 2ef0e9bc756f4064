use Rattle.std.proofs.Common.{◌<◌, false, length, get_or, sym, ap, ◌∙◌, subst}
use Rattle.std.proofs.lemmas.List.{length-replicate, get_or-replicate}
use Rattle.tac_live.specs.Sets.{at, marked}
use Rattle.tac_live.proofs.Joins.{exit-none, exit-turn}
use Rattle.tac_live.proofs.live.live_at_exit.Goals as goal

pub loop-next-init : goal.loop-next-init
loop-next-init c =
    exit-none c.args.count c.in_ok-live.live c.mark_all.new.self c.args.block.now c.args.rows.now
    (ap length c.in_ok-live.ensures ∙ length-replicate c.args.count false)
    (λ t h. ap (λ v. at v t) c.in_ok-live.ensures ∙ get_or-replicate c.args.count t false false h)
    (c.mark_all.ensures ∙ ap (λ v. marked v c.in_ok-live.live) c.as_slice.ensures)

pub loop-next-preserved : goal.loop-next-preserved
loop-next-preserved c =
    let i = c.loop-next.next-index in
    exit-turn c.args.count i (get_or c.as_slice-next-items.result.now i 0) c.loop-next.live c.join_block.new.live c.args.block.now.reads c.args.block.now.next c.args.rows.now
    (subst (λ v. i < length v) c.as_slice-next-items.ensures c.loop-next-test.true)
    (ap (λ v. get_or v i 0) (sym c.as_slice-next-items.ensures)) c.loop-next.invariant c.join_block.ensures
