use Rattle.std.proofs.Common.{◌<◌, take, length-drop, arith, ap, ◌∙◌}
use Rattle.std.proofs.lemmas.List.{take_rest}
use Rattle.tl_base.specs.Outside.{with_back}
use Rattle.rv_machine.proofs.Taken.{took_more}
use Rattle.rv_machine.proofs.output.write_all.Goals as goal

pub loop-done-preserved : goal.loop-done-preserved
loop-done-preserved g c =
    let some : 0 < c.in_ok-count.count = omega arith in
    let within = c.in_ok-count.ensures.within in (
      omega (arith, within, c.loop-done.invariant.0, length-drop c.loop-done.done c.args.bytes.now),
      took_more _ _ _ c.args.bytes.now c.loop-done.done c.in_ok-count.count c.loop-done.invariant.1 (c.in_ok-count.ensures.back ∙ ap (λ piece. with_back (g.K.Sink.taken c.loop-done.out) (take c.in_ok-count.count piece)) (take_rest c.args.bytes.now c.loop-done.done)),
      c.in_ok-count.ensures.quiet some ∙ c.loop-done.invariant.2,
    )
