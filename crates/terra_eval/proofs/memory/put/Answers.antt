use Rattle.std.proofs.Common.{◌≡◌, true, false, refl, rules, arith, length}
use Rattle.terra_memory.specs.Region.{is_inside}
use Rattle.terra_eval.proofs.Bytes.{put-none, put-outside, put-turn, put-end}
use Rattle.terra_eval.proofs.memory.put.Goals as goal

pub loop-i-preserved : goal.loop-i-preserved
loop-i-preserved c =
    let bs = c.args.bytes.now in
    let inside : is_inside c.args.region.now c.args.address (length bs) ≡ true = search rules in
    put-turn c.args.region.now c.loop-i.region c.store.new.self c.args.address c.loop-i.i c.from.result bs c.store.result
    c.loop-i.invariant inside c.loop-i-test.true c.from.ensures (omega arith) c.store.ensures.inside c.store.ensures.stored

pub returns-then-bytes-eq0-clause-there : goal.returns-then-bytes-eq0-clause-there
returns-then-bytes-eq0-clause-there c = put-none c.args.region.now c.args.address c.args.bytes.now c.if-bytes-eq0.true

pub returns-then-not-is_inside-clause-outside : goal.returns-then-not-is_inside-clause-outside
returns-then-not-is_inside-clause-outside c =
    let bs = c.args.bytes.now in
    let outside : is_inside c.args.region.now c.args.address (length bs) ≡ false = search rules in
    (put-outside c.args.region.now c.args.address bs c.if-bytes-eq0.false outside, refl)

pub returns-clause-there : goal.returns-clause-there
returns-clause-there c =
    let bs = c.args.bytes.now in
    let inside : is_inside c.args.region.now c.args.address (length bs) ≡ true = search rules in
    put-end c.args.region.now c.loop-i.region c.args.address c.loop-i.i bs c.loop-i.invariant inside c.if-bytes-eq0.false (omega arith)
