use Rattle.std.proofs.Common.{◌-◌, ◌+◌, ◌/◌, ◌%◌, arith}
use Rattle.terra_memory.specs.Numbers.{low_bytes}
use Rattle.terra_eval.proofs.Turns.{pushed, ended}
use Rattle.terra_eval.proofs.Bytes.{low-turn, low-none}
use Rattle.terra_eval.proofs.memory.low_bytes.Goals as goal

pub loop-preserved : goal.loop-preserved
loop-preserved c =
    let left = c.args.count - c.loop.counter in
    record {
      within = omega arith;
      so_far = pushed (low_bytes c.args.count c.args.value) c.loop.bytes.items (low_bytes left c.loop.rest) (low_bytes (c.args.count - (c.loop.counter + 1)) (c.loop.rest / 256)) _ (c.loop.rest % 256)
          c.loop.invariant.so_far (low-turn c.args.count c.loop.counter c.loop.rest (omega arith)) c.in_ok-push.ensures.items;
    }

pub returns : goal.returns
returns c =
    ended (low_bytes c.args.count c.args.value) c.loop.bytes.items (low_bytes (c.args.count - c.loop.counter) c.loop.rest)
    c.loop.invariant.so_far (low-none c.args.count c.loop.counter c.loop.rest (omega arith))
