use Rattle.std.proofs.Common.{◌≡◌, ◌++◌, ◌≤◌, ◌+◌, map, drop, take, length}
use Rattle.tac_lower.specs.Items.{count_ends, loop_of}
use Rattle.tac_lower.specs.Data.{item_of}
use Rattle.tac_lower.proofs.work.leave_loop.Given as goal

-- what lies behind is done
abbrev pub invariant-loop-i : goal.invariant-loop-i
invariant-loop-i l = record {
  low : l.start ≤ l.i;
  within : l.i ≤ length l.fn.code;
  so_far : map item_of l.code ≡ take l.i (map item_of l.fn.code) ++ loop_of (drop l.i (map item_of l.fn.code));
  enough : l.behind + l.i ≤ length l.fn.code;
  all : l.count ≡ length l.fn.code;
  ended : l.behind ≡ count_ends (drop l.i (map item_of l.fn.code));
}

abbrev pub decreases-loop-i : goal.decreases-loop-i
decreases-loop-i l = l.i
