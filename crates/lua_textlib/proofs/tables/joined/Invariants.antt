use Rattle.std.proofs.Common.{◌≡◌, ◌≤◌, ◌-◌, pos, ◌+ℤ◌, []}
use Rattle.lua_textlib.specs.Tables.{joined, count_between}
use Rattle.lua_textlib.proofs.tables.joined.Given as goal

abbrev pub invariant-loop-index : goal.invariant-loop-index
invariant-loop-index l =
    record {
      is : joined l.heap l.table l.separator l.before (l.first +ℤ pos l.index) (count_between l.first l.fn.last - l.index) l.made l.budget
          ≡ joined l.heap l.table l.separator [] l.first (count_between l.first l.fn.last) [] l.fn.budget;
      paid : l.budget ≤ l.fn.budget;
    }
