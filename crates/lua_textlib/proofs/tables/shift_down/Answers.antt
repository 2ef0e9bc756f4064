use Rattle.std.proofs.Common.{◌+◌, ◌-◌, pos, ◌+ℤ◌, ◌∙◌, arith}
use Rattle.std.proofs.lemmas.Int.{ints}
use Rattle.lua_table.proofs.Keeping.{keeps_then}
use Rattle.lua_textlib.proofs.Shifts.{down_step, at_least, at_most}
use Rattle.lua_textlib.proofs.tables.shift_down.Goals as goal

pub loop-index-preserved : goal.loop-index-preserved
loop-index-preserved c =
    let low = at_least c.args.at c.get.ensures.profile in
    let high = at_most c.args.at c.get.ensures.profile in
    record {
      moved =
          down_step _ _ _ (c.args.at +ℤ pos c.loop-index.index) (c.args.at +ℤ pos (c.loop-index.index + 1)) _ _ (c.args.shift - (c.loop-index.index + 1)) (c.args.shift - c.loop-index.index) c.in_ok-move_value.ensures.does
          (omega (arith, ints, low, high, c.requires, c.loop-index-test.true))
          (omega (arith, ints, low, high, c.requires, c.loop-index-test.true))
          (omega (arith, ints)) (omega (arith, c.loop-index-test.true))
          ∙ c.loop-index.invariant.moved;
      kept = keeps_then _ _ _ c.loop-index.invariant.kept c.in_ok-move_value.ensures.kept;
    }
