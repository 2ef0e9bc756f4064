use Rattle.std.proofs.Common.{◌≡◌, ◌-◌, ◌+◌, ℕ, pos, ◌+ℤ◌, to_z, of_z, w64, ◌∙◌, arith}
use Rattle.std.proofs.lemmas.Int.{ints}
use Rattle.lua_textlib.specs.Tables.{count_between}
use Rattle.lua_textlib.proofs.Joins.{join_refused, join_goes_on}
use Rattle.lua_textlib.proofs.Shifts.{at_least, at_most}
use Rattle.lua_textlib.proofs.tables.joined.Goals as goal

pub returns-in-Some-clause-does : goal.returns-in-Some-clause-does
returns-in-Some-clause-does c =
    let low = at_least c.args.first c.get.ensures.profile in
    let high = at_most c.args.first c.get.ensures.profile in
    let count : ℕ = count_between c.args.first c.args.last in
    let all : c.count_between-index-end.result ≡ count = c.count_between-index-end.ensures.count in
    join_refused c.args.heap.now c.args.table c.args.separator.now c.loop-index.before.now
    (to_z w64 (of_z w64 (to_z w64 (of_z w64 c.get.result) +ℤ to_z w64 c.loop-index.index))) (c.args.first +ℤ pos c.loop-index.index) (count - (c.loop-index.index + 1)) (count - c.loop-index.index)
    c.loop-index.made c.join_value.new.made c.loop-index.budget c.join_value.new.budget c.in_ok-refusal.field-0 c.in-Some.refusal
    c.in_ok-refusal.ensures.does c.in-Some.is
    (omega (arith, ints, low, high, c.get.ensures.value, c.loop-index-test.true, c.count_between-index-end.ensures.within))
    (omega (arith, all, c.loop-index-test.true))
    ∙ c.loop-index.invariant.is

pub loop-index-preserved : goal.loop-index-preserved
loop-index-preserved c =
    let low = at_least c.args.first c.get.ensures.profile in
    let high = at_most c.args.first c.get.ensures.profile in
    let count : ℕ = count_between c.args.first c.args.last in
    let all : c.count_between-index-end.result ≡ count = c.count_between-index-end.ensures.count in
    record {
      is =
          join_goes_on c.args.heap.now c.args.table c.args.separator.now c.loop-index.before.now
          (to_z w64 (of_z w64 (to_z w64 (of_z w64 c.get.result) +ℤ to_z w64 c.loop-index.index))) (c.args.first +ℤ pos c.loop-index.index) (c.args.first +ℤ pos (c.loop-index.index + 1)) (count - (c.loop-index.index + 1)) (count - c.loop-index.index)
          c.loop-index.made c.join_value.new.made c.loop-index.budget c.join_value.new.budget c.in_ok-refusal.field-0
          c.in_ok-refusal.ensures.does c.in_default.is
          (omega (arith, ints, low, high, c.get.ensures.value, c.loop-index-test.true, c.count_between-index-end.ensures.within))
          (omega (arith, ints))
          (omega (arith, all, c.loop-index-test.true))
          ∙ c.loop-index.invariant.is;
      paid = omega (arith, c.in_ok-refusal.ensures.paid, c.loop-index.invariant.paid);
    }
