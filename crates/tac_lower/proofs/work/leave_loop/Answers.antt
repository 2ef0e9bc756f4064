use Rattle.std.proofs.Common.{◌≡◌, refl, sym, ap, ◌∙◌, ℕ, ◌+◌, ◌-◌, ◌≤◌, ◌++◌, Some, None, map, length, drop, take, slice_get, arith}
use Rattle.std.proofs.lemmas.List.{length-map}
use Rattle.tac_lower.specs.Items.{count_ends, left_by, loop_of}
use Rattle.tac_lower.specs.Data.{ending_in, ending_of, item_of}
use Rattle.tac_lower.proofs.Lines.{turned, turned-count, turned-set, passed-by, passed-count}
use Rattle.tac_lower.proofs.work.leave_loop.Goals as goal

pub loop-i-preserved-in-Some : goal.loop-i-preserved-in-Some
loop-i-preserved-in-Some c =
    let so_far = c.loop-i.invariant in
    let cur = map item_of c.loop-i.code in
    let orig = map item_of c.args.code.now in
    let i = c.loop-i.i in
    let j = i - 1 in
    let e = ending_of c.in-Some.ending in
    let next : i ≡ j + 1 = omega (arith, c.loop-i-test.true) in
    let within : i ≤ length orig = omega (arith, so_far.within, length-map c.args.code.now item_of) in
    let there : Some e ≡ ending_in (slice_get cur j) = c.in-Some.ensures.ending in
    let left : ending_of c.left_by.result ≡ left_by e (count_ends (drop i orig)) =
    c.left_by.ensures ∙ ap (λ (n : ℕ). left_by e n) so_far.ended in
    record {
      low = omega (arith, c.loop-i-test.true);
      within = omega (arith, so_far.within);
      so_far = turned-set c.loop-i.code j c.left_by.result _ (turned cur orig i j next within so_far.so_far e (ending_of c.left_by.result) there left);
      enough = omega (arith, so_far.enough, next);
      all = refl;
      ended = ap (λ (n : ℕ). n + 1) so_far.ended ∙ sym (turned-count cur orig i j next within so_far.so_far e there);
    }

pub loop-i-preserved : goal.loop-i-preserved
loop-i-preserved c =
    let so_far = c.loop-i.invariant in
    let cur = map item_of c.loop-i.code in
    let orig = map item_of c.args.code.now in
    let i = c.loop-i.i in
    let j = i - 1 in
    let next : i ≡ j + 1 = omega (arith, c.loop-i-test.true) in
    let within : i ≤ length orig = omega (arith, so_far.within, length-map c.args.code.now item_of) in
    let none : None ≡ ending_in (slice_get cur j) = c.in-None.ensures.ending in
    record {
      low = omega (arith, c.loop-i-test.true);
      within = omega (arith, so_far.within);
      so_far = passed-by cur orig i j next within so_far.so_far none;
      enough = omega (arith, so_far.enough, next);
      all = refl;
      ended = so_far.ended ∙ sym (passed-count cur orig i j next within so_far.so_far none);
    }

pub returns : goal.returns
returns c =
    let orig = map item_of c.args.code.now in
    let same : c.loop-i.i ≡ c.args.start = omega (arith, c.loop-i.invariant.low, c.loop-i-test.false) in
    c.loop-i.invariant.so_far ∙ ap (λ (n : ℕ). take n orig ++ loop_of (drop n orig)) same
