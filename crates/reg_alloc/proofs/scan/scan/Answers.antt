use Rattle.std.proofs.Common.{◌≡◌, None, refl, length, get_or, replicate, sym, subst, arith}
use Rattle.reg_alloc.specs.Scans.{scan_of}
use Rattle.reg_alloc.proofs.Turns.{IsScanned, scan-begins, scan-step, scan-ends, lent-back}
use Rattle.reg_alloc.proofs.scan.scan.Goals as goal

pub loop-t-init : goal.loop-t-init
loop-t-init c =
    let spans = c.args.spans.now in
    let order = c.args.order.now in
    subst (λ v. IsScanned spans order 0 10 (scan_of v c.in_ok-holders.holders.items 0)) (sym c.in_ok-homes.ensures)
    (subst (λ v. IsScanned spans order 0 10 (scan_of (replicate (length spans) None) v 0)) (sym c.in_ok-holders.ensures) (scan-begins spans order))

pub loop-t-preserved : goal.loop-t-preserved
loop-t-preserved c =
    let l = c.loop-t in
    let b = c.begin_if-slots in
    let homes : length b.new.homes ≡ l.homes.len = omega (arith, l.homes.ok.0) in
    let holders : length b.new.holders ≡ l.holders.len = omega (arith, l.holders.ok.0) in
    scan-step c.args.spans.now c.args.order.now l.t-index (get_or c.args.order.now l.t-index 0) l.slots b.result c.span_of-span.result
    l.homes.items c.deref_mut.result.now b.new.homes _ l.holders.items c.deref_mut-in-loop-t.result.now b.new.holders _
    c.requires c.loop-t-test.true refl c.span_of-span.ensures c.deref_mut.ensures.value c.deref_mut-in-loop-t.ensures.value
    (lent-back l.homes.len b.new.homes l.homes.items homes (sym l.homes.ok.0)) (lent-back l.holders.len b.new.holders l.holders.items holders (sym l.holders.ok.0))
    l.invariant b.ensures

pub returns : goal.returns
returns c =
    scan-ends c.args.spans.now c.args.order.now c.loop-t.t-index c.loop-t.slots c.loop-t.homes.items c.loop-t.holders.items c.requires c.loop-t-test.false
    c.loop-t.invariant
