use Rattle.std.proofs.Common.{◌≡◌, ◌+◌, ◌≤◌, Some, inl, inr, ap, ◌∙◌, subst}
use Rattle.reg_alloc.specs.Scans.{scan_of, held, holder_at, last_of}
use Rattle.reg_alloc.proofs.scan.spill.Goals as goal

pub returns-in-Some : goal.returns-in-Some
returns-in-Some c =
    let r = c.latest-r.result in
    let h : holder_at c.args.holders.now r ≡ Some c.in-Some.holder = c.in-Some.is in
    inr (inl (record {
      register = r;
      holder = c.in-Some.holder;
      there = c.latest-r.ensures.there;
      busy = c.requires.busy;
      holder_is = h;
      later = c.if-holder-span.true;
      latest = λ q l.
          let k = c.latest-r.ensures.last q l in
          subst (λ m. last_of (holder_at c.args.holders.now q) ≤ m) (ap last_of h) k;
      new_is = c.hold.ensures (c.args.slot + 1)
          ∙ ap (λ v. held r c.args.temp c.args.span.last (scan_of v c.args.holders.now (c.args.slot + 1))) c.give.ensures;
    }))
