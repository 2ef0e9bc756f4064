use Rattle.std.proofs.Common.{◌+◌, List, ◌++◌, drop, sym, ap, ◌∙◌, Option}
use Rattle.terra_types.specs.declared.layout.Laid.{Laid}
use Rattle.terra_types.specs.Layouts.{entries_of}
use Rattle.check_model.specs.Expressions as models
use Rattle.check_expr.proofs.Ordering.{order_more, order_over, order_end}
use Rattle.check_expr.proofs.constructing.entries_in_order.Goals as goal

pub entries-preserved : goal.entries-preserved
entries-preserved c =
    let ls = entries_of c.args.world.now.store.types c.args.of in
    let ts = c.args.values.now in
    let l = c.entries in
    let some = c.in-Some in
    ap (λ (es : List (Option Laid)). es ++ models.in_order (drop (l.place + 1) ls) (drop (l.place + 1) ts)) c.in_ok-push-in-Some.ensures.ok
    ∙ order_more ls ts l.place some.laid (record { 0 = 0 }) l.entries (models.in_order ls ts) c.entries-test.true
    (sym c.entry_at.ensures ∙ some.is) l.invariant

pub returns-in-None : goal.returns-in-None
returns-in-None c =
    let ls = entries_of c.args.world.now.store.types c.args.of in
    let ts = c.args.values.now in
    let l = c.entries in
    c.from_list.ensures
    ∙ order_over ls ts l.place l.entries (models.in_order ls ts) (sym c.entry_at.ensures ∙ c.in-None.is) l.invariant

pub returns : goal.returns
returns c =
    let ls = entries_of c.args.world.now.store.types c.args.of in
    let ts = c.args.values.now in
    let l = c.entries in
    c.from_list-2.ensures
    ∙ order_end ls ts l.place l.entries (models.in_order ls ts) c.entries-test.false l.invariant
