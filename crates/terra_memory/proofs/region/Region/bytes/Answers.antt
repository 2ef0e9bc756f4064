use Rattle.std.proofs.Common.{◌≡◌, ◌<◌, length, refl, ap, ◌∙◌, arith}
use Rattle.terra_memory.specs.Region.{Contents, range_of}
use Rattle.terra_memory.proofs.Answering.{range_of-outside, range_of-too_many, range_of-read, outside-too_many}
use Rattle.terra_memory.proofs.region.Region.bytes.Goals as goal

pub returns-then-count-eq0-clause-value : goal.returns-then-count-eq0-clause-value
unfolding range_of
returns-then-count-eq0-clause-value c = rw c.if-count-eq0.true refl

pub returns-then-count-len-clause-value : goal.returns-then-count-len-clause-value
returns-then-count-len-clause-value c =
    let size : length c.self.inside.bytes.items ≡ length c.args.self.now.bytes = ap (λ (r : Contents). length r.bytes) c.self.view_is in
    let many : length c.args.self.now.bytes < c.args.count = omega arith in
    range_of-too_many c.args.self.now c.args.address c.args.count c.if-count-eq0.false many

pub returns-in_err-at-clause-value : goal.returns-in_err-at-clause-value
returns-in_err-at-clause-value c =
    rw c.from_residual.ensures (range_of-outside c.args.self.now c.args.address c.args.count c.if-count-eq0.false c.in_err-at.ensures)

pub returns-clause-value : goal.returns-clause-value
returns-clause-value c =
    range_of-read c.args.self.now c.args.address c.args.count c.in_ok-at.at c.deref.result.now c.if-count-eq0.false c.in_ok-at.ensures.0 c.in_ok-at.ensures.1
    (c.deref.ensures.value ∙ ap (λ (r : Contents). r.bytes) c.self.view_is)

pub returns-then-count-len-clause-outside : goal.returns-then-count-len-clause-outside
returns-then-count-len-clause-outside c =
    let size : length c.self.inside.bytes.items ≡ length c.args.self.now.bytes = ap (λ (r : Contents). length r.bytes) c.self.view_is in
    let many : length c.args.self.now.bytes < c.args.count = omega arith in
    let outside = outside-too_many c.args.self.now c.args.address c.args.count many in
    (λ _. (omega arith, outside), λ _. refl)
