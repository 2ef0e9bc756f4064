use Rattle.std.proofs.Common.{◌≡◌, ◌∙◌, ap, sym}
use Rattle.terra_term.specs.TermText.{type_text}
use Rattle.tl_base.proofs.Results.{on-ok}
use Rattle.stage_text.specs.Types.{part_text}
use Rattle.stage_text.proofs.Writing.{before_text, past_text, put_step, past_step}
use Rattle.stage_text.proofs.types.step.Goals as goal

pub returns-then-of-below : goal.returns-then-of-below
returns-then-of-below c =
    let same : type_text c.args.types.now c.in-OfType.of ≡ part_text c.args.types.now c.args.part =
    rw c.in-OfType.is (before_text c.args.types.now c.in-OfType.of c.in-OfType.below c.if-of-below.true) in
    on-ok c.put_type.result c.put_type.ensures
    (λ put. put_step c.args.types.now c.args.out.now _ _ c.put_type.new.work.items c.args.work.now.items put same)

pub returns-else-of-below : goal.returns-else-of-below
returns-else-of-below c =
    past_step c.args.types.now c.args.out.now c.args.part c.args.work.now.items
    (rw c.in-OfType.is (past_text c.args.types.now c.in-OfType.of c.in-OfType.below c.if-of-below.false))
