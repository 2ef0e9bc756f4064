use Rattle.std.proofs.Common.{◌+◌, List, drop, sym, ap, ◌∙◌}
use Rattle.std.proofs.lemmas.List.{at_drop_more, at_drop_all}
use Rattle.tl_base.specs.declared.ids.TypeId.{TypeId}
use Rattle.check_model.specs.declared.made.Made.{Made}
use Rattle.check_model.specs.Statements as models
use Rattle.check_expr.proofs.loops.meet_from.Goals as goal

pub bounds-preserved : goal.bounds-preserved
bounds-preserved c =
    let ms = c.args.others.now in
    let w = c.args.world.now in
    let l = c.bounds in
    ap (λ (t : TypeId). models.meet_from w t (drop (l.bound-index + 1) ms)) c.meeting-of.ensures
    ∙ sym (at_drop_more (λ (xs : List Made). models.meet_from w l.of xs) ms l.bound-index _ c.bounds-test.true) ∙
    l.invariant

pub returns : goal.returns
returns c =
    let ms = c.args.others.now in
    let w = c.args.world.now in
    let l = c.bounds in
    sym (at_drop_all (λ (xs : List Made). models.meet_from w l.of xs) ms l.bound-index c.bounds-test.false) ∙
    l.invariant
