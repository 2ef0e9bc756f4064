use Rattle.std.proofs.Common.{◌∙◌}
use Rattle.tl_base.proofs.Results.{on-ok}
use Rattle.stage_loop.proofs.Lines.{refusal_on}
use Rattle.stage_loop.proofs.texts.push_refusal.Goals as goal

pub returns : goal.returns
returns c =
    let named = c.as_bytes.ensures.value ∙ c.kind_name.ensures in
    on-ok c.push_number.result c.push_number.ensures
    (λ put. refusal_on c.args.refusal c.args.out.now _ _ _ _ _ _ c.as_bytes.result.now c.in_ok-push_all.ensures.ok named
    c.in_ok-push_all-2.ensures.ok c.in_ok-push_all-3.ensures.ok c.in_ok-push_place.ensures c.in_ok-push_all-4.ensures.ok put)
