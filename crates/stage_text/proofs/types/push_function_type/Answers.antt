use Rattle.std.proofs.Common.{◌∙◌}
use Rattle.terra_types.specs.declared.types.TypeForm.TheVariants as forms
use Rattle.tl_base.proofs.Results.{on-ok}
use Rattle.stage_text.proofs.Writing.{written_text}
use Rattle.stage_text.proofs.types.push_function_type.Goals as goal

pub returns : goal.returns
returns c =
    let types = c.args.types.now in
    let form = forms.Function c.args.parameters.now c.args.of in
    let parts = c.in_ok-parts.parts.items in
    on-ok c.push_parts.result c.push_parts.ensures
    (λ put. put ∙ written_text types c.args.out.now parts c.len.result form c.len.ensures c.in_ok-parts.ensures)
