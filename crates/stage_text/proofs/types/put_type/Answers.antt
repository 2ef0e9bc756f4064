use Rattle.std.proofs.Common.{◌≡◌, ◌∙◌, ap, sym, List, [], ◌∷◌, ◌++◌, Some, None, slice_get}
use Rattle.terra_term.specs.TermText.{type_text}
use Rattle.tl_base.proofs.Results.{on-ok}
use Rattle.stage_text.specs.declared.types.Part.{Part}
use Rattle.stage_text.specs.Types.{text_in, type_parts}
use Rattle.stage_text.proofs.Writing.{found_text, absent_text, put_text, none_text}
use Rattle.stage_text.proofs.types.put_type.Goals as goal

pub returns-in_ok-parts-in-Some : goal.returns-in_ok-parts-in-Some
returns-in_ok-parts-in-Some c =
    let found : Some c.in-Some.form.now ≡ slice_get c.args.types.now c.args.of.0 = c.in-Some.ensures in
    let same : text_in c.args.types.now c.in_ok-parts-in-Some.parts.items ≡ type_text c.args.types.now c.args.of =
    ap (λ (ps : List Part). text_in c.args.types.now ps) c.in_ok-parts-in-Some.ensures ∙ found_text c.args.types.now c.args.of _ found in
    on-ok c.prepend.result c.prepend.ensures
    (λ moved. put_text c.args.types.now c.prepend.new.work.items c.in_ok-parts-in-Some.parts.items c.args.work.now.items _ moved same)

pub returns-in-None : goal.returns-in-None
returns-in-None c = none_text c.args.types.now c.args.of c.args.work.now.items c.in-None.ensures
