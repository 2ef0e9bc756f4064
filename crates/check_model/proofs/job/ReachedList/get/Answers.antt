use Rattle.std.proofs.Common.{sym, ap, ◌∙◌, slice_get, List}
use Rattle.std.specs.Option.{option_map}
use Rattle.std.proofs.lemmas.Option.{slice_get-map}
use Rattle.check_model.specs.declared.job.Reached.{Reached}
use Rattle.check_model.specs.Rows.{reached_of}
use Rattle.check_model.proofs.job.ReachedList.get.Goals as goal

pub returns : goal.returns
returns c =
    let es = c.self.inside.by.entries in
    let i = c.args.place in
    ap (option_map reached_of) c.in_ok-function.ensures.entry
    ∙ sym (slice_get-map reached_of es i) ∙ ap (λ (l : List Reached). slice_get l i) c.self.view_is
