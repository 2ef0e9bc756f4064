use Rattle.std.proofs.Common.{sym, ap, ◌∙◌}
use Rattle.std.specs.Prelude.{◌++◌, ◌∷◌, [], map, List}
use Rattle.check_model.specs.declared.job.Reached.{Reached}
use Rattle.check_model.specs.Checks.{was_reached}
use Rattle.check_model.specs.Rows.{reached_of}
use Rattle.terra_types.proofs.Inserting.{none_at, map-push, insert-new}
use Rattle.check_model.proofs.Reaching.{reached_there}
use Rattle.check_model.proofs.job.ReachedList.push.Goals as goal

pub returns : goal.returns
returns c =
    let es = c.self.inside.by.entries in
    let r = c.args.reached in
    ap (map reached_of) (c.in_ok-insert.ensures.entries ∙ insert-new _ es r.function r.by
    (none_at _ (sym (reached_there r.function es) ∙ ap (was_reached r.function) c.self.view_is ∙ c.requires)))
    ∙ map-push reached_of es (r.function, r.by) ∙ ap (λ (l : List Reached). l ++ r ∷ []) c.self.view_is
