-- The table finds a key where its type stands, and a new one goes last.
use Rattle.std.proofs.Common.{sym, ◌∙◌, subst}
use Rattle.terra_types.specs.Kept.{AllFit}
use Rattle.terra_types.proofs.Pushing.{fit-push}
use Rattle.terra_types.proofs.Inserting.{insert-new, none_at}
use Rattle.terra_types.proofs.Keys.{found-id, found-kept, new-id, new-kept}
use Rattle.terra_types.proofs.table.intern.Goals as goal

pub returns-in-Some-clause-id : goal.returns-in-Some-clause-id
returns-in-Some-clause-id c =
    found-id c.args.key c.args.kept c.args.table.now.entries c.requires.fits c.requires.all_fit c.in-Some.place c.in-Some.ensures.index

pub returns-in-Some-clause-ok : goal.returns-in-Some-clause-ok
returns-in-Some-clause-ok c =
    found-kept c.args.key c.args.kept c.args.table.now.entries c.requires.fits c.requires.all_fit c.in-Some.place c.in-Some.ensures.index

pub returns-in_ok-insert-in-None-clause-id : goal.returns-in_ok-insert-in-None-clause-id
returns-in_ok-insert-in-None-clause-id c =
    new-id c.args.key c.args.kept c.args.table.now.entries c.requires.fits c.requires.all_fit c.in-None.ensures.index c.len.result c.len.ensures.len

pub returns-in_ok-insert-in-None-clause-ok : goal.returns-in_ok-insert-in-None-clause-ok
returns-in_ok-insert-in-None-clause-ok c =
    c.in_ok-insert-in-None.ensures.entries ∙
    (insert-new _ c.args.table.now.entries c.args.key c.args.kept (none_at _ (sym c.in-None.ensures.found)) ∙
    new-kept c.args.key c.args.kept c.args.table.now.entries c.requires.fits c.requires.all_fit c.in-None.ensures.index)

pub returns-in_ok-insert-in-None-clause-still_fit : goal.returns-in_ok-insert-in-None-clause-still_fit
returns-in_ok-insert-in-None-clause-still_fit c =
    subst AllFit
    (sym (c.in_ok-insert-in-None.ensures.entries ∙ insert-new _ c.args.table.now.entries c.args.key c.args.kept (none_at _ (sym c.in-None.ensures.found))))
    (fit-push c.args.table.now.entries (c.args.key, c.args.kept) c.requires.all_fit c.requires.fits)
