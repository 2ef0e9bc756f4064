-- A name stands in the list where the table has it, and a new one goes last.
use Rattle.std.proofs.Common.{refl, sym, ◌∙◌, ap}
use Rattle.std.specs.Prelude.{◌++◌, ◌∷◌, [], map}
use Rattle.terra_types.proofs.Inserting.{insert-new, none_at, map-push}
use Rattle.terra_types.specs.Spots.{laid_of}
use Rattle.terra_types.proofs.SpotLemmas.{is_laid-laid}
use Rattle.terra_types.proofs.layout.LaidList.push.Goals as goal

pub returns-then-contains_key-clause-new : goal.returns-then-contains_key-clause-new
returns-then-contains_key-clause-new c = rw (← c.self.view_is, is_laid-laid, ← c.if-contains_key.ensures) refl

pub returns-clause-new : goal.returns-clause-new
returns-clause-new c = rw (← c.self.view_is, is_laid-laid, ← c.if-contains_key.ensures) refl

pub returns-clause-list : goal.returns-clause-list
returns-clause-list c =
    ap (map laid_of) (c.in_ok-insert.ensures.entries ∙ insert-new _ _ _ _ (none_at _ (sym c.if-contains_key.ensures))) ∙
    (map-push laid_of c.self.inside.spots.entries _ ∙ ap (λ l. l ++ c.args.entry ∷ []) c.self.view_is)
