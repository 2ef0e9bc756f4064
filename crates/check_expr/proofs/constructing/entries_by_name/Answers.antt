use Rattle.std.proofs.Common.{◌+◌, List, [], ◌++◌, ◌∷◌, drop, refl, ap, ◌∙◌, Option}
use Rattle.tl_base.specs.declared.ids.TextId.{TextId}
use Rattle.terra_types.specs.declared.layout.Laid.{Laid}
use Rattle.terra_types.specs.Layouts.{entries_of, entry_named}
use Rattle.check_model.specs.Expressions as models
use Rattle.check_expr.proofs.Lists.{place_more, places_end}
use Rattle.check_expr.proofs.constructing.entries_by_name.Goals as goal

pub names-preserved : goal.names-preserved
names-preserved c =
    let ls = entries_of c.args.world.now.store.types c.args.of in
    let fs = c.args.names.now in
    let l = c.names in
    let rest = models.by_name ls (drop (l.name-index + 1) fs) in
    ap (λ (es : List (Option Laid)). es ++ rest) c.in_ok-push.ensures.ok
    ∙ ap (λ (e : Option Laid). (l.entries ++ e ∷ []) ++ rest) c.entry_of.ensures
    ∙ place_more (models.by_name ls) (λ (f : TextId). entry_named f ls) (λ f more. refl) l.entries (models.by_name ls fs) fs l.name-index _
    c.names-test.true l.invariant

pub returns : goal.returns
returns c =
    let ls = entries_of c.args.world.now.store.types c.args.of in
    let fs = c.args.names.now in
    let l = c.names in
    c.from_list.ensures
    ∙ places_end (models.by_name ls) refl l.entries (models.by_name ls fs) fs l.name-index c.names-test.false l.invariant
