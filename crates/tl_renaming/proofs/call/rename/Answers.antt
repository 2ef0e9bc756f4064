use Rattle.std.proofs.Common.{sym, subst}
use Rattle.std.specs.Str.{IsUtf8}
use Rattle.tl_tree.specs.Code.{Items}
use Rattle.tl_renaming.specs.Renamed.{renamed}
use Rattle.tl_renaming.proofs.Utf8.{renamed_utf8}
use Rattle.tl_renaming.proofs.call.rename.Goals as goal

pub renamed_text-requires : goal.renamed_text-requires
renamed_text-requires c =
    let text = c.args.text.now in
    let of = c.in-Ok.ensures.only in
    subst (λ (items : Items). IsUtf8 (renamed items text)) (sym of.2) (renamed_utf8 text of.0 of.1 c.utf8.text)

pub returns-in-Ok-clause-refused : goal.returns-in-Ok-clause-refused
returns-in-Ok-clause-refused c = λ kind place refuses. absurd (c.in-Ok.ensures.refused kind place refuses)
