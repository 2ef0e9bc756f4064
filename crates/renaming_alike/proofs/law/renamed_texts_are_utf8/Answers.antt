use Rattle.std.proofs.Common.{List, ℕ, subst, sym}
use Rattle.std.specs.Str.{IsUtf8}
use Rattle.tl_renaming.proofs.Utf8.{renamed_utf8}
use Rattle.renaming_alike.proofs.law.renamed_texts_are_utf8.Goals as goal

pub returns : goal.returns
returns c = λ text other r u. subst (λ (x : List ℕ). IsUtf8 x) (sym r.is) (renamed_utf8 text r.tree r.reads u)
