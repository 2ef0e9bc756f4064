-- The list's entry of a name is the one that the table has.
use Rattle.std.proofs.Common.{refl}
use Rattle.terra_types.proofs.SpotLemmas.{entry_named-laid}
use Rattle.terra_types.proofs.layout.LaidList.find.Goals as goal

pub returns-in-Some : goal.returns-in-Some
returns-in-Some c =
    rw (← c.self.view_is, entry_named-laid, ← c.in-Some.ensures.key, ← c.in-Some.ensures.value) refl

pub returns-in-None : goal.returns-in-None
returns-in-None c =
    rw (← c.self.view_is, entry_named-laid, ← c.in-None.ensures.key) refl
