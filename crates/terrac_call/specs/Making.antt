-- What is due for what is made of bytes at once.
use Rattle.std.specs.Prelude.{ℕ, List}
use Rattle.terrac_call.specs.Words.{Making, Rename, ListImage, Assemble}
use Rattle.terrac_call.specs.Due.{Due}
use Rattle.terrac_call.specs.Rename.{IsRenameDue}
use Rattle.terrac_call.specs.Listed.{IsListDue}
use Rattle.terrac_call.specs.Assembled.{IsAssemblyDue}

abbrev pub IsMakingDue : Making → List ℕ → Due → Type 0
IsMakingDue Rename bytes due = IsRenameDue bytes due
IsMakingDue ListImage bytes due = IsListDue bytes due
IsMakingDue (Assemble entry memory) bytes due = IsAssemblyDue entry memory bytes due
