use Rattle.rv_link.proofs.Links.{texts-linked}
use Rattle.rv_link.proofs.law.linked_texts_are_linked.Goals as goal

pub returns : goal.returns
returns c = texts-linked
