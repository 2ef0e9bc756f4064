use Rattle.std.proofs.Common.{◌∙◌}
use Rattle.terra_term.proofs.Finding.{text_found}
use Rattle.terra_term.proofs.store.address_of_text.Goals as goal

pub returns : goal.returns
returns c = c.copied.ensures ∙ (c.get.ensures.value ∙ text_found c.args.texts.now.entries c.args.statics.now c.args.bytes.now c.requires)
