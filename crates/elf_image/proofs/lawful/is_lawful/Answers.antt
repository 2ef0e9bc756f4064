use Rattle.elf_image.proofs.LawfulLemmas.{entries_refused, is_lawful_iff}
use Rattle.elf_image.proofs.lawful.is_lawful.Goals as goal

pub returns-then-not-has_lawful_entries : goal.returns-then-not-has_lawful_entries
returns-then-not-has_lawful_entries c =
    entries_refused c.args.image.now c.as_slice-2.result.now c.as_slice-3.result.now c.text_size-text.result c.has_lawful_entries.result
    c.as_slice-2.ensures c.as_slice-3.ensures c.text_size-text.ensures.size c.has_lawful_entries.ensures c.if-not-has_lawful_entries.true

pub returns : goal.returns
returns c =
    is_lawful_iff c.args.image.now c.as_slice-2.result.now c.as_slice.result.now c.as_slice-3.result.now c.as_slice-4.result.now c.text_size-text.result c.has_lawful_memories.result c.has_lawful_entries.result c.has_lawful_exports.result
    c.as_slice-2.ensures c.as_slice.ensures c.as_slice-3.ensures c.as_slice-4.ensures c.text_size-text.ensures.size c.text_size-text.ensures.most c.text_size-text.ensures.words c.has_lawful_memories.ensures.bytes
    c.has_lawful_memories.ensures.lawful c.if-not-has_lawful_memories.false c.has_lawful_entries.ensures c.if-not-has_lawful_entries.false c.has_lawful_exports.ensures
