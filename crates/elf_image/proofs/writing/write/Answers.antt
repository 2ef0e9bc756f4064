use Rattle.std.proofs.Common.{◌≡◌, ◌+◌, ◌<◌, ◌^◌, ◌++◌, ℕ, List, true, sym, ap, subst, ◌∙◌}
use Rattle.std.specs.List.{list_all}
use Rattle.elf_image.specs.declared.image.Symbol.{Symbol}
use Rattle.elf_image.specs.declared.image.Entry.{Entry}
use Rattle.elf_image.specs.declared.layout.Layout.{Layout}
use Rattle.elf_image.specs.Lawful.{is_lawful_symbol}
use Rattle.elf_image.specs.Written.{layout_for, header_bytes, segments_bytes, words_bytes, terra_bytes, symtab_bytes, strtab_bytes}
use Rattle.elf_image.specs.Written.{entries_bytes, sections_bytes, bytes_of}
use Rattle.elf_image.proofs.RoundHeaders.{bounded}
use Rattle.elf_image.proofs.Puts.{nine}
use Rattle.elf_image.proofs.writing.write.Goals as goal

pub put_segments-requires : goal.put_segments-requires
unfolding layout_for
put_segments-requires c =
    let P : Layout → Type 0 = λ k. k.entries.size + k.private < 2 ^ 64 in
    subst P (sym c.layout_for-layout.ensures) (bounded c.args.image.now c.requires).own_size

pub put_symtab-requires-clause-lawful : goal.put_symtab-requires-clause-lawful
unfolding layout_for
put_symtab-requires-clause-lawful c =
    let P : List Symbol → Type 0 = λ ss. list_all (is_lawful_symbol c.layout_for-layout.result.text.size) ss ≡ true in
    let Q : ℕ → Type 0 = λ n. list_all (is_lawful_symbol n) c.args.image.now.exports ≡ true in
    subst P (sym c.as_slice-exports.ensures) (subst Q (sym (ap (λ (l : Layout). l.text.size) c.layout_for-layout.ensures)) c.requires.symbols)

pub returns : goal.returns
unfolding bytes_of
returns c =
    let i = c.args.image.now in
    let l = layout_for i in
    let le = c.layout_for-layout.ensures in
    let xe = c.as_slice-exports.ensures in
    nine c.in_ok-out.out.items c.put_header.new.out.items c.put_segments.new.out.items c.put_words.new.out.items c.extend_from_slice.new.self.items c.put_entries.new.out.items c.put_terra.new.out.items c.put_symtab.new.out.items c.put_strtab.new.out.items c.put_sections.new.out.items
    (header_bytes l) (segments_bytes l) (words_bytes i.text) i.statics (entries_bytes i.entries) (terra_bytes i) (symtab_bytes i.exports) (strtab_bytes i.exports) (sections_bytes l)
    c.in_ok-out.ensures.items
    (c.in_ok-put_header.ensures ∙ ap (λ (k : Layout). c.in_ok-out.out.items ++ header_bytes k) le)
    (c.in_ok-put_segments.ensures ∙ ap (λ (k : Layout). c.put_header.new.out.items ++ segments_bytes k) le)
    (c.in_ok-put_words.ensures ∙ ap (λ (xs : List ℕ). c.put_segments.new.out.items ++ words_bytes xs) c.as_slice.ensures)
    (c.in_ok-extend_from_slice.ensures.items ∙ ap (λ (xs : List ℕ). c.put_words.new.out.items ++ xs) c.as_slice-2.ensures)
    (c.in_ok-put_entries.ensures ∙ ap (λ (xs : List Entry). c.extend_from_slice.new.self.items ++ entries_bytes xs) c.as_slice-3.ensures)
    c.in_ok-put_terra.ensures
    (c.in_ok-put_symtab.ensures ∙ ap (λ (xs : List Symbol). c.put_terra.new.out.items ++ symtab_bytes xs) xe)
    (c.in_ok-put_strtab.ensures ∙ ap (λ (xs : List Symbol). c.put_symtab.new.out.items ++ strtab_bytes xs) xe)
    (c.in_ok-put_sections.ensures ∙ ap (λ (k : Layout). c.put_strtab.new.out.items ++ sections_bytes k) le)
