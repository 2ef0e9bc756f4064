use Rattle.std.proofs.Common.{◌<◌, ◌^◌, ℕ, List, sym, subst}
use Rattle.std.specs.Prelude.{slice_index}
use Rattle.elf_image.specs.Lawful.{IsLawful}
use Rattle.terrac_call.proofs.AssembledImages.{assembled_lawful}
use Rattle.terrac_call.proofs.making.image_due.Goals as goal

pub write-requires : goal.write-requires
write-requires c =
    let fit : (k : ℕ) → slice_index c.args.words k < 2 ^ 32 =
    subst (λ (words : List ℕ). (k : ℕ) → slice_index words k < 2 ^ 32) c.as_slice.ensures c.words_fit.ensures in
    subst IsLawful (sym c.in_ok-image.ensures)
    (assembled_lawful c.args.entry.now c.args.memory c.args.words c.requires.lawful.0 c.requires.lawful.1 c.requires.lawful.2 c.requires.some
    c.requires.few fit)
