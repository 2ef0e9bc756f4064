use Rattle.std.proofs.Common.{ℕ, ap, ◌∙◌, arith}
use Rattle.std.proofs.lemmas.List.{length-take}
use Rattle.elf_image.specs.declared.error.ImageError.TheVariants.{BadSymbol}
use Rattle.elf_image.specs.Fields.{unless}
use Rattle.elf_image.proofs.NameBytes.{name_bad, name_good, length-before_zero}
use Rattle.elf_image.proofs.exports.read_name.Goals as goal

pub returns-then-len-eq0 : goal.returns-then-len-eq0
returns-then-len-eq0 c =
    ap (λ t. unless t BadSymbol) (name_bad c.args.names.now _ _ c.min.ensures c.length_before_zero-len.ensures c.then-len-eq0.either)

pub slice_bounds-from_slice-end : goal.slice_bounds-from_slice-end
slice_bounds-from_slice-end c =
    omega (arith, length-take {A = ℕ}, length-before_zero)

pub returns : goal.returns
returns c =
    let h = name_good c.args.names.now _ _ c.min.ensures c.length_before_zero-len.ensures c.if-len-eq0.false c.if-len-front.false in
    (ap (λ t. unless t BadSymbol) h.0, c.from_vec.ensures ∙ c.in_ok-from_slice.ensures.items ∙ h.1)
