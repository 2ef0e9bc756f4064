use Rattle.std.proofs.Common.{ap, ◌∙◌}
use Rattle.tl_tree.specs.Arena.{items_of}
use Rattle.tl_renaming.specs.Passes.{numbers_from}
use Rattle.tl_renaming.proofs.Numbering.{are_numbers}
use Rattle.tl_renaming.proofs.declarations.declaration_numbers.Goals as goal

pub returns : goal.returns
returns c =
    are_numbers (items_of c.args.tree.now) c.in_ok-marks.marks.items c.in_ok-numbers.numbers.items c.in_ok-marks.ensures
    (c.in_ok-numbers.ensures ∙ ap (numbers_from 0) c.deref.ensures.value)
