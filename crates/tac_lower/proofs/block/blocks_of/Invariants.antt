use Rattle.std.proofs.Common.{◌≡◌, map}
use Rattle.tac_lower.specs.Items.{Draft, empty_draft, with_items}
use Rattle.tac_lower.specs.Data.{item_of}
use Rattle.tac_lower.proofs.block.blocks_of.Given as goal

abbrev pub invariant-loop-item : goal.invariant-loop-item
invariant-loop-item l =
    let so_far : Draft = record { blocks = l.blocks.items; code = l.code.items } in
    so_far ≡ with_items empty_draft (map item_of l.yielded)
