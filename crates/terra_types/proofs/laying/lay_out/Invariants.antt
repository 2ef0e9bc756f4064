-- What is left to lay out behind the entries so far gives the same layout.
use Rattle.std.proofs.Common.{◌≡◌, drop}
use Rattle.terra_types.specs.Kept.{forms_in}
use Rattle.terra_types.specs.Laying.{walked}
use Rattle.terra_types.specs.Layouts.{layout_of}
use Rattle.terra_types.specs.Sizes.{settled, Within}
use Rattle.terra_types.proofs.laying.lay_out.Given as goal

abbrev pub invariant-loop-entry : goal.invariant-loop-entry
invariant-loop-entry l = record {
  left : layout_of (forms_in l.table.entries) l.entries ≡ walked (forms_in l.table.entries) l.layout (drop l.entry-index l.entries);
  laid : Within (settled l.layout);
}
