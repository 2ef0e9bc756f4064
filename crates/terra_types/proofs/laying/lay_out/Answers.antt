-- At first all entries are left.
use Rattle.std.proofs.Common.{◌∙◌, ap, lit≤, sym}
use Rattle.terra_types.specs.Kept.{forms_in}
use Rattle.terra_types.specs.Laying.{walked}
use Rattle.terra_types.proofs.Measures.{measure-within}
use Rattle.terra_types.proofs.Walking.{walked-layout}
use Rattle.terra_types.proofs.laying.lay_out.Goals as goal

pub loop-entry-init : goal.loop-entry-init
loop-entry-init c = record {
  left =
      walked-layout (forms_in c.args.table.now.entries) c.args.entries.now (measure-within c.args.table.now.entries c.requires) ∙
      ap (λ laid. walked (forms_in c.args.table.now.entries) (record { size = 0; align = 1; entries = laid }) c.args.entries.now) (sym c.new.ensures);
  laid = (lit≤ tt, lit≤ tt, lit≤ tt);
}
