use Rattle.std.proofs.Common.{◌≡◌, ◌++◌, sym, subst}
use Rattle.std.specs.Prelude.{map, OnOk}
use Rattle.rv_isa.specs.Table.{word_of}
use Rattle.rv_select.specs.Places.{with_homes}
use Rattle.rv_select.specs.Shapes.{shape_of}
use Rattle.rv_select.proofs.instructions.push_instruction.Goals as goal

pub returns-in-Locate : goal.returns-in-Locate
returns-in-Locate c =
    subst (λ i. OnOk c.push_address.result (c.push_address.new.code.items ≡ c.args.code.now.items
    ++ map word_of (shape_of (with_homes c.args.homes.now) c.args.held i))) (sym c.in-Locate.is) c.push_address.ensures
