-- A new struct has the next number, and comes last.
use Rattle.std.proofs.Common.{arith, length, sym, ◌∙◌, ap, subst}
use Rattle.terra_types.specs.Holding.{IsHeld}
use Rattle.terra_types.specs.Kept.{forms_in}
use Rattle.terra_types.specs.Making.{with_struct}
use Rattle.terra_types.proofs.Keys.{length-forms}
use Rattle.terra_types.proofs.Structs.{structs_in-most, held-struct, struct-id, struct-types}
use Rattle.terra_types.proofs.types.Types.new_struct.Goals as goal

pub next_number-number-requires : goal.next_number-number-requires
next_number-number-requires c =
    omega (arith, c.self.invariant.counted, structs_in-most (forms_in c.self.inside.table.entries), length-forms c.self.inside.table.entries)

pub invariant_of-self-2 : goal.invariant_of-self-2
invariant_of-self-2 c =
    subst (λ es. IsHeld es c.next_number-number.result) (sym c.in_ok-id.ensures.ok)
    (held-struct c.self.inside.table.entries c.self.inside.structs c.next_number-number.result c.args.place c.self.invariant c.next_number-number.ensures)

pub returns-clause-id : goal.returns-clause-id
returns-clause-id c =
    ap (λ id. id.0) (c.in_ok-id.ensures.id ∙ struct-id c.self.inside.table.entries c.self.inside.structs c.next_number-number.result c.args.place c.self.invariant c.next_number-number.ensures) ∙
    ap length c.self.view_is

pub returns-clause-ok : goal.returns-clause-ok
returns-clause-ok c =
    ap forms_in c.in_ok-id.ensures.ok ∙
    (struct-types c.self.inside.table.entries c.self.inside.structs c.next_number-number.result c.args.place c.self.invariant c.next_number-number.ensures ∙
    ap (λ types. with_struct types c.args.place) c.self.view_is)
