-- Each arm reads the elements of the part, one by one.
use Rattle.std.proofs.Common.{◌≡◌, sym, ◌∙◌, arith}
use Rattle.std.proofs.lemmas.Bool.Decides.{nat_tests}
use Rattle.terra_memory.proofs.Bytes.{number_of-part_1, number_of-part_2, number_of-part_4, number_of-part_8}
use Rattle.terra_memory.proofs.number.number_at.Goals as goal

pub returns-in-1-clause-value : goal.returns-in-1-clause-value
returns-in-1-clause-value c =
    rw c.in-1.is (c.from.ensures ∙ sym (number_of-part_1 c.args.at c.args.bytes.now (omega arith)))

pub returns-in-2-clause-value : goal.returns-in-2-clause-value
returns-in-2-clause-value c =
    rw c.in-2.is (c.from-in-2.ensures ∙ c.from_le_bytes.ensures ∙ sym (number_of-part_2 c.args.at c.args.bytes.now (omega arith)))

pub returns-in-4-clause-value : goal.returns-in-4-clause-value
returns-in-4-clause-value c =
    rw c.in-4.is (c.from-in-4.ensures ∙ c.from_le_bytes-in-4.ensures ∙ sym (number_of-part_4 c.args.at c.args.bytes.now (omega arith)))

pub returns-in_default-clause-value : goal.returns-in_default-clause-value
returns-in_default-clause-value c =
    let eight : c.args.size ≡ 8 = grind (arith, nat_tests) in
    rw eight (c.from_le_bytes-in_default.ensures ∙ sym (number_of-part_8 c.args.at c.args.bytes.now (omega arith)))
