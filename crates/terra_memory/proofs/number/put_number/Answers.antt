-- Each arm writes the lowest bytes of the number, which are those of the number cut to its size.
use Rattle.std.proofs.Common.{◌≡◌, ◌%◌, ◌∙◌, arith}
use Rattle.std.proofs.lemmas.Bool.Decides.{nat_tests}
use Rattle.terra_memory.specs.Numbers.{low_bytes}
use Rattle.terra_memory.proofs.Bytes.{low_bytes-part, low_bytes-whole}
use Rattle.terra_memory.proofs.Overwriting.{set-overwritten, put_mid-stored}
use Rattle.terra_memory.proofs.number.put_number.Goals as goal

pub returns-in-1 : goal.returns-in-1
unfolding low_bytes
returns-in-1 c =
    rw c.in-1.is (set-overwritten c.args.bytes.now c.args.at (c.args.value % 256) (omega arith))

pub returns-in-2 : goal.returns-in-2
returns-in-2 c =
    rw c.in-2.is (put_mid-stored c.args.bytes.now _ c.args.at 2 c.args.value (c.copy_from_slice.ensures.after ∙ c.to_le_bytes.ensures ∙ low_bytes-part 2 c.args.value))

pub returns-in-4 : goal.returns-in-4
returns-in-4 c =
    rw c.in-4.is (put_mid-stored c.args.bytes.now _ c.args.at 4 c.args.value (c.copy_from_slice-in-4.ensures.after ∙ c.to_le_bytes-in-4.ensures ∙ low_bytes-part 4 c.args.value))

pub returns-in_default : goal.returns-in_default
returns-in_default c =
    let eight : c.args.size ≡ 8 = grind (arith, nat_tests) in
    rw eight (put_mid-stored c.args.bytes.now _ c.args.at 8 c.args.value (c.copy_from_slice-in_default.ensures.after ∙ c.to_le_bytes-in_default.ensures ∙ low_bytes-whole 8 c.args.value))
