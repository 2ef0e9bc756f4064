use Rattle.std.proofs.Common.{arith}
use Rattle.elf_image.proofs.Passed.{tables_passed}
use Rattle.elf_image.proofs.reading.read_image.Goals as goal

pub read_exports-requires-clause-records : goal.read_exports-requires-clause-records
read_exports-requires-clause-records c =
    let t = tables_passed c.args.bytes.now c.in_ok-layout.layout c.in_ok-layout.ensures.layout c.in_ok-count.ensures.says in
    omega (arith, t.parts.terra, t.terra, c.in_ok-count.ensures.count)

pub read_exports-requires-clause-symbols : goal.read_exports-requires-clause-symbols
read_exports-requires-clause-symbols c =
    let t = tables_passed c.args.bytes.now c.in_ok-layout.layout c.in_ok-layout.ensures.layout c.in_ok-count.ensures.says in
    omega (arith, t.parts.symtab, t.symtab, c.in_ok-count.ensures.count)

pub read_exports-requires-clause-names : goal.read_exports-requires-clause-names
read_exports-requires-clause-names c =
    let t = tables_passed c.args.bytes.now c.in_ok-layout.layout c.in_ok-layout.ensures.layout c.in_ok-count.ensures.says in
    t.parts.strtab

pub read_exports-requires-clause-params : goal.read_exports-requires-clause-params
read_exports-requires-clause-params c =
    let t = tables_passed c.args.bytes.now c.in_ok-layout.layout c.in_ok-layout.ensures.layout c.in_ok-count.ensures.says in
    t.records

pub read_words-requires : goal.read_words-requires
read_words-requires c =
    let t = tables_passed c.args.bytes.now c.in_ok-layout.layout c.in_ok-layout.ensures.layout c.in_ok-count.ensures.says in
    omega (arith, t.parts.text)

pub copy_part-requires : goal.copy_part-requires
copy_part-requires c =
    let t = tables_passed c.args.bytes.now c.in_ok-layout.layout c.in_ok-layout.ensures.layout c.in_ok-count.ensures.says in
    t.parts.statics

pub overflow_add-layout : goal.overflow_add-layout
overflow_add-layout c =
    let t = tables_passed c.args.bytes.now c.in_ok-layout.layout c.in_ok-layout.ensures.layout c.in_ok-count.ensures.says in
    omega (arith, t.parts.terra, t.terra)

pub u64_at-requires : goal.u64_at-requires
u64_at-requires c =
    let t = tables_passed c.args.bytes.now c.in_ok-layout.layout c.in_ok-layout.ensures.layout c.in_ok-count.ensures.says in
    omega (arith, t.parts.terra, t.terra)

pub check_entries-requires : goal.check_entries-requires
check_entries-requires c =
    let t = tables_passed c.args.bytes.now c.in_ok-layout.layout c.in_ok-layout.ensures.layout c.in_ok-count.ensures.says in
    λ some.
    let inside = t.parts.entries (λ z. some (omega (arith, z))) in
    omega (arith, inside)

pub read_entries-requires : goal.read_entries-requires
read_entries-requires c =
    let t = tables_passed c.args.bytes.now c.in_ok-layout.layout c.in_ok-layout.ensures.layout c.in_ok-count.ensures.says in
    λ some.
    let inside = t.parts.entries (λ z. some (omega (arith, z))) in
    omega (arith, inside)
