use Rattle.std.proofs.Common.{arith}
use Rattle.elf_image.proofs.Passed.{headers_passed, parts_passed, tables_sized, tables_counted}
use Rattle.elf_image.proofs.reading.check_behind.Goals as goal

pub check_tables-requires : goal.check_tables-requires
check_tables-requires c = (headers_passed c.args.bytes.now c.args.layout.now c.requires.layout c.requires.headers).sections

pub check_terra-requires-clause-within : goal.check_terra-requires-clause-within
check_terra-requires-clause-within c =
    let p = parts_passed c.args.bytes.now c.args.layout.now c.in_ok-check_ends.ensures in
    let s = tables_sized c.args.bytes.now c.args.layout.now c.requires.layout c.in_ok-check_tables.ensures in
    omega (arith, p.terra, s.0)

pub check_terra-requires-clause-statics : goal.check_terra-requires-clause-statics
check_terra-requires-clause-statics c =
    let h = headers_passed c.args.bytes.now c.args.layout.now c.requires.layout c.requires.headers in
    omega (arith, h.statics, h.most)

pub overflow_add-terra : goal.overflow_add-terra
overflow_add-terra c =
    let p = parts_passed c.args.bytes.now c.args.layout.now c.in_ok-check_ends.ensures in
    let s = tables_sized c.args.bytes.now c.args.layout.now c.requires.layout c.in_ok-check_tables.ensures in
    omega (arith, p.terra, s.0)

pub u32_at-count-requires : goal.u32_at-count-requires
u32_at-count-requires c =
    let p = parts_passed c.args.bytes.now c.args.layout.now c.in_ok-check_ends.ensures in
    let s = tables_sized c.args.bytes.now c.args.layout.now c.requires.layout c.in_ok-check_tables.ensures in
    omega (arith, p.terra, s.0)

pub check_counts-requires-clause-within : goal.check_counts-requires-clause-within
check_counts-requires-clause-within c =
    (headers_passed c.args.bytes.now c.args.layout.now c.requires.layout c.requires.headers).sections

pub overflow_add-terra-2 : goal.overflow_add-terra-2
overflow_add-terra-2 c =
    let p = parts_passed c.args.bytes.now c.args.layout.now c.in_ok-check_ends.ensures in
    let s = tables_sized c.args.bytes.now c.args.layout.now c.requires.layout c.in_ok-check_tables.ensures in
    omega (arith, p.terra, s.0)

pub check_records-requires : goal.check_records-requires
check_records-requires c =
    let p = parts_passed c.args.bytes.now c.args.layout.now c.in_ok-check_ends.ensures in
    let s = tables_counted c.args.bytes.now c.args.layout.now c.requires.layout c.in_ok-check_counts.ensures in
    let n = c.u32_at-count.ensures in
    omega (arith, p.terra, s.0)

pub check_first_symbol-requires : goal.check_first_symbol-requires
check_first_symbol-requires c =
    let p = parts_passed c.args.bytes.now c.args.layout.now c.in_ok-check_ends.ensures in
    let s = tables_counted c.args.bytes.now c.args.layout.now c.requires.layout c.in_ok-check_counts.ensures in
    omega (arith, p.symtab, s.1)

pub check_section_names-requires : goal.check_section_names-requires
check_section_names-requires c =
    let p = parts_passed c.args.bytes.now c.args.layout.now c.in_ok-check_ends.ensures in
    let s = tables_sized c.args.bytes.now c.args.layout.now c.requires.layout c.in_ok-check_tables.ensures in
    omega (arith, p.strtab, s.1)
