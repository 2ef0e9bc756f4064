use Rattle.std.proofs.Common.{◌≡◌, ◌+◌, length, ap, arith}
use Rattle.elf_image.specs.Lawful.{is_lawful_symbol}
use Rattle.elf_image.proofs.Puts.{append_turn_by, append_end, symbols_turn_by, symbols_end, fit_turn_by, lawful_turn}
use Rattle.elf_image.proofs.writing.put_symbols.Goals as goal

pub loop-symbol-preserved : goal.loop-symbol-preserved
loop-symbol-preserved c =
    let xs = c.args.symbols.now in
    let i = c.loop-symbol.symbol-index in
    let x = c.symbol-item.result in
    let name = c.loop-symbol.name in
    let next = name + (length c.as_slice.result.now + 1) in
    let n : next ≡ name + length x.name + 1 = omega (arith, ap length c.as_slice.ensures) in (
      append_turn_by c.loop-symbol.out.items _ _ _ _ _ c.in_ok-put_symbol.ensures c.loop-symbol.invariant.0 (symbols_turn_by name next xs i x c.symbol-item.is c.loop-symbol-test.true n),
      fit_turn_by name next xs i x c.symbol-item.is c.loop-symbol-test.true n c.loop-symbol.invariant.1,
      (lawful_turn (is_lawful_symbol c.args.text) xs i x c.symbol-item.is c.loop-symbol-test.true c.loop-symbol.invariant.2).1,
    )

pub returns : goal.returns
returns c = append_end _ _ _ c.loop-symbol.invariant.0 (symbols_end _ c.args.symbols.now _ c.loop-symbol-test.false)
