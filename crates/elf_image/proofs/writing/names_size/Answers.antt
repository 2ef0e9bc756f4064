use Rattle.std.proofs.Common.{arith, ap, length, ◌+◌, ◌≡◌, drop}
use Rattle.elf_image.specs.Written.{names_size}
use Rattle.elf_image.proofs.Puts.{size_turn, size_end}
use Rattle.elf_image.proofs.writing.names_size.Goals as goal

pub overflow_add-size-in-loop-symbol : goal.overflow_add-size-in-loop-symbol
overflow_add-size-in-loop-symbol c =
    let inv : c.loop-symbol.size + names_size (drop c.loop-symbol.symbol-index c.args.symbols.now) ≡ names_size c.args.symbols.now = c.loop-symbol.invariant in
    omega (arith, inv, ap length c.as_slice.ensures, size_turn c.args.symbols.now c.loop-symbol.symbol-index c.symbol-item.result c.symbol-item.is c.loop-symbol-test.true)

pub loop-symbol-preserved : goal.loop-symbol-preserved
loop-symbol-preserved c =
    let inv : c.loop-symbol.size + names_size (drop c.loop-symbol.symbol-index c.args.symbols.now) ≡ names_size c.args.symbols.now = c.loop-symbol.invariant in
    omega (arith, inv, ap length c.as_slice.ensures, size_turn c.args.symbols.now c.loop-symbol.symbol-index c.symbol-item.result c.symbol-item.is c.loop-symbol-test.true)

pub returns : goal.returns
returns c =
    let inv : c.loop-symbol.size + names_size (drop c.loop-symbol.symbol-index c.args.symbols.now) ≡ names_size c.args.symbols.now = c.loop-symbol.invariant in
    omega (arith, inv, size_end c.args.symbols.now c.loop-symbol.symbol-index c.loop-symbol-test.false)
