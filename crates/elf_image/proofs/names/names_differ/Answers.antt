use Rattle.std.proofs.Common.{◌≡◌, Bool, true, false, not, refl, sym, ◌∙◌}
use Rattle.elf_image.specs.Exports.{names_differ}
use Rattle.elf_image.proofs.NameSets.{key_has, starts, goes_on, stops, ends}
use Rattle.elf_image.proofs.names.names_differ.Goals as goal

new_is : (a : Bool) → true ≡ not a → a ≡ false
new_is true e = absurd cc
new_is false e = refl

old_is : (a : Bool) → false ≡ not a → a ≡ true
old_is true e = refl
old_is false e = absurd cc

pub loop-symbol-init : goal.loop-symbol-init
loop-symbol-init c = starts c.args.symbols.now c.new-names.result.keys c.new-names.ensures.empty

pub returns-then-not-branch : goal.returns-then-not-branch
returns-then-not-branch c =
    let known = old_is (key_has c.loop-symbol.names.keys c.as_slice.result.now) (sym c.if-not-branch.true ∙ c.in_ok-insert.ensures.added) in
    sym (stops (names_differ c.args.symbols.now) c.args.symbols.now c.loop-symbol.symbol-index c.symbol-item.result c.loop-symbol.names.keys c.as_slice.result c.symbol-item.is c.loop-symbol-test.true c.as_slice.ensures known c.loop-symbol.invariant)

pub loop-symbol-preserved : goal.loop-symbol-preserved
loop-symbol-preserved c =
    let fresh = new_is (key_has c.loop-symbol.names.keys c.as_slice.result.now) (sym c.if-not-branch.false ∙ c.in_ok-insert.ensures.added) in
    goes_on (names_differ c.args.symbols.now) c.args.symbols.now c.loop-symbol.symbol-index c.symbol-item.result c.loop-symbol.names.keys c.insert.new.self.keys c.as_slice.result c.symbol-item.is c.loop-symbol-test.true c.as_slice.ensures c.in_ok-insert.ensures.keys fresh c.loop-symbol.invariant

pub returns : goal.returns
returns c = sym (ends (names_differ c.args.symbols.now) c.args.symbols.now c.loop-symbol.symbol-index c.loop-symbol.names.keys c.loop-symbol-test.false c.loop-symbol.invariant)
