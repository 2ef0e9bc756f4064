use Rattle.std.proofs.Common.{List, ℕ, ◌++◌, ap, ◌∙◌}
use Rattle.elf_image.proofs.Puts.{append_turn_by, append_two, append_end, names_turn, names_end}
use Rattle.elf_image.proofs.writing.put_names.Goals as goal

pub loop-symbol-preserved : goal.loop-symbol-preserved
loop-symbol-preserved c =
    append_turn_by c.loop-symbol.out.items _ _ _ _ _
    (append_two c.loop-symbol.out.items _ _ _ _ (c.in_ok-extend_from_slice.ensures.items ∙ ap (λ (xs : List ℕ). c.loop-symbol.out.items ++ xs) c.as_slice.ensures) c.in_ok-push.ensures.items)
    c.loop-symbol.invariant
    (names_turn c.args.symbols.now c.loop-symbol.symbol-index c.symbol-item.result c.symbol-item.is c.loop-symbol-test.true)

pub returns : goal.returns
returns c = append_end _ _ _ c.loop-symbol.invariant (names_end c.args.symbols.now _ c.loop-symbol-test.false)
