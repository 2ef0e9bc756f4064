use Rattle.std.proofs.Common.{◌+◌, ◌*◌, ◌∙◌, sym, ap}
use Rattle.elf_image.specs.declared.error.ImageError.TheVariants.{BadSymbol}
use Rattle.elf_image.specs.Fields.{unless}
use Rattle.elf_image.specs.Exports.{is_right}
use Rattle.elf_image.proofs.Steps.{params_le, records_turn, symbols_at_step, symbols_at_none, are_right_step, are_right_none, push_turn}
use Rattle.elf_image.proofs.Steps.{push_end, and_turn, unless_none}
use Rattle.elf_image.proofs.exports.read_each.Goals as goal

pub read_export-requires-clause-params : goal.read_export-requires-clause-params
read_export-requires-clause-params c =
    params_le c.args.bytes.now _ (records_turn c.args.bytes.now c.args.first c.loop-i.i c.args.count c.loop-i-test.true c.loop-i.invariant.2).0

pub loop-i-preserved : goal.loop-i-preserved
loop-i-preserved c =
    let l = c.args.layout.now in
    let bytes = c.args.bytes.now in
    let lt = c.loop-i-test.true in
    let right = unless_none (is_right l bytes (c.args.first + 24 * c.loop-i.i) (c.args.symbols + 24 * c.loop-i.i)) BadSymbol c.in_ok-export.ensures.0 in (
      rw c.in_ok-push.ensures.items (push_turn c.loop-i.exports.items _ _ _ _ _ c.loop-i.invariant.0 (symbols_at_step l bytes c.args.first c.loop-i.i c.args.count lt) c.in_ok-export.ensures.1),
      and_turn _ _ _ _ c.loop-i.invariant.1 (are_right_step l bytes c.args.first c.args.symbols c.loop-i.i c.args.count lt) right,
      (records_turn bytes c.args.first c.loop-i.i c.args.count lt c.loop-i.invariant.2).1,
    )

pub returns : goal.returns
returns c =
    let l = c.args.layout.now in
    let bytes = c.args.bytes.now in
    let le = c.loop-i-test.false in (
      ap (λ v. unless v BadSymbol) (sym c.loop-i.invariant.1 ∙ are_right_none l bytes _ _ c.loop-i.i c.args.count le),
      push_end c.loop-i.exports.items _ _ c.loop-i.invariant.0 (symbols_at_none l bytes _ c.loop-i.i c.args.count le),
    )
