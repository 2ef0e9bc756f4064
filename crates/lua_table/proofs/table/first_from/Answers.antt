use Rattle.std.proofs.Common.{◌≡◌, true, false, sym, ◌∙◌, arith}
use Rattle.std.proofs.lemmas.Grind.{common_steps}
use Rattle.lua_value.specs.Values.{is_nil}
use Rattle.lua_table.proofs.Walk.{passed, found}
use Rattle.lua_table.proofs.table.first_from.Goals as goal

pub returns-then-not-is_nil : goal.returns-then-not-is_nil
returns-then-not-is_nil c =
    let full : is_nil c.entry_at-key.result.1 ≡ false = grind (arith, common_steps, c.is_nil.ensures.value, c.if-not-is_nil.true) in
    sym (c.loop-place.invariant ∙ found c.args.entries.now.entries c.loop-place.place c.entry_at-key.result c.entry_at-key.ensures full)

pub loop-place-preserved : goal.loop-place-preserved
loop-place-preserved c =
    let empty : is_nil c.entry_at-key.result.1 ≡ true = grind (arith, common_steps, c.is_nil.ensures.value, c.if-not-is_nil.false) in
    c.loop-place.invariant ∙ passed c.args.entries.now.entries c.loop-place.place c.entry_at-key.result c.entry_at-key.ensures empty
