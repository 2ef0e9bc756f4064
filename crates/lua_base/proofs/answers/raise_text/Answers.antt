use Rattle.tl_base.specs.Layer.{state}
use Rattle.lua_table.specs.declared.call.LibTurn.TheVariants as turns
use Rattle.lua_base.proofs.Making.{too_long}
use Rattle.lua_base.proofs.answers.raise_text.Goals as goal

pub returns-then-bytes-gt-MAX_LEN-clause-does : goal.returns-then-bytes-gt-MAX_LEN-clause-does
returns-then-bytes-gt-MAX_LEN-clause-does c =
    let a = c.args in
    rw (too_long (state a.heap.now a.budget.now) a.place a.bytes.now (λ made. turns.Raise made c.args.place) c.if-bytes-gt-MAX_LEN.true) c.raise.ensures.does
