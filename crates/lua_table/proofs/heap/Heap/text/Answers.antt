use Rattle.std.proofs.Common.{◌≡◌, ◌≤◌, ℕ, List, length, slice_get, Some, sym, subst}
use Rattle.lua_table.proofs.Interned.{short_text}
use Rattle.lua_table.proofs.heap.Heap.text.Goals as goal

pub returns-in-Some-clause-within : goal.returns-in-Some-clause-within
returns-in-Some-clause-within c =
    let at : slice_get c.self.inside.texts.keys c.args.text.0 ≡ Some c.in-Some.text.now = sym c.in-Some.ensures.key in
    let P : List ℕ → Type 0 = λ bytes. length bytes ≤ 65535 in
    subst P (sym c.deref.ensures.value) (short_text c.self.inside.texts.keys c.self.inside.calls c.args.text.0 c.in-Some.text.now c.self.invariant at)
