use Rattle.std.proofs.Common.{ℕ, ◌+◌, ◌-◌, ◌<◌, ◌≤◌, ◌≡◌, List, length, take, false, true, ◌∙◌, ap, sym, subst, arith}
use Rattle.std.proofs.lemmas.Grind.{common_steps}
use Rattle.lua_value.specs.Values.{is_nil}
use Rattle.lua_table.specs.Borders.{AreTable, index_in}
use Rattle.lua_table.specs.Pairs.{Pairs}
use Rattle.lua_table.proofs.Listed.{table_cut, table_stored, table_elsewhere}
use Rattle.lua_table.proofs.table.store.Goals as goal
use Rattle.lua_table.proofs.table.store.Goals.{else-index-gt0-via-then-index-gt0+else-index-len, else-index-gt0-via-else-index-gt0}
use Rattle.lua_table.proofs.table.store.Goals.{else-index-len-2-via-then-index-len-2+else-not-is_nil, else-index-len-2-via-else-index-len-2}

pub returns-then-is_nil-clause-table : goal.returns-then-is_nil-clause-table
returns-then-is_nil-clause-table c =
    let pairs = c.args.entries.now.entries in
    let listed = c.args.listed.now.items in
    let above : 0 < index_in c.args.key = grind (arith, common_steps, c.if-index-gt0.true, c.index_of-index.ensures.value) in
    let within : index_in c.args.key ≤ length listed = grind (arith, common_steps, c.if-index-len.true, c.index_of-index.ensures.value, c.len.ensures) in
    let empty : is_nil c.args.value ≡ true = sym c.is_nil.ensures.value ∙ c.if-is_nil.true in
    let cut : c.truncate.new.self.items ≡ take (index_in c.args.key - 1) listed = c.truncate.ensures.items ∙ ap (λ (n : ℕ). take (n - 1) listed) c.index_of-index.ensures.value in
    let P : Pairs → Type 0 = λ ps. AreTable ps (take (index_in c.args.key - 1) listed) in
    let Q : List ℕ → Type 0 = λ l. AreTable c.replace_listed.new.entries.entries l in
    subst Q (sym cut) (subst P (sym c.replace_listed.ensures) (table_cut pairs listed c.args.key c.args.value c.requires.key c.requires.table empty above within))

pub returns-else-is_nil-clause-table : goal.returns-else-is_nil-clause-table
returns-else-is_nil-clause-table c =
    let listed = c.args.listed.now.items in
    let full : is_nil c.args.value ≡ false = sym c.is_nil.ensures.value ∙ c.if-is_nil.false in
    let other : index_in c.args.key ≡ length listed + 1 → ⊥ = λ at. absurd (grind (arith, common_steps, at, c.if-index-len.true, c.index_of-index.ensures.value, c.len.ensures)) in
    let P : Pairs → Type 0 = λ ps. AreTable ps listed in
    subst P (sym c.replace_listed.ensures) (table_stored c.args.entries.now.entries listed c.args.key c.args.value c.requires.key c.requires.table full other)

pub returns-in_ok-put-clause-table : goal.returns-in_ok-put-clause-table
returns-in_ok-put-clause-table c =
    let listed = c.args.listed.now.items in
    let past : 0 < index_in c.args.key → index_in c.args.key ≤ length listed → ⊥ =
    λ above within. elim c.else-index-gt0.branch [
      | else-index-gt0-via-then-index-gt0+else-index-len w ↦ absurd (grind (arith, common_steps, within, w.if-index-len.false, w.len.ensures, c.index_of-index.ensures.value))
      | else-index-gt0-via-else-index-gt0 w ↦ absurd (grind (arith, common_steps, above, w.if-index-gt0.false, c.index_of-index.ensures.value))
    ] in
    let other : is_nil c.args.value ≡ false → index_in c.args.key ≡ length listed + 1 → ⊥ =
    λ full at. elim c.else-index-len-2.branch [
      | else-index-len-2-via-then-index-len-2+else-not-is_nil w ↦ absurd (grind (arith, common_steps, full, w.is_nil-then-index-len-2.ensures.value, w.if-not-is_nil.false))
      | else-index-len-2-via-else-index-len-2 w ↦ w.if-index-len-2.false (grind (arith, common_steps, at, c.index_of-index.ensures.value, c.len-else-index-gt0.ensures))
    ] in
    let P : Pairs → Type 0 = λ ps. AreTable ps listed in
    subst P (sym c.in_ok-put.ensures.ok) (table_elsewhere c.args.entries.now.entries listed c.args.key c.args.value c.requires.key c.requires.table past other)
