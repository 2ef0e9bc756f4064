use Rattle.std.proofs.Common.{ℕ, List, [], ◌∷◌, ◌++◌, ◌≡◌, ◌≤◌, length, ◌∙◌, ap, sym, subst, arith}
use Rattle.std.proofs.lemmas.Grind.{common_steps}
use Rattle.lua_table.specs.Borders.{AreFull}
use Rattle.lua_table.specs.Pairs.{Pairs, with_value}
use Rattle.lua_table.proofs.Border.{numbers_fit}
use Rattle.lua_table.proofs.Listed.{full_appended}
use Rattle.lua_table.proofs.table.append.Goals as goal

pub reserve_listed-requires : goal.reserve_listed-requires
reserve_listed-requires c = numbers_fit c.args.entries.now.entries (length c.args.listed.now.items) c.requires.table.least.full

pub push_listed-requires : goal.push_listed-requires
push_listed-requires c =
    let fit : length c.args.listed.now.items ≤ length c.args.entries.now.entries = numbers_fit c.args.entries.now.entries (length c.args.listed.now.items) c.requires.table.least.full in
    grind (arith, common_steps, fit, c.in_ok-reserve_listed.ensures.ok, c.in_ok-reserve_listed.ensures.items)

pub list_values-requires-clause-full : goal.list_values-requires-clause-full
list_values-requires-clause-full c =
    let listed = c.args.listed.now.items in
    let place = c.in_ok-place.place in
    let items : c.push_listed.new.listed.items ≡ listed ++ place ∷ [] = c.push_listed.ensures.items ∙ ap (λ (l : List ℕ). l ++ place ∷ []) c.in_ok-reserve_listed.ensures.items in
    let f : AreFull (with_value c.args.entries.now.entries c.args.key c.args.value) (listed ++ place ∷ []) = full_appended c.args.entries.now.entries listed c.args.key c.args.value place c.requires.key c.requires.full c.requires.table c.requires.next c.in_ok-place.ensures.place in
    let P : Pairs → Type 0 = λ ps. AreFull ps (listed ++ place ∷ []) in
    let Q : List ℕ → Type 0 = λ l. AreFull c.put_full.new.entries.entries l in
    subst Q (sym items) (subst P (sym c.in_ok-place.ensures.ok) f)
