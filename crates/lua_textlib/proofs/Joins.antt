-- Values that are joined one by one.
use Rattle.std.proofs.Common.{◌≡◌, ℕ, suc, ℤ, pos, ◌+ℤ◌, List, Option, Some, None, Ok, Err, ◌∙◌, ap, sym}
use Rattle.tl_base.specs.declared.ids.TableId.{TableId}
use Rattle.lua_table.specs.LuaState.{LuaState}
use Rattle.lua_textlib.specs.declared.refusal.Refusal.{Refusal}
use Rattle.lua_textlib.specs.Tables.{Joined, joined, joined_step, and_then, grew}

pub join_refused : (s : LuaState) (t : TableId) (separator before : List ℕ) (at z : ℤ) (n m : ℕ) (made more : List ℕ) (left rest : ℕ) (answer : Option Refusal) (refusal : Refusal) →
    record { made = grew answer more; left = rest } ≡ joined_step s t before at made left → answer ≡ Some refusal → at ≡ z → m ≡ suc n →
    record { made = Err refusal; left = rest } ≡ joined s t separator before z m made left
join_refused s t separator before at z n m made more left rest answer refusal e ea ez em =
    let go : List ℕ → ℕ → Joined = λ more rest. joined s t separator separator (z +ℤ pos 1) n more rest in
    let step : record { made = Err refusal; left = rest } ≡ joined_step s t before z made left =
    ap (λ (a : Option Refusal). record { made = grew a more; left = rest }) (sym ea) ∙ e ∙ ap (λ (k : ℤ). joined_step s t before k made left) ez in
    ap (λ (j : Joined). and_then j.made j.left go) step ∙ ap (λ (k : ℕ). joined s t separator before z k made left) (sym em)

pub join_goes_on : (s : LuaState) (t : TableId) (separator before : List ℕ) (at z next : ℤ) (n m : ℕ) (made more : List ℕ) (left rest : ℕ) (answer : Option Refusal) →
    record { made = grew answer more; left = rest } ≡ joined_step s t before at made left → answer ≡ None → at ≡ z → next ≡ z +ℤ pos 1 → m ≡ suc n →
    joined s t separator separator next n more rest ≡ joined s t separator before z m made left
join_goes_on s t separator before at z next n m made more left rest answer e ea ez en em =
    let go : List ℕ → ℕ → Joined = λ more rest. joined s t separator separator (z +ℤ pos 1) n more rest in
    let step : record { made = Ok more; left = rest } ≡ joined_step s t before z made left =
    ap (λ (a : Option Refusal). record { made = grew a more; left = rest }) (sym ea) ∙ e ∙ ap (λ (k : ℤ). joined_step s t before k made left) ez in
    ap (λ (k : ℤ). joined s t separator separator k n more rest) en ∙ ap (λ (j : Joined). and_then j.made j.left go) step ∙ ap (λ (k : ℕ). joined s t separator before z k made left) (sym em)
