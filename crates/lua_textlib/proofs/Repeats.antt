-- Bytes so many times.
use Rattle.std.proofs.Common.{◌≡◌, ℕ, zero, suc, ◌+◌, ◌*◌, ◌≤◌, ◌<◌, true, false, List, [], ◌∷◌, ◌++◌, length, refl, sym, ◌∙◌, ap, arith}
use Rattle.std.proofs.Common.{cond, nat_le, ◌-◌, Result, Ok, Err, IfOk, OnOk}
use Rattle.std.proofs.lemmas.Bool.Decides.{nat_tests}
use Rattle.std.proofs.lemmas.List.{length-append, append_assoc, append-nil}
use Rattle.tl_base.specs.declared.place.Place.{Place}
use Rattle.tl_base.specs.Layer.{State, state}
use Rattle.lua_value.specs.declared.value.Value.TheVariants as values
use Rattle.lua_table.specs.LuaState.{LuaState}
use Rattle.lua_table.specs.Heap.{interned_id, with_text}
use Rattle.lua_table.specs.declared.call.LibTurn.{LibTurn}
use Rattle.lua_table.specs.declared.call.LibTurn.TheVariants as turns
use Rattle.tl_base.specs.declared.memory.NoMemory.{NoMemory}
use Rattle.lua_base.specs.Calls as base
use Rattle.lua_base.specs.Calls.{paying, text_units, with_made}
use Rattle.lua_textlib.specs.Answers.{making, too_long, one_value}
use Rattle.lua_textlib.specs.Texts.{repeated}

pub repeated_nothing : (n : ℕ) (bytes : List ℕ) → length bytes ≡ 0 → repeated 0 bytes ≡ repeated n bytes
repeated_nothing zero bytes h = refl
repeated_nothing (suc n) [] h = repeated_nothing n [] h
repeated_nothing (suc n) (b ∷ bytes) h = absurd (omega (arith, h))

pub repeated_length : (n : ℕ) (bytes : List ℕ) → length (repeated n bytes) ≡ length bytes * n
repeated_length zero bytes = omega arith
repeated_length (suc n) bytes = omega (arith, length-append bytes (repeated n bytes), repeated_length n bytes)

-- the bytes behind them are those before them
turned : (n : ℕ) (bytes : List ℕ) → repeated n bytes ++ bytes ≡ bytes ++ repeated n bytes
turned zero bytes = sym (append-nil bytes)
turned (suc n) bytes = append_assoc bytes (repeated n bytes) bytes ∙ ap (λ (more : List ℕ). bytes ++ more) (turned n bytes)

pub repeated_more : (n : ℕ) (bytes : List ℕ) → repeated n bytes ++ bytes ≡ repeated (n + 1) bytes
repeated_more n bytes =
    let next : suc n ≡ n + 1 = omega arith in
    turned n bytes ∙ ap (λ (m : ℕ). repeated m bytes) next

pub made_long : (s : State LuaState) (n : ℕ) (bytes : List ℕ) (place : Place) → 65535 < length bytes * n →
    making s (repeated n bytes) place ≡ too_long s place
made_long s n bytes place h =
    let longer : nat_le (length (repeated n bytes)) 65535 ≡ false = grind (arith, nat_tests, repeated_length n bytes, h) in
    ap (λ b. cond b (with_made s (repeated n bytes) one_value) (too_long s place)) longer

pub made_paid : (s : State LuaState) (n : ℕ) (bytes : List ℕ) (place : Place) → length bytes * n ≤ 65535 →
    making s (repeated n bytes) place
    ≡ paying s (text_units (length bytes * n)) (one_value (values.Text (interned_id s.world (repeated n bytes)))) (with_text s.world (repeated n bytes))
made_paid s n bytes place h =
    let short : nat_le (length (repeated n bytes)) 65535 ≡ true = grind (arith, nat_tests, repeated_length n bytes, h) in
    ap (λ b. cond b (with_made s (repeated n bytes) one_value) (too_long s place)) short
    ∙ ap (λ (m : ℕ). paying s (text_units m) (one_value (values.Text (interned_id s.world (repeated n bytes)))) (with_text s.world (repeated n bytes))) (repeated_length n bytes)

-- what was paid for is made
pub made_ok : (s : State LuaState) (n : ℕ) (bytes : List ℕ) (place : Place) (made : List ℕ) (world : LuaState) (left units : ℕ) (r : Result LibTurn NoMemory) →
    made ≡ repeated n bytes → units ≡ text_units (length bytes * n) → length bytes * n ≤ 65535 → units ≤ s.left → left ≡ s.left - units →
    IfOk r (λ turn. turn ≡ one_value (values.Text (interned_id s.world made))) → OnOk r (world ≡ with_text s.world made) →
    IfOk r (λ turn. base.turned turn (state world left) ≡ making s (repeated n bytes) place)
made_ok s n bytes place made world left units (Err e) em eu h enough el et ew = tt
made_ok s n bytes place made world left units (Ok turn) em eu h enough el et ew =
    let paid : nat_le (text_units (length bytes * n)) s.left ≡ true = grind (arith, nat_tests, eu, enough) in
    let gives : LibTurn = one_value (values.Text (interned_id s.world (repeated n bytes))) in
    let after : LuaState = with_text s.world (repeated n bytes) in
    let u : ℕ = text_units (length bytes * n) in
    let answer : making s (repeated n bytes) place ≡ base.turned gives (state after (s.left - u)) =
    made_paid s n bytes place h ∙ ap (λ b. cond b (base.turned gives (state after (s.left - u))) (base.turned turns.Spent s)) paid in
    let t : turn ≡ gives = et ∙ ap (λ (b : List ℕ). one_value (values.Text (interned_id s.world b))) em in
    let w : world ≡ after = ew ∙ ap (λ (b : List ℕ). with_text s.world b) em in
    let l : left ≡ s.left - u = el ∙ ap (λ (k : ℕ). s.left - k) eu in
    rw (t, w, l) (sym answer)
