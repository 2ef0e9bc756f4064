-- How the pointer of the frame goes down and up.
use Rattle.std.proofs.Common.{◌≡◌, ℕ, suc, ◌+◌, ◌-◌, ◌^◌, ◌<◌, ◌≤◌, Bool, true, false, List, [], ◌∷◌, ◌++◌, length, sym, ap, ◌∙◌}
use Rattle.std.proofs.Common.{subst, ⊎_elim, refl, arith}
use Rattle.std.specs.Prelude.{if◌then◌else◌, nat_le}
use Rattle.std.proofs.lemmas.Bool.{cases_lt, le-leb, lt-leb}
use Rattle.std.proofs.lemmas.List.{length-append}
use Rattle.rv_isa.specs.declared.instr.Instr.{Instr}
use Rattle.rv_isa.specs.declared.instr.Instr.TheVariants.{RegisterImmediate, RegisterRegister}
use Rattle.rv_isa.specs.declared.operation.ImmediateOp.TheVariants.{Addi}
use Rattle.rv_isa.specs.declared.operation.RegisterOp.TheVariants.{Add, Sub}
use Rattle.rv_isa.specs.Registers.{SP, T2}
use Rattle.rv_machine.specs.Word.{low, difference}
use Rattle.rv_machine.specs.Machine.{State, GoesOn, at_with}
use Rattle.rv_select.specs.Numbers.{below_zero, immediate_of, short_constant}
use Rattle.rv_select.specs.Entering.{pointer_down, pointer_up}
use Rattle.rv_select.proofs.Allocs.{less}
use Rattle.rv_select.proofs.Numbers.{below-is, extended-small, immediate-is, short-count, short-loads}
use Rattle.rv_select.proofs.Straight.{Loads, loads-one, then-loads}

down-near : (x top bytes : ℕ) → x ≡ 2 ^ 32 + top → 1 ≤ bytes → bytes ≤ 2048 → bytes ≤ top → top < 2 ^ 30 →
    low (x + (2 ^ 64 - suc (bytes - 1))) ≡ 2 ^ 32 + (top - bytes)
unfolding low
down-near x top bytes e some few room small = omega arith

up-small : (x base bytes : ℕ) → x ≡ 2 ^ 32 + base → base + bytes < 2 ^ 30 → low (x + bytes) ≡ 2 ^ 32 + (base + bytes)
unfolding low
up-small x base bytes e h = omega arith

-- T2 gets the bytes of a frame
sized : (bytes : ℕ) (m : State) → bytes < 2 ^ 30 → Loads 7 (short_constant T2 bytes) m bytes
sized bytes m h =
    subst (λ v. Loads 7 (short_constant T2 bytes) m v) (extended-small bytes (omega (arith, h))) (short-loads T2 m bytes (λ z. omega (arith, z)))

-- code by which SP gets a word from its own and that of T2, behind that which loads T2
from-seven : (bytes v : ℕ) (code : List Instr) (m : State) (l : Loads 7 (short_constant T2 bytes) m bytes) → Loads 2 code l.after v →
    Loads 2 (short_constant T2 bytes ++ code) m v
from-seven bytes v code m l k =
    then-loads 2 v (short_constant T2 bytes) code m l.after (λ r two seven. l.keeps r seven seven)
    (record {
      goes = l.goes;
      behind = l.behind;
      keeps = λ r five six seven. l.keeps r seven seven;
      region = l.region;
      private = l.private;
      straight = l.straight;
    }) k

near-down : (bytes top : ℕ) (m : State) → m.registers 2 ≡ 2 ^ 32 + top → 1 ≤ bytes → bytes ≤ 2048 → bytes ≤ top → top < 2 ^ 30 →
    Loads 2 (RegisterImmediate Addi SP SP (below_zero (bytes - 1)) ∷ []) m (2 ^ 32 + (top - bytes))
near-down bytes top m is some few room small =
    loads-one (RegisterImmediate Addi SP SP (below_zero (bytes - 1))) m 2 (2 ^ 32 + (top - bytes)) (λ z. omega (arith, z)) refl
    (ap (λ z. GoesOn (at_with m (low (m.pc + 4)) 2 (low (m.registers 2 + z)))) (below-is (bytes - 1) (omega (arith, few)))
    ∙ ap (λ z. GoesOn (at_with m (low (m.pc + 4)) 2 z)) (down-near (m.registers 2) top bytes is some few room small))

far-down : (bytes top : ℕ) (m : State) → m.registers 2 ≡ 2 ^ 32 + top → bytes ≤ top → top < 2 ^ 30 →
    Loads 2 (short_constant T2 bytes ++ RegisterRegister Sub SP SP T2 ∷ []) m (2 ^ 32 + (top - bytes))
far-down bytes top m is room small =
    let v : ℕ = 2 ^ 32 + (top - bytes) in
    let l : Loads 7 (short_constant T2 bytes) m bytes = sized bytes m (omega (arith, room, small)) in
    let t : State = l.after in
    let same : 2 ^ 32 + top - bytes ≡ v = omega (arith, room) in
    from-seven bytes v (RegisterRegister Sub SP SP T2 ∷ []) m l
    (loads-one (RegisterRegister Sub SP SP T2) t 2 v (λ z. omega (arith, z)) refl
    (ap (λ z. GoesOn (at_with t (low (t.pc + 4)) 2 (difference z (t.registers 7)))) (l.keeps 2 (λ z. omega (arith, z)) (λ z. omega (arith, z)) ∙ is)
    ∙ (ap (λ z. GoesOn (at_with t (low (t.pc + 4)) 2 (difference (2 ^ 32 + top) z))) l.gives
    ∙ ap (λ z. GoesOn (at_with t (low (t.pc + 4)) 2 z)) (less (2 ^ 32 + top) bytes (omega (arith, room)) (omega (arith, small)) ∙ same))))

-- The pointer goes down by the bytes of a frame.
pub goes-down : (bytes top : ℕ) (m : State) → m.registers 2 ≡ 2 ^ 32 + top → 1 ≤ bytes → bytes ≤ top → top < 2 ^ 30 →
    Loads 2 (pointer_down bytes) m (2 ^ 32 + (top - bytes))
goes-down bytes top m is some room small =
    ⊎_elim
    (λ h. subst
    (λ b. Loads 2 (if b then RegisterImmediate Addi SP SP (below_zero (bytes - 1)) ∷ [] else short_constant T2 bytes ++ RegisterRegister Sub SP SP T2 ∷ []) m (2 ^ 32 + (top - bytes)))
    (sym (le-leb bytes 2048 (omega (arith, h)))) (near-down bytes top m is some (omega (arith, h)) room small))
    (λ h. subst
    (λ b. Loads 2 (if b then RegisterImmediate Addi SP SP (below_zero (bytes - 1)) ∷ [] else short_constant T2 bytes ++ RegisterRegister Sub SP SP T2 ∷ []) m (2 ^ 32 + (top - bytes)))
    (sym (lt-leb bytes 2048 (omega (arith, h)))) (far-down bytes top m is room small))
    (cases_lt bytes 2049)

near-up : (bytes base : ℕ) (m : State) → m.registers 2 ≡ 2 ^ 32 + base → base + bytes < 2 ^ 30 → bytes ≤ 2047 →
    Loads 2 (RegisterImmediate Addi SP SP (immediate_of bytes) ∷ []) m (2 ^ 32 + (base + bytes))
near-up bytes base m is small few =
    loads-one (RegisterImmediate Addi SP SP (immediate_of bytes)) m 2 (2 ^ 32 + (base + bytes)) (λ z. omega (arith, z)) refl
    (ap (λ z. GoesOn (at_with m (low (m.pc + 4)) 2 (low (m.registers 2 + z)))) (immediate-is bytes few)
    ∙ ap (λ z. GoesOn (at_with m (low (m.pc + 4)) 2 z)) (up-small (m.registers 2) base bytes is small))

far-up : (bytes base : ℕ) (m : State) → m.registers 2 ≡ 2 ^ 32 + base → base + bytes < 2 ^ 30 →
    Loads 2 (short_constant T2 bytes ++ RegisterRegister Add SP SP T2 ∷ []) m (2 ^ 32 + (base + bytes))
far-up bytes base m is small =
    let v : ℕ = 2 ^ 32 + (base + bytes) in
    let l : Loads 7 (short_constant T2 bytes) m bytes = sized bytes m (omega (arith, small)) in
    let t : State = l.after in
    let two : t.registers 2 ≡ 2 ^ 32 + base = l.keeps 2 (λ z. omega (arith, z)) (λ z. omega (arith, z)) ∙ is in
    from-seven bytes v (RegisterRegister Add SP SP T2 ∷ []) m l
    (loads-one (RegisterRegister Add SP SP T2) t 2 v (λ z. omega (arith, z)) refl
    (ap (λ z. GoesOn (at_with t (low (t.pc + 4)) 2 (low (t.registers 2 + z)))) l.gives
    ∙ ap (λ z. GoesOn (at_with t (low (t.pc + 4)) 2 z)) (up-small (t.registers 2) base bytes two small)))

-- It goes up by them.
pub goes-up : (bytes base : ℕ) (m : State) → m.registers 2 ≡ 2 ^ 32 + base → base + bytes < 2 ^ 30 →
    Loads 2 (pointer_up bytes) m (2 ^ 32 + (base + bytes))
goes-up bytes base m is small =
    ⊎_elim
    (λ h. subst
    (λ b. Loads 2 (if b then RegisterImmediate Addi SP SP (immediate_of bytes) ∷ [] else short_constant T2 bytes ++ RegisterRegister Add SP SP T2 ∷ []) m (2 ^ 32 + (base + bytes)))
    (sym (le-leb bytes 2047 (omega (arith, h)))) (near-up bytes base m is small (omega (arith, h))))
    (λ h. subst
    (λ b. Loads 2 (if b then RegisterImmediate Addi SP SP (immediate_of bytes) ∷ [] else short_constant T2 bytes ++ RegisterRegister Add SP SP T2 ∷ []) m (2 ^ 32 + (base + bytes)))
    (sym (lt-leb bytes 2047 (omega (arith, h)))) (far-up bytes base m is small))
    (cases_lt bytes 2048)

-- how many words that takes
pub down-count : (bytes : ℕ) → length (pointer_down bytes) ≤ 3
down-count bytes = either (nat_le bytes 2048)
  where
    either : (b : Bool) → length (if b then RegisterImmediate Addi SP SP (below_zero (bytes - 1)) ∷ [] else short_constant T2 bytes ++ RegisterRegister Sub SP SP T2 ∷ []) ≤ 3
    either true = omega arith
    either false = omega (arith, length-append (short_constant T2 bytes) (RegisterRegister Sub SP SP T2 ∷ []), short-count T2 bytes)

pub down-some : (bytes : ℕ) → 1 ≤ length (pointer_down bytes)
down-some bytes = either (nat_le bytes 2048)
  where
    either : (b : Bool) → 1 ≤ length (if b then RegisterImmediate Addi SP SP (below_zero (bytes - 1)) ∷ [] else short_constant T2 bytes ++ RegisterRegister Sub SP SP T2 ∷ [])
    either true = omega arith
    either false = omega (arith, length-append (short_constant T2 bytes) (RegisterRegister Sub SP SP T2 ∷ []))

pub up-count : (bytes : ℕ) → length (pointer_up bytes) ≤ 3
up-count bytes = either (nat_le bytes 2047)
  where
    either : (b : Bool) → length (if b then RegisterImmediate Addi SP SP (immediate_of bytes) ∷ [] else short_constant T2 bytes ++ RegisterRegister Add SP SP T2 ∷ []) ≤ 3
    either true = omega arith
    either false = omega (arith, length-append (short_constant T2 bytes) (RegisterRegister Add SP SP T2 ∷ []), short-count T2 bytes)
