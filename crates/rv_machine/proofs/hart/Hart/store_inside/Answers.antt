use Rattle.std.proofs.Common.{◌≡◌, ◌+◌, ◌-◌, ◌%◌, ◌^◌, ◌≤◌, ℕ, List, length, sym, ap, ◌∙◌, arith}
use Rattle.std.proofs.lemmas.List.{with_items_is}
use Rattle.rv_machine.specs.Machine.{stores_to, GoesOn}
use Rattle.rv_machine.specs.Memory.{store_width}
use Rattle.rv_machine.specs.Place.{address_at}
use Rattle.rv_machine.specs.Shown.{stands_at}
use Rattle.terra_memory.proofs.Bytes.{length-low_bytes}
use Rattle.terra_memory.proofs.Overwriting.{length-overwritten}
use Rattle.terra_memory.specs.Numbers.{low_bytes, overwritten}
use Rattle.rv_machine.proofs.Places.{in_private, in_region, store_width-small}
use Rattle.rv_machine.proofs.hart.Hart.store_inside.Goals as goal

pub returns-then-place-self-clause-some : goal.returns-then-place-self-clause-some
returns-then-place-self-clause-some c =
    let s = stands_at c.args.self.now (address_at c.args.at) in
    let bytes = low_bytes (store_width c.args.op) c.args.value in
    let at = (c.args.address + (2 ^ 64 - 2 ^ 32)) % 2 ^ 64 in
    let inside : at + 8 ≤ length s.private = omega (arith, c.if-place-self.true, c.args.self.now.private_within) in
    let kept : length c.put_value.new.memory ≡ c.args.self.now.private.len = ap length c.put_value.ensures ∙ length-overwritten c.deref_mut.result.now bytes at (omega (arith, inside, ap length c.deref_mut.ensures.value, length-low_bytes (store_width c.args.op) c.args.value, store_width-small c.args.op)) ∙ c.deref_mut.ensures.len in
    ap (stores_to s bytes) (in_private _ _ c.args.address (store_width c.args.op) at c.args.self.now.region_fits (omega (arith, c.if-place-self.true, c.ranges.address.fits, c.args.self.now.private_within, c.args.self.now.private_fits)) inside (store_width-small c.args.op))
    ∙ ap (λ (pc : ℕ). GoesOn (record { pc = pc; registers = s.registers; region = s.region; private = overwritten s.private at bytes })) (sym c.next_place.ensures)
    ∙ ap (λ (private : List ℕ). GoesOn (record { pc = address_at c.next_place.result; registers = s.registers; region = s.region; private = private }))
    (ap (λ (i : List ℕ). overwritten i at bytes) (sym c.deref_mut.ensures.value) ∙ sym c.put_value.ensures ∙ sym (with_items_is c.args.self.now.private c.put_value.new.memory kept))

pub returns-then-place-self-2-clause-some : goal.returns-then-place-self-2-clause-some
returns-then-place-self-2-clause-some c =
    let s = stands_at c.args.self.now (address_at c.args.at) in
    let bytes = low_bytes (store_width c.args.op) c.args.value in
    let at = (c.args.address + (2 ^ 64 - 2 ^ 30)) % 2 ^ 64 in
    let inside : at + 8 ≤ length s.region = omega (arith, c.if-place-self-2.true, c.args.self.now.region_within) in
    let kept : length c.put_value-then-place-self-2.new.memory ≡ c.args.self.now.region.len = ap length c.put_value-then-place-self-2.ensures ∙ length-overwritten c.deref_mut-then-place-self-2.result.now bytes at (omega (arith, inside, ap length c.deref_mut-then-place-self-2.ensures.value, length-low_bytes (store_width c.args.op) c.args.value, store_width-small c.args.op)) ∙ c.deref_mut-then-place-self-2.ensures.len in
    ap (stores_to s bytes) (in_region _ _ c.args.address (store_width c.args.op) at (omega (arith, c.if-place-self-2.true, c.ranges.address.fits, c.args.self.now.region_within, c.args.self.now.region_fits)) inside (store_width-small c.args.op))
    ∙ ap (λ (pc : ℕ). GoesOn (record { pc = pc; registers = s.registers; region = overwritten s.region at bytes; private = s.private })) (sym c.next_place-then-place-self-2.ensures)
    ∙ ap (λ (region : List ℕ). GoesOn (record { pc = address_at c.next_place-then-place-self-2.result; registers = s.registers; region = region; private = s.private }))
    (ap (λ (i : List ℕ). overwritten i at bytes) (sym c.deref_mut-then-place-self-2.ensures.value) ∙ sym c.put_value-then-place-self-2.ensures ∙ sym (with_items_is c.args.self.now.region c.put_value-then-place-self-2.new.memory kept))
