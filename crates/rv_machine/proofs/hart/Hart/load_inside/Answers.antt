use Rattle.std.proofs.Common.{◌+◌, ◌-◌, ◌%◌, ◌^◌, ℕ, List, sym, ap, ◌∙◌, arith}
use Rattle.rv_machine.specs.Machine.{loads_from, writes}
use Rattle.rv_machine.specs.Memory.{load_width, load_value}
use Rattle.rv_machine.specs.Place.{address_at}
use Rattle.rv_machine.specs.Shown.{stands_at}
use Rattle.rv_machine.proofs.Places.{in_private, in_region, load_width-small}
use Rattle.terra_memory.specs.Numbers.{part}
use Rattle.rv_machine.proofs.hart.Hart.load_inside.Goals as goal

pub returns-then-place-self-clause-some : goal.returns-then-place-self-clause-some
returns-then-place-self-clause-some c =
    let s = stands_at c.args.self.now (address_at c.args.at) in
    let at = (c.args.address + (2 ^ 64 - 2 ^ 32)) % 2 ^ 64 in
    ap (loads_from s c.args.op c.args.register) (in_private _ _ c.args.address (load_width c.args.op) at c.args.self.now.region_fits (omega (arith, c.if-place-self.true, c.ranges.address.fits, c.args.self.now.private_within, c.args.self.now.private_fits)) (omega (arith, c.if-place-self.true, c.args.self.now.private_within)) (load_width-small c.args.op))
    ∙ ap (λ (bytes : List ℕ). writes s c.args.register (load_value c.args.op (part bytes at (load_width c.args.op)))) (sym c.deref.ensures.value)
    ∙ ap (writes s c.args.register) (sym c.load_value-value.ensures)
    ∙ c.set.ensures

pub returns-then-place-self-2-clause-some : goal.returns-then-place-self-2-clause-some
returns-then-place-self-2-clause-some c =
    let s = stands_at c.args.self.now (address_at c.args.at) in
    let at = (c.args.address + (2 ^ 64 - 2 ^ 30)) % 2 ^ 64 in
    ap (loads_from s c.args.op c.args.register) (in_region _ _ c.args.address (load_width c.args.op) at (omega (arith, c.if-place-self-2.true, c.ranges.address.fits, c.args.self.now.region_within, c.args.self.now.region_fits)) (omega (arith, c.if-place-self-2.true, c.args.self.now.region_within)) (load_width-small c.args.op))
    ∙ ap (λ (bytes : List ℕ). writes s c.args.register (load_value c.args.op (part bytes at (load_width c.args.op)))) (sym c.deref-then-place-self-2.ensures.value)
    ∙ ap (writes s c.args.register) (sym c.load_value-value-then-place-self-2.ensures)
    ∙ c.set-then-place-self-2.ensures
