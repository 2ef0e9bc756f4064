use Rattle.std.proofs.Common.{ℕ, ap}
use Rattle.rv_machine.proofs.Registers.{zero_registers}
use Rattle.rv_machine.proofs.hart.Hart.new.Goals as goal

pub returns : goal.returns
returns c =
    ap (λ (registers : ℕ → ℕ). record { pc = 0; registers = registers; region = c.args.region.items; private = c.args.private.items }) zero_registers
