use Rattle.std.proofs.Common.{◌∙◌, ap, ◌∷◌, ◌++◌, drop, replicate, length, ◌+◌, ◌-◌, List, ℕ}
use Rattle.std.specs.Prelude.{slice_index}
use Rattle.rv_machine.proofs.Registers.{registers_for}
use Rattle.rv_machine.proofs.hart.registers_for.Goals as goal

pub returns-clause-registers : goal.returns-clause-registers
returns-clause-registers c =
    let k = 10 + length c.args.arguments.now - 10 in
    ap (λ (a : List ℕ). slice_index (0 ∷ 0 ∷ c.args.end ∷ c.args.heap ∷ c.args.limit ∷ 0 ∷ 0 ∷ 0 ∷ 0 ∷ 0 ∷ (a ++ drop k (replicate 22 0)))) c.copy_from_slice.ensures.after
    ∙ registers_for c.args.end c.args.heap c.args.limit c.args.arguments.now k
