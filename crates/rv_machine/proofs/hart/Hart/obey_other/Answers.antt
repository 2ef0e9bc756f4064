use Rattle.std.proofs.Common.{sym, ap, ◌∙◌, ℕ}
use Rattle.rv_isa.specs.declared.instr.Instr.{Instr}
use Rattle.rv_isa.specs.declared.instr.Instr.TheVariants.{Load, Store}
use Rattle.rv_machine.specs.Machine.{GoesOn, act, loads, stores, value_at}
use Rattle.rv_machine.specs.Place.{address_at}
use Rattle.rv_machine.specs.Shown.{hart_state, stands_at}
use Rattle.rv_machine.proofs.hart.Hart.obey_other.Goals as goal

pub returns-in-Ok-clause-some : goal.returns-in-Ok-clause-some
returns-in-Ok-clause-some c =
    ap (λ (i : Instr). act i (stands_at c.args.self.now (address_at c.args.at))) c.in-Load.is
    ∙ sym (ap (act (Load c.in-Load.op c.in-Load.rd c.in-Load.rs1 c.in-Load.offset)) c.stand.ensures)
    ∙ sym (ap (loads (hart_state c.stand.new.self) c.in-Load.op c.in-Load.rd) c.address.ensures)
    ∙ c.in-Ok.ensures.ok
    ∙ ap (λ (pc : ℕ). GoesOn (stands_at c.load.new.self pc)) (sym c.place_at.ensures)

pub returns-in-Ok-store-clause-some : goal.returns-in-Ok-store-clause-some
returns-in-Ok-store-clause-some c =
    let s = hart_state c.stand.new.self in
    ap (λ (i : Instr). act i (stands_at c.args.self.now (address_at c.args.at))) c.in-Store.is
    ∙ sym (ap (act (Store c.in-Store.op c.in-Store.rs1 c.in-Store.rs2 c.in-Store.offset)) c.stand.ensures)
    ∙ sym (ap (λ (a : ℕ). stores s c.in-Store.op a (value_at s c.in-Store.rs2)) c.address-in-Store.ensures)
    ∙ sym (ap (stores s c.in-Store.op c.address-in-Store.result) c.read.ensures)
    ∙ c.in-Ok-store.ensures.ok
    ∙ ap (λ (pc : ℕ). GoesOn (stands_at c.store.new.self pc)) (sym c.place_at-in-Ok-store.ensures)
