use Rattle.std.proofs.Common.{map, sym, ap, ◌∙◌, Bor}
use Rattle.std.specs.Prelude.{option_map}
use Rattle.rv_machine.specs.declared.decoded.Decoded.{Decoded}
use Rattle.rv_machine.specs.Decoded.{found_of}
use Rattle.rv_machine.proofs.Programs.{not_at_zero, on_ok, if_err}
use Rattle.rv_machine.proofs.machine.Machine.step.Goals as goal

pub returns-in-Some-clause-going : goal.returns-in-Some-clause-going
returns-in-Some-clause-going g c =
    on_ok c.perform.result _
    (not_at_zero (map found_of c.deref.result.now) c.args.self.now.hart.pc (found_of c.in-Some.word.now) (sym (ap (option_map (λ (w : Bor Decoded). found_of w.now)) c.in-Some.is) ∙ c.fetch.ensures))

pub returns-in-Some-clause-over : goal.returns-in-Some-clause-over
returns-in-Some-clause-over g c =
    if_err c.perform.result _
    (λ stop zero. absurd (not_at_zero (map found_of c.deref.result.now) c.args.self.now.hart.pc (found_of c.in-Some.word.now) (sym (ap (option_map (λ (w : Bor Decoded). found_of w.now)) c.in-Some.is) ∙ c.fetch.ensures) zero))
