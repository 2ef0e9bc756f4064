-- What a call of `run` does, by the run that is defined. A sink that tells its bytes took these before the call and after it.
use Rattle.std.specs.Prelude.{◌≡◌, ℕ, ◌<◌, List, ◌++◌, length, take, Option}
use Rattle.rv_isa.specs.declared.instr.Instr.{Instr}
use Rattle.rv_machine.specs.declared.stops.Stop.{Stop}
use Rattle.rv_machine.specs.declared.stops.Stop.TheVariants.{Unfinished}
use Rattle.rv_machine.specs.Machine.{State, Writes, step, Ran, run_of}
use Rattle.tl_base.specs.Outside.{with_back}

-- The call stopped where the run did, in its state, and the sink took the run's output.
pub record Agrees (ran : Ran) (stop : Stop) (s : State) (before after : Option (List ℕ)) : Type 0 where
  pub stops : ran.stop ≡ stop
  pub stands : ran.state ≡ s
  pub took : after ≡ with_back before ran.output

-- The call came, in fewer than its steps, to an instruction that writes, and stands before it. The sink took the output up to
-- there and a front of that instruction's bytes, and not all of them.
pub record IsBeforeWrite
    (program : List (Option Instr)) (start : State) (steps : ℕ) (s : State) (before after : Option (List ℕ)) : Type 0 where
  pub done : ℕ
  pub fewer : done < steps
  pub output : List ℕ
  pub comes : run_of program start done ≡ record { stop = Unfinished; state = s; output = output }
  pub next : State
  pub bytes : List ℕ
  pub writes : step program s ≡ Writes next bytes
  pub front : ℕ
  pub part : front < length bytes
  pub took : after ≡ with_back before (output ++ take front bytes)
