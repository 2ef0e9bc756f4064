use Rattle.std.proofs.Common.{ℕ, List, Some, refl, subst}
use Rattle.rv_machine.specs.Machine.{run_of}
use Rattle.rv_machine.specs.Runs.{Agrees}
use Rattle.rv_machine.specs.Shown.{heap_of, program_of, state_of, taken_of}
use Rattle.stage_loop.proofs.Machines.{ran-so}
use Rattle.stage_loop.proofs.running.run_machine.Goals as goal

pub returns-in_default : goal.returns-in_default
returns-in_default c =
    let a = c.args in
    let loaded = c.in_ok-machine.machine in
    let begun = c.start.new.self in
    let ran = c.run.new.self in
    let not = c.in_default.not-WriteFault in
    let bytes = c.run.new.out.bytes in
    let agrees =
    subst (λ (before : List ℕ). Agrees (run_of (program_of begun) (state_of begun) a.steps) c.run.result (state_of ran) (Some before) (Some bytes))
    c.new-out.ensures (c.run.ensures.run not) in
    ran-so c.images_have_runs.ensures.machines c.images_have_runs.ensures.one c.runs_take_steps.ensures.over c.runs_take_steps.ensures.least
    a.image.now a.address a.arguments.now a.steps (program_of loaded) (heap_of loaded) (state_of loaded) c.requires.few
    c.in_ok-machine.ensures.program c.in_ok-machine.ensures.heap c.in_ok-machine.ensures.state (program_of begun) (state_of begun)
    (taken_of begun) c.run.result (state_of ran) (taken_of ran) bytes
    (record { stop = c.run.result; left = c.register.result; steps = c.steps.result; output = c.into_bytes.result })
    c.start.ensures.program c.start.ensures.state c.start.ensures.taken agrees (c.run.ensures.taken not) c.ranges.steps.fits refl
    c.register.ensures c.steps.ensures c.into_bytes.ensures
