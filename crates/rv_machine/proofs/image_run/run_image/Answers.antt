use Rattle.rv_machine.specs.Shown.{program_of, heap_of, state_of}
use Rattle.rv_machine.proofs.ImageRuns.{ran_image, ran_to_write}
use Rattle.rv_machine.proofs.image_run.run_image.Goals as goal

pub returns-clause-run : goal.returns-clause-run
returns-clause-run g c =
    λ other. ran_image c.args.image.now c.args.address c.args.arguments.now c.args.steps (heap_of c.in_ok-machine.machine) c.requires.arguments (program_of c.in_ok-machine.machine) (program_of c.start.new.self) (state_of c.in_ok-machine.machine) (state_of c.start.new.self) (state_of c.run.new.self) c.in_ok-machine.ensures.program c.in_ok-machine.ensures.heap c.in_ok-machine.ensures.state c.start.ensures.program c.start.ensures.state _ _ c.run.result (c.run.ensures.run other) _ (c.run.ensures.unwritten other)

pub returns-clause-fault : goal.returns-clause-fault
returns-clause-fault g c =
    λ is. ran_to_write c.args.image.now c.args.address c.args.arguments.now c.args.steps (heap_of c.in_ok-machine.machine) c.requires.arguments (program_of c.in_ok-machine.machine) (program_of c.start.new.self) (state_of c.in_ok-machine.machine) (state_of c.start.new.self) (state_of c.run.new.self) c.in_ok-machine.ensures.program c.in_ok-machine.ensures.heap c.in_ok-machine.ensures.state c.start.ensures.program c.start.ensures.state _ _ (c.run.ensures.fault is)
