use Rattle.rv_machine.specs.Shown.{program_of, heap_of, state_of}
use Rattle.terrac_call.specs.JobView.{shown_manner}
use Rattle.terrac_call.proofs.Readies.{ready_due, text_kept}
use Rattle.terrac_call.proofs.exec.ready.Goals as goal

pub returns : goal.returns
returns c =
    ready_due c.args.image.now c.args.symbol.now c.args.values.now (shown_manner c.args.manner.now) c.requires.few
    (program_of c.in_ok-machine.machine) (program_of c.start.new.self) (heap_of c.in_ok-machine.machine)
    (state_of c.in_ok-machine.machine) (state_of c.start.new.self) c.in_ok-machine.ensures.program c.in_ok-machine.ensures.heap
    c.in_ok-machine.ensures.state c.start.ensures.program c.start.ensures.state _ _ _ c.in_ok-file.ensures c.in_ok-front.ensures.ok
    c.in_ok-words.ensures

pub invariant_of-result-clause-text : goal.invariant_of-result-clause-text
invariant_of-result-clause-text c =
    text_kept c.args.manner.now.traced c.args.image.now _ _ _ c.in_ok-machine.ensures.program c.start.ensures.program c.in_ok-words.ensures
