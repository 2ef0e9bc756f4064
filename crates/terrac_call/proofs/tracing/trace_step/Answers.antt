use Rattle.std.proofs.Common.{◌≡◌, ℕ, List, Option, Some, ap, subst, ◌∙◌}
use Rattle.tl_base.specs.Outside.{with_back}
use Rattle.rv_machine.specs.Shown.{program_of, state_of}
use Rattle.terrac_call.specs.Tracing.{Fetched, lines_of}
use Rattle.terrac_call.proofs.TracedRuns.{part_of}
use Rattle.terrac_call.proofs.Traces.{step_bytes}
use Rattle.terrac_call.proofs.tracing.trace_step.Goals as goal

pub returns-in-Ok-clause-whole : goal.returns-in-Ok-clause-whole
returns-in-Ok-clause-whole g c = λ other.
    let program = program_of c.args.machine.now in
    let s = state_of c.args.machine.now in
    let words = c.args.words.now in
    let fetched : Fetched words c.pc-address.result (Some c.in-Some.word) =
    subst (Fetched words c.pc-address.result) c.in-Some.is c.word_at.ensures in
    let bytes : c.bytes.result.now ≡ lines_of program words s c.args.number 1 =
    c.bytes.ensures ∙ step_bytes program words s c.args.number c.pc-address.result c.in-Some.word c.write.new.self c.change_behind.result
    c.run_unheard-stop.result (state_of c.run_unheard-stop.new.machine) c.register_written-register.result c.register.result c.requires
    c.pc-address.ensures fetched c.register_written-register.ensures.register c.register.ensures c.run_unheard-stop.ensures.ended
    c.change_behind.ensures c.write.ensures in
    record {
      took = c.in-Ok.ensures.whole ∙ ap (with_back (g.K.Sink.taken c.args.out.now)) bytes;
      quiet = c.in-Ok.ensures.quiet;
      none = λ none. c.write_piece.ensures.empty (bytes ∙ none);
    }

pub returns-in-Err-clause-cut_off : goal.returns-in-Err-clause-cut_off
returns-in-Err-clause-cut_off g c = λ fault.
    let program = program_of c.args.machine.now in
    let s = state_of c.args.machine.now in
    let words = c.args.words.now in
    let fetched : Fetched words c.pc-address.result (Some c.in-Some.word) =
    subst (Fetched words c.pc-address.result) c.in-Some.is c.word_at.ensures in
    let bytes : c.bytes.result.now ≡ lines_of program words s c.args.number 1 =
    c.bytes.ensures ∙ step_bytes program words s c.args.number c.pc-address.result c.in-Some.word c.write.new.self c.change_behind.result
    c.run_unheard-stop.result (state_of c.run_unheard-stop.new.machine) c.register_written-register.result c.register.result c.requires
    c.pc-address.ensures fetched c.register_written-register.ensures.register c.register.ensures c.run_unheard-stop.ensures.ended
    c.change_behind.ensures c.write.ensures in
    part_of c.bytes.result.now (lines_of program words s c.args.number 1) (g.K.Sink.taken c.args.out.now)
    (g.K.Sink.taken c.write_piece.new.sink) (g.K.Sink.faults c.args.out.now) (g.K.Sink.faults c.write_piece.new.sink) bytes
    c.in-Err.ensures.some c.in-Err.ensures.short
