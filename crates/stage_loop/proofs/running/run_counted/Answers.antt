use Rattle.std.proofs.Common.{refl}
use Rattle.stage_loop.proofs.Compiling.{fault-placed, few-words}
use Rattle.stage_loop.proofs.Ended.{ends-for, took}
use Rattle.stage_loop.proofs.running.run_counted.Goals as goal

pub run_export-requires-clause-few : goal.run_export-requires-clause-few
run_export-requires-clause-few c = few-words c.args.world.now c.args.f c.args.words.now c.requires.may

pub returns-clause-took : goal.returns-clause-took
returns-clause-took c =
    let a = c.args in
    let w = a.world.now in
    let agrees = c.in_ok-image.ensures.is.agrees in
    let may = c.requires.may in
    let placed = fault-placed c.one_counts_right.ensures c.ready_exports_compile.ensures c.faults_have_places.ensures w a.f a.words.now may a.units in
    took w a.f a.words.now a.units may c.in_ok-image.image agrees placed may.term.body.result refl c.in_ok-ran.ran
    (c.in_ok-ran.ensures agrees.symbol agrees.only)

pub returns-clause-ends : goal.returns-clause-ends
returns-clause-ends c = λ k is.
    let a = c.args in
    let w = a.world.now in
    let agrees = c.in_ok-image.ensures.is.agrees in
    let may = c.requires.may in
    let placed = fault-placed c.one_counts_right.ensures c.ready_exports_compile.ensures c.faults_have_places.ensures w a.f a.words.now may a.units in
    ends-for w a.f a.words.now a.units may c.in_ok-image.image agrees placed may.term.body.result refl c.in_ok-ran.ran
    (c.in_ok-ran.ensures agrees.symbol agrees.only) k is c.in_ok-end_in.field-0 (c.in_ok-end_in.ensures may.term may.is)
