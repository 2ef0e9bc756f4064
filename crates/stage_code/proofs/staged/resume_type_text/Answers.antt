use Rattle.std.proofs.Common.{[]}
use Rattle.tl_base.specs.Layer.{given}
use Rattle.stage_library.specs.Types.{type_asked}
use Rattle.stage_code.specs.Layers.{library_fitting}
use Rattle.stage_code.proofs.Turning.{stops, reads_no_more, asks}
use Rattle.stage_code.proofs.staged.resume_type_text.Goals as goal

pub returns-clause-turn : goal.returns-clause-turn
returns-clause-turn c =
    let a = c.args in
    let first = given a.answer a.world.now a.budget.now in
    rw c.library_turn.ensures
    (stops library_fitting (type_asked a.of a.place) first c.in_ok-turn.turn _ (c.in_ok-turn.ensures.turn a.answer []))

pub returns-clause-reads_no_more : goal.returns-clause-reads_no_more
returns-clause-reads_no_more c =
    let a = c.args in
    let first = given a.answer a.world.now a.budget.now in
    rw c.library_turn.ensures
    (reads_no_more library_fitting (type_asked a.of a.place) first c.in_ok-turn.turn _ (c.in_ok-turn.ensures.turn a.answer []))

pub returns-clause-ends : goal.returns-clause-ends
returns-clause-ends c =
    rw c.library_turn.ensures (asks library_fitting c.in_ok-turn.turn _ _ (λ q none. none) c.in_ok-turn.ensures.ends)
