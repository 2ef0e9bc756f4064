use Rattle.tl_base.specs.Layer.{given}
use Rattle.stage_library.specs.Library.{library_rest}
use Rattle.stage_code.specs.Layers.{library_fitting}
use Rattle.stage_code.proofs.Turning.{goes_on}
use Rattle.stage_code.proofs.staged.resume_library.Goals as goal

pub returns-clause-goes_on : goal.returns-clause-goes_on
returns-clause-goes_on c =
    let a = c.args in
    let old = library_rest a.library.now in
    let rest = library_rest c.resume.new.self in
    let first = given a.answer a.world.now a.budget.now in
    let turn = c.in_ok-turn.ensures in
    rw c.library_turn.ensures (goes_on library_fitting old rest first c.in_ok-turn.turn _ turn.turn turn.goes_on)
