use Rattle.std.proofs.Common.{◌≡◌, List, ◌∷◌, refl, subst}
use Rattle.tl_base.specs.Layer.{given, OnAsk}
use Rattle.stage_form.specs.Within.{given_part, within}
use Rattle.exotype.specs.World.{StageState}
use Rattle.exotype.specs.contracts.world.World.{the_view}
use Rattle.lua_eval.specs.Rest.{lua_rest}
use Rattle.stage_library.proofs.Keeping.{heap_after}
use Rattle.stage_code.specs.Layers.{StageGiven, lua_fitting, turn_within}
use Rattle.stage_code.proofs.Turning.{goes_on, asks}
use Rattle.stage_code.proofs.staged.resume_lua.Goals as goal

pub returns-clause-goes_on : goal.returns-clause-goes_on
returns-clause-goes_on c =
    let first = given c.args.answer (the_view c.world.inside) c.args.budget.now in
    let old = lua_rest c.args.lua.now in
    let rest = lua_rest c.resume.new.self in
    let turn = c.in_ok-turn.ensures in
    rw c.lua_turn.ensures
    (subst
    (λ (w : StageState). OnAsk (turn_within lua_fitting c.in_ok-turn.turn) (λ _. (next : StageGiven) (later : List StageGiven) →
    within lua_fitting old (given c.args.answer w c.args.budget.now) (next ∷ later) ≡ within lua_fitting rest next later))
    c.world.view_is (goes_on lua_fitting old rest first c.in_ok-turn.turn _ turn.turn turn.goes_on))

pub returns-clause-fits_next : goal.returns-clause-fits_next
returns-clause-fits_next c =
    rw c.lua_turn.ensures
    (asks lua_fitting c.in_ok-turn.turn _ _ (λ q fits next other. fits (given_part lua_fitting next) other) c.in_ok-turn.ensures.fits_next)

pub returns-clause-kept : goal.returns-clause-kept
returns-clause-kept c = heap_after _ (the_view c.world.inside) _ c.world.view_is refl c.in_ok-turn.ensures.kept
