use Rattle.std.proofs.Common.{Some, List, sym, ap, ◌∙◌}
use Rattle.tl_base.specs.Layer.{state}
use Rattle.stage_form.specs.Stage.{final_of}
use Rattle.tl_tree.specs.Arena.{items_of}
use Rattle.stage_model.specs.declared.staging.CheckLine.{CheckLine}
use Rattle.stage_model.specs.Staging.{checked_final}
use Rattle.check_sound.specs.Sound.{IsSound}
use Rattle.stage_model.proofs.Outcomes.{stays, exports_behind, checks_behind}
use Rattle.stage_loop.proofs.Sound.{gave_so}
use Rattle.stage_loop.proofs.staging.behind_chunk.Goals as goal

-- a chunk that gave values left a sound world
pub run-requires : goal.run-requires
run-requires c =
    let a = c.args in (
      gave_so a.chunk (IsSound a.staging.now.typing.stage) (sym c.gave_values.ensures ∙ c.if-not-gave_values.false)
          c.requires.sound,
      tt,
    )

pub check_all-requires-clause-sound : goal.check_all-requires-clause-sound
check_all-requires-clause-sound c =
    let a = c.args in
    gave_so a.chunk (IsSound a.staging.now.typing.stage) (sym c.gave_values.ensures ∙ c.if-not-gave_values.false)
    c.requires.sound

pub returns-then-not-gave_values-clause-means : goal.returns-then-not-gave_values-clause-means
returns-then-not-gave_values-clause-means c =
    let a = c.args in
    let s = state a.staging.now a.budget.now in (
      0,
      stays a.mode (items_of a.stages.now.inner.inner.tree.now) a.place a.chunk s
          (sym c.gave_values.ensures ∙ c.if-not-gave_values.true)
          ∙ ap (λ (l : List CheckLine). Some (checked_final l (final_of a.chunk s))) (sym c.requires.none),
    )

pub returns-in-Exports-clause-means : goal.returns-in-Exports-clause-means
returns-in-Exports-clause-means c =
    let a = c.args in
    let items = items_of a.stages.now.inner.inner.tree.now in
    let s = state a.staging.now a.budget.now in
    let ran = c.in_ok-it-in-Exports.ensures.means in
    let it = c.in_ok-it-in-Exports.it in
    let there = state c.run.new.world c.run.new.budget in (
      ran.0,
      rw c.in-Exports.is
          (exports_behind items ran.0 a.place a.chunk s it there (sym c.gave_values.ensures ∙ c.if-not-gave_values.false) ran.1
          ∙ ap (λ (l : List CheckLine). Some (checked_final l (final_of it there))) (sym c.requires.none)),
    )

pub returns-clause-means : goal.returns-clause-means
returns-clause-means c =
    let a = c.args in
    let items = items_of a.stages.now.inner.inner.tree.now in
    let s = state a.staging.now a.budget.now in
    let ran = c.in_ok-it-in-CheckAll.ensures.means in (
      ran.0,
      rw c.in-CheckAll.is
          (checks_behind items ran.0 a.place a.chunk s _ (sym c.gave_values.ensures ∙ c.if-not-gave_values.false) ran.1),
    )
