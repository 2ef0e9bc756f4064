use Rattle.std.proofs.Common.{ℕ, ◌+◌, Some, List, sym, ap, ◌∙◌, subst}
use Rattle.tl_base.specs.Layer.{state}
use Rattle.tl_tree.specs.Arena.{items_of}
use Rattle.stage_form.specs.Stage.{final_of}
use Rattle.lua_model.specs.declared.job.LuaJob.TheVariants.{Chunk}
use Rattle.stage_library.specs.declared.tasks.Task.TheVariants.{Evaluate}
use Rattle.stage_check.specs.declared.jobs.Job.TheVariants as jobs
use Rattle.stage_check.specs.declared.jobs.Asked.TheVariants as asked
use Rattle.stage_model.specs.declared.staging.End.{End}
use Rattle.stage_model.specs.declared.staging.CheckLine.{CheckLine}
use Rattle.stage_model.specs.Stage.{StagingState}
use Rattle.stage_model.specs.Staging.{ending, end_in, outcome_from, checked_final}
use Rattle.check_sound.specs.Sound.{IsSound}
use Rattle.stage_form.specs.Holding.{OnEnds}
use Rattle.stage_model.proofs.Outcomes.{ending_by, joined}
use Rattle.stage_loop.proofs.Sound.{left_sound}
use Rattle.stage_loop.proofs.staging.stage_from.Goals as goal

pub run-requires : goal.run-requires
run-requires c = (subst (λ (w : StagingState). IsSound w.typing.stage) (sym c.deref_mut.ensures.value) c.requires, tt)

pub behind_chunk-requires-clause-sound : goal.behind_chunk-requires-clause-sound
behind_chunk-requires-clause-sound c =
    let question = asked.Job (jobs.Stage (Evaluate Chunk)) in
    subst (λ (w : StagingState). OnEnds c.in_ok-chunk.chunk (λ _. IsSound w.typing.stage)) (sym c.deref_mut-2.ensures.value)
    (left_sound c.in_ok-chunk.chunk question c.deref_mut.result.now c.run.new.world c.in_ok-chunk.ensures.left)

pub returns-clause-means : goal.returns-clause-means
returns-clause-means c =
    let a = c.args in
    let ran = c.in_ok-chunk.ensures.means in
    let ended = c.in_ok-came.ensures.means in
    let n = ran.0 + ended.0 in
    let items = items_of a.stages.now.inner.inner.tree.now in
    let job = jobs.Stage (Evaluate Chunk) in
    let units = c.new-budget.result in
    let lent = c.deref_mut.result.now in
    let chunk = c.in_ok-chunk.chunk in
    let there = state c.deref_mut-2.result.now c.run.new.budget in
    let out = c.behind_chunk.new.staging in
    let left = c.behind_chunk.new.budget in
    let lines = c.behind_chunk.new.lines.items in
    let kept = c.settle.new.lines.items in
    let closed = c.in_ok-came.came in
    let reached = ran.1 ∙ ap (λ (w : StagingState). Some (final_of chunk (state w c.run.new.budget))) (sym c.deref_mut-2.ensures.value) in
    let end_is = ap (λ (w : StagingState). end_in w.typing.stage.heap closed) (sym c.deref.ensures) ∙ sym c.in_ok-end.ensures in (
      n,
      ap (λ (u : ℕ). outcome_from items a.place a.mode n (state a.staging.value u)) (sym c.new-budget.ensures)
          ∙ ap (λ (w : StagingState). outcome_from items a.place a.mode n (state w units)) (sym c.deref_mut.ensures.value)
          ∙ joined items a.place a.mode ran.0 ended.0 job (state lent units) (final_of chunk there)
          (checked_final lines (final_of closed (state out left))) reached ended.1
          ∙ ap Some (sym (ending_by closed lines out left))
          ∙ ap (λ (l : List CheckLine). Some (ending (end_in out.typing.stage.heap closed) l (state out left))) (sym c.settle.ensures)
          ∙ ap (λ (e : End). Some (ending e kept (state out left))) end_is
          ∙ ap (λ (u : ℕ). Some (ending c.in_ok-end.end kept (state out u))) (sym c.left.ensures),
    )
