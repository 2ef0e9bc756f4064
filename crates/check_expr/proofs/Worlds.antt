-- What is kept of the world of the staging within what bodies are typed in, as calls on a part of it leave it.
use Rattle.std.proofs.Common.{◌≡◌, sym, subst}
use Rattle.exotype.specs.World.{StageState, with_store}
use Rattle.check_model.specs.Typing.{TypingState}
use Rattle.check_expr.specs.Keeping.{KeepsStage, KeepsStore}
use Rattle.check_expr.proofs.Keeping.{keeps_store}

-- another world of the staging
pub stage_kept : (w v : TypingState) (stage : StageState) → v ≡ w → KeepsStage v.stage stage → KeepsStage w.stage stage
stage_kept w v stage same kept = subst (λ (x : TypingState). KeepsStage x.stage stage) same kept

-- a world where the store alone is another
pub store_kept : (w v new : StageState) → v ≡ w → new ≡ with_store v new.store → KeepsStore v.store new.store → KeepsStage w new
store_kept w v new same by kept =
    subst (λ (x : StageState). KeepsStage x new) same (subst (λ (x : StageState). KeepsStage v x) (sym by) (keeps_store v new.store kept))
