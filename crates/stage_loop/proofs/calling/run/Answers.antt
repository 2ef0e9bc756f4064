use Rattle.std.proofs.Common.{ℕ, ◌≤◌, subst}
use Rattle.std.proofs.lemmas.Result.{on_ok_weaker}
use Rattle.tl_base.specs.Layer.{state}
use Rattle.stage_library.proofs.Keeping.{keeps_then}
use Rattle.stage_loop.specs.Calls.{HasRun, left_of}
use Rattle.stage_loop.proofs.Calls.{left-few, stops-as-ended}
use Rattle.stage_loop.proofs.calling.run.Goals as goal

pub finish-requires : goal.finish-requires
finish-requires c =
    let a = c.args in
    let ran = c.in_ok-end.ensures.ran in
    let k = c.requires.term in
    subst (λ (n : ℕ). left_of c.in_ok-end.end ≤ n) c.left.ensures
    (left-few a.staging.now a.f k.body a.words.now c.left.result ran.out a.place c.in_ok-end.end (ran.ends k c.requires.is))

pub returns-clause-turn : goal.returns-clause-turn
returns-clause-turn c =
    let a = c.args in
    let end = c.in_ok-end.end in
    let ran = subst (λ (n : ℕ). HasRun a.staging.now c.run.new.self a.f a.words.now n end) c.left.ensures c.in_ok-end.ensures.ran in
    stops-as-ended c.finish.result (state c.finish.new.staging c.finish.new.budget) a.staging.now c.run.new.self a.f a.words.now a.budget.now
    a.place end ran c.finish.ensures.turn

pub returns-clause-kept : goal.returns-clause-kept
returns-clause-kept c =
    let first = c.args.staging.now.typing.stage in
    let middle = c.run.new.self.typing.stage in
    on_ok_weaker c.finish.result (λ k. keeps_then first middle c.finish.new.staging.typing.stage c.in_ok-end.ensures.kept k) c.finish.ensures.kept
