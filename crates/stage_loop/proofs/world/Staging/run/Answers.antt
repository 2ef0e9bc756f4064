use Rattle.std.proofs.Common.{sym, ap, ◌∙◌, subst}
use Rattle.std.specs.Prelude.{OnOk}
use Rattle.stage_library.specs.Keeping.{KeepsStaging}
use Rattle.stage_model.specs.Stage.{StagingState}
use Rattle.stage_loop.specs.contracts.world.Staging.{the_view}
use Rattle.stage_loop.specs.Calls.{MayRun}
use Rattle.stage_loop.proofs.Calls.{run-in-parts}
use Rattle.stage_loop.proofs.world.Staging.run.Goals as goal

pub run_in-requires : goal.run_in-requires
run_in-requires c =
    let whole = ap the_view c.self-inside.view_is ∙ c.self.view_is in
    subst (λ (v : StagingState). MayRun v.typing.stage c.args.f c.args.words.now) (sym whole) c.requires

pub returns-clause-ran : goal.returns-clause-ran
returns-clause-ran c =
    let a = c.args in
    let typing = c.self-inside.inside.0.0 in
    let whole = ap the_view c.self-inside.view_is ∙ c.self.view_is in
    run-in-parts c.run_in.result typing.world c.run_in.new.world typing.variables.items c.self-inside.inside.0.1.0.list c.run_in.new.runs.list a.f
    a.words.now a.units a.self.now whole c.run_in.ensures.ran

pub returns-clause-kept : goal.returns-clause-kept
returns-clause-kept c =
    let whole = ap the_view c.self-inside.view_is ∙ c.self.view_is in
    subst (λ (v : StagingState). OnOk c.run_in.result (KeepsStaging v.typing.stage c.run_in.new.world)) whole c.run_in.ensures.kept
