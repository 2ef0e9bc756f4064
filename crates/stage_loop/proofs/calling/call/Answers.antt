use Rattle.std.proofs.Common.{◌≡◌, sym, ◌∙◌, subst}
use Rattle.tl_base.specs.Layer.{state}
use Rattle.terra_term.specs.Stores.{callable_of, contents_of}
use Rattle.exotype.specs.World.{StageState}
use Rattle.stage_model.specs.Calls.{bad_argument_text, not_callable, raised, with_term}
use Rattle.stage_loop.specs.Calls.{passed_to}
use Rattle.stage_loop.proofs.Calls.{bad-argument, may-run, not-callable, stops-as, stops-as-run}
use Rattle.stage_loop.proofs.calling.call.Goals as goal

pub run-requires : goal.run-requires
run-requires c =
    let a = c.args in
    let s = state a.staging.now a.budget.now in
    let passed =
    subst (λ (w : StageState). c.in_ok-passed_to.field-0 ≡ passed_to w.store.types (callable_of (contents_of w.store) a.f) a.arguments.now)
    c.world.ensures c.in_ok-passed_to.ensures in
    may-run a.f a.arguments.now a.place s c.in-Words.words c.requires.ready c.requires.few (sym passed ∙ c.in-Words.is)

pub returns-in-NotCallable-clause-turn : goal.returns-in-NotCallable-clause-turn
returns-in-NotCallable-clause-turn c =
    let a = c.args in
    let s = state a.staging.now a.budget.now in
    let o = callable_of (contents_of a.staging.now.typing.stage.store) a.f in
    let passed =
    subst (λ (w : StageState). c.in_ok-passed_to.field-0 ≡ passed_to w.store.types (callable_of (contents_of w.store) a.f) a.arguments.now)
    c.world.ensures c.in_ok-passed_to.ensures in
    stops-as c.raise.result (state c.raise.new.staging c.raise.new.budget) (with_term o a.f a.arguments.now a.place s) (not_callable a.place s)
    (not-callable a.f a.arguments.now a.place s o (sym passed ∙ c.in-NotCallable.is)) c.raise.ensures.turn

pub returns-in-Bad-clause-turn : goal.returns-in-Bad-clause-turn
returns-in-Bad-clause-turn c =
    let a = c.args in
    let s = state a.staging.now a.budget.now in
    let n = c.in-Bad.position in
    let o = callable_of (contents_of a.staging.now.typing.stage.store) a.f in
    let passed =
    subst (λ (w : StageState). c.in_ok-passed_to.field-0 ≡ passed_to w.store.types (callable_of (contents_of w.store) a.f) a.arguments.now)
    c.world.ensures c.in_ok-passed_to.ensures in
    stops-as c.raise_bad_argument.result (state c.raise_bad_argument.new.staging c.raise_bad_argument.new.budget)
    (with_term o a.f a.arguments.now a.place s) (raised (bad_argument_text n) a.place s)
    (bad-argument a.f a.arguments.now a.place s o n (sym passed ∙ c.in-Bad.is)) c.raise_bad_argument.ensures.turn

pub returns-in-Words-clause-turn : goal.returns-in-Words-clause-turn
returns-in-Words-clause-turn c =
    let a = c.args in
    let s = state a.staging.now a.budget.now in
    let passed =
    subst (λ (w : StageState). c.in_ok-passed_to.field-0 ≡ passed_to w.store.types (callable_of (contents_of w.store) a.f) a.arguments.now)
    c.world.ensures c.in_ok-passed_to.ensures in
    stops-as-run a.f a.arguments.now a.place s c.run.result c.in-Words.words (state c.run.new.staging c.run.new.budget)
    (sym passed ∙ c.in-Words.is) c.run.ensures.turn
