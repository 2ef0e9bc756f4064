use Rattle.std.proofs.Common.{◌≡◌, refl, sym, ap, ◌∙◌, List, [], ◌∷◌, ◌++◌, Option, Some, None}
use Rattle.tl_base.specs.declared.ids.NodeId.{NodeId}
use Rattle.tl_base.specs.declared.ids.EnvId.{EnvId}
use Rattle.tl_base.specs.declared.ids.TermId.{TermId}
use Rattle.tl_base.specs.declared.machine.Step.TheVariants.{Enter}
use Rattle.tl_tree.specs.Arena.{items_of}
use Rattle.tl_tree.specs.Code.{statements_at}
use Rattle.spec_model.specs.declared.job.Job.TheVariants as jobs
use Rattle.spec_model.specs.Plans.{SpecPlan, block}
use Rattle.spec_model.specs.Statements.{else_of}
use Rattle.spec_machine.specs.declared.frame.BlockThen.TheVariants as of_block
use Rattle.spec_machine.specs.Frames.{last_arm, block_plan}
use Rattle.spec_machine.specs.Kept.{keeps_then}
use Rattle.spec_machine.proofs.Doing.{moved}
use Rattle.tl_base.proofs.Results.{carried}
use Rattle.spec_machine.proofs.Entering.{does_as, entering_goes}
use Rattle.spec_machine.proofs.Pushing.{none_is, block_enters}
use Rattle.spec_machine.proofs.conditions.else_block.Goals as goal

no_block : (o : Option NodeId) → ((n : NodeId) → o ≡ Some n → ⊥) → o ≡ None
no_block None none = refl
no_block (Some n) none = absurd (none n refl)

pub returns-in_default-clause-means : goal.returns-in_default-clause-means
returns-in_default-clause-means c =
    let a = c.args in
    let items = items_of a.tree.now in
    carried _ _ c.last_arm.result c.last_arm.ensures.means (λ step g left.
    does_as items a.frames.now.items (else_of items [] a.otherwise a.env (λ us. last_arm a.last a.arms us)) (last_arm a.last a.arms None)
    a.world.now c.last_arm.new.world left left step
    (ap (λ (o : Option NodeId). else_of items [] o a.env (λ us. last_arm a.last a.arms us)) (no_block a.otherwise c.in_default.not-Some))
    (g items left))

pub returns-in-None-clause-means : goal.returns-in-None-clause-means
returns-in-None-clause-means c =
    let a = c.args in
    let items = items_of a.tree.now in
    let fs = a.frames.now.items in
    let b = c.in-Some.block in
    let w = a.world.now in
    let v = c.new_env.new.world in
    let w2 = c.last_arm-in-None.new.world in
    let inner = c.in_ok-env.env in
    let none = c.new-none.result in
    let go : List TermId → SpecPlan = λ ts. last_arm a.last a.arms (Some ts) in
    let ns : statements_at items b ≡ [] = sym c.block_statements.ensures ∙ none_is c.block_statements.result.now c.in-None.ensures.cases in
    carried _ _ c.last_arm-in-None.result c.last_arm-in-None.ensures.means (λ step g left.
    moved items fs fs (else_of items [] a.otherwise a.env (λ us. last_arm a.last a.arms us))
    (else_of items [] (Some b) a.env (λ us. last_arm a.last a.arms us)) w w w2 left left step
    (ap (λ (o : Option NodeId). else_of items [] o a.env (λ us. last_arm a.last a.arms us)) c.in-Some.is) refl
    (entering_goes items fs fs b a.env inner (λ (e : EnvId). block (statements_at items b) e [] go) w v w2 left left step
    c.in_ok-env.ensures.id c.in_ok-env.ensures.ok
    (does_as items fs (block (statements_at items b) inner [] go) (go none) v w2 left left step
    (ap (λ (l : List NodeId). block l inner [] go) ns ∙ ap go (sym c.new-none.ensures)) (g items left))))

pub returns-in-None-clause-kept : goal.returns-in-None-clause-kept
returns-in-None-clause-kept c =
    carried _ _ c.last_arm-in-None.result c.last_arm-in-None.ensures.kept (λ step k.
    keeps_then c.args.world.now c.new_env.new.world c.last_arm-in-None.new.world c.in_ok-env.ensures.kept k)

pub returns-in_ok-push-in-Some-split_first-clause-means : goal.returns-in_ok-push-in-Some-split_first-clause-means
returns-in_ok-push-in-Some-split_first-clause-means c = λ left.
    let a = c.args in
    let items = items_of a.tree.now in
    let fs = a.frames.now.items in
    let pushed = c.push.new.self.items in
    let b = c.in-Some.block in
    let n = c.in-Some-split_first.first.now in
    let rest = c.in-Some-split_first.rest in
    let w = a.world.now in
    let v = c.new_env.new.world in
    let inner = c.in_ok-env.env in
    let none = c.new-none.result in
    let then = of_block.Else a.last a.arms in
    let step = Enter (jobs.Statement n inner) in
    moved items fs pushed (else_of items [] a.otherwise a.env (λ us. last_arm a.last a.arms us))
    (else_of items [] (Some b) a.env (λ us. last_arm a.last a.arms us)) w w v left left step
    (ap (λ (o : Option NodeId). else_of items [] o a.env (λ us. last_arm a.last a.arms us)) c.in-Some.is) refl
    (entering_goes items fs pushed b a.env inner (λ (e : EnvId). block_plan items (statements_at items b) e [] then) w v v left left step
    c.in_ok-env.ensures.id c.in_ok-env.ensures.ok
    (moved items fs pushed (block_plan items (statements_at items b) inner [] then) (block_plan items (n ∷ rest.now) inner none then)
    v v v left left step
    (ap (λ (l : List NodeId). block_plan items l inner [] then) (sym c.block_statements.ensures ∙ c.in-Some-split_first.ensures.cases.0)
    ∙ ap (λ (ts : List TermId). block_plan items (n ∷ rest.now) inner ts then) (sym c.new-none.ensures)) refl
    (block_enters items fs pushed (n ∷ rest.now) n (record { rest = rest; env = inner; terms = none; then = then }) v left refl
    c.in_ok-push-in-Some-split_first.ensures.items)))
