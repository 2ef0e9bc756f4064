use Rattle.std.proofs.Common.{◌≡◌, refl, sym, ap, ◌∙◌, List, Some}
use Rattle.tl_base.specs.declared.ids.TermId.{TermId}
use Rattle.tl_base.specs.declared.machine.Step.TheVariants.{Enter}
use Rattle.tl_tree.specs.Arena.{items_of}
use Rattle.terra_term.specs.declared.term.Statement.TheVariants as s
use Rattle.spec_model.specs.declared.job.Job.TheVariants as jobs
use Rattle.spec_model.specs.Plans.{join}
use Rattle.spec_machine.specs.declared.frame.BlockThen.{BlockThen}
use Rattle.spec_machine.specs.declared.frame.BlockThen.TheVariants as of_block
use Rattle.spec_machine.specs.declared.frame.TermFrame.TheVariants as of_term
use Rattle.spec_machine.specs.Frames.{block_then}
use Rattle.spec_machine.proofs.Doing.{moved}
use Rattle.tl_base.proofs.Results.{carried}
use Rattle.spec_machine.proofs.Entering.{does_as}
use Rattle.spec_machine.proofs.Pushing.{term_enters}
use Rattle.spec_machine.proofs.blocks.with_block.Goals as goal

pub returns-in_ok-list-in-Do-clause-means : goal.returns-in_ok-list-in-Do-clause-means
returns-in_ok-list-in-Do-clause-means c =
    let a = c.args in
    let m = c.in-Do in
    let items = items_of a.tree.now in
    let list = c.in_ok-list-in-Do.list in
    carried _ _ c.join.result c.join.ensures.means (λ step g.
    does_as items a.frames.now.items (block_then items a.then a.env a.terms) (join m.place (s.Do list))
    a.world.now c.join.new.world a.budget.now a.budget.now step
    (ap (λ (t : BlockThen). block_then items t a.env a.terms) m.is
    ∙ ap (λ (ts : List TermId). join m.place (s.Do ts)) (sym c.in_ok-list-in-Do.ensures))
    (g items a.budget.now))

pub returns-in_ok-list-in-While-clause-means : goal.returns-in_ok-list-in-While-clause-means
returns-in_ok-list-in-While-clause-means c =
    let a = c.args in
    let m = c.in-While in
    let items = items_of a.tree.now in
    let list = c.in_ok-list-in-While.list in
    carried _ _ c.join-in-While.result c.join-in-While.ensures.means (λ step g.
    does_as items a.frames.now.items (block_then items a.then a.env a.terms) (join m.place (s.While m.test list))
    a.world.now c.join-in-While.new.world a.budget.now a.budget.now step
    (ap (λ (t : BlockThen). block_then items t a.env a.terms) m.is
    ∙ ap (λ (ts : List TermId). join m.place (s.While m.test ts)) (sym c.in_ok-list-in-While.ensures))
    (g items a.budget.now))

pub returns-in_ok-push-in-Repeat-clause-means : goal.returns-in_ok-push-in-Repeat-clause-means
returns-in_ok-push-in-Repeat-clause-means c =
    let a = c.args in
    let m = c.in-Repeat in
    let items = items_of a.tree.now in
    let w = a.world.now in
    let left = a.budget.now in
    moved items a.frames.now.items c.push.new.self.items (block_then items a.then a.env a.terms)
    (block_then items (of_block.Repeat m.condition m.place) a.env a.terms) w w w left left (Enter (jobs.Expression m.condition a.env))
    (ap (λ (t : BlockThen). block_then items t a.env a.terms) m.is) refl
    (term_enters items a.frames.now.items c.push.new.self.items (of_term.Repeat a.terms m.place) m.condition a.env w left
    c.in_ok-push-in-Repeat.ensures.items)

pub returns-in-For-clause-means : goal.returns-in-For-clause-means
returns-in-For-clause-means c =
    let a = c.args in
    let m = c.in-For in
    let items = items_of a.tree.now in
    carried _ _ c.for_statement.result c.for_statement.ensures.means (λ step g.
    does_as items a.frames.now.items (block_then items a.then a.env a.terms)
    (block_then items (of_block.For m.symbol m.at m.bounds m.place) a.env a.terms)
    a.world.now c.for_statement.new.world a.budget.now a.budget.now step
    (ap (λ (t : BlockThen). block_then items t a.env a.terms) m.is) (g items a.budget.now))

pub returns-in-Quoted-clause-means : goal.returns-in-Quoted-clause-means
returns-in-Quoted-clause-means c =
    let a = c.args in
    let m = c.in-Quoted in
    let items = items_of a.tree.now in
    let w = a.world.now in
    carried _ _ c.quoted.result c.quoted.ensures.means (λ step g.
    moved items a.frames.now.items c.quoted.new.frames.items (block_then items a.then a.env a.terms)
    (block_then items (of_block.Quoted m.value m.place) a.env a.terms) w w c.quoted.new.world a.budget.now c.quoted.new.budget step
    (ap (λ (t : BlockThen). block_then items t a.env a.terms) m.is) refl (g items))

pub returns-in-Arm-clause-means : goal.returns-in-Arm-clause-means
returns-in-Arm-clause-means c =
    let a = c.args in
    let m = c.in-Arm in
    let items = items_of a.tree.now in
    let w = a.world.now in
    carried _ _ c.others.result c.others.ensures.means (λ step g.
    moved items a.frames.now.items c.others.new.frames.items (block_then items a.then a.env a.terms)
    (block_then items (of_block.Arm m.test m.frame) a.env a.terms) w w c.others.new.world a.budget.now a.budget.now step
    (ap (λ (t : BlockThen). block_then items t a.env a.terms) m.is) refl (g a.budget.now))

pub returns-in-Else-clause-means : goal.returns-in-Else-clause-means
returns-in-Else-clause-means c =
    let a = c.args in
    let m = c.in-Else in
    let items = items_of a.tree.now in
    carried _ _ c.last_arm.result c.last_arm.ensures.means (λ step g.
    does_as items a.frames.now.items (block_then items a.then a.env a.terms)
    (block_then items (of_block.Else m.arm m.arms) a.env a.terms)
    a.world.now c.last_arm.new.world a.budget.now a.budget.now step
    (ap (λ (t : BlockThen). block_then items t a.env a.terms) m.is) (g items a.budget.now))

pub returns-in-Body-clause-means : goal.returns-in-Body-clause-means
returns-in-Body-clause-means c =
    let a = c.args in
    let m = c.in-Body in
    let items = items_of a.tree.now in
    carried _ _ c.finish.result c.finish.ensures.means (λ step g.
    does_as items a.frames.now.items (block_then items a.then a.env a.terms)
    (block_then items (of_block.Body m.definition m.drawn m.of) a.env a.terms)
    a.world.now c.finish.new.world a.budget.now c.finish.new.budget step
    (ap (λ (t : BlockThen). block_then items t a.env a.terms) m.is) (g items))
