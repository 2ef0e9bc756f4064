use Rattle.std.proofs.Common.{◌≡◌, ◌+◌, ◌<◌, List, [], ◌∷◌, ◌++◌, length, refl, sym, ap, ◌∙◌, Some, None, arith, rules, option_to_list}
use Rattle.std.proofs.lemmas.List.{length-append}
use Rattle.spec_machine.specs.Frames.{last_arm}
use Rattle.spec_machine.specs.Kept.{keeps_then}
use Rattle.spec_machine.proofs.Arms.{arms_begin, arms_turn, arms_end}
use Rattle.spec_machine.proofs.conditions.last_arm.Goals as goal

pub arms-init : goal.arms-init
arms-init c =
    let a = c.args in
    record {
      runs = arms_begin a.last a.arms a.otherwise c.in_ok-made.made a.world.now c.arm_statement.new.world c.in_ok-made.ensures.means;
      kept = c.in_ok-made.ensures.kept;
    }

pub arms-preserved : goal.arms-preserved
arms-preserved c =
    let a = c.args in
    let l = c.arms in
    let u = c.arm_statement-in-Some.new.world in
    record {
      runs = arms_turn (last_arm a.last a.arms a.otherwise) l.arms c.pop.new.self c.in-Some.arm c.in_ok-behind.behind l.made
          c.in_ok-made-2.made a.world.now l.world u l.invariant.runs (c.pop.ensures.items ∙ ap (λ o. c.pop.new.self ++ option_to_list o) c.in-Some.is)
          c.in_ok-behind.ensures c.in_ok-made-2.ensures.means;
      kept = keeps_then a.world.now l.world u l.invariant.kept c.in_ok-made-2.ensures.kept;
    }

pub returns-clause-means : goal.returns-clause-means
returns-clause-means c = λ items left fs.
    let a = c.args in
    let l = c.arms in
    arms_end items fs (last_arm a.last a.arms a.otherwise) l.arms l.made c.in_ok-terms.terms a.world.now l.world left l.invariant.runs
    (search rules) (c.in_ok-terms.ensures ∙ c.in_ok-row.ensures)
