use Rattle.std.proofs.Common.{◌≡◌, [], refl, sym, subst, arith}
use Rattle.std.proofs.lemmas.Grind.{common_steps}
use Rattle.tl_base.specs.Layer.{state, given, at}
use Rattle.stage_form.specs.Stage.{Finished, Exhausted}
use Rattle.stage_form.proofs.Reaching.{reaches_end, reaches_spent, unwinds_spent, leads_first, leads_ended, leads_asked}
use Rattle.stage_form.proofs.Owing.{owe-push, owe-pop, owe-on, begins-held, asks-held, asked-begins, ended-leaves}
use Rattle.stage_form.proofs.staging.run.Goals as goal

pub returns-in-Spent-clause-means : goal.returns-in-Spent-clause-means
returns-in-Spent-clause-means g c =
    let stage = g.S.Stages.stage c.args.stages.now in
    let s = state c.resume.new.world c.resume.new.budget in
    let turn = rw c.in-Spent.is at c.in_ok-resume.ensures.turn in
    let here = reaches_spent stage (g.S.Staged.Layer.rest c.loop.current) (given c.loop.next c.loop.world c.loop.budget) s turn in
    let whole = c.loop.invariant.leads (Exhausted s) (Exhausted s) here (unwinds_spent stage g.S.Staged.Layer.rest c.loop.below.items s) in
    (whole.n, whole.at_n)

pub returns-in-None-clause-means : goal.returns-in-None-clause-means
returns-in-None-clause-means g c =
    let stage = g.S.Stages.stage c.args.stages.now in
    let s = state c.resume.new.world c.resume.new.budget in
    let turn = rw c.in-End.is at c.in_ok-resume.ensures.turn in
    let here = reaches_end stage (g.S.Staged.Layer.rest c.loop.current) (given c.loop.next c.loop.world c.loop.budget) c.in-End.end s turn in
    let none : c.loop.below.items ≡ [] = grind (arith, common_steps) in
    let whole = c.loop.invariant.leads (Finished c.in-End.end s) (Finished c.in-End.end s) here (rw none refl) in
    (whole.n, whole.at_n)

pub returns-in-None-clause-left : goal.returns-in-None-clause-left
returns-in-None-clause-left g c =
    let stages = c.args.stages.now in
    let stage = g.S.Stages.stage stages in
    let begins = g.S.Stages.begins stages in
    let leaves = g.S.Stages.leaves stages in
    let layer = g.S.Staged.Layer in
    let s = state c.resume.new.world c.resume.new.budget in
    let turn = rw c.in-End.is at c.in_ok-resume.ensures.turn in
    let none : c.loop.below.items ≡ [] = grind (arith, common_steps) in
    let first = rw none at c.loop.invariant.waiting.below in
    let left = ended-leaves stage begins leaves layer.rest layer.fits layer.follows layer.keeps c.loop.invariant.waiting.asked c.loop.invariant.waiting.begun c.loop.current (given c.loop.next c.loop.world c.loop.budget) c.in-End.end s c.loop.invariant.waiting.held turn in
    subst (λ q. leaves q c.args.world.now c.in-End.end s.world) (sym first.0) (subst (λ w. leaves c.loop.invariant.waiting.asked w c.in-End.end s.world) (sym first.1) left)

pub loop-preserved-in-Some : goal.loop-preserved-in-Some
loop-preserved-in-Some g c =
    let stages = c.args.stages.now in
    let stage = g.S.Stages.stage stages in
    let begins = g.S.Stages.begins stages in
    let leaves = g.S.Stages.leaves stages in
    let s = state c.resume.new.world c.resume.new.budget in
    let turn = rw c.in-End.is at c.in_ok-resume.ensures.turn in
    let layer = g.S.Staged.Layer in
    let i = c.loop.invariant in
    let left = ended-leaves stage begins leaves layer.rest layer.fits layer.follows layer.keeps i.waiting.asked i.waiting.begun c.loop.current (given c.loop.next c.loop.world c.loop.budget) c.in-End.end s i.waiting.held turn in
    let on = owe-on stage begins leaves layer.rest layer.fits layer.follows layer.keeps g.met.S.Stages.keeps_on c.args.question c.args.world.now c.loop.below.items i.waiting.asked i.waiting.begun (state c.loop.world c.loop.budget) s c.in_ok-resume.ensures.kept c.in_ok-resume.ensures.paid i.waiting.below in
    let last = owe-pop stage begins leaves layer.rest layer.fits layer.follows layer.keeps c.args.question c.args.world.now c.pop.new.self.items i.waiting.asked i.waiting.begun c.in-Some.layer s (rw c.in-Some.ensures.items at on) in
    let waits = last.owes.waits in
    let answered = subst (λ q. leaves q waits.asked.world c.in-End.end s.world) (sym last.asked) (subst (λ w. leaves i.waiting.asked w c.in-End.end s.world) (sym last.there) left) in
    let next = at (stage.answer_of c.in-End.end) s in
    record {
      leads = rw c.answer-next.ensures (leads_ended stage layer.rest c.args.question (state c.args.world.now c.args.budget.now) c.loop.below.items c.pop.new.self.items c.loop.current c.in-Some.layer (given c.loop.next c.loop.world c.loop.budget) c.in-End.end s i.leads c.in-Some.ensures.items turn);
      fits = rw c.answer-next.ensures (waits.fits_next next (g.met.S.Stages.ends_follow stages waits.question waits.asked s c.in-End.end waits.kept waits.paid answered));
      waiting = rw c.answer-next.ensures (record { asked = last.question; begun = last.begun; held = last.owes.held next (c.in-End.end, (refl, answered)); below = last.below });
      kept = g.met.S.Stages.keeps_on c.args.world.now c.loop.world c.resume.new.world i.kept c.in_ok-resume.ensures.kept;
      paid = omega (arith, c.in_ok-resume.ensures.paid, i.paid);
    }

pub loop-preserved : goal.loop-preserved
loop-preserved g c =
    let stages = c.args.stages.now in
    let stage = g.S.Stages.stage stages in
    let begins = g.S.Stages.begins stages in
    let leaves = g.S.Stages.leaves stages in
    let s = state c.resume.new.world c.resume.new.budget in
    let turn = rw c.in-Ask.is at c.in_ok-resume.ensures.turn in
    let goes_on = rw c.in-Ask.is at c.in_ok-resume.ensures.goes_on in
    let layer = g.S.Staged.Layer in
    let i = c.loop.invariant in
    let here = given c.loop.next c.loop.world c.loop.budget in
    let on = owe-on stage begins leaves layer.rest layer.fits layer.follows layer.keeps g.met.S.Stages.keeps_on c.args.question c.args.world.now c.loop.below.items i.waiting.asked i.waiting.begun (state c.loop.world c.loop.budget) s c.in_ok-resume.ensures.kept c.in_ok-resume.ensures.paid i.waiting.below in
    let begin = asked-begins stage begins leaves layer.rest layer.fits layer.follows layer.keeps i.waiting.asked i.waiting.begun c.loop.current here c.in-Ask.asked s i.waiting.held turn in
    let held = asks-held stage begins leaves layer.rest layer.fits layer.follows layer.keeps i.waiting.asked i.waiting.begun c.loop.current c.resume.new.self here c.in-Ask.asked s i.waiting.held turn goes_on in
    record {
      leads = rw c.go-next-in-Ask.ensures (leads_asked stage layer.rest c.args.question (state c.args.world.now c.args.budget.now) c.loop.below.items c.push.new.self.items c.loop.current c.resume.new.self c.start-current-in-Ask.result here c.in-Ask.asked s i.leads c.in_ok-push-in-Ask.ensures.items turn goes_on c.start-current-in-Ask.ensures.means);
      fits = rw c.go-next-in-Ask.ensures (c.start-current-in-Ask.ensures.fits s begin);
      waiting =
          rw c.go-next-in-Ask.ensures (record {
            asked = c.in-Ask.asked;
            begun = s.world;
            held = begins-held stage begins leaves layer.rest layer.fits layer.follows layer.keeps (g.S.Stages.layers_hold stages) c.in-Ask.asked s c.start-current-in-Ask.result begin c.start-current-in-Ask.ensures.means;
            below = rw c.in_ok-push-in-Ask.ensures.items (owe-push stage begins leaves layer.rest layer.fits layer.follows layer.keeps c.args.question c.args.world.now c.loop.below.items i.waiting.asked i.waiting.begun c.resume.new.self s on
                (record { waits = record { question = c.in-Ask.asked; asked = s; fits_next = rw c.in-Ask.is at c.in_ok-resume.ensures.fits_next; kept = g.met.S.Stages.keeps_self c.resume.new.world; paid = omega arith }; held = held }));
          });
      kept = g.met.S.Stages.keeps_on c.args.world.now c.loop.world c.resume.new.world i.kept c.in_ok-resume.ensures.kept;
      paid = omega (arith, c.in_ok-resume.ensures.paid, i.paid);
    }

pub loop-init : goal.loop-init
loop-init g c =
    let stages = c.args.stages.now in
    let stage = g.S.Stages.stage stages in
    let begins = g.S.Stages.begins stages in
    let leaves = g.S.Stages.leaves stages in
    let s = state c.args.world.now c.args.budget.now in
    let layer = g.S.Staged.Layer in
    record {
      leads = rw (c.go-next.ensures, c.new-below.ensures.items) (leads_first stage layer.rest c.args.question s c.start-current.result c.start-current.ensures.means);
      fits = rw c.go-next.ensures (c.start-current.ensures.fits s c.requires);
      waiting =
          rw (c.go-next.ensures, c.new-below.ensures.items) (record {
            asked = c.args.question;
            begun = c.args.world.now;
            held = begins-held stage begins leaves layer.rest layer.fits layer.follows layer.keeps (g.S.Stages.layers_hold stages) c.args.question s c.start-current.result c.requires c.start-current.ensures.means;
            below = (refl, refl);
          });
      kept = g.met.S.Stages.keeps_self c.args.world.now;
      paid = omega arith;
    }
