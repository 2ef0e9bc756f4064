use Rattle.lua_eval.proofs.loops.with_loop.Goals as goal

pub returns-in_ok-next-in-Limit-clause-means : goal.returns-in_ok-next-in-Limit-clause-means
returns-in_ok-next-in-Limit-clause-means c = λ items. rw c.in-Limit.is (c.in_ok-next-in-Limit.ensures.means items)

pub returns-in_ok-step-in-Step-clause-means : goal.returns-in_ok-step-in-Step-clause-means
returns-in_ok-step-in-Step-clause-means c =
    λ items. rw c.in-Step.is (c.in_ok-step-in-Step.ensures.means items c.args.frames.now.items)
