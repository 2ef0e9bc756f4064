use Rattle.terra_eval.proofs.beginning.given_back.Goals as goal

pub returns-in-GoesOn : goal.returns-in-GoesOn
returns-in-GoesOn c = λ store s. rw c.in-GoesOn.is (c.no_value.ensures store s)

pub returns-in-Breaks : goal.returns-in-Breaks
returns-in-Breaks c = λ store s. rw c.in-Breaks.is (c.no_value-in-Breaks.ensures store s)
