use Rattle.rv_select.proofs.accessing.+push_zeros.Given as goal

abbrev pub decreases-push_zeros : goal.decreases-push_zeros
decreases-push_zeros l = l.words
