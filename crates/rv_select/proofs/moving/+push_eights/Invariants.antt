use Rattle.rv_select.proofs.moving.+push_eights.Given as goal

abbrev pub decreases-push_eights : goal.decreases-push_eights
decreases-push_eights l = l.words
