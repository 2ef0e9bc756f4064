use Rattle.rv_select.proofs.entries.+push_saved.Given as goal

abbrev pub decreases-push_saved : goal.decreases-push_saved
decreases-push_saved l = l.count
