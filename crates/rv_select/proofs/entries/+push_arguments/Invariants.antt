use Rattle.rv_select.proofs.entries.+push_arguments.Given as goal

abbrev pub decreases-push_arguments : goal.decreases-push_arguments
decreases-push_arguments l = l.count
