use Rattle.rv_select.proofs.entries.+push_put_back.Given as goal

abbrev pub decreases-push_put_back : goal.decreases-push_put_back
decreases-push_put_back l = l.count
