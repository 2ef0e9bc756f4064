use Rattle.std.proofs.Common.{◌∙◌, arith}
use Rattle.terra_term.proofs.Statics.{end-push}
use Rattle.terra_term.proofs.Finding.{other_put}
use Rattle.terra_term.proofs.store.Store.new_global.Goals as goal

pub invariant_of-self-2 : goal.invariant_of-self-2
invariant_of-self-2 c = (
  record {
    same = rw c.in_ok-push.ensures.items (rw end-push (cc));
    within = omega (arith, c.in-Some.ensures.within);
  },
  c.self.invariant.1,
  record {
    same_texts = c.self.invariant.2.same_texts ∙ other_put _ _ _ _ c.in_ok-push.ensures.items;
    same_ids = c.self.invariant.2.same_ids;
  },
)
