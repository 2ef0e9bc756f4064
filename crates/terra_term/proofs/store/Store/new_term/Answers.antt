use Rattle.terra_term.proofs.KeptSizes.{sized-term-by}
use Rattle.terra_term.proofs.store.Store.new_term.Goals as goal

pub invariant_of-self-2 : goal.invariant_of-self-2
invariant_of-self-2 c = (
  c.self.invariant.0,
  sized-term-by _ _ c.self.view_is _ _ _ _ _ _ _ c.args.term _ c.self.invariant.1 c.requires c.in_ok-push.ensures.items
      c.deref.ensures.value c.deref-2.ensures.value c.size_term-size.ensures c.in_ok-reserve.ensures.items
      c.in_ok-push-2.ensures.items,
  c.self.invariant.2,
)
