use Rattle.terra_term.proofs.KeptSizes.{sized-typed-by}
use Rattle.terra_term.specs.contracts.store.Store.{the_view}
use Rattle.terra_term.proofs.store.Store.new_typed.Goals as goal

pub invariant_of-self-2 : goal.invariant_of-self-2
invariant_of-self-2 c = (
  c.self.invariant.0,
  sized-typed-by (the_view c.self.inside) _ _ _ _ _ _ c.args.typed _ c.self.invariant.1 c.in_ok-push.ensures.items
      c.deref.ensures.value c.size_typed-size.ensures c.in_ok-reserve.ensures.items c.in_ok-push-2.ensures.items,
  c.self.invariant.2,
)
