use Rattle.terra_term.proofs.KeptSizes.{typed-found, typed-absent}
use Rattle.terra_term.proofs.store.Store.size_of_typed.Goals as goal

pub returns-in-Some : goal.returns-in-Some
returns-in-Some c =
    typed-found _ _ c.self.view_is _ _ c.args.typed _ _ c.self.invariant.1.of_typed c.deref.ensures.value
    c.in-Some.ensures.lookup.3.0 c.in-Some.ensures.lookup.1 c.size.ensures

pub returns-in-None : goal.returns-in-None
returns-in-None c =
    typed-absent _ _ c.self.view_is _ _ c.args.typed c.self.invariant.1.of_typed c.deref.ensures.value
    c.in-None.ensures.lookup.3
