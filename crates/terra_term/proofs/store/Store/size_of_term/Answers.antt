use Rattle.terra_term.proofs.KeptSizes.{term-found, term-absent}
use Rattle.terra_term.proofs.store.Store.size_of_term.Goals as goal

pub returns-in-Some : goal.returns-in-Some
returns-in-Some c =
    term-found _ _ c.self.view_is _ _ _ c.args.term _ _ c.self.invariant.1.of_typed c.self.invariant.1.of_terms
    c.deref.ensures.value c.in-Some.ensures.lookup.3.0 c.in-Some.ensures.lookup.1 c.size.ensures

pub returns-in-None : goal.returns-in-None
returns-in-None c =
    term-absent _ _ c.self.view_is _ _ _ c.args.term c.self.invariant.1.of_typed c.self.invariant.1.of_terms
    c.deref.ensures.value c.in-None.ensures.lookup.3
