use Rattle.terra_term.proofs.Staying.{trees-kept, typed-trees-kept}
use Rattle.terra_term.proofs.store.Store.trees_stay.Goals as goal

pub returns : goal.returns
returns c = record {
  specialised = trees-kept c.args.self.now.terms c.args.term.now;
  typed = typed-trees-kept c.args.self.now.typed c.args.typed.now;
}
