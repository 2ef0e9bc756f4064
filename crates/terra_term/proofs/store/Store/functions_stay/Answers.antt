use Rattle.terra_term.specs.Held.{state_of, begun, finished, refused}
use Rattle.terra_term.proofs.Staying.{stays-begun, stays-finished, stays-refused, state-stays, defining-stays, declaring-stays}
use Rattle.terra_term.proofs.store.Store.functions_stay.Goals as goal

pub returns : goal.returns
returns c =
    let s = c.args.self.now in
    let f = c.args.f in
    let state = state_of s f in
    record {
      declare = declaring-stays s c.args.of c.args.place;
      define = defining-stays s f c.args.term c.args.place;
      begin_typing = state-stays s f (begun state) (stays-begun state);
      finish_typing = state-stays s f (finished state c.args.term) (stays-finished state c.args.term);
      refuse = state-stays s f (refused state c.args.refusal) (stays-refused state c.args.refusal);
    }
