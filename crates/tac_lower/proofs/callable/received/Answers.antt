use Rattle.std.proofs.Common.{arith}
use Rattle.terra_term.specs.declared.lists.TypedName.{TypedName}
use Rattle.tac_lower.proofs.Receiving.{received-all, received-result, received-work}
use Rattle.tac_lower.proofs.callable.received.Goals as goal

pub loop-name-preserved : goal.loop-name-preserved
loop-name-preserved c =
    let none : TypedName = record { symbol = record { 0 = 0 }; of = record { 0 = 0 } } in
    let so_far = c.loop-name.invariant in
    record {
      result = received-result c.args.types.now c.args.names.now c.loop-name.name-index c.loop-name.work _ _ c.loop-name.parameters.items
          so_far.result so_far.work none c.destination.new.work c.in_ok-to.to c.push.new.self.items c.loop-name-test.true
          c.in_ok-to.ensures.0 c.in_ok-to.ensures.1 c.in_ok-push.ensures.items;
      work = received-work c.args.types.now c.args.names.now c.loop-name.name-index c.loop-name.work _ _ c.loop-name.parameters.items
          so_far.result so_far.work none c.destination.new.work c.loop-name-test.true c.in_ok-to.ensures.1;
    }

pub returns-clause-parameters : goal.returns-clause-parameters
returns-clause-parameters c =
    (received-all c.args.types.now c.args.names.now c.loop-name.name-index c.loop-name.work _ _ c.loop-name.parameters.items
    c.loop-name.invariant.result c.loop-name.invariant.work (omega arith)).0

pub returns-clause-work : goal.returns-clause-work
returns-clause-work c =
    (received-all c.args.types.now c.args.names.now c.loop-name.name-index c.loop-name.work _ _ c.loop-name.parameters.items
    c.loop-name.invariant.result c.loop-name.invariant.work (omega arith)).1
