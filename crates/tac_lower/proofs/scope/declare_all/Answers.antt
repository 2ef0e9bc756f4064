use Rattle.std.proofs.Common.{arith}
use Rattle.std.specs.Option.{option_map}
use Rattle.terra_term.specs.declared.lists.TypedName.{TypedName}
use Rattle.tac_lower.specs.Data.{result_of}
use Rattle.tac_lower.specs.Views.{around_of}
use Rattle.tac_lower.proofs.Turns.{declare-end, declare-later}
use Rattle.tac_lower.proofs.scope.declare_all.Goals as goal

pub loop-i-preserved : goal.loop-i-preserved
loop-i-preserved c =
    let none : TypedName = record { symbol = record { 0 = 0 }; of = record { 0 = 0 } } in
    declare-later (around_of c.args.around.now) c.args.at c.args.names.now c.args.values.now c.loop-i.i c.loop-i.work _ c.loop-i.invariant
    none (option_map result_of c.given_at.result) c.declare.new.work c.loop-i-test.true c.given_at.ensures c.in_ok-declare.ensures

pub returns : goal.returns
returns c =
    declare-end (around_of c.args.around.now) c.args.at c.args.names.now c.args.values.now c.loop-i.i c.loop-i.work _ c.loop-i.invariant (omega arith)
