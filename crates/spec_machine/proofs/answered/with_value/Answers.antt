use Rattle.std.proofs.Common.{◌-◌}
use Rattle.tl_tree.specs.Arena.{items_of}
use Rattle.spec_model.specs.declared.end.End.TheVariants as ends
use Rattle.spec_machine.proofs.Doing.{returns as returned}
use Rattle.spec_machine.proofs.answered.with_value.Goals as goal

pub returns-in-Found-clause-means : goal.returns-in-Found-clause-means
returns-in-Found-clause-means c =
    let a = c.args in
    rw c.in-Found.is (returned (items_of a.tree.now) a.frames.now.items (ends.Found a.value c.in-Found.place) a.world.now a.budget.now)

pub returns-in_ok-step-in-Member-clause-means : goal.returns-in_ok-step-in-Member-clause-means
returns-in_ok-step-in-Member-clause-means c = rw c.in-Member.is (c.in_ok-step-in-Member.ensures.means (items_of c.args.tree.now))

pub returns-in_ok-step-in-Splice-clause-means : goal.returns-in_ok-step-in-Splice-clause-means
returns-in_ok-step-in-Splice-clause-means c = rw c.in-Splice.is (c.in_ok-step-in-Splice.ensures.means (items_of c.args.tree.now) c.args.frames.now.items)

pub returns-in_ok-step-in-Symbols-clause-means : goal.returns-in_ok-step-in-Symbols-clause-means
returns-in_ok-step-in-Symbols-clause-means c = rw c.in-Symbols.is c.in_ok-step-in-Symbols.ensures.means

pub returns-in_ok-step-in-VarType-clause-means : goal.returns-in_ok-step-in-VarType-clause-means
returns-in_ok-step-in-VarType-clause-means c = rw c.in-VarType.is c.in_ok-step-in-VarType.ensures.means

pub returns-in_ok-step-in-ForName-clause-means : goal.returns-in_ok-step-in-ForName-clause-means
returns-in_ok-step-in-ForName-clause-means c = rw c.in-ForName.is (c.in_ok-step-in-ForName.ensures.means (items_of c.args.tree.now))

pub returns-in_ok-step-in-Spliced-clause-means : goal.returns-in_ok-step-in-Spliced-clause-means
returns-in_ok-step-in-Spliced-clause-means c = rw c.in-Spliced.is c.in_ok-step-in-Spliced.ensures.means

pub returns-in_ok-step-in-ParameterType-clause-means : goal.returns-in_ok-step-in-ParameterType-clause-means
returns-in_ok-step-in-ParameterType-clause-means c = rw c.in-ParameterType.is c.in_ok-step-in-ParameterType.ensures.means

pub returns-in_ok-step-in-Result-clause-means : goal.returns-in_ok-step-in-Result-clause-means
returns-in_ok-step-in-Result-clause-means c = rw c.in-Result.is c.in_ok-step-in-Result.ensures.means

pub returns-in_ok-step-in-Declared-clause-means : goal.returns-in_ok-step-in-Declared-clause-means
returns-in_ok-step-in-Declared-clause-means c = rw c.in-Declared.is (c.in_ok-step-in-Declared.ensures.means c.args.frames.now.items)

pub returns-in_ok-step-in-Path-clause-means : goal.returns-in_ok-step-in-Path-clause-means
returns-in_ok-step-in-Path-clause-means c = rw c.in-Path.is c.in_ok-step-in-Path.ensures.means

pub returns-in_ok-step-in-EntryType-clause-means : goal.returns-in_ok-step-in-EntryType-clause-means
returns-in_ok-step-in-EntryType-clause-means c = rw c.in-EntryType.is c.in_ok-step-in-EntryType.ensures.means
