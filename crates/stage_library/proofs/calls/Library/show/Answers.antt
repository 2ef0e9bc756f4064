use Rattle.std.proofs.Common.{rules}
use Rattle.lua_model.specs.declared.end.LuaEnd.TheVariants.{Done, Raised}
use Rattle.stage_library.proofs.Showing.{ended_alone, spent_alone}
use Rattle.stage_library.proofs.calls.Library.show.Goals as goal

pub returns-in-Values-clause-reads_no_more : goal.returns-in-Values-clause-reads_no_more
returns-in-Values-clause-reads_no_more c = λ s later.
    ended_alone c.args.self.now.call.place c.args.turn s (Done c.in-Values.values) later (search rules)

pub returns-in-Raise-clause-reads_no_more : goal.returns-in-Raise-clause-reads_no_more
returns-in-Raise-clause-reads_no_more c = λ s later.
    ended_alone c.args.self.now.call.place c.args.turn s (Raised c.in-Raise.value c.in-Raise.place) later (search rules)

pub returns-in-Spent-clause-reads_no_more : goal.returns-in-Spent-clause-reads_no_more
returns-in-Spent-clause-reads_no_more c = λ s later.
    rw c.in-Spent.is (spent_alone c.args.self.now.call.place s later)
