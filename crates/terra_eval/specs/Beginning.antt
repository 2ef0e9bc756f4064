-- How functions begin.
use Rattle.std.specs.Prelude.{suc, List, map}
use Rattle.tl_base.specs.declared.place.Place.{Place}
use Rattle.tl_base.specs.declared.ids.FnId.{FnId}
use Rattle.terra_words.specs.Runs as runs
use Rattle.terra_term.specs.Stores.{contents_of}
use Rattle.terra_meaning.specs.Running.{State, Got}
use Rattle.terra_meaning.specs.Meaning as meanings
use Rattle.terra_meaning.specs.Meaning.{apply}
use Rattle.terra_eval.specs.declared.beginning.Caller.{Caller}
use Rattle.terra_eval.specs.declared.beginning.Begun.{Begun}
use Rattle.terra_eval.specs.Views.{call_from, home_of}

-- what a function gives below its callers
abbrev pub called_from : Caller → FnId → List runs.Value → Place → State → Got runs.Value
called_from c f vs at s = apply (contents_of c.store.now) c.entries.now (suc c.turns) c.depth c.top f vs at s

-- the call that is in progress in a function that has begun
abbrev pub call_in : Caller → Begun → meanings.Call
call_in c b = record {
  store = contents_of c.store.now;
  entries = c.entries.now;
  call = call_from (contents_of c.store.now) c.entries.now c.turns c.depth b.base;
  base = b.base;
  homes = map home_of b.homes.items;
  turns = suc c.turns;
}
