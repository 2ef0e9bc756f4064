use Rattle.std.proofs.Common.{◌≡◌, drop}
use Rattle.reg_alloc.specs.Noted.{live_noted}
use Rattle.reg_alloc.proofs.spans.note_live.Given as goal

abbrev pub invariant-loop-b : goal.invariant-loop-b
invariant-loop-b l =
    live_noted (drop l.b-index l.found) l.t l.begins l.exits l.before l.spans.items
    ≡ live_noted l.found l.t l.begins l.exits l.before l.initial.spans.items
