use Rattle.std.proofs.Common.{◌≡◌, drop}
use Rattle.terra_meaning.specs.Meaning.{declared_all}
use Rattle.terra_eval.specs.Views.{call_of}
use Rattle.terra_eval.proofs.declaring.declare_all.Given as goal

-- what is left to declare
abbrev pub invariant-loop-i : goal.invariant-loop-i
invariant-loop-i l =
    declared_all (call_of l.call) l.at l.names l.values l.from l.fn.state
    ≡ declared_all (call_of l.call) l.at (drop l.i l.names) (drop l.i l.values) l.number l.state
