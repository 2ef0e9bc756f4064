use Rattle.std.proofs.Common.{◌≡◌, suc, drop}
use Rattle.terra_meaning.specs.Meaning.{position_of}
use Rattle.terra_eval.proofs.operate.position_of.Given as goal

-- the entries that were passed are others
abbrev pub invariant-loop-entry : goal.invariant-loop-entry
invariant-loop-entry l = record {
  next : l.position ≡ suc l.entry-index;
  passed : position_of l.f l.entries 1 ≡ position_of l.f (drop l.entry-index l.entries) l.position;
}
