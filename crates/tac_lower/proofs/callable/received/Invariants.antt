use Rattle.std.proofs.Common.{◌≡◌, ◌++◌, drop}
use Rattle.tac_lower.specs.Lowering.{received}
use Rattle.tac_lower.proofs.callable.received.Given as goal

-- where the parameters so far go, and what is left
abbrev pub invariant-loop-name : goal.invariant-loop-name
invariant-loop-name l = record {
  result : (received l.types l.names l.fn.work.used).result ≡ l.parameters.items ++ (received l.types (drop l.name-index l.names) l.work.used).result;
  work : record l.fn.work { used = (received l.types l.names l.fn.work.used).used }
      ≡ record l.work { used = (received l.types (drop l.name-index l.names) l.work.used).used };
}
