use Rattle.reg_alloc.specs.Scans.{scan_of}
use Rattle.reg_alloc.proofs.Turns.{IsScanned}
use Rattle.reg_alloc.proofs.scan.scan.Given as goal

abbrev pub invariant-loop-t : goal.invariant-loop-t
invariant-loop-t l = IsScanned l.spans l.order l.t-index 10 (scan_of l.homes.items l.holders.items l.slots)
