use Rattle.std.proofs.Common.{◌≡◌, drop}
use Rattle.terra_term.specs.Stores.{contents_of, static_bytes}
use Rattle.terra_eval.proofs.Statics.{bytes_behind}
use Rattle.terra_eval.proofs.program.static_bytes.Given as goal

-- the bytes so far, and those of the statics that are left
abbrev pub invariant-loop-s : goal.invariant-loop-s
invariant-loop-s l = static_bytes (contents_of l.store) ≡ bytes_behind l.bytes.items (drop l.s-index l.held)
