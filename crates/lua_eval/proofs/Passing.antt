-- What follows from a call whose result is returned as it is.
use Rattle.std.proofs.Common.{Result, Ok, Err}
use Rattle.std.specs.Prelude.{OnOk}

pub on-any : {T E P : Type 0} (r : Result T E) → P → OnOk r P
on-any (Ok v) fact = fact
on-any (Err e) fact = tt
