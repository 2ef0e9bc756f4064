-- What follows from what a call ensures of its result, where that result or what comes of it is returned.
use Rattle.std.specs.Prelude.{Result, Ok, Err, IfOk, OnOk}

pub if-ok : {T E : Type 0} {P Q : T → Type 0} (r : Result T E) → IfOk r P → ((v : T) → P v → Q v) → IfOk r Q
if-ok (Ok v) h go = go v h
if-ok (Err e) h go = h

-- the same with the properties named: the fact comes first, so that it is known where what follows from it is read
pub carried : {T E : Type 0} (P Q : T → Type 0) (r : Result T E) → IfOk r P → ((v : T) → P v → Q v) → IfOk r Q
carried P Q r h go = if-ok r h go

pub on-ok : {T E P Q : Type 0} (r : Result T E) → OnOk r P → (P → Q) → OnOk r Q
on-ok (Ok v) h go = go h
on-ok (Err e) h go = h
