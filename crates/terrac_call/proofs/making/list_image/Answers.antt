use Rattle.std.proofs.Common.{◌<◌, ◌≤◌, length, arith, Result, Ok, Err}
use Rattle.std.specs.Prelude.{IfOk}
use Rattle.std.proofs.lemmas.Result.{IfOk-weaker}
use Rattle.terrac_call.specs.Exec.{longest_image}
use Rattle.terrac_call.specs.Listed.{IsBad, IsImage, IsLong}
use Rattle.terrac_call.proofs.making.list_image.Goals as goal

both_ok : {T E : Type 0} (r : Result T E) (P Q R : T → Type 0) → ((x : T) → P x → Q x → R x) → IfOk r P → IfOk r Q → IfOk r R
both_ok (Ok x) P Q R f p q = f x p q
both_ok (Err e) P Q R f p q = tt

pub listing_due-requires-clause-short : goal.listing_due-requires-clause-short
listing_due-requires-clause-short c =
    let short = c.loaded_texts_are_short.ensures c.args.bytes.now c.in-Ok.image c.in-Ok.ensures.ok in
    omega (arith, short, c.if-bytes-gt-LONGEST_IMAGE.false)

pub returns-in-Ok : goal.returns-in-Ok
returns-in-Ok c =
    let few : length c.args.bytes.now ≤ longest_image = omega (arith, c.if-bytes-gt-LONGEST_IMAGE.false) in
    IfOk-weaker c.listing_due.result _ _ (λ due h. IsImage c.in-Ok.image h.0 few c.in-Ok.ensures.ok h.1 h.2) c.listing_due.ensures

pub returns-in-Err : goal.returns-in-Err
returns-in-Err c =
    let few : length c.args.bytes.now ≤ longest_image = omega (arith, c.if-bytes-gt-LONGEST_IMAGE.false) in
    both_ok c.refused_due.result _ _ _
    (λ due other is. IsBad c.in-Err.error few (c.in-Err.ensures.bad other) is) c.refused_due.ensures.other c.refused_due.ensures.due

pub returns-then-bytes-gt-LONGEST_IMAGE : goal.returns-then-bytes-gt-LONGEST_IMAGE
returns-then-bytes-gt-LONGEST_IMAGE c =
    let more : longest_image < length c.args.bytes.now = omega (arith, c.if-bytes-gt-LONGEST_IMAGE.true) in
    IfOk-weaker c.bad_image_due.result _ _ (λ due h. IsLong more h) c.bad_image_due.ensures
