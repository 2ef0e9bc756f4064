use Rattle.std.proofs.Common.{◌<◌, ◌≤◌, length, arith}
use Rattle.std.proofs.lemmas.Result.{IfOk-weaker}
use Rattle.terrac_call.specs.Exec.{IsLong, IsBad, IsImage, longest_image}
use Rattle.terrac_call.proofs.exec.exec.Goals as goal

pub returns-in-Ok : goal.returns-in-Ok
returns-in-Ok c =
    let few : length c.args.bytes.now ≤ longest_image = omega (arith, c.if-bytes-gt-LONGEST_IMAGE.false) in
    IfOk-weaker c.call_image.result _ _ (λ rest is. IsImage c.in-Ok.image few c.in-Ok.ensures.ok is) c.call_image.ensures

pub returns-in_ok-due-in-Err : goal.returns-in_ok-due-in-Err
returns-in_ok-due-in-Err c =
    let few : length c.args.bytes.now ≤ longest_image = omega (arith, c.if-bytes-gt-LONGEST_IMAGE.false) in
    IsBad c.in-Err.error few (c.in-Err.ensures.bad c.in_ok-due-in-Err.ensures.other) c.in_ok-due-in-Err.ensures.due

pub returns-then-bytes-gt-LONGEST_IMAGE : goal.returns-then-bytes-gt-LONGEST_IMAGE
returns-then-bytes-gt-LONGEST_IMAGE c =
    let more : longest_image < length c.args.bytes.now = omega (arith, c.if-bytes-gt-LONGEST_IMAGE.true) in
    IsLong more c.in_ok-due.ensures
