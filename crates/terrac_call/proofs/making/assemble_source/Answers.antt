use Rattle.std.proofs.Common.{◌<◌, ◌≤◌, length, subst, arith}
use Rattle.std.proofs.lemmas.Result.{IfOk-weaker}
use Rattle.rv_listing.specs.Assembly.{IsFault}
use Rattle.terrac_call.specs.Due.{longest}
use Rattle.terrac_call.specs.Assembled.{IsBad, IsGood, IsLong}
use Rattle.terrac_call.proofs.making.assemble_source.Goals as goal

pub image_due-requires-clause-few : goal.image_due-requires-clause-few
image_due-requires-clause-few c = omega (arith, c.in-Ok.ensures.count.1, c.if-bytes-gt-LONGEST_TEXT.false)

pub returns-in-Ok : goal.returns-in-Ok
returns-in-Ok c =
    let few : length c.args.bytes.now ≤ longest = omega (arith, c.if-bytes-gt-LONGEST_TEXT.false) in
    IfOk-weaker c.image_due.result _ _ (λ due h. IsGood c.in-Ok.words few c.in-Ok.ensures.words h) c.image_due.ensures

pub returns-in-Err-Refused : goal.returns-in-Err-Refused
returns-in-Err-Refused c =
    let few : length c.args.bytes.now ≤ longest = omega (arith, c.if-bytes-gt-LONGEST_TEXT.false) in
    let bad = subst (IsFault c.args.bytes.now) c.in-Err-Refused.field-0-is c.in-Err-Refused.ensures.fault in
    IfOk-weaker c.bad_assembly_due.result _ _ (λ due h. IsBad c.in-Err-Refused.kind c.in-Err-Refused.line few bad h)
    c.bad_assembly_due.ensures

pub returns-then-bytes-gt-LONGEST_TEXT : goal.returns-then-bytes-gt-LONGEST_TEXT
returns-then-bytes-gt-LONGEST_TEXT c =
    let more : longest < length c.args.bytes.now = omega (arith, c.if-bytes-gt-LONGEST_TEXT.true) in
    IfOk-weaker c.syntax_due.result _ _ (λ due h. IsLong more h) c.syntax_due.ensures
