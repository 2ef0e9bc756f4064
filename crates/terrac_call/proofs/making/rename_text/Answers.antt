use Rattle.std.proofs.Common.{ap}
use Rattle.std.proofs.lemmas.Result.{IfOk-weaker}
use Rattle.tl_tree.specs.Texts.{Refuses}
use Rattle.tl_tree.specs.Tokens.{finish_of}
use Rattle.terrac_call.specs.Due.{HasNone, HasTree, IsRefused, IsTree, given}
use Rattle.terrac_call.proofs.making.rename_text.Goals as goal

pub returns-in-Ok : goal.returns-in-Ok
returns-in-Ok c =
    let comes = c.in-Ok.ensures.only in
    (IsTree comes.tree (finish_of c.args.text.now), HasTree comes.tree comes.reads, ap given comes.is)

pub returns-in-Err-Refused : goal.returns-in-Err-Refused
returns-in-Err-Refused c =
    let kind = c.in-Err-Refused.kind in
    let place = c.in-Err-Refused.place in
    let refuses : Refuses c.args.text.now kind place = rw c.in-Err-Refused.field-0-is at c.in-Err-Refused.ensures.only in
    IfOk-weaker c.syntax_due.result _ _ (λ due h. (IsRefused kind place, HasNone kind place refuses, h)) c.syntax_due.ensures
