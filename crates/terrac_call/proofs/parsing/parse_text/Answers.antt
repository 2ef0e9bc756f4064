use Rattle.std.proofs.Common.{Err, subst}
use Rattle.tl_parse.specs.declared.error.SyntaxError.{SyntaxError}
use Rattle.tl_parse.specs.Whole.{ComesOf}
use Rattle.terrac_call.specs.Due.{HasNone}
use Rattle.terrac_call.proofs.OneReading.{text_tree}
use Rattle.terrac_call.proofs.parsing.parse_text.Goals as goal

pub returns-in-Ok : goal.returns-in-Ok
returns-in-Ok c = text_tree c.args.text.now c.in-Ok.tree c.in-Ok.ensures.only

pub returns-in-Err-Refused : goal.returns-in-Err-Refused
returns-in-Err-Refused c =
    HasNone c.in-Err-Refused.kind c.in-Err-Refused.place
    (subst (λ (e : SyntaxError). ComesOf c.args.text.now (Err e)) c.in-Err-Refused.field-0-is c.in-Err-Refused.ensures.only)
