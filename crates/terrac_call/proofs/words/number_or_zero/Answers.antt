use Rattle.terrac_call.proofs.Asking.{number_read, number_unread}
use Rattle.terrac_call.proofs.words.number_or_zero.Goals as goal

pub returns-in-Ok : goal.returns-in-Ok
returns-in-Ok c = number_read c.args.text.now _ c.in-Ok.ensures.value.0.0 c.in-Ok.ensures.value.0.1

pub returns-in-Err : goal.returns-in-Err
returns-in-Err c = number_unread c.args.text.now c.in-Err.ensures.value.0
