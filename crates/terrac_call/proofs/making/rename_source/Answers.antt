use Rattle.std.proofs.Common.{List, ℕ, ◌≤◌, length, subst}
use Rattle.std.proofs.lemmas.Result.{IfOk-weaker}
use Rattle.terrac_call.specs.Due.{IsReadingDue, IsRefused, IsText, IsTextReadAs, longest, nowhere}
use Rattle.terrac_call.specs.DueView.{shown_due}
use Rattle.terrac_call.specs.Rename.{IsTreeDue}
use Rattle.terrac_call.proofs.making.rename_source.Goals as goal

pub returns-in-Ok : goal.returns-in-Ok
returns-in-Ok c =
    let same = c.in-Ok.ensures.same in
    let short : length c.args.bytes.now ≤ longest = subst (λ (bytes : List ℕ). length bytes ≤ longest) same c.in-Ok.ensures.short in
    IfOk-weaker c.rename_text.result _ _
    (λ due h. (
      h.0,
      IsText h.0 short c.in-Ok.ensures.utf8 (subst (λ (bytes : List ℕ). IsTextReadAs bytes h.0) same h.1),
      subst (λ (bytes : List ℕ). IsReadingDue (IsTreeDue bytes) h.0 (shown_due due)) same h.2,
    ))
    c.rename_text.ensures

pub returns-in-Err : goal.returns-in-Err
returns-in-Err c =
    IfOk-weaker c.syntax_due.result _ _ (λ due h. (IsRefused c.in-Err.kind nowhere, c.in-Err.ensures.refused, h)) c.syntax_due.ensures
