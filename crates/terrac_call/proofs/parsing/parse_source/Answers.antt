use Rattle.std.proofs.Common.{List, ℕ, ◌≤◌, length, subst}
use Rattle.std.proofs.lemmas.Result.{IfOk-weaker}
use Rattle.terrac_call.specs.Due.{IsReadAs, IsText, IsTextReadAs, longest}
use Rattle.terrac_call.specs.ParsedView.{Shows}
use Rattle.terrac_call.proofs.OneReading.{shows_into}
use Rattle.terrac_call.proofs.parsing.parse_source.Goals as goal

pub returns-in-Ok : goal.returns-in-Ok
returns-in-Ok c =
    let same = c.in-Ok.ensures.same in
    let short : length c.args.source.now ≤ longest = subst (λ (bytes : List ℕ). length bytes ≤ longest) same c.in-Ok.ensures.short in
    IfOk-weaker c.parse_text.result (Shows (IsTextReadAs c.in-Ok.text.now)) (Shows (IsReadAs c.args.source.now))
    (λ x shows. shows_into (IsTextReadAs c.in-Ok.text.now) (IsReadAs c.args.source.now)
    (λ r reads. IsText r short c.in-Ok.ensures.utf8 (subst (λ (bytes : List ℕ). IsTextReadAs bytes r) same reads)) x shows)
    c.parse_text.ensures
