use Rattle.std.proofs.Common.{ℕ, ◌+◌, ◌-◌, ◌++◌, ◌∙◌, ap, arith, length, get_or, ◌∷◌, []}
use Rattle.check_flow.specs.declared.mentions.Part.{Part}
use Rattle.check_flow.specs.Parts.{parts_mentions}
use Rattle.check_flow.proofs.Mentioning.{all_more}
use Rattle.check_flow.proofs.mentions.all.Goals as goal

pub terms-preserved : goal.terms-preserved
terms-preserved c = λ w.
    let a = c.args in
    let ts = a.terms.now in
    let n = length ts in
    let part : ℕ → Part =
    λ k. record { term = get_or ts k (record { 0 = 0 }); below = a.below; is_statement = a.is_statement } in
    ap (parts_mentions w) c.in_ok-push.ensures.items
    ∙ ap (λ (k : ℕ). parts_mentions w (c.terms.parts.items ++ part k ∷ [])) (omega arith)
    ∙ all_more w a.is_statement a.below ts (n - (c.terms.place + 1)) (n - c.terms.place) (record { 0 = 0 }) c.terms.parts.items
    (parts_mentions w a.parts.now.items) (omega arith) (omega arith) (c.terms.invariant w)
