use Rattle.std.proofs.Common.{◌≡◌, [], map, option_map, unwrap_or, sym, ap, ◌∙◌, rules}
use Rattle.std.proofs.lemmas.Result.{IfOk-weaker}
use Rattle.clap.proofs.WalkLemmas.{raw_values-rows}
use Rattle.clap.specs.Words.{all_of, found_of, rows_of}
use Rattle.terrac_call.specs.JobView.{texts_of}
use Rattle.terrac_call.proofs.words.texts_of.Goals as goal

pub returns-in-Some : goal.returns-in-Some
returns-in-Some c =
    let found : texts_of c.in-Some.texts.now ≡ unwrap_or (all_of c.args.id.now (rows_of (found_of c.args.found.now))) [] =
    ap (λ o. unwrap_or o []) (sym (ap (option_map (λ s. map (λ v. v.now) s.now)) c.in-Some.is) ∙ c.get_raw.ensures
    ∙ raw_values-rows (found_of c.args.found.now) c.args.id.now) in
    IfOk-weaker c.from_slice.result _ _ (λ texts same. ap texts_of same ∙ found) c.from_slice.ensures.items

pub returns-in-None : goal.returns-in-None
returns-in-None c =
    let none : texts_of c.new.result.items ≡ [] = search rules in
    none ∙ ap (λ o. unwrap_or o []) (sym (ap (option_map (λ s. map (λ v. v.now) s.now)) c.in-None.is) ∙ c.get_raw.ensures
    ∙ raw_values-rows (found_of c.args.found.now) c.args.id.now)
