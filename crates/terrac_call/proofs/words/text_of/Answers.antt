use Rattle.std.proofs.Common.{option_map, sym, ap, ◌∙◌}
use Rattle.clap.proofs.WalkLemmas.{first_value-rows}
use Rattle.clap.specs.Words.{found_of}
use Rattle.terrac_call.specs.Words.{text_or_none}
use Rattle.terrac_call.proofs.words.text_of.Goals as goal

pub returns-in-Some : goal.returns-in-Some
returns-in-Some c = ap text_or_none (sym (ap (option_map (λ s. s.now)) c.in-Some.is) ∙ c.get_str.ensures
    ∙ first_value-rows (found_of c.args.found.now) c.args.id.now)

pub returns-in-None : goal.returns-in-None
returns-in-None c = ap text_or_none (sym (ap (option_map (λ s. s.now)) c.in-None.is) ∙ c.get_str.ensures
    ∙ first_value-rows (found_of c.args.found.now) c.args.id.now)
