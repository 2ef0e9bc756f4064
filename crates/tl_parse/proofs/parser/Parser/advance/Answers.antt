use Rattle.std.proofs.Common.{sym, ap, ◌∙◌}
use Rattle.tl_base.specs.declared.place.Place.{Place}
use Rattle.tl_parse.specs.declared.error.SyntaxError.TheVariants as errors
use Rattle.tl_parse.proofs.Taking.{takes, bars, barred_next_is, next_place}
use Rattle.tl_parse.proofs.parser.Parser.advance.Goals as goal

pub returns-in-Some-clause-err : goal.returns-in-Some-clause-err
returns-in-Some-clause-err c =
    bars c.args.opens c.args.levels c.args.usage c.args.self.now c.in-Some.kind (errors.Refused c.in-Some.kind c.args.self.now.current.place) (ap (λ (p : Place). errors.Refused c.in-Some.kind p) (next_place c.args.self.now c.requires.next))
    (barred_next_is c.args.self.now c.args.opens c.args.levels c.args.usage c.requires.next c.requires.sized ∙ sym c.bar.ensures ∙ c.in-Some.is)

pub returns-in-None-clause-ok : goal.returns-in-None-clause-ok
returns-in-None-clause-ok c =
    takes c.args.opens c.args.levels c.args.usage c.args.self.now c.next.new.self c.next.result c.next.ensures
    (barred_next_is c.args.self.now c.args.opens c.args.levels c.args.usage c.requires.next c.requires.sized ∙ sym c.bar.ensures ∙ c.in-None.is)
