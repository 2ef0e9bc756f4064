use Rattle.std.proofs.Common.{sym, ap, ◌∙◌, codes}
use Rattle.std.specs.Fmt.{decimal}
use Rattle.terrac_call.specs.Run.{front_of}
use Rattle.terrac_call.proofs.Sources.{five_joined}
use Rattle.terrac_call.proofs.source.front_of.Goals as goal

pub returns-in_ok-format-in-Some : goal.returns-in_ok-format-in-Some
returns-in_ok-format-in-Some c =
    c.in_ok-format-in-Some.ensures.ok
    ∙ five_joined (codes "gen ") (decimal c.in-Some.count) (codes " functions ") (decimal c.args.functions) (codes " ")
    ∙ ap (λ generated. front_of generated c.args.functions) (sym c.in-Some.is)
