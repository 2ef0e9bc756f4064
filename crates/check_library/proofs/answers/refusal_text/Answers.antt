use Rattle.std.proofs.Common.{ℕ, List, codes, ◌++◌, ap, ◌∙◌}
use Rattle.std.specs.Fmt.{decimal}
use Rattle.check_library.proofs.Shortness.{is_short}
use Rattle.check_library.proofs.answers.refusal_text.Goals as goal

pub returns-clause-text : goal.returns-clause-text
returns-clause-text c =
    let a = c.args in
    c.in_ok-format.ensures.ok
    ∙ ap (λ (n : List ℕ). codes "refused: " ++ (n ++ (codes " at " ++ (decimal a.line ++ (codes ":" ++ decimal a.word)))))
    c.kind_name-name.ensures

pub returns-clause-short : goal.returns-clause-short
returns-clause-short c =
    rw (returns-clause-text c) (is_short c.args.kind c.args.line c.args.word c.ranges.line.fits c.ranges.word.fits)
