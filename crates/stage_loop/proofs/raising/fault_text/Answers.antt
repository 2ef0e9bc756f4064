use Rattle.std.proofs.Common.{List, ℕ, ◌++◌, ap, ◌∙◌}
use Rattle.std.specs.Prelude.{codes}
use Rattle.std.specs.Fmt.{decimal}
use Rattle.tl_base.specs.declared.place.Place.{Place}
use Rattle.stage_model.specs.Calls.{kind_text}
use Rattle.stage_loop.proofs.Raises.{fault-is-short, fault-parts}
use Rattle.stage_loop.proofs.raising.fault_text.Goals as goal

pub returns-clause-short : goal.returns-clause-short
returns-clause-short c =
    let place : Place = record { line = c.args.line; word = c.args.word } in
    let behind = codes " at " ++ (decimal place.line ++ (codes ":" ++ decimal place.word)) in
    let same =
    c.in_ok-format.ensures.ok ∙ ap (λ (name : List ℕ). codes "fault " ++ (name ++ behind)) c.kind_name-name.ensures
    ∙ fault-parts (codes "fault ") (kind_text c.args.kind) (codes " at ") (decimal place.line) (codes ":") (decimal place.word) in
    rw same (fault-is-short c.args.kind place c.ranges.line.fits c.ranges.word.fits)
