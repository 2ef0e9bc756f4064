use Rattle.std.proofs.Common.{◌+◌, drop, sym, ap, ◌∙◌, arith}
use Rattle.std.proofs.lemmas.List.{take_rest, length-take-le, length-drop}
use Rattle.tl_lex.specs.Brackets.{closing_place}
use Rattle.tl_lex.proofs.BracketLemmas.{closing_bounds}
use Rattle.tl_lex.proofs.brackets.inside_at.Goals as goal

pub slice_bounds-result-end : goal.slice_bounds-result-end
slice_bounds-result-end c =
    let rest = take_rest c.args.bytes.now (c.args.level + 2) in
    let e = sym (c.in-Some.ensures ∙ ap (closing_place c.args.level) rest) in
    let b = closing_bounds c.args.level (drop (c.args.level + 2) c.args.bytes.now) c.in-Some.len e in
    rw rest (sym (length-take-le c.in-Some.len (drop (c.args.level + 2) c.args.bytes.now) (omega (arith, b.0))))

pub returns-in-Some-clause-within : goal.returns-in-Some-clause-within
returns-in-Some-clause-within c =
    let rest = take_rest c.args.bytes.now (c.args.level + 2) in
    let e = sym (c.in-Some.ensures ∙ ap (closing_place c.args.level) rest) in
    let b = closing_bounds c.args.level (drop (c.args.level + 2) c.args.bytes.now) c.in-Some.len e in
    let t = length-take-le c.in-Some.len (drop (c.args.level + 2) c.args.bytes.now) (omega (arith, b.0)) in
    rw rest (omega (arith, b.0, t, length-drop (c.args.level + 2) c.args.bytes.now))
