use Rattle.std.proofs.Common.{◌+◌, Some, sym, ap, ◌∙◌, subst, arith}
use Rattle.std.proofs.lemmas.List.{get_or_default}
use Rattle.std.proofs.lemmas.Option.{slice_get-get_or}
use Rattle.reg_alloc.specs.Noted.{HasUses}
use Rattle.reg_alloc.proofs.Covering.{uses-none, uses-turn, short-place}
use Rattle.reg_alloc.proofs.spans.uses_of.Goals as goal

pub note_block-requires : goal.note_block-requires
note_block-requires c =
    let graph = c.args.graph.now in
    let b = c.loop-b.b in
    let block = c.index-graph-b.result in
    let there = slice_get-get_or graph b block c.loop-b-test.true ∙ ap Some (sym c.index-graph-b.is) in
    short-place graph b block c.args.places.now.begins.items c.args.places.now.exits.items c.args.places.now.count c.index.result.now there
    (c.index.ensures ∙ get_or_default c.args.places.now.begins.items b c.index.result.now 0 (omega (arith, c.requires.begins_long, c.loop-b-test.true))) c.requires

pub loop-b-init : goal.loop-b-init
loop-b-init c = uses-none c.args.graph.now c.args.count c.in_ok-spans.spans.items c.in_ok-spans.ensures

pub loop-b-preserved : goal.loop-b-preserved
loop-b-preserved c =
    let graph = c.args.graph.now in
    let b = c.loop-b.b in
    let block = c.index-graph-b.result in
    let there = slice_get-get_or graph b block c.loop-b-test.true ∙ ap Some (sym c.index-graph-b.is) in
    let begin = c.index.ensures ∙ get_or_default c.args.places.now.begins.items b c.index.result.now 0 (omega (arith, c.requires.begins_long, c.loop-b-test.true)) in
    subst (λ v. HasUses graph c.args.count (b + 1) v) (sym c.note_block.ensures)
    (uses-turn graph c.args.count b c.index.result.now block c.loop-b.spans.items there (begin ∙ c.requires.begins_are b c.loop-b-test.true) c.loop-b.invariant)
