use Rattle.std.proofs.Common.{◌∙◌, ℕ, ◌+◌, ◌<◌, ◌≤◌, List, length, sym, subst}
use Rattle.rv_listing.proofs.Assembling.{progress_step, progress_only, progress_refused, left_none, left_some, progress_count, wants_memory}
use Rattle.rv_listing.proofs.assembly.assemble.Goals as goal

pub returns-in_err-push-in-Ok-clause-fault : goal.returns-in_err-push-in-Ok-clause-fault
returns-in_err-push-in-Ok-clause-fault c = wants_memory c.args.source.now c.from_residual.result c.from_residual.ensures.1

pub returns-in-Err-clause-fault : goal.returns-in-Err-clause-fault
returns-in-Err-clause-fault c =
    c.kind_of.ensures c.args.source.now (c.loop-left.line + 1)
    (progress_refused c.args.source.now c.loop-left.left.now c.loop-left.words.items c.loop-left.line c.line_length-end.result c.is_empty-in-loop-left.result
    c.in-Err.error c.loop-left.invariant c.is_empty-in-loop-left.ensures c.loop-left-test.true c.line_length-end.ensures.length c.in-Err.ensures.bad)

pub loop-left-preserved : goal.loop-left-preserved
loop-left-preserved c =
    progress_step c.args.source.now c.loop-left.left.now c.loop-left.words.items c.push.new.self.items c.behind_line-left.result.now c.loop-left.line
    c.in-Ok.word c.line_length-end.result c.is_empty-in-loop-left.result c.read_line.result c.loop-left.invariant
    c.is_empty-in-loop-left.ensures c.loop-left-test.true c.line_length-end.ensures.length c.in-Ok.is c.in-Ok.ensures.small c.in-Ok.ensures.text
    c.read_line.ensures.ok c.in_ok-push-in-Ok.ensures.items c.behind_line-left.ensures

pub returns-clause-all : goal.returns-clause-all
returns-clause-all c words are =
    c.from_vec.ensures ∙ progress_only c.args.source.now c.loop-left.left.now c.loop-left.words.items c.loop-left.line c.loop-left.invariant
    (left_none c.loop-left.left.now c.is_empty-in-loop-left.result c.is_empty-in-loop-left.ensures c.loop-left-test.false) words are.1

pub returns-clause-count : goal.returns-clause-count
returns-clause-count c =
    let counted = progress_count c.args.source.now c.loop-left.left.now c.loop-left.words.items c.loop-left.line c.loop-left.invariant
    (left_none c.loop-left.left.now c.is_empty-in-loop-left.result c.is_empty-in-loop-left.ensures c.loop-left-test.false)
    (left_some c.args.source.now c.is_empty.result c.is_empty.ensures c.if-is_empty.false) in
    subst (λ (l : List ℕ). (0 < length l) × (length l ≤ length c.args.source.now)) (sym c.from_vec.ensures) counted
