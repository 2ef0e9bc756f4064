use Rattle.std.proofs.Common.{◌≡◌, ◌↔◌, true, length, sym, ◌∙◌}
use Rattle.std.proofs.lemmas.Bool.{false≢true}
use Rattle.reg_alloc.specs.Right.{IsRight}
use Rattle.reg_alloc.specs.Homes.{AreBlocksRight}
use Rattle.reg_alloc.proofs.Places.{ok-along}
use Rattle.reg_alloc.proofs.Whole.{check-ends, check-fails}
use Rattle.reg_alloc.proofs.check.check_assignment.Goals as goal

pub returns-then-not-is_graph_below : goal.returns-then-not-is_graph_below
returns-then-not-is_graph_below c = (
  λ e. absurd (false≢true e),
  λ r. absurd (check-fails c.args.tac.now c.args.assignment.now c.as_slice-homes.result.now c.deref.result.now c.as_slice-homes.ensures
      (c.deref.ensures.value ∙ c.in_ok-graph.ensures) (sym c.is_graph_below.ensures ∙ c.if-not-is_graph_below.true) r),
)

pub returns : goal.returns
returns c =
    let homes = c.as_slice-homes.result.now in
    let graph = c.deref-3.result.now in
    let row = c.deref-4.result.now in
    ok-along (λ b. (b ≡ true) ↔ AreBlocksRight homes row graph (length graph)) (λ b. (b ≡ true) ↔ IsRight c.args.tac.now c.args.assignment.now) c.are_right_blocks.result
    (λ b answer. check-ends c.args.tac.now c.args.assignment.now homes c.deref.result.now c.deref-2.result.now graph c.in_ok-rows.rows.items row b
    c.as_slice-homes.ensures (c.deref.ensures.value ∙ c.in_ok-graph.ensures) (c.deref-2.ensures.value ∙ c.in_ok-graph.ensures)
    (c.deref-3.ensures.value ∙ c.in_ok-graph.ensures) c.deref-4.ensures.value (sym c.is_graph_below.ensures ∙ c.if-not-is_graph_below.false) c.in_ok-rows.ensures answer)
    c.are_right_blocks.ensures
