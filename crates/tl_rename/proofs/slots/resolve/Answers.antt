use Rattle.std.proofs.Common.{◌≡◌, ◌+◌, [], ◌∷◌, ◌++◌, ap, ◌∙◌, arith, suc}
use Rattle.tl_rename.specs.Answers.{found_below}
use Rattle.tl_tree.specs.Arena.{items_of}
use Rattle.tl_rename.proofs.Indexed.{all_found}
use Rattle.tl_rename.proofs.slots.resolve.Goals as goal

pub returns : goal.returns
returns c =
    let e : c.loop-k.k ≡ c.in_ok-len.len = omega (arith, c.loop-k-test.false, c.loop-k.auto.k-end) in
    all_found (items_of c.args.tree.now) c.loop-k.k c.loop-k.binders.items (e ∙ c.in_ok-len.ensures ∙ ap (λ n. suc n.0) c.root.ensures) c.loop-k.invariant.0

pub loop-k-preserved : goal.loop-k-preserved
loop-k-preserved c =
    let one_more : suc c.loop-k.k ≡ c.loop-k.k + 1 = omega arith in (
      c.in_ok-push.ensures.items
          ∙ ap (λ l. l ++ c.in_ok-found.found ∷ []) c.loop-k.invariant.0
          ∙ ap (λ b. found_below (items_of c.args.tree.now) c.loop-k.k ++ b ∷ []) c.in_ok-found.ensures.found
          ∙ ap (found_below (items_of c.args.tree.now)) one_more,
      c.in_ok-found.ensures.indexed,
    )
