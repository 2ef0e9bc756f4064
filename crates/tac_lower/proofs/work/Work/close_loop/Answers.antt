use Rattle.std.proofs.Common.{◌≡◌, ◌++◌, ap, sym, ◌∙◌, List, take, drop, length, map, arith}
use Rattle.std.proofs.lemmas.Grind.{common_steps}
use Rattle.tac_lower.specs.Items.{count_ends}
use Rattle.tac_lower.specs.Data.{item_of}
use Rattle.tac_lower.specs.declared.item.Item.{Item}
use Rattle.tac_lower.proofs.Lines.{count-left}
use Rattle.tac_lower.proofs.work.Work.close_loop.Goals as goal

pub invariant_of-self : goal.invariant_of-self
invariant_of-self c =
    let new = c.leave_loop.new.code in
    let items = c.self.inside.code.items in
    let back : take c.self.inside.code.len (new ++ drop (length new) items) ≡ new = grind (arith, common_steps) in
    count-left items c.deref_mut.result.now new c.args.mark.position c.self.inside.ended c.self.invariant c.deref_mut.ensures.value c.leave_loop.ensures
    ∙ ap (λ (l : List Item). count_ends (map item_of l)) (sym back)
