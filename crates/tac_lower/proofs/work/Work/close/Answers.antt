use Rattle.std.proofs.Common.{◌≡◌, ◌++◌, ◌∷◌, ap, sym, ◌∙◌, List, take, drop, length, map, arith}
use Rattle.std.proofs.lemmas.Grind.{common_steps}
use Rattle.tac_lower.specs.Items as items
use Rattle.tac_lower.specs.Items.{count_ends, ends}
use Rattle.tac_lower.specs.Data.{item_of, reached, reaching}
use Rattle.tac_lower.specs.Works.{Made}
use Rattle.tac_lower.specs.contracts.work.Work.{the_view}
use Rattle.tac_lower.specs.declared.item.Item.{Item}
use Rattle.tac_lower.proofs.Lines.{count-closed, ended-behind, reached-there}
use Rattle.tac_lower.proofs.work.Work.close.Goals as goal

pub invariant_of-self : goal.invariant_of-self
invariant_of-self c =
    let new = c.close_at.new.code in
    let items = c.self.inside.code.items in
    let back : take c.self.inside.code.len (new ++ drop (length new) items) ≡ new = grind (arith, common_steps) in
    count-closed items c.deref_mut.result.now new c.args.mark.position c.saturating_sub-blocks.result c.self.inside.ended c.self.invariant
    c.deref_mut.ensures.value c.close_at.ensures
    ∙ ap (λ (l : List Item). count_ends (map item_of l)) (sym back)

pub returns : goal.returns
returns c = λ front code e whole place count.
    let s = c.self.inside in
    let view = c.self.view_is in
    let seen : c.args.self.now ≡ the_view s = cc in
    let lines = map item_of s.code.items in
    let p = c.args.mark.position in
    let k = c.saturating_sub-blocks.result in
    let parts : lines ≡ front ++ ends e ∷ code = sym (ap (λ (w : Made). w.code) seen) ∙ whole in
    let blocks : k ≡ count_ends code =
    omega (arith, c.self.invariant, count, ended-behind lines front code e parts, c.saturating_sub.ensures, c.saturating_sub-blocks.ensures) in
    let made : map item_of c.close_at.new.code ≡ front ++ ends (reaching e (count_ends code)) ∷ code =
    c.close_at.ensures ∙ ap (λ (l : List Item). reached (map item_of l) p k) c.deref_mut.ensures.value
    ∙ reached-there lines front code e p k parts place blocks in
    let new = c.close_at.new.code in
    let back : take s.code.len (new ++ drop (length new) s.code.items) ≡ new = grind (arith, common_steps) in
    ap (λ (l : List items.Item). record (the_view s) { code = l }) (ap (λ (l : List Item). map item_of l) back ∙ made)
    ∙ ap (λ (w : Made). record w { code = front ++ ends (reaching e (count_ends code)) ∷ code }) (sym seen)
