use Rattle.std.proofs.Common.{◌+◌, ◌*◌, ◌^◌, ◌≤◌, List, ℕ, length, ap, ◌∙◌, subst, sym, arith}
use Rattle.select_rows.proofs.counted_answer.Goals as goal

pub behind-at-requires : goal.behind-at-requires
behind-at-requires c =
    let near : 65536 + 4 * length c.deref-3.result.now + 256 ≤ 2 ^ 30 =
    subst (λ (ws : List ℕ). 65536 + 4 * length ws + 256 ≤ 2 ^ 30) (sym (c.deref-3.ensures.value ∙ c.in_ok-linked.ensures.words))
    c.in_ok-linked.ensures.near in
    omega (arith, near)

pub push_units-requires : goal.push_units-requires
push_units-requires c =
    let near : 65536 + 4 * length c.deref-3.result.now + 256 ≤ 2 ^ 30 =
    subst (λ (ws : List ℕ). 65536 + 4 * length ws + 256 ≤ 2 ^ 30) (sym (c.deref-3.ensures.value ∙ c.in_ok-linked.ensures.words))
    c.in_ok-linked.ensures.near in
    omega (arith, near, c.behind-at.ensures)
