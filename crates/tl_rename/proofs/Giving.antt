-- What is given one after the other.
use Rattle.std.specs.Prelude.{◌≡◌, ℕ, suc, ◌+◌, List, [], ◌∷◌, ◌++◌, length, flat_map, replicate, Some, None, if◌then◌else◌, slice_set}
use Rattle.std.specs.Prelude.{nat_lt}
use Rattle.std.proofs.Common.{refl, sym, ap, ◌∙◌, arith, length-append}
use Rattle.std.proofs.lemmas.List.{length-replicate}
use Rattle.std.proofs.Math.Seq.{set-append_seam}
use Rattle.std.proofs.lemmas.Grind.{replicate_next}
use Rattle.tl_base.specs.declared.ids.NodeId.{NodeId}
use Rattle.tl_tree.specs.declared.scope.Scope.{Scope}
use Rattle.tl_tree.specs.Code.{Items}
use Rattle.tl_tree.specs.Nodes.{last_of}
use Rattle.tl_tree.specs.Scopes.{Part, Standing, Within, within, give, give_below, all_in, in_order, parts_of, parts_if_any, scope_in}
use Rattle.tl_tree.specs.Scopes.{standing_at_first, standing_of, outermost, declared_at, all_declared}

give_append : (limit : ℕ) (standing : Standing) (ps rs : List Part) → give limit standing (ps ++ rs) ≡ give limit (give limit standing ps) rs
give_append limit standing [] rs = refl
give_append limit standing (p ∷ ps) rs =
    give_append limit (if nat_lt p.node.0 limit then slice_set standing p.node.0 (Some p.scope) else standing) ps rs

pub parts_given : (items : Items) (n : NodeId) (scope : Scope) (w : Within) (all : ℕ) (first second third last : Standing)
    → second ≡ give n.0 first (all_in scope w.around)
    → third ≡ give n.0 second (in_order items n (length w.names) w.statements)
    → all ≡ length w.names + length (flat_map (declared_at items) w.statements)
    → last ≡ give n.0 third (all_in (record { owner = n; count = all }) w.behind)
    → last ≡ give n.0 first (parts_of items n scope w)
parts_given items n scope w all first second third last around ordered count behind =
    let counted : all ≡ length (all_declared items w) = count ∙ sym (length-append w.names (flat_map (declared_at items) w.statements)) in
    let before = all_in scope w.around in
    let inner = in_order items n (length w.names) w.statements in
    behind
    ∙ ap (λ k. give n.0 third (all_in (record { owner = n; count = k }) w.behind)) counted
    ∙ ap (λ s. give n.0 s (all_in (record { owner = n; count = length (all_declared items w) }) w.behind))
    (ordered ∙ ap (λ s. give n.0 s inner) around ∙ sym (give_append n.0 first before inner))
    ∙ sym (give_append n.0 first (before ++ inner) (all_in (record { owner = n; count = length (all_declared items w) }) w.behind))

-- ---- one node further

below_step : (items : Items) (k m : ℕ) (standing : Standing) → k ≡ suc m
    → give_below items k standing ≡ give_below items m (give m standing (parts_if_any items (record { 0 = m }) (scope_in standing m)))
below_step items k m standing e = ap (λ j. give_below items j standing) e

pub given_next : (items : Items) (k m : ℕ) (old new end : Standing) (scope : Scope) (w : Within) → k ≡ suc m → scope_in old m ≡ Some scope
    → w ≡ within items (record { 0 = m }) → new ≡ give m old (parts_of items (record { 0 = m }) scope w) → give_below items k old ≡ end → give_below items m new ≡ end
given_next items k m old new end scope w e stands read given h =
    ap (give_below items m)
    (given ∙ ap (λ x. give m old (parts_of items (record { 0 = m }) scope x)) read ∙ ap (λ o. give m old (parts_if_any items (record { 0 = m }) o)) (sym stands))
    ∙ sym (below_step items k m old e) ∙ h

pub none_next : (items : Items) (k m : ℕ) (old end : Standing) → k ≡ suc m → scope_in old m ≡ None → give_below items k old ≡ end → give_below items m old ≡ end
none_next items k m old end e stands h =
    ap (λ o. give_below items m (give m old (parts_if_any items (record { 0 = m }) o))) (sym stands) ∙ sym (below_step items k m old e) ∙ h

pub none_left : (items : Items) (k : ℕ) (old end : Standing) → k ≡ 0 → give_below items k old ≡ end → old ≡ end
none_left items k old end e h = sym (ap (λ j. give_below items j old) e) ∙ h

pub at_first_is : (root : NodeId) (len : ℕ) (front : Standing) → len ≡ suc root.0 → front ≡ replicate root.0 None
    → front ++ Some (record { owner = record { 0 = len }; count = 0 }) ∷ [] ≡ standing_at_first root
at_first_is root len front e h =
    let v : Scope = outermost root in
    let none : Standing = replicate root.0 None in
    let one_more : root.0 + 1 ≡ suc root.0 = omega arith in
    ap (λ l. front ++ Some (record { owner = record { 0 = l }; count = 0 }) ∷ []) e
    ∙ ap (λ l. l ++ Some v ∷ []) h
    ∙ sym (set-append_seam none None [] (Some v))
    ∙ ap (λ i. slice_set (none ++ None ∷ []) i (Some v)) (length-replicate root.0 None)
    ∙ ap (λ l. slice_set l root.0 (Some v)) (sym (replicate_next root.0 None) ∙ ap (λ k. replicate k None) one_more)

pub from_first : (items : Items) (root : NodeId) (k : ℕ) (first : Standing) → root ≡ last_of items → k ≡ suc root.0 → first ≡ standing_at_first root
    → give_below items k first ≡ standing_of items
from_first items root k first r e h =
    ap (λ j. give_below items j first) e ∙ ap (give_below items (suc root.0)) h ∙ ap (λ n. give_below items (suc n.0) (standing_at_first n)) r
