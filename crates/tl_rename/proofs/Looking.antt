-- Searches from the end, and outwards.
use Rattle.std.specs.Prelude.{◌≡◌, ℕ, zero, suc, ◌+◌, ◌<◌, ◌≤◌, Bool, true, false, List, [], ◌∷◌, length, get_or, drop, Option, Some, None}
use Rattle.std.specs.Prelude.{if◌then◌else◌}
use Rattle.std.proofs.Common.{sym, ap, ◌∙◌, arith}
use Rattle.std.proofs.Math.Seq.{drop-cons}
use Rattle.tl_base.specs.declared.ids.NodeId.{NodeId}
use Rattle.tl_tree.specs.declared.scope.Scope.{Scope}
use Rattle.tl_tree.specs.Code.{Items}
use Rattle.tl_tree.specs.Scopes.{Found, Standing, scope_in, or_found, last_found, declared_in, found_from}
use Rattle.tl_tree.proofs.Searching.{nothing_around}

abbrev at_position : ℕ → ℕ → NodeId → Found
at_position depth at d = record { depth = depth; position = at; declaration = d }

abbrev one : Bool → ℕ → ℕ → NodeId → Option Found
one b depth at d = if b then Some (at_position depth at d) else None

here_from : (asked : NodeId → Bool) (depth : ℕ) (d : NodeId) (ds : List NodeId) (at base next : ℕ) → at < length ds → asked (get_or ds at d) ≡ true
    → next ≡ base + at + 1 → last_found asked depth next (drop (suc at) ds) ≡ None → last_found asked depth base ds ≡ Some (at_position depth (base + at) (get_or ds at d))
here_from asked depth d [] at base next lt e n h = absurd (omega (arith, lt))
here_from asked depth d (x ∷ ds) zero base next lt e n h =
    let behind : last_found asked depth (base + 1) ds ≡ None = ap (λ k. last_found asked depth k ds) (omega (arith, n)) ∙ h in
    ap (λ o. or_found o (one (asked x) depth base x)) behind ∙ ap (λ b. one b depth base x) e ∙ ap (λ p. Some (at_position depth p x)) (omega arith)
here_from asked depth d (x ∷ ds) (suc at) base next lt e n h =
    ap (λ o. or_found o (one (asked x) depth base x)) (here_from asked depth d ds at (base + 1) next (omega (arith, lt)) e (omega (arith, n)) h)
    ∙ ap (λ p. Some (at_position depth p (get_or ds at d))) (omega arith)

pub here : (asked : NodeId → Bool) (depth at m : ℕ) (ds : List NodeId) (d : NodeId) → at ≡ suc m → at ≤ length ds → asked (get_or ds m d) ≡ true
    → last_found asked depth at (drop at ds) ≡ None → last_found asked depth 0 ds ≡ Some (record { depth = depth; position = m; declaration = get_or ds m d })
here asked depth at m ds d e le is h =
    here_from asked depth d ds m 0 at (omega (arith, e, le)) is (omega (arith, e)) (ap (λ k. last_found asked depth at (drop k ds)) (sym e) ∙ h)
    ∙ ap (λ p. Some (at_position depth p (get_or ds m d))) (omega arith)

pub before : (asked : NodeId → Bool) (depth at m : ℕ) (ds : List NodeId) (d : NodeId) → at ≡ suc m → at ≤ length ds → asked (get_or ds m d) ≡ false
    → last_found asked depth at (drop at ds) ≡ None → last_found asked depth m (drop m ds) ≡ None
before asked depth at m ds d e le is h =
    let x = get_or ds m d in
    let behind : last_found asked depth (m + 1) (drop (suc m) ds) ≡ None =
    ap (λ k. last_found asked depth k (drop (suc m) ds)) (omega (arith, e)) ∙ ap (λ k. last_found asked depth at (drop k ds)) (sym e) ∙ h in
    ap (last_found asked depth m) (drop-cons ds m d (omega (arith, e, le)))
    ∙ ap (λ o. or_found o (one (asked x) depth m x)) behind ∙ ap (λ b. one b depth m x) is

pub outwards : (items : Items) (standing : Standing) (asked : NodeId → Bool) (owners m depth : ℕ) (scope : Scope) → owners ≡ suc m
    → found_from owners items standing asked depth (Some scope)
    ≡ or_found (last_found asked depth 0 (declared_in items scope)) (found_from m items standing asked (depth + 1) (scope_in standing scope.owner.0))
outwards items standing asked owners m depth scope e = ap (λ k. found_from k items standing asked depth (Some scope)) e

pub placed : (depth p m : ℕ) (d : NodeId) → p ≡ m → Some (at_position depth p d) ≡ Some (at_position depth m d)
placed depth p m d e = ap (λ k. Some (at_position depth k d)) e

pub found_here : (items : Items) (standing : Standing) (asked : NodeId → Bool) (owners m depth : ℕ) (scope : Scope) (last total : Option Found) → (f : Found)
    → owners ≡ suc m → last ≡ last_found asked depth 0 (declared_in items scope) → last ≡ Some f
    → found_from owners items standing asked depth (Some scope) ≡ total → Some f ≡ total
found_here items standing asked owners m depth scope last total f e l s h =
    let rest = found_from m items standing asked (depth + 1) (scope_in standing scope.owner.0) in
    ap (λ o. or_found o rest) (sym s ∙ l) ∙ sym (outwards items standing asked owners m depth scope e) ∙ h

pub found_around : (items : Items) (standing : Standing) (asked : NodeId → Bool) (owners m depth next : ℕ) (scope : Scope) (last total : Option Found) → (outer : Option Scope)
    → owners ≡ suc m → last ≡ last_found asked depth 0 (declared_in items scope) → last ≡ None → next ≡ depth + 1 → outer ≡ scope_in standing scope.owner.0
    → found_from owners items standing asked depth (Some scope) ≡ total → found_from m items standing asked next outer ≡ total
found_around items standing asked owners m depth next scope last total outer e l s n o h =
    ap (λ k. found_from m items standing asked k outer) n
    ∙ ap (found_from m items standing asked (depth + 1)) o
    ∙ ap (λ x. or_found x (found_from m items standing asked (depth + 1) (scope_in standing scope.owner.0))) (sym s ∙ l)
    ∙ sym (outwards items standing asked owners m depth scope e) ∙ h

pub nothing_here : (items : Items) (standing : Standing) (asked : NodeId → Bool) (owners depth : ℕ) (from : Option Scope) (total : Option Found) → from ≡ None
    → found_from owners items standing asked depth from ≡ total → None ≡ total
nothing_here items standing asked owners depth from total e h =
    sym (nothing_around items standing asked owners depth) ∙ ap (found_from owners items standing asked depth) (sym e) ∙ h

pub no_owners : (items : Items) (standing : Standing) (asked : NodeId → Bool) (owners depth : ℕ) (from : Option Scope) (total : Option Found) → owners ≡ 0
    → found_from owners items standing asked depth from ≡ total → None ≡ total
no_owners items standing asked owners depth from total e h = ap (λ k. found_from k items standing asked depth from) (sym e) ∙ h
