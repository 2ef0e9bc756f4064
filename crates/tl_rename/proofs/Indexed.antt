-- What is listed for each node.
use Rattle.std.specs.Prelude.{◌≡◌, ℕ, zero, suc, ◌+◌, ◌<◌, ◌≤◌, Bool, true, false, ltb, pred, List, [], ◌∷◌, length, get_or, take, Option}
use Rattle.std.specs.Prelude.{None}
use Rattle.std.proofs.Common.{refl, sym, ap, ◌∙◌, arith, length-append}
use Rattle.std.proofs.lemmas.Bool.{ltb-true, ltb-false}
use Rattle.std.proofs.lemmas.List.{get_or_append_left, get_or_past, take_all}
use Rattle.std.proofs.Math.Seq.{get_or-append_seam}
use Rattle.tl_base.specs.declared.ids.NodeId.{NodeId}
use Rattle.tl_tree.specs.declared.scope.Scope.{Scope}
use Rattle.tl_tree.specs.Code.{Items}
use Rattle.tl_tree.specs.Nodes.{item_at, last_of, absent_item}
use Rattle.tl_tree.specs.Scopes.{Found, declarations, declared_in, binder, all_declared, within_item, found_for, standing_of, scope_at}
use Rattle.tl_rename.specs.Counted.{declared_below}
use Rattle.tl_rename.specs.Answers.{found_below}

-- ---- lists by number

pub declared_length : (items : Items) (k : ℕ) → length (declared_below items k) ≡ k
declared_length items zero = refl
declared_length items (suc k) =
    length-append (declared_below items k) (declarations items (record { 0 = k }) ∷ []) ∙ ap (λ n. n + 1) (declared_length items k) ∙ omega arith

declared_by : (items : Items) (k o : ℕ) (d : List NodeId) → o < suc k → (b : Bool) → ltb o k ≡ b
    → (o < k → get_or (declared_below items k) o d ≡ declarations items (record { 0 = o })) → get_or (declared_below items (suc k)) o d ≡ declarations items (record { 0 = o })
declared_by items k o d lt true e h =
    let below : o < k = ltb-true o k e in
    get_or_append_left (declared_below items k) (declarations items (record { 0 = k }) ∷ []) d o (omega (arith, below, declared_length items k)) ∙ h below
declared_by items k o d lt false e h =
    let same : o ≡ k = omega (arith, lt, ltb-false o k e) in
    ap (λ i. get_or (declared_below items (suc k)) i d) (same ∙ sym (declared_length items k))
    ∙ get_or-append_seam (declared_below items k) (declarations items (record { 0 = k })) [] d
    ∙ ap (λ i. declarations items (record { 0 = i })) (sym same)

pub declared_there : (items : Items) (k o : ℕ) (d : List NodeId) → o < k → get_or (declared_below items k) o d ≡ declarations items (record { 0 = o })
declared_there items zero o d lt = absurd (omega (arith, lt))
declared_there items (suc k) o d lt = declared_by items k o d lt (ltb o k) refl (declared_there items k o d)

le_root : (k n : ℕ) → suc (pred k) ≤ n → k ≤ n
le_root zero n h = omega arith
le_root (suc k) n h = h

-- a node past the end is absent
absent : (items : Items) (n : ℕ) → suc (last_of items).0 ≤ n → item_at items (record { 0 = n }) ≡ absent_item
absent items n le = get_or_past items n absent_item (le_root (length items) n le)

pub none_past : (items : Items) (o : ℕ) → suc (last_of items).0 ≤ o → declarations items (record { 0 = o }) ≡ []
none_past items o le = ap (λ i. all_declared items (within_item items (record { 0 = o }) i)) (absent items o le)

-- ---- the declarations in a scope

abbrev end : Items → ℕ
end items = suc (last_of items).0

pub nothing_in : (items : Items) (declared : List (List NodeId)) (scope : Scope) → declared ≡ declared_below items (end items)
    → length declared ≤ scope.owner.0 → [] ≡ declared_in items scope
nothing_in items declared scope e le =
    let past : end items ≤ scope.owner.0 = omega (arith, le, ap length e ∙ declared_length items (end items)) in
    sym (take_all scope.count [] (omega arith)) ∙ ap (take scope.count) (sym (none_past items scope.owner.0 past))

pub all_there : (items : Items) (declared : List (List NodeId)) (scope : Scope) (all : List NodeId) (d : List NodeId) → declared ≡ declared_below items (end items)
    → scope.owner.0 < length declared → all ≡ get_or declared scope.owner.0 d → all ≡ declarations items scope.owner
all_there items declared scope all d e lt is =
    is ∙ ap (λ l. get_or l scope.owner.0 d) e ∙ declared_there items (end items) scope.owner.0 d (omega (arith, lt, ap length e ∙ declared_length items (end items)))

pub all_in_scope : (items : Items) (scope : Scope) (all : List NodeId) → all ≡ declarations items scope.owner → length all ≤ scope.count → all ≡ declared_in items scope
all_in_scope items scope all e le = sym (take_all scope.count all le) ∙ ap (take scope.count) e

-- ---- what all nodes find

found_length : (items : Items) (k : ℕ) → length (found_below items k) ≡ k
found_length items zero = refl
found_length items (suc k) =
    length-append (found_below items k) (binder items (record { 0 = k }) ∷ []) ∙ ap (λ n. n + 1) (found_length items k) ∙ omega arith

found_by : (items : Items) (k o : ℕ) → o < suc k → (b : Bool) → ltb o k ≡ b
    → (o < k → get_or (found_below items k) o None ≡ binder items (record { 0 = o })) → get_or (found_below items (suc k)) o None ≡ binder items (record { 0 = o })
found_by items k o lt true e h =
    let below : o < k = ltb-true o k e in
    get_or_append_left (found_below items k) (binder items (record { 0 = k }) ∷ []) None o (omega (arith, below, found_length items k)) ∙ h below
found_by items k o lt false e h =
    let same : o ≡ k = omega (arith, lt, ltb-false o k e) in
    ap (λ i. get_or (found_below items (suc k)) i None) (same ∙ sym (found_length items k))
    ∙ get_or-append_seam (found_below items k) (binder items (record { 0 = k })) [] None
    ∙ ap (λ i. binder items (record { 0 = i })) (sym same)

found_there : (items : Items) (k o : ℕ) → o < k → get_or (found_below items k) o None ≡ binder items (record { 0 = o })
found_there items zero o lt = absurd (omega (arith, lt))
found_there items (suc k) o lt = found_by items k o lt (ltb o k) refl (found_there items k o)

found_any : (items : Items) (o : ℕ) → (b : Bool) → ltb o (end items) ≡ b → get_or (found_below items (end items)) o None ≡ binder items (record { 0 = o })
found_any items o true e = found_there items (end items) o (ltb-true o (end items) e)
found_any items o false e =
    let past : end items ≤ o = ltb-false o (end items) e in
    get_or_past (found_below items (end items)) o None (omega (arith, past, found_length items (end items)))
    ∙ ap (λ i. found_for items (standing_of items) i (scope_at items (record { 0 = o }))) (sym (absent items o past))

pub all_found : (items : Items) (k : ℕ) (found : List (Option Found)) → k ≡ end items → found ≡ found_below items k → (n : NodeId) → get_or found n.0 None ≡ binder items n
all_found items k found e h n = ap (λ l. get_or l n.0 None) (h ∙ ap (found_below items) e) ∙ found_any items n.0 (ltb n.0 (end items)) refl
