-- The walk from the last node to the first: what holds of where the root stands, and passes from each node to its parts, holds of where
-- each node stands.
use Rattle.std.specs.Prelude.{◌≡◌, ℕ, zero, suc, ◌+◌, ◌<◌, ◌≤◌, Bool, true, false, ltb, eqb, List, [], ◌∷◌, ◌++◌, length, set, replicate}
use Rattle.std.specs.Prelude.{Option, Some, None, ◌⊎◌, ⊤, if◌then◌else◌, slice_set, nat_lt}
use Rattle.std.proofs.Common.{refl, sym, ap, subst, ◌∙◌, arith, append_assoc, inl, inr}
use Rattle.std.proofs.lemmas.Bool.{ltb-true, ltb-false, eqb-true, eqb-false}
use Rattle.std.proofs.lemmas.List.{get_or-set_same, get_or-set_other, length-set, get_or-replicate, length-replicate, get_or_past}
use Rattle.std.proofs.lemmas.Option.{none-some}
use Rattle.tl_base.specs.declared.ids.NodeId.{NodeId}
use Rattle.tl_tree.specs.Nodes.{item_at, last_of}
use Rattle.tl_tree.specs.Code.{Items}
use Rattle.tl_tree.specs.declared.scope.Scope.{Scope}
use Rattle.tl_tree.specs.Scopes.{Part, Standing, scope_in, give, give_below, parts, parts_if_any, standing_at_first, standing_of, outermost}
use Rattle.tl_tree.specs.Scopes.{all_in, in_order, within, declarations, declared_at, sees_itself}
use Rattle.tl_tree.specs.ScopeLaws.{Stands, NodesStand, AtRoot, InNode}

-- each of the parts
abbrev pub Each : (Part → Type 0) → List Part → Type 0
Each P [] = ⊤
Each P (part ∷ more) = P part × Each P more

-- what holds of where each node stands
abbrev pub Holds : (ℕ → Scope → Type 0) → Standing → Type 0
Holds Q standing = (n : ℕ) (scope : Scope) → scope_in standing n ≡ Some scope → Q n scope

abbrev scope_or : Scope → Option Scope → Scope
scope_or a (Some x) = x
scope_or a None = a

some_inj : (a b : Scope) → Some a ≡ Some b → a ≡ b
some_inj a b h = ap (scope_or a) h

short_by : (standing : Standing) (n : ℕ) (scope : Scope) → scope_in standing n ≡ Some scope → (b : Bool) → ltb n (length standing) ≡ b → n < length standing
short_by standing n scope h true e = ltb-true n (length standing) e
short_by standing n scope h false e = absurd (none-some scope (sym (get_or_past standing n None (ltb-false n (length standing) e)) ∙ h))

pub short : (standing : Standing) (n : ℕ) (scope : Scope) → scope_in standing n ≡ Some scope → n < length standing
short standing n scope h = short_by standing n scope h (ltb n (length standing)) refl

-- a read after a write finds what was written, or what was there
abbrev ReadAfter : Standing → ℕ → ℕ → Scope → Scope → Type 0
ReadAfter standing i n v scope = ((n ≡ i) × (v ≡ scope)) ⊎ (scope_in standing n ≡ Some scope)

read_by : (standing : Standing) (i n : ℕ) (v scope : Scope) → scope_in (set standing i (Some v)) n ≡ Some scope → (b : Bool) → eqb n i ≡ b → ReadAfter standing i n v scope
read_by standing i n v scope h true e =
    let at : n ≡ i = eqb-true n i e in
    let there : scope_in (set standing i (Some v)) i ≡ Some scope = subst (λ m. scope_in (set standing i (Some v)) m ≡ Some scope) at h in
    let lt : i < length standing = subst (λ m. i < m) (length-set standing i (Some v)) (short (set standing i (Some v)) i scope there) in
    inl (at, some_inj v scope (sym (get_or-set_same standing i (Some v) None lt) ∙ there))
read_by standing i n v scope h false e = inr (sym (get_or-set_other standing i n (Some v) None (eqb-false n i e)) ∙ h)

read_after : (standing : Standing) (i n : ℕ) (v scope : Scope) → scope_in (set standing i (Some v)) n ≡ Some scope → ReadAfter standing i n v scope
read_after standing i n v scope h = read_by standing i n v scope h (eqb n i) refl

set_holds : (Q : ℕ → Scope → Type 0) (standing : Standing) (i : ℕ) (v : Scope) → Holds Q standing → Q i v → Holds Q (set standing i (Some v))
set_holds Q standing i v hs q n scope h =
    elim (read_after standing i n v scope h) as (λ _. Q n scope) [
      | inl e ↦ subst (λ m. Q m scope) (sym e.0) (subst (λ s. Q i s) e.1 q)
      | inr g ↦ hs n scope g
    ]

abbrev May : (ℕ → Scope → Type 0) → ℕ → Part → Type 0
May Q limit part = part.node.0 < limit → Q part.node.0 part.scope

write_holds : (Q : ℕ → Scope → Type 0) (limit : ℕ) (standing : Standing) (part : Part) (b : Bool) → ltb part.node.0 limit ≡ b → Holds Q standing → May Q limit part
    → Holds Q (if b then slice_set standing part.node.0 (Some part.scope) else standing)
write_holds Q limit standing part true e hs h = set_holds Q standing part.node.0 part.scope hs (h (ltb-true part.node.0 limit e))
write_holds Q limit standing part false e hs h = hs

give_holds : (Q : ℕ → Scope → Type 0) (limit : ℕ) (standing : Standing) (ps : List Part) → Holds Q standing → Each (May Q limit) ps → Holds Q (give limit standing ps)
give_holds Q limit standing [] hs each = hs
give_holds Q limit standing (p ∷ ps) hs each =
    give_holds Q limit (if nat_lt p.node.0 limit then slice_set standing p.node.0 (Some p.scope) else standing) ps
    (write_holds Q limit standing p (ltb p.node.0 limit) refl hs each.0) each.1

-- what holds of a node's place passes to its parts
abbrev pub Passes : Items → (ℕ → Scope → Type 0) → Type 0
Passes items Q = (n : ℕ) (scope : Scope) → Q n scope → Each (May Q n) (parts items (record { 0 = n }) scope)

if_any_each : (Q : ℕ → Scope → Type 0) (items : Items) (k : ℕ) (standing : Standing) → Passes items Q → Holds Q standing → (o : Option Scope) → scope_in standing k ≡ o
    → Each (May Q k) (parts_if_any items (record { 0 = k }) o)
if_any_each Q items k standing pass hs (Some s) e = pass k s (hs k s e)
if_any_each Q items k standing pass hs None e = tt

below_holds : (Q : ℕ → Scope → Type 0) (items : Items) → Passes items Q → (k : ℕ) (standing : Standing) → Holds Q standing → Holds Q (give_below items k standing)
below_holds Q items pass zero standing hs = hs
below_holds Q items pass (suc k) standing hs =
    below_holds Q items pass k (give k standing (parts_if_any items (record { 0 = k }) (scope_in standing k)))
    (give_holds Q k standing (parts_if_any items (record { 0 = k }) (scope_in standing k)) hs
    (if_any_each Q items k standing pass hs (scope_in standing k) refl))

none_at_first : (Q : ℕ → Scope → Type 0) (k : ℕ) → Holds Q (replicate k None)
none_at_first Q k n scope h =
    absurd (none-some scope (sym (get_or-replicate k n None None (subst (λ m. n < m) (length-replicate k None) (short (replicate k None) n scope h))) ∙ h))

pub standing_holds : (Q : ℕ → Scope → Type 0) (items : Items) → Passes items Q → Q (last_of items).0 (outermost (last_of items)) → Holds Q (standing_of items)
standing_holds Q items pass first =
    let root = (last_of items).0 in
    below_holds Q items pass (suc root) (standing_at_first (last_of items))
    (set_holds Q (replicate (suc root) None) root (outermost (last_of items)) (none_at_first Q (suc root)) first)

-- ---- lengths

write_length : (standing : Standing) (part : Part) (b : Bool) → length (if b then slice_set standing part.node.0 (Some part.scope) else standing) ≡ length standing
write_length standing part true = length-set standing part.node.0 (Some part.scope)
write_length standing part false = refl

pub give_length : (limit : ℕ) (standing : Standing) (ps : List Part) → length (give limit standing ps) ≡ length standing
give_length limit standing [] = refl
give_length limit standing (p ∷ ps) =
    give_length limit (if nat_lt p.node.0 limit then slice_set standing p.node.0 (Some p.scope) else standing) ps
    ∙ write_length standing p (nat_lt p.node.0 limit)

pub below_length : (items : Items) (k : ℕ) (standing : Standing) → length (give_below items k standing) ≡ length standing
below_length items zero standing = refl
below_length items (suc k) standing =
    below_length items k (give k standing (parts_if_any items (record { 0 = k }) (scope_in standing k)))
    ∙ give_length k standing (parts_if_any items (record { 0 = k }) (scope_in standing k))

pub standing_length : (items : Items) → length (standing_of items) ≡ suc (last_of items).0
standing_length items =
    let root = (last_of items).0 in
    below_length items (suc root) (standing_at_first (last_of items))
    ∙ length-set (replicate (suc root) None) root (Some (outermost (last_of items)))
    ∙ length-replicate (suc root) None

-- ---- parts

each_append : (P : Part → Type 0) (ps rs : List Part) → Each P ps → Each P rs → Each P (ps ++ rs)
each_append P [] rs ha hb = hb
each_append P (p ∷ ps) rs ha hb = (ha.0, each_append P ps rs ha.1 hb)

each_all_in : (P : Part → Type 0) (scope : Scope) (ns : List NodeId) → ((n : NodeId) → P (record { node = n; scope = scope })) → Each P (all_in scope ns)
each_all_in P scope [] h = tt
each_all_in P scope (n ∷ ns) h = (h n, each_all_in P scope ns h)

each_in_order : (P : Part → Type 0) (items : Items) (owner : NodeId) (count : ℕ) (ns : List NodeId)
    → ((n : NodeId) (c : ℕ) → P (record { node = n; scope = record { owner = owner; count = c } })) → Each P (in_order items owner count ns)
each_in_order P items owner count [] h = tt
each_in_order P items owner count (n ∷ ns) h = (h n (if sees_itself (item_at items n) then count + length (declared_at items n) else count), each_in_order P items owner (count + length (declared_at items n)) ns h)

-- each part of a node stands where the node does, or in the node
pub parts_each : (P : Part → Type 0) (items : Items) (n : NodeId) (scope : Scope) → ((m : NodeId) → P (record { node = m; scope = scope }))
    → ((m : NodeId) (c : ℕ) → P (record { node = m; scope = record { owner = n; count = c } })) → Each P (parts items n scope)
parts_each P items n scope outside inside =
    let w = within items n in
    let all = length (declarations items n) in
    let around = all_in scope w.around in
    let ordered = in_order items n (length w.names) w.statements in
    each_append P (around ++ ordered) (all_in (record { owner = n; count = all }) w.behind)
    (each_append P around ordered (each_all_in P scope w.around outside) (each_in_order P items n (length w.names) w.statements inside))
    (each_all_in P (record { owner = n; count = all }) w.behind (λ m. inside m all))

-- ---- owners stand behind what they own, and none behind the root

abbrev pub IsBefore : ℕ → ℕ → Scope → Type 0
IsBefore end n scope = (n < scope.owner.0) × (scope.owner.0 ≤ end)

inside_before : (end n m : ℕ) (scope : Scope) → IsBefore end n scope → m < n → (m < scope.owner.0) × (scope.owner.0 ≤ end)
inside_before end n m scope h lt = (omega (arith, lt, h.0), h.1)

owner_before : (end n m : ℕ) (scope : Scope) → IsBefore end n scope → m < n → (m < n) × (n ≤ end)
owner_before end n m scope h lt = (lt, omega (arith, h.0, h.1))

pub owners_before : (items : Items) → Holds (IsBefore (suc (last_of items).0)) (standing_of items)
owners_before items =
    let end = suc (last_of items).0 in
    standing_holds (IsBefore end) items
    (λ n scope h. parts_each (May (IsBefore end) n) items (record { 0 = n }) scope
    (λ m lt. inside_before end n m.0 scope h lt) (λ m c lt. owner_before end n m.0 scope h lt))
    (omega arith, omega arith)

-- ---- where nodes stand is where the relation says

each_split : (P : Part → Type 0) (l done rest : List Part) → l ≡ done ++ rest
    → ((before : List Part) (part : Part) (after : List Part) → l ≡ before ++ part ∷ after → P part) → Each P rest
each_split P l done [] e f = tt
each_split P l done (p ∷ ps) e f = (f done p ps e, each_split P l (done ++ p ∷ []) ps (e ∙ sym (append_assoc done (p ∷ []) ps)) f)

pub nodes_stand : (items : Items) → NodesStand items
nodes_stand items n scope h =
    let Q : ℕ → Scope → Type 0 = λ m s. Stands items (record { 0 = m }) s in
    standing_holds Q items
    (λ m s q. each_split (May Q m) (parts items (record { 0 = m }) s) [] (parts items (record { 0 = m }) s) refl
    (λ before part after e lt. InNode (record { 0 = m }) s before part after q e))
    AtRoot n.0 scope h
