-- What was put last under a name, and that it is the last of the declarations that were read.
use Rattle.std.specs.Prelude.{◌≡◌, ℕ, zero, suc, ◌+◌, ◌<◌, Bool, true, false, eqb, nat_eq, bytes_eq, ◌&&◌, List, [], ◌∷◌, ◌++◌, map, length}
use Rattle.std.specs.Prelude.{take, set, get_or, replicate, Option, Some, None, option_map, if◌then◌else◌}
use Rattle.std.proofs.Common.{refl, sym, ap, subst, ◌∙◌, arith}
use Rattle.std.proofs.lemmas.Bool.{eqb-true, eqb-false, and_parts, true≢false}
use Rattle.std.proofs.lemmas.List.{get_or-set_same, get_or-set_other, length-take-le}
use Rattle.std.proofs.Math.Seq.{take-suc}
use Rattle.std.proofs.lemmas.Slice.Eq.{bytes_eq-Decides}
use Rattle.std.specs.Map.{lookup}
use Rattle.indexmap.specs.IndexMap.{insert_entry}
use Rattle.tl_base.specs.declared.ids.NodeId.{NodeId}
use Rattle.tl_tree.specs.Code.{Items}
use Rattle.tl_tree.specs.Nodes.{item_at}
use Rattle.tl_tree.specs.declared.scope.Scope.{Scope}
use Rattle.tl_tree.specs.Scopes.{Found, or_found, last_found, has_name, declared_name, declarations, declared_in}
use Rattle.tl_rename.specs.Latest.{Key, Entries, is_key, latest_in, IsIndexed}

-- ---- entries under other keys

module _ {K L V : Type 0} (f : K → L) (eq : K → K → Bool) (on : L → L → Bool) (same : (a b : K) → eq a b ≡ on (f a) (f b)) where
  abbrev moved : List (K × V) → List (L × V)
  moved es = map (λ e. (f e.0, e.1)) es

  insert_by : (e : K × V) (k : K) (v : V) (es : List (K × V)) (b : Bool) → moved (insert_entry eq es k v) ≡ insert_entry on (moved es) (f k) v
      → moved (if b then (e.0, v) ∷ es else e ∷ insert_entry eq es k v)
      ≡ (if b then (f e.0, v) ∷ moved es else (f e.0, e.1) ∷ insert_entry on (moved es) (f k) v)
  insert_by e k v es true h = refl
  insert_by e k v es false h = ap (λ l. (f e.0, e.1) ∷ l) h

  pub insert_moved : (es : List (K × V)) (k : K) (v : V) → moved (insert_entry eq es k v) ≡ insert_entry on (moved es) (f k) v
  insert_moved [] k v = refl
  insert_moved (e ∷ es) k v =
      insert_by e k v es (eq k e.0) (insert_moved es k v)
      ∙ ap (λ b. if b then (f e.0, v) ∷ moved es else (f e.0, e.1) ∷ insert_entry on (moved es) (f k) v) (same k e.0)

  pub lookup_moved : (es : List (K × V)) (k : K) → lookup (eq k) es ≡ lookup (on (f k)) (moved es)
  lookup_moved [] k = refl
  lookup_moved (e ∷ es) k =
      ap (λ b. if b then Some e.1 else lookup (eq k) es) (same k e.0)
      ∙ ap (λ o. if on (f k) (f e.0) then Some e.1 else o) (lookup_moved es k)

-- ---- keys

same_key : (a b : Key) → is_key a b ≡ true → a ≡ b
same_key a b h =
    let parts = and_parts (nat_eq a.0 b.0) (bytes_eq a.1 b.1) h in
    let first : a.0 ≡ b.0 = eqb-true a.0 b.0 parts.0 in
    let second : a.1 ≡ b.1 = (bytes_eq-Decides a.1 b.1).0 parts.1 in
    ap (λ x. (x, a.1)) first ∙ ap (λ y. (b.0, y)) second

abbrev chosen : Bool → Found → Option Found → Option Found
chosen b v o = if b then Some v else o

swapped : (a b : Key) → is_key a b ≡ true → is_key b a ≡ true
swapped a b h =
    let e = same_key a b h in
    subst (λ z. is_key z a ≡ true) e (subst (λ z. is_key a z ≡ true) (sym e) h)

either : (a b : Key) (x y : Bool) → is_key a b ≡ x → is_key b a ≡ y → x ≡ y
either a b true true e f = refl
either a b false false e f = refl
either a b true false e f = absurd (true≢false (sym (swapped a b e) ∙ f))
either a b false true e f = absurd (true≢false (sym (swapped b a f) ∙ e))

key_sym : (a b : Key) → is_key a b ≡ is_key b a
key_sym a b = either a b (is_key a b) (is_key b a) refl refl

settled : (b : Bool) (v x : Found) (o : Option Found) → (if b then Some v else o) ≡ chosen b v (if b then Some x else o)
settled true v x o = refl
settled false v x o = refl

other_by : (k q : Key) (v x : Found) (e : Key) (o : Option Found) → is_key k e ≡ false → (b : Bool) → is_key k q ≡ b
    → (if is_key q e then Some x else chosen b v o) ≡ chosen b v (if is_key q e then Some x else o)
other_by k q v x e o h false at = refl
other_by k q v x e o h true at =
    ap (λ b. if b then Some x else Some v) (subst (λ z. is_key z e ≡ false) (same_key k q at) h)

put_by : (e : Key × Found) (es : Entries) (k q : Key) (v : Found) (b : Bool) → is_key k e.0 ≡ b
    → lookup (is_key q) (insert_entry is_key es k v) ≡ chosen (is_key k q) v (lookup (is_key q) es)
    → lookup (is_key q) (if b then (e.0, v) ∷ es else e ∷ insert_entry is_key es k v) ≡ chosen (is_key k q) v (if is_key q e.0 then Some e.1 else lookup (is_key q) es)
put_by e es k q v true h ih =
    let at : is_key q e.0 ≡ is_key k q = ap (is_key q) (sym (same_key k e.0 h)) ∙ key_sym q k in
    ap (λ b. if b then Some v else lookup (is_key q) es) at
    ∙ settled (is_key k q) v e.1 (lookup (is_key q) es)
    ∙ ap (λ b. chosen (is_key k q) v (if b then Some e.1 else lookup (is_key q) es)) (sym at)
put_by e es k q v false h ih =
    ap (λ o. if is_key q e.0 then Some e.1 else o) ih
    ∙ other_by k q v e.1 e.0 (lookup (is_key q) es) h (is_key k q) refl

-- what is found under a key after one more is put
pub after_put : (es : Entries) (k q : Key) (v : Found) → lookup (is_key q) (insert_entry is_key es k v) ≡ chosen (is_key k q) v (lookup (is_key q) es)
after_put [] k q v = ap (λ b. if b then Some v else None) (key_sym q k)
after_put (e ∷ es) k q v = put_by e es k q v (is_key k e.0) refl (after_put es k q v)

-- ---- the last of the declarations

abbrev at_position : ℕ → ℕ → NodeId → Found
at_position depth at d = record { depth = depth; position = at; declaration = d }

last_by : (asked : NodeId → Bool) (depth at : ℕ) (x d : NodeId) (rest new : Option Found) (len : ℕ) (b : Bool)
    → new ≡ chosen b (at_position depth (at + 1 + len) d) rest
    → or_found new (if asked x then Some (at_position depth at x) else None)
    ≡ chosen b (at_position depth (at + suc len) d) (or_found rest (if asked x then Some (at_position depth at x) else None))
last_by asked depth at x d rest new len true h =
    ap (λ o. or_found o (if asked x then Some (at_position depth at x) else None)) h ∙ ap (λ p. Some (at_position depth p d)) (omega arith)
last_by asked depth at x d rest new len false h = ap (λ o. or_found o (if asked x then Some (at_position depth at x) else None)) h

-- one more declaration behind the others
last_behind : (asked : NodeId → Bool) (depth at : ℕ) (ds : List NodeId) (d : NodeId)
    → last_found asked depth at (ds ++ d ∷ []) ≡ chosen (asked d) (at_position depth (at + length ds) d) (last_found asked depth at ds)
last_behind asked depth at [] d = ap (λ p. chosen (asked d) (at_position depth p d) None) (omega arith)
last_behind asked depth at (x ∷ ds) d =
    last_by asked depth at x d (last_found asked depth (at + 1) ds) (last_found asked depth (at + 1) (ds ++ d ∷ [])) (length ds) (asked d)
    (last_behind asked depth (at + 1) ds d)

-- the same found at another depth
abbrev pub at_depth : ℕ → Found → Found
at_depth depth f = at_position depth f.position f.declaration

deeper_by : (depth at : ℕ) (x : NodeId) (rest new : Option Found) (b : Bool) → new ≡ option_map (at_depth depth) rest
    → or_found new (if b then Some (at_position depth at x) else None)
    ≡ option_map (at_depth depth) (or_found rest (if b then Some (at_position 0 at x) else None))
deeper_by depth at x (Some f) new b h = ap (λ o. or_found o (if b then Some (at_position depth at x) else None)) h
deeper_by depth at x None new true h = ap (λ o. or_found o (Some (at_position depth at x))) h
deeper_by depth at x None new false h = ap (λ o. or_found o None) h

deeper : (asked : NodeId → Bool) (depth at : ℕ) (ds : List NodeId) → last_found asked depth at ds ≡ option_map (at_depth depth) (last_found asked 0 at ds)
deeper asked depth at [] = refl
deeper asked depth at (x ∷ ds) =
    deeper_by depth at x (last_found asked 0 (at + 1) ds) (last_found asked depth (at + 1) ds) (asked x) (deeper asked depth (at + 1) ds)

-- ---- some of the declarations of an owner

in_front : (c : ℕ) (ds : List NodeId) (p : ℕ) (d : NodeId) → p < length (take c ds) → (p < length ds) × (get_or (take c ds) p d ≡ get_or ds p d)
in_front zero [] p d lt = absurd (omega (arith, lt))
in_front zero (x ∷ ds) p d lt = absurd (omega (arith, lt))
in_front (suc c) [] p d lt = absurd (omega (arith, lt))
in_front (suc c) (x ∷ ds) zero d lt = (omega arith, refl)
in_front (suc c) (x ∷ ds) (suc p) d lt = let h = in_front c ds p d (omega (arith, lt)) in (omega (arith, h.0), h.1)

all_in_front : (c : ℕ) (ds : List NodeId) → take (length (take c ds)) ds ≡ take c ds
all_in_front zero [] = refl
all_in_front zero (x ∷ ds) = refl
all_in_front (suc c) [] = refl
all_in_front (suc c) (x ∷ ds) = ap (λ l. x ∷ l) (all_in_front c ds)

-- ---- reading declarations

-- what was found before the next declaration was put
read_at : (items : Items) (es : Entries) (owner o : ℕ) (name : List ℕ) (p next : ℕ) (d none : NodeId) (b : Bool) → eqb o owner ≡ b
    → (o ≡ owner → next ≡ suc p) → (p < length (declarations items (record { 0 = owner }))) → d ≡ get_or (declarations items (record { 0 = owner })) p none
    → (before : ℕ) → (o ≡ owner → before ≡ p) → ((o ≡ owner → ⊥) → next ≡ before)
    → latest_in es o name ≡ last_found (has_name items name) 0 0 (take before (declarations items (record { 0 = o })))
    → latest_in (insert_entry is_key es (owner, declared_name (item_at items d)) (at_position 0 p d)) o name
    ≡ last_found (has_name items name) 0 0 (take next (declarations items (record { 0 = o })))
read_at items es owner o name p next d none true e same lt at before was other h =
    let here : o ≡ owner = eqb-true o owner e in
    let ds = declarations items (record { 0 = owner }) in
    let asked = has_name items name in
    let key : is_key (owner, declared_name (item_at items d)) (o, name) ≡ asked d = ap (λ b. b && asked d) (ap (λ i. eqb i o) (sym here) ∙ own o) in
    after_put es (owner, declared_name (item_at items d)) (o, name) (at_position 0 p d)
    ∙ ap (λ b. chosen b (at_position 0 p d) (latest_in es o name)) key
    ∙ ap (chosen (asked d) (at_position 0 p d))
    (h ∙ ap (λ i. last_found asked 0 0 (take before (declarations items (record { 0 = i })))) here ∙ ap (λ n. last_found asked 0 0 (take n ds)) (was here))
    ∙ ap (λ n. chosen (asked d) (at_position 0 n d) (last_found asked 0 0 (take p ds))) (omega (arith, length-take-le p ds (omega (arith, lt))))
    ∙ sym (last_behind asked 0 0 (take p ds) d)
    ∙ ap (λ x. last_found asked 0 0 (take p ds ++ x ∷ [])) at
    ∙ ap (last_found asked 0 0) (sym (take-suc ds p none lt))
    ∙ ap (λ n. last_found asked 0 0 (take n ds)) (sym (same here))
    ∙ ap (λ i. last_found asked 0 0 (take next (declarations items (record { 0 = i })))) (sym here)
  where
    own_by : (n : ℕ) (x : Bool) → eqb n n ≡ x → x ≡ true
    own_by n true e = refl
    own_by n false e = absurd (eqb-false n n e refl)

    own : (n : ℕ) → eqb n n ≡ true
    own n = own_by n (eqb n n) refl
read_at items es owner o name p next d none false e same lt at before was other h =
    let away : o ≡ owner → ⊥ = eqb-false o owner e in
    let asked = has_name items name in
    let key : is_key (owner, declared_name (item_at items d)) (o, name) ≡ false = ap (λ b. b && asked d) (apart owner o away) in
    after_put es (owner, declared_name (item_at items d)) (o, name) (at_position 0 p d)
    ∙ ap (λ b. chosen b (at_position 0 p d) (latest_in es o name)) key
    ∙ h
    ∙ ap (λ n. last_found asked 0 0 (take n (declarations items (record { 0 = o })))) (sym (other away))
  where
    apart_by : (a b : ℕ) → (b ≡ a → ⊥) → (x : Bool) → eqb a b ≡ x → x ≡ false
    apart_by a b h true e = absurd (h (sym (eqb-true a b e)))
    apart_by a b h false e = refl

    apart : (a b : ℕ) → (b ≡ a → ⊥) → eqb a b ≡ false
    apart a b h = apart_by a b h (eqb a b) refl

pub read_more : (items : Items) (es : Entries) (reached : List ℕ) (scope : Scope) (declared : List NodeId) (p : ℕ) (d none : NodeId)
    → declared ≡ declared_in items scope → p ≡ get_or reached scope.owner.0 0 → p < length declared → d ≡ get_or declared p none
    → scope.owner.0 < length reached → IsIndexed items es reached
    → IsIndexed items (insert_entry is_key es (scope.owner.0, declared_name (item_at items d)) (at_position 0 p d)) (set reached scope.owner.0 (suc p))
read_more items es reached scope declared p d none are at lt is short indexed o name =
    let ds = declarations items scope.owner in
    let front = in_front scope.count ds p none (subst (λ l. p < length l) are lt) in
    read_at items es scope.owner.0 o name p (get_or (set reached scope.owner.0 (suc p)) o 0) d none (eqb o scope.owner.0) refl
    (λ e. ap (λ i. get_or (set reached scope.owner.0 (suc p)) i 0) e ∙ get_or-set_same reached scope.owner.0 (suc p) 0 short)
    front.0 (is ∙ ap (λ l. get_or l p none) are ∙ front.1)
    (get_or reached o 0) (λ e. ap (λ i. get_or reached i 0) e ∙ sym at)
    (λ away. get_or-set_other reached scope.owner.0 o (suc p) 0 away)
    (indexed o name)

pub next_read : (reached : List ℕ) (owner p : ℕ) → owner < length reached → p ≡ get_or reached owner 0
    → get_or (set reached owner (suc p)) owner 0 ≡ suc (get_or reached owner 0)
next_read reached owner p short at = get_or-set_same reached owner (suc p) 0 short ∙ ap suc at

-- where all in scope are read, the last of them is found
pub found_latest : (items : Items) (es : Entries) (reached : List ℕ) (scope : Scope) (declared : List NodeId) (name : List ℕ) (depth : ℕ)
    → declared ≡ declared_in items scope → get_or reached scope.owner.0 0 ≡ length declared → IsIndexed items es reached
    → option_map (at_depth depth) (latest_in es scope.owner.0 name) ≡ last_found (has_name items name) depth 0 declared
found_latest items es reached scope declared name depth are at indexed =
    let ds = declarations items scope.owner in
    let asked = has_name items name in
    ap (option_map (at_depth depth))
    (indexed scope.owner.0 name
    ∙ ap (λ n. last_found asked 0 0 (take n ds)) (at ∙ ap length are)
    ∙ ap (last_found asked 0 0) (all_in_front scope.count ds ∙ sym are))
    ∙ sym (deeper asked depth 0 declared)

-- before any is read
zero_at : (k o : ℕ) → ◌≡◌ {A = ℕ} (get_or (replicate k 0) o 0) 0
zero_at zero o = refl
zero_at (suc k) zero = refl
zero_at (suc k) (suc o) = zero_at k o

nothing_read : (items : Items) (name : List ℕ) (ds : List NodeId) → last_found (has_name items name) 0 0 (take 0 ds) ≡ None
nothing_read items name [] = refl
nothing_read items name (d ∷ ds) = refl

pub none_indexed : (items : Items) (k : ℕ) → IsIndexed items [] (replicate k 0)
none_indexed items k o name =
    let ds = declarations items (record { 0 = o }) in
    sym (nothing_read items name ds) ∙ ap (λ n. last_found (has_name items name) 0 0 (take n ds)) (sym (zero_at k o))

-- one more declaration is put as the code puts it
pub read_step : (items : Items) (es new : Entries) (reached : List ℕ) (scope : Scope) (declared : List NodeId) (p position next : ℕ) (d none : NodeId) (name : List ℕ)
    → declared ≡ declared_in items scope → p ≡ get_or reached scope.owner.0 0 → p < length declared → d ≡ get_or declared p none
    → scope.owner.0 < length reached → IsIndexed items es reached → name ≡ declared_name (item_at items d) → position ≡ p → next ≡ suc p
    → new ≡ insert_entry is_key es (scope.owner.0, name) (at_position 0 position d) → IsIndexed items new (set reached scope.owner.0 next)
read_step items es new reached scope declared p position next d none name are at lt is short indexed named placed more put =
    subst (λ n. IsIndexed items new (set reached scope.owner.0 n)) (sym more)
    (subst (λ l. IsIndexed items l (set reached scope.owner.0 (suc p)))
    (ap (λ t. insert_entry is_key es (scope.owner.0, t) (at_position 0 p d)) (sym named)
    ∙ ap (λ n. insert_entry is_key es (scope.owner.0, name) (at_position 0 n d)) (sym placed) ∙ sym put)
    (read_more items es reached scope declared p d none are at lt is short indexed))

-- a read within a list, whatever stands for what is past its end
pub read_within : (reached : List ℕ) (i a : ℕ) → i < length reached → get_or reached i a ≡ get_or reached i 0
read_within [] i a lt = absurd (omega (arith, lt))
read_within (x ∷ reached) zero a lt = refl
read_within (x ∷ reached) (suc i) a lt = read_within reached i a (omega (arith, lt))
