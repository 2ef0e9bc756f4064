-- Just the declarations are marked.
use Rattle.std.specs.Prelude.{◌≡◌, ℕ, suc, ◌<◌, ◌≤◌, Bool, true, false, ◌||◌, ◌&&◌, nat_eq, List, [], ◌∷◌, length, drop, get_or}
use Rattle.std.specs.Prelude.{slice_set, replicate, zero, if◌then◌else◌}
use Rattle.std.specs.List.{list_any}
use Rattle.std.proofs.Common.{refl, sym, ap, ◌∙◌, arith}
use Rattle.std.proofs.lemmas.Bool.{eqb-true, eqb-false}
use Rattle.std.proofs.lemmas.List.{get_or-set_same, get_or-set_other, length-set, length-replicate}
use Rattle.tl_base.specs.declared.ids.NodeId.{NodeId}
use Rattle.tl_tree.specs.Nodes.{item_at, last_of, absent_item}
use Rattle.tl_tree.specs.Code.{Items}
use Rattle.tl_tree.specs.Scopes.{is_name}
use Rattle.tl_renaming.specs.Renamed.{has_node, declares}
use Rattle.tl_renaming.specs.Passes.{marked, AreDeclarations}
use Rattle.tl_renaming.proofs.Ordered.{by_node, within_root, none_behind, name_inside, or_true, or_false, or_none, or_and}

-- the mark of one node, if it is a name
abbrev one : Bool → ℕ → List Bool → List Bool
one b m marks = if b then slice_set marks m true else marks

length_one : (b : Bool) (m : ℕ) (marks : List Bool) → length (one b m marks) ≡ length marks
length_one true m marks = length-set marks m true
length_one false m marks = refl

abbrev named : Items → ℕ → Bool
named items n = is_name (get_or items n absent_item)

one_at : (items : Items) (m n : ℕ) (marks : List Bool) → length items ≤ length marks → (b : Bool) → named items m ≡ b
    → (e : Bool) → nat_eq m n ≡ e → get_or (one b m marks) n false ≡ (get_or marks n false || (named items n && e))
one_at items m n marks h true is true e =
    let same : m ≡ n = eqb-true m n e in
    let inside : m < length items = name_inside items m is in
    ap (λ k. get_or (slice_set marks m true) k false) (sym same)
    ∙ get_or-set_same marks m true false (omega (arith, h, inside))
    ∙ sym (ap (λ b. get_or marks n false || (b && true)) (ap (named items) (sym same) ∙ is) ∙ or_true (get_or marks n false))
one_at items m n marks h true is false e =
    get_or-set_other marks m n true false (λ s. eqb-false m n e (sym s)) ∙ sym (or_none (get_or marks n false) (named items n))
one_at items m n marks h false is true e =
    let same : m ≡ n = eqb-true m n e in
    sym (ap (λ b. get_or marks n false || (b && true)) (ap (named items) (sym same) ∙ is) ∙ or_false (get_or marks n false))
one_at items m n marks h false is false e = sym (or_none (get_or marks n false) (named items n))

length_marked : (items : Items) (ds : List NodeId) (marks : List Bool) → length (marked items ds marks) ≡ length marks
length_marked items [] marks = refl
length_marked items (d ∷ ds) marks =
    length_marked items ds (one (named items d.0) d.0 marks) ∙ length_one (named items d.0) d.0 marks

marked_at : (items : Items) (n : ℕ) (ds : List NodeId) (marks : List Bool) → length items ≤ length marks
    → get_or (marked items ds marks) n false ≡ (get_or marks n false || (named items n && has_node n ds))
marked_at items n [] marks h = sym (or_none (get_or marks n false) (named items n))
marked_at items n (d ∷ ds) marks h =
    marked_at items n ds (one (named items d.0) d.0 marks) (omega (arith, h, length_one (named items d.0) d.0 marks))
    ∙ ap (λ x. x || (named items n && has_node n ds)) (one_at items d.0 n marks h (named items d.0) refl (nat_eq d.0 n) refl)
    ∙ or_and (get_or marks n false) (named items n) (nat_eq d.0 n) (has_node n ds)

-- what some nodes declare is marked
abbrev pub all_marked : Items → Items → List Bool → List Bool
all_marked items [] marks = marks
all_marked items (i ∷ more) marks = all_marked items more (marked items (declares i) marks)

all_at : (items : Items) (n : ℕ) (some : Items) (marks : List Bool) → length items ≤ length marks
    → get_or (all_marked items some marks) n false
    ≡ (get_or marks n false || (named items n && list_any (λ item. has_node n (declares item)) some))
all_at items n [] marks h = sym (or_none (get_or marks n false) (named items n))
all_at items n (i ∷ more) marks h =
    all_at items n more (marked items (declares i) marks) (omega (arith, h, length_marked items (declares i) marks))
    ∙ ap (λ x. x || (named items n && list_any (λ item. has_node n (declares item)) more)) (marked_at items n (declares i) marks h)
    ∙ or_and (get_or marks n false) (named items n) (has_node n (declares i)) (list_any (λ item. has_node n (declares item)) more)

pub node_marked : (items : Items) (k : ℕ) (marks : List Bool)
    → all_marked items (drop (suc k) items) (marked items (declares (item_at items (record { 0 = k }))) marks)
    ≡ all_marked items (drop k items) marks
node_marked items k marks =
    by_node (λ i before after. all_marked items after (marked items (declares i) marks) ≡ all_marked items before marks)
    (λ i more. refl) refl items k

unmarked : (k n : ℕ) → get_or (replicate k false) n false ≡ false
unmarked zero n = refl
unmarked (suc k) zero = refl
unmarked (suc k) (suc n) = unmarked k n

pub just_declarations : (items : Items) (k : ℕ) (marks first : List Bool) → k ≡ suc (last_of items).0
    → all_marked items (drop k items) marks ≡ all_marked items items first → first ≡ replicate k false → AreDeclarations items marks
just_declarations items k marks first e h f = λ n.
    ap (λ l. get_or l n false) (sym (ap (λ l. all_marked items l marks) (none_behind items k e)) ∙ h ∙ ap (all_marked items items) f)
    ∙ all_at items n items (replicate k false) (omega (arith, length-replicate k false, e, within_root items))
    ∙ ap (λ x. x || (named items n && list_any (λ item. has_node n (declares item)) items)) (unmarked k n)
