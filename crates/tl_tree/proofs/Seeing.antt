-- What statements see.
use Rattle.std.specs.Prelude.{◌≡◌, ℕ, ◌+◌, Bool, true, false, List, [], ◌∷◌, ◌++◌, length, take, flat_map, if◌then◌else◌}
use Rattle.std.proofs.Common.{refl, sym, ap, subst, ◌∙◌, arith, append_assoc, length-append}
use Rattle.std.proofs.lemmas.List.{append-nil}
use Rattle.std.proofs.Math.Seq.{take-append_seam}
use Rattle.tl_base.specs.declared.ids.NodeId.{NodeId}
use Rattle.tl_tree.specs.Nodes.{item_at}
use Rattle.tl_tree.specs.Code.{Items}
use Rattle.tl_tree.specs.Scopes.{Part, within, declared_at, declarations, sees_itself, in_order, all_in}
use Rattle.tl_tree.specs.ScopeLaws.{StatementsSeeBefore}

abbrev all_declared : Items → List NodeId → List NodeId
all_declared items ns = flat_map (declared_at items) ns

declared_append : (items : Items) (ns ms : List NodeId) → all_declared items (ns ++ ms) ≡ all_declared items ns ++ all_declared items ms
declared_append items [] ms = refl
declared_append items (n ∷ ns) ms =
    ap (λ l. declared_at items n ++ l) (declared_append items ns ms) ∙ sym (append_assoc (declared_at items n) (all_declared items ns) (all_declared items ms))

-- the statements of an owner, parted at one
record Split (items : Items) (owner : NodeId) (count : ℕ) (before : List NodeId) (s : NodeId) (after : List NodeId) : Type 0 where
  front : List Part
  back : List Part
  there : ℕ
  there_is : there ≡ count + length (all_declared items before)
  split : in_order items owner count (before ++ s ∷ after)
      ≡ front ++ record { node = s; scope = record { owner = owner; count = if sees_itself (item_at items s) then there + length (declared_at items s) else there } } ∷ back

split_at : (items : Items) (owner s : NodeId) (after before : List NodeId) (count : ℕ) → Split items owner count before s after
split_at items owner s after [] count =
    record { front = []; back = in_order items owner (count + length (declared_at items s)) after; there = count; there_is = omega arith; split = refl }
split_at items owner s after (b ∷ before) count =
    let rest = split_at items owner s after before (count + length (declared_at items b)) in
    let first : Part = record { node = b; scope = record { owner = owner; count = if sees_itself (item_at items b) then count + length (declared_at items b) else count } } in
    record {
      front = first ∷ rest.front;
      back = rest.back;
      there = rest.there;
      there_is = rest.there_is ∙ omega (arith, length-append (declared_at items b) (all_declared items before));
      split = ap (λ l. first ∷ l) rest.split;
    }

-- the declarations up to a point
up_to : (xs ys : List NodeId) (n : ℕ) → n ≡ length xs → take n (xs ++ ys) ≡ xs
up_to xs ys n e = subst (λ k. take k (xs ++ ys) ≡ xs) (sym e) (take-append_seam xs ys)

seen : (names front own rest : List NodeId) (count : ℕ) → count ≡ length names + length front → (b : Bool)
    → take (if b then count + length own else count) (names ++ (front ++ (own ++ rest))) ≡ names ++ front ++ (if b then own else [])
seen names front own rest count e true =
    ap (λ l. take (count + length own) l) (sym (append_assoc names front (own ++ rest)) ∙ sym (append_assoc (names ++ front) own rest))
    ∙ up_to (names ++ front ++ own) rest (count + length own) (omega (arith, e, length-append names front, length-append (names ++ front) own))
seen names front own rest count e false =
    ap (λ l. take count l) (sym (append_assoc names front (own ++ rest)))
    ∙ up_to (names ++ front) (own ++ rest) count (e ∙ sym (length-append names front))
    ∙ sym (append-nil (names ++ front))

parted : (a front : List Part) (p : Part) (back c : List Part) → (a ++ (front ++ p ∷ back)) ++ c ≡ (a ++ front) ++ p ∷ (back ++ c)
parted a front p back c =
    append_assoc a (front ++ p ∷ back) c ∙ ap (λ l. a ++ l) (append_assoc front (p ∷ back) c) ∙ sym (append_assoc a front (p ∷ (back ++ c)))

pub statements_see_before : (items : Items) → StatementsSeeBefore items
statements_see_before items n scope before s after e =
    let w = within items n in
    let there = split_at items n s after before (length w.names) in
    let part : Part = record { node = s; scope = record { owner = n; count = if sees_itself (item_at items s) then there.there + length (declared_at items s) else there.there } } in
    let behind = all_in (record { owner = n; count = length (declarations items n) }) w.behind in
    record {
      front = all_in scope w.around ++ there.front;
      part = part;
      back = there.back ++ behind;
      are_parts =
          ap (λ l. all_in scope w.around ++ l ++ behind) (ap (λ l. in_order items n (length w.names) l) e ∙ there.split)
          ∙ parted (all_in scope w.around) there.front part there.back behind;
      is_statement = refl;
      sees =
          ap (λ l. take part.scope.count (w.names ++ l)) (ap (λ l. all_declared items l) e ∙ declared_append items before (s ∷ after))
          ∙ seen w.names (all_declared items before) (declared_at items s) (all_declared items after) there.there there.there_is (sees_itself (item_at items s));
    }
