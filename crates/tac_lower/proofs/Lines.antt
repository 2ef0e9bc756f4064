-- Code in a line, as the code has it: what is counted, changed and passed in it.
use Rattle.std.proofs.Common.{◌≡◌, refl, sym, ap, ◌∙◌, ℕ, zero, suc, ◌+◌, ◌-◌, ◌<◌, ◌≤◌, Bool, List, [], ◌∷◌, ◌++◌, Option, Some, None, map}
use Rattle.std.proofs.Common.{length, take, drop, get_or, set, slice_get, arith, append_assoc, append-nil, take_all}
use Rattle.std.specs.Prelude.{if◌then◌else◌}
use Rattle.std.proofs.lemmas.Bool.{eq-eqb, ne_eqb}
use Rattle.std.proofs.lemmas.List.{map-append, drop-map, length-map, take-append-drop}
use Rattle.std.proofs.lemmas.Grind.{common_steps}
use Rattle.std.proofs.Math.Seq.{take-suc}
use Rattle.std.proofs.Math.ListN.{drop_of_length-le}
use Rattle.tl_base.specs.declared.ids.SymId.{SymId}
use Rattle.tac_form.specs.declared.tac.Instruction.{Instruction}
use Rattle.tac_form.specs.declared.tac.Block.{Block}
use Rattle.tac_form.specs.declared.tac.Exit.{Exit}
use Rattle.tac_lower.specs.Items as items
use Rattle.terra_eval.proofs.Turns.{turn}
use Rattle.tac_lower.specs.Items.{does, ends, leaves, count_ends, exit_of, left_by, loop_of, Draft, empty_draft, with_item}
use Rattle.tac_lower.specs.Items.{with_items}
use Rattle.tac_lower.specs.Pieces.{holder_of}
use Rattle.tac_lower.specs.Data.{bound_of, ending_in, ending_of, held_of, item_of, reached, reached_by, reaching}
use Rattle.tac_lower.specs.declared.item.Ending.{Ending}
use Rattle.tac_lower.specs.declared.item.Item.{Item}
use Rattle.tac_lower.specs.declared.item.Item.TheVariants as kinds
use Rattle.tac_lower.specs.declared.value.Bound.{Bound}
use Rattle.tac_lower.proofs.Places.{count-append}
use Rattle.tac_lower.specs.declared.value.Holder.TheVariants as holders

pub none-left : {A : Type 0} (xs : List A) (i : ℕ) → length xs ≤ i → drop i xs ≡ []
none-left xs i h = drop_of_length-le xs h

-- ends of blocks

pub count-loop : (xs : List items.Item) → count_ends (loop_of xs) ≡ count_ends xs
count-loop [] = refl
count-loop (does i ∷ xs) = count-loop xs
count-loop (ends e ∷ xs) = ap suc (count-loop xs)

pub counted-does : (code new : List Item) (i : Instruction) (n : ℕ) → n ≡ count_ends (map item_of code) → new ≡ code ++ kinds.Does i ∷ []
    → n ≡ count_ends (map item_of new)
counted-does code new i n so_far push =
    let all : count_ends (map item_of new) ≡ count_ends (map item_of code) + 0 =
    ap (λ (l : List Item). count_ends (map item_of l)) push ∙ ap count_ends (map-append item_of code (kinds.Does i ∷ []))
    ∙ count-append (map item_of code) (does i ∷ []) in
    omega (arith, so_far, all)

pub counted-ends : (code new : List Item) (e : Ending) (n m : ℕ) → n ≡ count_ends (map item_of code) → new ≡ code ++ kinds.Ends e ∷ []
    → m ≡ n + 1 → m ≡ count_ends (map item_of new)
counted-ends code new e n m so_far push more =
    let all : count_ends (map item_of new) ≡ count_ends (map item_of code) + 1 =
    ap (λ (l : List Item). count_ends (map item_of l)) push ∙ ap count_ends (map-append item_of code (kinds.Ends e ∷ []))
    ∙ count-append (map item_of code) (ends (ending_of e) ∷ []) in
    omega (arith, so_far, all, more)

-- an item that is replaced

pub replaced : {A : Type 0} (front code : List A) (x y : A) → set (front ++ x ∷ code) (length front) y ≡ front ++ y ∷ code
replaced [] code x y = refl
replaced (z ∷ front) code x y = ap (λ (l : List _). z ∷ l) (replaced front code x y)

pub found : {A : Type 0} (front code : List A) (x : A) → slice_get (front ++ x ∷ code) (length front) ≡ Some x
found [] code x = refl
found (z ∷ front) code x = found front code x

-- an ending in place of an ending
pub count-set : (xs : List items.Item) (p : ℕ) (e z : items.Ending) → ending_in (slice_get xs p) ≡ Some e → count_ends (set xs p (ends z)) ≡ count_ends xs
count-set [] p e z there = refl
count-set (does i ∷ xs) zero e z there = cc there
count-set (ends x ∷ xs) zero e z there = refl
count-set (does i ∷ xs) (suc p) e z there = count-set xs p e z there
count-set (ends x ∷ xs) (suc p) e z there = ap suc (count-set xs p e z there)

set-mapped : {A B : Type 0} (f : A → B) (xs : List A) (p : ℕ) (y : A) → map f (set xs p y) ≡ set (map f xs) p (f y)
set-mapped f [] p y = refl
set-mapped f (x ∷ xs) zero y = refl
set-mapped f (x ∷ xs) (suc p) y = ap (λ (l : List _). f x ∷ l) (set-mapped f xs p y)

pub set-reached : (code : List Item) (p k : ℕ) (e x : Ending) → Some (ending_of e) ≡ ending_in (slice_get (map item_of code) p)
    → ending_of x ≡ reaching (ending_of e) k → map item_of (set code p (kinds.Ends x)) ≡ reached (map item_of code) p k
set-reached code p k e x there same =
    set-mapped item_of code p (kinds.Ends x) ∙ ap (λ (z : items.Ending). set (map item_of code) p (ends z)) same
    ∙ ap (λ (o : Option items.Ending). reached_by (map item_of code) p k o) there

pub none-reached : (code : List items.Item) (p k : ℕ) → None ≡ ending_in (slice_get code p) → code ≡ reached code p k
none-reached code p k none = ap (λ (o : Option items.Ending). reached_by code p k o) none

count-by : (code : List items.Item) (p k : ℕ) (o : Option items.Ending) → ending_in (slice_get code p) ≡ o → count_ends (reached_by code p k o) ≡ count_ends code
count-by code p k (Some e) there = count-set code p e (reaching e k) there
count-by code p k None there = refl

pub count-reached : (code : List items.Item) (p k : ℕ) → count_ends (reached code p k) ≡ count_ends code
count-reached code p k = count-by code p k (ending_in (slice_get code p)) refl

pub reached-there : (lines front code : List items.Item) (e : items.Ending) (p k : ℕ) → lines ≡ front ++ ends e ∷ code → p ≡ length front
    → k ≡ count_ends code → reached lines p k ≡ front ++ ends (reaching e (count_ends code)) ∷ code
reached-there lines front code e p k whole place count =
    ap (λ (l : List items.Item). reached l p k) whole ∙ ap (λ (n : ℕ). reached (front ++ ends e ∷ code) n k) place
    ∙ ap (λ (o : Option items.Item). reached_by (front ++ ends e ∷ code) (length front) k (ending_in o)) (found front code (ends e))
    ∙ replaced front code (ends e) (ends (reaching e k)) ∙ ap (λ (n : ℕ). front ++ ends (reaching e n) ∷ code) count

-- how many blocks have ended behind an ending
pub ended-behind : (lines front code : List items.Item) (e : items.Ending) → lines ≡ front ++ ends e ∷ code
    → count_ends lines - count_ends front - 1 ≡ count_ends code
ended-behind lines front code e whole =
    let all : count_ends lines ≡ count_ends front + suc (count_ends code) = ap count_ends whole ∙ count-append front (ends e ∷ code) in
    omega (arith, all)

-- what was lent of a vector is written back
pub written-back : {A : Type 0} (xs ys : List A) (n : ℕ) → n ≡ length xs → length ys ≡ length xs → take n (ys ++ drop (length ys) xs) ≡ ys
written-back xs ys n count same =
    let past : length xs ≤ length ys = omega arith in
    ap (λ (l : List _). take n (ys ++ l)) (none-left xs (length ys) past) ∙ ap (λ (l : List _). take n l) (append-nil ys)
    ∙ take_all n ys (omega (arith, count, same))

-- nothing is left
pub loop-none : (code : List items.Item) (start : ℕ) → length code ≤ start → code ≡ take start code ++ loop_of (drop start code)
loop-none code start past =
    sym (ap (λ (l : List items.Item). take start code ++ loop_of l) (none-left code start past) ∙ append-nil (take start code) ∙ take_all start code past)

-- loops, from their ends on

abbrev pub no-item : items.Item
no-item = ends leaves

-- the code so far, around the item before what is done
module _ (cur orig : List items.Item) (i j : ℕ) (next : i ≡ j + 1) (within : i ≤ length orig)
    (so_far : cur ≡ take i orig ++ loop_of (drop i orig)) where
  pub item : items.Item
  item = get_or orig j no-item

  inside : j < length orig
  inside = omega (arith, next, within)

  front-item : take i orig ≡ take j orig ++ item ∷ []
  unfolding item
  front-item =
      let more : i ≡ suc j = omega (arith, next) in
      ap (λ (n : ℕ). take n orig) more ∙ take-suc orig j no-item inside

  pub cur-item : cur ≡ take j orig ++ item ∷ loop_of (drop i orig)
  unfolding item
  cur-item =
      so_far ∙ ap (λ (l : List items.Item). l ++ loop_of (drop i orig)) front-item
      ∙ append_assoc (take j orig) (item ∷ []) (loop_of (drop i orig))

  pub left-item : drop j orig ≡ item ∷ drop i orig
  unfolding item
  left-item = turn orig j no-item inside ∙ ap (λ (n : ℕ). item ∷ drop n orig) (sym next)

  count-front : length (take j orig) ≡ j
  count-front = grind (arith, common_steps, inside)

  pub there : slice_get cur j ≡ Some item
  unfolding item
  there =
      ap (λ (l : List items.Item). slice_get l j) cur-item ∙ ap (λ (n : ℕ). slice_get (take j orig ++ item ∷ loop_of (drop i orig)) n) (sym count-front)
      ∙ found (take j orig) (loop_of (drop i orig)) item

  pub is-ending : (e : items.Ending) → Some e ≡ ending_in (slice_get cur j) → item ≡ ends e
  is-ending e same = ending-of item e (same ∙ ap ending_in there)
    where
      ending-of : (x : items.Item) (e : items.Ending) → Some e ≡ ending_in (Some x) → x ≡ ends e
      ending-of (does i) e same = absurd (cc same)
      ending-of (ends d) e same = ap ends (cc same)

  pub turned : (e z : items.Ending) → Some e ≡ ending_in (slice_get cur j) → z ≡ left_by e (count_ends (drop i orig))
      → set cur j (ends z) ≡ take j orig ++ loop_of (drop j orig)
  turned e z same left =
      ap (λ (l : List items.Item). set l j (ends z)) cur-item
      ∙ ap (λ (n : ℕ). set (take j orig ++ item ∷ loop_of (drop i orig)) n (ends z)) (sym count-front)
      ∙ replaced (take j orig) (loop_of (drop i orig)) item (ends z)
      ∙ ap (λ (d : items.Ending). take j orig ++ ends d ∷ loop_of (drop i orig)) left
      ∙ sym (ap (λ (x : items.Item). take j orig ++ loop_of (x ∷ drop i orig)) (is-ending e same))
      ∙ sym (ap (λ (l : List items.Item). take j orig ++ loop_of l) left-item)

  pub turned-count : (e : items.Ending) → Some e ≡ ending_in (slice_get cur j) → count_ends (drop j orig) ≡ count_ends (drop i orig) + 1
  turned-count e same =
      let one : count_ends (drop j orig) ≡ suc (count_ends (drop i orig)) =
      ap count_ends left-item ∙ ap (λ (x : items.Item). count_ends (x ∷ drop i orig)) (is-ending e same) in
      omega (arith, one)

  is-instruction : (x : items.Item) → None ≡ ending_in (Some x) → (loop_of (x ∷ drop i orig) ≡ x ∷ loop_of (drop i orig)) × (count_ends (x ∷ drop i orig) ≡ count_ends (drop i orig))
  is-instruction (does y) same = (refl, refl)
  is-instruction (ends d) same = absurd (cc same)

  pub passed-by : None ≡ ending_in (slice_get cur j) → cur ≡ take j orig ++ loop_of (drop j orig)
  passed-by same =
      cur-item ∙ ap (λ (l : List items.Item). take j orig ++ l) (sym (is-instruction item (same ∙ ap ending_in there)).0)
      ∙ sym (ap (λ (l : List items.Item). take j orig ++ loop_of l) left-item)

  pub passed-count : None ≡ ending_in (slice_get cur j) → count_ends (drop j orig) ≡ count_ends (drop i orig)
  passed-count same = ap count_ends left-item ∙ (is-instruction item (same ∙ ap ending_in there)).1

pub turned-set : (code : List Item) (j : ℕ) (x : Ending) (whole : List items.Item) → set (map item_of code) j (ends (ending_of x)) ≡ whole
    → map item_of (set code j (kinds.Ends x)) ≡ whole
turned-set code j x whole same = set-mapped item_of code j (kinds.Ends x) ∙ same

-- variables

module _ (x : SymId) (vs : List Bound) (i : ℕ) (v : Bound) (step : drop i vs ≡ v ∷ drop (i + 1) vs)
    (passed : holder_of x (map bound_of vs) ≡ holder_of x (map bound_of (drop i vs))) where
  pub found-here : x.0 ≡ v.symbol.0 → Some (held_of v.holder) ≡ holder_of x (map bound_of vs)
  found-here same =
      sym (passed ∙ ap (λ (l : List Bound). holder_of x (map bound_of l)) step
      ∙ ap (λ (b : Bool). if b then Some (held_of v.holder) else holder_of x (map bound_of (drop (i + 1) vs))) (eq-eqb x.0 v.symbol.0 same))

  pub found-later : (x.0 ≡ v.symbol.0 → ⊥) → holder_of x (map bound_of vs) ≡ holder_of x (map bound_of (drop (i + 1) vs))
  found-later other =
      passed ∙ ap (λ (l : List Bound). holder_of x (map bound_of l)) step
      ∙ ap (λ (b : Bool). if b then Some (held_of v.holder) else holder_of x (map bound_of (drop (i + 1) vs))) (ne_eqb x.0 v.symbol.0 other)

abbrev pub no-variable : Bound
no-variable = record { symbol = record { 0 = 0 }; holder = holders.Temp 0 }

pub left-scope : (vs tail : List Bound) (inner count : ℕ) → inner ≡ length vs - count → tail ≡ drop inner vs
    → map bound_of tail ≡ drop (length (map bound_of vs) - count) (map bound_of vs)
left-scope vs tail inner count many rest =
    ap (λ (l : List Bound). map bound_of l) rest ∙ sym (drop-map bound_of inner vs)
    ∙ ap (λ (n : ℕ). drop n (map bound_of vs)) (many ∙ ap (λ (n : ℕ). n - count) (sym (length-map vs bound_of)))

-- blocks

pub items-append : (d : Draft) (xs ys : List items.Item) → with_items d (xs ++ ys) ≡ with_items (with_items d xs) ys
items-append d [] ys = refl
items-append d (x ∷ xs) ys = items-append (with_item d x) xs ys

abbrev pub draft : List Block → List Instruction → Draft
draft blocks code = record { blocks = blocks; code = code }

pub draft-more : (blocks : List Block) (code : List Instruction) (so_far : List Item) (item : Item) →
    draft blocks code ≡ with_items empty_draft (map item_of so_far) →
    with_item (draft blocks code) (item_of item) ≡ with_items empty_draft (map item_of (so_far ++ item ∷ []))
draft-more blocks code so_far item same =
    ap (λ (d : Draft). with_item d (item_of item)) same ∙ sym (items-append empty_draft (map item_of so_far) (item_of item ∷ []))
    ∙ ap (λ (l : List items.Item). with_items empty_draft l) (sym (map-append item_of so_far (item ∷ [])))

module _ (blocks new : List Block) (code left : List Instruction) (so_far : List Item) (item : Item)
    (same : draft blocks code ≡ with_items empty_draft (map item_of so_far)) where
  pub draft-does : (i : Instruction) → item ≡ kinds.Does i → new ≡ blocks → left ≡ code ++ i ∷ []
      → draft new left ≡ with_items empty_draft (map item_of (so_far ++ item ∷ []))
  draft-does i is kept push =
      ap (λ (bs : List Block). draft bs left) kept ∙ ap (λ (l : List Instruction). draft blocks l) push
      ∙ ap (λ (it : Item). with_item (draft blocks code) (item_of it)) (sym is)
      ∙ draft-more blocks code so_far item same

  pub draft-ends : (e : Ending) (b : Block) → item ≡ kinds.Ends e → new ≡ blocks ++ b ∷ [] → b.instructions ≡ code
      → b.exit ≡ exit_of 0 (length blocks) (ending_of e) → left ≡ []
      → draft new left ≡ with_items empty_draft (map item_of (so_far ++ item ∷ []))
  draft-ends e b is push instructions exit none =
      let made : b ≡ record { instructions = code; exit = exit_of 0 (length blocks) (ending_of e) } =
      ap (λ (is : List Instruction). record { instructions = is; exit = b.exit }) instructions
      ∙ ap (λ (x : Exit). record { instructions = code; exit = x }) exit in
      ap (λ (l : List Instruction). draft new l) none
      ∙ ap (λ (bs : List Block). draft bs []) (push ∙ ap (λ (d : Block). blocks ++ d ∷ []) made)
      ∙ ap (λ (it : Item). with_item (draft blocks code) (item_of it)) (sym is)
      ∙ draft-more blocks code so_far item same

-- a loop that is left has as many ends
pub count-left : (code lent new : List Item) (start n : ℕ) → n ≡ count_ends (map item_of code) → lent ≡ code
    → map item_of new ≡ take start (map item_of lent) ++ loop_of (drop start (map item_of lent)) → n ≡ count_ends (map item_of new)
count-left code lent new start n count same left =
    let lines = map item_of code in
    let whole : count_ends (take start lines) + count_ends (drop start lines) ≡ count_ends lines =
    sym (count-append (take start lines) (drop start lines)) ∙ ap count_ends (take-append-drop start lines) in
    let now : count_ends (map item_of new) ≡ count_ends (take start lines) + count_ends (loop_of (drop start lines)) =
    ap count_ends (left ∙ ap (λ (l : List Item). take start (map item_of l) ++ loop_of (drop start (map item_of l))) same)
    ∙ count-append (take start lines) (loop_of (drop start lines)) in
    omega (arith, count, whole, now, count-loop (drop start lines))

pub count-closed : (code lent new : List Item) (p k n : ℕ) → n ≡ count_ends (map item_of code) → lent ≡ code
    → map item_of new ≡ reached (map item_of lent) p k → n ≡ count_ends (map item_of new)
count-closed code lent new p k n count same made =
    count ∙ sym (ap count_ends (made ∙ ap (λ (l : List Item). reached (map item_of l) p k) same) ∙ count-reached (map item_of code) p k)
