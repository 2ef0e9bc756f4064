-- Which counts of letters are taken, and the first that is not.
use Rattle.std.specs.Prelude.{◌≡◌, ℕ, zero, suc, pred, ◌+◌, ◌-◌, ◌<◌, ◌≤◌, Bool, true, false, cond, ◌||◌, ◌&&◌, nat_eq, nat_lt}
use Rattle.std.specs.Prelude.{List, [], ◌∷◌, length, take, drop, get_or, slice_set, replicate, if◌then◌else◌}
use Rattle.std.specs.List.{list_any}
use Rattle.std.specs.Str.{bytes_eq}
use Rattle.std.proofs.Common.{refl, sym, ap, ◌∙◌, arith}
use Rattle.std.proofs.lemmas.Bool.{eqb-true, eqb-false, true≢false}
use Rattle.std.proofs.lemmas.List.{get_or-set_same, get_or-set_other, length-set, length-replicate}
use Rattle.tl_tree.specs.Item.{Item}
use Rattle.tl_tree.specs.Item as kept
use Rattle.tl_tree.specs.Nodes.{item_at, last_of}
use Rattle.tl_tree.specs.Code.{Items}
use Rattle.tl_renaming.specs.Renamed.{are_digits, prefix, has_prefix, item_has_prefix, is_taken, free_from, letters}
use Rattle.tl_renaming.specs.Passes.{leading, taken_by_name, taken_by, AreTaken}
use Rattle.tl_renaming.proofs.Ordered.{by_node, none_behind, or_true, or_false, or_none, or_or}

-- ---- the one count that a name takes

and_false : (b : Bool) → (b && false) ≡ false
and_false true = refl
and_false false = refl

equal_by : (a b c d : ℕ) → (a ≡ b → c ≡ d) → (c ≡ d → a ≡ b) → (x y : Bool) → nat_eq a b ≡ x → nat_eq c d ≡ y → nat_eq a b ≡ nat_eq c d
equal_by a b c d to from true true e f = e ∙ sym f
equal_by a b c d to from false false e f = e ∙ sym f
equal_by a b c d to from true false e f = absurd (eqb-false c d f (to (eqb-true a b e)))
equal_by a b c d to from false true e f = absurd (eqb-false a b e (from (eqb-true c d f)))

equal_suc : (a b c : ℕ) → c ≡ suc a → nat_eq c (suc b) ≡ nat_eq a b
equal_suc a b c s = equal_by c (suc b) a b (λ e. omega (arith, e, s)) (λ e. omega (arith, e, s)) (nat_eq c (suc b)) (nat_eq a b) refl refl

zero_other : (a b : ℕ) → b ≡ suc a → (x : Bool) → nat_eq 0 b ≡ x → nat_eq 0 b ≡ false
zero_other a b e true t = absurd (omega (arith, e, eqb-true 0 b t))
zero_other a b e false t = t

other_zero : (a b : ℕ) → b ≡ suc a → (x : Bool) → nat_eq b 0 ≡ x → nat_eq b 0 ≡ false
other_zero a b e true t = absurd (omega (arith, e, eqb-true b 0 t))
other_zero a b e false t = t

-- the test of the prefix, by the leading letters
abbrev takes : ℕ → ℕ → List ℕ → Bool
takes count found name = nat_eq found count && are_digits (drop found name)

letter_no_digit : (x : ℕ) (xs : List ℕ) → x ≡ 118 → are_digits (x ∷ xs) ≡ false
letter_no_digit x xs e = ap (λ y. are_digits (y ∷ xs)) e ∙ and_false (nat_lt 0 (length (118 ∷ xs)))

at_none : (x : ℕ) (xs : List ℕ) (b : Bool) → nat_eq x 118 ≡ b → are_digits (x ∷ xs) ≡ takes 0 (cond b (1 + leading xs) 0) (x ∷ xs)
at_none x xs true e =
    letter_no_digit x xs (eqb-true x 118 e)
    ∙ sym (ap (λ c. c && are_digits (drop (1 + leading xs) (x ∷ xs)))
    (other_zero (leading xs) (1 + leading xs) (omega arith) (nat_eq (1 + leading xs) 0) refl))
at_none x xs false e = refl

one_more : (n : ℕ) → suc n ≡ 1 + n
one_more n = omega arith

at_more : (count x : ℕ) (xs : List ℕ) (b : Bool) → has_prefix count xs ≡ takes count (leading xs) xs
    → ((b && bytes_eq (take count xs) (prefix count)) && are_digits (drop count xs)) ≡ takes (suc count) (cond b (1 + leading xs) 0) (x ∷ xs)
at_more count x xs true h =
    h
    ∙ ap (λ n. nat_eq (leading xs) count && are_digits (drop n (x ∷ xs))) (one_more (leading xs))
    ∙ sym (ap (λ c. c && are_digits (drop (1 + leading xs) (x ∷ xs))) (equal_suc (leading xs) count (1 + leading xs) (omega arith)))
at_more count x xs false h =
    sym (ap (λ c. c && are_digits (x ∷ xs)) (zero_other count (suc count) refl (nat_eq 0 (suc count)) refl))

pub prefix_is : (count : ℕ) (name : List ℕ) → has_prefix count name ≡ takes count (leading name) name
prefix_is zero [] = refl
prefix_is zero (x ∷ xs) = at_none x xs (nat_eq x 118) refl
prefix_is (suc count) [] = sym (ap (λ c. c && are_digits []) (zero_other count (suc count) refl (nat_eq 0 (suc count)) refl))
prefix_is (suc count) (x ∷ xs) = at_more count x xs (nat_eq x 118) (prefix_is count xs)

-- ---- the counts that nodes take

one_at : (at count : ℕ) (taken : List Bool) → count < length taken → (b : Bool) → (e : Bool) → nat_eq at count ≡ e
    → get_or (if b then slice_set taken at true else taken) count false ≡ (get_or taken count false || (e && b))
one_at at count taken lt true true e =
    let same : at ≡ count = eqb-true at count e in
    ap (λ k. get_or (slice_set taken at true) k false) (sym same)
    ∙ get_or-set_same taken at true false (omega (arith, lt, same))
    ∙ sym (or_true (get_or taken count false))
one_at at count taken lt true false e =
    get_or-set_other taken at count true false (λ s. eqb-false at count e (sym s)) ∙ sym (or_false (get_or taken count false))
one_at at count taken lt false e f = sym (or_none (get_or taken count false) e)

name_at : (count : ℕ) (name : List ℕ) (taken : List Bool) → count < length taken
    → get_or (taken_by_name name taken) count false ≡ (get_or taken count false || has_prefix count name)
name_at count name taken lt =
    one_at (leading name) count taken lt (are_digits (drop (leading name) name)) (nat_eq (leading name) count) refl
    ∙ ap (λ b. get_or taken count false || b) (sym (prefix_is count name))

node_at : (count : ℕ) (i : Item) (taken : List Bool) → count < length taken
    → get_or (taken_by i taken) count false ≡ (get_or taken count false || item_has_prefix count i)
node_at count (kept.Name place offset name) taken lt = name_at count name taken lt
node_at count (kept.Numeral place text) taken lt = sym (or_false (get_or taken count false))
node_at count (kept.Literal place text) taken lt = sym (or_false (get_or taken count false))
node_at count (kept.Expression place e) taken lt = sym (or_false (get_or taken count false))
node_at count (kept.Statement place s) taken lt = sym (or_false (get_or taken count false))
node_at count (kept.TerraExpression place e) taken lt = sym (or_false (get_or taken count false))
node_at count (kept.TerraStatement place s) taken lt = sym (or_false (get_or taken count false))
node_at count (kept.Piece p) taken lt = sym (or_false (get_or taken count false))

length_name : (at : ℕ) (taken : List Bool) (b : Bool) → length (if b then slice_set taken at true else taken) ≡ length taken
length_name at taken true = length-set taken at true
length_name at taken false = refl

pub length_taken : (i : Item) (taken : List Bool) → length (taken_by i taken) ≡ length taken
length_taken (kept.Name place offset name) taken = length_name (leading name) taken (are_digits (drop (leading name) name))
length_taken (kept.Numeral place text) taken = refl
length_taken (kept.Literal place text) taken = refl
length_taken (kept.Expression place e) taken = refl
length_taken (kept.Statement place s) taken = refl
length_taken (kept.TerraExpression place e) taken = refl
length_taken (kept.TerraStatement place s) taken = refl
length_taken (kept.Piece p) taken = refl

-- what some nodes take
abbrev pub all_taken : Items → List Bool → List Bool
all_taken [] taken = taken
all_taken (i ∷ more) taken = all_taken more (taken_by i taken)

all_at : (count : ℕ) (some : Items) (taken : List Bool) → count < length taken
    → get_or (all_taken some taken) count false ≡ (get_or taken count false || list_any (item_has_prefix count) some)
all_at count [] taken lt = sym (or_false (get_or taken count false))
all_at count (i ∷ more) taken lt =
    all_at count more (taken_by i taken) (omega (arith, lt, length_taken i taken))
    ∙ ap (λ x. x || list_any (item_has_prefix count) more) (node_at count i taken lt)
    ∙ or_or (get_or taken count false) (item_has_prefix count i) (list_any (item_has_prefix count) more)

length_all : (some : Items) (taken : List Bool) → length (all_taken some taken) ≡ length taken
length_all [] taken = refl
length_all (i ∷ more) taken = length_all more (taken_by i taken) ∙ length_taken i taken

pub node_taken : (items : Items) (k : ℕ) (taken : List Bool)
    → all_taken (drop (suc k) items) (taken_by (item_at items (record { 0 = k })) taken) ≡ all_taken (drop k items) taken
node_taken items k taken =
    by_node (λ i before after. all_taken after (taken_by i taken) ≡ all_taken before taken) (λ i more. refl) refl items k

untaken : (k n : ℕ) → get_or (replicate k false) n false ≡ false
untaken zero n = refl
untaken (suc k) zero = refl
untaken (suc k) (suc n) = untaken k n

are_all : (items : Items) (k : ℕ) (taken first : List Bool) → k ≡ suc (last_of items).0
    → all_taken (drop k items) taken ≡ all_taken items first → taken ≡ all_taken items first
are_all items k taken first e h = sym (ap (λ l. all_taken l taken) (none_behind items k e)) ∙ h

pub just_taken : (items : Items) (k len : ℕ) (taken first : List Bool) → k ≡ suc (last_of items).0
    → all_taken (drop k items) taken ≡ all_taken items first → first ≡ replicate len false → AreTaken items taken
just_taken items k len taken first e h f = λ count lt.
    let all : taken ≡ all_taken items first = are_all items k taken first e h in
    ap (λ l. get_or l count false) (all ∙ ap (all_taken items) f)
    ∙ all_at count items (replicate len false) (omega (arith, lt, ap length all, length_all items first, ap length f))
    ∙ ap (λ x. x || list_any (item_has_prefix count) items) (untaken len count)

pub taken_length : (items : Items) (k len : ℕ) (taken first : List Bool) → k ≡ suc (last_of items).0
    → all_taken (drop k items) taken ≡ all_taken items first → first ≡ replicate len false → length taken ≡ len
taken_length items k len taken first e h f =
    ap length (are_all items k taken first e h) ∙ length_all items first ∙ ap length f ∙ length-replicate len false

-- ---- the first that is free

-- how many further counts are tried from one on
abbrev pub tries : Items → ℕ → ℕ
tries items count = (length items + 1) - count

pub free_first : (items : Items) → free_from items (tries items 1) 1 ≡ letters items
free_first items = ap (λ k. free_from items k 1) (omega arith)

free_more : (items : Items) (count t : ℕ) (total : ℕ) → is_taken items count ≡ true → free_from items (suc t) count ≡ total
    → free_from items t (count + 1) ≡ total
free_more items count t total is h = sym (ap (λ b. if b then free_from items t (count + 1) else count) is) ∙ h

pub free_next : (items : Items) (count total : ℕ) → is_taken items count ≡ true → count < suc (suc (last_of items).0)
    → free_from items (tries items count) count ≡ total → free_from items (tries items (count + 1)) (count + 1) ≡ total
free_next [] count total is lt h = absurd (true≢false (sym is))
free_next (i ∷ more) count total is lt h =
    let e : tries (i ∷ more) count ≡ suc (tries (i ∷ more) (count + 1)) = omega (arith, lt) in
    free_more (i ∷ more) count (tries (i ∷ more) (count + 1)) total is (ap (λ k. free_from (i ∷ more) k count) (sym e) ∙ h)

free_stops : (items : Items) (t count : ℕ) → is_taken items count ≡ false → free_from items t count ≡ count
free_stops items zero count is = refl
free_stops items (suc t) count is = ap (λ b. if b then free_from items t (count + 1) else count) is

pub free_here : (items : Items) (count total : ℕ) → is_taken items count ≡ false
    → free_from items (tries items count) count ≡ total → count ≡ total
free_here items count total is h = sym (free_stops items (tries items count) count is) ∙ h

le_all : (n count : ℕ) → suc (suc (pred n)) ≤ count → (n + 1) - count ≡ 0
le_all zero count h = omega (arith, h)
le_all (suc n) count h = omega (arith, h)

pub free_behind : (items : Items) (count total : ℕ) → suc (suc (last_of items).0) ≤ count
    → free_from items (tries items count) count ≡ total → count ≡ total
free_behind items count total le h = sym (ap (λ k. free_from items k count) (le_all (length items) count le)) ∙ h
