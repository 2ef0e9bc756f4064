-- How the walks over entries, functions and bytes go on.
use Rattle.std.proofs.Common.{◌≡◌, ℕ, zero, suc, ◌+◌, ◌-◌, ◌<◌, ◌≤◌, ◌/◌, ◌%◌, Bool, true, false}
use Rattle.std.proofs.Common.{List, [], ◌∷◌, ◌++◌, length, drop, get_or, Option, Some, None, slice_get, if◌then◌else◌}
use Rattle.std.proofs.Common.{refl, sym, ap, ◌∙◌, arith}
use Rattle.std.specs.Prelude.{nat_lt, not, ◌||◌}
use Rattle.std.proofs.lemmas.Bool.Decides.{nat_tests}
use Rattle.std.proofs.lemmas.List.{append-nil, append_assoc, at_drop_more, at_drop_all}
use Rattle.tl_base.specs.declared.ids.TypeId.{TypeId}
use Rattle.lua_value.specs.declared.value.Value.{Value}
use Rattle.lua_table.specs.Pairs.{Pairs}
use Rattle.terra_types.specs.declared.types.TypeForm.{TypeForm}
use Rattle.terra_term.specs.declared.store.Export.{Export}
use Rattle.exotype.specs.World.{StageState}
use Rattle.check_model.specs.declared.job.Reached.{Reached}
use Rattle.terra_lib.specs.Exports.{may_be_exported}
use Rattle.check_library.specs.Layouts.{by_form, place_within, first_bytes}
use Rattle.check_library.specs.Counting.{CountedState, Count, Sum, one_at, with_functions, mentioned, gone_through, gone_on}
use Rattle.check_library.specs.Counting.{nodes_of, summed, count_function, count_then, count_exports, most_nodes}
use Rattle.check_library.specs.Exports.{Next, next_of, unless_left_out, fate_of, taken, taken_at}

-- ---- lists by places

abbrev pub with_first : {X : Type 0} → Option X → List X → List X
with_first None xs = xs
with_first (Some x) xs = x ∷ xs

from_place : {X : Type 0} (xs : List X) (i : ℕ) → drop i xs ≡ with_first (slice_get xs i) (drop (suc i) xs)
from_place [] zero = refl
from_place [] (suc i) = refl
from_place (x ∷ xs) zero = refl
from_place (x ∷ xs) (suc i) = from_place xs i

-- the items from a place on: the one that is there, and those behind it
pub at_place : {X : Type 0} (xs : List X) (i : ℕ) (x : Option X) → x ≡ slice_get xs i → drop i xs ≡ with_first x (drop (i + 1) xs)
at_place {X} xs i x is =
    let next : suc i ≡ i + 1 = omega arith in
    from_place xs i
    ∙ ap (λ (n : ℕ). with_first (slice_get xs i) (drop n xs)) next
    ∙ ap (λ (y : Option X). with_first y (drop (i + 1) xs)) (sym is)

-- ---- places of structs

within_suc : (k m : ℕ) (types : List TypeForm) (t : TypeId) → k ≡ suc m
    → place_within k types t ≡ by_form (slice_get types t.0) (λ u. place_within m types u)
within_suc k m types t e = rw e refl

pub within_next : (n : ℕ) (types : List TypeForm) (t : TypeId) → 0 < n
    → place_within n types t ≡ by_form (slice_get types t.0) (λ u. place_within (n - 1) types u)
within_next n types t h = within_suc n (n - 1) types t (omega arith)

-- ---- bytes

bytes_suc : (k m number : ℕ) → k ≡ suc m → first_bytes k number ≡ number % 256 ∷ first_bytes m (number / 256)
bytes_suc k m number e = rw e refl

-- one byte more
pub bytes_next : (made all : List ℕ) (n i number : ℕ) → i < n → made ++ first_bytes (n - i) number ≡ all
    → (made ++ number % 256 ∷ []) ++ first_bytes (n - (i + 1)) (number / 256) ≡ all
bytes_next made all n i number h so_far =
    append_assoc made (number % 256 ∷ []) (first_bytes (n - (i + 1)) (number / 256))
    ∙ ap (λ (bs : List ℕ). made ++ bs) (sym (bytes_suc (n - i) (n - (i + 1)) number (omega arith))) ∙ so_far

bytes_none : (k number : ℕ) → k ≡ 0 → first_bytes k number ≡ []
bytes_none k number e = rw e refl

pub bytes_end : (made all : List ℕ) (n i number : ℕ) → n ≤ i → made ++ first_bytes (n - i) number ≡ all → made ≡ all
bytes_end made all n i number h so_far =
    sym (append-nil made) ∙ ap (λ (bs : List ℕ). made ++ bs) (sym (bytes_none (n - i) number (omega arith))) ∙ so_far

-- ---- what is reached

through_suc : (w : StageState) (k m i : ℕ) (fs : List ℕ) → k ≡ suc m
    → gone_through w k i fs ≡ gone_on (slice_get fs i) fs (λ f. gone_through w m (i + 1) (with_functions fs (mentioned w f)))
through_suc w k m i fs e = rw e refl

-- a function more is gone through
pub through_next : (w : StageState) (n j i : ℕ) (fs : List ℕ) (f : ℕ) → j < n → Some f ≡ slice_get fs i
    → gone_through w (n - (j + 1)) (i + 1) (with_functions fs (mentioned w f)) ≡ gone_through w (n - j) i fs
through_next w n j i fs f h is =
    ap (λ (x : Option ℕ). gone_on x fs (λ g. gone_through w (n - (j + 1)) (i + 1) (with_functions fs (mentioned w g)))) is
    ∙ sym (through_suc w (n - j) (n - (j + 1)) i fs (omega arith))

-- there is none behind the last one
pub through_end : (w : StageState) (k i : ℕ) (fs : List ℕ) → None ≡ slice_get fs i → fs ≡ gone_through w k i fs
through_end w zero i fs is = refl
through_end w (suc n) i fs is =
    ap (λ (x : Option ℕ). gone_on x fs (λ g. gone_through w n (i + 1) (with_functions fs (mentioned w g)))) is

through_none : (w : StageState) (k i : ℕ) (fs : List ℕ) → k ≡ 0 → fs ≡ gone_through w k i fs
through_none w k i fs e = rw e refl

pub through_stop : (w : StageState) (n j i : ℕ) (fs : List ℕ) → n ≤ j → fs ≡ gone_through w (n - j) i fs
through_stop w n j i fs h = through_none w (n - j) i fs (omega arith)

-- a function more is put behind others
put_first : (fs : List ℕ) (r : Option Reached) (rs : List Reached)
    → with_functions (with_functions fs (one_at r)) rs ≡ with_functions fs (with_first r rs)
put_first fs None rs = refl
put_first fs (Some r) rs = refl

pub put_next : (fs gs : List ℕ) (rs : List Reached) (i : ℕ) → gs ≡ with_functions fs (one_at (slice_get rs i))
    → with_functions gs (drop (i + 1) rs) ≡ with_functions fs (drop i rs)
put_next fs gs rs i is =
    ap (λ (hs : List ℕ). with_functions hs (drop (i + 1) rs)) is
    ∙ put_first fs (slice_get rs i) (drop (i + 1) rs)
    ∙ ap (λ (qs : List Reached). with_functions fs qs) (sym (at_place rs i (slice_get rs i) refl))

pub put_end : (fs : List ℕ) (rs : List Reached) (i : ℕ) → length rs ≤ i → fs ≡ with_functions fs (drop i rs)
put_end fs rs i past = sym (at_drop_all (λ qs. with_functions fs qs) rs i past)

-- ---- what is counted

pub passes : (n more : ℕ) → n ≤ 131072 → 131072 - n < more → nat_lt most_nodes (n + more) ≡ true
passes n more within h = grind (arith, nat_tests)

pub stays_within : (n more : ℕ) → n ≤ 131072 → more ≤ 131072 - n → nat_lt most_nodes (n + more) ≡ false
stays_within n more within h = grind (arith, nat_tests)

abbrev sum_by : Bool → StageState → (n more f : ℕ) → List ℕ → Sum
sum_by b w n more f fs = if b then record { nodes = n; passing = Some f } else summed w (n + more) fs

sum_passes : (w : StageState) (n more f : ℕ) (fs : List ℕ) → more ≡ nodes_of w f → nat_lt most_nodes (n + more) ≡ true
    → summed w n (f ∷ fs) ≡ record { nodes = n; passing = Some f }
sum_passes w n more f fs is h =
    ap (λ (m : ℕ). sum_by (nat_lt most_nodes (n + m)) w n m f fs) (sym is)
    ∙ ap (λ (b : Bool). sum_by b w n more f fs) h

sum_goes_on : (w : StageState) (n more f : ℕ) (fs : List ℕ) → more ≡ nodes_of w f → nat_lt most_nodes (n + more) ≡ false
    → summed w n (f ∷ fs) ≡ summed w (n + more) fs
sum_goes_on w n more f fs is h =
    ap (λ (m : ℕ). sum_by (nat_lt most_nodes (n + m)) w n m f fs) (sym is)
    ∙ ap (λ (b : Bool). sum_by b w n more f fs) h

-- a function is added, or passes the most that there may be
pub sum_next : (w : StageState) (n more i : ℕ) (fs : List ℕ) (d : ℕ) → i < length fs → n ≤ 131072
    → more ≡ nodes_of w (get_or fs i d)
    → more ≤ 131072 - n → summed w (n + more) (drop (i + 1) fs) ≡ summed w n (drop i fs)
sum_next w n more i fs d within small is h =
    sym (at_drop_more (λ gs. summed w n gs) fs i d within
    ∙ sum_goes_on w n more (get_or fs i d) (drop (i + 1) fs) is (stays_within n more small h))

pub sum_stop : (w : StageState) (n more i : ℕ) (fs : List ℕ) (d : ℕ) → i < length fs → n ≤ 131072
    → more ≡ nodes_of w (get_or fs i d)
    → 131072 - n < more → record { nodes = n; passing = Some (get_or fs i d) } ≡ summed w n (drop i fs)
sum_stop w n more i fs d within small is h =
    sym (at_drop_more (λ gs. summed w n gs) fs i d within
    ∙ sum_passes w n more (get_or fs i d) (drop (i + 1) fs) is (passes n more small h))

pub sum_end : (w : StageState) (n i : ℕ) (fs : List ℕ) → length fs ≤ i
    → record { nodes = n; passing = None } ≡ summed w n (drop i fs)
sum_end w n i fs past = sym (at_drop_all (λ gs. summed w n gs) fs i past)

-- an export more is counted, or passes the most that there may be
pub count_next : (w : StageState) (c d : CountedState) (i : ℕ) (es : List Export) (e : Export) → i < length es
    → record { counted = d; passing = None } ≡ count_function w c (get_or es i e).function
    → count_exports w d (drop (i + 1) es) ≡ count_exports w c (drop i es)
count_next w c d i es e within is =
    let go : CountedState → Count = λ d. count_exports w d (drop (i + 1) es) in
    ap (λ (k : Count). count_then k go) is ∙ sym (at_drop_more (λ xs. count_exports w c xs) es i e within)

pub count_stop : (w : StageState) (c d : CountedState) (f i : ℕ) (es : List Export) (e : Export) → i < length es
    → record { counted = d; passing = Some f } ≡ count_function w c (get_or es i e).function
    → record { counted = d; passing = Some f } ≡ count_exports w c (drop i es)
count_stop w c d f i es e within is =
    let go : CountedState → Count = λ d. count_exports w d (drop (i + 1) es) in
    ap (λ (k : Count). count_then k go) is ∙ sym (at_drop_more (λ xs. count_exports w c xs) es i e within)

pub count_end : (w : StageState) (c : CountedState) (i : ℕ) (es : List Export) → length es ≤ i
    → record { counted = c; passing = None } ≡ count_exports w c (drop i es)
count_end w c i es past = sym (at_drop_all (λ xs. count_exports w c xs) es i past)

-- ---- entries

-- an entry more is taken
pub next_on : (w : StageState) (at_end : Bool) (ps rest : Pairs) (p : Value × Value) (whole : Next) → ps ≡ p ∷ rest
    → next_of w at_end ps ≡ whole → unless_left_out (fate_of w at_end p.0 p.1) rest (next_of w at_end rest) ≡ whole
next_on w at_end ps rest p whole is so_far = sym (ap (λ (qs : Pairs). next_of w at_end qs) is) ∙ so_far

-- an entry more is taken behind those before it
first_or_not : (b : Bool) (p : Value × Value) (rest : Pairs) → (if b then p ∷ [] else []) ++ rest ≡ (if b then p ∷ rest else rest)
first_or_not true p rest = refl
first_or_not false p rest = refl

taken_first : (w : StageState) (at_end : Bool) (p : Option (Value × Value)) (rest : Pairs)
    → taken_at w at_end p ++ taken w at_end rest ≡ taken w at_end (with_first p rest)
taken_first w at_end None rest = refl
taken_first w at_end (Some p) rest = first_or_not (not at_end || may_be_exported w p.1) p (taken w at_end rest)

pub taken_next : (w : StageState) (at_end : Bool) (made new all ps : Pairs) (i : ℕ) → made ++ taken w at_end (drop i ps) ≡ all
    → new ≡ made ++ taken_at w at_end (slice_get ps i) → new ++ taken w at_end (drop (i + 1) ps) ≡ all
taken_next w at_end made new all ps i so_far is =
    ap (λ (qs : Pairs). qs ++ taken w at_end (drop (i + 1) ps)) is
    ∙ append_assoc made (taken_at w at_end (slice_get ps i)) (taken w at_end (drop (i + 1) ps))
    ∙ ap (λ (qs : Pairs). made ++ qs) (taken_first w at_end (slice_get ps i) (drop (i + 1) ps))
    ∙ ap (λ (qs : Pairs). made ++ taken w at_end qs) (sym (at_place ps i (slice_get ps i) refl)) ∙ so_far

pub taken_end : (w : StageState) (at_end : Bool) (made all ps : Pairs) (i : ℕ) → length ps ≤ i
    → made ++ taken w at_end (drop i ps) ≡ all
    → made ≡ all
taken_end w at_end made all ps i past so_far =
    sym (append-nil made)
    ∙ ap (λ (qs : Pairs). made ++ qs) (sym (at_drop_all (λ qs. taken w at_end qs) ps i past)) ∙ so_far
