-- One step of each recursion of the definitions, as a loop takes it.
use Rattle.std.proofs.Common.{◌≡◌, ℕ, suc, ◌+◌, ◌-◌, ◌*◌, ◌<◌, ◌≤◌, Bool, true, false, ◌&&◌, leb, List, [], ◌∷◌, ◌++◌, Option, None, Some}
use Rattle.std.proofs.Common.{refl, sym, ap, ◌∙◌, append_assoc, arith}
use Rattle.std.proofs.lemmas.Bool.{leb-true}
use Rattle.std.proofs.lemmas.List.{append-nil}
use Rattle.elf_image.specs.declared.error.ImageError.{ImageError}
use Rattle.elf_image.specs.declared.error.ImageError.TheVariants.{BadField}
use Rattle.elf_image.specs.declared.layout.Layout.{Layout}
use Rattle.elf_image.specs.declared.rule.Rule.TheVariants.{Is, Between}
use Rattle.elf_image.specs.Fields.{u8_at, u32_at, field, allows, or_else, unless, bad_field, bad_fields}
use Rattle.elf_image.specs.Loads.{words_at}
use Rattle.elf_image.specs.Exports.{code_rule, result_rule, code_fields, record_fields, bad_record, bad_records, symbol_at, symbols_at}
use Rattle.elf_image.specs.Exports.{is_right, are_right}
use Rattle.elf_image.specs.Entries.{bad_entry, bad_entries_from, entry_at, entries_at}

pub code_fields_step : (bytes : List ℕ) (entry params i n : ℕ) → i < n → bad_fields bytes entry (code_fields params i (n - i)) ≡ or_else (bad_field bytes entry (field (8 + i) 1 (code_rule params i))) (bad_fields bytes entry (code_fields params (i + 1) (n - (i + 1))))
unfolding code_fields
code_fields_step bytes entry params i n lt =
    let e : n - i ≡ suc (n - (i + 1)) = omega arith in
    rw e refl

pub code_fields_none : (bytes : List ℕ) (entry params i n : ℕ) → n ≤ i → bad_fields bytes entry (code_fields params i (n - i)) ≡ None
unfolding code_fields
code_fields_none bytes entry params i n le =
    let e : n - i ≡ 0 = omega arith in
    rw e refl

pub bad_records_step : (bytes : List ℕ) (first i n : ℕ) → i < n → bad_records (n - i) bytes (first + 24 * i) ≡ or_else (bad_record bytes (first + 24 * i)) (bad_records (n - (i + 1)) bytes (first + 24 * (i + 1)))
unfolding bad_records
bad_records_step bytes first i n lt =
    let e : n - i ≡ suc (n - (i + 1)) = omega arith in
    let at : first + 24 * i + 24 ≡ first + 24 * (i + 1) = omega arith in
    rw e (ap (λ (k : ℕ). or_else (bad_record bytes (first + 24 * i)) (bad_records (n - (i + 1)) bytes k)) at)

pub bad_records_none : (bytes : List ℕ) (at i n : ℕ) → n ≤ i → bad_records (n - i) bytes at ≡ None
unfolding bad_records
bad_records_none bytes at i n le =
    let e : n - i ≡ 0 = omega arith in
    rw e refl

pub bad_entries_step : (text count : ℕ) (bytes : List ℕ) (first i n : ℕ) → i < n → bad_entries_from (n - i) text count bytes (first + 16 * i) ≡ or_else (bad_entry text count bytes (first + 16 * i)) (bad_entries_from (n - (i + 1)) text count bytes (first + 16 * (i + 1)))
unfolding bad_entries_from
bad_entries_step text count bytes first i n lt =
    let e : n - i ≡ suc (n - (i + 1)) = omega arith in
    let at : first + 16 * i + 16 ≡ first + 16 * (i + 1) = omega arith in
    rw e (ap (λ (k : ℕ). or_else (bad_entry text count bytes (first + 16 * i)) (bad_entries_from (n - (i + 1)) text count bytes k)) at)

pub bad_entries_none : (text count : ℕ) (bytes : List ℕ) (at i n : ℕ) → n ≤ i → bad_entries_from (n - i) text count bytes at ≡ None
unfolding bad_entries_from
bad_entries_none text count bytes at i n le =
    let e : n - i ≡ 0 = omega arith in
    rw e refl

pub entries_at_step : (bytes : List ℕ) (first i n : ℕ) → i < n → entries_at (n - i) bytes (first + 16 * i) ≡ entry_at bytes (first + 16 * i) ∷ entries_at (n - (i + 1)) bytes (first + 16 * (i + 1))
unfolding entries_at
entries_at_step bytes first i n lt =
    let e : n - i ≡ suc (n - (i + 1)) = omega arith in
    let at : first + 16 * i + 16 ≡ first + 16 * (i + 1) = omega arith in
    rw e (ap (λ (k : ℕ). entry_at bytes (first + 16 * i) ∷ entries_at (n - (i + 1)) bytes k) at)

pub entries_at_none : (bytes : List ℕ) (at i n : ℕ) → n ≤ i → entries_at (n - i) bytes at ≡ []
unfolding entries_at
entries_at_none bytes at i n le =
    let e : n - i ≡ 0 = omega arith in
    rw e refl

pub symbols_at_step : (l : Layout) (bytes : List ℕ) (first i n : ℕ) → i < n → symbols_at (n - i) l bytes (first + 24 * i) ≡ symbol_at l bytes (first + 24 * i) ∷ symbols_at (n - (i + 1)) l bytes (first + 24 * (i + 1))
unfolding symbols_at
symbols_at_step l bytes first i n lt =
    let e : n - i ≡ suc (n - (i + 1)) = omega arith in
    let at : first + 24 * i + 24 ≡ first + 24 * (i + 1) = omega arith in
    rw e (ap (λ (k : ℕ). symbol_at l bytes (first + 24 * i) ∷ symbols_at (n - (i + 1)) l bytes k) at)

pub symbols_at_none : (l : Layout) (bytes : List ℕ) (at i n : ℕ) → n ≤ i → symbols_at (n - i) l bytes at ≡ []
unfolding symbols_at
symbols_at_none l bytes at i n le =
    let e : n - i ≡ 0 = omega arith in
    rw e refl

pub are_right_step : (l : Layout) (bytes : List ℕ) (first symbols i n : ℕ) → i < n → are_right (n - i) l bytes (first + 24 * i) (symbols + 24 * i) ≡ (is_right l bytes (first + 24 * i) (symbols + 24 * i) && are_right (n - (i + 1)) l bytes (first + 24 * (i + 1)) (symbols + 24 * (i + 1)))
unfolding are_right
are_right_step l bytes first symbols i n lt =
    let e : n - i ≡ suc (n - (i + 1)) = omega arith in
    let at : first + 24 * i + 24 ≡ first + 24 * (i + 1) = omega arith in
    let at2 : symbols + 24 * i + 24 ≡ symbols + 24 * (i + 1) = omega arith in
    rw e (ap (λ (k : ℕ). is_right l bytes (first + 24 * i) (symbols + 24 * i) && are_right (n - (i + 1)) l bytes k (symbols + 24 * i + 24)) at
    ∙ ap (λ (k : ℕ). is_right l bytes (first + 24 * i) (symbols + 24 * i) && are_right (n - (i + 1)) l bytes (first + 24 * (i + 1)) k) at2)

pub are_right_none : (l : Layout) (bytes : List ℕ) (at symbol i n : ℕ) → n ≤ i → are_right (n - i) l bytes at symbol ≡ true
unfolding are_right
are_right_none l bytes at symbol i n le =
    let e : n - i ≡ 0 = omega arith in
    rw e refl

-- ---- what tests that found no fault say

pub or_else_none : (a b : Option ImageError) → or_else a b ≡ None → (a ≡ None) × (b ≡ None)
or_else_none None b e = (refl, e)
or_else_none (Some x) b e = absurd cc

pub unless_none : (passed : Bool) (error : ImageError) → unless passed error ≡ None → passed ≡ true
unless_none true error e = refl
unless_none false error e = absurd cc

pub and_true : (a b : Bool) → (a && b) ≡ true → (a ≡ true) × (b ≡ true)
and_true true b e = (refl, e)
and_true false b e = absurd cc

-- a record that has passed its tests has at most eight parameters
pub params_le : (bytes : List ℕ) (at : ℕ) → bad_record bytes at ≡ None → u8_at bytes (at + 16) ≤ 8
unfolding bad_record bad_field
params_le bytes at e =
    let a = or_else_none (bad_fields bytes at (code_fields (u8_at bytes (at + 16)) 0 8)) (bad_fields bytes at record_fields) e in
    let b = or_else_none (bad_field bytes at (field 16 1 (Between 0 8))) (bad_fields bytes at (field 17 1 result_rule ∷ field 18 1 (Is 0) ∷ field 19 1 (Is 0) ∷ [])) a.1 in
    let c = unless_none (allows (Between 0 8) (u8_at bytes (at + 16))) (BadField (at + 16)) b.0 in
    let d = and_true (leb 0 (u8_at bytes (at + 16))) (leb (u8_at bytes (at + 16)) 8) c in
    leb-true _ _ d.1

pub records_turn : (bytes : List ℕ) (first i n : ℕ) → i < n → bad_records (n - i) bytes (first + 24 * i) ≡ None → (bad_record bytes (first + 24 * i) ≡ None) × (bad_records (n - (i + 1)) bytes (first + 24 * (i + 1)) ≡ None)
records_turn bytes first i n lt e =
    or_else_none (bad_record bytes (first + 24 * i)) (bad_records (n - (i + 1)) bytes (first + 24 * (i + 1))) (sym (bad_records_step bytes first i n lt) ∙ e)

-- ---- one more item at the end of a list that a recursion completes

pub push_turn : {X : Type 0} (xs whole rest total : List X) (x y : X) → xs ++ whole ≡ total → whole ≡ y ∷ rest → x ≡ y → (xs ++ x ∷ []) ++ rest ≡ total
push_turn {X} xs whole rest total x y e1 e2 e3 =
    append_assoc xs (x ∷ []) rest ∙ ap (λ (z : X). xs ++ z ∷ rest) e3 ∙ ap (λ (s : List X). xs ++ s) (sym e2) ∙ e1

pub push_end : {X : Type 0} (xs whole total : List X) → xs ++ whole ≡ total → whole ≡ [] → xs ≡ total
push_end {X} xs whole total e1 e2 = sym (append-nil xs) ∙ ap (λ (s : List X). xs ++ s) (sym e2) ∙ e1

pub and_turn : (a rest whole total : Bool) → whole ≡ total → whole ≡ (a && rest) → a ≡ true → rest ≡ total
and_turn a rest whole total e1 e2 e3 = ap (λ (v : Bool). v && rest) (sym e3) ∙ sym e2 ∙ e1

pub words_at_step : (bytes : List ℕ) (first i n : ℕ) → i < n → words_at (n - i) bytes (first + 4 * i) ≡ u32_at bytes (first + 4 * i) ∷ words_at (n - (i + 1)) bytes (first + 4 * (i + 1))
unfolding words_at
words_at_step bytes first i n lt =
    let e : n - i ≡ suc (n - (i + 1)) = omega arith in
    let at : first + 4 * i + 4 ≡ first + 4 * (i + 1) = omega arith in
    rw e (ap (λ (k : ℕ). u32_at bytes (first + 4 * i) ∷ words_at (n - (i + 1)) bytes k) at)

pub words_at_none : (bytes : List ℕ) (at i n : ℕ) → n ≤ i → words_at (n - i) bytes at ≡ []
unfolding words_at
words_at_none bytes at i n le =
    let e : n - i ≡ 0 = omega arith in
    rw e refl

pub ruleset each_export = (symbols_at_step, symbols_at_none, are_right_step, are_right_none)
