-- One step of each list of bytes that a file is made of, as a loop takes it.
use Rattle.std.proofs.Common.{◌≡◌, ℕ, ◌+◌, ◌^◌, ◌<◌, ◌≤◌, Bool, true, ltb, ◌&&◌, List, [], ◌∷◌, ◌++◌, length, get_or, drop, map, sym, ap}
use Rattle.std.proofs.Common.{◌∙◌, append_assoc}
use Rattle.std.specs.List.{list_all}
use Rattle.std.proofs.lemmas.Bool.{ltb-true}
use Rattle.std.proofs.lemmas.List.{append-nil, at_drop_more, at_drop_all}
use Rattle.byteorder.specs.Endian.{little_bytes}
use Rattle.elf_image.specs.declared.putting.Number.{Number}
use Rattle.elf_image.specs.declared.image.Symbol.{Symbol}
use Rattle.elf_image.specs.declared.image.Entry.{Entry}
use Rattle.elf_image.proofs.Steps.{and_true}
use Rattle.elf_image.specs.Answers.{row_of}
use Rattle.elf_image.specs.Lawful.{names_fit}
use Rattle.elf_image.specs.Written.{numbers, words_bytes, entries_bytes, names_size, record_bytes, records_bytes, symbol_bytes, symbols_bytes, names_bytes}

pub append_turn : (out part rest whole total : List ℕ) → out ++ whole ≡ total → whole ≡ part ++ rest → (out ++ part) ++ rest ≡ total
append_turn out part rest whole total e1 e2 =
    append_assoc out part rest ∙ ap (λ (xs : List ℕ). out ++ xs) (sym e2) ∙ e1

pub append_turn_by : (out new part rest whole total : List ℕ) → new ≡ out ++ part → out ++ whole ≡ total → whole ≡ part ++ rest → new ++ rest ≡ total
append_turn_by out new part rest whole total e0 e1 e2 =
    ap (λ (xs : List ℕ). xs ++ rest) e0 ∙ append_turn out part rest whole total e1 e2

-- two parts that were added one behind the other
pub append_two : (out first second a b : List ℕ) → first ≡ out ++ a → second ≡ first ++ b → second ≡ out ++ (a ++ b)
append_two out first second a b e1 e2 = e2 ∙ ap (λ (xs : List ℕ). xs ++ b) e1 ∙ append_assoc out a b

-- a function of what is left of a list, at the item of a loop
pub at_drop_item : {X : Type 0} {Y : Type 0} (F : List X → Y) (xs : List X) (i : ℕ) (x : X) → x ≡ get_or xs i x → i < length xs → F (drop i xs) ≡ F (x ∷ drop (i + 1) xs)
at_drop_item {X} F xs i x e lt = at_drop_more F xs i x lt ∙ ap (λ (y : X). F (y ∷ drop (i + 1) xs)) (sym e)

pub append_end : (out whole total : List ℕ) → out ++ whole ≡ total → whole ≡ [] → out ≡ total
append_end out whole total e1 e2 = sym (append-nil out) ∙ ap (λ (xs : List ℕ). out ++ xs) (sym e2) ∙ e1

abbrev list_bytes : List Number → List ℕ
list_bytes xs = numbers (map row_of xs)

pub numbers_turn : (xs : List Number) (i : ℕ) (d : Number) → i < length xs → numbers (map row_of (drop i xs)) ≡ little_bytes (row_of (get_or xs i d)).0 (row_of (get_or xs i d)).1 ++ numbers (map row_of (drop (i + 1) xs))
unfolding numbers
numbers_turn xs i d lt = at_drop_more list_bytes xs i d lt

pub numbers_end : (xs : List Number) (i : ℕ) → length xs ≤ i → numbers (map row_of (drop i xs)) ≡ []
unfolding numbers
numbers_end xs i le = at_drop_all list_bytes xs i le

pub words_turn : (xs : List ℕ) (i : ℕ) → i < length xs → words_bytes (drop i xs) ≡ little_bytes 4 (get_or xs i 0) ++ words_bytes (drop (i + 1) xs)
unfolding words_bytes
words_turn xs i lt = at_drop_more words_bytes xs i 0 lt

pub words_end : (xs : List ℕ) (i : ℕ) → length xs ≤ i → words_bytes (drop i xs) ≡ []
unfolding words_bytes
words_end xs i le = at_drop_all words_bytes xs i le

pub entries_turn : (xs : List Entry) (i : ℕ) (d : Entry) → i < length xs → entries_bytes (drop i xs) ≡ numbers ((8, (get_or xs i d).address) ∷ (8, (get_or xs i d).signature) ∷ []) ++ entries_bytes (drop (i + 1) xs)
unfolding entries_bytes
entries_turn xs i d lt = at_drop_more entries_bytes xs i d lt

pub entries_end : (xs : List Entry) (i : ℕ) → length xs ≤ i → entries_bytes (drop i xs) ≡ []
unfolding entries_bytes
entries_end xs i le = at_drop_all entries_bytes xs i le

pub names_turn : (xs : List Symbol) (i : ℕ) (x : Symbol) → x ≡ get_or xs i x → i < length xs → names_bytes (drop i xs) ≡ (x.name ++ 0 ∷ []) ++ names_bytes (drop (i + 1) xs)
unfolding names_bytes
names_turn xs i x e lt = at_drop_item names_bytes xs i x e lt ∙ sym (append_assoc x.name (0 ∷ []) (names_bytes (drop (i + 1) xs)))

pub names_end : (xs : List Symbol) (i : ℕ) → length xs ≤ i → names_bytes (drop i xs) ≡ []
unfolding names_bytes
names_end xs i le = at_drop_all names_bytes xs i le

pub size_turn : (xs : List Symbol) (i : ℕ) (x : Symbol) → x ≡ get_or xs i x → i < length xs → names_size (drop i xs) ≡ length x.name + 1 + names_size (drop (i + 1) xs)
unfolding names_size
size_turn xs i x e lt = at_drop_item names_size xs i x e lt

pub size_end : (xs : List Symbol) (i : ℕ) → length xs ≤ i → names_size (drop i xs) ≡ 0
unfolding names_size
size_end xs i le = at_drop_all names_size xs i le

pub records_turn : (name : ℕ) (xs : List Symbol) (i : ℕ) (x : Symbol) → x ≡ get_or xs i x → i < length xs → records_bytes name (drop i xs) ≡ record_bytes name x ++ records_bytes (name + length x.name + 1) (drop (i + 1) xs)
unfolding records_bytes
records_turn name xs i x e lt = at_drop_item (records_bytes name) xs i x e lt

pub records_end : (name : ℕ) (xs : List Symbol) (i : ℕ) → length xs ≤ i → records_bytes name (drop i xs) ≡ []
unfolding records_bytes
records_end name xs i le = at_drop_all (records_bytes name) xs i le

pub symbols_turn : (name : ℕ) (xs : List Symbol) (i : ℕ) (x : Symbol) → x ≡ get_or xs i x → i < length xs → symbols_bytes name (drop i xs) ≡ symbol_bytes name x ++ symbols_bytes (name + length x.name + 1) (drop (i + 1) xs)
unfolding symbols_bytes
symbols_turn name xs i x e lt = at_drop_item (symbols_bytes name) xs i x e lt

pub symbols_end : (name : ℕ) (xs : List Symbol) (i : ℕ) → length xs ≤ i → symbols_bytes name (drop i xs) ≡ []
unfolding symbols_bytes
symbols_end name xs i le = at_drop_all (symbols_bytes name) xs i le

-- ---- what is lawful of all symbols from one on

pub fit_turn : (name : ℕ) (xs : List Symbol) (i : ℕ) (x : Symbol) → x ≡ get_or xs i x → i < length xs → names_fit name (drop i xs) ≡ true → (name < 2 ^ 32) × (names_fit (name + length x.name + 1) (drop (i + 1) xs) ≡ true)
fit_turn name xs i x e lt h0 =
    let h : (ltb name (2 ^ 32) && names_fit (name + length x.name + 1) (drop (i + 1) xs)) ≡ true = sym (at_drop_item (names_fit name) xs i x e lt) ∙ h0 in
    let a = and_true _ _ h in
    (ltb-true _ _ a.0, a.1)

pub lawful_turn : (test : Symbol → Bool) (xs : List Symbol) (i : ℕ) (x : Symbol) → x ≡ get_or xs i x → i < length xs → list_all test (drop i xs) ≡ true → (test x ≡ true) × (list_all test (drop (i + 1) xs) ≡ true)
lawful_turn test xs i x e lt h0 =
    let h : (test x && list_all test (drop (i + 1) xs)) ≡ true = sym (at_drop_item (list_all test) xs i x e lt) ∙ h0 in
    and_true _ _ h

-- ---- the same, with the offset of the next name as a loop computes it

pub records_turn_by : (name next : ℕ) (xs : List Symbol) (i : ℕ) (x : Symbol) → x ≡ get_or xs i x → i < length xs → next ≡ name + length x.name + 1 → records_bytes name (drop i xs) ≡ record_bytes name x ++ records_bytes next (drop (i + 1) xs)
records_turn_by name next xs i x e lt n =
    records_turn name xs i x e lt ∙ ap (λ (k : ℕ). record_bytes name x ++ records_bytes k (drop (i + 1) xs)) (sym n)

pub symbols_turn_by : (name next : ℕ) (xs : List Symbol) (i : ℕ) (x : Symbol) → x ≡ get_or xs i x → i < length xs → next ≡ name + length x.name + 1 → symbols_bytes name (drop i xs) ≡ symbol_bytes name x ++ symbols_bytes next (drop (i + 1) xs)
symbols_turn_by name next xs i x e lt n =
    symbols_turn name xs i x e lt ∙ ap (λ (k : ℕ). symbol_bytes name x ++ symbols_bytes k (drop (i + 1) xs)) (sym n)

pub fit_turn_by : (name next : ℕ) (xs : List Symbol) (i : ℕ) (x : Symbol) → x ≡ get_or xs i x → i < length xs → next ≡ name + length x.name + 1 → names_fit name (drop i xs) ≡ true → names_fit next (drop (i + 1) xs) ≡ true
fit_turn_by name next xs i x e lt n h =
    ap (λ (k : ℕ). names_fit k (drop (i + 1) xs)) n ∙ (fit_turn name xs i x e lt h).1

-- ---- nine parts, one behind the other

pub nine : (o0 o1 o2 o3 o4 o5 o6 o7 o8 o9 a b c d e f g h i : List ℕ) → o0 ≡ [] → o1 ≡ o0 ++ a → o2 ≡ o1 ++ b → o3 ≡ o2 ++ c → o4 ≡ o3 ++ d → o5 ≡ o4 ++ e → o6 ≡ o5 ++ f → o7 ≡ o6 ++ g → o8 ≡ o7 ++ h → o9 ≡ o8 ++ i
    → o9 ≡ a ++ (b ++ (c ++ (d ++ (e ++ (f ++ (g ++ (h ++ i)))))))
nine o0 o1 o2 o3 o4 o5 o6 o7 o8 o9 a b c d e f g h i e0 e1 e2 e3 e4 e5 e6 e7 e8 e9 =
    rw (e9, e8, e7, e6, e5, e4, e3, e2, e1, e0) (simp append_assoc)
