-- A search tree of the names so far, against the definition.
use Rattle.std.proofs.Common.{◌≡◌, ℕ, ◌+◌, ◌<◌, ◌≤◌, Bool, true, false, ◌&&◌, ◌||◌, not, cond, List, [], ◌∷◌, length, get_or, drop, Bor}
use Rattle.std.proofs.Common.{refl, sym, ap, ◌∙◌}
use Rattle.std.specs.declared.cmp.Ordering.{Ordering}
use Rattle.std.specs.declared.cmp.Ordering.TheVariants.{Less, Equal, Greater}
use Rattle.std.specs.Ordering.{is_eq, nat_cmp, match_ordering}
use Rattle.std.specs.Cmp.Lexicographic.{slice_cmp}
use Rattle.std.specs.BTreeSet.{insert_key}
use Rattle.std.specs.List.{list_any, list_all}
use Rattle.std.specs.Str.{bytes_eq}
use Rattle.std.proofs.lemmas.Map.Text.{is_eq-slice_cmp}
use Rattle.std.proofs.lemmas.Map.Lookups.{exact_bytes}
use Rattle.std.proofs.lemmas.Cmp.{nat_list_eq_equiv}
use Rattle.std.proofs.lemmas.List.{at_drop_all}
use Rattle.elf_image.specs.declared.image.Symbol.{Symbol}
use Rattle.elf_image.specs.Exports.{names_differ}
use Rattle.elf_image.proofs.Puts.{at_drop_item}

-- the keys of the tree are slices, which it compares by their bytes
abbrev pub Key : Type 0
Key = Bor (List ℕ)

abbrev pub key_cmp : Key → Key → Ordering
key_cmp x y = slice_cmp nat_cmp x.now y.now

-- a key has these bytes
abbrev pub key_has : List Key → List ℕ → Bool
key_has keys bytes = list_any (λ (x : Key). is_eq (slice_cmp nat_cmp bytes x.now)) keys

-- no symbol has the bytes of a key for its name
abbrev pub none_has : List Key → List Symbol → Bool
none_has keys ss = list_all (λ (t : Symbol). not (key_has keys t.name)) ss

-- ---- tests

or_swap : (a b c : Bool) → (a || (b || c)) ≡ (b || (a || c))
or_swap true true c = refl
or_swap true false c = refl
or_swap false true c = refl
or_swap false false c = refl

or_same : (a b c : Bool) → a ≡ b → (b || c) ≡ (a || (b || c))
or_same true true c e = refl
or_same false false c e = refl
or_same true false c e = absurd cc
or_same false true c e = absurd cc

inserted : (test : Key → Bool) (k x : Key) (xs rest : List Key) (o : Ordering) → (o ≡ Equal → test k ≡ test x) → list_any test rest ≡ (test k || list_any test xs)
    → list_any test (match_ordering o (k ∷ x ∷ xs) (x ∷ xs) (x ∷ rest)) ≡ (test k || (test x || list_any test xs))
inserted test k x xs rest Less same ih = refl
inserted test k x xs rest Equal same ih = or_same (test k) (test x) (list_any test xs) (same refl)
inserted test k x xs rest Greater same ih = ap (λ (v : Bool). test x || v) ih ∙ or_swap (test x) (test k) (list_any test xs)

any_insert : (test : Key → Bool) (k : Key) (ks : List Key) → ((x : Key) → key_cmp k x ≡ Equal → test k ≡ test x) → list_any test (insert_key key_cmp ks k) ≡ (test k || list_any test ks)
any_insert test k [] same = refl
any_insert test k (x ∷ xs) same = inserted test k x xs (insert_key key_cmp xs k) (key_cmp k x) (same x) (any_insert test k xs same)

key_has_insert : (keys : List Key) (k : Key) (bytes : List ℕ) → key_has (insert_key key_cmp keys k) bytes ≡ (bytes_eq bytes k.now || key_has keys bytes)
key_has_insert keys k bytes =
    any_insert (λ (x : Key). is_eq (slice_cmp nat_cmp bytes x.now)) k keys (λ x e. ap (λ (ys : List ℕ). is_eq (slice_cmp nat_cmp bytes ys)) (exact_bytes k.now x.now e))
    ∙ ap (λ (v : Bool). v || key_has keys bytes) (is_eq-slice_cmp bytes k.now)

-- ---- the symbols from one on

spread : (e h n a : Bool) → (not (e || h) && (not a && n)) ≡ (not (e || a) && (not h && n))
spread true h n a = refl
spread false true n true = refl
spread false true n false = refl
spread false false n true = refl
spread false false n false = refl

none_has_insert : (keys : List Key) (k : Key) (ss : List Symbol) → none_has (insert_key key_cmp keys k) ss ≡ (not (list_any (λ (t : Symbol). bytes_eq k.now t.name) ss) && none_has keys ss)
none_has_insert keys k [] = refl
none_has_insert keys k (s ∷ ss) =
    let head : key_has (insert_key key_cmp keys k) s.name ≡ (bytes_eq k.now s.name || key_has keys s.name) = key_has_insert keys k s.name ∙ ap (λ (v : Bool). v || key_has keys s.name) (nat_list_eq_equiv.symm s.name k.now) in
    ap (λ (v : Bool). not v && none_has (insert_key key_cmp keys k) ss) head
    ∙ ap (λ (v : Bool). not (bytes_eq k.now s.name || key_has keys s.name) && v) (none_has_insert keys k ss)
    ∙ spread (bytes_eq k.now s.name) (key_has keys s.name) (none_has keys ss) (list_any (λ (t : Symbol). bytes_eq k.now t.name) ss)

-- no name is that of a symbol before or behind
abbrev pub rest_differs : List Key → List Symbol → Bool
rest_differs keys ss = none_has keys ss && names_differ ss

none_has_nothing : (ss : List Symbol) → none_has [] ss ≡ true
none_has_nothing [] = refl
none_has_nothing (s ∷ ss) = none_has_nothing ss

pub starts : (ss : List Symbol) (keys : List Key) → keys ≡ [] → names_differ ss ≡ rest_differs keys ss
starts ss keys e = sym (ap (λ (ks : List Key). rest_differs ks ss) e ∙ ap (λ (v : Bool). v && names_differ ss) (none_has_nothing ss))

step_by : (h n a d : Bool) → h ≡ false → ((not h && n) && cond a false d) ≡ ((not a && n) && d)
step_by true n a d e = absurd cc
step_by false true true d e = refl
step_by false false true d e = refl
step_by false true false d e = refl
step_by false false false d e = refl

stop_by : (h n d : Bool) → h ≡ true → ((not h && n) && d) ≡ false
stop_by true n d e = refl
stop_by false n d e = absurd cc

pub goes_on : (total : Bool) (ss : List Symbol) (i : ℕ) (x : Symbol) (keys keys' : List Key) (k : Key) → x ≡ get_or ss i x → i < length ss → k.now ≡ x.name → keys' ≡ insert_key key_cmp keys k
    → key_has keys k.now ≡ false → total ≡ rest_differs keys (drop i ss) → total ≡ rest_differs keys' (drop (i + 1) ss)
goes_on total ss i x keys keys' k e lt kn ke fresh inv =
    let rest = drop (i + 1) ss in
    let a = list_any (λ (t : Symbol). bytes_eq x.name t.name) rest in
    let is_fresh : key_has keys x.name ≡ false = ap (key_has keys) (sym kn) ∙ fresh in
    let after : none_has keys' rest ≡ (not a && none_has keys rest) = ap (λ (ks : List Key). none_has ks rest) ke ∙ none_has_insert keys k rest ∙ ap (λ (bs : List ℕ). not (list_any (λ (t : Symbol). bytes_eq bs t.name) rest) && none_has keys rest) kn in
    inv ∙ at_drop_item (rest_differs keys) ss i x e lt
    ∙ step_by (key_has keys x.name) (none_has keys rest) a (names_differ rest) is_fresh
    ∙ ap (λ (v : Bool). v && names_differ rest) (sym after)

pub stops : (total : Bool) (ss : List Symbol) (i : ℕ) (x : Symbol) (keys : List Key) (k : Key) → x ≡ get_or ss i x → i < length ss → k.now ≡ x.name → key_has keys k.now ≡ true → total ≡ rest_differs keys (drop i ss) → total ≡ false
stops total ss i x keys k e lt kn known inv =
    let rest = drop (i + 1) ss in
    let is_known : key_has keys x.name ≡ true = ap (key_has keys) (sym kn) ∙ known in
    inv ∙ at_drop_item (rest_differs keys) ss i x e lt ∙ stop_by (key_has keys x.name) (none_has keys rest) (cond (list_any (λ (t : Symbol). bytes_eq x.name t.name) rest) false (names_differ rest)) is_known

pub ends : (total : Bool) (ss : List Symbol) (i : ℕ) (keys : List Key) → length ss ≤ i → total ≡ rest_differs keys (drop i ss) → total ≡ true
ends total ss i keys le inv = inv ∙ at_drop_all (rest_differs keys) ss i le
