-- Texts and names are found where they stand.
use Rattle.std.proofs.Common.{◌≡◌, refl, ℕ, ◌+◌, Bool, true, false, cond, not, ◌&&◌, List, [], ◌∷◌, ◌++◌, Option}
use Rattle.std.proofs.Common.{Some, None, sym, ◌∙◌, ap, append-nil, if◌then◌else◌}
use Rattle.std.proofs.Math.ListN.{length-map}
use Rattle.std.proofs.lemmas.List.{map-append}
use Rattle.std.proofs.lemmas.Slice.Eq.{bytes_eq-Decides}
use Rattle.std.specs.Prelude.{Vec, find, nat_eq, bytes_eq, position}
use Rattle.std.specs.Cmp.{nat_eq_equiv}
use Rattle.std.specs.List.{position_or_len, list_any}
use Rattle.std.specs.Map.{lookup}
use Rattle.std.specs.Option.{option_map}
use Rattle.indexmap.specs.IndexMap.{insert_entry}
use Rattle.indexmap.specs.IndexSet.{insert_key}
use Rattle.tl_base.specs.declared.ids.TextId.{TextId}
use Rattle.lua_value.proofs.Any.{none_any}
use Rattle.terra_term.specs.declared.store.Static.{Static}
use Rattle.terra_term.specs.declared.store.TextBytes.{TextBytes}
use Rattle.terra_term.specs.Held.{text_address, name_place}
use Rattle.terra_term.specs.Finding.{texts_in, found_texts, ids_of}

-- ---- texts

test_by : (a b : List ℕ) (t u : Bool) → bytes_eq a b ≡ t → bytes_eq b a ≡ u → t ≡ u
test_by a b true true p q = refl
test_by a b false false p q = refl
test_by a b true false p q = let r : bytes_eq b a ≡ true = (bytes_eq-Decides b a).1 (sym ((bytes_eq-Decides a b).0 p)) in absurd (cc)
test_by a b false true p q = let r : bytes_eq a b ≡ true = (bytes_eq-Decides a b).1 (sym ((bytes_eq-Decides b a).0 q)) in absurd (cc)

turned : (a b : List ℕ) → bytes_eq a b ≡ bytes_eq b a
turned a b = test_by a b (bytes_eq a b) (bytes_eq b a) refl refl

looked_up : {Z : Type 0} (bytes : List ℕ) (entries : List (Vec ℕ Z × ℕ)) → lookup (λ (k : Vec ℕ Z). bytes_eq bytes k.items) entries ≡ lookup (bytes_eq bytes) (found_texts entries)
looked_up bytes [] = refl
looked_up bytes (e ∷ es) = ap (λ (x : Option ℕ). cond (bytes_eq bytes e.0.items) (Some e.1) x) (looked_up bytes es)

found_by : (s : Static) (bytes : List ℕ) (more : List (List ℕ × ℕ)) (rest : Option Static) (t u : Bool) → bytes_eq bytes s.bytes ≡ u → option_map (λ (r : Static). r.address) rest ≡ lookup (bytes_eq bytes) more → option_map (λ (r : Static). r.address) (cond (t && u) (Some s) rest) ≡ lookup (bytes_eq bytes) (cond t ((s.bytes, s.address) ∷ more) more)
found_by s bytes more rest true true e same = rw e refl
found_by s bytes more rest true false e same = rw e same
found_by s bytes more rest false u e same = same

address_found : (statics : List Static) (bytes : List ℕ) → text_address statics bytes ≡ lookup (bytes_eq bytes) (texts_in statics)
address_found [] bytes = refl
address_found (s ∷ ss) bytes = found_by s bytes (texts_in ss) (find (λ (r : Static). r.is_text && bytes_eq r.bytes bytes) ss) s.is_text (bytes_eq s.bytes bytes) (turned bytes s.bytes) (address_found ss bytes)

-- what the map gives for a text's bytes is its address
pub text_found : {Z : Type 0} (entries : List (Vec ℕ Z × ℕ)) (statics : List Static) (bytes : List ℕ) → found_texts entries ≡ texts_in statics → lookup (λ (k : Vec ℕ Z). bytes_eq bytes k.items) entries ≡ text_address statics bytes
text_found entries statics bytes same =
    looked_up bytes entries ∙ ap (λ (l : List (List ℕ × ℕ)). lookup (bytes_eq bytes) l) same ∙ sym (address_found statics bytes)

put_by : {Z : Type 0} (e : Vec ℕ Z × ℕ) (es put : List (Vec ℕ Z × ℕ)) (k : Vec ℕ Z) (v : ℕ) (t : Bool) → cond t (Some e.1) (lookup (bytes_eq k.items) (found_texts es)) ≡ None → (lookup (bytes_eq k.items) (found_texts es) ≡ None → found_texts put ≡ found_texts es ++ (k.items, v) ∷ []) → found_texts (cond t ((e.0, v) ∷ es) (e ∷ put)) ≡ (e.0.items, e.1) ∷ (found_texts es ++ (k.items, v) ∷ [])
put_by e es put k v true none rest = absurd (cc none)
put_by e es put k v false none rest = ap (λ (l : List (List ℕ × ℕ)). (e.0.items, e.1) ∷ l) (rest none)

put_new : {Z : Type 0} (entries : List (Vec ℕ Z × ℕ)) (k : Vec ℕ Z) (v : ℕ) → lookup (bytes_eq k.items) (found_texts entries) ≡ None → found_texts (insert_entry (λ (a b : Vec ℕ Z). bytes_eq a.items b.items) entries k v) ≡ found_texts entries ++ (k.items, v) ∷ []
put_new [] k v none = refl
put_new {Z} (e ∷ es) k v none = put_by e es (insert_entry (λ (a b : Vec ℕ Z). bytes_eq a.items b.items) es k v) k v (bytes_eq k.items e.0.items) none (put_new es k v)

text_by : (x : List ℕ × ℕ) (a b all : List (List ℕ × ℕ)) (t : Bool) → all ≡ a ++ b → cond t (x ∷ all) all ≡ cond t (x ∷ a) a ++ b
text_by x a b all true e = ap (λ (l : List (List ℕ × ℕ)). x ∷ l) e
text_by x a b all false e = e

texts_push : (ss : List Static) (s : Static) → texts_in (ss ++ s ∷ []) ≡ texts_in ss ++ texts_in (s ∷ [])
texts_push [] s = refl
texts_push (r ∷ ss) s = text_by (r.bytes, r.address) (texts_in ss) (texts_in (s ∷ [])) (texts_in (ss ++ s ∷ [])) r.is_text (texts_push ss s)

-- a text that isn't there goes last
pub text_put : {Z : Type 0} (entries : List (Vec ℕ Z × ℕ)) (statics : List Static) (k : Vec ℕ Z) (bytes : List ℕ) (address : ℕ) → k.items ≡ bytes → found_texts entries ≡ texts_in statics → text_address statics bytes ≡ None → found_texts (insert_entry (λ (a b : Vec ℕ Z). bytes_eq a.items b.items) entries k address) ≡ texts_in (statics ++ record { address = address; is_text = true; bytes = bytes } ∷ [])
text_put entries statics k bytes address key same absent =
    let none : lookup (bytes_eq k.items) (found_texts entries) ≡ None =
    rw (key, same) (sym (address_found statics bytes) ∙ absent) in
    put_new entries k address none ∙
    (ap (λ (l : List (List ℕ × ℕ)). l ++ (k.items, address) ∷ []) same ∙
    (ap (λ (b : List ℕ). texts_in statics ++ (b, address) ∷ []) key ∙
    sym (texts_push statics (record { address = address; is_text = true; bytes = bytes }))))

-- and a static that is no text changes nothing
pub other_put : (statics all : List Static) (address : ℕ) (bytes : List ℕ) → all ≡ statics ++ record { address = address; is_text = false; bytes = bytes } ∷ [] → texts_in statics ≡ texts_in all
other_put statics all address bytes put =
    sym (append-nil (texts_in statics)) ∙
    (sym (texts_push statics (record { address = address; is_text = false; bytes = bytes })) ∙ ap texts_in (sym put))

-- ---- names

before_by : (t u : Bool) (a b : ℕ) → t ≡ u → a ≡ b → cond (not t) (1 + a) 0 ≡ cond (not u) (1 + b) 0
before_by t u a b e same = ap (λ (x : Bool). cond (not x) (1 + a) 0) e ∙ ap (λ (m : ℕ). cond (not u) (1 + m) 0) same

before : (names : List TextBytes) (id : ℕ) → position_or_len (nat_eq id) (ids_of names) ≡ position_or_len (λ (n : TextBytes). nat_eq n.text.0 id) names
before [] id = refl
before (n ∷ ns) id = before_by (nat_eq id n.text.0) (nat_eq n.text.0 id) (position_or_len (nat_eq id) (ids_of ns)) (position_or_len (λ (m : TextBytes). nat_eq m.text.0 id) ns) (nat_eq_equiv.symm id n.text.0) (before ns id)

-- the place of an id in the set is that of its name
pub name_found : (names : List TextBytes) (text : TextId) → position (nat_eq text.0) (ids_of names) ≡ name_place names text
name_found names text = rw (before names text.0, length-map names (λ (n : TextBytes). n.text.0)) refl

-- the id of a name that isn't kept goes last
pub id_put : (ids : List ℕ) (names : List TextBytes) (n : TextBytes) → ids ≡ ids_of names → name_place names n.text ≡ None → insert_key nat_eq ids n.text.0 ≡ ids_of (names ++ n ∷ [])
id_put ids names n same absent =
    let none : position (nat_eq n.text.0) ids ≡ None = ap (λ (l : List ℕ). position (nat_eq n.text.0) l) same ∙ (name_found names n.text ∙ absent) in
    let away : list_any (nat_eq n.text.0) ids ≡ false = none_any (nat_eq n.text.0) ids none in
    ap (λ (t : Bool). if t then ids else ids ++ n.text.0 ∷ []) away ∙
    (ap (λ (l : List ℕ). l ++ n.text.0 ∷ []) same ∙ sym (map-append (λ (m : TextBytes). m.text.0) names (n ∷ [])))
