-- Nodes whose locals have new names bind as they do.
use Rattle.std.specs.Prelude.{◌≡◌, ℕ, zero, suc, ◌+◌, ◌<◌, ◌^◌, ◌||◌, Bool, true, false, List, [], ◌∷◌, length, get_or, take, codes, bytes_eq}
use Rattle.std.specs.Prelude.{Option, Some, None}
use Rattle.std.specs.Prelude.{◌&&◌}
use Rattle.std.specs.List.{AllByRecursion, list_any}
use Rattle.std.proofs.Common.{refl, sym, ap, ◌∙◌, arith}
use Rattle.std.proofs.lemmas.Bool.{true≢false}
use Rattle.std.proofs.lemmas.List.{length-map}
use Rattle.std.proofs.lemmas.Option.{none-some}
use Rattle.std.proofs.lemmas.Slice.Eq.{bytes_eq-Decides}
use Rattle.tl_base.specs.declared.ids.NodeId.{NodeId}
use Rattle.tl_base.specs.declared.place.Place.{Place}
use Rattle.tl_tree.specs.Item.{Item}
use Rattle.tl_tree.specs.Item as kept
use Rattle.tl_tree.specs.Nodes.{item_at, absent_item}
use Rattle.tl_tree.specs.Code.{Items}
use Rattle.tl_tree.specs.declared.scope.Scope.{Scope}
use Rattle.tl_tree.specs.Scopes.{Found, Standing, scope_in, scope_at, standing_of, declarations, declared_name, is_name, or_found as or_else, last_found, declared_in, found_from, found_for}
use Rattle.tl_tree.specs.Scopes.{has_name, binder}
use Rattle.tl_tree.specs.Binding.{bound, bound_from, bound_item, bound_name, name_alone, is_declared_below, is_among}
use Rattle.tl_tree.proofs.Nameless.{bare, all_bare, declarations_same, standing_same}
use Rattle.tl_renaming.specs.Renamed.{has_node, declares, has_prefix, new_name, is_declaration, number_of, number_found, or_found, local_number}
use Rattle.tl_renaming.proofs.Changed.{Change}
use Rattle.tl_renaming.proofs.LayingChanged.{changed_item, changed_items}
use Rattle.renaming_alike.proofs.Numbering.{new_prefixed, new_injective, new_is_not_self, number_is, no_number, one_number}
use Rattle.renaming_alike.proofs.Finding.{found_same, found_is}
use Rattle.renaming_alike.proofs.Declared.{owners_declare}

-- the new name of a local, or the name that was
abbrev pub fresh : ℕ → List ℕ → Option ℕ → List ℕ
fresh l text None = text
fresh l text (Some k) = new_name l k

-- A change gives each local a name of so many letters and its number, and all others keep their names, of which none is such.
pub record IsRenaming (items : Items) (c : Change) (l : ℕ) : Type 0 where
  pub some_letter : 0 < l
  pub are_fresh : (n : NodeId) (place : Place) (offset : ℕ) (text : List ℕ) → item_at items n ≡ kept.Name place offset text
      → c.text offset text ≡ fresh l text (local_number items n.0)
  pub unused : (n : NodeId) (place : Place) (offset : ℕ) (text : List ℕ) → item_at items n ≡ kept.Name place offset text → has_prefix l text ≡ false
  pub few : (d k : ℕ) → number_of items d ≡ Some k → k < 2 ^ 64

-- Declarations stand nowhere, and are those of owners.
pub record HasDeclarations (items : Items) : Type 0 where
  pub stand_nowhere : (n : NodeId) → is_declaration items n.0 ≡ true → scope_at items n ≡ None
  pub are_declared : (n : ℕ) → is_declaration items n ≡ true → is_declared_below (length items) items n ≡ true

-- ---- what doesn't depend on names

bare_changed : (c : Change) (i : Item) → bare (changed_item c i) ≡ bare i
bare_changed c (kept.Name place offset text) = refl
bare_changed c (kept.Numeral place text) = refl
bare_changed c (kept.Literal place text) = refl
bare_changed c (kept.Expression place e) = refl
bare_changed c (kept.Statement place s) = refl
bare_changed c (kept.TerraExpression place e) = refl
bare_changed c (kept.TerraStatement place s) = refl
bare_changed c (kept.Piece p) = refl

all_bare_changed : (c : Change) (items : Items) → all_bare (changed_items c items) ≡ all_bare items
all_bare_changed c [] = refl
all_bare_changed c (i ∷ items) = ap (λ (x : Item). x ∷ all_bare (changed_items c items)) (bare_changed c i)
    ∙ ap (λ (l : Items). bare i ∷ l) (all_bare_changed c items)

same_standing : (c : Change) (items : Items) → standing_of (changed_items c items) ≡ standing_of items
same_standing c items =
    sym (standing_same (changed_items c items)) ∙ ap standing_of (all_bare_changed c items) ∙ standing_same items

same_declarations : (c : Change) (items : Items) (n : NodeId) → declarations (changed_items c items) n ≡ declarations items n
same_declarations c items n =
    sym (declarations_same (changed_items c items) n) ∙ ap (λ i. declarations i n) (all_bare_changed c items) ∙ declarations_same items n

found_alike : (a b : Items) → ((n : NodeId) → declarations a n ≡ declarations b n) → (standing : Standing) (asked : NodeId → Bool)
    (owners depth : ℕ) (scope : Option Scope)
    → found_from owners a standing asked depth scope ≡ found_from owners b standing asked depth scope
found_alike a b e standing asked zero depth scope = refl
found_alike a b e standing asked (suc owners) depth None = refl
found_alike a b e standing asked (suc owners) depth (Some scope) =
    ap (λ l. or_else (last_found asked depth 0 (take scope.count l)) (found_from owners a standing asked (depth + 1) (scope_in standing scope.owner.0)))
    (e scope.owner)
    ∙ ap (λ o. or_else (last_found asked depth 0 (declared_in b scope)) o)
    (found_alike a b e standing asked owners (depth + 1) (scope_in standing scope.owner.0))

declared_below_same : (c : Change) (items : Items) (k n : ℕ) → is_declared_below k (changed_items c items) n ≡ is_declared_below k items n
declared_below_same c items zero n = refl
declared_below_same c items (suc k) n =
    ap (λ ds. is_among n ds || is_declared_below k (changed_items c items) n) (same_declarations c items (record { 0 = k }))
    ∙ ap (λ b. is_among n (declarations items (record { 0 = k })) || b) (declared_below_same c items k n)

changed_at : (c : Change) (items : Items) (n : ℕ) → get_or (changed_items c items) n absent_item ≡ changed_item c (get_or items n absent_item)
changed_at c [] n = refl
changed_at c (i ∷ items) zero = refl
changed_at c (i ∷ items) (suc n) = changed_at c items n

item_changed : (c : Change) (items : Items) (n : NodeId) (i : Item) → item_at items n ≡ i → item_at (changed_items c items) n ≡ changed_item c i
item_changed c items n i e = changed_at c items n.0 ∙ ap (changed_item c) e

-- ---- names

same_name : (a b : List ℕ) → bytes_eq a b ≡ true → a ≡ b
same_name a b h = (bytes_eq-Decides a b).0 h

is_same : (a b : List ℕ) → a ≡ b → bytes_eq a b ≡ true
is_same a b h = (bytes_eq-Decides a b).1 h

module _ (items : Items) (c : Change) (l : ℕ) (r : IsRenaming items c l) where
  abbrev other : Items
  other = changed_items c items

  -- ---- numbers of locals

  few_local : (n k : ℕ) → local_number items n ≡ Some k → k < 2 ^ 64
  few_local n k h = go (number_of items n) refl h
    where
      by_found : (o : Option Found) → number_found items o ≡ Some k → k < 2 ^ 64
      by_found None e = absurd (none-some k e)
      by_found (Some f) e = r.few f.declaration.0 k e

      go : (o : Option ℕ) → number_of items n ≡ o → or_found o (number_found items (binder items (record { 0 = n }))) ≡ Some k → k < 2 ^ 64
      go (Some j) e f = r.few n k (e ∙ f)
      go None e f = by_found (binder items (record { 0 = n })) f

  -- what is found has the name
  trivially : (p : NodeId → Bool) (ds : List NodeId) → AllByRecursion (λ d. p d ≡ true → p d ≡ true) ds
  trivially p [] = tt
  trivially p (d ∷ ds) = (λ h. h, trivially p ds)

  found_name : (n : NodeId) (place : Place) (offset : ℕ) (text : List ℕ) (f : Found) → item_at items n ≡ kept.Name place offset text
      → binder items n ≡ Some f → declared_name (item_at items f.declaration) ≡ text
  found_name n place offset text f e h =
      let st = standing_of items in
      let h' = ap (λ i. found_for items st i (scope_in st n.0)) (sym e) ∙ h in
      same_name (declared_name (item_at items f.declaration)) text
      (found_is (has_name items text) (λ d. has_name items text d ≡ true) items st (λ m. trivially (has_name items text) (declarations items m)) (length st) 0
      (scope_in st n.0) f h')

  -- the declaration that a local's number is of
  record Numbers (k : ℕ) (text : List ℕ) : Type 0 where
    declaration : NodeId
    number : number_of items declaration.0 ≡ Some k
    name : declared_name (item_at items declaration) ≡ text

  numbers : (n : NodeId) (place : Place) (offset : ℕ) (text : List ℕ) (k : ℕ) → item_at items n ≡ kept.Name place offset text
      → local_number items n.0 ≡ Some k → Numbers k text
  numbers n place offset text k e h = go (number_of items n.0) refl h
    where
      by_found : (o : Option Found) → binder items n ≡ o → number_found items o ≡ Some k → Numbers k text
      by_found None b f = absurd (none-some k f)
      by_found (Some x) b f = record { declaration = x.declaration; number = f; name = found_name n place offset text x e b }

      go : (o : Option ℕ) → number_of items n.0 ≡ o → or_found o (number_found items (binder items n)) ≡ Some k → Numbers k text
      go (Some j) a f = record { declaration = n; number = a ∙ f; name = ap declared_name e }
      go None a f = by_found (binder items n) refl f

  -- two names with one number have one text
  one_text : (n : NodeId) (place : Place) (offset : ℕ) (text : List ℕ) (m : NodeId) (place' : Place) (offset' : ℕ) (text' : List ℕ) (k : ℕ)
      → item_at items n ≡ kept.Name place offset text → item_at items m ≡ kept.Name place' offset' text' → local_number items n.0 ≡ Some k
      → local_number items m.0 ≡ Some k → text ≡ text'
  one_text n place offset text m place' offset' text' k e f p q =
      let a = numbers n place offset text k e p in
      let b = numbers m place' offset' text' k f q in
      let same : a.declaration.0 ≡ b.declaration.0 = one_number items a.declaration.0 b.declaration.0 k a.number b.number in
      sym a.name ∙ ap (λ (j : ℕ). declared_name (item_at items (record { 0 = j }))) same ∙ b.name

  -- ---- a new name is that of the same local alone

  not_new : (n : NodeId) (place : Place) (offset : ℕ) (text : List ℕ) (k : ℕ) → item_at items n ≡ kept.Name place offset text → k < 2 ^ 64
      → text ≡ new_name l k → ⊥
  not_new n place offset text k e lt h =
      true≢false (sym (new_prefixed l k lt) ∙ ap (has_prefix l) (sym h) ∙ r.unused n place offset text e)

  same_local : (n : NodeId) (place : Place) (offset : ℕ) (text : List ℕ) (m : NodeId) (place' : Place) (offset' : ℕ) (text' : List ℕ)
      → item_at items n ≡ kept.Name place offset text → item_at items m ≡ kept.Name place' offset' text' → (o o' : Option ℕ)
      → local_number items n.0 ≡ o → local_number items m.0 ≡ o' → fresh l text o ≡ fresh l text' o' → text ≡ text'
  same_local n place offset text m place' offset' text' e f None None p q h = h
  same_local n place offset text m place' offset' text' e f None (Some k) p q h =
      absurd (not_new n place offset text k e (few_local m.0 k q) h)
  same_local n place offset text m place' offset' text' e f (Some k) None p q h =
      absurd (not_new m place' offset' text' k f (few_local n.0 k p) (sym h))
  same_local n place offset text m place' offset' text' e f (Some k) (Some j) p q h =
      let same : k ≡ j = new_injective l k j (few_local n.0 k p) (few_local m.0 j q) h in
      one_text n place offset text m place' offset' text' k e f p (q ∙ ap Some (sym same))

  self_is : (text : List ℕ) (o : Option ℕ) → codes "self" ≡ fresh l text o → codes "self" ≡ text
  self_is text None h = h
  self_is text (Some k) h = absurd (new_is_not_self l k r.some_letter (sym h))

  -- what is called so now was called so
  among : (n : NodeId) (place : Place) (offset : ℕ) (text : List ℕ) → item_at items n ≡ kept.Name place offset text → (d : NodeId)
      → has_name other (c.text offset text) d ≡ true → has_name items text d ≡ true
  among n place offset text e d q = go (item_at items d) refl
    where
      now : (i : Item) → item_at items d ≡ i → declared_name (changed_item c i) ≡ fresh l text (local_number items n.0)
      now i f =
          sym (ap declared_name (item_changed c items d i f)) ∙ same_name (declared_name (item_at other d)) (c.text offset text) q
          ∙ r.are_fresh n place offset text e

      plain : (i : Item) → item_at items d ≡ i → declared_name (changed_item c i) ≡ codes "self" → declared_name i ≡ codes "self"
          → has_name items text d ≡ true
      plain i f a b =
          is_same (declared_name (item_at items d)) text
          (ap declared_name f ∙ b ∙ self_is text (local_number items n.0) (sym a ∙ now i f))

      go : (i : Item) → item_at items d ≡ i → has_name items text d ≡ true
      go (kept.Name place' offset' text') f =
          is_same (declared_name (item_at items d)) text
          (ap declared_name f
          ∙ same_local d place' offset' text' n place offset text f e (local_number items d.0) (local_number items n.0) refl refl
          (sym (r.are_fresh d place' offset' text' f) ∙ now (kept.Name place' offset' text') f))
      go (kept.Numeral place' text') f = plain (kept.Numeral place' text') f refl refl
      go (kept.Literal place' text') f = plain (kept.Literal place' text') f refl refl
      go (kept.Expression place' x) f = plain (kept.Expression place' x) f refl refl
      go (kept.Statement place' x) f = plain (kept.Statement place' x) f refl refl
      go (kept.TerraExpression place' x) f = plain (kept.TerraExpression place' x) f refl refl
      go (kept.TerraStatement place' x) f = plain (kept.TerraStatement place' x) f refl refl
      go (kept.Piece x) f = plain (kept.Piece x) f refl refl

  -- ---- what a use found is called as the use is

  no_declaration : (d : NodeId) → is_name (item_at items d) ≡ false → number_of items d.0 ≡ None
  no_declaration d h = no_number items d.0 (ap (λ (b : Bool). b && list_any (λ item. has_node d.0 (declares item)) items) h)

  still_called : (n : NodeId) (place : Place) (offset : ℕ) (text : List ℕ) (f : Found) → item_at items n ≡ kept.Name place offset text
      → number_of items n.0 ≡ None → binder items n ≡ Some f → (is_name (item_at items f.declaration) ≡ true → is_declaration items f.declaration.0 ≡ true)
      → has_name other (c.text offset text) f.declaration ≡ true
  still_called n place offset text f e none h good = go (item_at items d) refl
    where
      d : NodeId
      d = f.declaration

      number : local_number items n.0 ≡ number_of items d.0
      number = ap (λ (o : Option ℕ). or_found o (number_found items (binder items n))) none ∙ ap (number_found items) h

      was : declared_name (item_at items d) ≡ text
      was = found_name n place offset text f e h

      plain : (i : Item) → item_at items d ≡ i → is_name i ≡ false → declared_name (changed_item c i) ≡ declared_name i
          → has_name other (c.text offset text) d ≡ true
      plain i g unnamed_is same =
          is_same (declared_name (item_at other d)) (c.text offset text)
          (ap declared_name (item_changed c items d i g) ∙ same ∙ sym (ap declared_name g) ∙ was
          ∙ sym (r.are_fresh n place offset text e ∙ ap (fresh l text) (number ∙ no_declaration d (ap is_name g ∙ unnamed_is))))

      go : (i : Item) → item_at items d ≡ i → has_name other (c.text offset text) d ≡ true
      go (kept.Name place' offset' text') g =
          let number_d = number_is items d.0 (good (ap is_name g)) in
          is_same (declared_name (item_at other d)) (c.text offset text)
          (ap declared_name (item_changed c items d (kept.Name place' offset' text') g) ∙ r.are_fresh d place' offset' text' g
          ∙ ap (λ (o : Option ℕ). fresh l text' (or_found o (number_found items (binder items d)))) number_d
          ∙ sym (r.are_fresh n place offset text e ∙ ap (fresh l text) (number ∙ number_d)))
      go (kept.Numeral place' text') g = plain (kept.Numeral place' text') g refl refl
      go (kept.Literal place' text') g = plain (kept.Literal place' text') g refl refl
      go (kept.Expression place' x) g = plain (kept.Expression place' x) g refl refl
      go (kept.Statement place' x) g = plain (kept.Statement place' x) g refl refl
      go (kept.TerraExpression place' x) g = plain (kept.TerraExpression place' x) g refl refl
      go (kept.TerraStatement place' x) g = plain (kept.TerraStatement place' x) g refl refl
      go (kept.Piece x) g = plain (kept.Piece x) g refl refl

  -- ---- each finds what it found

  module _ (h : HasDeclarations items) where
    nowhere : (p : NodeId → Bool) (st : Standing) (owners depth : ℕ) (i : Items) → found_from owners i st p depth None ≡ None
    nowhere p st zero depth i = refl
    nowhere p st (suc owners) depth i = refl

    good : (p : NodeId → Bool) (n : NodeId)
        → AllByRecursion (λ d. p d ≡ true → is_name (item_at items d) ≡ true → is_declaration items d.0 ≡ true) (declarations items n)
    good p n = weaker (declarations items n) (owners_declare items n)
      where
        weaker : (ds : List NodeId) → AllByRecursion (λ d. is_name (item_at items d) ≡ true → is_declaration items d.0 ≡ true) ds
            → AllByRecursion (λ d. p d ≡ true → is_name (item_at items d) ≡ true → is_declaration items d.0 ≡ true) ds
        weaker [] k = tt
        weaker (d ∷ ds) k = (λ a. k.0, weaker ds k.1)

    name_found : (n : NodeId) (place : Place) (offset : ℕ) (text : List ℕ) → item_at items n ≡ kept.Name place offset text
        → found_from (length (standing_of items)) other (standing_of items) (has_name other (c.text offset text)) 0 (scope_at items n)
        ≡ found_from (length (standing_of items)) items (standing_of items) (has_name items text) 0 (scope_at items n)
    name_found n place offset text e = go (is_declaration items n.0) refl
      where
        st : Standing
        st = standing_of items

        p : NodeId → Bool
        p = has_name items text

        q : NodeId → Bool
        q = has_name other (c.text offset text)

        found : binder items n ≡ found_from (length st) items st p 0 (scope_at items n)
        found = ap (λ i. found_for items st i (scope_at items n)) e

        go : (b : Bool) → is_declaration items n.0 ≡ b
            → found_from (length st) other st q 0 (scope_at items n) ≡ found_from (length st) items st p 0 (scope_at items n)
        go true is =
            let away = h.stand_nowhere n is in
            ap (found_from (length st) other st q 0) away ∙ nowhere q st (length st) 0 other
            ∙ sym (ap (found_from (length st) items st p 0) away ∙ nowhere p st (length st) 0 items)
        go false is =
            found_alike other items (same_declarations c items) st q (length st) 0 (scope_at items n)
            ∙ found_same p q (λ d. among n place offset text e d) items st (length st) 0 (scope_at items n)
            (λ f k. still_called n place offset text f e (no_number items n.0 is) (found ∙ k)
            (found_is p (λ d. is_name (item_at items d) ≡ true → is_declaration items d.0 ≡ true) items st (good p) (length st) 0 (scope_at items n) f k))

    pub binder_same : (n : NodeId) → binder other n ≡ binder items n
    binder_same n =
        ap (λ st. found_for other st (item_at other n) (scope_in st n.0)) (same_standing c items)
        ∙ ap (λ i. found_for other (standing_of items) i (scope_at items n)) (item_changed c items n (item_at items n) refl)
        ∙ go (item_at items n) refl
      where
        go : (i : Item) → item_at items n ≡ i
            → found_for other (standing_of items) (changed_item c i) (scope_at items n) ≡ found_for items (standing_of items) i (scope_at items n)
        go (kept.Name place offset text) e = name_found n place offset text e
        go (kept.Numeral place text) e = refl
        go (kept.Literal place text) e = refl
        go (kept.Expression place x) e = refl
        go (kept.Statement place x) e = refl
        go (kept.TerraExpression place x) e = refl
        go (kept.TerraStatement place x) e = refl
        go (kept.Piece x) e = refl

    -- ---- the nodes without the names of locals

    unnamed : (n : NodeId) (place : Place) (offset : ℕ) (text : List ℕ) → item_at items n ≡ kept.Name place offset text → binder items n ≡ None
        → (b : Bool) → is_declared_below (length items) items n.0 ≡ b → name_alone place (c.text offset text) b n.0 ≡ name_alone place text b n.0
    unnamed n place offset text e none true d = refl
    unnamed n place offset text e none false d = ap (λ x. name_alone place x false n.0) (r.are_fresh n place offset text e ∙ ap (fresh l text) unlisted)
      where
        undeclared : (b : Bool) → is_declaration items n.0 ≡ b → is_declaration items n.0 ≡ false
        undeclared true is = absurd (true≢false (sym (h.are_declared n.0 is) ∙ d))
        undeclared false is = is

        unlisted : local_number items n.0 ≡ None
        unlisted =
            ap (λ (o : Option ℕ). or_found o (number_found items (binder items n))) (no_number items n.0 (undeclared (is_declaration items n.0) refl))
            ∙ ap (number_found items) none

    name_same : (n : NodeId) (place : Place) (offset : ℕ) (text : List ℕ) → item_at items n ≡ kept.Name place offset text
        → bound_name other place (c.text offset text) n.0 (binder other n) ≡ bound_name items place text n.0 (binder items n)
    name_same n place offset text e =
        ap (bound_name other place (c.text offset text) n.0) (binder_same n) ∙ go (binder items n) refl
      where
        below : is_declared_below (length other) other n.0 ≡ is_declared_below (length items) items n.0
        below = ap (λ k. is_declared_below k other n.0) (length-map items (changed_item c)) ∙ declared_below_same c items (length items) n.0

        go : (o : Option Found) → binder items n ≡ o → bound_name other place (c.text offset text) n.0 o ≡ bound_name items place text n.0 o
        go (Some f) k = refl
        go None k =
            ap (λ b. name_alone place (c.text offset text) b n.0) below
            ∙ unnamed n place offset text e k (is_declared_below (length items) items n.0) refl

    item_same : (n : NodeId) (i : Item) → item_at items n ≡ i → bound_item other n.0 (changed_item c i) ≡ bound_item items n.0 i
    item_same n (kept.Name place offset text) e = name_same n place offset text e
    item_same n (kept.Numeral place text) e = refl
    item_same n (kept.Literal place text) e = refl
    item_same n (kept.Expression place x) e = refl
    item_same n (kept.Statement place x) e = refl
    item_same n (kept.TerraExpression place x) e = refl
    item_same n (kept.TerraStatement place x) e = refl
    item_same n (kept.Piece x) e = refl

    from_same : (n : ℕ) (more : List Item) → ((i : ℕ) → get_or items (n + i) absent_item ≡ get_or more i absent_item)
        → bound_from other n (changed_items c more) ≡ bound_from items n more
    from_same n [] at = refl
    from_same n (i ∷ more) at =
        let zero_more : n + 0 ≡ n = omega arith in
        let here : item_at items (record { 0 = n }) ≡ i = ap (λ (k : ℕ). get_or items k absent_item) (sym zero_more) ∙ at 0 in
        ap (λ x. x ∷ bound_from other (n + 1) (changed_items c more)) (item_same (record { 0 = n }) i here)
        ∙ ap (λ x. bound_item items n i ∷ x) (from_same (n + 1) more
        (λ j. let e : n + 1 + j ≡ n + suc j = omega arith in ap (λ (k : ℕ). get_or items k absent_item) e ∙ at (suc j)))

    pub binds_alike : (finish : Place) → bound items finish ≡ bound other finish
    binds_alike finish =
        ap (λ x. record { items = x; finish = finish }) (sym (from_same 0 items (λ i. let e : 0 + i ≡ i = omega arith in ap (λ (k : ℕ). get_or items k absent_item) e)))
