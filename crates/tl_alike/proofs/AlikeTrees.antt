-- The trees of texts that bind alike are alike.
use Rattle.std.specs.Prelude.{Bool, true, false, Option, Some, None, get_or, ◌||◌}
use Rattle.std.proofs.Common.{◌≡◌, ℕ, zero, suc, ◌+◌, List, [], ◌∷◌, length, inl, inr, refl, sym, ap, subst, ◌∙◌, arith}
use Rattle.std.proofs.lemmas.Bool.{cases_lt}
use Rattle.std.proofs.lemmas.List.{get_or_past}
use Rattle.tl_base.specs.declared.ids.NodeId.{NodeId}
use Rattle.tl_base.specs.declared.place.Place.{Place}
use Rattle.tl_lex.specs.Values as literals
use Rattle.tl_tree.specs.Symbols.{numeral_of}
use Rattle.tl_tree.specs.Numbers as numerals
use Rattle.tl_tree.specs.Item.{Item}
use Rattle.tl_tree.specs.Item as kept
use Rattle.tl_tree.specs.Nodes.{item_at, absent_item, last_of, lay}
use Rattle.tl_tree.specs.Tree.{Tree}
use Rattle.tl_tree.specs.Tokens.{finish_of}
use Rattle.tl_tree.specs.Kinds.{IsWellFormedBlock}
use Rattle.tl_tree.specs.Code.{Items, name_of, name_at}
use Rattle.tl_tree.specs.Scopes.{Found, is_name, binder, declarations}
use Rattle.tl_tree.specs.Binding.{BoundItem, Declared, Used, OtherName, NumberValue, TextValue, Other, bound, bound_from, bound_item}
use Rattle.tl_tree.specs.Binding.{bound_name, name_alone, is_among, is_declared_below}
use Rattle.tl_tree.proofs.BindingAlike.{bound_determines}
use Rattle.tl_tree.proofs.OnlyNames.{only_names_have_binders}
use Rattle.tl_tree.proofs.WellFormedTrees.{well_formed_trees}
use Rattle.tl_alike.specs.Roles.{selected_by, code_in, HasKinds}
use Rattle.tl_alike.specs.Alike.{SameNode, SameName, SameNumeral, SameLiteral, SameItem, HasSameUse, HasSameName}
use Rattle.tl_alike.specs.Alike.{AlikeTextsHaveAlikeTrees}
use Rattle.tl_alike.proofs.Intervals.{Whole, root_is_last, is_before, has_number}
use Rattle.tl_alike.proofs.Filling.{whole, has_kinds}
use Rattle.tl_alike.proofs.OneRole.{HasParent, read_or_declared, selected_or_declared, selected_or_read, declares, has_selected}
use Rattle.tl_alike.proofs.Each.{all_has, each_among, IsNameWith}
use Rattle.tl_alike.proofs.Declaring.{all_declarations}
use Rattle.tl_alike.proofs.ReadAsCode.{read_as_code}

-- ---- the node that is shown without the names of locals

abbrev IsNameAt : Place → Item → Type 0
IsNameAt place i = (offset : ℕ) × (text : List ℕ) × (i ≡ kept.Name place offset text)

-- what is told of a node
abbrev Tells : BoundItem → Item → Type 0
Tells (Declared place k) i = IsNameAt place i
Tells (Used place k) i = IsNameAt place i
Tells (OtherName place text) i = (offset : ℕ) × (i ≡ kept.Name place offset text)
Tells (NumberValue place symbol value) i =
    (text : List ℕ) × (i ≡ kept.Numeral place text) × (numeral_of text ≡ symbol) × (numerals.value_of text ≡ value)
Tells (TextValue place value) i = (text : List ℕ) × (i ≡ kept.Literal place text) × (literals.value_of text ≡ value)
Tells (Other item) i = i ≡ item

tells_alone : (place : Place) (offset : ℕ) (text : List ℕ) (b : Bool) (n : ℕ)
    → Tells (name_alone place text b n) (kept.Name place offset text)
tells_alone place offset text true n = (offset, text, refl)
tells_alone place offset text false n = (offset, refl)

tells_name : (items : Items) (place : Place) (offset : ℕ) (text : List ℕ) (n : ℕ) (found : Option Found)
    → Tells (bound_name items place text n found) (kept.Name place offset text)
tells_name items place offset text n (Some f) = (offset, text, refl)
tells_name items place offset text n None = tells_alone place offset text (is_declared_below (length items) items n) n

tells : (items : Items) (n : ℕ) (i : Item) → Tells (bound_item items n i) i
tells items n (kept.Name place offset text) = tells_name items place offset text n (binder items (record { 0 = n }))
tells items n (kept.Numeral place text) = (text, refl, refl, refl)
tells items n (kept.Literal place text) = (text, refl, refl)
tells items n _ = refl

same_pair : (i j a b : Item) → i ≡ a → j ≡ b → SameNode a b → SameNode i j
same_pair i j a b e f h = subst (λ x. SameNode x j) (sym e) (subst (λ x. SameNode a x) (sym f) h)

same_node : (b : BoundItem) (i j : Item) → Tells b i → Tells b j → SameNode i j
same_node (Declared place k) i j s t =
    same_pair i j (kept.Name place s.0 s.1) (kept.Name place t.0 t.1) s.2 t.2 (SameName place s.0 t.0 s.1 t.1)
same_node (Used place k) i j s t =
    same_pair i j (kept.Name place s.0 s.1) (kept.Name place t.0 t.1) s.2 t.2 (SameName place s.0 t.0 s.1 t.1)
same_node (OtherName place text) i j s t =
    same_pair i j (kept.Name place s.0 text) (kept.Name place t.0 text) s.1 t.1 (SameName place s.0 t.0 text text)
same_node (NumberValue place symbol value) i j s t =
    same_pair i j (kept.Numeral place s.0) (kept.Numeral place t.0) s.1 t.1
    (SameNumeral place s.0 t.0 (s.2 ∙ sym t.2) (s.3 ∙ sym t.3))
same_node (TextValue place value) i j s t =
    same_pair i j (kept.Literal place s.0) (kept.Literal place t.0) s.1 t.1 (SameLiteral place s.0 t.0 (s.2 ∙ sym t.2))
same_node (Other item) i j s t = same_pair i j item item s t (SameItem item)

-- what tells of a name tells its text
abbrev TellsText : BoundItem → Type 0
TellsText (Declared place k) = ⊥
TellsText (Used place k) = ⊥
TellsText _ = Unit {0}

same_text : (b : BoundItem) (i j : Item) → TellsText b → Tells b i → Tells b j → name_of i ≡ name_of j
same_text (Declared place k) i j h s t = absurd h
same_text (Used place k) i j h s t = absurd h
same_text (OtherName place text) i j h s t = ap name_of s.1 ∙ sym (ap name_of t.1)
same_text (NumberValue place symbol value) i j h s t = ap name_of s.1 ∙ sym (ap name_of t.1)
same_text (TextValue place value) i j h s t = ap name_of s.1 ∙ sym (ap name_of t.1)
same_text (Other item) i j h s t = ap name_of (s ∙ sym t)

-- a name's is told where it finds nothing and is declared by no node
tells_text : (items : Items) (c : NodeId) (i : Item)
    → (is_name i ≡ true → (binder items c ≡ None) × (is_declared_below (length items) items c.0 ≡ false))
    → TellsText (bound_item items c.0 i)
tells_text items c (kept.Name place offset text) h =
    let alone = h refl in
    subst (λ o. TellsText (bound_name items place text c.0 o)) (sym alone.0)
    (subst (λ b. TellsText (name_alone place text b c.0)) (sym alone.1) tt)
tells_text items c _ h = tt

-- ---- nodes one by one

read_bound : (items : Items) (k : ℕ) (more : List Item) (i : ℕ)
    → get_or (bound_from items k more) i (Other absent_item) ≡ bound_item items (k + i) (get_or more i absent_item)
read_bound items k [] i = refl
read_bound items k (x ∷ more) zero = ap (λ m. bound_item items m x) (omega arith)
read_bound items k (x ∷ more) (suc i) =
    read_bound items (k + 1) more i ∙ ap (λ m. bound_item items m (get_or more i absent_item)) (omega arith)

bound_at : (items : Items) (n : NodeId) → get_or (bound_from items 0 items) n.0 (Other absent_item) ≡ bound_item items n.0 (item_at items n)
bound_at items n = read_bound items 0 items n.0 ∙ ap (λ m. bound_item items m (item_at items n)) (omega arith)

bound_length : (items : Items) (k : ℕ) (more : List Item) → length (bound_from items k more) ≡ length more
bound_length items k [] = refl
bound_length items k (x ∷ more) = omega (arith, bound_length items (k + 1) more)

module _ (items other : Items) (finish end : Place) (e : bound items finish ≡ bound other end) where
  same_length : length items ≡ length other
  same_length = sym (bound_length items 0 items) ∙ ap (λ x. length x.items) e ∙ bound_length other 0 other

  same_at : (n : NodeId) → bound_item other n.0 (item_at other n) ≡ bound_item items n.0 (item_at items n)
  same_at n = sym (bound_at other n) ∙ sym (ap (λ x. get_or x.items n.0 (Other absent_item)) e) ∙ bound_at items n

  tells_other : (n : NodeId) → Tells (bound_item items n.0 (item_at items n)) (item_at other n)
  tells_other n = subst (λ b. Tells b (item_at other n)) (same_at n) (tells other n.0 (item_at other n))

  nodes : (n : NodeId) → SameNode (item_at items n) (item_at other n)
  nodes n =
      same_node (bound_item items n.0 (item_at items n)) (item_at items n) (item_at other n) (tells items n.0 (item_at items n))
      (tells_other n)

  names : (c : NodeId)
      → (is_name (item_at items c) ≡ true → (binder items c ≡ None) × (is_declared_below (length items) items c.0 ≡ false))
      → name_at items c ≡ name_at other c
  names c h =
      same_text (bound_item items c.0 (item_at items c)) (item_at items c) (item_at other c) (tells_text items c (item_at items c) h)
      (tells items c.0 (item_at items c)) (tells_other c)

-- ---- what is used or selected is declared by no node

module _ (items : Items) (whole : Whole items) where
  abbrev IsUndeclared : NodeId → Type 0
  IsUndeclared c = HasParent items declares c → ⊥

  among_by : (c n : NodeId) → is_name (item_at items c) ≡ true → IsUndeclared c → (b : Bool) → is_among c.0 (declarations items n) ≡ b
      → is_among c.0 (declarations items n) ≡ false
  among_by c n is not true e =
      absurd (not (each_among (IsNameWith items declares) (declarations items n) c (all_declarations items n) e is))
  among_by c n is not false e = e

  undeclared : (c : NodeId) → is_name (item_at items c) ≡ true → IsUndeclared c → (k : ℕ) → is_declared_below k items c.0 ≡ false
  undeclared c is not zero = refl
  undeclared c is not (suc k) =
      let n : NodeId = record { 0 = k } in
      ap (λ b. b || is_declared_below k items c.0) (among_by c n is not (is_among c.0 (declarations items n)) refl)
      ∙ undeclared c is not k

  -- and what is selected stands nowhere
  binder_by : (c : NodeId) → HasParent items selected_by c → is_name (item_at items c) ≡ true → (o : Option Found) → binder items c ≡ o
      → binder items c ≡ None
  binder_by c selected is None e = e
  binder_by c selected is (Some f) e =
      let found = only_names_have_binders items c f e in
      absurd (selected_or_read items whole c selected (read_as_code items c found.scope found.stands below_root is))
    where
      below_root : (c.0 ≡ (last_of items).0) → ⊥
      below_root at =
          let h = has_selected items selected.0 c selected.1 in
          omega (arith, at, root_is_last items whole, is_before items whole selected.0 c h, has_number items selected.0 c h)

  nothing_found : (c : NodeId) → HasParent items selected_by c → is_name (item_at items c) ≡ true → binder items c ≡ None
  nothing_found c selected is = binder_by c selected is (binder items c) refl

-- ---- the law

kinds_at : (tree : Tree) → IsWellFormedBlock tree → (n : NodeId) → HasKinds (lay tree []) (item_at (lay tree []) n)
kinds_at tree h n = elim (cases_lt n.0 (length (lay tree []))) as (λ _. HasKinds (lay tree []) (item_at (lay tree []) n)) [
  | inl lt ↦ has_kinds tree h n lt
  | inr le ↦ subst (λ (i : Item). HasKinds (lay tree []) i) (sym (get_or_past (lay tree []) n.0 absent_item le)) tt
]

pub alike_trees : AlikeTextsHaveAlikeTrees
alike_trees a b tree other reads other_reads e =
    let items = lay tree [] in
    let others = lay other [] in
    let formed = well_formed_trees a tree reads in
    let all = whole tree formed in
    record {
      long = same_length items others (finish_of a) (finish_of b) e;
      nodes = nodes items others (finish_of a) (finish_of b) e;
      binders = bound_determines items others (finish_of a) (finish_of b) e;
      uses = λ n. all_has (HasSameUse items others) (code_in (item_at items n)) (λ c h none.
          names items others (finish_of a) (finish_of b) e c
          (λ is. (none, undeclared items all c is (read_or_declared items all c (n, h)) (length items))));
      selects = λ n. all_has (HasSameName items others) (selected_by (item_at items n)) (λ c h.
          names items others (finish_of a) (finish_of b) e c
          (λ is. (nothing_found items all c (n, h) is, undeclared items all c is (selected_or_declared items all c (n, h)) (length items))));
      kinds = kinds_at tree formed;
    }
