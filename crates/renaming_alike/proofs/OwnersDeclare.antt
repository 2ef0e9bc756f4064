-- What a node declares as a name an owner declares. Which owners declare what:
--   a numeric `for` of Lua code its variable, and a generic `for` its variables;
--   a `for` of Terra code its variable, where that is a name;
--   the body of a Lua function its parameters;
--   the body of a Terra function the names of its parameters;
--   a block what its statements declare: `local`, `local function`, `local terra` and `local struct` their names, `var` its variables that are
--   names.
-- Functions with a path, `repeat` and quotes declare too what the blocks in them do, which isn't needed: a block is an owner itself.
--
-- So a `for` and a body declare by themselves, and of the others it is to be shown where they stand. The invariant, which passes from each
-- node to its children: the tree at the node is well formed; it is a statement, a parameter or variable, or else code that holds only what it
-- may; and what the node declares for the one above is declared by an owner.
use Rattle.std.proofs.Common.{◌≡◌, ℕ, zero, suc, ◌+◌, ◌<◌, Bool, true, false, eqb, List, [], ◌∷◌, ◌++◌, length, ◌⊎◌, inl, inr}
use Rattle.std.proofs.Common.{refl, sym, ap, ◌∙◌, subst, arith}
use Rattle.std.specs.Prelude.{◌||◌, flat_map, if◌then◌else◌}
use Rattle.std.specs.List.{AllByRecursion}
use Rattle.std.specs.Option.{option_to_list}
use Rattle.std.proofs.lemmas.Bool.{true≢false, false≢true, or_right, cases_lt}
use Rattle.std.proofs.lemmas.Bool.Decides.{eqb_tells}
use Rattle.tl_base.specs.declared.place.Place.{Place}
use Rattle.tl_base.specs.declared.ids.NodeId.{NodeId}
use Rattle.tl_tree.specs.declared.node.Statement as of_statements
use Rattle.tl_tree.specs.declared.node.Statement.TheVariants as statements
use Rattle.tl_tree.specs.declared.node.TerraStatement as of_terra_statements
use Rattle.tl_tree.specs.declared.node.TerraStatement.TheVariants as terra_statements
use Rattle.tl_tree.specs.declared.node.Piece as of_pieces
use Rattle.tl_tree.specs.declared.node.Piece.TheVariants as pieces
use Rattle.tl_tree.specs.Item.{Item}
use Rattle.tl_tree.specs.Item as kept
use Rattle.tl_tree.specs.Tree.{Tree}
use Rattle.tl_tree.specs.Nodes.{item_at, last_of, lay}
use Rattle.tl_tree.specs.Kinds.{child, WellFormed}
use Rattle.tl_tree.specs.Children.{children_of}
use Rattle.tl_tree.specs.Texts.{Reads}
use Rattle.tl_tree.specs.Code.{Items, statements_at}
use Rattle.tl_tree.specs.Scopes.{is_name, bound_by, all_bound_by, declared_by, declared_at, if_name, within_item, all_declared, declarations}
use Rattle.tl_tree.specs.Binding.{is_among, is_declared_below}
use Rattle.tl_tree.proofs.TreeAt.{of_item, tree_at}
use Rattle.tl_tree.proofs.Laying.{reads_back}
use Rattle.tl_tree.proofs.WellFormedTrees.{well_formed_trees}
use Rattle.tl_alike.proofs.Intervals.{how_often, often_append, Has, has_number}
use Rattle.tl_alike.proofs.Filling.{whole}
use Rattle.tl_alike.proofs.OneRole as roles
use Rattle.tl_alike.proofs.Each.{each_front, each_behind, each_has, each_among}
use Rattle.tl_renaming.specs.Renamed.{is_declaration}
use Rattle.renaming_alike.proofs.Declared.{declared_to, declares_children}
use Rattle.renaming_alike.proofs.Parents.{all_down}
use Rattle.renaming_alike.proofs.Placing.{is_any_statement, is_binding, is_code, block, apart, not_first, not_second, HaveKind, Placed, placed}

-- ---- one of a list

later : (c n : NodeId) (ns : List NodeId) → eqb n.0 c.0 ≡ false → how_often c (n ∷ ns) ≡ how_often c ns
later c n ns e = ap (λ (b : Bool). (elim b as (λ _. ℕ) [ false ↦ 0 | true ↦ 1 ]) + how_often c ns) e ∙ omega arith

among : (c : NodeId) (ns : List NodeId) → Has c ns → is_among c.0 ns ≡ true
among c [] h = absurd (omega (arith, h))
among c (n ∷ ns) h = elim (eqb_tells n.0 c.0) as (λ _. is_among c.0 (n ∷ ns) ≡ true) [
  | inl e ↦ ap (λ (b : Bool). b || is_among c.0 ns) e.0
  | inr e ↦ ap (λ (b : Bool). b || is_among c.0 ns) e.0 ∙ among c ns (omega (arith, h, later c n ns e.0))
]

-- of one of two lists
of_two : (ns ms : List NodeId) (c : NodeId) → Has c (ns ++ ms) → Has c ns ⊎ Has c ms
of_two ns ms c h = elim (cases_lt 0 (how_often c ns)) as (λ _. Has c ns ⊎ Has c ms) [
  | inl lt ↦ inl (omega (arith, lt))
  | inr le ↦ inr (omega (arith, le, h, often_append c ns ms))
]

module _ (P : NodeId → Type 0) where
  of_each : (ns : List NodeId) (c : NodeId) → Has c ns → AllByRecursion P ns → P c
  of_each ns c h all = each_among P ns c all (among c ns h)

  -- of what is told of one
  of_flat : (f : NodeId → List NodeId) (ns : List NodeId) (c : NodeId) → Has c ns → AllByRecursion P (flat_map f ns) → AllByRecursion P (f c)
  of_flat f [] c h all = absurd (omega (arith, h))
  of_flat f (n ∷ ns) c h all = elim (eqb_tells n.0 c.0) as (λ _. AllByRecursion P (f c)) [
    | inl e ↦ subst (λ (k : ℕ). AllByRecursion P (f (record { 0 = k }))) e.1 (each_front P (f n) (flat_map f ns) all)
    | inr e ↦ of_flat f ns c (omega (arith, h, later c n ns e.0)) (each_behind P (f n) (flat_map f ns) all)
  ]

  -- of a name that is declared where it is one
  of_name : (n : NodeId) (b : Bool) → b ≡ true → AllByRecursion P (if b then n ∷ [] else []) → P n
  of_name n true e h = h.0
  of_name n false e h = absurd (false≢true e)

-- ---- nodes

module _ (items : Items) where
  -- an owner declares it
  abbrev IsOwned : NodeId → Type 0
  IsOwned d = is_declared_below (length items) items d.0 ≡ true

  abbrev AreOwned : List NodeId → Type 0
  AreOwned ds = AllByRecursion IsOwned ds

  below : (k : ℕ) (n d : NodeId) → n.0 < k → is_among d.0 (declarations items n) ≡ true → is_declared_below k items d.0 ≡ true
  below zero n d lt h = absurd (omega (arith, lt))
  below (suc k) n d lt h =
      elim (cases_lt n.0 k) as (λ _. is_declared_below (suc k) items d.0 ≡ true) [
        | inl under ↦
            or_right (is_among d.0 (declarations items (record { 0 = k }))) (is_declared_below k items d.0) (below k n d under h)
        | inr le ↦
            let e : n.0 ≡ k = omega (arith, le, lt) in
            ap (λ (b : Bool). b || is_declared_below k items d.0)
            (subst (λ (m : ℕ). is_among d.0 (declarations items (record { 0 = m })) ≡ true) e h)
      ]

  owner_declares : (n : NodeId) (i : Item) → item_at items n ≡ i → n.0 < length items → AreOwned (all_declared items (within_item items n i))
  owner_declares n i e lt =
      subst (λ (x : Item). AreOwned (all_declared items (within_item items n x))) e
      (each_has IsOwned (declarations items n) (λ d h. below (length items) n d lt (among d (declarations items n) h)))

  -- what only a statement declares for its block, and only a parameter or a variable for what holds it
  undeclared : (at : NodeId → Tree) (i : Item) → is_any_statement (of_item at i) ≡ false → AreOwned (declared_by items i)
  undeclared at (kept.Statement place (statements.Local names es)) h = absurd (true≢false h)
  undeclared at (kept.Statement place (statements.LocalFunction name' b)) h = absurd (true≢false h)
  undeclared at (kept.Statement place (statements.LocalTerra word name' b)) h = absurd (true≢false h)
  undeclared at (kept.Statement place (statements.LocalDeclareTerra word name' e)) h = absurd (true≢false h)
  undeclared at (kept.Statement place (statements.LocalStruct word name' entries)) h = absurd (true≢false h)
  undeclared at (kept.TerraStatement place (terra_statements.Var variables es)) h = absurd (true≢false h)
  undeclared at _ h = tt

  unbound : (at : NodeId → Tree) (i : Item) → is_binding (of_item at i) ≡ false → AreOwned (bound_by items i)
  unbound at (kept.Piece (pieces.Parameter place name' type)) h = absurd (true≢false h)
  unbound at (kept.Piece (pieces.Variable place name' type)) h = absurd (true≢false h)
  unbound at _ h = tt

  -- the invariant
  record Stands (m : NodeId) : Type 0 where
    depth : ℕ
    formed : WellFormed (tree_at depth items m)
    coded : is_any_statement (tree_at depth items m) ≡ false → is_binding (tree_at depth items m) ≡ false → is_code (tree_at depth items m) ≡ true
    declared : AreOwned (declared_at items m)
    bound : AreOwned (bound_by items (item_at items m))

  abbrev HasKindAt : ℕ → (Tree → Bool) → NodeId → Type 0
  HasKindAt k kind m = child kind (tree_at k items m) (WellFormed (tree_at k items m))

  code_stands : (k : ℕ) (m : NodeId) → HasKindAt k is_code m → Stands m
  code_stands zero m w = absurd (false≢true w.0)
  code_stands (suc k) m w =
      let a = of_item (λ c. tree_at k items c) (item_at items m) in
      record {
        depth = suc k;
        formed = w.1;
        coded = λ e f. w.0;
        declared = undeclared (λ c. tree_at k items c) (item_at items m) (not_first (is_any_statement a) (is_code a) (apart a).statement_or_code w.0);
        bound = unbound (λ c. tree_at k items c) (item_at items m) (not_first (is_binding a) (is_code a) (apart a).binding_or_code w.0);
      }

  statement_stands : (k : ℕ) (m : NodeId) → HasKindAt k is_any_statement m → AreOwned (declared_at items m) → Stands m
  statement_stands zero m w h = absurd (false≢true w.0)
  statement_stands (suc k) m w h =
      let a = of_item (λ c. tree_at k items c) (item_at items m) in
      record {
        depth = suc k;
        formed = w.1;
        coded = λ e f. absurd (true≢false (sym w.0 ∙ e));
        declared = h;
        bound = unbound (λ c. tree_at k items c) (item_at items m) (not_second (is_any_statement a) (is_binding a) (apart a).statement_or_binding w.0);
      }

  binding_stands : (k : ℕ) (m : NodeId) → HasKindAt k is_binding m → AreOwned (bound_by items (item_at items m)) → Stands m
  binding_stands zero m w h = absurd (false≢true w.0)
  binding_stands (suc k) m w h =
      let a = of_item (λ c. tree_at k items c) (item_at items m) in
      record {
        depth = suc k;
        formed = w.1;
        coded = λ e f. absurd (true≢false (sym w.0 ∙ f));
        declared = undeclared (λ c. tree_at k items c) (item_at items m) (not_first (is_any_statement a) (is_binding a) (apart a).statement_or_binding w.0);
        bound = h;
      }

  -- a child that is a binding, or one that is code
  binding_or_code : (k : ℕ) (m : NodeId) (ns ms : List NodeId) → Has m (ns ++ ms) → HaveKind (λ c. tree_at k items c) is_binding ns
      → HaveKind (λ c. tree_at k items c) is_code ms → AreOwned (all_bound_by items ns) → Stands m
  binding_or_code k m ns ms h ws vs all = elim (of_two ns ms m h) as (λ _. Stands m) [
    | inl a ↦ binding_stands k m (of_each (HasKindAt k is_binding) ns m a ws) (of_flat IsOwned (λ n. bound_by items (item_at items n)) ns m a all)
    | inr b ↦ code_stands k m (of_each (HasKindAt k is_code) ms m b vs)
  ]

  pass_by : (k : ℕ) (p m : NodeId) (i : Item) → item_at items p ≡ i → p.0 < length items → Has m (children_of i)
      → Placed (λ c. tree_at k items c) i → AreOwned (declared_by items i) → Stands m
  pass_by k p m (kept.Piece (pieces.Block ns)) e lt h w d =
      statement_stands k m (of_each (HasKindAt k is_any_statement) ns m h w)
      (of_flat IsOwned (declared_at items) ns m h (owner_declares p (kept.Piece (pieces.Block ns)) e lt))
  pass_by k p m (kept.Piece (pieces.TerraBody place parameters result b)) e lt h w d =
      binding_or_code k m parameters (option_to_list result ++ b ∷ []) h w.0 w.1
      (each_front IsOwned (all_bound_by items parameters) (flat_map (declared_at items) (statements_at items b))
      (owner_declares p (kept.Piece (pieces.TerraBody place parameters result b)) e lt))
  pass_by k p m (kept.TerraStatement place (terra_statements.Var variables es)) e lt h w d = binding_or_code k m variables es h w.0 w.1 d
  pass_by k p m i e lt h w d = code_stands k m (of_each (HasKindAt k is_code) (children_of i) m h w)

  pass : (p m : NodeId) → Has m (children_of (item_at items p)) → Stands p → Stands m
  pass p m h s = go s.depth s.formed s.coded
    where
      go : (k : ℕ) → WellFormed (tree_at k items p)
          → (is_any_statement (tree_at k items p) ≡ false → is_binding (tree_at k items p) ≡ false → is_code (tree_at k items p) ≡ true) → Stands m
      go zero w c = absurd (false≢true (c refl refl))
      go (suc k) w c =
          pass_by k p m (item_at items p) refl (has_number items p m h) h (placed (λ c'. tree_at k items c') (item_at items p) w c) s.declared

  -- ---- what a node declares as a name

  by_statement : (p c : NodeId) (place : Place) (s : of_statements.Statement) → Has c (roles.declared_by_statement s)
      → AreOwned (all_declared items (within_item items p (kept.Statement place s))) → AreOwned (declared_by items (kept.Statement place s))
      → IsOwned c
  by_statement p c place (statements.NumericFor name' a b step body') h all d = of_each IsOwned (name' ∷ []) c h (all.0, tt)
  by_statement p c place (statements.GenericFor names es b) h all d =
      of_each IsOwned names c h (each_front IsOwned names (flat_map (declared_at items) (statements_at items b)) all)
  by_statement p c place (statements.Local names es) h all d = of_each IsOwned names c h d
  by_statement p c place (statements.LocalFunction name' b) h all d = of_each IsOwned (name' ∷ []) c h d
  by_statement p c place (statements.LocalTerra word name' b) h all d = of_each IsOwned (name' ∷ []) c h d
  by_statement p c place (statements.LocalDeclareTerra word name' e) h all d = of_each IsOwned (name' ∷ []) c h d
  by_statement p c place (statements.LocalStruct word name' entries) h all d = of_each IsOwned (name' ∷ []) c h d
  by_statement p c place _ h all d = absurd (omega (arith, h))

  -- a name that is declared where it is one
  by_name : (c n : NodeId) → Has c (n ∷ []) → is_name (item_at items c) ≡ true → AreOwned (if_name items n) → IsOwned c
  by_name c n h is all =
      of_each (λ d. is_name (item_at items d) ≡ true → IsOwned d) (n ∷ []) c h
      ((λ e. of_name IsOwned n (is_name (item_at items n)) e all), tt) is

  by_terra_statement : (p c : NodeId) (place : Place) (s : of_terra_statements.TerraStatement) → is_name (item_at items c) ≡ true
      → Has c (roles.declared_by_terra_statement s) → AreOwned (all_declared items (within_item items p (kept.TerraStatement place s))) → IsOwned c
  by_terra_statement p c place (terra_statements.For name' a b step body') is h all =
      by_name c name' h is (each_front IsOwned (if_name items name') (flat_map (declared_at items) (statements_at items body')) all)
  by_terra_statement p c place _ is h all = absurd (omega (arith, h))

  by_piece : (p c : NodeId) (a : of_pieces.Piece) → is_name (item_at items c) ≡ true → Has c (roles.declared_by_piece a)
      → AreOwned (all_declared items (within_item items p (kept.Piece a))) → AreOwned (bound_by items (kept.Piece a)) → IsOwned c
  by_piece p c (pieces.Body names variadic b) is h all d =
      of_each IsOwned names c h (each_front IsOwned names (flat_map (declared_at items) (statements_at items b)) all)
  by_piece p c (pieces.Parameter place name' type) is h all d = of_each IsOwned (name' ∷ []) c h d
  by_piece p c (pieces.Variable place name' type) is h all d = by_name c name' h is d
  by_piece p c _ is h all d = absurd (omega (arith, h))

  by_item : (p c : NodeId) (i : Item) → is_name (item_at items c) ≡ true → Has c (roles.declares i)
      → AreOwned (all_declared items (within_item items p i)) → AreOwned (declared_by items i) → AreOwned (bound_by items i) → IsOwned c
  by_item p c (kept.Statement place s) is h all d b = by_statement p c place s h all d
  by_item p c (kept.TerraStatement place s) is h all d b = by_terra_statement p c place s is h all
  by_item p c (kept.Piece a) is h all d b = by_piece p c a is h all b
  by_item p c _ is h all d b = absurd (omega (arith, h))

-- ---- the whole

-- what a node declares an owner declares
pub owners_declare_all : (text : List ℕ) (tree : Tree) → Reads text tree → (n : ℕ) → is_declaration (lay tree []) n ≡ true
    → is_declared_below (length (lay tree [])) (lay tree []) n ≡ true
owners_declare_all text tree reads n h =
    let items = lay tree [] in
    let formed = well_formed_trees text tree reads in
    let root : Stands items (last_of items) =
    code_stands items (length items) (last_of items)
    (subst (λ (a : Tree). child is_code a (WellFormed a)) (sym (reads_back tree formed items (length items) refl (omega arith)))
    (block tree formed.0, formed.1)) in
    let c : NodeId = record { 0 = n } in
    let d = declared_to items c h in
    let p = d.parent.0 in
    let lt = has_number items p c (declares_children c (item_at items p) d.parent.1) in
    let s = all_down items (whole tree formed) (λ m. Stands items m) root (λ q m k s. pass items q m k s) p lt in
    by_item items p c (item_at items p) d.is d.parent.1 (owner_declares items p (item_at items p) refl lt) s.declared s.bound
