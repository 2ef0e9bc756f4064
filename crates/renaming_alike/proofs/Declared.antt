-- Names that nodes declare, as a renaming sees them: what owners declare they declare, and what they declare stands nowhere and is declared by
-- an owner.
use Rattle.std.proofs.Common.{◌≡◌, ℕ, zero, suc, ◌+◌, Bool, true, false, eqb, List, [], ◌∷◌, ◌++◌, get_or, Option, Some, None}
use Rattle.std.proofs.Common.{refl, sym, ap, ◌∙◌, inl, inr, arith}
use Rattle.std.specs.Prelude.{◌||◌}
use Rattle.std.specs.List.{AllByRecursion, list_any}
use Rattle.std.proofs.lemmas.Bool.{false≢true, and_from, and_parts}
use Rattle.std.proofs.lemmas.Bool.Decides.{eqb_tells}
use Rattle.tl_base.specs.declared.ids.NodeId.{NodeId}
use Rattle.tl_tree.specs.declared.node.Statement as of_statements
use Rattle.tl_tree.specs.declared.node.Statement.TheVariants as statements
use Rattle.tl_tree.specs.declared.node.TerraStatement as of_terra_statements
use Rattle.tl_tree.specs.declared.node.TerraStatement.TheVariants as terra_statements
use Rattle.tl_tree.specs.declared.node.Piece as of_pieces
use Rattle.tl_tree.specs.declared.node.Piece.TheVariants as pieces
use Rattle.tl_tree.specs.declared.scope.Scope.{Scope}
use Rattle.tl_tree.specs.Item.{Item}
use Rattle.tl_tree.specs.Item as kept
use Rattle.tl_tree.specs.Nodes.{item_at, absent_item, last_of}
use Rattle.tl_tree.specs.Code.{Items}
use Rattle.tl_tree.specs.Children.{children_of}
use Rattle.tl_tree.specs.Scopes.{is_name, scope_at, declarations}
use Rattle.tl_tree.proofs.Standings.{nodes_stand}
use Rattle.tl_alike.proofs.Intervals.{how_often, often_append, Has, Whole, root_is_last, is_before, has_number}
use Rattle.tl_alike.proofs.OneRole as roles
use Rattle.tl_alike.proofs.OneRole.{HasParent, read_or_declared}
use Rattle.tl_alike.proofs.Each.{IsNameWith}
use Rattle.tl_alike.proofs.Declaring.{all_declarations}
use Rattle.tl_alike.proofs.ReadAsCode.{read_as_code}
use Rattle.tl_renaming.specs.Renamed.{declares, has_node, is_declaration}

-- ---- declared as a child, and as a renaming sees it

same_declares : (i : Item) → roles.declares i ≡ declares i
same_declares (kept.Statement place (statements.NumericFor name a b step block)) = refl
same_declares (kept.Statement place (statements.GenericFor names es block)) = refl
same_declares (kept.Statement place (statements.Local names es)) = refl
same_declares (kept.Statement place _) = refl
same_declares (kept.TerraStatement place (terra_statements.For name a b step block)) = refl
same_declares (kept.TerraStatement place _) = refl
same_declares (kept.Piece (pieces.Body names variadic block)) = refl
same_declares (kept.Piece _) = refl
same_declares _ = refl

later : (c n : NodeId) (ns : List NodeId) → eqb n.0 c.0 ≡ false → how_often c (n ∷ ns) ≡ how_often c ns
later c n ns e = ap (λ (b : Bool). (elim b as (λ _. ℕ) [ false ↦ 0 | true ↦ 1 ]) + how_often c ns) e ∙ omega arith

first : (c n : NodeId) (ns : List NodeId) → eqb n.0 c.0 ≡ true → how_often c (n ∷ ns) ≡ 1 + how_often c ns
first c n ns e = ap (λ (b : Bool). (elim b as (λ _. ℕ) [ false ↦ 0 | true ↦ 1 ]) + how_often c ns) e

has_from : (c : NodeId) (ns : List NodeId) → Has c ns → has_node c.0 ns ≡ true
has_from c [] h = absurd (omega (arith, h))
has_from c (n ∷ ns) h = elim (eqb_tells n.0 c.0) as (λ _. has_node c.0 (n ∷ ns) ≡ true) [
  | inl e ↦ ap (λ (b : Bool). b || has_node c.0 ns) e.0
  | inr e ↦ ap (λ (b : Bool). b || has_node c.0 ns) e.0 ∙ has_from c ns (omega (arith, h, later c n ns e.0))
]

has_to : (c : NodeId) (ns : List NodeId) → has_node c.0 ns ≡ true → Has c ns
has_to c [] h = absurd (false≢true h)
has_to c (n ∷ ns) h = elim (eqb_tells n.0 c.0) as (λ _. Has c (n ∷ ns)) [
  | inl e ↦ omega (arith, first c n ns e.0)
  | inr e ↦ let k = has_to c ns (sym (ap (λ (b : Bool). b || has_node c.0 ns) e.0) ∙ h) in omega (arith, k, later c n ns e.0)
]

-- among all nodes
any_from : (p : Item → Bool) (items : List Item) (i : ℕ) → p absent_item ≡ false → p (get_or items i absent_item) ≡ true → list_any p items ≡ true
any_from p [] i none h = absurd (false≢true (sym none ∙ h))
any_from p (x ∷ xs) zero none h = ap (λ (b : Bool). b || list_any p xs) h
any_from p (x ∷ xs) (suc i) none h = go (p x) (any_from p xs i none h)
  where
    go : (b : Bool) → list_any p xs ≡ true → (b || list_any p xs) ≡ true
    go true k = refl
    go false k = k

pub record AnyOf (p : Item → Bool) (items : List Item) : Type 0 where
  pub number : ℕ
  pub passes : p (get_or items number absent_item) ≡ true

any_to : (p : Item → Bool) (items : List Item) → list_any p items ≡ true → AnyOf p items
any_to p [] h = absurd (false≢true h)
any_to p (x ∷ xs) h = go (p x) refl h (λ k. any_to p xs k)
  where
    go : (b : Bool) → p x ≡ b → (b || list_any p xs) ≡ true → (list_any p xs ≡ true → AnyOf p xs) → AnyOf p (x ∷ xs)
    go true e k more = record { number = 0; passes = e }
    go false e k more = let a = more k in record { number = suc a.number; passes = a.passes }

pub declared_from : (items : Items) (c : NodeId) → is_name (item_at items c) ≡ true → HasParent items roles.declares c → is_declaration items c.0 ≡ true
declared_from items c is h =
    and_from (is_name (item_at items c)) (list_any (λ item. has_node c.0 (declares item)) items) is
    (any_from (λ item. has_node c.0 (declares item)) items h.0.0 refl
    (ap (has_node c.0) (sym (same_declares (item_at items h.0))) ∙ has_from c (roles.declares (item_at items h.0)) h.1))

pub record DeclaredBy (items : Items) (c : NodeId) : Type 0 where
  pub is : is_name (item_at items c) ≡ true
  pub parent : HasParent items roles.declares c

pub declared_to : (items : Items) (c : NodeId) → is_declaration items c.0 ≡ true → DeclaredBy items c
declared_to items c h =
    let both = and_parts (is_name (item_at items c)) (list_any (λ item. has_node c.0 (declares item)) items) h in
    let a = any_to (λ item. has_node c.0 (declares item)) items both.1 in
    record {
      is = both.0;
      parent = (
        record { 0 = a.number },
        has_to c (roles.declares (get_or items a.number absent_item))
            (ap (has_node c.0) (same_declares (get_or items a.number absent_item)) ∙ a.passes),
      );
    }

-- ---- what owners declare

pub owners_declare : (items : Items) (n : NodeId) → AllByRecursion (λ d. is_name (item_at items d) ≡ true → is_declaration items d.0 ≡ true) (declarations items n)
owners_declare items n = go (declarations items n) (all_declarations items n)
  where
    go : (ds : List NodeId) → AllByRecursion (IsNameWith items roles.declares) ds
        → AllByRecursion (λ d. is_name (item_at items d) ≡ true → is_declaration items d.0 ≡ true) ds
    go [] h = tt
    go (d ∷ ds) h = (λ is. declared_from items d is (h.0 is), go ds h.1)

-- ---- what is declared stands nowhere

-- what a node declares is its child
of_statement : (c : NodeId) (s : of_statements.Statement) → Has c (roles.declared_by_statement s)
    → Has c (children_of (kept.Statement (record { line = 0; word = 0 }) s))
of_statement c (statements.NumericFor name a b step block) h = omega (arith, h)
of_statement c (statements.GenericFor names es block) h = omega (arith, h, often_append c names (es ++ block ∷ []))
of_statement c (statements.LocalFunction name body) h = omega (arith, h)
of_statement c (statements.Local names es) h = omega (arith, h, often_append c names es)
of_statement c (statements.LocalTerra word name body) h = omega (arith, h)
of_statement c (statements.LocalDeclareTerra word name e) h = omega (arith, h)
of_statement c (statements.LocalStruct word name entries) h = omega (arith, h)
of_statement c _ h = absurd (omega (arith, h))

of_terra_statement : (c : NodeId) (s : of_terra_statements.TerraStatement) → Has c (roles.declared_by_terra_statement s)
    → Has c (children_of (kept.TerraStatement (record { line = 0; word = 0 }) s))
of_terra_statement c (terra_statements.For name a b step block) h = omega (arith, h)
of_terra_statement c _ h = absurd (omega (arith, h))

of_piece : (c : NodeId) (p : of_pieces.Piece) → Has c (roles.declared_by_piece p) → Has c (children_of (kept.Piece p))
of_piece c (pieces.Body names variadic block) h = omega (arith, h, often_append c names (block ∷ []))
of_piece c (pieces.Parameter place name type) h = omega (arith, h)
of_piece c (pieces.Variable place name type) h = omega (arith, h)
of_piece c _ h = absurd (omega (arith, h))

pub declares_children : (c : NodeId) (i : Item) → Has c (roles.declares i) → Has c (children_of i)
declares_children c (kept.Statement place s) h = of_statement c s h
declares_children c (kept.TerraStatement place s) h = of_terra_statement c s h
declares_children c (kept.Piece p) h = of_piece c p h
declares_children c _ h = absurd (omega (arith, h))

pub stands_nowhere : (items : Items) → Whole items → (c : NodeId) → is_declaration items c.0 ≡ true → scope_at items c ≡ None
stands_nowhere items whole c h = go (scope_at items c) refl
  where
    d : DeclaredBy items c
    d = declared_to items c h

    child : roles.HasParent items roles.declares c → (c.0 ≡ (last_of items).0) → ⊥
    child p e =
        let m = p.0 in
        let h = declares_children c (item_at items m) p.1 in
        omega (arith, e, root_is_last items whole, is_before items whole m c h, has_number items m c h)

    go : (o : Option Scope) → scope_at items c ≡ o → o ≡ None
    go None e = refl
    go (Some scope) e =
        absurd (read_or_declared items whole c (read_as_code items c scope (nodes_stand items c scope e) (child d.parent) d.is) d.parent)
