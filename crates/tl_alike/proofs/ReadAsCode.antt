-- A name that stands somewhere is a child that is read as code.
use Rattle.std.specs.Prelude.{Bool, true, false, Option, Some, None, take, if◌then◌else◌}
use Rattle.std.specs.Option.{option_to_list}
use Rattle.std.specs.List.{AllByRecursion}
use Rattle.std.proofs.Common.{◌≡◌, ℕ, ◌+◌, List, [], ◌∷◌, ◌++◌, length, refl, subst}
use Rattle.tl_base.specs.declared.ids.NodeId.{NodeId}
use Rattle.tl_base.specs.declared.place.Place.{Place}
use Rattle.tl_tree.specs.declared.node.Expression as of_expressions
use Rattle.tl_tree.specs.declared.node.Expression.TheVariants as expressions
use Rattle.tl_tree.specs.declared.node.Statement as of_statements
use Rattle.tl_tree.specs.declared.node.Statement.TheVariants as statements
use Rattle.tl_tree.specs.declared.node.TerraExpression as of_terra_expressions
use Rattle.tl_tree.specs.declared.node.TerraExpression.TheVariants as terra_expressions
use Rattle.tl_tree.specs.declared.node.TerraStatement as of_terra_statements
use Rattle.tl_tree.specs.declared.node.TerraStatement.TheVariants as terra_statements
use Rattle.tl_tree.specs.declared.node.Piece as of_pieces
use Rattle.tl_tree.specs.declared.node.Piece.TheVariants as pieces
use Rattle.tl_tree.specs.declared.scope.Scope.{Scope}
use Rattle.tl_tree.specs.Item.{Item}
use Rattle.tl_tree.specs.Item as kept
use Rattle.tl_tree.specs.Nodes.{item_at, last_of}
use Rattle.tl_tree.specs.Code.{Items, statements_of, statements_at, path_names_of, names_method, if_any}
use Rattle.tl_tree.specs.Scopes.{Within, Part, plain, is_name, unless_name, first_only, path_use, within_function, within_terra_function}
use Rattle.tl_tree.specs.Scopes.{within_expression, within_statement, within_terra_expression, within_terra_statement, within_piece}
use Rattle.tl_tree.specs.Scopes.{within_item, within, all_in, in_order, parts, declared_at, declarations}
use Rattle.tl_tree.specs.ScopeLaws.{Stands, AtRoot, InNode}
use Rattle.tl_tree.proofs.PartsInRows.{standing_in}
use Rattle.tl_alike.specs.Roles.{code_in, code_in_expression}
use Rattle.tl_alike.proofs.Each.{each_append, each_front, each_behind, IsNameWith, role_of, no_name}

module _ (items : Items) where
  abbrev AllRead : List NodeId → Type 0
  AllRead ns = AllByRecursion (IsNameWith items code_in) ns

  -- what stands within a node
  abbrev ReadsWithin : Within → Type 0
  ReadsWithin w = AllRead (standing_in w)

  both : (ns ms : List NodeId) → AllRead ns → AllRead ms → AllRead (ns ++ ms)
  both ns ms h k = each_append (IsNameWith items code_in) ns ms h k

  front : (ns ms : List NodeId) → AllRead (ns ++ ms) → AllRead ns
  front ns ms h = each_front (IsNameWith items code_in) ns ms h

  rest : (ns ms : List NodeId) → AllRead (ns ++ ms) → AllRead ms
  rest ns ms h = each_behind (IsNameWith items code_in) ns ms h

  three : (w : Within) → AllRead w.around → AllRead w.statements → AllRead w.behind → ReadsWithin w
  three w a s b = both w.around (w.statements ++ w.behind) a (both w.statements w.behind s b)

  all_plain : (ns : List NodeId) → AllRead ns → ReadsWithin (plain ns)
  all_plain ns h = three (plain ns) h tt tt

  any : (o : Option NodeId) → AllRead (option_to_list o) → AllRead (if_any o)
  any None h = tt
  any (Some n) h = h

  -- ---- what stands in place of a node that stands nowhere

  statements_by : (n : NodeId) (i : Item) → item_at items n ≡ i → AllRead (statements_of i)
  statements_by n (kept.Piece (pieces.Block ns)) e = role_of items code_in n _ e
  statements_by n _ e = tt

  block : (n : NodeId) → AllRead (statements_at items n)
  block n = statements_by n (item_at items n) refl

  first : (ns : List NodeId) → AllRead (take 1 ns) → AllRead (first_only ns)
  first [] h = tt
  first (n ∷ ns) h = h

  path_by : (n : NodeId) (i : Item) → item_at items n ≡ i → AllRead (first_only (path_names_of i))
  path_by n (kept.Piece (pieces.Path names method)) e = first names (role_of items code_in n _ e)
  path_by n _ e = tt

  path : (n : NodeId) → AllRead (path_use items n)
  path n = path_by n (item_at items n) refl

  unless_by : (n : NodeId) (b : Bool) → is_name (item_at items n) ≡ b → AllRead (if b then [] else n ∷ [])
  unless_by n true e = tt
  unless_by n false e = (no_name items code_in n e, tt)

  unless : (n : NodeId) → AllRead (unless_name items n)
  unless n = unless_by n (is_name (item_at items n)) refl

  function : (n body : NodeId) (around : List NodeId) (method : Bool) → AllRead around → (i : Item) → item_at items body ≡ i
      → ReadsWithin (within_function items n around method i)
  function n body around method h (kept.Piece (pieces.Body names variadic b)) e =
      three (within_function items n around method (kept.Piece (pieces.Body names variadic b))) h (block b) tt
  function n body around method h _ e = all_plain around h

  terra_function : (n body : NodeId) (around : List NodeId) (method : Bool) → AllRead around → (i : Item) → item_at items body ≡ i
      → ReadsWithin (within_terra_function items n around method i)
  terra_function n body around method h (kept.Piece (pieces.TerraBody place parameters result b)) e =
      let all = role_of items code_in body (kept.Piece (pieces.TerraBody place parameters result b)) e in
      let results = front (option_to_list result) (b ∷ []) (rest parameters (option_to_list result ++ b ∷ []) all) in
      three (within_terra_function items n around method (kept.Piece (pieces.TerraBody place parameters result b)))
      (both (around ++ parameters) (if_any result)
      (both around parameters h (front parameters (option_to_list result ++ b ∷ []) all)) (any result results))
      (block b) tt
  terra_function n body around method h _ e = all_plain around h

  arms : (ns : List NodeId) (o : Option NodeId) → AllRead (ns ++ option_to_list o) → ReadsWithin (plain (ns ++ if_any o))
  arms ns o h = all_plain (ns ++ if_any o) (both ns (if_any o) (front ns (option_to_list o) h) (any o (rest ns (option_to_list o) h)))

  -- ---- each node

  expression : (e : of_expressions.Expression) → AllRead (code_in_expression e) → ReadsWithin (within_expression e)
  expression (expressions.Select a name) h = all_plain (a ∷ []) h
  expression e h = all_plain (code_in_expression e) h

  statement : (n : NodeId) (place : Place) (s : of_statements.Statement) → AllRead (code_in (kept.Statement place s))
      → ReadsWithin (within_statement items n s)
  statement n place (statements.Repeat b condition) h =
      three (within_statement items n (statements.Repeat b condition)) tt (block b) h.1
  statement n place (statements.If all otherwise) h = arms all otherwise h
  statement n place (statements.NumericFor name a b step body) h =
      three (within_statement items n (statements.NumericFor name a b step body))
      (h.0, (h.1.0, any step (front (option_to_list step) (body ∷ []) h.1.1))) (block body) tt
  statement n place (statements.GenericFor names es body) h =
      three (within_statement items n (statements.GenericFor names es body)) (front es (body ∷ []) h) (block body) tt
  statement n place (statements.Function p body) h =
      function n body (path_use items p) (names_method items p) (path p) (item_at items body) refl
  statement n place (statements.Terra p body) h =
      terra_function n body (path_use items p) (names_method items p) (path p) (item_at items body) refl
  statement n place (statements.DeclareTerra p e) h =
      all_plain (path_use items p ++ e ∷ []) (both (path_use items p) (e ∷ []) (path p) h.1)
  statement n place (statements.Struct p entries) h =
      all_plain (path_use items p ++ entries) (both (path_use items p) entries (path p) h.1)
  statement n place s h = all_plain (code_in (kept.Statement place s)) h

  terra_expression : (place : Place) (e : of_terra_expressions.TerraExpression) → AllRead (code_in (kept.TerraExpression place e))
      → ReadsWithin (within_terra_expression items e)
  terra_expression place (terra_expressions.Select a name) h = all_plain (a ∷ unless_name items name) (h.0, unless name)
  terra_expression place (terra_expressions.Method a name arguments) h =
      all_plain (a ∷ (unless_name items name ++ arguments)) (h.0, both (unless_name items name) arguments (unless name) h.1)
  terra_expression place e h = all_plain (code_in (kept.TerraExpression place e)) h

  terra_statement : (place : Place) (s : of_terra_statements.TerraStatement) → AllRead (code_in (kept.TerraStatement place s))
      → ReadsWithin (within_terra_statement items s)
  terra_statement place (terra_statements.Repeat b condition) h =
      three (within_terra_statement items (terra_statements.Repeat b condition)) tt (block b) h.1
  terra_statement place (terra_statements.If all otherwise) h = arms all otherwise h
  terra_statement place (terra_statements.For name a b step body) h =
      three (within_terra_statement items (terra_statements.For name a b step body))
      (both (unless_name items name) (a ∷ b ∷ if_any step) (unless name)
      (h.0, (h.1.0, any step (front (option_to_list step) (body ∷ []) h.1.1)))) (block body) tt
  terra_statement place s h = all_plain (code_in (kept.TerraStatement place s)) h

  piece : (n : NodeId) (p : of_pieces.Piece) → item_at items n ≡ kept.Piece p → AllRead (code_in (kept.Piece p))
      → ReadsWithin (within_piece items n p)
  piece n (pieces.Block ns) e h = three (within_piece items n (pieces.Block ns)) tt h tt
  piece n (pieces.Body names variadic b) e h =
      function n n [] false tt (kept.Piece (pieces.Body names variadic b)) e
  piece n (pieces.Path names method) e h = tt
  piece n (pieces.Quoted b value) e h = three (within_piece items n (pieces.Quoted b value)) tt (block b) (any value h.1)
  piece n (pieces.TerraBody place parameters result b) e h =
      terra_function n n [] false tt (kept.Piece (pieces.TerraBody place parameters result b)) e
  piece n (pieces.Variable place name type) e h =
      all_plain (unless_name items name ++ if_any type) (both (unless_name items name) (if_any type) (unless name) (any type h))
  piece n p e h = all_plain (code_in (kept.Piece p)) h

  node : (n : NodeId) (i : Item) → item_at items n ≡ i → AllRead (code_in i) → ReadsWithin (within_item items n i)
  node n (kept.Expression place x) e h = expression x h
  node n (kept.Statement place x) e h = statement n place x h
  node n (kept.TerraExpression place x) e h = terra_expression place x h
  node n (kept.TerraStatement place x) e h = terra_statement place x h
  node n (kept.Piece p) e h = piece n p e h
  node n _ e h = tt

  -- ---- parts

  -- each of these parts
  abbrev EachPart : List Part → Type 0
  EachPart [] = Unit {0}
  EachPart (p ∷ ps) = IsNameWith items code_in p.node × EachPart ps

  parts_append : (ps rs : List Part) → EachPart ps → EachPart rs → EachPart (ps ++ rs)
  parts_append [] rs h k = k
  parts_append (p ∷ ps) rs h k = (h.0, parts_append ps rs h.1 k)

  parts_all_in : (scope : Scope) (ns : List NodeId) → AllRead ns → EachPart (all_in scope ns)
  parts_all_in scope [] h = tt
  parts_all_in scope (n ∷ ns) h = (h.0, parts_all_in scope ns h.1)

  parts_in_order : (owner : NodeId) (count : ℕ) (ns : List NodeId) → AllRead ns → EachPart (in_order items owner count ns)
  parts_in_order owner count [] h = tt
  parts_in_order owner count (n ∷ ns) h = (h.0, parts_in_order owner (count + length (declared_at items n)) ns h.1)

  parts_read : (n : NodeId) (scope : Scope) → EachPart (parts items n scope)
  parts_read n scope =
      let w = within items n in
      let h : ReadsWithin w = node n (item_at items n) refl (role_of items code_in n (item_at items n) refl) in
      let inner : Scope = record { owner = n; count = length (declarations items n) } in
      let around = all_in scope w.around in
      let ordered = in_order items n (length w.names) w.statements in
      let others = rest w.around (w.statements ++ w.behind) h in
      parts_append (around ++ ordered) (all_in inner w.behind)
      (parts_append around ordered (parts_all_in scope w.around (front w.around (w.statements ++ w.behind) h))
      (parts_in_order n (length w.names) w.statements (front w.statements w.behind others)))
      (parts_all_in inner w.behind (rest w.statements w.behind others))

  part_at : (before : List Part) (part : Part) (after : List Part) → EachPart (before ++ part ∷ after) → IsNameWith items code_in part.node
  part_at [] part after h = h.0
  part_at (p ∷ before) part after h = part_at before part after h.1

  -- a node that stands somewhere, other than the root
  pub read_as_code : (n : NodeId) (scope : Scope) → Stands items n scope → (n.0 ≡ (last_of items).0 → ⊥) → IsNameWith items code_in n
  read_as_code n scope AtRoot other = absurd (other refl)
  read_as_code n scope (InNode m outer before part after stands are) other =
      part_at before part after (subst (λ ps. EachPart ps) are (parts_read m outer))
