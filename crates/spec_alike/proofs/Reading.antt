-- What specialising reads of the nodes is the same in trees that are alike, and the children that it goes to are used or selected alike.
use Rattle.std.proofs.Common.{◌≡◌, List, [], ◌∷◌, ◌++◌, Option, Some, None, refl, ap}
use Rattle.std.specs.Prelude.{option_to_list}
use Rattle.std.specs.List.{AllByRecursion as Each}
use Rattle.tl_base.specs.declared.ids.NodeId.{NodeId}
use Rattle.tl_tree.specs.declared.node.Piece.TheVariants as pieces
use Rattle.tl_tree.specs.declared.node.TerraExpression.TheVariants as terra_expressions
use Rattle.tl_tree.specs.Item.{Item}
use Rattle.tl_tree.specs.Item as kept
use Rattle.tl_tree.specs.Nodes.{item_at}
use Rattle.tl_tree.specs.Code.{Items, if_any, arm_condition}
use Rattle.tl_alike.specs.Roles.{code_in, selected_by, is_entry, is_escape, is_arm}
use Rattle.tl_alike.specs.Alike.{AreAlike, SameNode, SameName, SameNumeral, SameLiteral, SameItem, HasSameUse, HasSameName}
use Rattle.tl_alike.proofs.ReadAlike.{same_read}
use Rattle.spec_model.specs.Nodes.{escaped_in, escaped_at, or_first, typing_of, typing_at, terra_parts_of, terra_parts_at}
use Rattle.spec_model.specs.Nodes.{quoted_of, quoted_at, Initial, initial_of, initial_at, is_some, are_named}
use Rattle.tl_alike.proofs.Each.{each_front, each_behind}
use Rattle.spec_alike.proofs.Children.{IfAny, each, each-if-any}

-- an arm is the same arm
arm-same : {a b : Item} → SameNode a b → is_arm a → a ≡ b
arm-same (SameName place i j text others) is = absurd is
arm-same (SameNumeral place text others symbol value) is = absurd is
arm-same (SameLiteral place text others value) is = absurd is
arm-same (SameItem item) is = refl

-- ---- the children of a node

module _ (P : NodeId → Type 0) where
  of-escape : (a : Item) → Each P (code_in a) → IfAny P (escaped_in a)
  of-escape (kept.TerraExpression place (terra_expressions.Escape e)) h = h.0
  of-escape _ h = tt

  of-spliced : (a : Item) → is_escape a → Each P (code_in a) → P (or_first (escaped_in a))
  of-spliced (kept.TerraExpression place (terra_expressions.Escape e)) is h = h.0
  of-spliced _ is h = absurd is

  of-typing : (a : Item) → Each P (code_in a) → IfAny P (typing_of a).type
  of-typing (kept.Piece (pieces.Parameter place name type)) h = h.0
  of-typing (kept.Piece (pieces.Variable place name type)) h = each-if-any P type h
  of-typing (kept.Piece (pieces.Entry name type)) h = h.0
  of-typing _ h = tt

  of-entry : (a : Item) → is_entry a → Each P (selected_by a) → P (typing_of a).name
  of-entry (kept.Piece (pieces.Entry name type)) is h = h.0
  of-entry _ is h = absurd is

  of-result : (a : Item) → Each P (code_in a) → IfAny P (terra_parts_of a).result
  of-result (kept.Piece (pieces.TerraBody place parameters result block)) h =
      each-if-any P result
      (each_front P (option_to_list result) (block ∷ [])
      (each_behind P parameters (option_to_list result ++ block ∷ []) h))
  of-result _ h = tt

  of-quoted : (a : Item) → Each P (code_in a) → IfAny P (quoted_of a).value
  of-quoted (kept.Piece (pieces.Quoted block e)) h = each-if-any P e h.1
  of-quoted _ h = tt

  of-arm : (a : Item) → is_arm a → Each P (code_in a) → P (arm_condition a)
  of-arm (kept.Piece (pieces.Arm condition block)) is h = h.0
  of-arm _ is h = absurd is

  -- a child behind others, where there may be none
  pub each-any : (o : Option NodeId) → Each P (option_to_list o) → Each P (if_any o)
  each-any (Some n) h = h
  each-any None h = h

-- an initialiser's value is read alike, and its name is the same
abbrev pub IsReadAlike : Items → Items → Initial → Type 0
IsReadAlike items other i = HasSameUse items other i.value × HasSameName items other i.name

module _ (items other : Items) where
  of-initial : (a : Item) → Each (HasSameUse items other) (code_in a) → Each (HasSameName items other) (selected_by a)
      → IfAny (IsReadAlike items other) (initial_of a)
  of-initial (kept.Piece (pieces.NamedField name value)) h k = (h.0, k.0)
  of-initial _ h k = tt

-- ---- two trees

module _ (items other : Items) (alike : AreAlike items other) where
  pub same-escaped : (n : NodeId) → escaped_at items n ≡ escaped_at other n
  same-escaped n =
      same_read escaped_in (record { of_names = λ p i j t u. refl; of_numerals = λ p t u. refl; of_literals = λ p t u. refl })
      (alike.nodes n)

  pub same-typing : (n : NodeId) → typing_at items n ≡ typing_at other n
  same-typing n =
      same_read typing_of (record { of_names = λ p i j t u. refl; of_numerals = λ p t u. refl; of_literals = λ p t u. refl })
      (alike.nodes n)

  pub same-parts : (n : NodeId) → terra_parts_at items n ≡ terra_parts_at other n
  same-parts n =
      same_read terra_parts_of (record { of_names = λ p i j t u. refl; of_numerals = λ p t u. refl; of_literals = λ p t u. refl })
      (alike.nodes n)

  pub same-quoted : (n : NodeId) → quoted_at items n ≡ quoted_at other n
  same-quoted n =
      same_read quoted_of (record { of_names = λ p i j t u. refl; of_numerals = λ p t u. refl; of_literals = λ p t u. refl })
      (alike.nodes n)

  pub same-initial : (n : NodeId) → initial_at items n ≡ initial_at other n
  same-initial n =
      same_read initial_of (record { of_names = λ p i j t u. refl; of_numerals = λ p t u. refl; of_literals = λ p t u. refl })
      (alike.nodes n)

  pub same-are-named : (ns : List NodeId) → are_named items ns ≡ are_named other ns
  same-are-named [] = refl
  same-are-named (n ∷ ns) = ap is_some (same-initial n)

  pub same-arm : (n : NodeId) → is_arm (item_at items n) → item_at items n ≡ item_at other n
  same-arm n is = arm-same (alike.nodes n) is

  -- the children of a node

  pub uses-of : (n : NodeId) → Each (HasSameUse items other) (code_in (item_at items n))
  uses-of n = each (HasSameUse items other) (code_in (item_at items n)) (alike.uses n)

  pub names-of : (n : NodeId) → Each (HasSameName items other) (selected_by (item_at items n))
  names-of n = each (HasSameName items other) (selected_by (item_at items n)) (alike.selects n)

  pub escape-use : (n : NodeId) → IfAny (HasSameUse items other) (escaped_at items n)
  escape-use n = of-escape (HasSameUse items other) (item_at items n) (uses-of n)

  pub spliced-use : (n : NodeId) → is_escape (item_at items n) → HasSameUse items other (or_first (escaped_at items n))
  spliced-use n is = of-spliced (HasSameUse items other) (item_at items n) is (uses-of n)

  pub type-use : (n : NodeId) → IfAny (HasSameUse items other) (typing_at items n).type
  type-use n = of-typing (HasSameUse items other) (item_at items n) (uses-of n)

  pub entry-name : (n : NodeId) → is_entry (item_at items n) → HasSameName items other (typing_at items n).name
  entry-name n is = of-entry (HasSameName items other) (item_at items n) is (names-of n)

  pub result-use : (n : NodeId) → IfAny (HasSameUse items other) (terra_parts_at items n).result
  result-use n = of-result (HasSameUse items other) (item_at items n) (uses-of n)

  pub quoted-use : (n : NodeId) → IfAny (HasSameUse items other) (quoted_at items n).value
  quoted-use n = of-quoted (HasSameUse items other) (item_at items n) (uses-of n)

  pub condition-use : (n : NodeId) → is_arm (item_at items n) → HasSameUse items other (arm_condition (item_at items n))
  condition-use n is = of-arm (HasSameUse items other) (item_at items n) is (uses-of n)

  pub initial-use : (n : NodeId) → IfAny (IsReadAlike items other) (initial_at items n)
  initial-use n = of-initial items other (item_at items n) (uses-of n) (names-of n)
