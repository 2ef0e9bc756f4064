-- Trees that call no function that is a value, since none of their nodes does.
use Rattle.std.proofs.Common.{◌≡◌, ℕ, zero, suc, Bool, true, List, [], ◌∷◌, ◌++◌, Option, Some, None, refl, subst, slice_get}
use Rattle.std.specs.Prelude.{◌&&◌}
use Rattle.std.proofs.lemmas.Bool.{and_from}
use Rattle.tl_base.specs.declared.ids.TermId.{TermId}
use Rattle.terra_types.specs.Grown.{grown}
use Rattle.terra_term.specs.declared.operators.Operation.{Operation}
use Rattle.terra_term.specs.declared.operators.Operation.TheVariants as operations
use Rattle.terra_term.specs.declared.typed.Typed.{Typed}
use Rattle.terra_term.specs.declared.typed.Typed.TheVariants as nodes
use Rattle.terra_term.specs.declared.typed.TypedExpression.TheVariants as te
use Rattle.terra_term.specs.declared.typed.TypedStatement.TheVariants as ts
use Rattle.terra_term.specs.Planted.{typed_at, typed_in, typed_doing_in, typed_list_at, typed_block_at, typed_planted, typed_trees}
use Rattle.terra_term.specs.TypedTerms as typed
use Rattle.check_sound.specs.Sound.{is_plain_node, is_plain_operation}
use Rattle.check_sound.proofs.Tests.{none-some, same-some}
use Rattle.back_end.specs.Plain as trees
use Rattle.back_end.specs.Plain.{is_plain, are_plain, one_plain, all_plain}

abbrev pub item_plain : typed.Item → Bool
item_plain (typed.expression e) = is_plain e
item_plain (typed.doing s) = one_plain s
item_plain (typed.body b) = all_plain b.body

abbrev pub ItemsPlain : List typed.Item → Type 0
ItemsPlain items = (i : ℕ) (x : typed.Item) → slice_get items i ≡ Some x → item_plain x ≡ true

same-operation : (op : Operation) → is_plain_operation op ≡ true → trees.is_plain_operation op ≡ true
same-operation operations.CallValue h = h
same-operation op h = refl

-- a part that isn't there is nil, or a break
expression-plain : (o : Option typed.Item) → ((x : typed.Item) → o ≡ Some x → item_plain x ≡ true) → is_plain (typed_in o) ≡ true
expression-plain None h = refl
expression-plain (Some (typed.expression e)) h = h (typed.expression e) refl
expression-plain (Some (typed.doing s)) h = refl
expression-plain (Some (typed.body b)) h = refl

statement-plain : (o : Option typed.Item) → ((x : typed.Item) → o ≡ Some x → item_plain x ≡ true) →
    one_plain (typed_doing_in o) ≡ true
statement-plain None h = refl
statement-plain (Some (typed.expression e)) h = refl
statement-plain (Some (typed.doing s)) h = h (typed.doing s) refl
statement-plain (Some (typed.body b)) h = refl

module _ (before : List typed.Item) (all : (i : ℕ) (x : typed.Item) → slice_get before i ≡ Some x → item_plain x ≡ true) where
  at-plain : (t : TermId) → is_plain (typed_at before t) ≡ true
  at-plain t = expression-plain (slice_get before t.0) (λ x e. all t.0 x e)

  list-plain : (l : List TermId) → are_plain (typed_list_at before l) ≡ true
  list-plain [] = refl
  list-plain (t ∷ l) = and_from (is_plain (typed_at before t)) (are_plain (typed_list_at before l)) (at-plain t) (list-plain l)

  block-plain : (l : List TermId) → all_plain (typed_block_at before l) ≡ true
  block-plain [] = refl
  block-plain (t ∷ l) =
      and_from (one_plain (typed_doing_in (slice_get before t.0))) (all_plain (typed_block_at before l))
      (statement-plain (slice_get before t.0) (λ x e. all t.0 x e)) (block-plain l)

  two-plain : (a b : TermId) → (is_plain (typed_at before a) && is_plain (typed_at before b)) ≡ true
  two-plain a b = and_from (is_plain (typed_at before a)) (is_plain (typed_at before b)) (at-plain a) (at-plain b)

  -- a node with the trees of its parts
  node-plain : (n : Typed) → is_plain_node n ≡ true → item_plain (typed_planted before n) ≡ true
  node-plain (nodes.Expression at of (te.Constant c)) h = refl
  node-plain (nodes.Expression at of (te.Variable x)) h = refl
  node-plain (nodes.Expression at of (te.Global address)) h = refl
  node-plain (nodes.Expression at of (te.Operate op es)) h =
      and_from (trees.is_plain_operation op) (are_plain (typed_list_at before es)) (same-operation op h) (list-plain es)
  node-plain (nodes.Expression at of (te.Both a b)) h = two-plain a b
  node-plain (nodes.Expression at of (te.Either a b)) h = two-plain a b
  node-plain (nodes.Expression at of (te.Dereference p)) h = at-plain p
  node-plain (nodes.Expression at of (te.Select offset a)) h = at-plain a
  node-plain (nodes.Expression at of (te.Follow offset p)) h = at-plain p
  node-plain (nodes.Expression at of (te.Element a i)) h = two-plain a i
  node-plain (nodes.Expression at of (te.Index p i)) h = two-plain p i
  node-plain (nodes.Expression at of (te.Address a)) h = at-plain a
  node-plain (nodes.Expression at of (te.Decay a)) h = at-plain a
  node-plain (nodes.Expression at of (te.Let block a)) h =
      and_from (all_plain (typed_block_at before block)) (is_plain (typed_at before a)) (block-plain block) (at-plain a)
  node-plain (nodes.Statement at (ts.Var names values)) h = list-plain values
  node-plain (nodes.Statement at (ts.Assign targets values)) h =
      and_from (are_plain (typed_list_at before values)) (are_plain (typed_list_at before targets)) (list-plain values) (list-plain targets)
  node-plain (nodes.Statement at (ts.If test block None)) h =
      and_from (is_plain (typed_at before test)) (all_plain (typed_block_at before block)) (at-plain test) (block-plain block)
  node-plain (nodes.Statement at (ts.If test block (Some other))) h =
      and_from (is_plain (typed_at before test) && all_plain (typed_block_at before block)) (all_plain (typed_block_at before other))
      (and_from (is_plain (typed_at before test)) (all_plain (typed_block_at before block)) (at-plain test) (block-plain block))
      (block-plain other)
  node-plain (nodes.Statement at (ts.While test block)) h =
      and_from (is_plain (typed_at before test)) (all_plain (typed_block_at before block)) (at-plain test) (block-plain block)
  node-plain (nodes.Statement at (ts.Repeat block test)) h =
      and_from (all_plain (typed_block_at before block)) (is_plain (typed_at before test)) (block-plain block) (at-plain test)
  node-plain (nodes.Statement at (ts.For name bounds block)) h =
      and_from (are_plain (typed_list_at before bounds)) (all_plain (typed_block_at before block)) (list-plain bounds) (block-plain block)
  node-plain (nodes.Statement at (ts.Do block)) h = block-plain block
  node-plain (nodes.Statement at ts.Break) h = refl
  node-plain (nodes.Statement at (ts.Return None)) h = refl
  node-plain (nodes.Statement at (ts.Return (Some t))) h = at-plain t
  node-plain (nodes.Statement at (ts.Perform a)) h = at-plain a
  node-plain (nodes.Function parameters result block) h = block-plain block

one-more : (items : List typed.Item) (y : typed.Item) → ItemsPlain items → item_plain y ≡ true →
    (i : ℕ) (x : typed.Item) → slice_get (items ++ y ∷ []) i ≡ Some x → item_plain x ≡ true
one-more [] y all h zero x at = subst (λ z. item_plain z ≡ true) (same-some y x at) h
one-more [] y all h (suc i) x at = absurd (none-some x at)
one-more (z ∷ items) y all h zero x at = all zero x at
one-more (z ∷ items) y all h (suc i) x at = one-more items y (λ j w e. all (suc j) w e) h i x at

grown-plain : (ns : List Typed) (before : List typed.Item) → ItemsPlain before →
    ((i : ℕ) (n : Typed) → slice_get ns i ≡ Some n → is_plain_node n ≡ true) →
    (i : ℕ) (x : typed.Item) → slice_get (grown typed_planted before ns) i ≡ Some x → item_plain x ≡ true
grown-plain [] before all each i x at = all i x at
grown-plain (n ∷ ns) before all each i x at =
    grown-plain ns (before ++ typed_planted before n ∷ [])
    (one-more before (typed_planted before n) all (node-plain before all n (each zero n refl)))
    (λ j m e. each (suc j) m e) i x at

pub trees-plain : (ns : List Typed) → ((i : ℕ) (n : Typed) → slice_get ns i ≡ Some n → is_plain_node n ≡ true) →
    ItemsPlain (typed_trees ns)
trees-plain ns each i x at = grown-plain ns [] (λ j y e. absurd (none-some y e)) each i x at
