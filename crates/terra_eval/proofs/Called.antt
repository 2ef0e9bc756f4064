-- The typed term of a function that can be called.
use Rattle.std.proofs.Common.{◌≡◌, refl, ap, ◌∙◌, List, take, Option, Some, None, slice_get}
use Rattle.std.specs.Prelude.{option_map}
use Rattle.tl_base.specs.declared.ids.FnId.{FnId}
use Rattle.tl_base.specs.declared.ids.TermId.{TermId}
use Rattle.tl_base.specs.declared.ids.TypeId.{TypeId}
use Rattle.tl_base.specs.declared.place.Place.{Place}
use Rattle.terra_term.specs.declared.lists.TypedName.{TypedName}
use Rattle.terra_term.specs.declared.store.Function.{Function}
use Rattle.terra_term.specs.declared.typed.Typed.{Typed}
use Rattle.terra_term.specs.declared.typed.Typed.TheVariants as nodes
use Rattle.terra_term.specs.declared.typed.TypedExpression.{TypedExpression}
use Rattle.terra_term.specs.declared.typed.TypedStatement.{TypedStatement}
use Rattle.terra_term.specs.Held.{Held, typed_in}
use Rattle.terra_term.specs.Planted.{typed_block_at, typed_planted, typed_trees}
use Rattle.terra_term.specs.Stores.{callable_of, contents_of}
use Rattle.terra_eval.proofs.Growing.{tree-at}

module _ (s : Held) (f : FnId) (function : Function) (node : TermId)
    (there : slice_get s.functions f.0 ≡ Some function) (made : typed_in function.state ≡ Some node) where
  pub callable-function : (parameters : List TypedName) (result : TypeId) (body : List TermId) → slice_get s.typed node.0 ≡ Some (nodes.Function parameters result body)
      → Some (record { at = function.place; body = record { parameters = parameters; result = result; body = typed_block_at (take node.0 (typed_trees s.typed)) body } }) ≡ callable_of (contents_of s) f
  callable-function parameters result body found =
      let tree : slice_get (typed_trees s.typed) node.0 ≡ Some (typed_planted (take node.0 (typed_trees s.typed)) (nodes.Function parameters result body)) =
      tree-at s.typed node.0 ∙ ap (λ (x : Option Typed). option_map (typed_planted (take node.0 (typed_trees s.typed))) x) found in
      rw (there, made, tree) refl

  pub callable-expression : (at : Place) (of : TypeId) (form : TypedExpression) → slice_get s.typed node.0 ≡ Some (nodes.Expression at of form) → None ≡ callable_of (contents_of s) f
  callable-expression at of form found =
      let tree : slice_get (typed_trees s.typed) node.0 ≡ Some (typed_planted (take node.0 (typed_trees s.typed)) (nodes.Expression at of form)) =
      tree-at s.typed node.0 ∙ ap (λ (x : Option Typed). option_map (typed_planted (take node.0 (typed_trees s.typed))) x) found in
      rw (there, made, tree) refl

  pub callable-statement : (at : Place) (doing : TypedStatement) → slice_get s.typed node.0 ≡ Some (nodes.Statement at doing) → None ≡ callable_of (contents_of s) f
  callable-statement at doing found =
      let tree : slice_get (typed_trees s.typed) node.0 ≡ Some (typed_planted (take node.0 (typed_trees s.typed)) (nodes.Statement at doing)) =
      tree-at s.typed node.0 ∙ ap (λ (x : Option Typed). option_map (typed_planted (take node.0 (typed_trees s.typed))) x) found in
      rw (there, made, tree) refl

  pub callable-none : slice_get s.typed node.0 ≡ None → None ≡ callable_of (contents_of s) f
  callable-none found =
      let tree : slice_get (typed_trees s.typed) node.0 ≡ None =
      tree-at s.typed node.0 ∙ ap (λ (x : Option Typed). option_map (typed_planted (take node.0 (typed_trees s.typed))) x) found in
      rw (there, made, tree) refl
