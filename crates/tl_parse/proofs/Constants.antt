-- The words and signs that are expressions have one node each.
use Rattle.std.proofs.Common.{◌≡◌, List, [], ◌∷◌, ◌++◌, refl}
use Rattle.tl_base.specs.declared.place.Place.{Place}
use Rattle.tl_tree.specs.declared.symbol.Symbol.{Symbol}
use Rattle.tl_tree.specs.declared.symbol.Symbol.TheVariants as symbols
use Rattle.tl_tree.specs.Item as kept
use Rattle.tl_tree.specs.Item.{Item}
use Rattle.tl_tree.specs.Nodes.{added}
use Rattle.tl_parse.specs.Views.Expressions.{constant, constant_of}
use Rattle.tl_parse.specs.Views.TerraExpressions.{terra_constant, terra_constant_of}
use Rattle.tl_parse.proofs.Failing.{fails_bind, fails_after}

pub constant_laid : (s : Symbol) (place : Place) (items : List Item) → (added (constant s place) items).items ≡ items ++ kept.Expression place (constant_of s) ∷ []
unfolding constant
constant_laid symbols.Nil place items = refl
constant_laid symbols.False place items = refl
constant_laid symbols.True place items = refl
constant_laid _ place items = refl

pub terra_constant_laid : (s : Symbol) (place : Place) (items : List Item) → (added (terra_constant s place) items).items ≡ items ++ kept.TerraExpression place (terra_constant_of s) ∷ []
unfolding terra_constant
terra_constant_laid symbols.Nil place items = refl
terra_constant_laid symbols.False place items = refl
terra_constant_laid _ place items = refl

pub ruleset constants = (fails_bind, fails_after, constant_laid, terra_constant_laid)
