-- The lists with commas: what they hold, and what reading them gives.
use Rattle.std.specs.Prelude.{ℕ, List}
use Rattle.tl_tree.specs.declared.symbol.Symbol.{Symbol}
use Rattle.tl_tree.specs.declared.symbol.Symbol.TheVariants as symbols
use Rattle.tl_tree.specs.Tokens.{Token}
use Rattle.tl_tree.specs.Tree.{Tree, Nothing, More}
use Rattle.tl_tree.specs.Grammar.{Grammar, Outcome, ◌>>=◌}
use Rattle.tl_tree.specs.Forms.{listed_behind}
use Rattle.tl_tree.specs.LuaStatements as lua
use Rattle.tl_tree.specs.TerraStatements as terra
use Rattle.tl_parse.specs.Views.Using.{reading, sign_at}
use Rattle.tl_parse.specs.Views.Codes.{expression_of}
use Rattle.tl_parse.specs.declared.parser.Code.{Code}
use Rattle.tl_parse.specs.declared.parser.Element.{Element}
use Rattle.tl_parse.specs.declared.parser.Element.TheVariants as elements

abbrev pub element_of : Element → Grammar Tree
element_of (elements.Expression code) = expression_of code
element_of (elements.Target m) = lua.variable m
element_of elements.TerraVariable = terra.terra_variable
element_of elements.TerraParameter = terra.terra_parameter

unfoldable pub element_at : ℕ → Element → List Token → Outcome Tree
element_at levels kind ts = reading levels (element_of kind) ts

unfoldable pub next_element_at : ℕ → Element → List Token → Outcome Tree
next_element_at levels kind ts = sign_at symbols.Comma ts >>= λ y a. element_at levels kind a

-- the elements behind a list of them
unfoldable pub more_elements_at : ℕ → Element → Tree → List Token → Outcome Tree
more_elements_at levels kind before ts = reading levels (listed_behind (element_of kind) before) ts

unfoldable pub elements_at : ℕ → Element → List Token → Outcome Tree
elements_at levels kind ts = element_at levels kind ts >>= λ e a. more_elements_at levels kind (More Nothing e) a

abbrev pub expressions_at : ℕ → Code → List Token → Outcome Tree
expressions_at levels code ts = elements_at levels (elements.Expression code) ts

-- a sign or word, and expressions behind it
unfoldable pub expressions_behind_at : ℕ → Symbol → Code → List Token → Outcome Tree
expressions_behind_at levels s code ts = sign_at s ts >>= λ y a. expressions_at levels code a
