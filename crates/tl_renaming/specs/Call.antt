-- What the call `rename` answers of a text.
use Rattle.std.specs.Prelude.{◌≡◌, ℕ, List, [], Result, Ok, Err, String, string_bytes}
use Rattle.tl_base.specs.declared.place.Place.{Place}
use Rattle.tl_lex.specs.declared.SyntaxKind.{SyntaxKind}
use Rattle.tl_tree.specs.Tree.{Tree}
use Rattle.tl_tree.specs.Nodes.{lay}
use Rattle.tl_tree.specs.Texts.{Reads, Refuses}
use Rattle.tl_parse.specs.declared.error.SyntaxError.{SyntaxError}
use Rattle.tl_parse.specs.declared.error.SyntaxError.TheVariants as errors
use Rattle.tl_renaming.specs.Renamed.{renamed}

-- A text reads, and this is what it becomes with its locals renamed.
pub record IsRenaming (text other : List ℕ) : Type 0 where
  pub tree : Tree
  pub reads : Reads text tree
  pub is : other ≡ renamed (lay tree []) text

module _ {A : Type 0} where
  -- The result is the text of these bytes, unless memory ran out.
  abbrev pub GivesText : List ℕ → Result (String A) SyntaxError → Type 0
  GivesText bytes (Ok text) = string_bytes text ≡ bytes
  GivesText bytes (Err e) = e ≡ errors.NoMemory

  -- The result is the refusal, unless memory ran out.
  abbrev pub GivesRefusal : SyntaxKind → Place → Result (String A) SyntaxError → Type 0
  GivesRefusal kind place (Ok text) = ⊥
  GivesRefusal kind place (Err (errors.Refused k p)) = (k ≡ kind) × (p ≡ place)
  GivesRefusal kind place (Err errors.NoMemory) = Unit {0}

  -- A text comes only of one that reads and becomes it, and a refusal only of one that is refused so.
  abbrev pub ComesOf : List ℕ → Result (String A) SyntaxError → Type 0
  ComesOf text (Ok other) = IsRenaming text (string_bytes other)
  ComesOf text (Err (errors.Refused kind place)) = Refuses text kind place
  ComesOf text (Err errors.NoMemory) = Unit {0}
