-- What is due to the caller: the status, and what `out` and `notes` take.
use Rattle.std.specs.Prelude.{ℕ, ◌≡◌, ◌<◌, ◌≤◌, List, [], ◌∷◌, ◌++◌, length, codes}
use Rattle.std.specs.declared.io.ErrorKind.{ErrorKind}
use Rattle.std.specs.declared.io.ErrorKind.TheVariants.{OutOfMemory}
use Rattle.std.specs.Str.{IsUtf8}
use Rattle.tl_base.specs.declared.place.Place.{Place}
use Rattle.tl_lex.specs.declared.TheConstants.{LONGEST_TEXT}
use Rattle.tl_lex.specs.declared.SyntaxKind.{SyntaxKind}
use Rattle.tl_lex.specs.declared.SyntaxKind.TheVariants.{TooLong, NotUtf8}
use Rattle.tl_tree.specs.Code.{Items}
use Rattle.tl_tree.specs.Nodes.{lay}
use Rattle.tl_tree.specs.Tree.{Tree}
use Rattle.tl_tree.specs.Texts.{Reads, Refuses}
use Rattle.tl_tree.specs.Tokens.{finish_of}
use Rattle.elf_image.specs.Calls.{result_text}
use Rattle.terrac_call.specs.declared.status.Status.{Status}
use Rattle.terrac_call.specs.declared.status.Status.TheVariants as statuses
use Rattle.terrac_call.specs.Statuses.{text_of}

pub record Due : Type 0 where
  pub status : Status
  pub out : List ℕ
  -- what `notes` takes before the line of the status: an image that runs, or what was printed where `out` takes an image
  pub noted : List ℕ
  -- the line of the status, if it has one
  pub notes : List ℕ

-- all that `notes` takes
abbrev pub all_notes : Due → List ℕ
all_notes due = due.noted ++ due.notes

-- a text with its line end, LF
abbrev pub line : List ℕ → List ℕ
line text = text ++ 10 ∷ []

-- a refusal: nothing on `out`, and the status's line on `notes`
abbrev pub refused : Status → Due
refused status = record { status = status; out = []; noted = []; notes = line (text_of status) }

-- a result: these bytes on `out`
abbrev pub given : List ℕ → Due
given bytes = record { status = statuses.Ok; out = bytes; noted = []; notes = [] }

-- what is due behind bytes that were written to `out`
abbrev pub after : List ℕ → Due → Due
after printed due = record { status = due.status; out = printed ++ due.out; noted = due.noted; notes = due.notes }

-- what is due behind bytes that were written to `notes`
abbrev pub noting : List ℕ → Due → Due
noting bytes due = record { status = due.status; out = due.out; noted = bytes ++ due.noted; notes = due.notes }

-- the line of a result, whose type has this code, with a text before it
abbrev pub due_of_result : (front : List ℕ) → (code word : ℕ) → Due
due_of_result front code word = given (line (front ++ codes "result " ++ result_text code word))

abbrev pub due_of_bad_argument : ℕ → Due
due_of_bad_argument position = refused (statuses.BadArgument position)

-- the line of an entry that isn't there ends with its name
abbrev pub due_of_no_entry : List ℕ → Due
due_of_no_entry entry =
    record { status = statuses.NoEntry; out = []; noted = []; notes = line (text_of statuses.NoEntry ++ entry) }

-- words that `clap` refuses: a line, and then its own text
abbrev pub due_of_usage : List ℕ → Due
due_of_usage text = record { status = statuses.Usage; out = []; noted = []; notes = line (text_of statuses.Usage) ++ text }

-- ---- how a source reads

-- what a source reads as: refused for this reason at this place, or this tree, whose text ends at this place
pub data Reading : Type 0 where
  IsRefused : SyntaxKind → Place → Reading
  IsTree : Tree → Place → Reading

-- how many bytes a source may have
abbrev pub longest : ℕ
longest = LONGEST_TEXT

-- the place of what concerns a whole source
abbrev pub nowhere : Place
nowhere = record { line = 0; word = 0 }

-- A text reads as its tree, or is refused.
pub data IsTextReadAs (text : List ℕ) : Reading → Type 0 where
  HasTree : (tree : Tree) → Reads text tree → IsTextReadAs text (IsTree tree (finish_of text))
  HasNone : (kind : SyntaxKind) (place : Place) → Refuses text kind place → IsTextReadAs text (IsRefused kind place)

-- A source is refused where it is too long; else where it is not UTF-8; and else it reads as its text does.
pub data IsReadAs (source : List ℕ) : Reading → Type 0 where
  IsTooLong : longest < length source → IsReadAs source (IsRefused TooLong nowhere)
  IsNotUtf8 : length source ≤ longest → (IsUtf8 source → ⊥) → IsReadAs source (IsRefused NotUtf8 nowhere)
  IsText : (reading : Reading) → length source ≤ longest → IsUtf8 source → IsTextReadAs source reading → IsReadAs source reading

-- ---- what is due for it

-- for a source that is refused
abbrev pub due_of_syntax : SyntaxKind → Place → Due
due_of_syntax kind place = refused (statuses.Syntax kind place)

-- for a source that reads so, by what is due for a tree of nodes whose text ends at a place
abbrev pub IsReadingDue : (Items → Place → Due → Type 0) → Reading → Due → Type 0
IsReadingDue IsTreeDue (IsRefused kind place) due = due ≡ due_of_syntax kind place
IsReadingDue IsTreeDue (IsTree tree finish) due = IsTreeDue (lay tree []) finish due

-- for the bytes of a source
abbrev pub IsDueOfSource : (Items → Place → Due → Type 0) → List ℕ → Due → Type 0
IsDueOfSource IsTreeDue bytes due = (reading : Reading) × IsReadAs bytes reading × IsReadingDue IsTreeDue reading due

-- for words that could not be collected: memory ran out, or a word is no UTF-8, which names nothing
abbrev pub due_of_unread : ErrorKind → Due
due_of_unread OutOfMemory = refused statuses.NoMemory
due_of_unread _ = due_of_usage []
