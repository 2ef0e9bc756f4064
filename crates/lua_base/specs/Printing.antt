-- The functions that tell what values are, and that write them (Lua 5.1 manual, section 5.1).
use Rattle.std.specs.Prelude.{ℕ, ◌+◌, ◌-◌, ℤ, pos, negsuc, Bool, false, ◌==◌, List, [], ◌∷◌, ◌++◌, length, drop, codes, bytes_eq, Option}
use Rattle.std.specs.Prelude.{Some, None, if◌then◌else◌}
use Rattle.tl_base.specs.declared.ids.TypeId.{TypeId}
use Rattle.tl_base.specs.declared.place.Place.{Place}
use Rattle.tl_base.specs.Layer.{State}
use Rattle.lua_value.specs.declared.library.LibFn.TheVariants.{Select, ToNumber, ToString, «Type» as TypeOf}
use Rattle.lua_value.specs.declared.value.Value.{Value}
use Rattle.lua_value.specs.declared.value.Value.TheVariants as values
use Rattle.lua_value.specs.Kinds.{kind_text}
use Rattle.lua_value.specs.Numbers.{number_from}
use Rattle.lua_value.specs.Values.{kind_of}
use Rattle.lua_table.specs.LuaState.{LuaState}
use Rattle.lua_table.specs.Heap.{text_at, with_printed}
use Rattle.lua_table.specs.declared.call.Back.{Back}
use Rattle.lua_table.specs.declared.call.Back.TheVariants as backs
use Rattle.lua_table.specs.declared.call.LibNext.TheVariants as nexts
use Rattle.lua_table.specs.declared.call.LibTurn.TheVariants as turns
use Rattle.lua_ops.specs.Numerals.{numeral_at}
use Rattle.lua_ops.specs.declared.numeral.Numeral.{Numeral}
use Rattle.lua_ops.specs.declared.numeral.Numeral.TheVariants as numerals
use Rattle.lua_base.specs.Arguments.{argument, number_in}
use Rattle.lua_base.specs.Calls.{Turned, turned, gives, text_units, paying, with_made, raised, making, bad_argument}
use Rattle.lua_base.specs.Texts.{value_text}
-- the type that a value is; its text is asked for
pub use Rattle.lua_value.specs.Values.{type_in}
pub use Rattle.lua_value.specs.Values.{number_or_nil}

-- the bytes of a text; of what is none there are none
abbrev pub bytes_of : LuaState → Value → List ℕ
bytes_of s (values.Text id) = text_at s id
bytes_of s v = []

-- ---- type

-- `type` gives the name of its first argument's kind, which is a text that is made
abbrev pub type_turned : State LuaState → List Value → Place → Turned
type_turned s [] place = bad_argument s place 1 TypeOf
type_turned s (v ∷ vs) place = with_made s (kind_text (kind_of v)) (λ made. turns.Values (made ∷ []))

-- ---- print

-- a line is paid for before it is printed
abbrev pub printed : State LuaState → List ℕ → Turned
printed s line = paying s (text_units (length line)) (turns.Values []) (with_printed s.world line)

-- the tab before the text of an argument; the first one has none
abbrev pub tab_before : ℕ → List ℕ
tab_before i = if i == 0 then [] else codes "\t"

-- a type is asked about, and else it goes on
abbrev pub on_type : Option TypeId → (TypeId → Turned) → Turned → Turned
on_type (Some t) ask go = ask t
on_type None ask go = go

-- Goes on with a line of which so much is written, with the last ones of the arguments and the number of the first of these. A type among
-- them is asked about.
abbrev pub print_rest : State LuaState → List ℕ → List Value → ℕ → List Value → Turned
print_rest s written vs i [] = printed s (written ++ codes "\n")
print_rest s written vs i (v ∷ rest) =
    on_type (type_in v)
    (λ t. turned (turns.TypeText t (nexts.Print (written ++ tab_before i) vs i)) s)
    (print_rest s (written ++ tab_before i ++ value_text s.world v) vs (i + 1) rest)

-- the text that stands in a line already, which a type hasn't
abbrev pub text_unless : Option TypeId → List ℕ → List ℕ
text_unless (Some t) text = []
text_unless None text = text

-- a type of a number is asked about, and where there is none the line is printed
abbrev pub asked_or_printed : State LuaState → List ℕ → List Value → Option (ℕ × TypeId) → Turned
asked_or_printed s line vs (Some (i, t)) = turned (turns.TypeText t (nexts.Print line vs i)) s
asked_or_printed s line vs None = printed s (line ++ codes "\n")

-- `print` writes the texts of its arguments in a line, with tabs between them, and gives nothing
abbrev pub print_turned : State LuaState → List Value → Turned
print_turned s vs = print_rest s [] vs 0 vs

-- it goes on with the text of the type of a number; an error is its own
abbrev pub print_back : State LuaState → List ℕ → List Value → ℕ → Back → Turned
print_back s written vs i (backs.Values found) =
    print_rest s (written ++ bytes_of s.world (argument found 0)) vs (i + 1) (drop (i + 1) vs)
print_back s written vs i (backs.Raised v place) = turned (turns.Raise v place) s

-- ---- tostring

-- the text of a value that is no text is made; a type's is asked for
abbrev pub text_made : State LuaState → Value → Place → Turned
text_made s (values.Text id) place = gives s (values.Text id ∷ [])
text_made s v place =
    on_type (type_in v) (λ t. turned (turns.TypeText t nexts.ToString) s)
    (making s place (value_text s.world v) (λ made. turns.Values (made ∷ [])))

-- `tostring` gives the text of its first argument
abbrev pub tostring_turned : State LuaState → List Value → Place → Turned
tostring_turned s [] place = bad_argument s place 1 ToString
tostring_turned s (v ∷ vs) place = text_made s v place

-- a text that was made elsewhere is paid for when it is given
abbrev pub given_paid : State LuaState → Value → Turned
given_paid s text = paying s (text_units (length (bytes_of s.world text))) (turns.Values (text ∷ [])) s.world

-- `tostring` gives a type's text so
abbrev pub tostring_back : State LuaState → Back → Turned
tostring_back s (backs.Values found) = given_paid s (argument found 0)
tostring_back s (backs.Raised v place) = turned (turns.Raise v place) s

-- ---- tonumber

-- a text is turned into a number as in arithmetic, where one that is out of the profile raises
abbrev pub read_number : State LuaState → Place → Numeral → Turned
read_number s place (numerals.Number z) = gives s (values.Number z ∷ [])
read_number s place numerals.OutOfProfile = raised s place (codes "number out of profile")
read_number s place numerals.NoNumber = gives s (values.Nil ∷ [])

abbrev pub number_of : State LuaState → Value → Place → Turned
number_of s (values.Number z) place = gives s (values.Number z ∷ [])
number_of s (values.Text id) place = read_number s place (numeral_at (text_at s.world id))
number_of s v place = gives s (values.Nil ∷ [])

-- `tonumber` gives the number that its first argument is, and nil where it is none
abbrev pub tonumber_turned : State LuaState → List Value → Place → Turned
tonumber_turned s [] place = bad_argument s place 1 ToNumber
tonumber_turned s (v ∷ vs) place = number_of s v place

-- ---- select

-- so many arguments there are; no call has so many that the number is out of the profile
abbrev pub count_of : List Value → Value
count_of vs = number_or_nil (number_from (pos (length vs)))

-- the arguments from a number on, of which the first one's is 1
abbrev pub selected : State LuaState → List Value → Place → Option ℤ → Turned
selected s vs place (Some (pos n)) = if n == 0 then bad_argument s place 1 Select else gives s (drop (n - 1) vs)
selected s vs place (Some (negsuc n)) = bad_argument s place 1 Select
selected s vs place None = bad_argument s place 1 Select

-- whether a value is the text `#`
abbrev pub is_count : LuaState → Value → Bool
is_count s (values.Text id) = bytes_eq (text_at s id) (codes "#")
is_count s v = false

-- `select` gives the arguments behind its first one from that number on, and for `#` how many there are
abbrev pub select_turned : State LuaState → List Value → Place → Turned
select_turned s [] place = bad_argument s place 1 Select
select_turned s (v ∷ vs) place =
    if is_count s.world v then gives s (count_of vs ∷ []) else selected s vs place (number_in s.world v)
