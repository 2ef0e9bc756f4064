-- Pieces of code, and those that have no terms in them.
use Rattle.std.specs.Prelude.{ℕ, suc, Bool, true, false, nat_eq, if◌then◌else◌, List, [], ◌∷◌, ◌++◌, length, Option, Some, None, slice_get}
use Rattle.std.specs.Prelude.{unwrap_or}
use Rattle.tl_base.specs.declared.place.Place.{Place}
use Rattle.tl_base.specs.declared.ids.SymId.{SymId}
use Rattle.tl_base.specs.declared.ids.TypeId.{TypeId}
use Rattle.tl_base.specs.declared.ids.FnId.{FnId}
use Rattle.terra_words.specs.declared.words.BinaryOperator.{BinaryOperator}
use Rattle.terra_words.specs.declared.words.BinaryOperator.TheVariants as operators
use Rattle.terra_types.specs.declared.types.Integer.{Integer}
use Rattle.terra_types.specs.declared.types.Integer.TheVariants.{Int8, Int16, Int32, Int64, Uint8, Uint16, Uint32, Uint64}
use Rattle.terra_types.specs.declared.types.TypeForm.{TypeForm}
use Rattle.terra_types.specs.declared.types.TypeForm.TheVariants as forms
use Rattle.terra_term.specs.declared.lists.TypedName.{TypedName}
use Rattle.terra_meaning.specs.Values.{form_at, bytes_at, is_aggregate}
use Rattle.terra_meaning.specs.Frames.{Home, by_value, in_frame, home_at}
use Rattle.tac_form.specs.declared.tac.Size.TheVariants.{One, Two, Four, Eight}
use Rattle.tac_form.specs.declared.tac.Number.{Number}
use Rattle.tac_form.specs.declared.tac.Operand.{Operand}
use Rattle.tac_form.specs.declared.tac.Operand.TheVariants.{Temp, Constant}
use Rattle.tac_form.specs.declared.tac.Address.{Address}
use Rattle.tac_form.specs.declared.tac.Address.TheVariants as addresses
use Rattle.tac_form.specs.declared.tac.Spot.{Spot}
use Rattle.tac_form.specs.declared.tac.Spot.TheVariants as spots
use Rattle.tac_form.specs.declared.tac.Part.{Part}
use Rattle.tac_form.specs.declared.tac.Part.TheVariants as parts
use Rattle.tac_form.specs.declared.tac.Destination.{Destination}
use Rattle.tac_form.specs.declared.tac.Destination.TheVariants as destinations
use Rattle.tac_form.specs.declared.tac.Instruction.{Instruction}
use Rattle.tac_form.specs.declared.tac.Instruction.TheVariants.{Compute, Copy, Locate, Load, Store, Move}
use Rattle.tac_lower.specs.Items.{Item, does}
pub use Rattle.terra_types.specs.Scalars.{bool_form}

-- The temporaries and areas of a function so far: how many there are of the former, and the sizes of the latter.
pub record Used : Type 0 where
  pub temps : ℕ
  pub areas : List ℕ

abbrev pub nothing_used : Used
nothing_used = record { temps = 0; areas = [] }

abbrev pub with_temp : Used → Used
with_temp u = record u { temps = suc u.temps }

abbrev pub with_area : ℕ → Used → Used
with_area size u = record u { areas = u.areas ++ size ∷ [] }

-- A piece of code: what its value is, or where it is; the code; and what is used after it.
pub record Piece (A : Type 0) : Type 0 where
  pub result : A
  pub code : List Item
  pub used : Used

-- no code
abbrev pub known : {A : Type 0} → A → Used → Piece A
known a u = record { result = a; code = []; used = u }

-- one instruction
abbrev pub doing : {A : Type 0} → A → Instruction → Used → Piece A
doing a i u = record { result = a; code = does i ∷ []; used = u }

-- a piece, and the one that goes on from it
abbrev pub following : {A B : Type 0} → Piece A → Piece B → Piece B
following p q = record { result = q.result; code = p.code ++ q.code; used = q.used }

abbrev pub then_piece : {A B : Type 0} → Piece A → (A → Used → Piece B) → Piece B
then_piece p go = following p (go p.result p.used)

-- the same code with a result made of its own
abbrev pub taken : {A B : Type 0} → (A → B) → Piece A → Piece B
taken f p = record { result = f p.result; code = p.code; used = p.used }

-- What a piece gives: a word, the bytes of an area, or the address of an offset of the frame.
pub data Result : Type 0 where
  a_word : Operand → Result
  an_area : ℕ → Result
  an_offset : ℕ → Result

abbrev pub no_word : Result
no_word = a_word (Constant 0)

-- the word of what is no aggregate
abbrev pub word_of : Result → Operand
word_of (a_word a) = a
word_of (an_area n) = Constant 0
word_of (an_offset o) = Constant 0

-- what is passed
abbrev pub part_of : Result → Part
part_of (an_area n) = parts.Area n
part_of r = parts.Word (word_of r)

abbrev pub parts_of : List Result → List Part
parts_of [] = []
parts_of (r ∷ rs) = part_of r ∷ parts_of rs

abbrev pub address_of : Result → Address
address_of (an_offset o) = addresses.Frame o
address_of r = addresses.Word (word_of r)

abbrev pub result_at : List Result → ℕ → Result
result_at rs i = unwrap_or (slice_get rs i) no_word

abbrev pub word_at : List Result → ℕ → Operand
word_at rs i = word_of (result_at rs i)

abbrev pub rest : List Result → List Result
rest [] = []
rest (r ∷ rs) = rs

-- words

abbrev pub long : Bool → Number
long signed = record { signed = signed; size = Eight }

-- addresses, and words as a whole
abbrev pub whole_word : Number
whole_word = long false

abbrev pub integer_number : Integer → Number
integer_number Int8 = record { signed = true; size = One }
integer_number Int16 = record { signed = true; size = Two }
integer_number Int32 = record { signed = true; size = Four }
integer_number Int64 = record { signed = true; size = Eight }
integer_number Uint8 = record { signed = false; size = One }
integer_number Uint16 = record { signed = false; size = Two }
integer_number Uint32 = record { signed = false; size = Four }
integer_number Uint64 = record { signed = false; size = Eight }

abbrev pub number_in : TypeForm → Number
number_in (forms.Integer i) = integer_number i
number_in forms.Bool = record { signed = false; size = One }
number_in _ = whole_word

-- how words of a type stand in memory; types without words are taken for addresses
abbrev pub number_of : List TypeForm → TypeId → Number
number_of types t = number_in (form_at types t)

abbrev pub is_bool : List TypeForm → TypeId → Bool
is_bool types t = bool_form (form_at types t)

-- what a call gave, where it went
abbrev pub given : Destination → Result
given (destinations.Temp t) = a_word (Temp t)
given (destinations.Area n) = an_area n
given destinations.Nothing = no_word

-- Where a value of a type goes: a temporary or an area of its own.
abbrev pub destination : List TypeForm → TypeId → Used → Piece Destination
destination types of u =
    if is_aggregate types of then known (destinations.Area (length u.areas)) (with_area (bytes_at types of) u)
    else known (destinations.Temp u.temps) (with_temp u)

-- what an operator gives of two words
abbrev pub compute : BinaryOperator → Number → Operand → Operand → Used → Piece Result
compute op number a b u = doing (a_word (Temp u.temps)) (Compute u.temps op number a b) (with_temp u)

-- a word in a temporary of its own
abbrev pub copied : Operand → Used → Piece Result
copied a u = doing (a_word (Temp u.temps)) (Copy u.temps a) (with_temp u)

-- an address as a word
abbrev pub located : Result → Used → Piece Result
located (an_offset offset) u = doing (a_word (Temp u.temps)) (Locate u.temps offset) (with_temp u)
located r u = known r u

-- memory

-- of a bool bit 0 counts
abbrev pub loaded_bit : Bool → Result → Used → Piece Result
loaded_bit bool r u = if bool then compute operators.And whole_word (word_of r) (Constant 1) u else known r u

abbrev pub loaded_number : Number → Spot → Used → Piece Result
loaded_number number from u = doing (a_word (Temp u.temps)) (Load u.temps number from) (with_temp u)

abbrev pub loaded_word : List TypeForm → TypeId → Spot → Used → Piece Result
loaded_word types of from u =
    then_piece (loaded_number (number_of types of) from u) (λ r u'. loaded_bit (is_bool types of) r u')

abbrev pub loaded_area : (size : ℕ) → Spot → Used → Piece Result
loaded_area size from u =
    let n = length u.areas in
    if nat_eq size 0 then known (an_area n) (with_area size u)
    else doing (an_area n) (Move (spots.Area n 0) from size) (with_area size u)

-- the value of a type at a spot; a type of no bytes is read nowhere
abbrev pub loaded : List TypeForm → TypeId → Spot → Used → Piece Result
loaded types of from u =
    if is_aggregate types of then loaded_area (bytes_at types of) from u
    else (if nat_eq (bytes_at types of) 0 then known no_word u else loaded_word types of from u)

-- a value of a type goes to a spot; one of no bytes is stored nowhere
abbrev pub stored_part : List TypeForm → TypeId → Spot → Result → Used → Piece (Unit {0})
stored_part types of to (an_area n) u = doing tt (Move to (spots.Area n 0) (bytes_at types of)) u
stored_part types of to r u = let number = number_of types of in doing tt (Store to number.size (word_of r)) u

abbrev pub stored : List TypeForm → TypeId → Spot → Result → Used → Piece (Unit {0})
stored types of to r u = if nat_eq (bytes_at types of) 0 then known tt u else stored_part types of to r u

-- a value goes to a variable; a word of no bytes is stored nowhere, and read all the same
abbrev pub placed : List TypeForm → TypeId → Spot → Result → Used → Piece (Unit {0})
placed types of to (an_area n) u = stored types of to (an_area n) u
placed types of to r u =
    if nat_eq (bytes_at types of) 0 then taken (λ b. tt) (copied (word_of r) u) else stored types of to r u

-- variables

-- Where a variable is: a temporary, or an offset of the frame.
pub data Holder : Type 0 where
  in_temp : ℕ → Holder
  at_offset : ℕ → Holder

pub record Bound : Type 0 where
  pub symbol : SymId
  pub holder : Holder

-- the variables in scope, the nearest first
abbrev pub Holders : Type 0
Holders = List Bound

-- the nearest variable of a symbol
abbrev pub holder_of : SymId → Holders → Option Holder
holder_of x [] = None
holder_of x (b ∷ bs) = if nat_eq x.0 b.symbol.0 then Some b.holder else holder_of x bs

-- What the code of a function depends on: the types of the store, the functions that stand as values, and the homes of
-- its declarations.
pub record Around : Type 0 where
  pub types : List TypeForm
  pub entries : List FnId
  pub homes : List Home

abbrev pub bound : SymId → Holder → Holders → Holders
bound x holder scope = record { symbol = x; holder = holder } ∷ scope

abbrev pub declare_at : List TypeForm → Place → TypedName → Option Result → Home → Holders → Used → Piece Holders
declare_at types at x None by_value scope u =
    taken (λ a. bound x.symbol (in_temp u.temps) scope) (copied (Constant 0) u)
declare_at types at x (Some v) by_value scope u =
    taken (λ a. bound x.symbol (in_temp u.temps) scope) (copied (word_of v) u)
declare_at types at x None (in_frame offset) scope u = known (bound x.symbol (at_offset offset) scope) u
declare_at types at x (Some v) (in_frame offset) scope u =
    taken (λ a. bound x.symbol (at_offset offset) scope)
    (placed types x.of (spots.Region at (addresses.Frame offset)) v u)

-- the k-th declaration of the function, with its value or without
abbrev pub declare : Around → Place → TypedName → Option Result → (k : ℕ) → Holders → Used → Piece Holders
declare c at x v k scope u = declare_at c.types at x v (home_at c.homes k) scope u

abbrev pub first_of : List Result → Option Result
first_of [] = None
first_of (v ∷ vs) = Some v

-- those from the k-th on
abbrev pub declare_all : Around → Place → List TypedName → List Result → (k : ℕ) → Holders → Used → Piece Holders
declare_all c at [] vs k scope u = known scope u
declare_all c at (x ∷ xs) vs k scope u =
    then_piece (declare c at x (first_of vs) k scope u) (λ scope' u'. declare_all c at xs (rest vs) (suc k) scope' u')
