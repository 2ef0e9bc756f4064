-- Lines as texts of words, and sources as lines.
use Rattle.std.specs.Prelude.{◌≡◌, ◌≢◌, ℕ, ◌+◌, ◌<◌, ◌^◌, ◌==◌, if◌then◌else◌, List, [], ◌∷◌, ◌++◌, length, codes, ◌⊎◌}
use Rattle.rv_isa.specs.declared.instr.Instr.{Instr}
use Rattle.rv_listing.specs.declared.reading.AsmError.{AsmError}
use Rattle.rv_listing.specs.declared.reading.AsmError.TheVariants as errors
use Rattle.rv_listing.specs.declared.assembly.AsmKind.{AsmKind}
use Rattle.rv_listing.specs.declared.assembly.AsmKind.TheVariants as kinds
use Rattle.rv_listing.specs.declared.assembly.AsmFault.{AsmFault}
use Rattle.rv_listing.specs.declared.assembly.AsmFault.TheVariants as faults
use Rattle.rv_listing.specs.Texts.{name_of, IsWordText}

-- what stands before the first space, or before the end
abbrev pub name_in : List ℕ → List ℕ
name_in [] = []
name_in (b ∷ bs) = if b == 32 then [] else b ∷ name_in bs

-- the name of an instruction, or `word`
abbrev pub IsName : List ℕ → Type 0
IsName name = (name ≡ codes "word") ⊎ ((i : Instr) × (name_of i ≡ name))

-- some word has this text
abbrev pub IsText : List ℕ → Type 0
IsText line = (w : ℕ) × (w < 2 ^ 32) × IsWordText w line

-- why a line is no text of a word
abbrev pub IsBad : AsmError → List ℕ → Type 0
IsBad errors.BadName line = IsName (name_in line) → ⊥
IsBad errors.BadOperands line = IsName (name_in line) × (IsText line → ⊥)

-- puts a byte before the first line
abbrev pub before_first : ℕ → List (List ℕ) → List (List ℕ)
before_first b [] = (b ∷ []) ∷ []
before_first b (line ∷ lines) = (b ∷ line) ∷ lines

-- the lines of a source: LF ends a line, and the last may do without
abbrev pub lines_of : List ℕ → List (List ℕ)
lines_of [] = []
lines_of (b ∷ bs) = if b == 10 then [] ∷ lines_of bs else before_first b (lines_of bs)

-- the lines are the texts of these words, one for each
abbrev pub AreTexts : List ℕ → List (List ℕ) → Type 0
AreTexts [] [] = Unit {0}
AreTexts (w ∷ ws) (line ∷ lines) = (w < 2 ^ 32) × IsWordText w line × AreTexts ws lines
AreTexts [] (line ∷ lines) = ⊥
AreTexts (w ∷ ws) [] = ⊥

-- the first line that is no text of a word, and why. Lines are counted from 1
pub record IsFirstBad (lines : List (List ℕ)) (error : AsmError) (number : ℕ) : Type 0 where
  pub before : List (List ℕ)
  pub bad : List ℕ
  pub behind : List (List ℕ)
  pub parts : lines ≡ before ++ bad ∷ behind
  pub words : List ℕ
  pub good : AreTexts words before
  pub cause : IsBad error bad
  pub counted : number ≡ length before + 1

-- why a source is refused, and at which line
abbrev pub IsRefused : List ℕ → AsmKind → ℕ → Type 0
IsRefused text kinds.Empty number = (text ≡ []) × (number ≡ 0)
IsRefused text kinds.BadName number = IsFirstBad (lines_of text) errors.BadName number
IsRefused text kinds.BadOperands number = IsFirstBad (lines_of text) errors.BadOperands number

-- want of memory is free
abbrev pub IsFault : List ℕ → AsmFault → Type 0
IsFault text (faults.Refused kind number) = IsRefused text kind number
IsFault text faults.NoMemory = Unit {0}

-- the words of a source that has bytes
abbrev pub Assembles : List ℕ → List ℕ → Type 0
Assembles text words = (text ≢ []) × AreTexts words (lines_of text)

-- the texts of words, each with its LF
abbrev pub AreSource : List ℕ → List ℕ → Type 0
AreSource [] text = text ≡ []
AreSource (w ∷ ws) text =
    (line : List ℕ) × (rest : List ℕ) × (w < 2 ^ 32) × IsWordText w line × AreSource ws rest
    × (text ≡ line ++ 10 ∷ rest)

-- they are read as these words: so the texts of a listing give the words of its image
abbrev pub TextsAssemble : Type 0
TextsAssemble = (words text : List ℕ) → words ≢ [] → AreSource words text → Assembles text words

-- a source has one answer: its words, or one fault at one line
pub record OneAnswer (text : List ℕ) : Type 0 where
  pub words : (one other : List ℕ) → Assembles text one → Assembles text other → one ≡ other
  pub refused : (kind other : AsmKind) (m n : ℕ) → IsRefused text kind m → IsRefused text other n
      → (kind ≡ other) × (m ≡ n)
  pub apart : (words : List ℕ) (kind : AsmKind) (n : ℕ) → Assembles text words → IsRefused text kind n → ⊥
