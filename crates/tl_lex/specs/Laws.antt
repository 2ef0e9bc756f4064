-- Laws of the division of texts into tokens.
use Rattle.std.specs.Prelude.{◌≡◌, ℕ, ◌<◌, ◌≤◌, true, List, [], ◌∷◌, length, take, drop, Ok, Err}
use Rattle.tl_lex.specs.Fronts.{front_of}
use Rattle.tl_lex.specs.Answers.{Answer}
use Rattle.tl_lex.specs.Tokens.{is_token}
use Rattle.tl_lex.specs.declared.TokenKind.{TokenKind}
use Rattle.tl_lex.specs.declared.TokenKind.TheVariants as kinds
use Rattle.tl_lex.specs.declared.front.Front.{Front}
use Rattle.tl_lex.specs.declared.front.Front.TheVariants as fronts

-- what comes behind a front: nothing behind the end and a refusal, and else what stands behind its bytes
abbrev pub Goes : Front → List Front → List ℕ → (List ℕ → Type 0) → Type 0
Goes fronts.End more bytes stands = more ≡ []
Goes (fronts.Refusal why) more bytes stands = more ≡ []
Goes (fronts.Blank len) more bytes stands = stands (drop len bytes)
Goes (fronts.Lexeme kind len) more bytes stands = stands (drop len bytes)

-- Each front stands where the ones before it end. The last is the end of the text or the first refusal, and no other is.
abbrev pub Divides : List Front → List ℕ → Type 0
Divides [] bytes = ⊥
Divides (f ∷ more) bytes = (front_of bytes ≡ f) × Goes f more bytes (Divides more)

-- exactly one list of fronts divides the bytes
abbrev pub HasOneDivision : List ℕ → Type 0
HasOneDivision bytes = (fs : List Front) × Divides fs bytes × ((gs : List Front) → Divides gs bytes → gs ≡ fs)

-- no end token and no refusal
abbrev pub IsToken : Answer → Type 0
IsToken (Ok t) = t.kind ≡ kinds.End → ⊥
IsToken (Err e) = ⊥

-- the end token or a refusal
abbrev pub IsLast : Answer → Type 0
IsLast (Ok t) = t.kind ≡ kinds.End
IsLast (Err e) = Unit {0}

-- tokens, and then exactly one end token or exactly one refusal
abbrev pub EndsOnce : List Answer → Type 0
EndsOnce [] = ⊥
EndsOnce (a ∷ []) = IsLast a
EndsOnce (a ∷ b ∷ more) = IsToken a × EndsOnce (b ∷ more)

-- The bytes of a token are those of the text from its offset on.
abbrev pub IsSlice : List ℕ → Answer → Type 0
IsSlice text (Ok t) = t.text ≡ take (length t.text) (drop t.offset text)
IsSlice text (Err e) = Unit {0}

abbrev pub AreSlices : List ℕ → List Answer → Type 0
AreSlices text [] = Unit {0}
AreSlices text (a ∷ more) = IsSlice text a × AreSlices text more

-- The token at the front is a token by itself, and each front of the text that is a token by itself is no longer.
pub record IsLongestToken (bytes : List ℕ) (kind : TokenKind) (len : ℕ) : Type 0 where
  pub token : is_token kind (take len bytes) ≡ true
  pub longest : (other : TokenKind) (n : ℕ) → n ≤ length bytes → is_token other (take n bytes) ≡ true → n ≤ len

-- no front of a literal, and no longer text, is another literal
abbrev pub IsOnlyLiteral : List ℕ → ℕ → Type 0
IsOnlyLiteral bytes len = (n : ℕ) → n ≤ length bytes → is_token kinds.Literal (take n bytes) ≡ true → n ≡ len

-- no front of the text but the empty one is a token
abbrev pub BeginsNoToken : List ℕ → Type 0
BeginsNoToken bytes = (kind : TokenKind) (n : ℕ) → 0 < n → n ≤ length bytes → is_token kind (take n bytes) ≡ true → ⊥

-- no front of the text is a literal
abbrev pub BeginsNoLiteral : List ℕ → Type 0
BeginsNoLiteral bytes = (n : ℕ) → n ≤ length bytes → is_token kinds.Literal (take n bytes) ≡ true → ⊥
