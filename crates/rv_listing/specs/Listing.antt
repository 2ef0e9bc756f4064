-- The listing of an image: its entries, and its words with their texts.
use Rattle.std.specs.Prelude.{◌≡◌, ℕ, ◌+◌, ◌*◌, ◌≤◌, List, [], ◌∷◌, ◌++◌, length, codes}
use Rattle.tl_base.specs.declared.limits.TheConstants.{TEXT_ADDRESS}
use Rattle.elf_image.specs.declared.image.Symbol.{Symbol}
use Rattle.elf_image.specs.declared.image.Image.{Image}
use Rattle.elf_image.specs.Loads.{Loads}
use Rattle.rv_listing.specs.Texts.{hex8, IsWordText}

-- a line for an export
abbrev pub entry_line : Symbol → List ℕ
entry_line s = codes "entry " ++ (s.name ++ (codes " at " ++ (hex8 s.address ++ codes "\n")))

abbrev pub entry_lines : List Symbol → List ℕ
entry_lines [] = []
entry_lines (s ∷ ss) = entry_line s ++ entry_lines ss

-- the line of a word with this text, at an address
abbrev pub word_line : ℕ → ℕ → List ℕ → List ℕ
word_line at w text = hex8 at ++ (codes ": " ++ (hex8 w ++ (codes " " ++ (text ++ codes "\n"))))

-- the lines of words, one at every fourth address
abbrev pub AreWordLines : ℕ → List ℕ → List ℕ → Type 0
AreWordLines at [] lines = lines ≡ []
AreWordLines at (w ∷ ws) lines =
    (text : List ℕ) × (rest : List ℕ) × IsWordText w text × AreWordLines (at + 4) ws rest
    × (lines ≡ word_line at w text ++ rest)

-- the listing of an image
abbrev pub Listing : Image → List ℕ → Type 0
Listing image lines =
    (words : List ℕ) × AreWordLines TEXT_ADDRESS image.text words × (lines ≡ entry_lines image.exports ++ words)

-- an image has one listing
abbrev pub OneListing : Type 0
OneListing = (image : Image) (one other : List ℕ) → Listing image one → Listing image other → one ≡ other

-- the text of an image is no longer than the file that it is read from
abbrev pub LoadedTextsAreShort : Type 0
LoadedTextsAreShort = (bytes : List ℕ) (image : Image) → Loads bytes image → 4 * length image.text ≤ length bytes
