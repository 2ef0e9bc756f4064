-- A text that is UTF-8 is so with its locals renamed.
use Rattle.std.proofs.Common.{ℕ, zero, suc, ◌+◌, ◌/◌, ◌%◌, ◌<◌, Bool, true, false, cond, eqb, ltb, List, [], ◌∷◌, Option, Some, None}
use Rattle.std.proofs.Common.{sym, subst, arith}
use Rattle.std.specs.Fmt.{decimal, digit_glyph, digits, digits_onto}
use Rattle.std.specs.Str.{IsUtf8, IsAscii}
use Rattle.std.proofs.lemmas.Str.{IsUtf8-nil, IsUtf8-append, IsUtf8-from_ascii}
use Rattle.tl_lex.proofs.NewNameUtf8.{IsNewUtf8, AreUtf8, new_names_utf8}
use Rattle.tl_tree.specs.Item.{Item}
use Rattle.tl_tree.specs.Item as kept
use Rattle.tl_tree.specs.Nodes.{lay}
use Rattle.tl_tree.specs.Code.{Items}
use Rattle.tl_tree.specs.Tree.{Tree}
use Rattle.tl_tree.specs.Texts.{Reads}
use Rattle.tl_renaming.specs.Renamed.{local_number, letters, new_name, renamed}
use Rattle.tl_renaming.proofs.Substituting.{new_by, entries, renamed_is, all_match}

-- ---- new names

ascii_byte : (c : ℕ) → c < 128 → IsAscii (c ∷ [])
ascii_byte c lt zero = lt
ascii_byte c lt (suc i) = omega arith

behind_byte : (c : ℕ) (bytes : List ℕ) → c < 128 → IsUtf8 bytes → IsUtf8 (c ∷ bytes)
behind_byte c bytes lt u = IsUtf8-append (c ∷ []) bytes (IsUtf8-from_ascii (c ∷ []) (ascii_byte c lt)) u

glyph_small : (d : ℕ) → d < 10 → digit_glyph false d < 128
glyph_small d small = go (ltb d 10)
  where
    go : (b : Bool) → cond b (48 + d) (87 + d) < 128
    go true = omega (arith, small)
    go false = omega (arith, small)

digits_utf8 : (k n : ℕ) (acc : List ℕ) → IsUtf8 acc → IsUtf8 (digits_onto k 10 false n acc)
digits_utf8 zero n acc u = u
digits_utf8 (suc k) n acc u = go (eqb (n / 10) 0) more (digits_utf8 k (n / 10) (digit_glyph false (n % 10) ∷ acc) more)
  where
    more : IsUtf8 (digit_glyph false (n % 10) ∷ acc)
    more = behind_byte (digit_glyph false (n % 10)) acc (glyph_small (n % 10) (omega arith)) u

    go : (b : Bool) {xs ys : List ℕ} → IsUtf8 xs → IsUtf8 ys → IsUtf8 (cond b xs ys)
    go true x y = x
    go false x y = y

-- whatever the number
decimal_utf8 : (n : ℕ) → IsUtf8 (decimal n)
unfolding digits
decimal_utf8 n = digits_utf8 64 n [] IsUtf8-nil

new_name_utf8 : (l k : ℕ) → IsUtf8 (new_name l k)
new_name_utf8 zero k = decimal_utf8 k
new_name_utf8 (suc l) k = behind_byte 118 (new_name l k) (omega arith) (new_name_utf8 l k)

are_utf8 : (items : Items) (l n : ℕ) (more : List Item) → AreUtf8 (entries items l n more)
are_utf8 items l n [] = tt
are_utf8 items l n (kept.Name place offset name ∷ more) = (go (local_number items n), are_utf8 items l (n + 1) more)
  where
    go : (o : Option ℕ) → IsNewUtf8 (new_by l o)
    go None = tt
    go (Some k) = new_name_utf8 l k
are_utf8 items l n (kept.Numeral place x ∷ more) = are_utf8 items l (n + 1) more
are_utf8 items l n (kept.Literal place x ∷ more) = are_utf8 items l (n + 1) more
are_utf8 items l n (kept.Expression place x ∷ more) = are_utf8 items l (n + 1) more
are_utf8 items l n (kept.Statement place x ∷ more) = are_utf8 items l (n + 1) more
are_utf8 items l n (kept.TerraExpression place x ∷ more) = are_utf8 items l (n + 1) more
are_utf8 items l n (kept.TerraStatement place x ∷ more) = are_utf8 items l (n + 1) more
are_utf8 items l n (kept.Piece x ∷ more) = are_utf8 items l (n + 1) more

pub renamed_utf8 : (text : List ℕ) (tree : Tree) → Reads text tree → IsUtf8 text → IsUtf8 (renamed (lay tree []) text)
renamed_utf8 text tree reads u =
    let items = lay tree [] in
    let l = letters items in
    let es = entries items l 0 items in
    subst IsUtf8 (sym (renamed_is items l text 0 0 items))
    (new_names_utf8 text es u (are_utf8 items l 0 items) (all_match text tree reads))
