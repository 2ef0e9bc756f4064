-- Signs of one byte that no byte behind them makes longer.
use Rattle.std.proofs.Common.{◌≡◌, ℕ, Bool, true, false, cond, eqb, not, ◌&&◌, List, [], ◌∷◌, get_or, drop, Option, Some, None, refl, sym, ap, ◌∙◌}
use Rattle.std.specs.Prelude.{codes, bytes_eq}
use Rattle.std.specs.List.{list_any, list_all}
use Rattle.std.proofs.lemmas.Bool.{false≢true, eqb-true, not-true}
use Rattle.tl_lex.specs.Bytes.{is_white, is_digit, begins_name, is_quote}
use Rattle.tl_lex.specs.Signs.{is_lone_sign, is_single_sign, is_double_sign, is_triple_sign, sign_len, is_point_and_digit, sign_front}
use Rattle.tl_lex.specs.Brackets.{begins_with, bracket_level, equals_len}
use Rattle.tl_lex.specs.Fronts.{comment_front, begins_comment, bracket_or_sign_front, front_of}
use Rattle.tl_lex.specs.declared.TokenKind.TheVariants as kinds
use Rattle.tl_lex.specs.declared.SyntaxKind.TheVariants as why
use Rattle.tl_lex.specs.declared.front.Front.TheVariants as fronts
use Rattle.tl_lex.proofs.FrontLemmas.{any_is, bytes_same}
use Rattle.tl_lex.proofs.MunchLemmas.{mark_front}

-- what holds of each of the bytes
each : (P : ℕ → Bool) (c : ℕ) → list_all P (codes "#%&()*+,/;@]^`{}") ≡ true → is_lone_sign c ≡ true → P c ≡ true
each P c all e = any_is eqb (λ x y h. eqb-true x y h) P c (codes "#%&()*+,/;@]^`{}") e all

none : (P : ℕ → Bool) (c : ℕ) → list_all (λ x. not (P x)) (codes "#%&()*+,/;@]^`{}") ≡ true → is_lone_sign c ≡ true → P c ≡ false
none P c all e = not-true (P c) (each (λ x. not (P x)) c all e)

-- the bytes that begin signs of two bytes
begins_double : ℕ → Bool
begins_double c = list_any (λ x. eqb c x) (codes "=~<>:.-")

first_begins : List ℕ → Bool
first_begins [] = false
first_begins (c ∷ rest) = begins_double c

not_double : (c d : ℕ) → is_lone_sign c ≡ true → is_double_sign c d ≡ false
unfolding first_begins begins_double
not_double c d e = go (is_double_sign c d) refl
  where
    go : (b : Bool) → b ≡ is_double_sign c d → is_double_sign c d ≡ false
    go false h = sym h
    go true h =
        let longer : begins_double c ≡ true = any_is bytes_eq bytes_same first_begins (c ∷ d ∷ [])
        (codes "==" ∷ codes "~=" ∷ codes "<=" ∷ codes ">=" ∷ codes "::" ∷ codes ".." ∷ codes "->" ∷ codes "<<" ∷ codes ">>" ∷ []) (sym h) refl in
        absurd (false≢true (sym (none begins_double c refl e) ∙ longer))

not_triple : (c d x : ℕ) → is_lone_sign c ≡ true → is_triple_sign c d x ≡ false
not_triple c d x e = ap (λ (b : Bool). b && bytes_eq (d ∷ x ∷ []) (46 ∷ 46 ∷ [])) (none (λ y. eqb y 46) c refl e)

one_byte : (c : ℕ) (rest : List ℕ) → is_lone_sign c ≡ true → sign_len (c ∷ rest) ≡ 1
unfolding sign_len
one_byte c [] e = ap (λ (b : Bool). cond b 1 0) (each is_single_sign c refl e)
one_byte c (d ∷ []) e =
    ap (λ (b : Bool). cond b 2 (cond (is_single_sign c) 1 0)) (not_double c d e)
    ∙ ap (λ (b : Bool). cond b 1 0) (each is_single_sign c refl e)
one_byte c (d ∷ x ∷ rest) e =
    ap (λ (b : Bool). cond b 3 (cond (is_double_sign c d) 2 (cond (is_single_sign c) 1 0))) (not_triple c d x e)
    ∙ ap (λ (b : Bool). cond b 2 (cond (is_single_sign c) 1 0)) (not_double c d e)
    ∙ ap (λ (b : Bool). cond b 1 0) (each is_single_sign c refl e)

no_point : (c : ℕ) (rest : List ℕ) → is_lone_sign c ≡ true → is_point_and_digit (c ∷ rest) ≡ false
no_point c [] e = refl
no_point c (d ∷ rest) e = ap (λ (b : Bool). b && is_digit d) (none (λ y. eqb y 46) c refl e)

no_comment : (c : ℕ) (rest : List ℕ) → is_lone_sign c ≡ true → begins_comment (c ∷ rest) ≡ false
no_comment c [] e = refl
no_comment c (d ∷ rest) e = ap (λ (b : Bool). b && eqb d 45) (none (λ y. eqb y 45) c refl e)

no_bracket : (c : ℕ) (rest : List ℕ) → is_lone_sign c ≡ true → bracket_level 91 (c ∷ rest) ≡ None
unfolding bracket_level
no_bracket c rest e = ap (λ (b : Bool). cond (b && begins_with 91 (drop (equals_len rest) rest)) (Some (equals_len rest)) None) (none (λ y. eqb y 91) c refl e)

a_sign : (c : ℕ) (rest : List ℕ) → is_lone_sign c ≡ true → sign_front (c ∷ rest) ≡ fronts.Lexeme kinds.Sign 1
unfolding sign_front
a_sign c rest e =
    ap (λ (n : ℕ). cond (eqb n 0) (fronts.Refusal why.BadByte) (cond (eqb n 1 && is_point_and_digit (c ∷ rest)) (fronts.Refusal why.BadNumber) (fronts.Lexeme kinds.Sign n))) (one_byte c rest e)
    ∙ ap (λ (b : Bool). cond b (fronts.Refusal why.BadNumber) (fronts.Lexeme kinds.Sign 1)) (no_point c rest e)

lone : (c : ℕ) (rest : List ℕ) → is_lone_sign c ≡ true → front_of (c ∷ rest) ≡ fronts.Lexeme kinds.Sign 1
lone c rest e =
    mark_front c rest (record { no_white = none is_white c refl e; no_name = none begins_name c refl e; no_digit = none is_digit c refl e; no_quote = none is_quote c refl e })
    ∙ ap (λ (m : Bool). cond m (comment_front (c ∷ rest)) (bracket_or_sign_front (bracket_level 91 (c ∷ rest)) (c ∷ rest))) (no_comment c rest e)
    ∙ ap (λ (o : Option ℕ). bracket_or_sign_front o (c ∷ rest)) (no_bracket c rest e)
    ∙ a_sign c rest e

pub lone_front : (bytes : List ℕ) → is_lone_sign (get_or bytes 0 0) ≡ true → front_of bytes ≡ fronts.Lexeme kinds.Sign 1
lone_front [] e = absurd (false≢true e)
lone_front (c ∷ rest) e = lone c rest e
