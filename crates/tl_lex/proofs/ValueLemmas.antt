-- Values of literals, character after character.
use Rattle.std.proofs.Common.{◌≡◌, ℕ, zero, suc, ◌+◌, ◌%◌, ◌≤◌, false, cond, eqb, List, [], ◌∷◌, ◌++◌, length, drop, Option, refl, sym, ap}
use Rattle.std.proofs.Common.{◌∙◌, arith}
use Rattle.std.proofs.lemmas.Bool.{ne_eqb}
use Rattle.std.proofs.lemmas.List.{append_assoc, append-nil, length-drop}
use Rattle.tl_lex.specs.LineEnds.{with_line_feeds, line_end_len}
use Rattle.tl_lex.specs.Quoted.{quoted_character, characters, values}
use Rattle.tl_lex.specs.declared.quoted.Character.{Character}
use Rattle.tl_lex.specs.Values.{without_first_line_feed, long_value, value_by, value_of}
use Rattle.tl_lex.specs.Brackets.{bracket_level}
use Rattle.tl_lex.proofs.LineEndLemmas.{feeds_step, no_line_end, no_feed}
use Rattle.tl_lex.proofs.QuotedLemmas.{next_character, last_character, quoted_character_within}

-- what was appended, and what is still to come, is the value
pub record Written (old now : List ℕ) (rest whole : List ℕ) : Type 0 where
  pub is : now ++ rest ≡ old ++ whole

pub written_none : (old whole : List ℕ) → Written old old whole whole
written_none old whole = record { is = refl }

pub written_more : (old now rest whole : List ℕ) (x : ℕ) (more : List ℕ) → rest ≡ x ∷ more → Written old now rest whole → Written old (now ++ x ∷ []) more whole
written_more old now rest whole x more e w = record { is = append_assoc now (x ∷ []) more ∙ ap (λ l. now ++ l) (sym e) ∙ w.is }

pub written_all : (old now rest whole : List ℕ) → rest ≡ [] → Written old now rest whole → now ≡ old ++ whole
written_all old now rest whole e w = sym (append-nil now) ∙ ap (λ l. now ++ l) (sym e) ∙ w.is

pub values_next : (quote : ℕ) (bytes : List ℕ) (at : ℕ) (c : Character) → c ≡ quoted_character quote (drop at bytes) → (c.len ≡ 0 → ⊥) → values (characters quote (drop at bytes)) ≡ c.value % 256 ∷ values (characters quote (drop (at + c.len) bytes))
values_next quote bytes at c e h = ap values (next_character quote bytes at c e h)

pub values_last : (quote : ℕ) (bytes : List ℕ) (at : ℕ) (c : Character) → c ≡ quoted_character quote (drop at bytes) → c.len ≡ 0 → values (characters quote (drop at bytes)) ≡ []
values_last quote bytes at c e z = ap values (last_character quote (drop at bytes) (sym (ap (λ (d : Character). d.len) e) ∙ z))

pub character_within : (quote : ℕ) (bytes : List ℕ) (at : ℕ) (c : Character) → c ≡ quoted_character quote (drop at bytes) → at ≤ length bytes → at + c.len ≤ length bytes
character_within quote bytes at c e le =
    let k : c.len ≡ (quoted_character quote (drop at bytes)).len = ap (λ (d : Character). d.len) e in
    omega (arith, quoted_character_within quote (drop at bytes), length-drop at bytes)

-- a long text behind its first line end
pub behind_line_end : (inside : List ℕ) → with_line_feeds (drop (line_end_len inside) inside) ≡ long_value inside
behind_line_end [] = refl
behind_line_end (x ∷ rest) = go (line_end_len (x ∷ rest)) refl
  where
    go : (n : ℕ) → line_end_len (x ∷ rest) ≡ n → with_line_feeds (drop n (x ∷ rest)) ≡ long_value (x ∷ rest)
    go zero e =
        let s = feeds_step x rest ∙ ap (λ n. cond (eqb n 0) (x ∷ with_line_feeds rest) (10 ∷ with_line_feeds (drop n (x ∷ rest)))) e in
        let f = no_feed x (no_line_end x rest e) in
        s ∙ sym (ap (λ b. cond b (with_line_feeds rest) (x ∷ with_line_feeds rest)) f) ∙ sym (ap without_first_line_feed s)
    go (suc n) e =
        let ne : eqb (suc n) 0 ≡ false = ne_eqb (suc n) 0 (λ q. absurd (omega arith)) in
        let s = feeds_step x rest ∙ ap (λ m. cond (eqb m 0) (x ∷ with_line_feeds rest) (10 ∷ with_line_feeds (drop m (x ∷ rest)))) e ∙ ap (λ b. cond b (x ∷ with_line_feeds rest) (10 ∷ with_line_feeds (drop (suc n) (x ∷ rest)))) ne in
        sym (ap without_first_line_feed s)

pub value_is : (o : Option ℕ) (bytes literal : List ℕ) → o ≡ bracket_level 91 bytes → bytes ≡ literal → value_by o bytes ≡ value_of literal
unfolding value_of
value_is o bytes literal e f = ap (λ (p : Option ℕ). value_by p bytes) e ∙ ap (λ l. value_by (bracket_level 91 l) l) f

pub from_nothing : (now old whole : List ℕ) → now ≡ old ++ whole → old ≡ [] → now ≡ whole
from_nothing now old whole e f = e ∙ ap (λ l. l ++ whole) f
