-- A source reads in one way.
use Rattle.std.proofs.Common.{◌≡◌, ℕ, List, Ok, refl, sym, ap, subst, ◌∙◌, arith}
use Rattle.tl_base.specs.declared.place.Place.{Place}
use Rattle.tl_lex.specs.declared.SyntaxKind.{SyntaxKind}
use Rattle.tl_tree.specs.Tokens.{Token, tokens_of, finish_of, place_of}
use Rattle.tl_tree.specs.Tree.{Tree}
use Rattle.tl_tree.specs.declared.tree.Tree as code
use Rattle.tl_tree.specs.Arena.{end_of}
use Rattle.tl_tree.specs.Refusing.{Language, Answer, Says, IsTree, Refused}
use Rattle.tl_tree.specs.Laws.{HasOneAnswer, IsChunk}
use Rattle.tl_tree.specs.Texts as texts
use Rattle.tl_tree.proofs.Answering.{chunks_one}
use Rattle.tl_tree.proofs.WellFormedTrees.{well_formed_trees}
use Rattle.tl_parse.specs.Whole.{ComesOf}
use Rattle.terrac_call.specs.declared.parsing.Parsed.{Parsed}
use Rattle.terrac_call.specs.declared.parsing.Parsed.TheVariants as parsed
use Rattle.terrac_call.specs.ParsedView.{Shows}
use Rattle.terrac_call.specs.Due as due
use Rattle.terrac_call.specs.Due.{Reading, IsRefused, IsTextReadAs, HasTree, HasNone, IsReadAs, IsTooLong, IsNotUtf8, IsText}

-- two answers of a language are one
one : (Reads : Language Tree) → HasOneAnswer Reads → (ts : List Token) (y z : Answer Tree) → Says Reads ts y → Says Reads ts z → y ≡ z
one Reads law ts y z p q = (law ts).2 y p ∙ sym ((law ts).2 z q)

one_tree : (text : List ℕ) (a b : Tree) → texts.Reads text a → texts.Reads text b → a ≡ b
one_tree text a b p q = tree_is (one IsChunk chunks_one (tokens_of text) (IsTree a) (IsTree b) p q)
  where
    tree_is : IsTree a ≡ IsTree b → a ≡ b
    tree_is e = cc

no_both : (text : List ℕ) (a : Tree) (kind : SyntaxKind) (place : Place) → texts.Reads text a → texts.Refuses text kind place → ⊥
no_both text a kind place p q =
    apart (one IsChunk chunks_one (tokens_of text) (IsTree a) (Refused kind q.rest) p q.refuses)
  where
    apart : IsTree a ≡ Refused kind q.rest → ⊥
    apart e = cc

-- the refusal of some tokens
abbrev answer_of : SyntaxKind → List Token → Answer Tree
answer_of kind rest = Refused kind rest

one_refusal : (text : List ℕ) (kind other : SyntaxKind) (place there : Place) → texts.Refuses text kind place
    → texts.Refuses text other there → IsRefused kind place ≡ IsRefused other there
one_refusal text kind other place there p q =
    same (one IsChunk chunks_one (tokens_of text) (Refused kind p.rest) (Refused other q.rest) p.refuses q.refuses)
  where
    same : answer_of kind p.rest ≡ answer_of other q.rest → IsRefused kind place ≡ IsRefused other there
    same e =
        let kinds : kind ≡ other = cc in
        let rests : p.rest ≡ q.rest = cc in
        let places : place ≡ there = p.is_there ∙ ap (λ (ts : List Token). place_of ts (finish_of text)) rests ∙ sym q.is_there in
        ap (λ (k : SyntaxKind). IsRefused k place) kinds ∙ ap (λ (x : Place). IsRefused other x) places

one_text : (text : List ℕ) (a b : Reading) → IsTextReadAs text a → IsTextReadAs text b → a ≡ b
one_text text _ _ (HasTree t p) (HasTree u q) = ap (λ (x : Tree). due.IsTree x (finish_of text)) (one_tree text t u p q)
one_text text _ _ (HasTree t p) (HasNone kind place q) = absurd (no_both text t kind place p q)
one_text text _ _ (HasNone kind place p) (HasTree u q) = absurd (no_both text u kind place q p)
one_text text _ _ (HasNone kind place p) (HasNone other there q) = one_refusal text kind other place there p q

pub one_reading : (source : List ℕ) (a b : Reading) → IsReadAs source a → IsReadAs source b → a ≡ b
one_reading source _ _ (IsTooLong l) (IsTooLong m) = refl
one_reading source _ _ (IsTooLong l) (IsNotUtf8 m u) = absurd (omega arith)
one_reading source _ _ (IsTooLong l) (IsText b m u q) = absurd (omega arith)
one_reading source _ _ (IsNotUtf8 l n) (IsTooLong m) = absurd (omega arith)
one_reading source _ _ (IsNotUtf8 l n) (IsNotUtf8 m u) = refl
one_reading source _ _ (IsNotUtf8 l n) (IsText b m u q) = absurd (n u)
one_reading source _ _ (IsText a l u p) (IsTooLong m) = absurd (omega arith)
one_reading source _ _ (IsText a l u p) (IsNotUtf8 m n) = absurd (n u)
one_reading source _ _ (IsText a l u p) (IsText b m v q) = one_text source a b p q

-- what a value shows of one reading, it shows of another that follows
pub shows_into : (P Q : Reading → Type 0) → ((r : Reading) → P r → Q r) → (x : Parsed) → Shows P x → Shows Q x
shows_into P Q into (parsed.Refused kind place) h = into (IsRefused kind place) h
shows_into P Q into (parsed.Tree tree) h = (h.0, into (due.IsTree h.0 (end_of tree)) h.1, h.2, h.3)

-- the tree of a text
pub text_tree : (text : List ℕ) (t : code.Tree) → ComesOf text (Ok t) → Shows (IsTextReadAs text) (parsed.Tree t)
text_tree text t comes =
    let read : IsTextReadAs text (due.IsTree comes.0 (finish_of text)) = HasTree comes.0 comes.1 in (
      comes.0,
      subst (λ (place : Place). IsTextReadAs text (due.IsTree comes.0 place)) (sym comes.3) read,
      comes.2,
      well_formed_trees text comes.0 comes.1,
    )
