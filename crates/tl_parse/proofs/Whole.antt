-- The answer of a whole text is what reading a chunk gives.
use Rattle.std.proofs.Common.{◌≡◌, ℕ, List, [], ◌∷◌, Result, Ok, Err, refl, sym, ap, subst, ◌∙◌}
use Rattle.tl_base.specs.declared.place.Place.{Place}
use Rattle.tl_base.specs.declared.ids.NodeId.{NodeId}
use Rattle.tl_lex.specs.declared.SyntaxKind.{SyntaxKind}
use Rattle.tl_tree.specs.Tokens.{Token, tokens_of, finish_of, place_of}
use Rattle.tl_tree.specs.Tree.{Tree}
use Rattle.tl_tree.specs.Item.{Item}
use Rattle.tl_tree.specs.Nodes.{lay}
use Rattle.tl_tree.specs.Arena as arena
use Rattle.tl_tree.specs.Grammar.{Outcome, Took, Stop, readers_at}
use Rattle.tl_tree.specs.Syntax.{syntax_of, chunk}
use Rattle.tl_tree.specs.Refusing.{Answer, IsTree, Refused, Says, answer}
use Rattle.tl_tree.specs.Laws.{IsChunk}
use Rattle.tl_tree.specs.Texts.{Reads}
use Rattle.tl_tree.specs.Texts as texts
use Rattle.tl_tree.specs.declared.tree.Tree as trees
use Rattle.tl_tree.proofs.Answering.{reads, chunk_says, chunk_only}
use Rattle.tl_parse.specs.Views.Using.{part_at}
use Rattle.tl_parse.specs.Views.Parsing.{tokens_left, end_of, items_of, blame_of, Refuses, StopsWhere, Fails, TookTree}
use Rattle.tl_parse.specs.Views.Looking.{BeginsAt}
use Rattle.tl_parse.specs.Whole.{GivesTree, GivesRefusal, ComesOf}
use Rattle.tl_parse.specs.declared.error.SyntaxError.{SyntaxError}
use Rattle.tl_parse.specs.declared.error.SyntaxError.TheVariants as errors
use Rattle.tl_parse.specs.declared.parser.Parser.{Parser}

-- reading a whole text
whole_read : (ts : List Token) → readers_at syntax_of 100 chunk ts ≡ part_at 100 chunk ts
unfolding part_at
whole_read ts = refl

-- the result is the answer, unless memory ran out
abbrev Gives : Place → Answer Tree → Result trees.Tree SyntaxError → Type 0
Gives finish (IsTree tree) r = GivesTree tree finish r
Gives finish (Refused kind rest) r = GivesRefusal kind (place_of rest finish) r

-- all that is to be shown of a result
pub record Answered (text : List ℕ) (r : Result trees.Tree SyntaxError) : Type 0 where
  pub tree : (tree : Tree) → Reads text tree → GivesTree tree (finish_of text) r
  pub refused : (kind : SyntaxKind) (place : Place) → texts.Refuses text kind place → GivesRefusal kind place r
  pub only : ComesOf text r

comes : (text : List ℕ) (y : Answer Tree) (r : Result trees.Tree SyntaxError) → Says IsChunk (tokens_of text) y → Gives (finish_of text) y r → ComesOf text r
comes text (IsTree tree) (Ok t) says gives = (tree, says, gives.0, gives.1)
comes text (IsTree tree) (Err (errors.Refused kind place)) says gives = absurd cc
comes text (IsTree tree) (Err errors.NoMemory) says gives = tt
comes text (Refused kind rest) (Ok t) says gives = absurd gives
comes text (Refused kind rest) (Err (errors.Refused k p)) says gives = subst (λ (x : SyntaxKind). texts.Refuses text x p) (sym gives.0) (record { rest = rest; refuses = says; is_there = gives.1 })
comes text (Refused kind rest) (Err errors.NoMemory) says gives = tt

answered : (text : List ℕ) (r : Result trees.Tree SyntaxError) → Gives (finish_of text) (reads (tokens_of text)) r → Answered text r
answered text r gives =
    record {
      tree = λ tree h. subst (λ (y : Answer Tree). Gives (finish_of text) y r) (sym (chunk_only (tokens_of text) (IsTree tree) h)) gives;
      refused = λ kind place h.
          subst (λ (p : Place). GivesRefusal kind p r) (sym h.is_there) (subst (λ (y : Answer Tree). Gives (finish_of text) y r) (sym (chunk_only (tokens_of text) (Refused kind h.rest) h.refuses)) gives);
      only = comes text (reads (tokens_of text)) r (chunk_says (tokens_of text)) gives;
    }

-- reading of a parser at the beginning of a text
begun : (text : List ℕ) (start : Parser) (o : Outcome Tree) → BeginsAt text start → part_at 100 chunk (tokens_left start) ≡ o → reads (tokens_of text) ≡ answer o
begun text start o b e =
    ap (λ (x : Outcome Tree). answer x) (whole_read (tokens_of text) ∙ ap (λ (ts : List Token). part_at 100 chunk ts) (sym b.tokens) ∙ e)

something_left : (ts : List Token) (tree : Tree) → (ts ≡ [] → ⊥) → answer (Took tree ts) ≡ Refused (blame_of ts) ts
something_left [] tree h = absurd (h refl)
something_left (t ∷ ts) tree h = refl

pub gives_tree : (text : List ℕ) (start end : Parser) (root : NodeId) (t : trees.Tree) → BeginsAt text start → TookTree start end (part_at 100 chunk (tokens_left start)) root → tokens_left end ≡ [] → arena.items_of t ≡ items_of end → arena.end_of t ≡ end_of end → Answered text (Ok t)
gives_tree text start end root t b took done nodes finish =
    answered text (Ok t)
    (subst (λ (y : Answer Tree). Gives (finish_of text) y (Ok t)) (sym (begun text start (Took took.tree (tokens_left end)) b took.took ∙ ap (λ (ts : List Token). answer (Took took.tree ts)) done))
    (nodes ∙ took.items ∙ ap (λ (i : List Item). lay took.tree i) b.items, finish ∙ took.finish ∙ b.finish))

pub gives_rest : (text : List ℕ) (start end : Parser) (root : NodeId) (e : SyntaxError) → BeginsAt text start → TookTree start end (part_at 100 chunk (tokens_left start)) root → (tokens_left end ≡ [] → ⊥) → Refuses end e → Answered text (Err e)
gives_rest text start end root e b took some refuses =
    answered text (Err e)
    (subst (λ (y : Answer Tree). Gives (finish_of text) y (Err e)) (sym (begun text start (Took took.tree (tokens_left end)) b took.took ∙ something_left (tokens_left end) took.tree some))
    (subst (λ (x : SyntaxError). GivesRefusal (blame_of (tokens_left end)) (place_of (tokens_left end) (finish_of text)) (Err x)) (sym refuses) (refl, ap (λ (f : Place). place_of (tokens_left end) f) (took.finish ∙ b.finish))))

pub gives_refusal : (text : List ℕ) (start : Parser) (e : SyntaxError) → BeginsAt text start → Fails start (part_at 100 chunk (tokens_left start)) e → Answered text (Err e)
gives_refusal text start e b f = answered text (Err e) (go e f.where_it_does)
  where
    memory : (y : Answer Tree) → Gives (finish_of text) y (Err errors.NoMemory)
    memory (IsTree tree) = refl
    memory (Refused kind rest) = tt

    go : (e : SyntaxError) → StopsWhere start (part_at 100 chunk (tokens_left start)) e → Gives (finish_of text) (reads (tokens_of text)) (Err e)
    go errors.NoMemory k = memory (reads (tokens_of text))
    go (errors.Refused kind place) k =
        subst (λ (y : Answer Tree). Gives (finish_of text) y (Err (errors.Refused kind place))) (sym (begun text start (Stop kind k.left) b k.stops))
        (refl, k.at ∙ ap (λ (f : Place). place_of k.left f) b.finish)
