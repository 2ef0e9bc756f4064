-- The language has one answer for each list of tokens, which reading gives.
use Rattle.std.proofs.Common.{◌≡◌, ℕ, List, refl, ap, ◌∙◌}
use Rattle.tl_base.specs.declared.place.Place.{Place}
use Rattle.tl_tree.specs.Tokens.{Token, tokens_of, place_of, finish_of}
use Rattle.tl_tree.specs.Tree.{Tree}
use Rattle.tl_tree.specs.Grammar.{readers_at, all_levels}
use Rattle.tl_tree.specs.Refusing.{HasTree, Answer, IsTree, Refused, Says, answer}
use Rattle.tl_tree.specs.Syntax.{syntax_of, chunk}
use Rattle.tl_tree.specs.Laws.{IsChunk, HasOneAnswer}
use Rattle.tl_tree.specs.Texts.{TextAnswer, TreeOf, RefusedAt, SaysOf, HasOneTextAnswer, GoesOnUnrefused, GoesOnAsText}
use Rattle.tl_tree.proofs.Exact.{Meets, answers, only_answer, one_tree, unrefused_viable}
use Rattle.tl_tree.proofs.TextsGo.{text_goes}
use Rattle.tl_tree.proofs.Levels.{meets, viable_goes}
use Rattle.tl_tree.proofs.Following.{after_part}
use Rattle.tl_tree.proofs.PartsGo.{begun, completed, turned}

-- what reading a whole text gives
abbrev pub reads : List Token → Answer Tree
reads ts = answer (readers_at syntax_of all_levels chunk ts)

chunks_meet : Meets (λ ts. readers_at syntax_of all_levels chunk ts) IsChunk
chunks_meet = meets syntax_of after_part begun completed chunk

-- what reading answers of a text is so
pub chunk_says : (ts : List Token) → Says IsChunk ts (reads ts)
chunk_says ts = answers (λ us. readers_at syntax_of all_levels chunk us) IsChunk chunks_meet ts

-- and nothing else is
pub chunk_only : (ts : List Token) (y : Answer Tree) → Says IsChunk ts y → y ≡ reads ts
chunk_only ts y h = only_answer (λ us. readers_at syntax_of all_levels chunk us) IsChunk chunks_meet ts y h

pub chunks_one : HasOneAnswer IsChunk
chunks_one ts = (reads ts, chunk_says ts, λ y h. chunk_only ts y h)

pub one_chunk : (ts : List Token) (a b : Tree) → HasTree IsChunk ts a → HasTree IsChunk ts b → a ≡ b
one_chunk ts a b p q = one_tree (λ us. readers_at syntax_of all_levels chunk us) IsChunk chunks_meet ts a b p q

-- ---- texts

-- an answer by place
of_text : List ℕ → Answer Tree → TextAnswer
of_text text (IsTree tree) = TreeOf tree
of_text text (Refused kind rest) = RefusedAt kind (place_of rest (finish_of text))

module _ (text : List ℕ) where
  text_says : (x : Answer Tree) → Says IsChunk (tokens_of text) x → SaysOf text (of_text text x)
  unfolding of_text
  text_says (IsTree tree) h = h
  text_says (Refused kind rest) h = record { rest = rest; refuses = h; is_there = refl }

  text_only : (y : TextAnswer) → SaysOf text y → y ≡ of_text text (reads (tokens_of text))
  unfolding of_text
  text_only (TreeOf tree) h = ap (λ (x : Answer Tree). of_text text x) (chunk_only (tokens_of text) (IsTree tree) h)
  text_only (RefusedAt kind place) h =
      ap (λ (p : Place). RefusedAt kind p) h.is_there
      ∙ ap (λ (x : Answer Tree). of_text text x) (chunk_only (tokens_of text) (Refused kind h.rest) h.refuses)

  pub one_text_answer : HasOneTextAnswer text
  one_text_answer = (
    of_text text (reads (tokens_of text)),
    text_says (reads (tokens_of text)) (chunk_says (tokens_of text)),
    text_only,
  )

-- what goes on as a list of tokens goes on as a text
pub chunk_goes : GoesOnAsText IsChunk
chunk_goes text front rest e v =
    text_goes IsChunk text front rest e (λ p. viable_goes syntax_of after_part begun turned chunk p front v)

pub unrefused_goes : GoesOnUnrefused IsChunk
unrefused_goes text front rest e none =
    chunk_goes text front rest e
    (unrefused_viable (λ us. readers_at syntax_of all_levels chunk us) IsChunk chunks_meet front none)
