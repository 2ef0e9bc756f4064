-- A text with its locals renamed is the text with some of its names given way to others: the names of the tree are those of the text's tokens.
use Rattle.std.proofs.Common.{◌≡◌, ℕ, ◌+◌, ◌-◌, List, [], ◌∷◌, ◌++◌, length, take, drop, Option, Some, None}
use Rattle.std.proofs.Common.{refl, sym, ap, ◌∙◌, subst, append-nil, append_assoc}
use Rattle.tl_lex.specs.Answers as lexed
use Rattle.tl_lex.proofs.LawLemmas.{ends_once}
use Rattle.tl_lex.proofs.NewNameLemmas.{Entry, substituted, substituted_at, Matches}
use Rattle.tl_tree.specs.Item.{Item}
use Rattle.tl_tree.specs.Item as kept
use Rattle.tl_tree.specs.Nodes.{lay}
use Rattle.tl_tree.specs.Tree.{Tree}
use Rattle.tl_tree.specs.Tokens.{Token, tokens_of}
use Rattle.tl_tree.specs.Grammar.{readers_at, all_levels, Outcome}
use Rattle.tl_tree.specs.Syntax.{syntax_of, chunk}
use Rattle.tl_tree.specs.Laws.{IsChunk}
use Rattle.tl_tree.specs.Refusing.{HasTree}
use Rattle.tl_tree.specs.Texts.{Reads}
use Rattle.tl_tree.specs.Code.{Items}
use Rattle.tl_tree.proofs.Reading.{rest_of, AllGood, Leaves}
use Rattle.tl_tree.proofs.Exact.{Meets, tree_runs}
use Rattle.tl_tree.proofs.Levels.{meets}
use Rattle.tl_tree.proofs.Following.{after_part}
use Rattle.tl_tree.proofs.PartsGo.{begun, completed}
use Rattle.tl_renaming.specs.Renamed.{local_number, letters, new_name, replaced, renamed_from}
use Rattle.tl_renaming.proofs.Changed.{Named, all_named}
use Rattle.tl_renaming.proofs.KeepingTexts.{keeps_tree}
use Rattle.tl_renaming.proofs.LayingChanged.{named_items, lay_names}
use Rattle.tl_renaming.proofs.NewTokens.{names_of, matches_from, change_of}

-- ---- the names of a text, with what they give way to

abbrev pub new_by : ℕ → Option ℕ → Option (List ℕ)
new_by l None = None
new_by l (Some k) = Some (new_name l k)

abbrev pub entries : Items → ℕ → ℕ → List Item → List Entry
entries items l n [] = []
entries items l n (kept.Name place offset text ∷ more) = (offset, text, new_by l (local_number items n)) ∷ entries items l (n + 1) more
entries items l n (_ ∷ more) = entries items l (n + 1) more

pub renamed_is : (items : Items) (l : ℕ) (text : List ℕ) (at n : ℕ) (more : List Item)
    → renamed_from items l text at n more ≡ substituted text at (entries items l n more)
renamed_is items l text at n [] = refl
renamed_is items l text at n (kept.Name place offset name ∷ more) = go (local_number items n) (λ i. renamed_is items l text i (n + 1) more)
  where
    go : (o : Option ℕ) → ((i : ℕ) → renamed_from items l text i (n + 1) more ≡ substituted text i (entries items l (n + 1) more))
        → replaced o l text at offset name (λ next. renamed_from items l text next (n + 1) more)
        ≡ substituted_at (new_by l o) text at offset (length name) (λ next. substituted text next (entries items l (n + 1) more))
    go None ih = ih at
    go (Some k) ih =
        append_assoc (take (offset - at) (drop at text)) (new_name l k) (renamed_from items l text (offset + length name) (n + 1) more)
        ∙ ap (λ (x : List ℕ). take (offset - at) (drop at text) ++ (new_name l k ++ x)) (ih (offset + length name))
renamed_is items l text at n (kept.Numeral place x ∷ more) = renamed_is items l text at (n + 1) more
renamed_is items l text at n (kept.Literal place x ∷ more) = renamed_is items l text at (n + 1) more
renamed_is items l text at n (kept.Expression place x ∷ more) = renamed_is items l text at (n + 1) more
renamed_is items l text at n (kept.Statement place x ∷ more) = renamed_is items l text at (n + 1) more
renamed_is items l text at n (kept.TerraExpression place x ∷ more) = renamed_is items l text at (n + 1) more
renamed_is items l text at n (kept.TerraStatement place x ∷ more) = renamed_is items l text at (n + 1) more
renamed_is items l text at n (kept.Piece x ∷ more) = renamed_is items l text at (n + 1) more

pub names_are : (items : Items) (l n : ℕ) (more : List Item) → names_of (entries items l n more) ≡ named_items more
names_are items l n [] = refl
names_are items l n (kept.Name place offset name ∷ more) = ap (λ (x : List Named). record { offset = offset; text = name } ∷ x) (names_are items l (n + 1) more)
names_are items l n (kept.Numeral place x ∷ more) = names_are items l (n + 1) more
names_are items l n (kept.Literal place x ∷ more) = names_are items l (n + 1) more
names_are items l n (kept.Expression place x ∷ more) = names_are items l (n + 1) more
names_are items l n (kept.Statement place x ∷ more) = names_are items l (n + 1) more
names_are items l n (kept.TerraExpression place x ∷ more) = names_are items l (n + 1) more
names_are items l n (kept.TerraStatement place x ∷ more) = names_are items l (n + 1) more
names_are items l n (kept.Piece x ∷ more) = names_are items l (n + 1) more

-- ---- tokens of a text that is read break no rule

chunks_meet : Meets (λ ts. readers_at syntax_of all_levels chunk ts) IsChunk
chunks_meet = meets syntax_of after_part begun completed chunk

pub all_good : (ts : List Token) (tree : Tree) → HasTree IsChunk ts tree → AllGood ts
all_good ts tree h =
    let runs = tree_runs (λ us. readers_at syntax_of all_levels chunk us) IsChunk chunks_meet ts tree h in
    let l = subst (λ (o : Outcome Tree). Leaves (rest_of o) ts) runs (chunks_meet.leaves ts) in
    subst (λ (x : List Token). AllGood x) (sym (l.1 ∙ append-nil l.0)) l.2

-- the names of a tree are those of its tokens
pub names_all : (text : List ℕ) (tree : Tree) → Reads text tree → named_items (lay tree []) ≡ all_named (tokens_of text)
names_all text tree reads = lay_names tree ∙ (keeps_tree (change_of [] []) (tokens_of text) tree reads).names

pub all_match : (text : List ℕ) (tree : Tree) → Reads text tree
    → Matches (entries (lay tree []) (letters (lay tree [])) 0 (lay tree [])) (lexed.answers_of text)
all_match text tree reads =
    matches_from (lexed.answers_of text) (entries (lay tree []) (letters (lay tree [])) 0 (lay tree [])) (ends_once text) (all_good (tokens_of text) tree reads)
    (names_are (lay tree []) (letters (lay tree [])) 0 (lay tree []) ∙ names_all text tree reads)
