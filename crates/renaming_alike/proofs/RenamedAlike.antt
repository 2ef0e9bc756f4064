-- A text with its locals renamed binds alike, and its tokens stand where they stood.
use Rattle.std.proofs.Common.{◌≡◌, ℕ, zero, suc, ◌+◌, ◌≤◌, Bool, true, false, cond, List, [], ◌∷◌, ◌++◌, length, get_or, Option}
use Rattle.std.proofs.Common.{Some, None, Ok, Err, refl, sym, ap, ◌∙◌, subst, arith, length-append}
use Rattle.std.specs.Prelude.{◌||◌, map}
use Rattle.std.specs.List.{list_any}
use Rattle.std.proofs.lemmas.Bool.{true≢false, false≢true, and_parts}
use Rattle.std.proofs.lemmas.Option.{none-some}
use Rattle.tl_base.specs.declared.place.Place.{Place}
use Rattle.tl_lex.specs.Answers as lexed
use Rattle.tl_lex.specs.declared.TokenKind.{TokenKind}
use Rattle.tl_lex.specs.declared.TokenKind.TheVariants as kinds
use Rattle.tl_lex.specs.declared.TheConstants.{LONGEST_TEXT}
use Rattle.tl_lex.proofs.LawLemmas.{ends_once}
use Rattle.tl_lex.proofs.NewNameLemmas.{Entry, now, substituted, IsName, AreNewNames, IsNewName, Matches}
use Rattle.tl_lex.proofs.NewNames.{same_answers, ascending, few_answers}
use Rattle.tl_tree.specs.Item.{Item}
use Rattle.tl_tree.specs.Item as kept
use Rattle.tl_tree.specs.Nodes.{absent_item, lay}
use Rattle.tl_tree.specs.Tree.{Tree}
use Rattle.tl_tree.specs.Tokens.{Token, put_answer, tokens_in, tokens_of, finish_of}
use Rattle.tl_tree.specs.Laws.{IsChunk}
use Rattle.tl_tree.specs.Refusing.{HasTree}
use Rattle.tl_tree.specs.Texts.{Reads}
use Rattle.tl_tree.specs.Code.{Items}
use Rattle.tl_tree.specs.Scopes.{Found, is_name, binder}
use Rattle.tl_tree.specs.Binding.{Alike, bound}
use Rattle.tl_tree.proofs.WellFormedTrees.{well_formed_trees}
use Rattle.tl_alike.proofs.Filling.{whole}
use Rattle.tl_renaming.specs.Renamed.{has_node, declares, is_declaration, declarations_below, number_of, number_found, or_found, local_number}
use Rattle.tl_renaming.specs.Renamed.{item_has_prefix, is_taken, letters, new_name, renamed}
use Rattle.renaming_alike.specs.Renamed.{HaveShortNames, RenamedTextsRead, RenamedTextsAreAlike, places, RenamedTextsHaveSamePlaces}
use Rattle.tl_renaming.proofs.Changed.{Change, Named, named, named_by, is_name as is_name_token, all_named, changed_tokens, changed}
use Rattle.tl_renaming.proofs.KeepingTexts.{keeps_tree}
use Rattle.tl_renaming.proofs.LayingChanged.{named_item, named_items, lay_changed}
use Rattle.renaming_alike.proofs.Numbering.{numbered}
use Rattle.renaming_alike.proofs.BindsAlike.{fresh, IsRenaming, HasDeclarations, binds_alike}
use Rattle.renaming_alike.proofs.Declared.{stands_nowhere}
use Rattle.renaming_alike.proofs.OwnersDeclare.{owners_declare_all}
use Rattle.tl_renaming.proofs.Substituting.{new_by, entries, renamed_is, all_match, names_all}
use Rattle.tl_renaming.proofs.NewTokens.{SameTexts, same_tokens, Rising, rising, text_for, change_of, changed_is}
use Rattle.tl_renaming.proofs.NewTokens.{AllNow, all_now}
use Rattle.renaming_alike.proofs.Letters.{letters_free, some_letter, AllShort, letters_short, new_is_name}

are_new : (items : Items) (l : ℕ) → ((n k : ℕ) → local_number items n ≡ Some k → IsName (new_name l k)) → (n : ℕ) (more : List Item)
    → AreNewNames (entries items l n more)
are_new items l h n [] = tt
are_new items l h n (kept.Name place offset name ∷ more) = (go (local_number items n) refl, are_new items l h (n + 1) more)
  where
    go : (o : Option ℕ) → local_number items n ≡ o → IsNewName (new_by l o)
    go None e = tt
    go (Some k) e = h n k e
are_new items l h n (kept.Numeral place x ∷ more) = are_new items l h (n + 1) more
are_new items l h n (kept.Literal place x ∷ more) = are_new items l h (n + 1) more
are_new items l h n (kept.Expression place x ∷ more) = are_new items l h (n + 1) more
are_new items l h n (kept.Statement place x ∷ more) = are_new items l h (n + 1) more
are_new items l h n (kept.TerraExpression place x ∷ more) = are_new items l h (n + 1) more
are_new items l h n (kept.TerraStatement place x ∷ more) = are_new items l h (n + 1) more
are_new items l h n (kept.Piece x ∷ more) = are_new items l h (n + 1) more

-- what a name is called in the new text
called_now : (f : ℕ → List ℕ → List ℕ) (items : Items) (l n : ℕ) (more : List Item) → AllNow f (entries items l n more) → (i : ℕ) (place : Place) (offset : ℕ)
    (text : List ℕ) → get_or more i absent_item ≡ kept.Name place offset text → f offset text ≡ fresh l text (local_number items (n + i))
called_now f items l n [] h i place offset text e = absurd cc
called_now f items l n (kept.Name place' offset' text' ∷ more) h zero place offset text e =
    let o : offset' ≡ offset = cc in
    let t : text' ≡ text = cc in
    let z : n ≡ n + 0 = omega arith in
    sym (ap (λ (k : ℕ). f k text') o ∙ ap (f offset) t) ∙ h.0 ∙ is (local_number items n) ∙ ap (λ (x : List ℕ). fresh l x (local_number items n)) t
    ∙ ap (λ (k : ℕ). fresh l text (local_number items k)) z
  where
    is : (o : Option ℕ) → now (offset', text', new_by l o) ≡ fresh l text' o
    is None = refl
    is (Some k) = refl
called_now f items l n (kept.Name place' offset' text' ∷ more) h (suc i) place offset text e =
    let s : n + 1 + i ≡ n + suc i = omega arith in
    called_now f items l (n + 1) more h.1 i place offset text e ∙ ap (λ (k : ℕ). fresh l text (local_number items k)) s
called_now f items l n (kept.Numeral place' x ∷ more) h zero place offset text e = absurd cc
called_now f items l n (kept.Literal place' x ∷ more) h zero place offset text e = absurd cc
called_now f items l n (kept.Expression place' x ∷ more) h zero place offset text e = absurd cc
called_now f items l n (kept.Statement place' x ∷ more) h zero place offset text e = absurd cc
called_now f items l n (kept.TerraExpression place' x ∷ more) h zero place offset text e = absurd cc
called_now f items l n (kept.TerraStatement place' x ∷ more) h zero place offset text e = absurd cc
called_now f items l n (kept.Piece x ∷ more) h zero place offset text e = absurd cc
called_now f items l n (kept.Numeral place' x ∷ more) h (suc i) place offset text e =
    let s : n + 1 + i ≡ n + suc i = omega arith in
    called_now f items l (n + 1) more h i place offset text e ∙ ap (λ (k : ℕ). fresh l text (local_number items k)) s
called_now f items l n (kept.Literal place' x ∷ more) h (suc i) place offset text e =
    let s : n + 1 + i ≡ n + suc i = omega arith in
    called_now f items l (n + 1) more h i place offset text e ∙ ap (λ (k : ℕ). fresh l text (local_number items k)) s
called_now f items l n (kept.Expression place' x ∷ more) h (suc i) place offset text e =
    let s : n + 1 + i ≡ n + suc i = omega arith in
    called_now f items l (n + 1) more h i place offset text e ∙ ap (λ (k : ℕ). fresh l text (local_number items k)) s
called_now f items l n (kept.Statement place' x ∷ more) h (suc i) place offset text e =
    let s : n + 1 + i ≡ n + suc i = omega arith in
    called_now f items l (n + 1) more h i place offset text e ∙ ap (λ (k : ℕ). fresh l text (local_number items k)) s
called_now f items l n (kept.TerraExpression place' x ∷ more) h (suc i) place offset text e =
    let s : n + 1 + i ≡ n + suc i = omega arith in
    called_now f items l (n + 1) more h i place offset text e ∙ ap (λ (k : ℕ). fresh l text (local_number items k)) s
called_now f items l n (kept.TerraStatement place' x ∷ more) h (suc i) place offset text e =
    let s : n + 1 + i ≡ n + suc i = omega arith in
    called_now f items l (n + 1) more h i place offset text e ∙ ap (λ (k : ℕ). fresh l text (local_number items k)) s
called_now f items l n (kept.Piece x ∷ more) h (suc i) place offset text e =
    let s : n + 1 + i ≡ n + suc i = omega arith in
    called_now f items l (n + 1) more h i place offset text e ∙ ap (λ (k : ℕ). fresh l text (local_number items k)) s

-- ---- names that are short, and free prefixes

abbrev IsShort : List Item → Type 0
IsShort more = (i : ℕ) (place : Place) (offset : ℕ) (text : List ℕ) → get_or more i absent_item ≡ kept.Name place offset text → length text ≤ 248

all_short : (more : List Item) → IsShort more → AllShort 248 more
all_short [] h = tt
all_short (kept.Name place offset text ∷ more) h = (h 0 place offset text refl, all_short more (λ i. h (suc i)))
all_short (kept.Numeral place x ∷ more) h = all_short more (λ i. h (suc i))
all_short (kept.Literal place x ∷ more) h = all_short more (λ i. h (suc i))
all_short (kept.Expression place x ∷ more) h = all_short more (λ i. h (suc i))
all_short (kept.Statement place x ∷ more) h = all_short more (λ i. h (suc i))
all_short (kept.TerraExpression place x ∷ more) h = all_short more (λ i. h (suc i))
all_short (kept.TerraStatement place x ∷ more) h = all_short more (λ i. h (suc i))
all_short (kept.Piece x ∷ more) h = all_short more (λ i. h (suc i))

none_prefixed : (items : Items) (l i : ℕ) → is_taken items l ≡ false → item_has_prefix l (get_or items i absent_item) ≡ false
none_prefixed [] l i h = refl
none_prefixed (x ∷ items) l zero h = go (item_has_prefix l x) h
  where
    go : (b : Bool) → (b || is_taken items l) ≡ false → b ≡ false
    go true k = k
    go false k = refl
none_prefixed (x ∷ items) l (suc i) h = none_prefixed items l i (go (item_has_prefix l x) h)
  where
    go : (b : Bool) → (b || is_taken items l) ≡ false → is_taken items l ≡ false
    go true k = absurd (true≢false k)
    go false k = k

-- ---- there are no more declarations than names

counted : List Item → ℕ → ℕ
counted [] n = 0
counted (x ∷ xs) zero = 0
counted (x ∷ xs) (suc n) = length (named_item x) + counted xs n

counted_one : (items : List Item) (k : ℕ) → counted items (suc k) ≡ counted items k + length (named_item (get_or items k absent_item))
unfolding counted
counted_one [] k = refl
counted_one (x ∷ []) zero = omega arith
counted_one (x ∷ y ∷ xs) zero = omega arith
counted_one (x ∷ xs) (suc k) = let h = counted_one xs k in omega (arith, h)

counted_all : (items : List Item) (n : ℕ) → counted items n ≤ length (named_items items)
unfolding counted
counted_all [] n = omega arith
counted_all (x ∷ xs) zero = omega arith
counted_all (x ∷ xs) (suc n) = let h = counted_all xs n in omega (arith, h, length-append (named_item x) (named_items xs))

name_counts : (i : Item) → is_name i ≡ true → length (named_item i) ≡ 1
name_counts (kept.Name place offset text) h = refl
name_counts (kept.Numeral place x) h = absurd (false≢true h)
name_counts (kept.Literal place x) h = absurd (false≢true h)
name_counts (kept.Expression place x) h = absurd (false≢true h)
name_counts (kept.Statement place x) h = absurd (false≢true h)
name_counts (kept.TerraExpression place x) h = absurd (false≢true h)
name_counts (kept.TerraStatement place x) h = absurd (false≢true h)
name_counts (kept.Piece x) h = absurd (false≢true h)

declared_name_counts : (items : Items) (k : ℕ) → is_declaration items k ≡ true → length (named_item (get_or items k absent_item)) ≡ 1
declared_name_counts items k h =
    name_counts (get_or items k absent_item) (and_parts (is_name (get_or items k absent_item)) (list_any (λ item. has_node k (declares item)) items) h).0

below_counted : (items : Items) (n : ℕ) → declarations_below items n ≤ counted items n
below_counted items zero = omega arith
below_counted items (suc k) = go (is_declaration items k) refl (below_counted items k)
  where
    go : (b : Bool) → is_declaration items k ≡ b → declarations_below items k ≤ counted items k → declarations_below items k + cond b 1 0 ≤ counted items (suc k)
    go true e h = omega (arith, h, counted_one items k, declared_name_counts items k e)
    go false e h = omega (arith, h, counted_one items k)

number_counted : (items : Items) (d k : ℕ) → number_of items d ≡ Some k → k ≤ length (named_items items)
number_counted items d k h =
    let n = numbered items d k h in
    omega (arith, n.number, below_counted items d, counted_one items d, declared_name_counts items d n.is, counted_all items (suc d))

-- ---- nor than tokens

few_named : (ts : List Token) → length (all_named ts) ≤ length ts
few_named [] = omega arith
few_named (t ∷ ts) =
    let h = few_named ts in omega (arith, h, length-append (named_by t) (all_named ts), go (is_name_token t))
  where
    go : (b : Bool) → length {A = Named} (cond b (named t.offset t.text ∷ []) []) ≤ 1
    go true = omega arith
    go false = omega arith

few_tokens : (answers : List lexed.Answer) → length (tokens_in answers).tokens ≤ length answers
few_tokens [] = omega arith
few_tokens (Err e ∷ more) = omega arith
few_tokens (Ok t ∷ more) = go t.kind (few_tokens more)
  where
    go : (k : TokenKind) → length (tokens_in more).tokens ≤ length more → length (put_answer k t (tokens_in more)).tokens ≤ length (Ok t ∷ more)
    go kinds.End h = omega arith
    go kinds.Name h = omega (arith, h)
    go kinds.Reserved h = omega (arith, h)
    go kinds.Sign h = omega (arith, h)
    go kinds.Numeral h = omega (arith, h)
    go kinds.Literal h = omega (arith, h)

-- ---- places

places_stay : (c : Change) (ts : List Token) → map (λ t. t.place) (changed_tokens c ts) ≡ map (λ t. t.place) ts
places_stay c [] = refl
places_stay c (t ∷ ts) = ap (λ (ps : List Place). t.place ∷ ps) (places_stay c ts)

-- ---- the whole

-- what holds of the numbers of declarations holds of those of locals
of_locals : (items : Items) (P : ℕ → Type 0) → ((d k : ℕ) → number_of items d ≡ Some k → P k) → (n k : ℕ) → local_number items n ≡ Some k → P k
of_locals items P h n k e = go (number_of items n) refl e
  where
    by_found : (o : Option Found) → number_found items o ≡ Some k → P k
    by_found None f = absurd (none-some k f)
    by_found (Some x) f = h x.declaration.0 k f

    go : (o : Option ℕ) → number_of items n ≡ o → or_found o (number_found items (binder items (record { 0 = n }))) ≡ Some k → P k
    go (Some j) a f = h n k (a ∙ f)
    go None a f = by_found (binder items (record { 0 = n })) f

module _ (text : List ℕ) (tree : Tree) (le : length text ≤ LONGEST_TEXT) (reads : Reads text tree)
    (short : HaveShortNames (lay tree [])) where
  abbrev items : Items
  items = lay tree []

  abbrev l : ℕ
  l = letters (lay tree [])

  abbrev es : List Entry
  es = entries (lay tree []) (letters (lay tree [])) 0 (lay tree [])

  abbrev ts : List Token
  ts = tokens_of text

  abbrev text' : List ℕ
  text' = substituted text 0 es

  abbrev us : List Token
  us = tokens_of text'

  abbrev c : Change
  c = change_of ts us

  few_numbers : (d k : ℕ) → number_of items d ≡ Some k → k ≤ 1048577
  few_numbers d k h =
      let a = number_counted items d k h in
      let b = ap (λ (x : List Named). length x) (names_all text tree reads) in
      let f = few_named ts in
      let g = few_tokens (lexed.answers_of text) in
      let e = few_answers text in
      omega (arith, a, b, f, g, e, le)

  all_are_short : letters items ≤ 248
  all_are_short = letters_short 248 items (omega arith) (all_short items (λ i. short (record { 0 = i })))

  new_names : AreNewNames es
  new_names =
      are_new items l
      (λ n k e. let small = of_locals items (λ j. j ≤ 1048577) few_numbers n k e in
      new_is_name l k (some_letter items) all_are_short (omega (arith, small)) (omega (arith, small))) 0 items

  match : Matches es (lexed.answers_of text)
  match = all_match text tree reads

  now_texts : SameTexts es (lexed.answers_of text) (lexed.answers_of text')
  now_texts = same_tokens (lexed.answers_of text) (lexed.answers_of text') es (ends_once text) match (same_answers text es new_names match)

  rise : Rising 0 ts
  rise = rising (lexed.answers_of text) es 0 match (ascending text)

  tokens_changed : changed_tokens c ts ≡ us
  tokens_changed = changed_is ts us es 0 now_texts.tokens rise

  renaming : IsRenaming items c l
  renaming = record {
    some_letter = some_letter items;
    are_fresh = λ n place offset name e.
        let z : 0 + n.0 ≡ n.0 = omega arith in
        called_now (text_for ts us) items l 0 items (all_now ts us es 0 now_texts.tokens rise).all n.0 place offset name e
        ∙ ap (λ (k : ℕ). fresh l name (local_number items k)) z;
    unused = λ n place offset name e. sym (ap (item_has_prefix l) e) ∙ none_prefixed items l n.0 (letters_free items);
    few = λ d k e. let small = few_numbers d k e in omega (arith, small);
  }

  declarations_of : HasDeclarations items
  declarations_of = record {
    stand_nowhere = λ n h. stands_nowhere items (whole tree (well_formed_trees text tree reads)) n h;
    are_declared = owners_declare_all text tree reads;
  }

  renamed_so : renamed items text ≡ text'
  renamed_so = renamed_is items l text 0 0 items

  finish_stays : finish_of (renamed items text) ≡ finish_of text
  finish_stays = ap finish_of renamed_so ∙ now_texts.finish

  -- the renamed text reads,
  reads_so : Reads (renamed items text) (changed c tree)
  reads_so =
      subst (λ (x : List ℕ). Reads x (changed c tree)) (sym renamed_so)
      (subst (λ (x : List Token). HasTree IsChunk x (changed c tree)) tokens_changed (keeps_tree c ts tree reads).has)

  -- with each token where it was,
  places_so : places (renamed items text) ≡ places text
  places_so =
      ap (λ (vs : List Token). map (λ t. t.place) vs ++ finish_of (renamed items text) ∷ []) (ap tokens_of renamed_so ∙ sym tokens_changed)
      ∙ ap (λ (ps : List Place). ps ++ finish_of (renamed items text) ∷ []) (places_stay c ts)
      ∙ ap (λ (p : Place). map (λ t. t.place) (tokens_of text) ++ p ∷ []) finish_stays

  -- and binds alike
  alike_so : Alike text (renamed items text)
  alike_so = record {
    tree = tree;
    other = changed c tree;
    reads = reads;
    other_reads = reads_so;
    is_bound_alike = binds_alike items c l renaming declarations_of (finish_of text)
        ∙ ap (λ (x : Items). bound x (finish_of text)) (sym (lay_changed c tree))
        ∙ ap (λ (p : Place). bound (lay (changed c tree) []) p) (sym finish_stays);
  }

pub renamed_reads : RenamedTextsRead
renamed_reads text other r le short = (
  changed (c text r.tree le r.reads short) r.tree,
  subst (λ (x : List ℕ). Reads x (changed (c text r.tree le r.reads short) r.tree)) (sym r.is) (reads_so text r.tree le r.reads short),
)

pub renamed_alike : RenamedTextsAreAlike
renamed_alike text other r le short = subst (λ (x : List ℕ). Alike text x) (sym r.is) (alike_so text r.tree le r.reads short)

pub renamed_stands : RenamedTextsHaveSamePlaces
renamed_stands text other r le short = ap places r.is ∙ places_so text r.tree le r.reads short
