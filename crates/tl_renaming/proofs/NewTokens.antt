-- The tokens of a text in which some names have given way to others are its tokens with their names changed.
use Rattle.std.proofs.Common.{◌≡◌, ℕ, suc, ◌<◌, ◌≤◌, Bool, true, false, cond, eqb, List, [], ◌∷◌, ◌++◌, Ok, Err}
use Rattle.std.proofs.Common.{refl, sym, ap, ◌∙◌, subst, arith, inl, inr, ◌⊎◌}
use Rattle.std.specs.Prelude.{◌||◌, bytes_eq, codes}
use Rattle.std.proofs.lemmas.Bool.{true≢false, eq-eqb, ne_eqb}
use Rattle.tl_base.specs.declared.place.Place.{Place}
use Rattle.tl_lex.specs.Answers as lexed
use Rattle.tl_lex.specs.Laws.{EndsOnce}
use Rattle.tl_lex.specs.declared.TokenKind.{TokenKind}
use Rattle.tl_lex.specs.declared.TokenKind.TheVariants as kinds
use Rattle.tl_lex.proofs.NewNameLemmas.{Entry, now, MatchesAt, Matches, SameText, SameAnswers}
use Rattle.tl_lex.proofs.NewNames.{Ascending}
use Rattle.tl_tree.specs.declared.symbol.Symbol.{Symbol}
use Rattle.tl_tree.specs.declared.symbol.Symbol.TheVariants as symbols
use Rattle.tl_tree.specs.Symbols.{spelling, number_of, words, signs, written, numeral_of, last_bytes, symbol_of, has}
use Rattle.tl_tree.specs.Tokens.{Token, token_of, Tokens, put_answer, tokens_in}
use Rattle.tl_tree.proofs.Reading.{AllGood}
use Rattle.tl_renaming.proofs.Changed.{Change, Named, named, is_name, named_by, all_named, changed_token, changed_tokens}
use Rattle.tl_renaming.proofs.Keeping.{not_named}

abbrev tokens_by : List lexed.Answer → List Token
tokens_by answers = (tokens_in answers).tokens

abbrev finish_by : List lexed.Answer → Place
finish_by answers = (tokens_in answers).finish

-- ---- which tokens are names

swap : (a b : ℕ) → eqb a b ≡ false → eqb b a ≡ false
swap a b h = ne_eqb b a (λ e. true≢false (sym (eq-eqb a b (sym e)) ∙ h))

written_no_name : (ss : List Symbol) (text : List ℕ) → has ss 60 ≡ false → eqb 60 (number_of (written ss text)) ≡ false
written_no_name [] text h = refl
written_no_name (s ∷ ss) text h = go (bytes_eq text (spelling s)) (eqb (number_of s) 60) refl h (λ k. written_no_name ss text k)
  where
    go : (b c : Bool) → eqb (number_of s) 60 ≡ c → (c || has ss 60) ≡ false → (has ss 60 ≡ false → eqb 60 (number_of (written ss text)) ≡ false)
        → eqb 60 (number_of (cond b s (written ss text))) ≡ false
    go b true e k ih = absurd (true≢false k)
    go true false e k ih = swap (number_of s) 60 e
    go false false e k ih = ih k

numeral_no_name : (text : List ℕ) → eqb 60 (number_of (numeral_of text)) ≡ false
numeral_no_name text = go (bytes_eq (last_bytes 3 text) (codes "ULL")) (bytes_eq (last_bytes 2 text) (codes "LL"))
  where
    go : (a b : Bool) → eqb 60 (number_of (cond a symbols.UnsignedNumeral (cond b symbols.LongNumeral symbols.Numeral))) ≡ false
    go true b = refl
    go false true = refl
    go false false = refl

or_false : (b : Bool) → b ≡ false → (b || false) ≡ false
or_false true h = h
or_false false h = refl

abbrev IsOther : TokenKind → Type 0
IsOther kinds.Name = ⊥
IsOther kinds.End = ⊥
IsOther _ = Unit {0}

other_no_name : (k : TokenKind) (text : List ℕ) → IsOther k → (eqb 60 (number_of (symbol_of k text)) || false) ≡ false
unfolding symbol_of
other_no_name kinds.Name text h = absurd h
other_no_name kinds.Reserved text h = or_false _ (written_no_name words text refl)
other_no_name kinds.Sign text h = or_false _ (written_no_name signs text refl)
other_no_name kinds.Numeral text h = or_false _ (numeral_no_name text)
other_no_name kinds.Literal text h = refl
other_no_name kinds.End text h = absurd h

name_symbol : (text : List ℕ) → symbol_of kinds.Name text ≡ symbols.Name
unfolding symbol_of
name_symbol text = refl

-- ---- answers as tokens

put_other : (k : TokenKind) (t : lexed.Token) (more : Tokens) → (k ≡ kinds.End → ⊥)
    → put_answer k t more ≡ record { tokens = token_of t ∷ more.tokens; finish = more.finish }
put_other kinds.End t more h = absurd (h refl)
put_other kinds.Name t more h = refl
put_other kinds.Reserved t more h = refl
put_other kinds.Sign t more h = refl
put_other kinds.Numeral t more h = refl
put_other kinds.Literal t more h = refl

not_end : (k : TokenKind) → IsOther k → k ≡ kinds.End → ⊥
not_end kinds.Name h e = h
not_end kinds.End h e = h
not_end kinds.Reserved h e = absurd cc
not_end kinds.Sign h e = absurd cc
not_end kinds.Numeral h e = absurd cc
not_end kinds.Literal h e = absurd cc

-- ---- the names of a text

abbrev pub name_of : Entry → Named
name_of e = named e.0 e.1

abbrev pub names_of : List Entry → List Named
names_of [] = []
names_of (e ∷ es) = name_of e ∷ names_of es

names_nil : (es : List Entry) → names_of es ≡ [] → es ≡ []
names_nil [] e = refl
names_nil (x ∷ es) e = absurd cc

first_name : (x : Entry) (es : List Entry) (n : Named) (ns : List Named) → names_of (x ∷ es) ≡ n ∷ ns → (x.0 ≡ n.offset) × (x.1 ≡ n.text) × (names_of es ≡ ns)
first_name x es n ns e =
    let a : name_of x ≡ n = cc in
    let b : names_of es ≡ ns = cc in
    (ap (λ (m : Named). m.offset) a, ap (λ (m : Named). m.text) a, b)

-- a token of the lexer by its kind
abbrev mk : TokenKind → lexed.Token → lexed.Token
mk k t = record { kind = k; text = t.text; place = t.place; offset = t.offset; first_on_line = t.first_on_line }

ends_more : (k : TokenKind) (t : lexed.Token) (more : List lexed.Answer) → IsOther k ⊎ (k ≡ kinds.Name) → EndsOnce (Ok (mk k t) ∷ more) → EndsOnce more
ends_more k t [] (inl o) h = absurd (not_end k o h)
ends_more k t [] (inr n) h = absurd (let e : kinds.Name ≡ kinds.End = sym n ∙ h in cc)
ends_more k t (b ∷ more) o h = h.1

ends_here : (t : lexed.Token) (more : List lexed.Answer) → EndsOnce (Ok (mk kinds.End t) ∷ more) → more ≡ []
ends_here t [] h = refl
ends_here t (b ∷ more) h = absurd (h.0 refl)

plain_named : (k : TokenKind) (t : lexed.Token) → IsOther k → named_by (token_of (mk k t)) ≡ []
plain_named k t o = not_named (token_of (mk k t)) (other_no_name k t.text o)

abbrev MatchesLater : List lexed.Answer → Type 0
MatchesLater more = (fs : List Entry) → EndsOnce more → AllGood (tokens_by more) → names_of fs ≡ all_named (tokens_by more) → Matches fs more

other_matches : (k : TokenKind) (t : lexed.Token) (more : List lexed.Answer) (es : List Entry) → IsOther k → EndsOnce (Ok (mk k t) ∷ more)
    → AllGood (token_of (mk k t) ∷ tokens_by more) → names_of es ≡ all_named (token_of (mk k t) ∷ tokens_by more) → MatchesLater more → Matches es more
other_matches k t more es o ends good e ih =
    ih es (ends_more k t more (inl o) ends) good.1 (e ∙ ap (λ (l : List Named). l ++ all_named (tokens_by more)) (plain_named k t o))

step_matches : (k : TokenKind) (t : lexed.Token) (more : List lexed.Answer) (es : List Entry) → EndsOnce (Ok (mk k t) ∷ more)
    → AllGood (tokens_by (Ok (mk k t) ∷ more)) → names_of es ≡ all_named (tokens_by (Ok (mk k t) ∷ more)) → MatchesLater more
    → MatchesAt k es (mk k t) (λ fs. Matches fs more)
unfolding symbol_of
step_matches kinds.Name t more [] ends good e ih = absurd cc
step_matches kinds.Name t more (x ∷ es) ends good e ih =
    let f = first_name x es (named t.offset t.text) (all_named (tokens_by more)) e in
    (f.0, f.1, ih es (ends_more kinds.Name t more (inr refl) ends) good.1 f.2)
step_matches kinds.Reserved t more es ends good e ih = other_matches kinds.Reserved t more es tt ends good e ih
step_matches kinds.Sign t more es ends good e ih = other_matches kinds.Sign t more es tt ends good e ih
step_matches kinds.Numeral t more es ends good e ih = other_matches kinds.Numeral t more es tt ends good e ih
step_matches kinds.Literal t more es ends good e ih = other_matches kinds.Literal t more es tt ends good e ih
step_matches kinds.End t more es ends good e ih =
    subst (λ (l : List lexed.Answer). Matches es l) (sym (ends_here t more ends)) (names_nil es e)

-- where the names are those of the tokens, and none is refused, they are all names of the text
pub matches_from : (answers : List lexed.Answer) (es : List Entry) → EndsOnce answers → AllGood (tokens_by answers) → names_of es ≡ all_named (tokens_by answers)
    → Matches es answers
matches_from [] es ends good e = absurd ends
matches_from (Err x ∷ more) es ends good e = absurd (true≢false good.0)
matches_from (Ok t ∷ more) es ends good e = step_matches t.kind t more es ends good e (matches_from more)

-- ---- tokens

abbrev pub TextBy : Bool → List Entry → Token → Token → (List Entry → Type 0) → Type 0
TextBy true [] t u go = ⊥
TextBy true (e ∷ es) t u go = (e.0 ≡ t.offset) × (e.1 ≡ t.text) × (u.text ≡ now e) × go es
TextBy false es t u go = (u.text ≡ t.text) × go es

abbrev pub SameTokens : List Entry → List Token → List Token → Type 0
SameTokens es [] [] = es ≡ []
SameTokens es (t ∷ ts) (u ∷ us) =
    (u.symbol ≡ t.symbol) × (u.place ≡ t.place) × (u.first_on_line ≡ t.first_on_line) × TextBy (is_name t) es t u (λ fs. SameTokens fs ts us)
SameTokens es _ _ = ⊥

pub record SameTexts (es : List Entry) (answers others : List lexed.Answer) : Type 0 where
  pub tokens : SameTokens es (tokens_by answers) (tokens_by others)
  pub finish : finish_by others ≡ finish_by answers

abbrev SameLater : List lexed.Answer → List lexed.Answer → Type 0
SameLater more others = (fs : List Entry) → EndsOnce more → Matches fs more → SameAnswers fs more others → SameTexts fs more others

other_same : (k : TokenKind) (t u : lexed.Token) (more others : List lexed.Answer) (es : List Entry) → IsOther k → u.place ≡ t.place
    → u.first_on_line ≡ t.first_on_line → u.text ≡ t.text → SameTexts es more others
    → SameTokens es (token_of (mk k t) ∷ tokens_by more) (token_of (mk k u) ∷ tokens_by others)
other_same k t u more others es o place first text r = (
  ap (symbol_of k) text,
  place,
  first,
  subst (λ (b : Bool). TextBy b es (token_of (mk k t)) (token_of (mk k u)) (λ fs. SameTokens fs (tokens_by more) (tokens_by others)))
      (sym (other_no_name k t.text o)) (text, r.tokens),
)

step_same : (k : TokenKind) (t u : lexed.Token) (more others : List lexed.Answer) (es : List Entry) → u.place ≡ t.place → u.first_on_line ≡ t.first_on_line
    → EndsOnce (Ok (mk k t) ∷ more) → MatchesAt k es (mk k t) (λ fs. Matches fs more)
    → SameText k es (mk k t) (mk k u) (λ fs. SameAnswers fs more others) → SameLater more others
    → SameTexts es (Ok (mk k t) ∷ more) (Ok (mk k u) ∷ others)
unfolding symbol_of
step_same kinds.Name t u more others [] place first ends m s ih = absurd m
step_same kinds.Name t u more others (x ∷ es) place first ends m s ih =
    let r = ih es (ends_more kinds.Name t more (inr refl) ends) m.2 s.1 in
    record { tokens = (refl, place, first, (m.0, m.1, s.0, r.tokens)); finish = r.finish }
step_same kinds.Reserved t u more others es place first ends m s ih =
    let r = ih es (ends_more kinds.Reserved t more (inl tt) ends) m s.1 in
    record { tokens = other_same kinds.Reserved t u more others es tt place first s.0 r; finish = r.finish }
step_same kinds.Sign t u more others es place first ends m s ih =
    let r = ih es (ends_more kinds.Sign t more (inl tt) ends) m s.1 in
    record { tokens = other_same kinds.Sign t u more others es tt place first s.0 r; finish = r.finish }
step_same kinds.Numeral t u more others es place first ends m s ih =
    let r = ih es (ends_more kinds.Numeral t more (inl tt) ends) m s.1 in
    record { tokens = other_same kinds.Numeral t u more others es tt place first s.0 r; finish = r.finish }
step_same kinds.Literal t u more others es place first ends m s ih =
    let r = ih es (ends_more kinds.Literal t more (inl tt) ends) m s.1 in
    record { tokens = other_same kinds.Literal t u more others es tt place first s.0 r; finish = r.finish }
step_same kinds.End t u more others es place first ends m s ih =
    record { tokens = subst (λ (l : List lexed.Answer). Matches es l) (ends_here t more ends) m; finish = place }

pub same_tokens : (answers others : List lexed.Answer) (es : List Entry) → EndsOnce answers → Matches es answers → SameAnswers es answers others
    → SameTexts es answers others
same_tokens [] [] es ends m s = absurd ends
same_tokens [] (x ∷ others) es ends m s = absurd s
same_tokens (Err x ∷ more) others es ends m s = absurd m
same_tokens (Ok t ∷ more) [] es ends m s = absurd s
same_tokens (Ok t ∷ more) (Err x ∷ others) es ends m s = absurd s
same_tokens (Ok t ∷ more) (Ok u ∷ others) es ends m s =
    subst (λ (k : TokenKind). SameTexts es (Ok t ∷ more) (Ok (mk k u) ∷ others)) (sym s.0.0)
    (step_same t.kind t u more others es s.0.1 s.0.2 ends m (same_kind t.kind es s.1) (same_tokens more others))
  where
    same_kind : (k : TokenKind) (es : List Entry) → SameText k es t u (λ fs. SameAnswers fs more others)
        → SameText k es (mk k t) (mk k u) (λ fs. SameAnswers fs more others)
    same_kind kinds.Name [] h = h
    same_kind kinds.Name (x ∷ es) h = h
    same_kind kinds.Reserved es h = h
    same_kind kinds.Sign es h = h
    same_kind kinds.Numeral es h = h
    same_kind kinds.Literal es h = h
    same_kind kinds.End es h = h

-- ---- offsets

abbrev pub Rising : ℕ → List Token → Type 0
Rising o [] = Unit {0}
Rising o (t ∷ ts) = (o ≤ t.offset) × Rising (suc t.offset) ts

step_rising : (k : TokenKind) (t : lexed.Token) (more : List lexed.Answer) (o : ℕ) → o ≤ t.offset → Rising (suc t.offset) (tokens_by more)
    → Rising o (tokens_by (Ok (mk k t) ∷ more))
step_rising kinds.End t more o le h = tt
step_rising kinds.Name t more o le h = (le, h)
step_rising kinds.Reserved t more o le h = (le, h)
step_rising kinds.Sign t more o le h = (le, h)
step_rising kinds.Numeral t more o le h = (le, h)
step_rising kinds.Literal t more o le h = (le, h)

good_tail : (k : TokenKind) (t : lexed.Token) (more : List lexed.Answer) → (k ≡ kinds.End → ⊥) → AllGood (tokens_by (Ok (mk k t) ∷ more)) → AllGood (tokens_by more)
good_tail kinds.End t more n h = absurd (n refl)
good_tail kinds.Name t more n h = h.1
good_tail kinds.Reserved t more n h = h.1
good_tail kinds.Sign t more n h = h.1
good_tail kinds.Numeral t more n h = h.1
good_tail kinds.Literal t more n h = h.1

pub rising : (answers : List lexed.Answer) (es : List Entry) (o : ℕ) → Matches es answers → Ascending o answers → Rising o (tokens_by answers)
rising [] es o m h = tt
rising (Err x ∷ more) es o m h = absurd m
rising (Ok t ∷ more) es o m h = go t.kind es m (λ fs k. rising more fs (suc t.offset) k h.1)
  where
    go : (k : TokenKind) (es : List Entry) → MatchesAt k es t (λ fs. Matches fs more)
        → ((fs : List Entry) → Matches fs more → Rising (suc t.offset) (tokens_by more)) → Rising o (tokens_by (Ok (mk k t) ∷ more))
    go kinds.Name [] m ih = absurd m
    go kinds.Name (x ∷ es) m ih = step_rising kinds.Name t more o h.0 (ih es m.2)
    go kinds.Reserved es m ih = step_rising kinds.Reserved t more o h.0 (ih es m)
    go kinds.Sign es m ih = step_rising kinds.Sign t more o h.0 (ih es m)
    go kinds.Numeral es m ih = step_rising kinds.Numeral t more o h.0 (ih es m)
    go kinds.Literal es m ih = step_rising kinds.Literal t more o h.0 (ih es m)
    go kinds.End es m ih = tt

-- ---- the change that there is

abbrev pub text_for : List Token → List Token → ℕ → List ℕ → List ℕ
text_for (t ∷ ts) (u ∷ us) o text = cond (eqb t.offset o) u.text (text_for ts us o text)
text_for _ _ o text = text

abbrev pub offset_for : List Token → List Token → ℕ → ℕ
offset_for (t ∷ ts) (u ∷ us) o = cond (eqb t.offset o) u.offset (offset_for ts us o)
offset_for _ _ o = o

abbrev pub change_of : List Token → List Token → Change
change_of ts us = record { offset = offset_for ts us; text = text_for ts us }

abbrev same_but : Token → List ℕ → ℕ → Token
same_but t text offset = record { symbol = t.symbol; text = text; place = t.place; offset = offset; first_on_line = t.first_on_line }

later_token : (t u : Token) (ts us : List Token) (v : Token) → t.offset < v.offset
    → changed_token (change_of (t ∷ ts) (u ∷ us)) v ≡ changed_token (change_of ts us) v
later_token t u ts us v lt =
    let no_match : eqb t.offset v.offset ≡ false = ne_eqb t.offset v.offset (λ e. absurd (omega (arith, lt, e))) in
    ap (λ (b : Bool). same_but v (cond (is_name v) (cond b u.text (text_for ts us v.offset v.text)) v.text) (cond b u.offset (offset_for ts us v.offset))) no_match

later_tokens : (t u : Token) (ts us vs : List Token) (o : ℕ) → t.offset < o → Rising o vs
    → changed_tokens (change_of (t ∷ ts) (u ∷ us)) vs ≡ changed_tokens (change_of ts us) vs
later_tokens t u ts us [] o lt h = refl
later_tokens t u ts us (v ∷ vs) o lt h =
    ap (λ (w : Token). w ∷ changed_tokens (change_of (t ∷ ts) (u ∷ us)) vs) (later_token t u ts us v (omega (arith, lt, h.0)))
    ∙ ap (λ (l : List Token). changed_token (change_of ts us) v ∷ l) (later_tokens t u ts us vs (suc v.offset) (omega (arith, lt, h.0)) h.1)

abbrev token_with : Symbol → List ℕ → Place → ℕ → Bool → Token
token_with s text place offset first = record { symbol = s; text = text; place = place; offset = offset; first_on_line = first }

this_token : (t u : Token) (ts us : List Token) (es : List Entry) → u.symbol ≡ t.symbol → u.place ≡ t.place → u.first_on_line ≡ t.first_on_line
    → TextBy (is_name t) es t u (λ fs. SameTokens fs ts us) → changed_token (change_of (t ∷ ts) (u ∷ us)) t ≡ u
this_token t u ts us es symbol place first h =
    ap (λ (b : Bool). same_but t (cond (is_name t) (cond b u.text (text_for ts us t.offset t.text)) t.text) (cond b u.offset (offset_for ts us t.offset))) (eq-eqb t.offset t.offset refl)
    ∙ ap (λ (x : List ℕ). same_but t x u.offset) (text (is_name t) es h)
    ∙ ap (λ (s : Symbol). token_with s u.text t.place u.offset t.first_on_line) (sym symbol)
    ∙ ap (λ (p : Place). token_with u.symbol u.text p u.offset t.first_on_line) (sym place)
    ∙ ap (λ (b : Bool). token_with u.symbol u.text u.place u.offset b) (sym first)
  where
    text : (b : Bool) (es : List Entry) → TextBy b es t u (λ fs. SameTokens fs ts us) → cond b u.text t.text ≡ u.text
    text true es h = refl
    text false es h = sym h.0

pub changed_is : (ts us : List Token) (es : List Entry) (o : ℕ) → SameTokens es ts us → Rising o ts → changed_tokens (change_of ts us) ts ≡ us
changed_is [] [] es o s h = refl
changed_is [] (u ∷ us) es o s h = absurd s
changed_is (t ∷ ts) [] es o s h = absurd s
changed_is (t ∷ ts) (u ∷ us) es o s h =
    ap (λ (w : Token). w ∷ changed_tokens (change_of (t ∷ ts) (u ∷ us)) ts) (this_token t u ts us es s.0 s.1 s.2 s.3)
    ∙ ap (λ (l : List Token). u ∷ l) (later_tokens t u ts us ts (suc t.offset) (omega arith) h.1
    ∙ rest (is_name t) es s.3 (λ fs k. changed_is ts us fs (suc t.offset) k h.1))
  where
    rest : (b : Bool) (es : List Entry) → TextBy b es t u (λ fs. SameTokens fs ts us)
        → ((fs : List Entry) → SameTokens fs ts us → changed_tokens (change_of ts us) ts ≡ us) → changed_tokens (change_of ts us) ts ≡ us
    rest true [] k ih = absurd k
    rest true (e ∷ es) k ih = ih es k.3
    rest false es k ih = ih es k.1

-- what each name is now
abbrev pub AllNow : (ℕ → List ℕ → List ℕ) → List Entry → Type 0
AllNow f [] = Unit {0}
AllNow f (e ∷ es) = (f e.0 e.1 ≡ now e) × AllNow f es

abbrev AllFrom : ℕ → List Entry → Type 0
AllFrom o [] = Unit {0}
AllFrom o (e ∷ es) = (o ≤ e.0) × AllFrom o es

all_from : (o o' : ℕ) (es : List Entry) → o ≤ o' → AllFrom o' es → AllFrom o es
all_from o o' [] le h = tt
all_from o o' (e ∷ es) le h = (omega (arith, le, h.0), all_from o o' es le h.1)

still_now : (t u : Token) (ts us : List Token) (es : List Entry) → AllFrom (suc t.offset) es → AllNow (text_for ts us) es → AllNow (text_for (t ∷ ts) (u ∷ us)) es
still_now t u ts us [] a h = tt
still_now t u ts us (e ∷ es) a h =
    let no_match : eqb t.offset e.0 ≡ false = ne_eqb t.offset e.0 (λ k. absurd (omega (arith, a.0, k))) in
    (ap (λ (b : Bool). cond b u.text (text_for ts us e.0 e.1)) no_match ∙ h.0, still_now t u ts us es a.1 h.1)

pub record Nows (ts us : List Token) (o : ℕ) (es : List Entry) : Type 0 where
  pub all : AllNow (text_for ts us) es
  pub far : AllFrom o es

pub all_now : (ts us : List Token) (es : List Entry) (o : ℕ) → SameTokens es ts us → Rising o ts → Nows ts us o es
all_now [] [] es o s h = subst (λ (l : List Entry). Nows [] [] o l) (sym s) (record { all = tt; far = tt })
all_now [] (u ∷ us) es o s h = absurd s
all_now (t ∷ ts) [] es o s h = absurd s
all_now (t ∷ ts) (u ∷ us) es o s h = go (is_name t) es s.3 (λ fs k. all_now ts us fs (suc t.offset) k h.1)
  where
    go : (b : Bool) (es : List Entry) → TextBy b es t u (λ fs. SameTokens fs ts us)
        → ((fs : List Entry) → SameTokens fs ts us → Nows ts us (suc t.offset) fs) → Nows (t ∷ ts) (u ∷ us) o es
    go true [] k ih = absurd k
    go true (e ∷ es) k ih =
        let n = ih es k.3 in
        record {
          all = (ap (λ (b : Bool). cond b u.text (text_for ts us e.0 e.1)) (eq-eqb t.offset e.0 (sym k.0)) ∙ k.2, still_now t u ts us es n.far n.all);
          far = (omega (arith, k.0, h.0), all_from o (suc t.offset) es (omega (arith, h.0)) n.far);
        }
    go false es k ih =
        let n = ih es k.1 in
        record { all = still_now t u ts us es n.far n.all; far = all_from o (suc t.offset) es (omega (arith, h.0)) n.far }
