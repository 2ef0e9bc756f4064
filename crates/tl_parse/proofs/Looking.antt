-- One token ahead of the tokens before a lexer.
use Rattle.std.proofs.Common.{◌≡◌, ℕ, Bool, true, false, cond, eqb, List, [], ◌∷◌, Some, Result, Ok, Err, refl, sym, ap, subst, ◌∙◌}
use Rattle.std.specs.Prelude.{◌||◌, ◌&&◌, not, slice_get, map, bytes_eq, codes}
use Rattle.tl_base.specs.declared.place.Place.{Place}
use Rattle.tl_lex.specs.declared.TokenKind.{TokenKind}
use Rattle.tl_lex.specs.declared.TokenKind.TheVariants as kinds
use Rattle.tl_lex.specs.declared.LexError.{LexError}
use Rattle.tl_lex.specs.declared.token.Token as lexed
use Rattle.tl_lex.specs.declared.lexer.Lexer as lexers
use Rattle.tl_lex.specs.Answers.{Answer, answers_of}
use Rattle.tl_lex.specs.Answers as answers
use Rattle.tl_lex.specs.Lexing.{answers_left, answer_of, behind_first}
use Rattle.tl_lex.specs.Lexing as lexing
use Rattle.tl_lex.specs.Laws.{EndsOnce, IsToken, IsLast}
use Rattle.tl_lex.proofs.LawLemmas.{ends_left}
use Rattle.tl_tree.specs.declared.symbol.Symbol.{Symbol}
use Rattle.tl_tree.specs.declared.symbol.Symbol.TheVariants as symbols
use Rattle.tl_tree.specs.Symbols.{number_of, is_bad, has, spelling, written, words, signs, last_bytes, symbol_of}
use Rattle.tl_tree.specs.Tokens as tokens
use Rattle.tl_tree.specs.Tokens.{Token, among, is, tokens_in, place_of}
use Rattle.tl_tree.specs.Grammar.{begins, is_of, blame}
use Rattle.tl_tree.specs.Nodes.{item_of}
use Rattle.tl_parse.specs.Views.Parsing.{token_of, with_token, unless_bad, tokens_left, end_of, items_of, blame_of, HasNext}
use Rattle.tl_tree.specs.declared.mode.Mode.{Mode}
use Rattle.tl_tree.specs.declared.mode.Mode.TheVariants as modes
use Rattle.tl_tree.specs.LuaExpressions.{is_suffix, suffix_symbols, may_continue, is_varargs}
use Rattle.tl_parse.specs.Views.Expressions.{is_types, is_variadic}
use Rattle.tl_parse.specs.Views.Parsing.{with_token_by}
use Rattle.tl_parse.specs.Views.Looking.{IsNext, Advanced, BeginsAt}
use Rattle.tl_parse.specs.Views.Using.{is_end, symbol_at}
use Rattle.tl_parse.specs.declared.parser.Parser.{Parser}
use Rattle.tl_parse.specs.declared.parser.Next as code
use Rattle.tl_parse.specs.declared.error.SyntaxError.TheVariants as errors
use Rattle.tl_lex.specs.declared.SyntaxKind.TheVariants as why

-- ---- no token of the lexer is bad

pick : (b : Bool) (x y : Symbol) → is_bad x ≡ false → is_bad y ≡ false → is_bad (cond b x y) ≡ false
pick true x y p q = p
pick false x y p q = q

or_left : (a b : Bool) → (a || b) ≡ false → a ≡ false
or_left true b h = absurd cc
or_left false b h = refl

or_right : (a b : Bool) → (a || b) ≡ false → b ≡ false
or_right true b h = absurd cc
or_right false b h = h

or_false : (b : Bool) → (b || false) ≡ b
or_false true = refl
or_false false = refl

not_bad-number : (s : Symbol) → eqb (number_of s) 65 ≡ false → is_bad s ≡ false
not_bad-number (symbols.Bad why) h = absurd cc
not_bad-number _ h = refl

number-bad : (s : Symbol) → is_bad s ≡ true → number_of s ≡ 65
number-bad (symbols.Bad why) h = refl
number-bad _ h = absurd cc

number-not_bad : (s : Symbol) → is_bad s ≡ false → eqb (number_of s) 65 ≡ false
number-not_bad (symbols.Bad why) h = absurd cc
number-not_bad _ h = refl

not_bad-written : (ss : List Symbol) (text : List ℕ) → has ss 65 ≡ false → is_bad (written ss text) ≡ false
not_bad-written [] text h = refl
not_bad-written (s ∷ ss) text h =
    pick (bytes_eq text (spelling s)) s (written ss text) (not_bad-number s (or_left (eqb (number_of s) 65) (has ss 65) h)) (not_bad-written ss text (or_right (eqb (number_of s) 65) (has ss 65) h))

not_bad : (kind : TokenKind) (text : List ℕ) → is_bad (symbol_of kind text) ≡ false
unfolding symbol_of
not_bad kinds.Name text = refl
not_bad kinds.Reserved text = not_bad-written words text refl
not_bad kinds.Sign text = not_bad-written signs text refl
not_bad kinds.Numeral text = pick (bytes_eq (last_bytes 3 text) (codes "ULL")) symbols.UnsignedNumeral _ refl (pick (bytes_eq (last_bytes 2 text) (codes "LL")) symbols.LongNumeral symbols.Numeral refl refl)
not_bad kinds.Literal text = refl
not_bad kinds.End text = refl

-- ---- the first answer

pub record Looked (xs : List Answer) (next : code.Next) : Type 0 where
  pub tokens : (tokens_in xs).tokens ≡ with_token next.is_end (token_of next) (tokens_in (behind_first xs)).tokens
  pub finish : (tokens_in (behind_first xs)).finish ≡ (tokens_in xs).finish
  pub place : next.is_end ≡ true → next.place ≡ (tokens_in xs).finish

at_end : (k : TokenKind) (t : answers.Token) (x : tokens.Tokens) → k ≡ kinds.End → tokens.put_answer k t x ≡ record { tokens = []; finish = t.place }
at_end kinds.End t x h = refl
at_end _ t x h = absurd cc

not_at_end : (k : TokenKind) (t : answers.Token) (x : tokens.Tokens) → (k ≡ kinds.End → ⊥) → tokens.put_answer k t x ≡ tokens.put_first (tokens.token_of t) x
not_at_end kinds.End t x h = absurd (h refl)
not_at_end _ t x h = refl

ends : (k : TokenKind) → k ≡ kinds.End → is_end k ≡ true
ends kinds.End h = refl
ends _ h = absurd cc

goes_on : (k : TokenKind) → (k ≡ kinds.End → ⊥) → is_end k ≡ false
goes_on kinds.End h = absurd (h refl)
goes_on _ h = refl

last_ok : (t : answers.Token) (next : code.Next) → t.kind ≡ kinds.End → token_of next ≡ tokens.token_of t → next.is_end ≡ is_end t.kind → Looked (Ok t ∷ []) next
last_ok t next k same e =
    let here : tokens_in (Ok t ∷ []) ≡ record { tokens = []; finish = t.place } = at_end t.kind t (tokens_in []) k in
    let true-end : next.is_end ≡ true = e ∙ ends t.kind k in
    record {
      tokens = ap (λ (x : tokens.Tokens). x.tokens) here ∙ sym (ap (λ (b : Bool). with_token b (token_of next) (tokens_in (Ok t ∷ [])).tokens) true-end);
      finish = refl;
      place = λ h. ap (λ (x : Token). x.place) same ∙ sym (ap (λ (x : tokens.Tokens). x.finish) here);
    }

last_err : (e : LexError) (next : code.Next) → token_of next ≡ tokens.bad_token e → next.is_end ≡ false → Looked (Err e ∷ []) next
last_err e next same none =
    record {
      tokens = sym (ap (λ (b : Bool). with_token b (token_of next) (tokens_in (Err e ∷ [])).tokens) none ∙ ap (λ (x : Token). unless_bad (is_bad x.symbol) x (tokens_in (Err e ∷ [])).tokens) same);
      finish = refl;
      place = λ h. absurd (let c : false ≡ true = sym none ∙ h in cc);
    }

first_ok : (t : answers.Token) (b : Answer) (more : List Answer) (next : code.Next) → (t.kind ≡ kinds.End → ⊥) → EndsOnce (b ∷ more) → token_of next ≡ tokens.token_of t → next.is_end ≡ is_end t.kind → Looked (Ok t ∷ b ∷ more) next
first_ok t b more next k once same e =
    let here : tokens_in (Ok t ∷ b ∷ more) ≡ tokens.put_first (tokens.token_of t) (tokens_in (b ∷ more)) = not_at_end t.kind t (tokens_in (b ∷ more)) k in
    let none : next.is_end ≡ false = e ∙ goes_on t.kind k in
    let rest : List Token = (tokens_in (b ∷ more)).tokens in
    record {
      tokens = ap (λ (x : tokens.Tokens). x.tokens) here
          ∙ sym (ap (λ (c : Bool). with_token c (token_of next) rest) none ∙ ap (λ (x : Token). unless_bad (is_bad x.symbol) x rest) same ∙ ap (λ (c : Bool). unless_bad c (tokens.token_of t) rest) (not_bad t.kind t.text));
      finish = sym (ap (λ (x : tokens.Tokens). x.finish) here);
      place = λ h. absurd (let c : false ≡ true = sym none ∙ h in cc);
    }

pub looked : (xs : List Answer) (r : Result lexed.Token LexError) (next : code.Next) → EndsOnce xs → slice_get xs 0 ≡ Some (answer_of r) → IsNext r next → Looked xs next
looked [] r next once e is = absurd once
looked (a ∷ []) (Ok u) next once e is =
    let same : Ok (lexing.token_of u) ≡ a = cc in
    subst (λ (x : Answer). Looked (x ∷ []) next) same (last_ok (lexing.token_of u) next (subst (λ (x : Answer). IsLast x) (sym same) once) is.0 is.1)
looked (a ∷ []) (Err u) next once e is =
    let same : Err u ≡ a = cc in
    subst (λ (x : Answer). Looked (x ∷ []) next) same (last_err u next is.0 is.1)
looked (a ∷ b ∷ more) (Ok u) next once e is =
    let same : Ok (lexing.token_of u) ≡ a = cc in
    subst (λ (x : Answer). Looked (x ∷ b ∷ more) next) same (first_ok (lexing.token_of u) b more next (subst (λ (x : Answer). IsToken x) (sym same) once.0) once.1 is.0 is.1)
looked (a ∷ b ∷ more) (Err u) next once e is =
    let same : Err u ≡ a = cc in absurd (subst (λ (x : Answer). IsToken x) (sym same) once.0)

-- behind an answer, where that was the end, the end is where the text ends
pub ends_there : (before after : lexers.Lexer) (r : Result lexed.Token LexError) (next : code.Next) → slice_get (answers_left before) 0 ≡ Some (answer_of r) → answers_left after ≡ behind_first (answers_left before) → IsNext r next → next.is_end ≡ true → next.place ≡ (tokens_in (answers_left after)).finish
ends_there before after r next first rest is h =
    let l : Looked (answers_left before) next = looked (answers_left before) r next (ends_left before) first is in
    l.place h ∙ sym (ap (λ (x : List Answer). (tokens_in x).finish) rest ∙ l.finish)

-- the parser at the beginning
pub begins_at : (text : List ℕ) (before : lexers.Lexer) (p : Parser) (r : Result lexed.Token LexError) → answers_left before ≡ answers_of text → slice_get (answers_left before) 0 ≡ Some (answer_of r) → answers_left p.lexer ≡ behind_first (answers_left before) → IsNext r p.current → p.nodes.items ≡ [] → BeginsAt text p
unfolding tokens_left end_of items_of
begins_at text before p r same first rest is none =
    let l : Looked (answers_left before) p.current = looked (answers_left before) r p.current (ends_left before) first is in
    record {
      tokens = ap (λ (x : List Answer). with_token p.current.is_end (token_of p.current) (tokens_in x).tokens) rest ∙ sym l.tokens ∙ ap (λ (x : List Answer). (tokens_in x).tokens) same;
      finish = ap (λ (x : List Answer). (tokens_in x).finish) rest ∙ l.finish ∙ ap (λ (x : List Answer). (tokens_in x).finish) same;
      items = ap (λ (x : _). map item_of x) none;
    }

has_next : (e b : Bool) (t : Token) (ts : List Token) → b ≡ is_bad t.symbol → HasNext (with_token e t ts) → with_token e t ts ≡ t ∷ ts
has_next true b t ts s h = absurd h
has_next false b t ts s h = go b s (is_bad t.symbol) refl h
  where
    go : (b : Bool) → b ≡ is_bad t.symbol → (c : Bool) → c ≡ is_bad t.symbol → HasNext (unless_bad c t ts) → unless_bad (is_bad t.symbol) t ts ≡ t ∷ ts
    go b s true g h = let c : true ≡ false = g ∙ h in absurd cc
    go b s false g h = ap (λ (x : Bool). unless_bad x t ts) (sym g)

-- the next token is taken
pub advanced : (old new : Parser) (t : code.Next) (r : Result lexed.Token LexError) → HasNext (tokens_left old) → slice_get (answers_left old.lexer) 0 ≡ Some (answer_of r) → answers_left new.lexer ≡ behind_first (answers_left old.lexer) → IsNext r new.current → t ≡ old.current → new.nodes ≡ old.nodes → Advanced old new t
unfolding tokens_left end_of items_of
advanced old new t r next first rest is same nodes =
    let l : Looked (answers_left old.lexer) new.current = looked (answers_left old.lexer) r new.current (ends_left old.lexer) first is in
    let ts : List Token = (tokens_in (answers_left old.lexer)).tokens in
    let new-ts : ts ≡ tokens_left new = l.tokens ∙ sym (ap (λ (x : List Answer). with_token new.current.is_end (token_of new.current) (tokens_in x).tokens) rest) in
    record {
      tokens = has_next old.current.is_end (is_bad old.current.symbol) (token_of old.current) ts refl next ∙ ap (λ (x : List Token). token_of old.current ∷ x) new-ts ∙ ap (λ (x : code.Next). token_of x ∷ tokens_left new) (sym same);
      finish = ap (λ (x : List Answer). (tokens_in x).finish) rest ∙ l.finish;
      items = ap (λ (x : _). map item_of x.items) nodes;
    }

-- ---- tests of the next token

begins-unless_bad : (class : Token → Bool) (b : Bool) (t : Token) (ts : List Token) → begins class (unless_bad b t ts) ≡ is_of class t
begins-unless_bad class true t ts = refl
begins-unless_bad class false t ts = refl

is_so : (s u : Symbol) (b : Bool) → is_bad s ≡ false → is_bad u ≡ b → eqb (number_of s) (number_of u) ≡ cond b false (eqb (number_of s) (number_of u) || false)
is_so s u true h e = ap (λ (n : ℕ). eqb (number_of s) n) (number-bad u e) ∙ number-not_bad s h
is_so s u false h e = sym (or_false (eqb (number_of s) (number_of u)))

is_among : (ss : List Symbol) (u : Symbol) (b : Bool) → has ss 65 ≡ false → is_bad u ≡ b → has ss (number_of u) ≡ cond b false (has ss (number_of u))
is_among ss u true h e = ap (λ (n : ℕ). has ss n) (number-bad u e) ∙ h
is_among ss u false h e = refl

pub next_is_so : (s : Symbol) (t : Token) (ts : List Token) → is_bad s ≡ false → eqb (number_of s) (number_of t.symbol) ≡ begins (is s) (with_token false t ts)
next_is_so s t ts h = is_so s t.symbol (is_bad t.symbol) h refl ∙ sym (begins-unless_bad (is s) (is_bad t.symbol) t ts)

pub next_is_among : (ss : List Symbol) (t : Token) (ts : List Token) → has ss 65 ≡ false → has ss (number_of t.symbol) ≡ begins (among ss) (with_token false t ts)
next_is_among ss t ts h = is_among ss t.symbol (is_bad t.symbol) h refl ∙ sym (begins-unless_bad (among ss) (is_bad t.symbol) t ts)

-- the same of the parser's next token
pub next_is_there : (s : Symbol) (p : Parser) (n k : ℕ) → is_bad s ≡ false → p.current.is_end ≡ false → n ≡ number_of s → k ≡ number_of p.current.symbol → eqb n k ≡ begins (is s) (tokens_left p)
unfolding tokens_left
next_is_there s p n k good more first second =
    ap (λ (x : ℕ). eqb x k) first ∙ ap (λ (x : ℕ). eqb (number_of s) x) second ∙ next_is_so s (token_of p.current) (tokens_in (answers_left p.lexer)).tokens good
    ∙ ap (λ (e : Bool). begins (is s) (with_token e (token_of p.current) (tokens_in (answers_left p.lexer)).tokens)) (sym more)

pub some_left : (t : Token) (ts : List Token) → with_token false t ts ≡ [] → ⊥
some_left t ts h = go (is_bad t.symbol) h
  where
    go : (b : Bool) → unless_bad b t ts ≡ [] → ⊥
    go true h = cc
    go false h = cc

pub blames : (finish : Place) (t : Token) (ts : List Token) → (blame_of (with_token false t ts) ≡ blame t.symbol) × (place_of (with_token false t ts) finish ≡ t.place)
blames finish t ts = go (is_bad t.symbol)
  where
    go : (b : Bool) → (blame_of (unless_bad b t ts) ≡ blame t.symbol) × (place_of (unless_bad b t ts) finish ≡ t.place)
    go true = (refl, refl)
    go false = (refl, refl)

-- ---- tests of classes that depend on the mode

and_swap : (a b : Bool) → (a && b) ≡ (b && a)
and_swap true true = refl
and_swap true false = refl
and_swap false true = refl
and_swap false false = refl

and_true : (a : Bool) → (a && true) ≡ a
and_true true = refl
and_true false = refl

ends_so : (m : Mode) → false ≡ (not (is_types m && false) && false)
ends_so modes.Types = refl
ends_so _ = refl

pub begins_suffix : (p : Parser) (m : Mode) → begins (λ t. is_suffix m t) (tokens_left p) ≡ (not (is_types m && (begins (is symbols.OpenBracket) (tokens_left p) && p.current.first_on_line)) && begins (among suffix_symbols) (tokens_left p))
unfolding tokens_left
begins_suffix p m = go p.current.is_end (is_bad p.current.symbol)
  where
    ts : List Token
    ts = (tokens_in (answers_left p.lexer)).tokens

    may_continue-is : (m : Mode) (t : Token) (b : Bool) → cond b false (among suffix_symbols t && may_continue m t) ≡ (not (is_types m && (cond b false (is symbols.OpenBracket t) && t.first_on_line)) && cond b false (among suffix_symbols t))
    may_continue-is modes.Types t true = refl
    may_continue-is modes.Types t false = and_swap (among suffix_symbols t) (not (is symbols.OpenBracket t && t.first_on_line))
    may_continue-is modes.Plain t true = refl
    may_continue-is modes.Plain t false = and_true (among suffix_symbols t)
    may_continue-is modes.Variadic t true = refl
    may_continue-is modes.Variadic t false = and_true (among suffix_symbols t)

    go : (e b : Bool) → begins (λ t. is_suffix m t) (with_token_by e b (token_of p.current) ts) ≡ (not (is_types m && (begins (is symbols.OpenBracket) (with_token_by e b (token_of p.current) ts) && p.current.first_on_line)) && begins (among suffix_symbols) (with_token_by e b (token_of p.current) ts))
    go true b = ends_so m
    go false true = may_continue-is m (token_of p.current) (is_bad p.current.symbol)
    go false false = may_continue-is m (token_of p.current) (is_bad p.current.symbol)

suffix_by : (x y : Bool) (b : Bool) → b ≡ (not x && y) → (x ≡ true → false ≡ b) × (x ≡ false → y ≡ b)
suffix_by true y b e = (λ h. sym e, λ h. absurd cc)
suffix_by false y b e = (λ h. absurd cc, λ h. sym e)

pub barred_suffix : (p : Parser) (m : Mode) → (is_types m && (begins (is symbols.OpenBracket) (tokens_left p) && p.current.first_on_line)) ≡ true → false ≡ begins (λ t. is_suffix m t) (tokens_left p)
barred_suffix p m h = (suffix_by (is_types m && (begins (is symbols.OpenBracket) (tokens_left p) && p.current.first_on_line)) (begins (among suffix_symbols) (tokens_left p)) (begins (λ t. is_suffix m t) (tokens_left p)) (begins_suffix p m)).0 h

pub free_suffix : (p : Parser) (m : Mode) → (is_types m && (begins (is symbols.OpenBracket) (tokens_left p) && p.current.first_on_line)) ≡ false → begins (among suffix_symbols) (tokens_left p) ≡ begins (λ t. is_suffix m t) (tokens_left p)
free_suffix p m h = (suffix_by (is_types m && (begins (is symbols.OpenBracket) (tokens_left p) && p.current.first_on_line)) (begins (among suffix_symbols) (tokens_left p)) (begins (λ t. is_suffix m t) (tokens_left p)) (begins_suffix p m)).1 h

pub begins_varargs : (m : Mode) (ts : List Token) → begins (λ t. is_varargs m t) ts ≡ (is_variadic m && begins (is symbols.Ellipsis) ts)
begins_varargs modes.Variadic ts = refl
begins_varargs _ ts = never ts
  where
    never : (ts : List Token) → begins (λ t. false) ts ≡ false
    never [] = refl
    never (t ∷ ts) = go (is_bad t.symbol)
      where
        go : (b : Bool) → cond b false false ≡ false
        go true = refl
        go false = refl

-- ---- the symbol of the next token

pub next_symbol_end : (p : Parser) → p.current.is_end ≡ true → symbols.Finish ≡ symbol_at (tokens_left p)
unfolding tokens_left
next_symbol_end p h = sym (ap (λ (e : Bool). symbol_at (with_token_by e (is_bad p.current.symbol) (token_of p.current) (tokens_in (answers_left p.lexer)).tokens)) h)

pub next_symbol_more : (p : Parser) → p.current.is_end ≡ false → p.current.symbol ≡ symbol_at (tokens_left p)
unfolding tokens_left
next_symbol_more p h = sym (ap (λ (e : Bool). symbol_at (with_token_by e (is_bad p.current.symbol) (token_of p.current) (tokens_in (answers_left p.lexer)).tokens)) h ∙ go (is_bad p.current.symbol))
  where
    go : (b : Bool) → symbol_at (with_token_by false b (token_of p.current) (tokens_in (answers_left p.lexer)).tokens) ≡ p.current.symbol
    go true = refl
    go false = refl

pub ruleset next_symbol = (next_symbol_end, next_symbol_more)

-- the refusal of the end
pub end_blame : (p : Parser) → p.current.is_end ≡ true → errors.Refused why.Unexpected p.current.place ≡ errors.Refused (blame_of (tokens_left p)) (place_of (tokens_left p) (end_of p))
unfolding tokens_left end_of lexing.answers_from
end_blame p h =
    ap (λ (x : Place). errors.Refused why.Unexpected x) (p.ends h)
    ∙ sym (ap (λ (e : Bool). errors.Refused (blame_of (with_token e (token_of p.current) (tokens_in (answers_left p.lexer)).tokens)) (place_of (with_token e (token_of p.current) (tokens_in (answers_left p.lexer)).tokens) (tokens_in (answers_left p.lexer)).finish)) h)

-- where no token is left, the parser is at the end
pub finish_is : (p : Parser) → tokens_left p ≡ [] → p.current.place ≡ end_of p
unfolding tokens_left end_of lexing.answers_from
finish_is p h = go p.current.is_end (is_bad p.current.symbol) p.ends h
  where
    go : (e b : Bool) → (e ≡ true → p.current.place ≡ end_of p) → with_token_by e b (token_of p.current) (tokens_in (answers_left p.lexer)).tokens ≡ [] → p.current.place ≡ end_of p
    go true b r h = r refl
    go false true r h = absurd cc
    go false false r h = absurd cc

pub ruleset suffixes = (barred_suffix, free_suffix)
