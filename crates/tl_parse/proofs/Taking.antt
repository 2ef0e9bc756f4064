-- Uses of single tokens.
use Rattle.std.proofs.Common.{◌≡◌, ℕ, zero, suc, ◌-◌, ◌<◌, Bool, true, false, cond, List, [], ◌∷◌, ◌++◌, Option, Some, None, refl, sym, ap, subst}
use Rattle.std.proofs.Common.{◌∙◌, arith}
use Rattle.std.specs.Prelude.{if◌then◌else◌, ◌||◌, ◌&&◌}
use Rattle.std.proofs.Math.Dec.{eqb-suc-zero}
use Rattle.tl_lex.specs.declared.SyntaxKind.{SyntaxKind}
use Rattle.tl_lex.specs.declared.SyntaxKind.TheVariants as why
use Rattle.tl_tree.specs.declared.mode.TokenUse.{TokenUse}
use Rattle.tl_tree.specs.declared.mode.TokenUse.TheVariants.{Plain, Continues, Calls, LuaNumber, TerraNumber}
use Rattle.tl_tree.specs.Tokens.{Token, place_of}
use Rattle.std.specs.Prelude.{◌==◌}
use Rattle.tl_lex.specs.Lexing.{answers_left}
use Rattle.tl_tree.specs.Symbols.{is_bad}
use Rattle.tl_tree.specs.Tokens.{tokens_in}
use Rattle.tl_tree.specs.Tree.{FunctionBody}
use Rattle.tl_tree.specs.Grammar.{Outcome, Took, Stop, begins, is_of, blame, unless, is_none_left, opens_too_deep, down}
use Rattle.tl_base.specs.declared.place.Place.{Place}
use Rattle.tl_base.specs.declared.ids.NodeId.{NodeId}
use Rattle.tl_tree.specs.Item.{Item}
use Rattle.tl_tree.specs.Nodes.{item_of}
use Rattle.tl_tree.specs.declared.node.Node.{Node}
use Rattle.tl_parse.specs.Views.Parsing.{token_of, with_token_by, tokens_left, end_of, blame_of, Refuses, Stops, Fails, HasNext, TookToken, TookPlace}
use Rattle.tl_parse.specs.Views.Parsing.{placed, Pushed, Closed}
use Rattle.tl_parse.specs.Views.Looking.{Advanced}
use Rattle.tl_parse.specs.Views.Using.{barred, used, is_number}
use Rattle.tl_parse.specs.Views.Taking.{barred_next, Uses, Barred}
use Rattle.tl_parse.specs.Views.Using.{bar_of}
use Rattle.tl_parse.specs.declared.error.SyntaxError.{SyntaxError}
use Rattle.tl_parse.specs.declared.error.SyntaxError.TheVariants as errors
use Rattle.tl_parse.specs.declared.parser.Parser.{Parser}
use Rattle.tl_parse.specs.declared.parser.Next as code
use Rattle.tl_parse.proofs.Failing.{fails_after, fails_bind}

used_took : (class : Token → Bool) (opens : Bool) (levels : ℕ) (usage : TokenUse) (t : Token) (ts : List Token) → is_of class t ≡ true → barred opens levels usage t ≡ None → used class opens levels usage (t ∷ ts) ≡ Took t ts
unfolding used
used_took class opens levels usage t ts h b =
    ap (λ (c : Bool). cond c (unless (barred opens levels usage t) (t ∷ ts) (Took t ts)) (Stop (blame t.symbol) (t ∷ ts))) h ∙ ap (λ (o : Option SyntaxKind). unless o (t ∷ ts) (Took t ts)) b

used_stops : (class : Token → Bool) (opens : Bool) (levels : ℕ) (usage : TokenUse) (t : Token) (ts : List Token) (kind : SyntaxKind) → is_of class t ≡ true → barred opens levels usage t ≡ Some kind → used class opens levels usage (t ∷ ts) ≡ Stop kind (t ∷ ts)
unfolding used
used_stops class opens levels usage t ts kind h b =
    ap (λ (c : Bool). cond c (unless (barred opens levels usage t) (t ∷ ts) (Took t ts)) (Stop (blame t.symbol) (t ∷ ts))) h ∙ ap (λ (o : Option SyntaxKind). unless o (t ∷ ts) (Took t ts)) b

pub takes : (opens : Bool) (levels : ℕ) (usage : TokenUse) (old new : Parser) (t : code.Next) → Advanced old new t → barred_next opens levels usage (tokens_left old) ≡ None → Uses opens levels usage old new t
takes opens levels usage old new t a b =
    record {
      allowed = b;
      took = λ class h.
          ap (λ (x : List Token). used class opens levels usage x) a.tokens
          ∙ used_took class opens levels usage (token_of t) (tokens_left new) (subst (λ (x : List Token). begins class x ≡ true) a.tokens h) (subst (λ (x : List Token). barred_next opens levels usage x ≡ None) a.tokens b);
      finish = a.finish;
      items = a.items;
    }

stops_at : (p : Parser) (class : Token → Bool) (opens : Bool) (levels : ℕ) (usage : TokenUse) (kind : SyntaxKind) (ts : List Token) → tokens_left p ≡ ts → barred_next opens levels usage ts ≡ Some kind → begins class ts ≡ true → Stops p (used class opens levels usage (tokens_left p)) kind (place_of (tokens_left p) (end_of p))
stops_at p class opens levels usage kind [] e b h = absurd cc
stops_at p class opens levels usage kind (t ∷ ts) e b h =
    record {
      left = t ∷ ts;
      stops = ap (λ (x : List Token). used class opens levels usage x) e ∙ used_stops class opens levels usage t ts kind h b;
      at = ap (λ (x : List Token). place_of x (end_of p)) e;
    }

pub bars : (opens : Bool) (levels : ℕ) (usage : TokenUse) (old : Parser) (kind : SyntaxKind) (e : SyntaxError) → e ≡ errors.Refused kind (place_of (tokens_left old) (end_of old)) → barred_next opens levels usage (tokens_left old) ≡ Some kind → Barred opens levels usage old e
bars opens levels usage old kind e same b =
    record {
      fails = λ class h.
          subst (λ (x : SyntaxError). Fails old (used class opens levels usage (tokens_left old)) x) (sym same)
          (record { where_it_does = stops_at old class opens levels usage kind (tokens_left old) refl b h });
    }

-- ---- what the limits say

not_zero : (n : ℕ) → (suc n == 0) ≡ false
not_zero n = eqb-suc-zero n

deep_is : (opens : Bool) (levels : ℕ) → opens_too_deep (if opens then Some FunctionBody else None) levels ≡ (opens && (levels == 0))
deep_is true zero = refl
deep_is true (suc n) = sym (not_zero n)
deep_is false levels = refl

pub barred_is : (opens : Bool) (levels : ℕ) (usage : TokenUse) (t : Token) → is_number usage ≡ false → barred opens levels usage t ≡ bar_of opens levels usage t.first_on_line
barred_is opens levels Plain t n = ap (λ (b : Bool). cond (b || false) (Some why.TooDeep) None) (deep_is opens levels)
barred_is opens levels (Continues links) t n = ap (λ (b : Bool). cond (b || is_none_left links) (Some why.TooDeep) None) (deep_is opens levels)
barred_is opens levels (Calls links) t n = ap (λ (b : Bool). cond (b || is_none_left links) (Some why.TooDeep) (cond t.first_on_line (Some why.Ambiguous) None)) (deep_is opens levels)
barred_is opens levels _ t n = absurd cc

pub barred_next_is : (p : Parser) (opens : Bool) (levels : ℕ) (usage : TokenUse) → HasNext (tokens_left p) → is_number usage ≡ false → barred_next opens levels usage (tokens_left p) ≡ bar_of opens levels usage p.current.first_on_line
unfolding tokens_left
barred_next_is p opens levels usage h n = go p.current.is_end (is_bad p.current.symbol) h
  where
    go : (e b : Bool) → HasNext (with_token_by e b (token_of p.current) (tokens_in (answers_left p.lexer)).tokens) → barred_next opens levels usage (with_token_by e b (token_of p.current) (tokens_in (answers_left p.lexer)).tokens) ≡ bar_of opens levels usage p.current.first_on_line
    go true b h = absurd h
    go false true h = barred_is opens levels usage (token_of p.current) n
    go false false h = barred_is opens levels usage (token_of p.current) n

-- where the next token is
pub next_place : (p : Parser) → HasNext (tokens_left p) → p.current.place ≡ place_of (tokens_left p) (end_of p)
unfolding tokens_left
next_place p h = go p.current.is_end (is_bad p.current.symbol) h
  where
    go : (e b : Bool) → HasNext (with_token_by e b (token_of p.current) (tokens_in (answers_left p.lexer)).tokens) → p.current.place ≡ place_of (with_token_by e b (token_of p.current) (tokens_in (answers_left p.lexer)).tokens) (end_of p)
    go true b h = absurd h
    go false true h = refl
    go false false h = refl

-- ---- tokens with a symbol

sound_next : (class : Token → Bool) (ts : List Token) → begins class ts ≡ true → HasNext ts
sound_next class [] h = absurd cc
sound_next class (t ∷ ts) h = good (is_bad t.symbol) refl h
  where
    good : (b : Bool) → b ≡ is_bad t.symbol → cond b false (class t) ≡ true → is_bad t.symbol ≡ false
    good true e h = absurd cc
    good false e h = sym e

-- a token that begins a class breaks no rule of tokens
pub next_of : (class : Token → Bool) (ts : List Token) → begins class ts ≡ true → HasNext ts
next_of class ts h = sound_next class ts h

-- the token is taken where the grammar takes it
pub taken : (class : Token → Bool) (opens : Bool) (levels : ℕ) (usage : TokenUse) (old new : Parser) (t : code.Next) → begins class (tokens_left old) ≡ true → Uses opens levels usage old new t → TookToken old new (used class opens levels usage (tokens_left old)) t
taken class opens levels usage old new t h u = record { took = u.took class h; finish = u.finish; items = u.items }

-- where a token is taken, its place is
pub place_taken : (old new : Parser) (o : Outcome Token) (t : code.Next) → TookToken old new o t → TookPlace old new o t.place
place_taken old new o t k = record { token = token_of t; took = k.took; finish = k.finish; items = k.items }

-- where a token is taken and a node is pushed
pub closed : (old mid new : Parser) (o : Outcome Token) (place : Place) (node : Node) (number : NodeId) → TookPlace old mid o place → Pushed mid new node number → Closed old new o node number
closed old mid new o place node number t p =
    record {
      token = placed t.token place;
      took = t.took ∙ ap (λ (ts : List Token). Took (placed t.token place) ts) (sym p.rest);
      finish = p.finish ∙ t.finish;
      items = p.items ∙ ap (λ (i : List Item). i ++ item_of node ∷ []) t.items;
      is_last = p.is_last;
    }

-- the place of the token is taken where the grammar takes it
pub taken_place : (class : Token → Bool) (opens : Bool) (levels : ℕ) (usage : TokenUse) (old new : Parser) (t : code.Next) → begins class (tokens_left old) ≡ true → Uses opens levels usage old new t → TookPlace old new (used class opens levels usage (tokens_left old)) t.place
taken_place class opens levels usage old new t h u = place_taken old new (used class opens levels usage (tokens_left old)) t (taken class opens levels usage old new t h u)

-- the limits refuse the token
pub barred_there : (class : Token → Bool) (opens : Bool) (levels : ℕ) (usage : TokenUse) (p : Parser) (e : SyntaxError) → begins class (tokens_left p) ≡ true → Barred opens levels usage p e → Fails p (used class opens levels usage (tokens_left p)) e
barred_there class opens levels usage p e h b = b.fails class h

-- the grammar does not go on with the token
pub refused_there : (class : Token → Bool) (opens : Bool) (levels : ℕ) (usage : TokenUse) (p : Parser) (e : SyntaxError) → begins class (tokens_left p) ≡ false → Refuses p e → Fails p (used class opens levels usage (tokens_left p)) e
unfolding used
refused_there class opens levels usage p e h r =
    subst (λ (x : SyntaxError). Fails p (used class opens levels usage (tokens_left p)) x) (sym r)
    (record { where_it_does = record { left = tokens_left p; stops = go (tokens_left p) h; at = refl } })
  where
    go : (ts : List Token) → begins class ts ≡ false → used class opens levels usage ts ≡ Stop (blame_of ts) ts
    go [] h = refl
    go (t ∷ ts) h = ap (λ (c : Bool). cond c (unless (barred opens levels usage t) (t ∷ ts) (Took t ts)) (Stop (blame t.symbol) (t ∷ ts))) h

some_level : (levels : ℕ) (usage : TokenUse) (ts : List Token) → HasNext ts → is_number usage ≡ false → barred_next true levels usage ts ≡ None → 0 < levels
some_level (suc n) usage ts h g b = omega arith
some_level zero Plain (t ∷ ts) h g b = absurd cc
some_level zero (Continues links) (t ∷ ts) h g b = absurd cc
some_level zero (Calls links) (t ∷ ts) h g b = absurd cc
some_level zero usage [] h g b = absurd h
some_level zero LuaNumber (t ∷ ts) h g b = absurd cc
some_level zero TerraNumber (t ∷ ts) h g b = absurd cc

-- where a level is opened, one is left
pub level_left : (levels : ℕ) (usage : TokenUse) (old new : Parser) (t : code.Next) → HasNext (tokens_left old) → is_number usage ≡ false → Uses true levels usage old new t → 0 < levels
level_left levels usage old new t h g u = some_level levels usage (tokens_left old) h g u.allowed

some_left-by : (opens : Bool) (levels links : ℕ) (ts : List Token) → HasNext ts → barred_next opens levels (Continues links) ts ≡ None → 0 < links
some_left-by opens levels (suc n) ts h b = omega arith
some_left-by true zero zero (t ∷ ts) h b = absurd cc
some_left-by true (suc l) zero (t ∷ ts) h b = absurd cc
some_left-by false levels zero (t ∷ ts) h b = absurd cc
some_left-by opens levels zero [] h b = absurd h

some_left-calls : (opens : Bool) (levels links : ℕ) (ts : List Token) → HasNext ts → barred_next opens levels (Calls links) ts ≡ None → 0 < links
some_left-calls opens levels (suc n) ts h b = omega arith
some_left-calls true zero zero (t ∷ ts) h b = absurd cc
some_left-calls true (suc l) zero (t ∷ ts) h b = absurd cc
some_left-calls false levels zero (t ∷ ts) h b = absurd cc
some_left-calls opens levels zero [] h b = absurd h

-- where a chain goes on, it may
pub chain_left : (opens : Bool) (levels links : ℕ) (old new : Parser) (t : code.Next) → HasNext (tokens_left old) → Uses opens levels (Continues links) old new t → 0 < links
chain_left opens levels links old new t h u = some_left-by opens levels links (tokens_left old) h u.allowed

pub calls_left : (opens : Bool) (levels links : ℕ) (old new : Parser) (t : code.Next) → HasNext (tokens_left old) → Uses opens levels (Calls links) old new t → 0 < links
calls_left opens levels links old new t h u = some_left-calls opens levels links (tokens_left old) h u.allowed

pub less : (n : ℕ) → down n ≡ n - 1
less zero = refl
less (suc n) = omega arith

pub ruleset shorter = (fails_bind, fails_after, less)

pub ruleset taking = (taken, barred_there, refused_there, next_of)

pub ruleset taking_place = (taken_place, barred_there, refused_there, next_of)

pub ruleset advancing = (takes, bars, barred_next_is, next_place)

pub ruleset calling = (taken_place, barred_there, refused_there, next_of, level_left, calls_left)
