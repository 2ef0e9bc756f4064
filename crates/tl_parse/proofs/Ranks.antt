-- The ranks of operators.
use Rattle.std.proofs.Common.{◌≡◌, ℕ, zero, suc, ◌<◌, Bool, true, false, cond, eqb, List, [], ◌∷◌, refl, sym, ap, ◌∙◌, arith}
use Rattle.tl_lex.specs.Lexing.{answers_left}
use Rattle.tl_tree.specs.declared.symbol.Symbol.{Symbol}
use Rattle.tl_tree.specs.declared.symbol.Symbol.TheVariants as symbols
use Rattle.tl_tree.specs.declared.mode.TokenUse.TheVariants.{Continues}
use Rattle.tl_tree.specs.Symbols.{number_of, is_bad, has}
use Rattle.tl_tree.specs.Tokens.{Token, among, tokens_in}
use Rattle.tl_tree.specs.Grammar.{begins}
use Rattle.tl_tree.specs.Forms.{comparisons, additive, multiplicative}
use Rattle.tl_parse.specs.Views.Parsing.{token_of, tokens_left, with_token_by}
use Rattle.tl_parse.specs.Views.Using.{operator_at}
use Rattle.tl_parse.specs.Views.Expressions.{symbols_of}
use Rattle.tl_parse.specs.Views.Ranks.{rank_of, rank_at, is_of_rank, ranked_at}
use Rattle.tl_parse.specs.declared.parser.Parser.{Parser}
use Rattle.tl_parse.proofs.Uses.{used_classes}

-- ---- the rank of the next token

pub next_rank_end : (p : Parser) → p.current.is_end ≡ true → 6 ≡ rank_at (tokens_left p)
unfolding tokens_left
next_rank_end p h = sym (ap (λ (e : Bool). rank_at (with_token_by e (is_bad p.current.symbol) (token_of p.current) (tokens_in (answers_left p.lexer)).tokens)) h)

pub next_rank_more : (p : Parser) → p.current.is_end ≡ false → rank_of p.current.symbol ≡ rank_at (tokens_left p)
unfolding tokens_left
next_rank_more p h = sym (ap (λ (e : Bool). rank_at (with_token_by e (is_bad p.current.symbol) (token_of p.current) (tokens_in (answers_left p.lexer)).tokens)) h ∙ go (is_bad p.current.symbol))
  where
    go : (b : Bool) → rank_at (with_token_by false b (token_of p.current) (tokens_in (answers_left p.lexer)).tokens) ≡ rank_of p.current.symbol
    go true = refl
    go false = refl

pub ruleset next_rank = (next_rank_end, next_rank_more)

-- ---- operators of a rank

-- what is no operator has none of the ranks
none_of : (rank : ℕ) → rank < 6 → eqb 6 rank ≡ false
none_of zero h = refl
none_of (suc zero) h = refl
none_of (suc (suc zero)) h = refl
none_of (suc (suc (suc zero))) h = refl
none_of (suc (suc (suc (suc zero)))) h = refl
none_of (suc (suc (suc (suc (suc zero))))) h = refl
none_of (suc (suc (suc (suc (suc (suc rank)))))) h = absurd (omega (arith, h))

of_rank : (s : Symbol) (rank : ℕ) → rank < 6 → eqb (rank_of s) rank ≡ cond (is_bad s) false (eqb (rank_of s) rank)
of_rank (symbols.Bad why) rank h = none_of rank h
of_rank _ rank h = refl

pub begins_of_rank : (rank : ℕ) (ts : List Token) → rank < 6 → eqb (rank_at ts) rank ≡ begins (is_of_rank rank) ts
begins_of_rank rank [] h = none_of rank h
begins_of_rank rank (t ∷ ts) h = of_rank t.symbol rank h

among-product : (s : Symbol) → has multiplicative (number_of s) ≡ eqb (rank_of s) 0
among-product symbols.Star = refl
among-product _ = refl

among-sum : (s : Symbol) → has additive (number_of s) ≡ eqb (rank_of s) 1
among-sum symbols.Plus = refl
among-sum _ = refl

among-concatenation : (s : Symbol) → has (symbols.DoubleDot ∷ []) (number_of s) ≡ eqb (rank_of s) 2
among-concatenation symbols.DoubleDot = refl
among-concatenation _ = refl

among-comparison : (s : Symbol) → has comparisons (number_of s) ≡ eqb (rank_of s) 3
among-comparison symbols.Less = refl
among-comparison _ = refl

among-conjunction : (s : Symbol) → has (symbols.And ∷ []) (number_of s) ≡ eqb (rank_of s) 4
among-conjunction symbols.And = refl
among-conjunction _ = refl

among-disjunction : (s : Symbol) → has (symbols.Or ∷ []) (number_of s) ≡ eqb (rank_of s) 5
among-disjunction symbols.Or = refl
among-disjunction _ = refl

-- the symbols of a rank are those with the rank
among_rank : (rank : ℕ) (s : Symbol) → rank < 6 → has (symbols_of rank) (number_of s) ≡ eqb (rank_of s) rank
among_rank zero s h = among-product s
among_rank (suc zero) s h = among-sum s
among_rank (suc (suc zero)) s h = among-concatenation s
among_rank (suc (suc (suc zero))) s h = among-comparison s
among_rank (suc (suc (suc (suc zero)))) s h = among-conjunction s
among_rank (suc (suc (suc (suc (suc zero))))) s h = among-disjunction s
among_rank (suc (suc (suc (suc (suc (suc rank)))))) s h = absurd (omega (arith, h))

pub begins_rank : (rank : ℕ) (ts : List Token) → rank < 6 → begins (among (symbols_of rank)) ts ≡ eqb (rank_at ts) rank
begins_rank rank [] h = sym (none_of rank h)
begins_rank rank (t ∷ ts) h =
    ap (λ (b : Bool). cond (is_bad t.symbol) false b) (among_rank rank t.symbol h) ∙ sym (of_rank t.symbol rank h)

-- taking one of the symbols is taking an operator of the rank
pub operator_ranked : (rank links : ℕ) (ts : List Token) → rank < 6 → operator_at (symbols_of rank) links ts ≡ ranked_at rank links ts
unfolding operator_at ranked_at
operator_ranked rank links ts h = used_classes (among (symbols_of rank)) (is_of_rank rank) false 0 (Continues links) (λ t. among_rank rank t.symbol h) ts
