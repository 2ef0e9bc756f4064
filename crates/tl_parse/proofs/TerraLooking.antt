-- Tests of the next token in Terra code.
use Rattle.std.proofs.Common.{◌≡◌, Bool, true, false, cond, List, refl, sym}
use Rattle.std.specs.Prelude.{◌&&◌, not}
use Rattle.tl_lex.specs.Lexing.{answers_left}
use Rattle.tl_tree.specs.declared.symbol.Symbol.TheVariants as symbols
use Rattle.tl_tree.specs.Symbols.{is_bad}
use Rattle.tl_tree.specs.Tokens.{Token, among, is, tokens_in}
use Rattle.tl_tree.specs.Grammar.{begins}
use Rattle.tl_tree.specs.TerraExpressions.{is_terra_suffix, terra_suffix_symbols}
use Rattle.tl_parse.specs.Views.Parsing.{token_of, with_token_by, tokens_left}
use Rattle.tl_parse.specs.declared.parser.Parser.{Parser}

and_swap : (a b : Bool) → (a && b) ≡ (b && a)
and_swap true true = refl
and_swap true false = refl
and_swap false true = refl
and_swap false false = refl

begins_terra_suffix : (p : Parser) → begins (λ t. is_terra_suffix t) (tokens_left p) ≡ (not (begins (is symbols.OpenBracket) (tokens_left p) && p.current.first_on_line) && begins (among terra_suffix_symbols) (tokens_left p))
unfolding tokens_left
begins_terra_suffix p = go p.current.is_end (is_bad p.current.symbol)
  where
    ts : List Token
    ts = (tokens_in (answers_left p.lexer)).tokens

    may_continue-is : (t : Token) (b : Bool) → cond b false (among terra_suffix_symbols t && not (is symbols.OpenBracket t && t.first_on_line)) ≡ (not (cond b false (is symbols.OpenBracket t) && t.first_on_line) && cond b false (among terra_suffix_symbols t))
    may_continue-is t true = refl
    may_continue-is t false = and_swap (among terra_suffix_symbols t) (not (is symbols.OpenBracket t && t.first_on_line))

    go : (e b : Bool) → begins (λ t. is_terra_suffix t) (with_token_by e b (token_of p.current) ts) ≡ (not (begins (is symbols.OpenBracket) (with_token_by e b (token_of p.current) ts) && p.current.first_on_line) && begins (among terra_suffix_symbols) (with_token_by e b (token_of p.current) ts))
    go true b = refl
    go false true = may_continue-is (token_of p.current) (is_bad p.current.symbol)
    go false false = may_continue-is (token_of p.current) (is_bad p.current.symbol)

suffix_by : (x y b : Bool) → b ≡ (not x && y) → (x ≡ true → false ≡ b) × (x ≡ false → y ≡ b)
suffix_by true y b e = (λ h. sym e, λ h. absurd cc)
suffix_by false y b e = (λ h. absurd cc, λ h. sym e)

pub barred_terra_suffix : (p : Parser) → (begins (is symbols.OpenBracket) (tokens_left p) && p.current.first_on_line) ≡ true → false ≡ begins (λ t. is_terra_suffix t) (tokens_left p)
barred_terra_suffix p h = (suffix_by (begins (is symbols.OpenBracket) (tokens_left p) && p.current.first_on_line) (begins (among terra_suffix_symbols) (tokens_left p)) (begins (λ t. is_terra_suffix t) (tokens_left p)) (begins_terra_suffix p)).0 h

pub free_terra_suffix : (p : Parser) → (begins (is symbols.OpenBracket) (tokens_left p) && p.current.first_on_line) ≡ false → begins (among terra_suffix_symbols) (tokens_left p) ≡ begins (λ t. is_terra_suffix t) (tokens_left p)
free_terra_suffix p h = (suffix_by (begins (is symbols.OpenBracket) (tokens_left p) && p.current.first_on_line) (begins (among terra_suffix_symbols) (tokens_left p)) (begins (λ t. is_terra_suffix t) (tokens_left p)) (begins_terra_suffix p)).1 h

pub ruleset suffixes = (barred_terra_suffix, free_terra_suffix)
