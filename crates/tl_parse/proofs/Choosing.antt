-- What the symbol of the next token chooses.
use Rattle.std.proofs.Common.{◌≡◌, ℕ, List, Result, refl, sym, ap, subst}
use Rattle.std.specs.Prelude.{IfOk, IfErr}
use Rattle.tl_base.specs.declared.ids.NodeId.{NodeId}
use Rattle.tl_tree.specs.declared.symbol.Symbol.{Symbol}
use Rattle.tl_tree.specs.declared.symbol.Symbol.TheVariants as symbols
use Rattle.tl_tree.specs.declared.mode.Mode.{Mode}
use Rattle.tl_tree.specs.declared.mode.Context.{Context}
use Rattle.tl_tree.specs.Tokens.{Token}
use Rattle.tl_tree.specs.Tree.{Tree}
use Rattle.tl_tree.specs.Grammar.{Outcome}
use Rattle.tl_parse.specs.Views.Using.{symbol_at}
use Rattle.tl_parse.specs.Views.Expressions.{Suffixed, suffix_from, suffix_at, literal_suffix_at, simple_from, simple_at}
use Rattle.tl_parse.specs.Views.TerraExpressions.{TerraSuffixed, terra_suffix_from, terra_suffix_at, construct_suffix_at}
use Rattle.tl_parse.specs.Views.TerraCode.{terra_code_at}
use Rattle.tl_parse.specs.Views.Statements.{statement_from, statement_at, call_or_assignment_at}
use Rattle.tl_parse.specs.Views.TerraStatements.{terra_statement_from, terra_statement_at, terra_simple_statement_at}
use Rattle.tl_parse.specs.Views.Parsing.{TookTree, Fails}
use Rattle.tl_parse.specs.Views.Going.{TookSuffix}
use Rattle.tl_parse.specs.Views.TerraGoing.{TookTerraSuffix}
use Rattle.tl_parse.specs.declared.parser.Operand.{Operand}
use Rattle.tl_parse.specs.declared.parser.Parser.{Parser}
use Rattle.tl_parse.specs.declared.error.SyntaxError.{SyntaxError}

-- what gives the same may be chosen
pub chosen : (p q : Parser) (x : Result NodeId SyntaxError) {o o' : Outcome Tree} → o ≡ o' →
    IfOk x (λ r. TookTree p q o' r) → IfOk x (λ r. TookTree p q o r)
chosen p q x is h = subst (λ (o : Outcome Tree). IfOk x (λ r. TookTree p q o r)) (sym is) h

pub chosen_suffix : (p q : Parser) (a : Operand) (x : Result Operand SyntaxError) {o o' : Outcome Suffixed} → o ≡ o' →
    IfOk x (λ r. TookSuffix p q o' a r) → IfOk x (λ r. TookSuffix p q o a r)
chosen_suffix p q a x is h = subst (λ (o : Outcome Suffixed). IfOk x (λ r. TookSuffix p q o a r)) (sym is) h

pub chosen_terra_suffix : (p q : Parser) (a : Operand) (x : Result Operand SyntaxError) {o o' : Outcome TerraSuffixed} →
    o ≡ o' → IfOk x (λ r. TookTerraSuffix p q o' a r) → IfOk x (λ r. TookTerraSuffix p q o a r)
chosen_terra_suffix p q a x is h = subst (λ (o : Outcome TerraSuffixed). IfOk x (λ r. TookTerraSuffix p q o a r)) (sym is) h

pub chosen_fails : {A V : Type 0} (p : Parser) (x : Result V SyntaxError) {o o' : Outcome A} → o ≡ o' →
    IfErr x (λ e. Fails p o' e) → IfErr x (λ e. Fails p o e)
chosen_fails {A} {V} p x is h = subst (λ (o : Outcome A). IfErr x (λ e. Fails p o e)) (sym is) h

-- ---- Lua statements

pub statement_is : (levels : ℕ) (c : Context) (s : Symbol) (ts : List Token) → s ≡ symbol_at ts →
    statement_at levels c ts ≡ statement_from levels c s ts
unfolding statement_at
statement_is levels c s ts h = ap (λ (x : Symbol). statement_from levels c x ts) (sym h)

pub statement_others : (levels : ℕ) (c : Context) (s : Symbol) (ts : List Token) →
    (s ≡ symbols.Do → ⊥) → (s ≡ symbols.While → ⊥) → (s ≡ symbols.Repeat → ⊥) → (s ≡ symbols.If → ⊥) →
    (s ≡ symbols.For → ⊥) → (s ≡ symbols.Function → ⊥) → (s ≡ symbols.Local → ⊥) → (s ≡ symbols.Return → ⊥) →
    (s ≡ symbols.Break → ⊥) → (s ≡ symbols.Emit → ⊥) → (s ≡ symbols.Terra → ⊥) → (s ≡ symbols.Struct → ⊥) →
    statement_from levels c s ts ≡ call_or_assignment_at levels c.mode ts
statement_others levels c symbols.Do ts h0 _ _ _ _ _ _ _ _ _ _ _ = absurd (h0 refl)
statement_others levels c symbols.While ts _ h1 _ _ _ _ _ _ _ _ _ _ = absurd (h1 refl)
statement_others levels c symbols.Repeat ts _ _ h2 _ _ _ _ _ _ _ _ _ = absurd (h2 refl)
statement_others levels c symbols.If ts _ _ _ h3 _ _ _ _ _ _ _ _ = absurd (h3 refl)
statement_others levels c symbols.For ts _ _ _ _ h4 _ _ _ _ _ _ _ = absurd (h4 refl)
statement_others levels c symbols.Function ts _ _ _ _ _ h5 _ _ _ _ _ _ = absurd (h5 refl)
statement_others levels c symbols.Local ts _ _ _ _ _ _ h6 _ _ _ _ _ = absurd (h6 refl)
statement_others levels c symbols.Return ts _ _ _ _ _ _ _ h7 _ _ _ _ = absurd (h7 refl)
statement_others levels c symbols.Break ts _ _ _ _ _ _ _ _ h8 _ _ _ = absurd (h8 refl)
statement_others levels c symbols.Emit ts _ _ _ _ _ _ _ _ _ h9 _ _ = absurd (h9 refl)
statement_others levels c symbols.Terra ts _ _ _ _ _ _ _ _ _ _ h10 _ = absurd (h10 refl)
statement_others levels c symbols.Struct ts _ _ _ _ _ _ _ _ _ _ _ h11 = absurd (h11 refl)
statement_others levels c _ ts _ _ _ _ _ _ _ _ _ _ _ _ = refl

-- ---- Terra statements

pub terra_statement_is : (levels : ℕ) (s : Symbol) (ts : List Token) → s ≡ symbol_at ts →
    terra_statement_at levels ts ≡ terra_statement_from levels s ts
unfolding terra_statement_at
terra_statement_is levels s ts h = ap (λ (x : Symbol). terra_statement_from levels x ts) (sym h)

pub terra_statement_others : (levels : ℕ) (s : Symbol) (ts : List Token) →
    (s ≡ symbols.Do → ⊥) → (s ≡ symbols.While → ⊥) → (s ≡ symbols.Repeat → ⊥) → (s ≡ symbols.If → ⊥) →
    (s ≡ symbols.For → ⊥) → (s ≡ symbols.Var → ⊥) → (s ≡ symbols.Escape → ⊥) → (s ≡ symbols.Return → ⊥) →
    (s ≡ symbols.Break → ⊥) →
    terra_statement_from levels s ts ≡ terra_simple_statement_at levels ts
terra_statement_others levels symbols.Do ts h0 _ _ _ _ _ _ _ _ = absurd (h0 refl)
terra_statement_others levels symbols.While ts _ h1 _ _ _ _ _ _ _ = absurd (h1 refl)
terra_statement_others levels symbols.Repeat ts _ _ h2 _ _ _ _ _ _ = absurd (h2 refl)
terra_statement_others levels symbols.If ts _ _ _ h3 _ _ _ _ _ = absurd (h3 refl)
terra_statement_others levels symbols.For ts _ _ _ _ h4 _ _ _ _ = absurd (h4 refl)
terra_statement_others levels symbols.Var ts _ _ _ _ _ h5 _ _ _ = absurd (h5 refl)
terra_statement_others levels symbols.Escape ts _ _ _ _ _ _ h6 _ _ = absurd (h6 refl)
terra_statement_others levels symbols.Return ts _ _ _ _ _ _ _ h7 _ = absurd (h7 refl)
terra_statement_others levels symbols.Break ts _ _ _ _ _ _ _ _ h8 = absurd (h8 refl)
terra_statement_others levels _ ts _ _ _ _ _ _ _ _ _ = refl

-- ---- Lua expressions without operators

pub simple_is : (levels : ℕ) (m : Mode) (s : Symbol) (ts : List Token) → s ≡ symbol_at ts →
    simple_at levels m ts ≡ simple_from levels m s ts
unfolding simple_at
simple_is levels m s ts h = ap (λ (x : Symbol). simple_from levels m x ts) (sym h)

pub simple_others : (levels : ℕ) (m : Mode) (s : Symbol) (ts : List Token) →
    (s ≡ symbols.Numeral → ⊥) → (s ≡ symbols.Literal → ⊥) → (s ≡ symbols.Nil → ⊥) → (s ≡ symbols.False → ⊥) →
    (s ≡ symbols.True → ⊥) → (s ≡ symbols.Ellipsis → ⊥) → (s ≡ symbols.Function → ⊥) → (s ≡ symbols.OpenBrace → ⊥) →
    simple_from levels m s ts ≡ terra_code_at levels m ts
simple_others levels m symbols.Numeral ts h0 _ _ _ _ _ _ _ = absurd (h0 refl)
simple_others levels m symbols.Literal ts _ h1 _ _ _ _ _ _ = absurd (h1 refl)
simple_others levels m symbols.Nil ts _ _ h2 _ _ _ _ _ = absurd (h2 refl)
simple_others levels m symbols.False ts _ _ _ h3 _ _ _ _ = absurd (h3 refl)
simple_others levels m symbols.True ts _ _ _ _ h4 _ _ _ = absurd (h4 refl)
simple_others levels m symbols.Ellipsis ts _ _ _ _ _ h5 _ _ = absurd (h5 refl)
simple_others levels m symbols.Function ts _ _ _ _ _ _ h6 _ = absurd (h6 refl)
simple_others levels m symbols.OpenBrace ts _ _ _ _ _ _ _ h7 = absurd (h7 refl)
simple_others levels m _ ts _ _ _ _ _ _ _ _ = refl

-- ---- suffixes of Lua expressions

pub suffix_is : (levels : ℕ) (m : Mode) (links : ℕ) (s : Symbol) (ts : List Token) → s ≡ symbol_at ts →
    suffix_at levels m links ts ≡ suffix_from levels m links s ts
unfolding suffix_at
suffix_is levels m links s ts h = ap (λ (x : Symbol). suffix_from levels m links x ts) (sym h)

pub suffix_others : (levels : ℕ) (m : Mode) (links : ℕ) (s : Symbol) (ts : List Token) →
    (s ≡ symbols.OpenParen → ⊥) → (s ≡ symbols.OpenBracket → ⊥) → (s ≡ symbols.Dot → ⊥) → (s ≡ symbols.Colon → ⊥) →
    (s ≡ symbols.OpenBrace → ⊥) →
    suffix_from levels m links s ts ≡ literal_suffix_at links ts
suffix_others levels m links symbols.OpenParen ts h0 _ _ _ _ = absurd (h0 refl)
suffix_others levels m links symbols.OpenBracket ts _ h1 _ _ _ = absurd (h1 refl)
suffix_others levels m links symbols.Dot ts _ _ h2 _ _ = absurd (h2 refl)
suffix_others levels m links symbols.Colon ts _ _ _ h3 _ = absurd (h3 refl)
suffix_others levels m links symbols.OpenBrace ts _ _ _ _ h4 = absurd (h4 refl)
suffix_others levels m links _ ts _ _ _ _ _ = refl

-- ---- suffixes of Terra expressions

pub terra_suffix_is : (levels links : ℕ) (s : Symbol) (ts : List Token) → s ≡ symbol_at ts →
    terra_suffix_at levels links ts ≡ terra_suffix_from levels links s ts
unfolding terra_suffix_at
terra_suffix_is levels links s ts h = ap (λ (x : Symbol). terra_suffix_from levels links x ts) (sym h)

pub terra_suffix_others : (levels links : ℕ) (s : Symbol) (ts : List Token) →
    (s ≡ symbols.OpenParen → ⊥) → (s ≡ symbols.OpenBracket → ⊥) → (s ≡ symbols.Dot → ⊥) → (s ≡ symbols.Colon → ⊥) →
    terra_suffix_from levels links s ts ≡ construct_suffix_at levels links ts
terra_suffix_others levels links symbols.OpenParen ts h0 _ _ _ = absurd (h0 refl)
terra_suffix_others levels links symbols.OpenBracket ts _ h1 _ _ = absurd (h1 refl)
terra_suffix_others levels links symbols.Dot ts _ _ h2 _ = absurd (h2 refl)
terra_suffix_others levels links symbols.Colon ts _ _ _ h3 = absurd (h3 refl)
terra_suffix_others levels links _ ts _ _ _ _ = refl
