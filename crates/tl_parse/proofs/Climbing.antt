-- The operators between operands, rank after rank and turn by turn.
use Rattle.std.proofs.Common.{◌≡◌, ℕ, zero, suc, ◌+◌, ◌-◌, ◌<◌, ◌≤◌, Bool, true, false, cond, eqb, leb, ltb, List, length, Some, None, refl, sym, ap, ◌∙◌, arith}
use Rattle.std.proofs.lemmas.Bool.{eq-eqb, eqb-true, eqb-false, ne_eqb, leb-true, ltb-true, le-leb, lt-ltb, and_parts, and_from}
use Rattle.tl_tree.specs.declared.mode.Mode.{Mode}
use Rattle.tl_tree.specs.declared.mode.OperandKind.{OperandKind}
use Rattle.tl_tree.specs.declared.mode.TokenUse.TheVariants.{Continues}
use Rattle.tl_tree.specs.declared.symbol.Symbol.TheVariants as symbols
use Rattle.tl_tree.specs.Tokens.{Token, is, among, sample}
use Rattle.tl_tree.specs.Tree.{Tree, Nothing, Concatenation}
use Rattle.tl_tree.specs.Grammar.{give, token, bind, Outcome, Took, Stop, ◌>>=◌, begins, down}
use Rattle.tl_tree.specs.Forms.{Chained, chained, operand, operators}
use Rattle.tl_tree.specs.LuaExpressions as lua
use Rattle.tl_tree.proofs.Unrolling.{bind_again}
use Rattle.tl_parse.specs.Views.Using.{reading, part_at, used, operator_at, raise_at}
use Rattle.tl_parse.specs.Views.Expressions.{right_at, symbols_of, inner_of, more_at, ranks_at, binary_at, one_more_at}
use Rattle.tl_parse.specs.Views.Ranks.{rank_at, is_ranked, ranked_at, rank_behind}
use Rattle.tl_parse.proofs.Uses.{both, operator_with, bind_same, opening_is, ends, shorter_turn}
use Rattle.tl_parse.proofs.Turns.{operators_turn, operators_goes}
use Rattle.tl_parse.proofs.Agreeing.{binary_agrees}
use Rattle.tl_parse.proofs.Ranks.{begins_rank, operator_ranked}

true_false : true ≡ false → ⊥
true_false e = cc

-- ---- an operator and its right operand

-- what a turn of the operators that group to the left has
plain_one : (levels rank : ℕ) (m : Mode) (links : ℕ) (ts : List Token) → rank < 6 →
    (operator_at (symbols_of rank) links ts >>= λ t mid. reading levels (inner_of rank m (down links)) mid >>= λ b rest. Took (operator_with t b) rest)
    ≡ (ranked_at rank links ts >>= λ t mid. binary_at levels rank m (down links) mid >>= λ b rest. Took (operator_with t b) rest)
plain_one levels rank m links ts h =
    ap (λ (o : Outcome Token). o >>= λ t mid. reading levels (inner_of rank m (down links)) mid >>= λ b rest. Took (operator_with t b) rest) (operator_ranked rank links ts h)
    ∙ bind_same (ranked_at rank links ts) (λ t mid. reading levels (inner_of rank m (down links)) mid >>= λ b rest. Took (operator_with t b) rest) (λ t mid. binary_at levels rank m (down links) mid >>= λ b rest. Took (operator_with t b) rest)
    (λ t mid. ap (λ (o : Outcome Chained). o >>= λ b rest. Took (operator_with t b) rest) (binary_agrees rank levels m (down links) mid (omega (arith, h))))

plain_shorter : (levels rank : ℕ) (m : Mode) (links : ℕ) (x : Token × Chained) (ts rest : List Token) → rank < 6 →
    (ranked_at rank links ts >>= λ t mid. binary_at levels rank m (down links) mid >>= λ b rest. Took (operator_with t b) rest) ≡ Took x rest → length rest < length ts
plain_shorter levels rank m links x ts rest h e =
    let a : Chained = operand links Nothing in
    shorter_turn levels (λ t. among (symbols_of rank) t) (λ t. Continues links) (λ t. None) (sample symbols.Plus) (λ y. bind (inner_of rank m (down links)) λ b. give (operand b.links (lua.operation y.0 Nothing b.tree)))
    (operator_at (symbols_of rank) links ts >>= λ t mid. reading levels (inner_of rank m (down links)) mid >>= λ b rest. Took (operator_with t b) rest) (λ p. operand p.1.links (lua.operation p.0 Nothing p.1.tree)) x ts rest
    (operators_turn levels (symbols_of rank) (λ links. inner_of rank m links) lua.operation (sample symbols.Plus) a ts) (plain_one levels rank m links ts h ∙ e)

-- `..` and its right operand
abbrev right_one : ℕ → Mode → ℕ → Token → List Token → Outcome (Token × Chained)
right_one levels m links t mid = part_at (levels - 1) (Concatenation m) mid >>= λ x rest. Took (operator_with t (operand (down links) x)) rest

right_turn : (levels : ℕ) (m : Mode) (links : ℕ) (ts : List Token) →
    reading levels (bind (token (λ t. is symbols.DoubleDot t) (λ t. Continues links) (λ t. Some (Concatenation m)) (sample symbols.DoubleDot)) λ y. give (operand (down links) y.1)) ts
    ≡ ((raise_at symbols.DoubleDot levels links ts >>= λ t mid. right_one levels m links t mid) >>= λ p rest. Took p.1 rest)
unfolding raise_at
right_turn levels m links ts =
    ap (λ (o : Outcome (Token × Tree)). o >>= λ y rest. Took (operand (down links) y.1) rest) (opening_is levels (λ t. is symbols.DoubleDot t) (Continues links) (Concatenation m) (sample symbols.DoubleDot) ts)
    ∙ go (used (is symbols.DoubleDot) true levels (Continues links) ts)
  where
    inside : (t : Token) (o : Outcome Tree) → ((o >>= λ x rest. Took (both t x) rest) >>= λ y rest. Took (operand (down links) y.1) rest) ≡ ((o >>= λ x rest. Took (operator_with t (operand (down links) x)) rest) >>= λ p rest. Took p.1 rest)
    inside t (Took x rest) = refl
    inside t (Stop kind rest) = refl

    go : (o : Outcome Token) → ((o >>= λ t mid. part_at (levels - 1) (Concatenation m) mid >>= λ x rest. Took (both t x) rest) >>= λ y rest. Took (operand (down links) y.1) rest) ≡ ((o >>= λ t mid. right_one levels m links t mid) >>= λ p rest. Took p.1 rest)
    go (Took t mid) = inside t (part_at (levels - 1) (Concatenation m) mid)
    go (Stop kind rest) = refl

pub one_more_shorter : (levels rank : ℕ) (m : Mode) (links : ℕ) (x : Token × Chained) (ts rest : List Token) → rank < 6 → one_more_at levels rank m links ts ≡ Took x rest → length rest < length ts
unfolding one_more_at
one_more_shorter levels zero m links x ts rest h e = plain_shorter levels 0 m links x ts rest h e
one_more_shorter levels (suc zero) m links x ts rest h e = plain_shorter levels 1 m links x ts rest h e
one_more_shorter levels (suc (suc zero)) m links x ts rest h e =
    shorter_turn levels (λ t. is symbols.DoubleDot t) (λ t. Continues links) (λ t. Some (Concatenation m)) (sample symbols.DoubleDot) (λ y. give (operand (down links) y.1))
    (raise_at symbols.DoubleDot levels links ts >>= λ t mid. right_one levels m links t mid) (λ p. p.1) x ts rest (right_turn levels m links ts) e
one_more_shorter levels (suc (suc (suc zero))) m links x ts rest h e = plain_shorter levels 3 m links x ts rest h e
one_more_shorter levels (suc (suc (suc (suc zero)))) m links x ts rest h e = plain_shorter levels 4 m links x ts rest h e
one_more_shorter levels (suc (suc (suc (suc (suc zero))))) m links x ts rest h e = plain_shorter levels 5 m links x ts rest h e
one_more_shorter levels (suc (suc (suc (suc (suc (suc rank)))))) m links x ts rest h e = absurd (omega (arith, h))

-- ---- the operators of a rank

plain_goes : (levels rank : ℕ) (m : Mode) (a : Chained) (ts : List Token) → rank < 6 → rank_at ts ≡ rank →
    reading levels (operators (symbols_of rank) (λ links. inner_of rank m links) lua.operation a) ts
    ≡ ((ranked_at rank a.links ts >>= λ t mid. binary_at levels rank m (down a.links) mid >>= λ b rest. Took (operator_with t b) rest)
    >>= λ p rest. reading levels (operators (symbols_of rank) (λ links. inner_of rank m links) lua.operation (operand p.1.links (lua.operation p.0 a.tree p.1.tree))) rest)
plain_goes levels rank m a ts h is_rank =
    operators_goes levels (symbols_of rank) (λ links. inner_of rank m links) lua.operation a ts (begins_rank rank ts h ∙ eq-eqb (rank_at ts) rank is_rank)
    ∙ ap (λ (o : Outcome (Token × Chained)). o >>= λ p rest. reading levels (operators (symbols_of rank) (λ links. inner_of rank m links) lua.operation (operand p.1.links (lua.operation p.0 a.tree p.1.tree))) rest) (plain_one levels rank m a.links ts h)

-- what is read of the ranks behind an operator and its right operand
abbrev pub on : ℕ → ℕ → ℕ → Mode → Tree → Token × Chained → List Token → Outcome Chained
on levels n rank m tree p rest = ranks_at levels n rank m (operand p.1.links (lua.operation p.0 tree p.1.tree)) rest

plain_on : (levels rank n : ℕ) (m : Mode) (a : Chained) (ts : List Token) → rank < 6 → rank_at ts ≡ rank →
    (reading levels (operators (symbols_of rank) (λ links. inner_of rank m links) lua.operation a) ts >>= λ b rest. ranks_at levels n (suc rank) m b rest)
    ≡ ((ranked_at rank a.links ts >>= λ t mid. binary_at levels rank m (down a.links) mid >>= λ b rest. Took (operator_with t b) rest)
    >>= λ p rest. reading levels (operators (symbols_of rank) (λ links. inner_of rank m links) lua.operation (operand p.1.links (lua.operation p.0 a.tree p.1.tree))) rest >>= λ b rest. ranks_at levels n (suc rank) m b rest)
plain_on levels rank n m a ts h is_rank =
    ap (λ (o : Outcome Chained). o >>= λ b rest. ranks_at levels n (suc rank) m b rest) (plain_goes levels rank m a ts h is_rank)
    ∙ bind_again (ranked_at rank a.links ts >>= λ t mid. binary_at levels rank m (down a.links) mid >>= λ b rest. Took (operator_with t b) rest)
    (λ p rest. reading levels (operators (symbols_of rank) (λ links. inner_of rank m links) lua.operation (operand p.1.links (lua.operation p.0 a.tree p.1.tree))) rest) (λ b rest. ranks_at levels n (suc rank) m b rest)

right_on : (levels n : ℕ) (m : Mode) (a : Chained) (ts : List Token) → rank_at ts ≡ 2 →
    (right_at levels symbols.DoubleDot (Concatenation m) a ts >>= λ b rest. ranks_at levels n 3 m b rest)
    ≡ ((raise_at symbols.DoubleDot levels a.links ts >>= λ t mid. right_one levels m a.links t mid) >>= λ p rest. on levels n 3 m a.tree p rest)
right_on levels n m a ts is_rank =
    ap (λ (c : Bool). cond c (raise_at symbols.DoubleDot levels a.links ts >>= λ t b. part_at (levels - 1) (Concatenation m) b >>= λ x rest. Took (operand (down a.links) (lua.operation t a.tree x)) rest) (Took a ts) >>= λ b rest. ranks_at levels n 3 m b rest)
    (begins_rank 2 ts (omega arith) ∙ eq-eqb (rank_at ts) 2 is_rank)
    ∙ go (raise_at symbols.DoubleDot levels a.links ts)
  where
    inside : (t : Token) (o : Outcome Tree) → ((o >>= λ x rest. Took (operand (down a.links) (lua.operation t a.tree x)) rest) >>= λ b rest. ranks_at levels n 3 m b rest) ≡ ((o >>= λ x rest. Took (operator_with t (operand (down a.links) x)) rest) >>= λ p rest. on levels n 3 m a.tree p rest)
    inside t (Took x rest) = refl
    inside t (Stop kind rest) = refl

    go : (o : Outcome Token) → ((o >>= λ t b. part_at (levels - 1) (Concatenation m) b >>= λ x rest. Took (operand (down a.links) (lua.operation t a.tree x)) rest) >>= λ b rest. ranks_at levels n 3 m b rest) ≡ ((o >>= λ t mid. right_one levels m a.links t mid) >>= λ p rest. on levels n 3 m a.tree p rest)
    go (Took t mid) = inside t (part_at (levels - 1) (Concatenation m) mid)
    go (Stop kind rest) = refl

plain_ends : (levels rank : ℕ) (m : Mode) (a : Chained) (ts : List Token) → begins (among (symbols_of rank)) ts ≡ false → reading levels (operators (symbols_of rank) (λ links. inner_of rank m links) lua.operation a) ts ≡ Took a ts
plain_ends levels rank m a ts h = ends levels (λ a t. among (symbols_of rank) t) (λ a t. Continues a.links) (λ a t. None) (λ t y a. bind (inner_of rank m (down a.links)) λ b. give (operand b.links (lua.operation t a.tree b.tree))) a ts h

more_ends : (levels rank : ℕ) (m : Mode) (a : Chained) (ts : List Token) → rank < 6 → eqb (rank_at ts) rank ≡ false → more_at levels rank m a ts ≡ Took a ts
unfolding more_at
more_ends levels zero m a ts h none = plain_ends levels 0 m a ts (begins_rank 0 ts h ∙ none)
more_ends levels (suc zero) m a ts h none = plain_ends levels 1 m a ts (begins_rank 1 ts h ∙ none)
more_ends levels (suc (suc zero)) m a ts h none =
    ap (λ (c : Bool). cond c (raise_at symbols.DoubleDot levels a.links ts >>= λ t b. part_at (levels - 1) (Concatenation m) b >>= λ x rest. Took (operand (down a.links) (lua.operation t a.tree x)) rest) (Took a ts)) (begins_rank 2 ts h ∙ none)
more_ends levels (suc (suc (suc zero))) m a ts h none = plain_ends levels 3 m a ts (begins_rank 3 ts h ∙ none)
more_ends levels (suc (suc (suc (suc zero)))) m a ts h none = plain_ends levels 4 m a ts (begins_rank 4 ts h ∙ none)
more_ends levels (suc (suc (suc (suc (suc zero))))) m a ts h none = plain_ends levels 5 m a ts (begins_rank 5 ts h ∙ none)
more_ends levels (suc (suc (suc (suc (suc (suc rank)))))) m a ts h none = absurd (omega (arith, h))

-- ---- rank after rank

-- where the next token has none of the ranks
none_ranked : (n levels rank : ℕ) (m : Mode) (a : Chained) (ts : List Token) → rank + n ≤ 6 → (rank ≤ rank_at ts → rank_at ts < rank + n → ⊥) → ranks_at levels n rank m a ts ≡ Took a ts
unfolding ranks_at
none_ranked zero levels rank m a ts most none = refl
none_ranked (suc n) levels rank m a ts most none =
    let here : rank < 6 = omega arith in
    let other : rank_at ts ≡ rank → ⊥ = λ e. let from : rank ≤ rank_at ts = omega arith in let end : rank_at ts < rank + suc n = omega arith in none from end in
    let most' : suc rank + n ≤ 6 = omega arith in
    ap (λ (o : Outcome Chained). o >>= λ b rest. ranks_at levels n (suc rank) m b rest) (more_ends levels rank m a ts here (ne_eqb (rank_at ts) rank other))
    ∙ none_ranked n levels (suc rank) m a ts most' (λ p q. let from : rank ≤ rank_at ts = omega arith in let end : rank_at ts < rank + suc n = omega arith in none from end)

-- a rank is passed over, unless it is that of the next token
passed_one : (c : Bool) (n levels rank more : ℕ) (m : Mode) (a : Chained) (ts : List Token) → c ≡ eqb (rank_at ts) rank → rank + suc n ≤ 6 → rank ≤ rank_at ts → rank + suc n ≡ rank_at ts + suc more →
    (suc rank + n ≤ 6 → suc rank ≤ rank_at ts → suc rank + n ≡ rank_at ts + suc more → ranks_at levels n (suc rank) m a ts ≡ ranks_at levels (suc more) (rank_at ts) m a ts) → ranks_at levels (suc n) rank m a ts ≡ ranks_at levels (suc more) (rank_at ts) m a ts
unfolding ranks_at
passed_one true n levels rank more m a ts e most from all on =
    let here : rank ≡ rank_at ts = sym (eqb-true (rank_at ts) rank (sym e)) in
    let count : suc n ≡ suc more = omega arith in
    ap (λ (k : ℕ). ranks_at levels k rank m a ts) count ∙ ap (λ (k : ℕ). ranks_at levels (suc more) k m a ts) here
passed_one false n levels rank more m a ts e most from all on =
    let other : rank_at ts ≡ rank → ⊥ = eqb-false (rank_at ts) rank (sym e) in
    let below : suc rank ≤ rank_at ts = omega arith in
    let here : rank < 6 = omega arith in
    let most' : suc rank + n ≤ 6 = omega arith in
    let all' : suc rank + n ≡ rank_at ts + suc more = omega arith in
    ap (λ (o : Outcome Chained). o >>= λ b rest. ranks_at levels n (suc rank) m b rest) (more_ends levels rank m a ts here (sym e))
    ∙ on most' below all'

-- The ranks before that of the next token are passed over.
passed : (n levels rank more : ℕ) (m : Mode) (a : Chained) (ts : List Token) → rank + n ≤ 6 → rank ≤ rank_at ts → rank + n ≡ rank_at ts + suc more → ranks_at levels n rank m a ts ≡ ranks_at levels (suc more) (rank_at ts) m a ts
passed zero levels rank more m a ts most from all = absurd (omega arith)
passed (suc n) levels rank more m a ts most from all =
    passed_one (eqb (rank_at ts) rank) n levels rank more m a ts refl most from all (λ most' below all'. passed n levels (suc rank) more m a ts most' below all')

-- the operator of the next token is taken, and the ranks go on behind it
ranked_on : (levels n end rank : ℕ) (m : Mode) (tree : Tree) (links : ℕ) (kind : OperandKind) (ts : List Token) → rank < 6 → rank_at ts ≡ rank → end ≡ rank + suc n →
    ranks_at levels (suc n) rank m (chained tree links kind) ts ≡ (one_more_at levels rank m links ts >>= λ p rest. on levels (end - rank_behind rank) (rank_behind rank) m tree p rest)
unfolding ranks_at more_at one_more_at
ranked_on levels n end zero m tree links kind ts h is_rank all =
    let e : suc n ≡ end - 0 = omega arith in
    plain_on levels 0 n m (chained tree links kind) ts h is_rank ∙ ap (λ (k : ℕ). one_more_at levels 0 m links ts >>= λ p rest. on levels k 0 m tree p rest) e
ranked_on levels n end (suc zero) m tree links kind ts h is_rank all =
    let e : suc n ≡ end - 1 = omega arith in
    plain_on levels 1 n m (chained tree links kind) ts h is_rank ∙ ap (λ (k : ℕ). one_more_at levels 1 m links ts >>= λ p rest. on levels k 1 m tree p rest) e
ranked_on levels n end (suc (suc zero)) m tree links kind ts h is_rank all =
    let e : n ≡ end - 3 = omega arith in
    right_on levels n m (chained tree links kind) ts is_rank ∙ ap (λ (k : ℕ). one_more_at levels 2 m links ts >>= λ p rest. on levels k 3 m tree p rest) e
ranked_on levels n end (suc (suc (suc zero))) m tree links kind ts h is_rank all =
    let e : suc n ≡ end - 3 = omega arith in
    plain_on levels 3 n m (chained tree links kind) ts h is_rank ∙ ap (λ (k : ℕ). one_more_at levels 3 m links ts >>= λ p rest. on levels k 3 m tree p rest) e
ranked_on levels n end (suc (suc (suc (suc zero)))) m tree links kind ts h is_rank all =
    let e : suc n ≡ end - 4 = omega arith in
    plain_on levels 4 n m (chained tree links kind) ts h is_rank ∙ ap (λ (k : ℕ). one_more_at levels 4 m links ts >>= λ p rest. on levels k 4 m tree p rest) e
ranked_on levels n end (suc (suc (suc (suc (suc zero))))) m tree links kind ts h is_rank all =
    let e : suc n ≡ end - 5 = omega arith in
    plain_on levels 5 n m (chained tree links kind) ts h is_rank ∙ ap (λ (k : ℕ). one_more_at levels 5 m links ts >>= λ p rest. on levels k 5 m tree p rest) e
ranked_on levels n end (suc (suc (suc (suc (suc (suc rank)))))) m tree links kind ts h is_rank all = absurd (omega arith)

-- ---- what the loop says

pub begins_on : (levels end : ℕ) (m : Mode) (a : Chained) (ts : List Token) → ranks_at levels end 0 m a ts ≡ ranks_at levels (end - 0) 0 m a ts
begins_on levels end m a ts = let e : end ≡ end - 0 = omega arith in ap (λ (k : ℕ). ranks_at levels k 0 m a ts) e

pub ranked_below : (from end : ℕ) (ts : List Token) → is_ranked from end ts ≡ true → (from ≤ rank_at ts) × (rank_at ts < end)
ranked_below from end ts h =
    let both = and_parts (leb from (rank_at ts)) (ltb (rank_at ts) end) h in (leb-true from (rank_at ts) both.0, ltb-true (rank_at ts) end both.1)

climbs_by : (n levels from end rank : ℕ) (m : Mode) (tree : Tree) (links : ℕ) (kind : OperandKind) (ts : List Token) → n ≡ end - suc rank → end ≤ 6 → from ≤ rank_at ts → rank_at ts < end → rank ≡ rank_at ts →
    ranks_at levels (end - from) from m (chained tree links kind) ts ≡ (one_more_at levels rank m links ts >>= λ p rest. on levels (end - rank_behind rank) (rank_behind rank) m tree p rest)
climbs_by n levels from end rank m tree links kind ts is most low high same =
    let within : from + (end - from) ≤ 6 = omega arith in
    let all : from + (end - from) ≡ rank_at ts + suc n = omega arith in
    let small : rank < 6 = omega arith in
    let is_end : end ≡ rank + suc n = omega arith in
    passed (end - from) levels from n m (chained tree links kind) ts within low all
    ∙ ap (λ (k : ℕ). ranks_at levels (suc n) k m (chained tree links kind) ts) (sym same)
    ∙ ranked_on levels n end rank m tree links kind ts small (sym same) is_end

pub climbs_on : (levels from end rank : ℕ) (m : Mode) (tree : Tree) (links : ℕ) (kind : OperandKind) (ts : List Token) → end ≤ 6 → is_ranked from end ts ≡ true → rank ≡ rank_at ts →
    ranks_at levels (end - from) from m (chained tree links kind) ts
    ≡ (one_more_at levels rank m links ts >>= λ p rest. ranks_at levels (end - rank_behind rank) (rank_behind rank) m (operand p.1.links (lua.operation p.0 tree p.1.tree)) rest)
climbs_on levels from end rank m tree links kind ts most h same =
    let r = ranked_below from end ts h in climbs_by (end - suc rank) levels from end rank m tree links kind ts refl most r.0 r.1 same

pub climbs_end : (levels from end : ℕ) (m : Mode) (a : Chained) (ts : List Token) → end ≤ 6 → is_ranked from end ts ≡ false → ranks_at levels (end - from) from m a ts ≡ Took a ts
unfolding ranks_at
climbs_end levels from end m a ts most h = go (end - from) refl
  where
    go : (n : ℕ) → n ≡ end - from → ranks_at levels n from m a ts ≡ Took a ts
    go zero e = refl
    go (suc k) e =
        let within : from + suc k ≤ 6 = omega arith in
        none_ranked (suc k) levels from m a ts within
        (λ p q. let high : rank_at ts < end = omega arith in let c : true ≡ false = sym (and_from (leb from (rank_at ts)) (ltb (rank_at ts) end) (le-leb from (rank_at ts) p) (lt-ltb (rank_at ts) end high)) ∙ h in true_false c)
