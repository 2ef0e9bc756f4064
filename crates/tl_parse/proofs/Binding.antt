-- Operands with operators between them, as far as they are read.
use Rattle.std.proofs.Common.{◌≡◌, ℕ, ◌-◌, ◌≤◌, true, false, List, [], ◌∷◌, ◌++◌, sym, ap, ◌∙◌}
use Rattle.tl_base.specs.declared.ids.NodeId.{NodeId}
use Rattle.tl_tree.specs.declared.mode.Mode.{Mode}
use Rattle.tl_tree.specs.declared.mode.OperandKind.{OperandKind}
use Rattle.tl_tree.specs.declared.node.Expression.TheVariants as expressions
use Rattle.tl_tree.specs.Tokens.{Token}
use Rattle.tl_tree.specs.Tree.{Tree}
use Rattle.tl_tree.specs.Item.{Item}
use Rattle.tl_tree.specs.Item as kept
use Rattle.tl_tree.specs.Nodes.{added, last_of}
use Rattle.tl_tree.specs.Grammar.{Outcome, ◌>>=◌}
use Rattle.tl_tree.specs.Forms.{Chained, chained, operand, binary_of}
use Rattle.tl_tree.specs.LuaExpressions as lua
use Rattle.tl_parse.specs.Views.Parsing.{token_of, tokens_left, items_of, Fails, TookOperand}
use Rattle.tl_parse.specs.Views.Expressions.{unary_at, ranks_at, binary_at, one_more_at}
use Rattle.tl_parse.specs.Views.Ranks.{rank_at, is_ranked, rank_behind}
use Rattle.tl_parse.specs.Views.Going.{TookOperation, Binding}
use Rattle.tl_parse.specs.Views.Joining.{Joined}
use Rattle.tl_parse.specs.declared.error.SyntaxError.{SyntaxError}
use Rattle.tl_parse.specs.declared.parser.Parser.{Parser}
use Rattle.tl_parse.specs.declared.parser.Next as code
use Rattle.tl_parse.specs.declared.parser.Operand.{Operand}
use Rattle.tl_parse.proofs.Climbing.{begins_on, climbs_on, climbs_end}
use Rattle.tl_parse.proofs.Failing.{fails_bind, fails_from}

-- the first operand
pub binding_first : (levels end : ℕ) (m : Mode) (links : ℕ) (start now : Parser) (a : Operand) → TookOperand start now (unary_at levels m links (tokens_left start)) a → Binding levels 0 end m start now (binary_at levels end m links (tokens_left start)) a
unfolding binary_at
binding_first levels end m links start now a t =
    record {
      tree = t.tree;
      goes_on =
          ap (λ (o : Outcome Chained). o >>= λ b rest. ranks_at levels end 0 m b rest) t.took
          ∙ begins_on levels end m (chained t.tree a.links a.kind) (tokens_left now);
      finish = t.finish;
      items = t.items;
      is_last = t.is_last;
    }

-- what follows the first operand fails where that does
pub binding_none : (levels end : ℕ) (m : Mode) (links : ℕ) (p : Parser) (e : SyntaxError) → Fails p (unary_at levels m links (tokens_left p)) e → Fails p (binary_at levels end m links (tokens_left p)) e
unfolding binary_at
binding_none levels end m links p e f = fails_bind p (unary_at levels m links (tokens_left p)) (λ a rest. ranks_at levels end 0 m a rest) e f

-- the nodes of an operator with its operands
joined_items : (start now mid new : Parser) (x : code.Next) (tree right : Tree) (a b r : Operand) → items_of now ≡ (added tree (items_of start)).items → a.node ≡ last_of (items_of now) → items_of mid ≡ (added right (items_of now)).items → b.node ≡ last_of (items_of mid) → Joined mid new x a b.node b.links r →
    items_of new ≡ (added (lua.operation (token_of x) tree right) (items_of start)).items
joined_items start now mid new x tree right a b r before a_last items b_last j =
    let all : items_of mid ≡ (added right (added tree (items_of start)).items).items = items ∙ ap (λ (i : List Item). (added right i).items) before in
    j.pushed.items
    ∙ ap (λ (i : List Item). i ++ made a.node b.node ∷ []) all
    ∙ ap (λ (n : NodeId). both ++ made n b.node ∷ []) (a_last ∙ ap (λ (i : List Item). last_of i) before)
    ∙ ap (λ (n : NodeId). both ++ made (last_of (added tree (items_of start)).items) n ∷ []) (b_last ∙ ap (λ (i : List Item). last_of i) all)
  where
    both : List Item
    both = (added right (added tree (items_of start)).items).items

    made : NodeId → NodeId → Item
    made n k = kept.Expression x.place (expressions.Binary (binary_of x.symbol) n k)

-- one more operator, with its right operand
pub binding_next : (levels from back end rank : ℕ) (m : Mode) (start now mid new : Parser) (o : Outcome Chained) (a b r : Operand) (x : code.Next) → end ≤ 6 → is_ranked from end (tokens_left now) ≡ true → rank ≡ rank_at (tokens_left now) → back ≡ rank_behind rank →
    Binding levels from end m start now o a → TookOperation now mid (one_more_at levels rank m a.links (tokens_left now)) x b → Joined mid new x a b.node b.links r → Binding levels back end m start new o r
binding_next levels from back end rank m start now mid new o a b r x most some same behind i t j =
    record {
      tree = made;
      goes_on =
          i.goes_on ∙ climbs_on levels from end rank m i.tree a.links a.kind (tokens_left now) most some same
          ∙ ap (λ (o : Outcome (Token × Chained)). o >>= λ p rest. ranks_at levels (end - rank_behind rank) (rank_behind rank) m (operand p.1.links (lua.operation p.0 i.tree p.1.tree)) rest) t.took
          ∙ ap (λ (ts : List Token). ranks_at levels (end - rank_behind rank) (rank_behind rank) m (operand b.links made) ts) (sym j.pushed.rest)
          ∙ ap (λ (links : ℕ). ranks_at levels (end - rank_behind rank) (rank_behind rank) m (operand links made) (tokens_left new)) (sym j.links)
          ∙ ap (λ (kind : OperandKind). ranks_at levels (end - rank_behind rank) (rank_behind rank) m (chained made r.links kind) (tokens_left new)) (sym j.kind)
          ∙ ap (λ (k : ℕ). ranks_at levels (end - k) k m (chained made r.links r.kind) (tokens_left new)) (sym behind);
      finish = j.pushed.finish ∙ t.finish ∙ i.finish;
      items = joined_items start now mid new x i.tree t.tree a b r i.items i.is_last t.items t.is_last j;
      is_last = j.pushed.is_last;
    }
  where
    made : Tree
    made = lua.operation (token_of x) i.tree t.tree

-- the operator or its right operand fails
pub binding_fails : (levels from end rank : ℕ) (m : Mode) (start now : Parser) (o : Outcome Chained) (a : Operand) (e : SyntaxError) → end ≤ 6 → is_ranked from end (tokens_left now) ≡ true → rank ≡ rank_at (tokens_left now) →
    Binding levels from end m start now o a → Fails now (one_more_at levels rank m a.links (tokens_left now)) e → Fails start o e
binding_fails levels from end rank m start now o a e most some same i f =
    fails_from start now o (one_more_at levels rank m a.links (tokens_left now) >>= λ p rest. ranks_at levels (end - rank_behind rank) (rank_behind rank) m (operand p.1.links (lua.operation p.0 i.tree p.1.tree)) rest) e
    (i.goes_on ∙ climbs_on levels from end rank m i.tree a.links a.kind (tokens_left now) most some same)
    i.finish
    (fails_bind now (one_more_at levels rank m a.links (tokens_left now)) (λ p rest. ranks_at levels (end - rank_behind rank) (rank_behind rank) m (operand p.1.links (lua.operation p.0 i.tree p.1.tree)) rest) e f)

-- no operator of the ranks follows
pub binding_ends : (levels from end : ℕ) (m : Mode) (start now : Parser) (o : Outcome Chained) (a : Operand) → end ≤ 6 → is_ranked from end (tokens_left now) ≡ false → Binding levels from end m start now o a → TookOperand start now o a
binding_ends levels from end m start now o a most none i =
    record {
      tree = i.tree;
      took = i.goes_on ∙ climbs_end levels from end m (chained i.tree a.links a.kind) (tokens_left now) most none;
      finish = i.finish;
      items = i.items;
      is_last = i.is_last;
    }
