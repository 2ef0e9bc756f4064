use Rattle.std.proofs.Common.{List, ap, sym, ◌∙◌}
use Rattle.tl_tree.specs.Tokens.{Token}
use Rattle.tl_tree.specs.Tree.{Tree, Nothing, More}
use Rattle.tl_tree.specs.Grammar.{Outcome, ◌>>=◌}
use Rattle.tl_parse.specs.Views.Parsing.{tokens_left}
use Rattle.tl_parse.specs.Views.Paths.{names_at, next_name_at, more_names_at}
use Rattle.tl_parse.proofs.Failing.{fails_bind}
use Rattle.tl_parse.proofs.Looping.{listing_first, listing_next, listing_fails}
use Rattle.tl_parse.proofs.StatementTurns.{names_go, name_shorter}
use Rattle.tl_parse.proofs.parser.Parser.names.Goals as goal

pub more-init : goal.more-init
unfolding names_at
more-init c =
    let n = c.in-Ok.ensures.ok in
    listing_first c.args.self.now c.name.new.self _ _ n.tree c.in-Ok.x c.in-Ok-one_node.x (ap (λ (o : Outcome Tree). o >>= λ e rest. more_names_at c.args.levels (More Nothing e) rest) n.took)
    n.finish n.items n.is_last c.in-Ok-one_node.ensures.ok

pub more-preserved : goal.more-preserved
more-preserved c =
    let e = c.in-Ok-next_name.ensures.ok in
    listing_next c.args.self.now c.more.self c.next_name.new.self _ _ e.tree c.in-Ok-next_name.x c.more.list c.add.new.list c.more.invariant
    (names_go c.args.levels c.more.invariant.tree (tokens_left c.more.self) (sym c.next_is.ensures ∙ c.more-test.true) ∙ ap (λ (o : Outcome Tree). o >>= λ e rest. more_names_at c.args.levels (More c.more.invariant.tree e) rest) e.took) e.finish e.items e.is_last c.in-Ok-add.ensures.ok

pub more-smaller : goal.more-smaller
more-smaller c = let e = c.in-Ok-next_name.ensures.ok in name_shorter e.tree (tokens_left c.more.self) (tokens_left c.next_name.new.self) e.took

pub returns-in-Err-next_name-clause-err : goal.returns-in-Err-next_name-clause-err
returns-in-Err-next_name-clause-err c =
    let tree = c.more.invariant.tree in
    let ts : List Token = tokens_left c.more.self in
    let e = c.in-Err-next_name.e in
    let names : Tree → List Token → Outcome Tree = λ n rest. more_names_at c.args.levels (More tree n) rest in
    listing_fails c.args.self.now c.more.self _ (next_name_at ts >>= names) _ c.more.list e c.more.invariant (names_go c.args.levels tree ts (sym c.next_is.ensures ∙ c.more-test.true))
    (fails_bind c.more.self (next_name_at ts) names e c.in-Err-next_name.ensures.err)
