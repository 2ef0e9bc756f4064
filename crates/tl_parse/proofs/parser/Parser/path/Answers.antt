use Rattle.std.proofs.Common.{List, ap, sym, ◌∙◌}
use Rattle.tl_tree.specs.declared.symbol.Symbol.TheVariants as symbols
use Rattle.tl_tree.specs.Tokens.{Token}
use Rattle.tl_tree.specs.Tree.{Tree, Nothing, More, Path}
use Rattle.tl_tree.specs.Grammar.{Outcome, Took, ◌>>=◌}
use Rattle.tl_parse.specs.Views.Parsing.{tokens_left}
use Rattle.tl_parse.specs.Views.Paths.{path_at, path_names_at, path_method_at, behind_sign_at}
use Rattle.tl_parse.proofs.Failing.{fails_bind}
use Rattle.tl_parse.proofs.Looping.{listing_first, listing_next, listing_fails}
use Rattle.tl_parse.proofs.StatementTurns.{path_goes, path_ends, path_shorter}
use Rattle.tl_parse.proofs.parser.Parser.path.Goals as goal

-- what is read behind the names
abbrev behind : Tree → List Token → Outcome Tree
behind ns b = path_method_at b >>= λ o rest. Took (Path ns o) rest

pub more-init : goal.more-init
unfolding path_at
more-init c =
    let n = c.in-Ok.ensures.ok in
    listing_first c.args.self.now c.name.new.self _ _ n.tree c.in-Ok.x c.in-Ok-one_node.x (ap (λ (o : Outcome Tree). o >>= λ n a. path_names_at c.args.levels (More Nothing n) a >>= λ ns b. behind ns b) n.took)
    n.finish n.items n.is_last c.in-Ok-one_node.ensures.ok

pub more-preserved : goal.more-preserved
more-preserved c =
    let e = c.in-Ok-behind_sign.ensures.ok in
    listing_next c.args.self.now c.more.self c.behind_sign.new.self _ _ e.tree c.in-Ok-behind_sign.x c.more.list c.add.new.list c.more.invariant
    (ap (λ (o : Outcome Tree). o >>= λ ns b. behind ns b) (path_goes c.args.levels c.more.invariant.tree (tokens_left c.more.self) (sym c.next_is.ensures ∙ c.more-test.true) ∙ ap (λ (o : Outcome Tree). o >>= λ e rest. path_names_at c.args.levels (More c.more.invariant.tree e) rest) e.took))
    e.finish e.items e.is_last c.in-Ok-add.ensures.ok

pub more-smaller : goal.more-smaller
more-smaller c = let e = c.in-Ok-behind_sign.ensures.ok in path_shorter e.tree (tokens_left c.more.self) (tokens_left c.behind_sign.new.self) e.took

pub returns-in-Err-behind_sign-clause-err : goal.returns-in-Err-behind_sign-clause-err
returns-in-Err-behind_sign-clause-err c =
    let tree = c.more.invariant.tree in
    let ts : List Token = tokens_left c.more.self in
    let e = c.in-Err-behind_sign.e in
    let o : Outcome Tree = behind_sign_at symbols.Dot ts in
    let names : Tree → List Token → Outcome Tree = λ n rest. path_names_at c.args.levels (More tree n) rest in
    listing_fails c.args.self.now c.more.self _ ((o >>= names) >>= λ ns b. behind ns b) _ c.more.list e c.more.invariant
    (ap (λ (o : Outcome Tree). o >>= λ ns b. behind ns b) (path_goes c.args.levels tree ts (sym c.next_is.ensures ∙ c.more-test.true)))
    (fails_bind c.more.self (o >>= names) (λ ns b. behind ns b) e (fails_bind c.more.self o names e c.in-Err-behind_sign.ensures.err))

pub returns-in-Err-path_method-clause-err : goal.returns-in-Err-path_method-clause-err
returns-in-Err-path_method-clause-err c =
    let tree = c.more.invariant.tree in
    let ts : List Token = tokens_left c.more.self in
    let e = c.in-Err-path_method.e in
    listing_fails c.args.self.now c.more.self _ (behind tree ts) _ c.more.list e c.more.invariant
    (ap (λ (o : Outcome Tree). o >>= λ ns b. behind ns b) (path_ends c.args.levels tree ts (sym c.next_is.ensures ∙ c.more-test.false)))
    (fails_bind c.more.self (path_method_at ts) (λ o rest. Took (Path tree o) rest) e c.in-Err-path_method.ensures.err)
