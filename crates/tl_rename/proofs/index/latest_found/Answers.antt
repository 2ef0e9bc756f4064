use Rattle.std.proofs.Common.{ap, ◌∙◌}
use Rattle.std.specs.Option.{option_map}
use Rattle.tl_tree.specs.Arena.{items_of}
use Rattle.tl_rename.proofs.Keyed.{at_depth, found_latest}
use Rattle.tl_rename.proofs.index.latest_found.Goals as goal

pub returns-in-Some-clause-found : goal.returns-in-Some-clause-found
returns-in-Some-clause-found c =
    ap (option_map (at_depth c.args.depth)) c.in-Some.ensures
    ∙ found_latest (items_of c.args.tree.now) c.read_all.new.index.latest c.read_all.new.index.reached.items c.args.scope c.args.declared.now c.args.name.now c.args.depth
    c.requires.declared c.in_ok-read_all.ensures.reached c.in_ok-read_all.ensures.indexed

pub returns-in-None-clause-found : goal.returns-in-None-clause-found
returns-in-None-clause-found c =
    ap (option_map (at_depth c.args.depth)) c.in-None.ensures
    ∙ found_latest (items_of c.args.tree.now) c.read_all.new.index.latest c.read_all.new.index.reached.items c.args.scope c.args.declared.now c.args.name.now c.args.depth
    c.requires.declared c.in_ok-read_all.ensures.reached c.in_ok-read_all.ensures.indexed
