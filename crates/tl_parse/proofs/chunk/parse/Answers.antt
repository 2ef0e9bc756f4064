use Rattle.std.proofs.Common.{◌∙◌}
use Rattle.tl_parse.proofs.Whole.{gives_tree, gives_rest, gives_refusal}
use Rattle.tl_parse.proofs.chunk.parse.Goals as goal

pub returns-in-Err : goal.returns-in-Err
returns-in-Err c =
    let a = gives_refusal c.args.text.now c.new-parser.result c.in-Err.e c.new-parser.ensures c.in-Err.ensures.err in record { tree = a.tree; refused = a.refused; only = a.only }

pub returns-then-not-at_end : goal.returns-then-not-at_end
returns-then-not-at_end c =
    let a = gives_rest c.args.text.now c.new-parser.result c.block.new.self c.in-Ok.x c.refusal.result c.new-parser.ensures c.in-Ok.ensures.ok (c.at_end.ensures.more c.if-not-at_end.true) c.refusal.ensures in
    record { tree = a.tree; refused = a.refused; only = a.only }

pub returns : goal.returns
returns c =
    let a = gives_tree c.args.text.now c.new-parser.result c.block.new.self c.in-Ok.x c.new.result c.new-parser.ensures c.in-Ok.ensures.ok (c.at_end.ensures.end c.if-not-at_end.false) (c.new.ensures.nodes ∙ c.into_nodes.ensures) (c.new.ensures.finish ∙ c.finish-finish.ensures) in
    record { tree = a.tree; refused = a.refused; only = a.only }
