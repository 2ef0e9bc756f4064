use Rattle.std.proofs.Common.{◌∙◌, ap, sym}
use Rattle.std.specs.Prelude.{option_map}
use Rattle.terra_term.specs.Stores.{contents_of}
use Rattle.terra_eval.specs.Trees.{callable_tree}
use Rattle.back_end.proofs.Sounds.{is-there}
use Rattle.back_end.proofs.symbols.symbol_of.Goals as goal

pub unreachable-requires : goal.unreachable-requires
unreachable-requires c =
    is-there (contents_of c.args.store.now) c.args.export.now.function c.requires
    (sym c.callable_of.ensures.callable ∙ ap (option_map (callable_tree c.args.store.now)) c.in_default.is)
