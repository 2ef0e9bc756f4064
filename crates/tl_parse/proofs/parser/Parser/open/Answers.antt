use Rattle.std.proofs.Common.{true, refl, sym, ◌∙◌}
use Rattle.tl_tree.specs.Tokens.{is}
use Rattle.tl_tree.specs.declared.mode.TokenUse.TheVariants.{Plain}
use Rattle.tl_parse.specs.Views.Parsing.{tokens_left}
use Rattle.tl_parse.specs.Views.Using.{open_at}
use Rattle.tl_parse.proofs.Taking.{taken_place, barred_there, refused_there, next_of, level_left}
use Rattle.tl_parse.proofs.parser.Parser.open.Goals as goal

pub returns-in-Ok-clause-ok : goal.returns-in-Ok-clause-ok
unfolding open_at
returns-in-Ok-clause-ok c = taken_place (is c.args.symbol) true c.args.levels Plain c.args.self.now c.advance.new.self c.in-Ok.x (sym c.next_is.ensures ∙ c.if-next_is.true) c.in-Ok.ensures.ok

pub returns-in-Ok-clause-level : goal.returns-in-Ok-clause-level
returns-in-Ok-clause-level c =
    level_left c.args.levels Plain c.args.self.now c.advance.new.self c.in-Ok.x (next_of (is c.args.symbol) (tokens_left c.args.self.now) (sym c.next_is.ensures ∙ c.if-next_is.true)) refl c.in-Ok.ensures.ok

pub returns-in-Err-clause-err : goal.returns-in-Err-clause-err
unfolding open_at
returns-in-Err-clause-err c = barred_there (is c.args.symbol) true c.args.levels Plain c.args.self.now c.in-Err.e (sym c.next_is.ensures ∙ c.if-next_is.true) c.in-Err.ensures.err

pub returns-else-next_is-clause-err : goal.returns-else-next_is-clause-err
unfolding open_at
returns-else-next_is-clause-err c = refused_there (is c.args.symbol) true c.args.levels Plain c.args.self.now c.refusal.result (sym c.next_is.ensures ∙ c.if-next_is.false) c.refusal.ensures

pub next_is-requires : goal.next_is-requires
next_is-requires c = c.requires

pub advance-requires : goal.advance-requires
advance-requires c = record { next = next_of (is c.args.symbol) (tokens_left c.args.self.now) (sym c.next_is.ensures ∙ c.if-next_is.true); sized = refl }
