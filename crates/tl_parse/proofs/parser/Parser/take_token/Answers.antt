use Rattle.std.proofs.Common.{false, refl, sym, ◌∙◌}
use Rattle.tl_tree.specs.Tokens.{is}
use Rattle.tl_tree.specs.declared.mode.TokenUse.TheVariants.{Plain}
use Rattle.tl_parse.specs.Views.Parsing.{tokens_left}
use Rattle.tl_parse.specs.Views.Using.{sign_at}
use Rattle.tl_parse.proofs.Taking.{taken, barred_there, refused_there, next_of}
use Rattle.tl_parse.proofs.parser.Parser.take_token.Goals as goal

pub returns-in-Ok-clause-ok : goal.returns-in-Ok-clause-ok
unfolding sign_at
returns-in-Ok-clause-ok c = taken (is c.args.symbol) false 0 Plain c.args.self.now c.advance.new.self c.in-Ok.x (sym c.next_is.ensures ∙ c.if-next_is.true) c.in-Ok.ensures.ok

pub returns-in-Err-clause-err : goal.returns-in-Err-clause-err
unfolding sign_at
returns-in-Err-clause-err c = barred_there (is c.args.symbol) false 0 Plain c.args.self.now c.in-Err.e (sym c.next_is.ensures ∙ c.if-next_is.true) c.in-Err.ensures.err

pub returns-else-next_is-clause-err : goal.returns-else-next_is-clause-err
unfolding sign_at
returns-else-next_is-clause-err c = refused_there (is c.args.symbol) false 0 Plain c.args.self.now c.refusal.result (sym c.next_is.ensures ∙ c.if-next_is.false) c.refusal.ensures

pub next_is-requires : goal.next_is-requires
next_is-requires c = c.requires

pub advance-requires : goal.advance-requires
advance-requires c = record { next = next_of (is c.args.symbol) (tokens_left c.args.self.now) (sym c.next_is.ensures ∙ c.if-next_is.true); sized = refl }
