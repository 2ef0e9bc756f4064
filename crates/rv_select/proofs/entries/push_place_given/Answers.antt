use Rattle.std.proofs.Common.{◌≡◌, ◌++◌, sym, subst}
use Rattle.std.specs.Prelude.{OnOk, map}
use Rattle.rv_isa.specs.Table.{word_of}
use Rattle.rv_select.proofs.Pushed.{place-given-more}
use Rattle.rv_select.proofs.entries.push_place_given.Goals as goal

pub returns : goal.returns
returns c =
    subst (λ z. OnOk c.push_place.result (c.push_place.new.code.items ≡ c.args.code.now.items ++ map word_of z))
    (sym (place-given-more c.args.frame c.args.place c.if-frame-eq0.false)) c.push_place.ensures
