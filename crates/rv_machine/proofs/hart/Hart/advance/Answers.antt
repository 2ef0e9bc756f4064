use Rattle.std.proofs.Common.{◌≡◌, sym, ap, ◌∙◌, subst, map, Option, Some, Bor}
use Rattle.std.specs.Prelude.{option_map, IfSome}
use Rattle.rv_isa.specs.declared.instr.Instr.{Instr}
use Rattle.rv_machine.specs.declared.decoded.Decoded.{Decoded}
use Rattle.rv_machine.specs.Decoded.{found_of}
use Rattle.rv_machine.specs.Machine.{GoesOn, fetch, obeys}
use Rattle.rv_machine.specs.Place.{address_at}
use Rattle.rv_machine.specs.Shown.{stands_at}
use Rattle.rv_machine.proofs.Programs.{not_at_zero, found_at}
use Rattle.rv_machine.proofs.Places.{fetch_place, if_some}
use Rattle.rv_machine.proofs.hart.Hart.advance.Goals as goal

pub returns-in-Some-clause-on : goal.returns-in-Some-clause-on
returns-in-Some-clause-on c =
    let text = c.args.text.now in
    let there : Some (found_of c.in-Some.word.now) ≡ fetch (map found_of text) (address_at c.args.at) = sym (ap (option_map (λ (w : Bor Decoded). found_of w.now)) c.in-Some.is) ∙ found_at text c.args.at c.get.result c.get.ensures.lookup.0 c.get.ensures.lookup.1 ∙ sym (fetch_place text c.args.at c.ranges.at.fits c.requires.short) in
    if_some c.obey.result _ (not_at_zero (map found_of text) (address_at c.args.at) (found_of c.in-Some.word.now) there)

pub returns-in-Some-clause-some : goal.returns-in-Some-clause-some
returns-in-Some-clause-some c =
    let text = c.args.text.now in
    let there : Some (found_of c.in-Some.word.now) ≡ fetch (map found_of text) (address_at c.args.at) = sym (ap (option_map (λ (w : Bor Decoded). found_of w.now)) c.in-Some.is) ∙ found_at text c.args.at c.get.result c.get.ensures.lookup.0 c.get.ensures.lookup.1 ∙ sym (fetch_place text c.args.at c.ranges.at.fits c.requires.short) in
    subst (λ (f : Option (Option Instr)). IfSome c.obey.result (λ next. obeys f (stands_at c.args.self.now (address_at c.args.at)) ≡ GoesOn (stands_at c.obey.new.self (address_at next)))) there c.obey.ensures.some
