use Rattle.std.proofs.Common.{◌∙◌, sym, ap, arith}
use Rattle.std.specs.Option.{is_some}
use Rattle.std.proofs.lemmas.List.Quantifiers.{position-Some}
use Rattle.back_end.specs.Worklist.{is_id}
use Rattle.back_end.proofs.Placed.{no-start, start-at}
use Rattle.back_end.proofs.symbols.start_of.Goals as goal

pub returns-in_default : goal.returns-in_default
returns-in_default c =
    sym (no-start c.args.ids.now.keys c.args.starts.now c.args.f
    (sym c.get_index_of.ensures.found ∙ ap is_some c.in_default.is))

pub returns-in-Some-get : goal.returns-in-Some-get
returns-in-Some-get c =
    let found = position-Some (is_id c.args.f) c.args.ids.now.keys c.in-Some.place c.args.f (sym c.get_index_of.ensures.index ∙ c.in-Some.is) in
    c.in-Some-get.ensures.lookup.4 (omega arith) 0
    ∙ sym (start-at c.args.ids.now.keys c.args.starts.now c.args.f c.args.f c.in-Some.place found.0 found.1 found.2)

pub returns-in-None : goal.returns-in-None
returns-in-None c =
    let found = position-Some (is_id c.args.f) c.args.ids.now.keys c.in-Some.place c.args.f (sym c.get_index_of.ensures.index ∙ c.in-Some.is) in
    c.in-None.ensures.lookup.4 (omega arith) 0
    ∙ sym (start-at c.args.ids.now.keys c.args.starts.now c.args.f c.args.f c.in-Some.place found.0 found.1 found.2)
