use Rattle.std.proofs.Common.{◌≡◌, sym, ap, ◌∙◌, ℕ, suc, List, []}
use Rattle.tl_base.specs.declared.place.Place.{Place}
use Rattle.terra_memory.specs.Region.{Contents, end_address, fresh}
use Rattle.terra_term.specs.Stores.{callable_of, contents_of, static_bytes}
use Rattle.terra_meaning.specs.Running.{State}
use Rattle.terra_meaning.specs.Meaning.{apply, place_in}
use Rattle.terra_eval.proofs.Ending.{same-start}
use Rattle.terra_eval.proofs.program.evaluate.Goals as goal

pub returns : goal.returns
returns c =
    let store = contents_of c.args.store.now in
    let n = c.args.n in
    let memory = c.args.memory in
    let region : c.in_ok-region.region ≡ fresh memory (static_bytes store) =
    c.in_ok-region.ensures ∙ ap (λ (l : List ℕ). fresh memory l) (c.deref.ensures.value ∙ c.in_ok-statics.ensures) in
    let start : State = record { variables = []; region = fresh memory (static_bytes store); left = n; out = [] } in
    let same : c.new-state.result ≡ start =
    c.new-state.ensures ∙ ap (λ (r : Contents). record { variables = []; region = r; left = n; out = [] }) region in
    let top : c.end_address.result ≡ end_address start.region = c.end_address.ensures ∙ ap (λ (s : State). end_address s.region) same in
    let go = λ (top : ℕ) (at : Place) (s : State). apply store c.args.entries.now (suc n) 0 top c.args.f c.args.arguments.now at s in
    let gave = same-start c.enter-given.result c.enter-given.new.state c.new-state.result start c.end_address.result (end_address start.region)
    c.place_of-at.result (place_in (callable_of store c.args.f)) go same top c.place_of-at.ensures c.enter-given.ensures in
    c.ended.ensures start.variables (go (end_address start.region) (place_in (callable_of store c.args.f)) start) c.enter-given.new.state
    (sym c.into_out.ensures) gave
