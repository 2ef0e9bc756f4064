use Rattle.std.proofs.Common.{◌≡◌, ◌≤◌, ℕ, List, length, Some, option_map, sym, ap, subst, ◌∙◌, arith}
use Rattle.std.proofs.lemmas.Bool.{leb-true}
use Rattle.std.proofs.lemmas.Result.{IfOk-weaker}
use Rattle.elf_image.specs.Calls.{symbol_named}
use Rattle.terrac_call.specs.Arguments.{Good, Bad, arguments_of}
use Rattle.terrac_call.specs.DueView.{due_of_rest, shown_due}
use Rattle.terrac_call.specs.JobView.{HasCount, shown_arguments, shown_call, shown_manner, texts_of}
use Rattle.terrac_call.proofs.Calls.{call_some, few_params}
use Rattle.terrac_call.proofs.exec.call_image.Goals as goal

pub ready-requires-clause-few : goal.ready-requires-clause-few
ready-requires-clause-few c =
    let named : Some c.in-Some.symbol.now ≡ symbol_named c.as_bytes.result.now c.args.image.now.exports =
    sym (ap (option_map (λ s. s.now)) c.in-Some.is) ∙ c.find.ensures in
    let count : length c.in-Good.values.items ≡ length c.as_slice.result.now =
    subst (HasCount (length c.as_slice.result.now)) c.in-Good.is c.in_ok-values.ensures.count in
    let few : length c.in-Some.symbol.now.params ≤ 8 = leb-true _ _
    (few_params c.args.image.now c.as_bytes.result.now c.in-Some.symbol.now c.requires named) in
    omega (arith, count, few, ap length c.deref-in-Good.ensures.value, ap length c.as_slice.ensures)

pub returns-in-Good : goal.returns-in-Good
returns-in-Good c =
    let image = c.args.image.now in
    let call = shown_call c.args.call.now in
    let symbol = c.in-Some.symbol.now in
    let values = c.deref-in-Good.result.now in
    let named : Some symbol ≡ symbol_named call.entry image.exports =
    sym (ap (option_map (λ s. s.now)) c.in-Some.is) ∙ c.find.ensures
    ∙ ap (λ (n : List ℕ). symbol_named n image.exports) c.as_bytes.ensures.value in
    let same : Good values ≡ arguments_of symbol.params 1 call.arguments =
    ap Good c.deref-in-Good.ensures.value ∙ sym (ap shown_arguments c.in-Good.is) ∙ c.in_ok-values.ensures.value
    ∙ ap (λ (cs : List ℕ). arguments_of cs 1 (texts_of c.deref.result.now)) c.as_slice.ensures
    ∙ ap (λ ws. arguments_of symbol.params 1 (texts_of ws)) c.deref.ensures.value in
    IfOk-weaker c.ready.result _ _
    (λ rest is. call_some image call (shown_manner c.args.manner.now) symbol (Good values) (due_of_rest rest) named same is) c.ready.ensures

pub returns-in_ok-due-in-Bad : goal.returns-in_ok-due-in-Bad
returns-in_ok-due-in-Bad c =
    let image = c.args.image.now in
    let call = shown_call c.args.call.now in
    let symbol = c.in-Some.symbol.now in
    let position = c.in-Bad.number in
    let named : Some symbol ≡ symbol_named call.entry image.exports =
    sym (ap (option_map (λ s. s.now)) c.in-Some.is) ∙ c.find.ensures
    ∙ ap (λ (n : List ℕ). symbol_named n image.exports) c.as_bytes.ensures.value in
    let same : Bad position ≡ arguments_of symbol.params 1 call.arguments =
    sym (ap shown_arguments c.in-Bad.is) ∙ c.in_ok-values.ensures.value
    ∙ ap (λ (cs : List ℕ). arguments_of cs 1 (texts_of c.deref.result.now)) c.as_slice.ensures
    ∙ ap (λ ws. arguments_of symbol.params 1 (texts_of ws)) c.deref.ensures.value in
    call_some image call (shown_manner c.args.manner.now) symbol (Bad position) (shown_due c.in_ok-due-in-Bad.due) named same
    c.in_ok-due-in-Bad.ensures
