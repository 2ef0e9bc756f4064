use Rattle.std.proofs.Common.{ap, ◌∙◌, List, map}
use Rattle.terra_types.specs.declared.types.TypeForm.{TypeForm}
use Rattle.terra_meaning.specs.Meaning.{in_block}
use Rattle.terra_eval.specs.Trees.{block_before}
use Rattle.tac_form.specs.declared.tac.Destination.{Destination}
use Rattle.tac_lower.specs.Items.{ends}
use Rattle.tac_lower.specs.Pieces.{given}
use Rattle.tac_lower.specs.Lowering.{received}
use Rattle.tac_lower.specs.Data.{ending_of, result_of}
use Rattle.tac_lower.specs.Works.{Made}
use Rattle.tac_lower.specs.declared.value.Value.{Value}
use Rattle.tac_lower.proofs.Receiving.{parts-code, parts-used}
use Rattle.tac_lower.proofs.callable.lower_parts.Goals as goal

pub returns-clause-parameters : goal.returns-clause-parameters
returns-clause-parameters c =
    let around = c.args.around.now in
    let k = c.args.k.now in
    let w0 = c.args.work.now in
    c.in_ok-parameters.ensures.parameters ∙ ap (λ (ts : List TypeForm). (received ts k.parameters.now w0.used).result) c.types.ensures
    ∙ ap (λ (z : Made). (received around.store.now.types k.parameters.now z.used).result) c.requires

pub returns-clause-code : goal.returns-clause-code
returns-clause-code c =
    let around = c.args.around.now in
    let k = c.args.k.now in
    let w0 = c.args.work.now in
    let places = c.in_ok-parameters.ensures.parameters ∙ ap (λ (ts : List TypeForm). (received ts k.parameters.now w0.used).result) c.types.ensures in
    let one = c.in_ok-parameters.ensures.work
    ∙ ap (λ (ts : List TypeForm). record w0 { used = (received ts k.parameters.now w0.used).used }) c.types.ensures in
    let values = ap (λ (l : List Value). map result_of l) c.deref-2.ensures.value ∙ c.in_ok-values.ensures
    ∙ ap (λ (l : List Destination). map given l) c.deref.ensures.value in
    parts-code around k w0 c.received.new.work c.declare_all.new.work c.lower_body.new.work c.end.new.self c.in_ok-parameters.parameters.items
    (map result_of c.deref-2.result.now) (ends (ending_of c.ending.result)) (in_block (block_before around.store.now k.node k.body.now))
    c.requires places one values c.in_ok-declare_all.ensures c.in_ok-lower_body.ensures c.in_ok-end.ensures (c.ending.ensures around.store.now)

pub returns-clause-used : goal.returns-clause-used
returns-clause-used c =
    let around = c.args.around.now in
    let k = c.args.k.now in
    let w0 = c.args.work.now in
    let places = c.in_ok-parameters.ensures.parameters ∙ ap (λ (ts : List TypeForm). (received ts k.parameters.now w0.used).result) c.types.ensures in
    let one = c.in_ok-parameters.ensures.work
    ∙ ap (λ (ts : List TypeForm). record w0 { used = (received ts k.parameters.now w0.used).used }) c.types.ensures in
    let values = ap (λ (l : List Value). map result_of l) c.deref-2.ensures.value ∙ c.in_ok-values.ensures
    ∙ ap (λ (l : List Destination). map given l) c.deref.ensures.value in
    parts-used around k w0 c.received.new.work c.declare_all.new.work c.lower_body.new.work c.end.new.self c.in_ok-parameters.parameters.items
    (map result_of c.deref-2.result.now) (ends (ending_of c.ending.result)) (in_block (block_before around.store.now k.node k.body.now))
    c.requires places one values c.in_ok-declare_all.ensures c.in_ok-lower_body.ensures c.in_ok-end.ensures (c.ending.ensures around.store.now)
