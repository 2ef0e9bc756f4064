use Rattle.std.proofs.Common.{◌≡◌, ℕ, ◌<◌, ◌≤◌, arith, sym, ap, subst, ◌∙◌, cond, Bool, List, length}
use Rattle.tl_tree.specs.declared.symbol.Symbol.TheVariants as symbols
use Rattle.tl_tree.specs.declared.mode.OperandKind.{OperandKind}
use Rattle.tl_tree.specs.Tokens.{Token}
use Rattle.tl_tree.specs.Item.{Item}
use Rattle.tl_tree.specs.Nodes.{added}
use Rattle.tl_tree.specs.Tree.{Tree, Nothing, More, Block}
use Rattle.tl_tree.specs.Grammar.{Outcome, Took, ◌>>=◌, down}
use Rattle.tl_tree.specs.Forms.{Chained, chained}
use Rattle.tl_tree.specs.LuaStatements.{Sequence, sequence}
use Rattle.tl_parse.specs.Views.Parsing.{token_of, placed, tokens_left, items_of}
use Rattle.tl_parse.specs.Views.Expressions.{Suffixed, attached, kind_of, suffixes_at, field_at, fields_at, more_fields_at, suffix_at, next_field_at, more_if}
use Rattle.tl_parse.specs.Views.Lists.{next_element_at, more_elements_at, elements_at}
use Rattle.tl_parse.specs.Views.Ranks.{rank_at}
use Rattle.tl_parse.specs.Views.Statements.{arms_at, more_arms_at, next_arm_at}
use Rattle.tl_parse.specs.Views.TerraExpressions.{TerraSuffixed, terra_attached, terra_kind_of, terra_suffixes_at, terra_applied_at, terra_suffix_at, next_initialiser_at, more_initialisers_at}
use Rattle.tl_parse.specs.Views.TerraExpressions.{terra_more_at, terra_binary_at}
use Rattle.tl_parse.specs.Views.TerraStatements.{terra_assignment_at}
use Rattle.tl_parse.specs.Views.Blocks.{more_statements_at, next_statement_at}
use Rattle.tl_parse.specs.Views.Entries.{more_entries_at, entry_at}
use Rattle.tl_parse.specs.declared.parser.Code.TheVariants as codes
use Rattle.tl_parse.specs.declared.parser.Element.TheVariants as elements
use Rattle.tl_parse.proofs.Choosing.{chosen, chosen_suffix, chosen_terra_suffix, chosen_fails, suffix_is, suffix_others, terra_suffix_is, terra_suffix_others, simple_is, simple_others, statement_is, statement_others, terra_statement_is, terra_statement_others}
use Rattle.tl_parse.proofs.Elements.{expression_element, target_element, variable_element, parameter_element}
use Rattle.tl_parse.proofs.Uses.{operator_with}
use Rattle.tl_parse.proofs.Turns.{suffix_shorter, suffixes_go, elements_go, elements_end, element_shorter, fields_go, fields_end, field_shorter}
use Rattle.tl_parse.proofs.Failing.{fails_same, fails_bind, fails_from}
use Rattle.tl_parse.proofs.Parts.{fields_part}
use Rattle.tl_parse.proofs.Climbing.{ranked_below, one_more_shorter}
use Rattle.tl_parse.proofs.Binding.{binding_first, binding_none, binding_next, binding_fails, binding_ends}
use Rattle.tl_parse.proofs.TerraParts as terra_parts
use Rattle.tl_parse.proofs.Blocks.{block_goes, statement_shorter}
use Rattle.tl_parse.proofs.Looping.{listing_first, listing_next, listing_stops, listing_ends, numbers_next, targets_begin, targets_next, names_begin, names_next}
use Rattle.tl_parse.proofs.Looping.{body_fails}
use Rattle.tl_parse.proofs.TerraTurns.{terra_suffix_shorter, terra_suffixes_go, terra_operation_shorter, terra_operations_go, initialisers_end, entries_end, entry_shorter, initialiser_shorter}
use Rattle.tl_parse.proofs.TerraTurns.{initialisers_go, entries_go}
use Rattle.tl_parse.proofs.TerraStatementParts.{terra_type_fails, terra_block_fails}
use Rattle.tl_parse.proofs.TerraStatementTurns.{arms_go, arms_end, arm_shorter, terra_targets_go, terra_target_shorter}
use Rattle.tl_parse.proofs.parser.Parser.+parser.Goals as goal

pub applied-more-smaller : goal.applied-more-smaller
applied-more-smaller t c =
    suffix_shorter c.args.levels c.args.mode c.more.a.links c.in-Ok-suffix.ensures.ok.suffix (tokens_left c.more.self) (tokens_left c.suffix.new.self) (sym c.next_is_suffix-in-more.ensures ∙ c.more-test.true) c.in-Ok-suffix.ensures.ok.took

pub binary-more-smaller : goal.binary-more-smaller
binary-more-smaller t c =
    let o = c.in-Ok-one_more.ensures.ok in
    let x = c.in-Ok-one_more.x in
    let rank = c.next_rank-rank.result in
    let below = ranked_below c.more.from c.args.ranks (tokens_left c.more.self) (sym c.next_is_ranked.ensures ∙ c.more-test.true) in
    let high : rank_at (tokens_left c.more.self) < c.args.ranks = below.1 in
    let same : rank ≡ rank_at (tokens_left c.more.self) = c.next_rank-rank.ensures in
    let most : c.args.ranks ≤ 6 = c.requires in
    let small : rank < 6 = omega arith in
    subst (λ (ts : List Token). length ts < length (tokens_left c.more.self)) (sym c.in-Ok-operation.ensures.ok.pushed.rest)
    (one_more_shorter c.args.levels rank c.args.mode c.more.a.links (operator_with (token_of x.0) (chained o.tree x.1.links x.1.kind)) (tokens_left c.more.self) (tokens_left c.one_more.new.self) small o.took)

pub call_or_assignment-more-init : goal.call_or_assignment-more-init
call_or_assignment-more-init t c =
    let a = c.in-Ok.ensures.ok in
    let x = c.in-Ok.x in
    listing_first c.args.self.now c.applied.new.self _ _ a.tree x.node c.in-Ok-one_node.x (targets_begin c.args.levels c.args.mode (tokens_left c.args.self.now) (tokens_left c.applied.new.self) a.tree x.links x.kind a.took (sym c.is_call.ensures ∙ c.if-is_call.false))
    a.finish a.items a.is_last c.in-Ok-one_node.ensures.ok

pub call_or_assignment-more-preserved : goal.call_or_assignment-more-preserved
call_or_assignment-more-preserved t c =
    let e = c.in-Ok-next_element.ensures.ok in
    listing_next c.args.self.now c.more.self c.next_element.new.self _ _ e.tree c.in-Ok-next_element.x c.more.targets c.add.new.list c.more.invariant
    (targets_next c.args.levels c.args.mode _ c.more.invariant.tree e.tree (tokens_left c.more.self) (tokens_left c.next_element.new.self) (sym c.next_is.ensures ∙ c.more-test.true) e.took) e.finish e.items e.is_last c.in-Ok-add.ensures.ok

pub for_statement-more-init : goal.for_statement-more-init
for_statement-more-init t c =
    let s = c.in-Ok.ensures.ok in
    let n = c.in-Ok-name.ensures.ok in
    listing_first c.args.self.now c.name.new.self _ _ n.tree c.in-Ok-name.x c.in-Ok-one_node.x (names_begin c.args.levels c.args.context (tokens_left c.args.self.now) (tokens_left c.take.new.self) (tokens_left c.name.new.self) (placed s.token c.in-Ok.x) n.tree s.took n.took (sym c.next_is.ensures ∙ c.if-next_is.false))
    (n.finish ∙ s.finish) (n.items ∙ ap (λ (i : List Item). (added n.tree i).items) s.items) n.is_last c.in-Ok-one_node.ensures.ok

pub for_statement-more-preserved : goal.for_statement-more-preserved
for_statement-more-preserved t c =
    let e = c.in-Ok-next_name.ensures.ok in
    listing_next c.args.self.now c.more.self c.next_name.new.self _ _ e.tree c.in-Ok-next_name.x c.more.names c.add.new.list c.more.invariant
    (names_next c.args.levels c.args.context _ c.more.invariant.tree e.tree (tokens_left c.more.self) (tokens_left c.next_name.new.self) (sym c.next_is-in-more.ensures ∙ c.more-test.true) e.took) e.finish e.items e.is_last c.in-Ok-add.ensures.ok

pub function_body-returns-in-Err-block-clause-err : goal.function_body-returns-in-Err-block-clause-err
function_body-returns-in-Err-block-clause-err t c =
    let o = c.in_default.ensures.ok in
    let p = c.in-Ok.ensures.ok in
    let s = c.in_default-take.ensures.ok in
    body_fails c.args.self.now c.take.new.self c.args.levels (tokens_left c.open.new.self) (tokens_left c.parameters.new.self) (placed o.token c.in_default.field-0) p.tree c.in-Ok.x.1 (placed s.token c.in_default-take.field-0) c.fresh.result c.in-Err-block.e
    o.took p.took s.took c.fresh.ensures (s.finish ∙ p.finish ∙ o.finish) c.in-Err-block.ensures.err

pub terra_function_body-returns-in-Err-optional_expression-clause-err : goal.terra_function_body-returns-in-Err-optional_expression-clause-err
terra_function_body-returns-in-Err-optional_expression-clause-err t c =
    let o = c.in-Ok.ensures.ok in
    let p = c.in-Ok-terra_parameters.ensures.ok in
    let s = c.in_default.ensures.ok in
    terra_type_fails c.args.self.now c.take.new.self c.args.levels (tokens_left c.open.new.self) (tokens_left c.terra_parameters.new.self) (placed o.token c.in-Ok.x) (placed s.token c.in_default.field-0) p.tree c.in-Err-optional_expression.e
    o.took p.took s.took (s.finish ∙ p.finish ∙ o.finish) c.in-Err-optional_expression.ensures.err

pub terra_function_body-returns-in-Err-block-clause-err : goal.terra_function_body-returns-in-Err-block-clause-err
terra_function_body-returns-in-Err-block-clause-err t c =
    let o = c.in-Ok.ensures.ok in
    let p = c.in-Ok-terra_parameters.ensures.ok in
    let s = c.in_default.ensures.ok in
    let w = c.in-Ok-optional_expression.ensures.ok in
    terra_block_fails c.args.self.now c.optional_expression.new.self c.args.levels (tokens_left c.open.new.self) (tokens_left c.terra_parameters.new.self) (tokens_left c.take.new.self) (placed o.token c.in-Ok.x) (placed s.token c.in_default.field-0) p.tree w.tree c.in-Err-block.e
    o.took p.took s.took w.took (w.finish ∙ s.finish ∙ p.finish ∙ o.finish) c.in-Err-block.ensures.err

pub terra_applied-more-smaller : goal.terra_applied-more-smaller
terra_applied-more-smaller t c =
    terra_suffix_shorter c.args.levels c.more.a.links c.in-Ok-terra_suffix.ensures.ok.suffix (tokens_left c.more.self) (tokens_left c.terra_suffix.new.self) (sym c.next_is_terra_suffix.ensures ∙ c.more-test.true) c.in-Ok-terra_suffix.ensures.ok.took

pub terra_binary-more-smaller : goal.terra_binary-more-smaller
terra_binary-more-smaller t c =
    let o = c.in-Ok-terra_one_more.ensures.ok in
    let x = c.in-Ok-terra_one_more.x in
    subst (λ (ts : List Token). length ts < length (tokens_left c.more.self)) (sym c.in-Ok-terra_operation.ensures.ok.pushed.rest)
    (terra_operation_shorter c.args.levels c.args.precedence c.more.a.links (operator_with (token_of x.0) (chained o.tree x.1.links x.1.kind)) (tokens_left c.more.self) (tokens_left c.terra_one_more.new.self) o.took)

pub elements-more-init : goal.elements-more-init
unfolding elements_at
elements-more-init t c =
    let e = c.in-Ok.ensures.ok in
    listing_first c.args.self.now c.element.new.self _ _ e.tree c.in-Ok.x c.in-Ok-one_node.x (ap (λ (o : Outcome Tree). o >>= λ e rest. more_elements_at c.args.levels c.args.kind (More Nothing e) rest) e.took)
    e.finish e.items e.is_last c.in-Ok-one_node.ensures.ok

pub elements-more-preserved : goal.elements-more-preserved
elements-more-preserved t c =
    let e = c.in-Ok-next_element.ensures.ok in
    listing_next c.args.self.now c.more.self c.next_element.new.self _ _ e.tree c.in-Ok-next_element.x c.more.list c.add.new.list c.more.invariant
    (elements_go c.args.levels c.args.kind c.more.invariant.tree (tokens_left c.more.self) (sym c.next_is.ensures ∙ c.more-test.true) ∙ ap (λ (o : Outcome Tree). o >>= λ e rest. more_elements_at c.args.levels c.args.kind (More c.more.invariant.tree e) rest) e.took) e.finish e.items e.is_last c.in-Ok-add.ensures.ok

pub arms-more-init : goal.arms-more-init
unfolding arms_at
arms-more-init t c =
    let e = c.in-Ok.ensures.ok in
    listing_first c.args.self.now c.arm.new.self _ _ e.tree c.in-Ok.x c.in-Ok-one_node.x (ap (λ (o : Outcome Tree). o >>= λ e rest. more_arms_at c.args.levels c.args.block (More Nothing e) rest) e.took)
    e.finish e.items e.is_last c.in-Ok-one_node.ensures.ok

pub arms-more-preserved : goal.arms-more-preserved
arms-more-preserved t c =
    let e = c.in-Ok-next_arm.ensures.ok in
    listing_next c.args.self.now c.more.self c.next_arm.new.self _ _ e.tree c.in-Ok-next_arm.x c.more.list c.add.new.list c.more.invariant
    (arms_go c.args.levels c.args.block c.more.invariant.tree (tokens_left c.more.self) (sym c.next_is.ensures ∙ c.more-test.true) ∙ ap (λ (o : Outcome Tree). o >>= λ e rest. more_arms_at c.args.levels c.args.block (More c.more.invariant.tree e) rest) e.took) e.finish e.items e.is_last c.in-Ok-add.ensures.ok

pub applied-more-preserved : goal.applied-more-preserved
applied-more-preserved t c =
    let i = c.more.invariant in
    let s = c.in-Ok-suffix.ensures.ok in
    let r = c.in-Ok-suffix.x in
    let made : Tree = attached s.suffix i.tree in
    let rest : List Token = tokens_left c.suffix.new.self in
    record {
      tree = made;
      goes_on =
          i.goes_on ∙ suffixes_go c.args.levels c.args.mode i.tree c.more.a.links c.more.a.kind (tokens_left c.more.self) (sym c.next_is_suffix-in-more.ensures ∙ c.more-test.true)
          ∙ ap (λ (o : Outcome Suffixed). o >>= λ s rest. suffixes_at c.args.levels c.args.mode (chained (attached s i.tree) (down c.more.a.links) (kind_of s)) rest) s.took
          ∙ ap (λ (links : ℕ). suffixes_at c.args.levels c.args.mode (chained made links (kind_of s.suffix)) rest) (sym s.links)
          ∙ ap (λ (kind : OperandKind). suffixes_at c.args.levels c.args.mode (chained made r.links kind) rest) (sym s.kind);
      finish = s.finish ∙ i.finish;
      items = s.items i.tree (items_of c.args.self.now) i.items i.is_last;
      is_last = s.is_last;
    }

pub terra_applied-more-preserved : goal.terra_applied-more-preserved
terra_applied-more-preserved t c =
    let i = c.more.invariant in
    let s = c.in-Ok-terra_suffix.ensures.ok in
    let r = c.in-Ok-terra_suffix.x in
    let made : Tree = terra_attached s.suffix i.tree in
    let rest : List Token = tokens_left c.terra_suffix.new.self in
    record {
      tree = made;
      goes_on =
          i.goes_on ∙ terra_suffixes_go c.args.levels i.tree c.more.a.links c.more.a.kind (tokens_left c.more.self) (sym c.next_is_terra_suffix.ensures ∙ c.more-test.true)
          ∙ ap (λ (o : Outcome TerraSuffixed). o >>= λ s rest. terra_suffixes_at c.args.levels (chained (terra_attached s i.tree) (down c.more.a.links) (terra_kind_of s)) rest) s.took
          ∙ ap (λ (links : ℕ). terra_suffixes_at c.args.levels (chained made links (terra_kind_of s.suffix)) rest) (sym s.links)
          ∙ ap (λ (kind : OperandKind). terra_suffixes_at c.args.levels (chained made r.links kind) rest) (sym s.kind);
      finish = s.finish ∙ i.finish;
      items = s.items i.tree (items_of c.args.self.now) i.items i.is_last;
      is_last = s.is_last;
    }

pub binary-more-init : goal.binary-more-init
binary-more-init t c = binding_first c.args.levels c.args.ranks c.args.mode c.args.links c.args.self.now c.unary.new.self c.in-Ok.x c.in-Ok.ensures.ok

pub terra_binary-more-init : goal.terra_binary-more-init
unfolding terra_binary_at
terra_binary-more-init t c =
    let o = c.in-Ok.ensures.ok in
    record {
      tree = o.tree;
      goes_on = ap (λ (o : Outcome Chained). o >>= λ a rest. terra_more_at c.args.levels c.args.precedence a rest) o.took;
      finish = o.finish;
      items = o.items;
      is_last = o.is_last;
    }

pub terra_applied-more-init : goal.terra_applied-more-init
unfolding terra_applied_at
terra_applied-more-init t c =
    let o = c.in-Ok.ensures.ok in
    record {
      tree = o.tree;
      goes_on = ap (λ (o : Outcome Chained). o >>= λ a rest. terra_suffixes_at c.args.levels a rest) o.took;
      finish = o.finish;
      items = o.items;
      is_last = o.is_last;
    }

pub entries-more-preserved : goal.entries-more-preserved
entries-more-preserved t c =
    let e = c.in-Ok.ensures.ok in
    listing_next c.args.self.now c.more.self c.entry.new.self _ _ e.tree c.in-Ok.x c.more.list c.add.new.list c.more.invariant
    (entries_go c.args.levels c.args.mode c.more.invariant.tree (tokens_left c.more.self) (sym c.next_is.ensures ∙ c.more-test.true) ∙ ap (λ (o : Outcome Tree). o >>= λ e rest. more_entries_at c.args.levels c.args.mode (More c.more.invariant.tree e) rest) e.took) e.finish e.items e.is_last c.in-Ok-add.ensures.ok

pub terra_simple_statement-more-preserved : goal.terra_simple_statement-more-preserved
terra_simple_statement-more-preserved t c =
    let e = c.in-Ok-next_element.ensures.ok in
    listing_next c.args.self.now c.more.self c.next_element.new.self _ _ e.tree c.in-Ok-next_element.x c.more.targets c.add.new.list c.more.invariant
    (terra_targets_go c.args.levels c.next_place-place.result c.more.invariant.tree (tokens_left c.more.self) (sym c.next_is.ensures ∙ c.more-test.true) ∙ ap (λ (o : Outcome Tree). o >>= λ e rest. terra_assignment_at c.args.levels c.next_place-place.result (More c.more.invariant.tree e) rest) e.took) e.finish e.items e.is_last c.in-Ok-add.ensures.ok

pub block-more-preserved : goal.block-more-preserved
block-more-preserved t c =
    let i = c.more.invariant in
    let s = c.in-Ok.ensures.ok in
    record {
      tree = More i.tree s.tree;
      goes_on =
          i.goes_on
          ∙ ap (λ (o : Outcome Sequence). o >>= λ a rest. Took (Block a.statements) rest)
          (block_goes c.args.levels c.args.block i.tree c.more.ended (tokens_left c.more.self) (sym c.next_goes_on.ensures ∙ c.more-test.true) ∙ ap (λ (o : Outcome Sequence). o >>= λ s rest. more_statements_at c.args.levels c.args.block (More i.tree s.statements) s.ended rest) s.took);
      finish = s.finish ∙ i.finish;
      items = s.items ∙ ap (λ (x : List Item). (added s.tree x).items) i.items;
      list = numbers_next c.args.self.now c.more.self _ i.tree s.tree c.in-Ok.x.0 c.more.list c.add.new.list i.items i.list s.items s.is_last c.in-Ok-add.ensures.ok;
    }

pub fields-more-init : goal.fields-more-init
unfolding fields_at
fields-more-init t c =
    let e = c.in-Ok.ensures.ok in
    let ts = tokens_left c.args.self.now in
    listing_first c.args.self.now c.field.new.self _ _ e.tree c.in-Ok.x c.in-Ok-one_node.x
    (fields_part c.args.levels c.args.mode ts
    ∙ ap (λ (b : Bool). cond b (Took Nothing ts) (field_at c.args.levels c.args.mode ts >>= λ f rest. more_fields_at c.args.levels c.args.mode (More Nothing f) rest)) (sym c.next_is.ensures ∙ c.if-next_is.false)
    ∙ ap (λ (o : Outcome Tree). o >>= λ f rest. more_fields_at c.args.levels c.args.mode (More Nothing f) rest) e.took)
    e.finish e.items e.is_last c.in-Ok-one_node.ensures.ok

pub fields-more-smaller : goal.fields-more-smaller
fields-more-smaller t c = grind (arith, field_shorter)

pub fields-more-preserved : goal.fields-more-preserved
fields-more-preserved t c = grind (arith, fields_go)

pub initialisers-more-smaller-in-Ok-add : goal.initialisers-more-smaller-in-Ok-add
initialisers-more-smaller-in-Ok-add t c = grind (arith, initialiser_shorter)

pub initialisers-more-smaller : goal.initialisers-more-smaller
initialisers-more-smaller t c = grind (arith, initialiser_shorter)

pub initialisers-more-preserved : goal.initialisers-more-preserved
initialisers-more-preserved t c = grind (arith, initialisers_go)

pub binary-more-preserved : goal.binary-more-preserved
binary-more-preserved t c =
    binding_next c.args.levels c.more.from c.rank_behind-from.result c.args.ranks c.next_rank-rank.result c.args.mode c.args.self.now c.more.self c.one_more.new.self c.operation.new.self _ c.more.a c.in-Ok-one_more.x.1 c.in-Ok-operation.x c.in-Ok-one_more.x.0
    c.requires (sym c.next_is_ranked.ensures ∙ c.more-test.true) c.next_rank-rank.ensures c.rank_behind-from.ensures c.more.invariant c.in-Ok-one_more.ensures.ok c.in-Ok-operation.ensures.ok

pub binary-returns-in-Err-clause-err : goal.binary-returns-in-Err-clause-err
binary-returns-in-Err-clause-err t c = binding_none c.args.levels c.args.ranks c.args.mode c.args.links c.args.self.now c.in-Err.e c.in-Err.ensures.err

pub binary-returns-in-Err-one_more-clause-err : goal.binary-returns-in-Err-one_more-clause-err
binary-returns-in-Err-one_more-clause-err t c =
    binding_fails c.args.levels c.more.from c.args.ranks c.next_rank-rank.result c.args.mode c.args.self.now c.more.self _ c.more.a c.in-Err-one_more.e c.requires (sym c.next_is_ranked.ensures ∙ c.more-test.true) c.next_rank-rank.ensures c.more.invariant c.in-Err-one_more.ensures.err

pub binary-returns-clause-ok : goal.binary-returns-clause-ok
binary-returns-clause-ok t c =
    binding_ends c.args.levels c.more.from c.args.ranks c.args.mode c.args.self.now c.more.self _ c.more.a c.requires (sym c.next_is_ranked.ensures ∙ c.more-test.false) c.more.invariant

pub terra_binary-more-preserved : goal.terra_binary-more-preserved
terra_binary-more-preserved t c = grind (arith, terra_operations_go)

pub terra_inner-returns-in-Power-clause-ok : goal.terra_inner-returns-in-Power-clause-ok
terra_inner-returns-in-Power-clause-ok t c = grind (arith, terra_parts.inner_power)

pub terra_inner-returns-in-Power-clause-err : goal.terra_inner-returns-in-Power-clause-err
terra_inner-returns-in-Power-clause-err t c = grind (arith, terra_parts.inner_power, fails_same)

pub terra_inner-returns-in-Product-clause-ok : goal.terra_inner-returns-in-Product-clause-ok
terra_inner-returns-in-Product-clause-ok t c = grind (arith, terra_parts.inner_product)

pub terra_inner-returns-in-Product-clause-err : goal.terra_inner-returns-in-Product-clause-err
terra_inner-returns-in-Product-clause-err t c = grind (arith, terra_parts.inner_product, fails_same)

pub terra_inner-returns-in-Sum-clause-ok : goal.terra_inner-returns-in-Sum-clause-ok
terra_inner-returns-in-Sum-clause-ok t c = grind (arith, terra_parts.inner_sum)

pub terra_inner-returns-in-Sum-clause-err : goal.terra_inner-returns-in-Sum-clause-err
terra_inner-returns-in-Sum-clause-err t c = grind (arith, terra_parts.inner_sum, fails_same)

pub terra_inner-returns-in-Shift-clause-ok : goal.terra_inner-returns-in-Shift-clause-ok
terra_inner-returns-in-Shift-clause-ok t c = grind (arith, terra_parts.inner_shift)

pub terra_inner-returns-in-Shift-clause-err : goal.terra_inner-returns-in-Shift-clause-err
terra_inner-returns-in-Shift-clause-err t c = grind (arith, terra_parts.inner_shift, fails_same)

pub terra_inner-returns-in-Comparison-clause-ok : goal.terra_inner-returns-in-Comparison-clause-ok
terra_inner-returns-in-Comparison-clause-ok t c = grind (arith, terra_parts.inner_comparison)

pub terra_inner-returns-in-Comparison-clause-err : goal.terra_inner-returns-in-Comparison-clause-err
terra_inner-returns-in-Comparison-clause-err t c = grind (arith, terra_parts.inner_comparison, fails_same)

pub terra_inner-returns-in-Conjunction-clause-ok : goal.terra_inner-returns-in-Conjunction-clause-ok
terra_inner-returns-in-Conjunction-clause-ok t c = grind (arith, terra_parts.inner_conjunction)

pub terra_inner-returns-in-Conjunction-clause-err : goal.terra_inner-returns-in-Conjunction-clause-err
terra_inner-returns-in-Conjunction-clause-err t c = grind (arith, terra_parts.inner_conjunction, fails_same)

pub terra_inner-returns-in-Disjunction-clause-ok : goal.terra_inner-returns-in-Disjunction-clause-ok
terra_inner-returns-in-Disjunction-clause-ok t c = grind (arith, terra_parts.inner_disjunction)

pub terra_inner-returns-in-Disjunction-clause-err : goal.terra_inner-returns-in-Disjunction-clause-err
terra_inner-returns-in-Disjunction-clause-err t c = grind (arith, terra_parts.inner_disjunction, fails_same)

pub element-returns-in-Expression-clause-ok : goal.element-returns-in-Expression-clause-ok
element-returns-in-Expression-clause-ok t c = grind (arith, expression_element)

pub element-returns-in-Expression-clause-err : goal.element-returns-in-Expression-clause-err
element-returns-in-Expression-clause-err t c = grind (arith, expression_element, fails_same)

pub element-returns-in-Target-clause-ok : goal.element-returns-in-Target-clause-ok
element-returns-in-Target-clause-ok t c = grind (arith, target_element)

pub element-returns-in-Target-clause-err : goal.element-returns-in-Target-clause-err
element-returns-in-Target-clause-err t c = grind (arith, target_element, fails_same)

pub element-returns-in-TerraVariable-clause-ok : goal.element-returns-in-TerraVariable-clause-ok
element-returns-in-TerraVariable-clause-ok t c = grind (arith, variable_element)

pub element-returns-in-TerraVariable-clause-err : goal.element-returns-in-TerraVariable-clause-err
element-returns-in-TerraVariable-clause-err t c = grind (arith, variable_element, fails_same)

pub element-returns-in-TerraParameter-clause-ok : goal.element-returns-in-TerraParameter-clause-ok
element-returns-in-TerraParameter-clause-ok t c = grind (arith, parameter_element)

pub element-returns-in-TerraParameter-clause-err : goal.element-returns-in-TerraParameter-clause-err
element-returns-in-TerraParameter-clause-err t c = grind (arith, parameter_element, fails_same)

pub elements-more-smaller : goal.elements-more-smaller
elements-more-smaller t c = let e = c.in-Ok-next_element.ensures.ok in element_shorter c.args.levels c.args.kind e.tree (tokens_left c.more.self) (tokens_left c.next_element.new.self) e.took

pub elements-returns-in-Err-next_element-clause-err : goal.elements-returns-in-Err-next_element-clause-err
elements-returns-in-Err-next_element-clause-err t c =
    let i = c.more.invariant in
    listing_stops c.args.self.now c.more.self _ _ c.more.list i (next_element_at c.args.levels c.args.kind (tokens_left c.more.self)) (λ e rest. more_elements_at c.args.levels c.args.kind (More i.tree e) rest) c.in-Err-next_element.e (elements_go c.args.levels c.args.kind i.tree (tokens_left c.more.self) (sym c.next_is.ensures ∙ c.more-test.true)) c.in-Err-next_element.ensures.err

pub elements-returns-clause-ok : goal.elements-returns-clause-ok
elements-returns-clause-ok t c =
    let i = c.more.invariant in
    listing_ends c.args.self.now c.more.self _ _ c.more.list i (elements_end c.args.levels c.args.kind i.tree (tokens_left c.more.self) (sym c.next_is.ensures ∙ c.more-test.false))

pub arms-more-smaller : goal.arms-more-smaller
arms-more-smaller t c = let e = c.in-Ok-next_arm.ensures.ok in arm_shorter c.args.levels c.args.block e.tree (tokens_left c.more.self) (tokens_left c.next_arm.new.self) e.took

pub arms-returns-in-Err-next_arm-clause-err : goal.arms-returns-in-Err-next_arm-clause-err
arms-returns-in-Err-next_arm-clause-err t c =
    let i = c.more.invariant in
    listing_stops c.args.self.now c.more.self _ _ c.more.list i (next_arm_at c.args.levels c.args.block (tokens_left c.more.self)) (λ e rest. more_arms_at c.args.levels c.args.block (More i.tree e) rest) c.in-Err-next_arm.e (arms_go c.args.levels c.args.block i.tree (tokens_left c.more.self) (sym c.next_is.ensures ∙ c.more-test.true)) c.in-Err-next_arm.ensures.err

pub arms-returns-clause-ok : goal.arms-returns-clause-ok
arms-returns-clause-ok t c =
    let i = c.more.invariant in
    listing_ends c.args.self.now c.more.self _ _ c.more.list i (arms_end c.args.levels c.args.block i.tree (tokens_left c.more.self) (sym c.next_is.ensures ∙ c.more-test.false))

pub entries-more-smaller : goal.entries-more-smaller
entries-more-smaller t c = let e = c.in-Ok.ensures.ok in entry_shorter c.args.levels c.args.mode e.tree (tokens_left c.more.self) (tokens_left c.entry.new.self) e.took

pub entries-returns-in-Err-clause-err : goal.entries-returns-in-Err-clause-err
entries-returns-in-Err-clause-err t c =
    let i = c.more.invariant in
    listing_stops c.args.self.now c.more.self _ _ c.more.list i (entry_at c.args.levels c.args.mode (tokens_left c.more.self)) (λ e rest. more_entries_at c.args.levels c.args.mode (More i.tree e) rest) c.in-Err.e (entries_go c.args.levels c.args.mode i.tree (tokens_left c.more.self) (sym c.next_is.ensures ∙ c.more-test.true)) c.in-Err.ensures.err

pub entries-returns-clause-ok : goal.entries-returns-clause-ok
entries-returns-clause-ok t c =
    let i = c.more.invariant in
    listing_ends c.args.self.now c.more.self _ _ c.more.list i (entries_end c.args.levels c.args.mode i.tree (tokens_left c.more.self) (sym c.next_is.ensures ∙ c.more-test.false))

pub fields-returns-in-Err-next_field-clause-err : goal.fields-returns-in-Err-next_field-clause-err
fields-returns-in-Err-next_field-clause-err t c =
    let i = c.more.invariant in
    listing_stops c.args.self.now c.more.self _ _ c.more.list i (next_field_at c.args.levels c.args.mode (tokens_left c.more.self)) (λ f rest. more_fields_at c.args.levels c.args.mode (more_if i.tree f) rest) c.in-Err-next_field.e (fields_go c.args.levels c.args.mode i.tree (tokens_left c.more.self) (sym c.next_is_among.ensures ∙ c.more-test.true)) c.in-Err-next_field.ensures.err

pub fields-returns-clause-ok : goal.fields-returns-clause-ok
fields-returns-clause-ok t c =
    let i = c.more.invariant in
    listing_ends c.args.self.now c.more.self _ _ c.more.list i (fields_end c.args.levels c.args.mode i.tree (tokens_left c.more.self) (sym c.next_is_among.ensures ∙ c.more-test.false))

pub initialisers-returns-in-Err-next_initialiser-clause-err : goal.initialisers-returns-in-Err-next_initialiser-clause-err
initialisers-returns-in-Err-next_initialiser-clause-err t c =
    let i = c.more.invariant in
    let named = c.in-Ok.x.1 in
    listing_stops c.args.self.now c.more.self _ _ c.more.list i (next_initialiser_at c.args.levels named (tokens_left c.more.self)) (λ f rest. more_initialisers_at c.args.levels named (more_if i.tree f) rest) c.in-Err-next_initialiser.e (initialisers_go c.args.levels named i.tree (tokens_left c.more.self) (sym c.next_is_among.ensures ∙ c.more-test.true)) c.in-Err-next_initialiser.ensures.err

pub initialisers-returns-clause-ok : goal.initialisers-returns-clause-ok
initialisers-returns-clause-ok t c =
    let i = c.more.invariant in
    listing_ends c.args.self.now c.more.self _ _ c.more.list i (initialisers_end c.args.levels c.in-Ok.x.1 i.tree (tokens_left c.more.self) (sym c.next_is_among.ensures ∙ c.more-test.false))

pub terra_simple_statement-more-smaller : goal.terra_simple_statement-more-smaller
terra_simple_statement-more-smaller t c = let e = c.in-Ok-next_element.ensures.ok in terra_target_shorter c.args.levels e.tree (tokens_left c.more.self) (tokens_left c.next_element.new.self) e.took

pub terra_simple_statement-returns-in-Err-next_element-clause-err : goal.terra_simple_statement-returns-in-Err-next_element-clause-err
terra_simple_statement-returns-in-Err-next_element-clause-err t c =
    let i = c.more.invariant in
    let place = c.next_place-place.result in
    listing_stops c.args.self.now c.more.self _ _ c.more.targets i (next_element_at c.args.levels (elements.Expression codes.Terra) (tokens_left c.more.self)) (λ e rest. terra_assignment_at c.args.levels place (More i.tree e) rest) c.in-Err-next_element.e (terra_targets_go c.args.levels place i.tree (tokens_left c.more.self) (sym c.next_is.ensures ∙ c.more-test.true)) c.in-Err-next_element.ensures.err

pub applied-returns-in-Err-suffix-clause-err : goal.applied-returns-in-Err-suffix-clause-err
applied-returns-in-Err-suffix-clause-err t c =
    let i = c.more.invariant in
    let x = suffix_at c.args.levels c.args.mode c.more.a.links (tokens_left c.more.self) in
    let f : Suffixed → List Token → Outcome Chained = λ s rest. suffixes_at c.args.levels c.args.mode (chained (attached s i.tree) (down c.more.a.links) (kind_of s)) rest in
    fails_from c.args.self.now c.more.self _ (x >>= f) c.in-Err-suffix.e (i.goes_on ∙ suffixes_go c.args.levels c.args.mode i.tree c.more.a.links c.more.a.kind (tokens_left c.more.self) (sym c.next_is_suffix-in-more.ensures ∙ c.more-test.true)) i.finish
    (fails_bind c.more.self x f c.in-Err-suffix.e c.in-Err-suffix.ensures.err)

pub terra_applied-returns-in-Err-terra_suffix-clause-err : goal.terra_applied-returns-in-Err-terra_suffix-clause-err
terra_applied-returns-in-Err-terra_suffix-clause-err t c =
    let i = c.more.invariant in
    let x = terra_suffix_at c.args.levels c.more.a.links (tokens_left c.more.self) in
    let f : TerraSuffixed → List Token → Outcome Chained = λ s rest. terra_suffixes_at c.args.levels (chained (terra_attached s i.tree) (down c.more.a.links) (terra_kind_of s)) rest in
    fails_from c.args.self.now c.more.self _ (x >>= f) c.in-Err-terra_suffix.e (i.goes_on ∙ terra_suffixes_go c.args.levels i.tree c.more.a.links c.more.a.kind (tokens_left c.more.self) (sym c.next_is_terra_suffix.ensures ∙ c.more-test.true)) i.finish
    (fails_bind c.more.self x f c.in-Err-terra_suffix.e c.in-Err-terra_suffix.ensures.err)

pub block-more-smaller : goal.block-more-smaller
block-more-smaller t c =
    let s = c.in-Ok.ensures.ok in
    statement_shorter c.args.levels c.args.block c.more.ended (sequence s.tree c.in-Ok.x.1) (tokens_left c.more.self) (tokens_left c.next_statement.new.self) (sym c.next_goes_on.ensures ∙ c.more-test.true) s.took

pub block-returns-in-Err-clause-err : goal.block-returns-in-Err-clause-err
block-returns-in-Err-clause-err t c =
    let i = c.more.invariant in
    let x = next_statement_at c.args.levels c.args.block (tokens_left c.more.self) in
    let f : Sequence → List Token → Outcome Sequence = λ s rest. more_statements_at c.args.levels c.args.block (More i.tree s.statements) s.ended rest in
    let g : Sequence → List Token → Outcome Tree = λ a rest. Took (Block a.statements) rest in
    fails_from c.args.self.now c.more.self _ ((x >>= f) >>= g) c.in-Err.e
    (i.goes_on ∙ ap (λ (o : Outcome Sequence). o >>= g) (block_goes c.args.levels c.args.block i.tree c.more.ended (tokens_left c.more.self) (sym c.next_goes_on.ensures ∙ c.more-test.true))) i.finish
    (fails_bind c.more.self (x >>= f) g c.in-Err.e (fails_bind c.more.self x f c.in-Err.e c.in-Err.ensures.err))

pub simple-returns-in-Numeral-clause-ok : goal.simple-returns-in-Numeral-clause-ok
simple-returns-in-Numeral-clause-ok t c = chosen _ _ _ (simple_is c.args.levels c.args.mode symbols.Numeral _ c.in-Numeral.ensures) c.number.ensures.ok

pub simple-returns-in-Numeral-clause-err : goal.simple-returns-in-Numeral-clause-err
simple-returns-in-Numeral-clause-err t c = chosen_fails _ _ (simple_is c.args.levels c.args.mode symbols.Numeral _ c.in-Numeral.ensures) c.number.ensures.err

pub simple-returns-in-Literal-clause-ok : goal.simple-returns-in-Literal-clause-ok
simple-returns-in-Literal-clause-ok t c = chosen _ _ _ (simple_is c.args.levels c.args.mode symbols.Literal _ c.in-Literal.ensures) c.literal.ensures.ok

pub simple-returns-in-Literal-clause-err : goal.simple-returns-in-Literal-clause-err
simple-returns-in-Literal-clause-err t c = chosen_fails _ _ (simple_is c.args.levels c.args.mode symbols.Literal _ c.in-Literal.ensures) c.literal.ensures.err

pub simple-returns-in-Nil-clause-ok : goal.simple-returns-in-Nil-clause-ok
simple-returns-in-Nil-clause-ok t c = chosen _ _ _ (simple_is c.args.levels c.args.mode symbols.Nil _ c.in-Nil.ensures) c.constant.ensures.ok

pub simple-returns-in-Nil-clause-err : goal.simple-returns-in-Nil-clause-err
simple-returns-in-Nil-clause-err t c = chosen_fails _ _ (simple_is c.args.levels c.args.mode symbols.Nil _ c.in-Nil.ensures) c.constant.ensures.err

pub simple-returns-in-False-clause-ok : goal.simple-returns-in-False-clause-ok
simple-returns-in-False-clause-ok t c = chosen _ _ _ (simple_is c.args.levels c.args.mode symbols.False _ c.in-False.ensures) c.constant-in-False.ensures.ok

pub simple-returns-in-False-clause-err : goal.simple-returns-in-False-clause-err
simple-returns-in-False-clause-err t c = chosen_fails _ _ (simple_is c.args.levels c.args.mode symbols.False _ c.in-False.ensures) c.constant-in-False.ensures.err

pub simple-returns-in-True-clause-ok : goal.simple-returns-in-True-clause-ok
simple-returns-in-True-clause-ok t c = chosen _ _ _ (simple_is c.args.levels c.args.mode symbols.True _ c.in-True.ensures) c.constant-in-True.ensures.ok

pub simple-returns-in-True-clause-err : goal.simple-returns-in-True-clause-err
simple-returns-in-True-clause-err t c = chosen_fails _ _ (simple_is c.args.levels c.args.mode symbols.True _ c.in-True.ensures) c.constant-in-True.ensures.err

pub simple-returns-in-Ellipsis-clause-ok : goal.simple-returns-in-Ellipsis-clause-ok
simple-returns-in-Ellipsis-clause-ok t c = chosen _ _ _ (simple_is c.args.levels c.args.mode symbols.Ellipsis _ c.in-Ellipsis.ensures) c.constant-in-Ellipsis.ensures.ok

pub simple-returns-in-Ellipsis-clause-err : goal.simple-returns-in-Ellipsis-clause-err
simple-returns-in-Ellipsis-clause-err t c = chosen_fails _ _ (simple_is c.args.levels c.args.mode symbols.Ellipsis _ c.in-Ellipsis.ensures) c.constant-in-Ellipsis.ensures.err

pub simple-returns-in-Function-clause-ok : goal.simple-returns-in-Function-clause-ok
simple-returns-in-Function-clause-ok t c = chosen _ _ _ (simple_is c.args.levels c.args.mode symbols.Function _ c.in-Function.ensures) c.function.ensures.ok

pub simple-returns-in-Function-clause-err : goal.simple-returns-in-Function-clause-err
simple-returns-in-Function-clause-err t c = chosen_fails _ _ (simple_is c.args.levels c.args.mode symbols.Function _ c.in-Function.ensures) c.function.ensures.err

pub simple-returns-in-OpenBrace-clause-ok : goal.simple-returns-in-OpenBrace-clause-ok
simple-returns-in-OpenBrace-clause-ok t c = chosen _ _ _ (simple_is c.args.levels c.args.mode symbols.OpenBrace _ c.in-OpenBrace.ensures) c.table.ensures.ok

pub simple-returns-in-OpenBrace-clause-err : goal.simple-returns-in-OpenBrace-clause-err
simple-returns-in-OpenBrace-clause-err t c = chosen_fails _ _ (simple_is c.args.levels c.args.mode symbols.OpenBrace _ c.in-OpenBrace.ensures) c.table.ensures.err

pub simple-returns-in_default : goal.simple-returns-in_default
simple-returns-in_default t c =
    let d = c.in_default in
    let same = simple_is c.args.levels c.args.mode c.next_symbol.result _ c.next_symbol.ensures ∙ simple_others c.args.levels c.args.mode c.next_symbol.result _ d.not-Numeral d.not-Literal d.not-Nil d.not-False d.not-True d.not-Ellipsis d.not-Function d.not-OpenBrace in
    record { ok = chosen _ _ _ same c.terra_code.ensures.ok; err = chosen_fails _ _ same c.terra_code.ensures.err }

pub statement-returns-in-Do-clause-ok : goal.statement-returns-in-Do-clause-ok
statement-returns-in-Do-clause-ok t c = chosen _ _ _ (statement_is c.args.levels c.args.context symbols.Do _ c.in-Do.ensures) c.do_statement.ensures.ok

pub statement-returns-in-Do-clause-err : goal.statement-returns-in-Do-clause-err
statement-returns-in-Do-clause-err t c = chosen_fails _ _ (statement_is c.args.levels c.args.context symbols.Do _ c.in-Do.ensures) c.do_statement.ensures.err

pub statement-returns-in-While-clause-ok : goal.statement-returns-in-While-clause-ok
statement-returns-in-While-clause-ok t c = chosen _ _ _ (statement_is c.args.levels c.args.context symbols.While _ c.in-While.ensures) c.while_statement.ensures.ok

pub statement-returns-in-While-clause-err : goal.statement-returns-in-While-clause-err
statement-returns-in-While-clause-err t c = chosen_fails _ _ (statement_is c.args.levels c.args.context symbols.While _ c.in-While.ensures) c.while_statement.ensures.err

pub statement-returns-in-Repeat-clause-ok : goal.statement-returns-in-Repeat-clause-ok
statement-returns-in-Repeat-clause-ok t c = chosen _ _ _ (statement_is c.args.levels c.args.context symbols.Repeat _ c.in-Repeat.ensures) c.repeat_statement.ensures.ok

pub statement-returns-in-Repeat-clause-err : goal.statement-returns-in-Repeat-clause-err
statement-returns-in-Repeat-clause-err t c = chosen_fails _ _ (statement_is c.args.levels c.args.context symbols.Repeat _ c.in-Repeat.ensures) c.repeat_statement.ensures.err

pub statement-returns-in-If-clause-ok : goal.statement-returns-in-If-clause-ok
statement-returns-in-If-clause-ok t c = chosen _ _ _ (statement_is c.args.levels c.args.context symbols.If _ c.in-If.ensures) c.if_statement.ensures.ok

pub statement-returns-in-If-clause-err : goal.statement-returns-in-If-clause-err
statement-returns-in-If-clause-err t c = chosen_fails _ _ (statement_is c.args.levels c.args.context symbols.If _ c.in-If.ensures) c.if_statement.ensures.err

pub statement-returns-in-For-clause-ok : goal.statement-returns-in-For-clause-ok
statement-returns-in-For-clause-ok t c = chosen _ _ _ (statement_is c.args.levels c.args.context symbols.For _ c.in-For.ensures) c.for_statement.ensures.ok

pub statement-returns-in-For-clause-err : goal.statement-returns-in-For-clause-err
statement-returns-in-For-clause-err t c = chosen_fails _ _ (statement_is c.args.levels c.args.context symbols.For _ c.in-For.ensures) c.for_statement.ensures.err

pub statement-returns-in-Function-clause-ok : goal.statement-returns-in-Function-clause-ok
statement-returns-in-Function-clause-ok t c = chosen _ _ _ (statement_is c.args.levels c.args.context symbols.Function _ c.in-Function.ensures) c.function_statement.ensures.ok

pub statement-returns-in-Function-clause-err : goal.statement-returns-in-Function-clause-err
statement-returns-in-Function-clause-err t c = chosen_fails _ _ (statement_is c.args.levels c.args.context symbols.Function _ c.in-Function.ensures) c.function_statement.ensures.err

pub statement-returns-in-Local-clause-ok : goal.statement-returns-in-Local-clause-ok
statement-returns-in-Local-clause-ok t c = chosen _ _ _ (statement_is c.args.levels c.args.context symbols.Local _ c.in-Local.ensures) c.local_statement.ensures.ok

pub statement-returns-in-Local-clause-err : goal.statement-returns-in-Local-clause-err
statement-returns-in-Local-clause-err t c = chosen_fails _ _ (statement_is c.args.levels c.args.context symbols.Local _ c.in-Local.ensures) c.local_statement.ensures.err

pub statement-returns-in-Return-clause-ok : goal.statement-returns-in-Return-clause-ok
statement-returns-in-Return-clause-ok t c = chosen _ _ _ (statement_is c.args.levels c.args.context symbols.Return _ c.in-Return.ensures) c.return_statement.ensures.ok

pub statement-returns-in-Return-clause-err : goal.statement-returns-in-Return-clause-err
statement-returns-in-Return-clause-err t c = chosen_fails _ _ (statement_is c.args.levels c.args.context symbols.Return _ c.in-Return.ensures) c.return_statement.ensures.err

pub statement-returns-in-Break-clause-ok : goal.statement-returns-in-Break-clause-ok
statement-returns-in-Break-clause-ok t c = chosen _ _ _ (statement_is c.args.levels c.args.context symbols.Break _ c.in-Break.ensures) c.break_statement.ensures.ok

pub statement-returns-in-Break-clause-err : goal.statement-returns-in-Break-clause-err
statement-returns-in-Break-clause-err t c = chosen_fails _ _ (statement_is c.args.levels c.args.context symbols.Break _ c.in-Break.ensures) c.break_statement.ensures.err

pub statement-returns-in-Emit-clause-ok : goal.statement-returns-in-Emit-clause-ok
statement-returns-in-Emit-clause-ok t c = chosen _ _ _ (statement_is c.args.levels c.args.context symbols.Emit _ c.in-Emit.ensures) c.emit_statement.ensures.ok

pub statement-returns-in-Emit-clause-err : goal.statement-returns-in-Emit-clause-err
statement-returns-in-Emit-clause-err t c = chosen_fails _ _ (statement_is c.args.levels c.args.context symbols.Emit _ c.in-Emit.ensures) c.emit_statement.ensures.err

pub statement-returns-in-Terra-clause-ok : goal.statement-returns-in-Terra-clause-ok
statement-returns-in-Terra-clause-ok t c = chosen _ _ _ (statement_is c.args.levels c.args.context symbols.Terra _ c.in-Terra.ensures) c.define_terra.ensures.ok

pub statement-returns-in-Terra-clause-err : goal.statement-returns-in-Terra-clause-err
statement-returns-in-Terra-clause-err t c = chosen_fails _ _ (statement_is c.args.levels c.args.context symbols.Terra _ c.in-Terra.ensures) c.define_terra.ensures.err

pub statement-returns-in-Struct-clause-ok : goal.statement-returns-in-Struct-clause-ok
statement-returns-in-Struct-clause-ok t c = chosen _ _ _ (statement_is c.args.levels c.args.context symbols.Struct _ c.in-Struct.ensures) c.define_struct.ensures.ok

pub statement-returns-in-Struct-clause-err : goal.statement-returns-in-Struct-clause-err
statement-returns-in-Struct-clause-err t c = chosen_fails _ _ (statement_is c.args.levels c.args.context symbols.Struct _ c.in-Struct.ensures) c.define_struct.ensures.err

pub statement-returns-in_default : goal.statement-returns-in_default
statement-returns-in_default t c =
    let d = c.in_default in
    let same = statement_is c.args.levels c.args.context c.next_symbol.result _ c.next_symbol.ensures ∙ statement_others c.args.levels c.args.context c.next_symbol.result _ d.not-Do d.not-While d.not-Repeat d.not-If d.not-For d.not-Function d.not-Local d.not-Return d.not-Break d.not-Emit d.not-Terra d.not-Struct in
    record { ok = chosen _ _ _ same c.call_or_assignment.ensures.ok; err = chosen_fails _ _ same c.call_or_assignment.ensures.err }

pub terra_statement-returns-in-Do-clause-ok : goal.terra_statement-returns-in-Do-clause-ok
terra_statement-returns-in-Do-clause-ok t c = chosen _ _ _ (terra_statement_is c.args.levels symbols.Do _ c.in-Do.ensures) c.do_statement.ensures.ok

pub terra_statement-returns-in-Do-clause-err : goal.terra_statement-returns-in-Do-clause-err
terra_statement-returns-in-Do-clause-err t c = chosen_fails _ _ (terra_statement_is c.args.levels symbols.Do _ c.in-Do.ensures) c.do_statement.ensures.err

pub terra_statement-returns-in-While-clause-ok : goal.terra_statement-returns-in-While-clause-ok
terra_statement-returns-in-While-clause-ok t c = chosen _ _ _ (terra_statement_is c.args.levels symbols.While _ c.in-While.ensures) c.while_statement.ensures.ok

pub terra_statement-returns-in-While-clause-err : goal.terra_statement-returns-in-While-clause-err
terra_statement-returns-in-While-clause-err t c = chosen_fails _ _ (terra_statement_is c.args.levels symbols.While _ c.in-While.ensures) c.while_statement.ensures.err

pub terra_statement-returns-in-Repeat-clause-ok : goal.terra_statement-returns-in-Repeat-clause-ok
terra_statement-returns-in-Repeat-clause-ok t c = chosen _ _ _ (terra_statement_is c.args.levels symbols.Repeat _ c.in-Repeat.ensures) c.repeat_statement.ensures.ok

pub terra_statement-returns-in-Repeat-clause-err : goal.terra_statement-returns-in-Repeat-clause-err
terra_statement-returns-in-Repeat-clause-err t c = chosen_fails _ _ (terra_statement_is c.args.levels symbols.Repeat _ c.in-Repeat.ensures) c.repeat_statement.ensures.err

pub terra_statement-returns-in-If-clause-ok : goal.terra_statement-returns-in-If-clause-ok
terra_statement-returns-in-If-clause-ok t c = chosen _ _ _ (terra_statement_is c.args.levels symbols.If _ c.in-If.ensures) c.if_statement.ensures.ok

pub terra_statement-returns-in-If-clause-err : goal.terra_statement-returns-in-If-clause-err
terra_statement-returns-in-If-clause-err t c = chosen_fails _ _ (terra_statement_is c.args.levels symbols.If _ c.in-If.ensures) c.if_statement.ensures.err

pub terra_statement-returns-in-For-clause-ok : goal.terra_statement-returns-in-For-clause-ok
terra_statement-returns-in-For-clause-ok t c = chosen _ _ _ (terra_statement_is c.args.levels symbols.For _ c.in-For.ensures) c.terra_for.ensures.ok

pub terra_statement-returns-in-For-clause-err : goal.terra_statement-returns-in-For-clause-err
terra_statement-returns-in-For-clause-err t c = chosen_fails _ _ (terra_statement_is c.args.levels symbols.For _ c.in-For.ensures) c.terra_for.ensures.err

pub terra_statement-returns-in-Var-clause-ok : goal.terra_statement-returns-in-Var-clause-ok
terra_statement-returns-in-Var-clause-ok t c = chosen _ _ _ (terra_statement_is c.args.levels symbols.Var _ c.in-Var.ensures) c.terra_var.ensures.ok

pub terra_statement-returns-in-Var-clause-err : goal.terra_statement-returns-in-Var-clause-err
terra_statement-returns-in-Var-clause-err t c = chosen_fails _ _ (terra_statement_is c.args.levels symbols.Var _ c.in-Var.ensures) c.terra_var.ensures.err

pub terra_statement-returns-in-Escape-clause-ok : goal.terra_statement-returns-in-Escape-clause-ok
terra_statement-returns-in-Escape-clause-ok t c = chosen _ _ _ (terra_statement_is c.args.levels symbols.Escape _ c.in-Escape.ensures) c.escape_block.ensures.ok

pub terra_statement-returns-in-Escape-clause-err : goal.terra_statement-returns-in-Escape-clause-err
terra_statement-returns-in-Escape-clause-err t c = chosen_fails _ _ (terra_statement_is c.args.levels symbols.Escape _ c.in-Escape.ensures) c.escape_block.ensures.err

pub terra_statement-returns-in-Return-clause-ok : goal.terra_statement-returns-in-Return-clause-ok
terra_statement-returns-in-Return-clause-ok t c = chosen _ _ _ (terra_statement_is c.args.levels symbols.Return _ c.in-Return.ensures) c.return_statement.ensures.ok

pub terra_statement-returns-in-Return-clause-err : goal.terra_statement-returns-in-Return-clause-err
terra_statement-returns-in-Return-clause-err t c = chosen_fails _ _ (terra_statement_is c.args.levels symbols.Return _ c.in-Return.ensures) c.return_statement.ensures.err

pub terra_statement-returns-in-Break-clause-ok : goal.terra_statement-returns-in-Break-clause-ok
terra_statement-returns-in-Break-clause-ok t c = chosen _ _ _ (terra_statement_is c.args.levels symbols.Break _ c.in-Break.ensures) c.terra_break.ensures.ok

pub terra_statement-returns-in-Break-clause-err : goal.terra_statement-returns-in-Break-clause-err
terra_statement-returns-in-Break-clause-err t c = chosen_fails _ _ (terra_statement_is c.args.levels symbols.Break _ c.in-Break.ensures) c.terra_break.ensures.err

pub terra_statement-returns-in_default : goal.terra_statement-returns-in_default
terra_statement-returns-in_default t c =
    let d = c.in_default in
    let same = terra_statement_is c.args.levels c.next_symbol.result _ c.next_symbol.ensures ∙ terra_statement_others c.args.levels c.next_symbol.result _ d.not-Do d.not-While d.not-Repeat d.not-If d.not-For d.not-Var d.not-Escape d.not-Return d.not-Break in
    record { ok = chosen _ _ _ same c.terra_simple_statement.ensures.ok; err = chosen_fails _ _ same c.terra_simple_statement.ensures.err }

pub suffix-returns-in-OpenParen-clause-ok : goal.suffix-returns-in-OpenParen-clause-ok
suffix-returns-in-OpenParen-clause-ok t c = chosen_suffix _ _ _ _ (suffix_is c.args.levels c.args.mode c.args.a.links symbols.OpenParen _ c.in-OpenParen.ensures) c.call_suffix.ensures.ok

pub suffix-returns-in-OpenParen-clause-err : goal.suffix-returns-in-OpenParen-clause-err
suffix-returns-in-OpenParen-clause-err t c = chosen_fails _ _ (suffix_is c.args.levels c.args.mode c.args.a.links symbols.OpenParen _ c.in-OpenParen.ensures) c.call_suffix.ensures.err

pub suffix-returns-in-OpenBracket-clause-ok : goal.suffix-returns-in-OpenBracket-clause-ok
suffix-returns-in-OpenBracket-clause-ok t c = chosen_suffix _ _ _ _ (suffix_is c.args.levels c.args.mode c.args.a.links symbols.OpenBracket _ c.in-OpenBracket.ensures) c.index_suffix.ensures.ok

pub suffix-returns-in-OpenBracket-clause-err : goal.suffix-returns-in-OpenBracket-clause-err
suffix-returns-in-OpenBracket-clause-err t c = chosen_fails _ _ (suffix_is c.args.levels c.args.mode c.args.a.links symbols.OpenBracket _ c.in-OpenBracket.ensures) c.index_suffix.ensures.err

pub suffix-returns-in-Dot-clause-ok : goal.suffix-returns-in-Dot-clause-ok
suffix-returns-in-Dot-clause-ok t c = chosen_suffix _ _ _ _ (suffix_is c.args.levels c.args.mode c.args.a.links symbols.Dot _ c.in-Dot.ensures) c.select_suffix.ensures.ok

pub suffix-returns-in-Dot-clause-err : goal.suffix-returns-in-Dot-clause-err
suffix-returns-in-Dot-clause-err t c = chosen_fails _ _ (suffix_is c.args.levels c.args.mode c.args.a.links symbols.Dot _ c.in-Dot.ensures) c.select_suffix.ensures.err

pub suffix-returns-in-Colon-clause-ok : goal.suffix-returns-in-Colon-clause-ok
suffix-returns-in-Colon-clause-ok t c = chosen_suffix _ _ _ _ (suffix_is c.args.levels c.args.mode c.args.a.links symbols.Colon _ c.in-Colon.ensures) c.method_suffix.ensures.ok

pub suffix-returns-in-Colon-clause-err : goal.suffix-returns-in-Colon-clause-err
suffix-returns-in-Colon-clause-err t c = chosen_fails _ _ (suffix_is c.args.levels c.args.mode c.args.a.links symbols.Colon _ c.in-Colon.ensures) c.method_suffix.ensures.err

pub suffix-returns-in-OpenBrace-clause-ok : goal.suffix-returns-in-OpenBrace-clause-ok
suffix-returns-in-OpenBrace-clause-ok t c = chosen_suffix _ _ _ _ (suffix_is c.args.levels c.args.mode c.args.a.links symbols.OpenBrace _ c.in-OpenBrace.ensures) c.table_suffix.ensures.ok

pub suffix-returns-in-OpenBrace-clause-err : goal.suffix-returns-in-OpenBrace-clause-err
suffix-returns-in-OpenBrace-clause-err t c = chosen_fails _ _ (suffix_is c.args.levels c.args.mode c.args.a.links symbols.OpenBrace _ c.in-OpenBrace.ensures) c.table_suffix.ensures.err

pub suffix-returns-in_default : goal.suffix-returns-in_default
suffix-returns-in_default t c =
    let d = c.in_default in
    let same = suffix_is c.args.levels c.args.mode c.args.a.links c.next_symbol.result _ c.next_symbol.ensures ∙ suffix_others c.args.levels c.args.mode c.args.a.links c.next_symbol.result _ d.not-OpenParen d.not-OpenBracket d.not-Dot d.not-Colon d.not-OpenBrace in
    record { ok = chosen_suffix _ _ _ _ same c.literal_suffix.ensures.ok; err = chosen_fails _ _ same c.literal_suffix.ensures.err }

pub terra_suffix-returns-in-OpenParen-clause-ok : goal.terra_suffix-returns-in-OpenParen-clause-ok
terra_suffix-returns-in-OpenParen-clause-ok t c = chosen_terra_suffix _ _ _ _ (terra_suffix_is c.args.levels c.args.a.links symbols.OpenParen _ c.in-OpenParen.ensures) c.terra_call_suffix.ensures.ok

pub terra_suffix-returns-in-OpenParen-clause-err : goal.terra_suffix-returns-in-OpenParen-clause-err
terra_suffix-returns-in-OpenParen-clause-err t c = chosen_fails _ _ (terra_suffix_is c.args.levels c.args.a.links symbols.OpenParen _ c.in-OpenParen.ensures) c.terra_call_suffix.ensures.err

pub terra_suffix-returns-in-OpenBracket-clause-ok : goal.terra_suffix-returns-in-OpenBracket-clause-ok
terra_suffix-returns-in-OpenBracket-clause-ok t c = chosen_terra_suffix _ _ _ _ (terra_suffix_is c.args.levels c.args.a.links symbols.OpenBracket _ c.in-OpenBracket.ensures) c.terra_index_suffix.ensures.ok

pub terra_suffix-returns-in-OpenBracket-clause-err : goal.terra_suffix-returns-in-OpenBracket-clause-err
terra_suffix-returns-in-OpenBracket-clause-err t c = chosen_fails _ _ (terra_suffix_is c.args.levels c.args.a.links symbols.OpenBracket _ c.in-OpenBracket.ensures) c.terra_index_suffix.ensures.err

pub terra_suffix-returns-in-Dot-clause-ok : goal.terra_suffix-returns-in-Dot-clause-ok
terra_suffix-returns-in-Dot-clause-ok t c = chosen_terra_suffix _ _ _ _ (terra_suffix_is c.args.levels c.args.a.links symbols.Dot _ c.in-Dot.ensures) c.terra_select_suffix.ensures.ok

pub terra_suffix-returns-in-Dot-clause-err : goal.terra_suffix-returns-in-Dot-clause-err
terra_suffix-returns-in-Dot-clause-err t c = chosen_fails _ _ (terra_suffix_is c.args.levels c.args.a.links symbols.Dot _ c.in-Dot.ensures) c.terra_select_suffix.ensures.err

pub terra_suffix-returns-in-Colon-clause-ok : goal.terra_suffix-returns-in-Colon-clause-ok
terra_suffix-returns-in-Colon-clause-ok t c = chosen_terra_suffix _ _ _ _ (terra_suffix_is c.args.levels c.args.a.links symbols.Colon _ c.in-Colon.ensures) c.terra_method_suffix.ensures.ok

pub terra_suffix-returns-in-Colon-clause-err : goal.terra_suffix-returns-in-Colon-clause-err
terra_suffix-returns-in-Colon-clause-err t c = chosen_fails _ _ (terra_suffix_is c.args.levels c.args.a.links symbols.Colon _ c.in-Colon.ensures) c.terra_method_suffix.ensures.err

pub terra_suffix-returns-in_default : goal.terra_suffix-returns-in_default
terra_suffix-returns-in_default t c =
    let d = c.in_default in
    let same = terra_suffix_is c.args.levels c.args.a.links c.next_symbol.result _ c.next_symbol.ensures ∙ terra_suffix_others c.args.levels c.args.a.links c.next_symbol.result _ d.not-OpenParen d.not-OpenBracket d.not-Dot d.not-Colon in
    record { ok = chosen_terra_suffix _ _ _ _ same c.construct_suffix.ensures.ok; err = chosen_fails _ _ same c.construct_suffix.ensures.err }
