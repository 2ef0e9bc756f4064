use Rattle.std.proofs.Common.{◌≡◌, refl, sym, ap, ◌∙◌, subst, ℕ, ◌+◌, ◌-◌, suc, List, [], ◌∷◌, ◌++◌, Option, Some, map, length, arith}
use Rattle.std.proofs.Common.{zero-add, append_assoc, length-append}
use Rattle.terra_types.specs.declared.types.TypeForm.{TypeForm}
use Rattle.terra_term.specs.Events.{events_of, block_events, scope}
use Rattle.terra_meaning.specs.Meaning.{in_block, in_expression, in_list, in_statement, the_value}
use Rattle.terra_term.specs.declared.lists.TypedName.{TypedName}
use Rattle.terra_eval.specs.Trees.{block_before, expression_before, list_before}
use Rattle.tac_form.specs.declared.tac.Number.{Number}
use Rattle.tac_form.specs.declared.tac.Operand.{Operand}
use Rattle.tac_form.specs.declared.tac.Operand.TheVariants.{Temp}
use Rattle.tac_form.specs.declared.tac.Instruction.TheVariants.{Copy}
use Rattle.tac_lower.specs.Items.{Item, does, ends, skips, tests, count_ends, repeats, loop_of, repeats_unless}
use Rattle.tac_lower.specs.Pieces.{Piece, Result, Used, Holders, a_word, declare, declare_all, number_of, with_temp, word_at, word_of}
use Rattle.tac_lower.specs.Pieces.{taken}
use Rattle.tac_lower.specs.Lowering.{Counting, all, assigned_all, choice, counted_on, counting, opposite, passed_over, piece, repeat_loop}
use Rattle.tac_lower.specs.Lowering.{runs, while_loop}
use Rattle.tac_lower.specs.Data.{counting_of, result_of, target_of, want_of}
use Rattle.tac_lower.specs.Works.{Declared, Made, Put, past, scoped}
use Rattle.tac_lower.specs.declared.value.Value.{Value}
use Rattle.tac_lower.specs.declared.value.Target as code_target
use Rattle.tac_lower.specs.Views.{around_of, both_tree, piece_at, piece_of, pieces_of, targets_of, either_tree, all_of, if_tree, one_at}
use Rattle.tac_lower.specs.Views.{choice_tree, for_of, while_tree, repeat_tree}
use Rattle.tac_lower.proofs.Building.{Built, built-past, built-item, built-nothing, built-temp, built-term, passed-built, built-plain}
use Rattle.tac_lower.proofs.Building.{built-all, built-left, built-scoped, built-closed, tested-built, built-loop}
use Rattle.tac_lower.proofs.Passing.{declared_append, declared_scope}
use Rattle.tl_base.specs.declared.ids.TermId.{TermId}
use Rattle.tac_lower.proofs.Listing.{block-all, block-later, list-all, list-result, list-work, target-all, target-result, target-work}
use Rattle.tac_lower.proofs.Leaving.{Before, before-both, block-before, declared-before, scope-left}
use Rattle.tac_lower.proofs.Places.{count-append}
use Rattle.tac_lower.proofs.Arms.{address-arm, assign-arm, do-arm, element-arm, for-arm, index-arm, let-arm, var-arm}
use Rattle.tac_lower.proofs.term.+lower.Goals as goal

pub lower_both-returns : goal.lower_both-returns
lower_both-returns t c =
    let around = c.args.around.now in
    let w0 = c.args.work.now in
    let C = around_of around in
    let ea = expression_before around.store.now c.args.below c.args.a in
    let eb = expression_before around.store.now c.args.below c.args.b in
    let n = in_expression ea in
    let m = in_expression eb in
    let d = w0.used.temps in
    let t = c.in_ok-t.t in
    let same_t : t ≡ d = c.in_ok-t.ensures.temp in
    let w1 = c.temp.new.self in
    let p = piece_of around the_value c.args.below c.args.a w1 in
    let w2 = c.lower_expression.new.work in
    let w3 = c.put.new.self in
    let w4 = c.end.new.self in
    let q = piece_of around the_value c.args.below c.args.b w4 in
    let w5 = c.lower_expression-2.new.work in
    let w6 = c.put-2.new.self in
    let one = does (Copy t c.word.result) in
    let two = does (Copy t c.word-2.result) in
    let b1 = built-temp w0 w0 w1 [] w0.used w0.scope 0 (built-nothing w0) (with_temp w0.used) c.in_ok-t.ensures.work in
    let b2 = built-term w0 w1 w2 [] (with_temp w0.used) w0.scope 0 b1 p n c.in_ok-first.ensures.1 in
    let b3 = built-item w0 w2 w3 p.code p.used w0.scope (0 + n) b2 one c.in_ok-put.ensures in
    let b4 = built-item w0 w3 w4 (p.code ++ one ∷ []) p.used w0.scope (0 + n) b3 (ends (tests (Temp t) 0)) c.in_ok-end.ensures in
    let b5 = built-term w0 w4 w5 (p.code ++ one ∷ [] ++ ends (tests (Temp t) 0) ∷ []) p.used w0.scope (0 + n) b4 q m c.in_ok-second.ensures.1 in
    let b6 = built-item w0 w5 w6 (p.code ++ one ∷ [] ++ ends (tests (Temp t) 0) ∷ [] ++ q.code) q.used w0.scope (0 + n + m) b5 two c.in_ok-put-2.ensures in
    let X = p.code ++ one ∷ [] in
    let A = q.code ++ two ∷ [] in
    let shape : X ++ ends (tests (Temp t) 0) ∷ [] ++ q.code ++ two ∷ [] ≡ X ++ ends (tests (Temp t) 0) ∷ [] ++ A =
    append_assoc (X ++ ends (tests (Temp t) 0) ∷ []) q.code (two ∷ []) in
    let b7 = subst (λ (l : List Item). Built w0 w6 l q.used w0.scope (0 + n + m)) shape b6 in
    let b8 = passed-built w0 w3 w6 c.end-2.new.self c.close.new.self X A (Temp t) p.used q.used w0.scope w0.scope (0 + n) (0 + n + m)
    c.mark-mark.result.position c.mark-mark.result.ended b3 c.mark-mark.ensures.position c.mark-mark.ensures.ended b7 c.in_ok-end-2.ensures c.close.ensures in
    let p0 = piece C the_value ea w0.next w0.scope (with_temp w0.used) in
    let q0 = piece C the_value eb (w0.next + n) w0.scope p0.used in
    let first : p ≡ p0 = ap (λ (w : Made). piece C the_value ea w.next w.scope w.used) c.in_ok-t.ensures.work in
    let second : q ≡ q0 =
    ap (λ (k : ℕ). piece C the_value eb k w4.scope w4.used) (b4.next ∙ ap (λ (j : ℕ). w0.next + j) (zero-add n))
    ∙ ap (λ (h : Holders). piece C the_value eb (w0.next + n) h w4.used) b4.scope
    ∙ ap (λ (u : Used). piece C the_value eb (w0.next + n) w0.scope u) (b4.used ∙ ap (λ (r : Piece Result). r.used) first) in
    let words : c.word.result ≡ word_of p0.result = c.word.ensures ∙ ap word_of c.in_ok-first.ensures.0 ∙ ap (λ (r : Piece Result). word_of r.result) first in
    let more : c.word-2.result ≡ word_of q0.result = c.word-2.ensures ∙ ap word_of c.in_ok-second.ensures.0 ∙ ap (λ (r : Piece Result). word_of r.result) second in
    let code : X ++ passed_over (Temp t) A ≡ (p0.code ++ does (Copy d (word_of p0.result)) ∷ []) ++ passed_over (Temp d) (q0.code ++ does (Copy d (word_of q0.result)) ∷ []) =
    ap (λ (k : ℕ). p.code ++ does (Copy k c.word.result) ∷ [] ++ passed_over (Temp k) (q.code ++ does (Copy k c.word-2.result) ∷ [])) same_t
    ∙ ap (λ (o : Operand). p.code ++ does (Copy d o) ∷ [] ++ passed_over (Temp d) (q.code ++ does (Copy d c.word-2.result) ∷ [])) words
    ∙ ap (λ (o : Operand). p.code ++ does (Copy d (word_of p0.result)) ∷ [] ++ passed_over (Temp d) (q.code ++ does (Copy d o) ∷ [])) more
    ∙ ap (λ (r : Piece Result). r.code ++ does (Copy d (word_of p0.result)) ∷ [] ++ passed_over (Temp d) (q.code ++ does (Copy d (word_of q0.result)) ∷ [])) first
    ∙ ap (λ (r : Piece Result). p0.code ++ does (Copy d (word_of p0.result)) ∷ [] ++ passed_over (Temp d) (r.code ++ does (Copy d (word_of q0.result)) ∷ [])) second in
    let sum : 0 + n + m ≡ in_expression (both_tree around c.args.below c.args.a c.args.b) =
    omega (arith, declared_append (events_of ea) (events_of eb)) in (
      ap (λ (k : ℕ). a_word (Temp k)) same_t,
      built-past w0 c.close.new.self (piece_at around (both_tree around c.args.below c.args.a c.args.b) w0) _ _ _ _ b8 code
          (ap (λ (r : Piece Result). r.used) second) sum,
    )

pub lower_either-returns : goal.lower_either-returns
lower_either-returns t c =
    let around = c.args.around.now in
    let w0 = c.args.work.now in
    let C = around_of around in
    let ea = expression_before around.store.now c.args.below c.args.a in
    let eb = expression_before around.store.now c.args.below c.args.b in
    let n = in_expression ea in
    let m = in_expression eb in
    let d = w0.used.temps in
    let t = c.in_ok-t.t in
    let same_t : t ≡ d = c.in_ok-t.ensures.temp in
    let w1 = c.temp.new.self in
    let p = piece_of around the_value c.args.below c.args.a w1 in
    let w2 = c.lower_expression.new.work in
    let w3 = c.put.new.self in
    let wt = c.opposite.new.work in
    let w4 = c.end.new.self in
    let q = piece_of around the_value c.args.below c.args.b w4 in
    let w5 = c.lower_expression-2.new.work in
    let w6 = c.put-2.new.self in
    let one = does (Copy t c.word.result) in
    let two = does (Copy t c.word-2.result) in
    let b1 = built-temp w0 w0 w1 [] w0.used w0.scope 0 (built-nothing w0) (with_temp w0.used) c.in_ok-t.ensures.work in
    let b2 = built-term w0 w1 w2 [] (with_temp w0.used) w0.scope 0 b1 p n c.in_ok-first.ensures.1 in
    let b3 = built-item w0 w2 w3 p.code p.used w0.scope (0 + n) b2 one c.in_ok-put.ensures in
    let o = opposite (Temp t) w3.used in
    let a = c.in_ok-test.test in
    let bt = built-plain w0 w3 wt (p.code ++ one ∷ []) p.used w0.scope (0 + n) b3 o c.in_ok-test.ensures.1 in
    let b4 = built-item w0 wt w4 (p.code ++ one ∷ [] ++ o.code) o.used w0.scope (0 + n) bt (ends (tests a 0)) c.in_ok-end.ensures in
    let b5 = built-term w0 w4 w5 (p.code ++ one ∷ [] ++ o.code ++ ends (tests a 0) ∷ []) o.used w0.scope (0 + n) b4 q m c.in_ok-second.ensures.1 in
    let b6 = built-item w0 w5 w6 (p.code ++ one ∷ [] ++ o.code ++ ends (tests a 0) ∷ [] ++ q.code) q.used w0.scope (0 + n + m) b5 two c.in_ok-put-2.ensures in
    let X = p.code ++ one ∷ [] ++ o.code in
    let A = q.code ++ two ∷ [] in
    let shape : X ++ ends (tests a 0) ∷ [] ++ q.code ++ two ∷ [] ≡ X ++ ends (tests a 0) ∷ [] ++ A =
    append_assoc (X ++ ends (tests a 0) ∷ []) q.code (two ∷ []) in
    let b7 = subst (λ (l : List Item). Built w0 w6 l q.used w0.scope (0 + n + m)) shape b6 in
    let b8 = passed-built w0 wt w6 c.end-2.new.self c.close.new.self X A a o.used q.used w0.scope w0.scope (0 + n) (0 + n + m)
    c.mark-mark.result.position c.mark-mark.result.ended bt c.mark-mark.ensures.position c.mark-mark.ensures.ended b7 c.in_ok-end-2.ensures c.close.ensures in
    let p0 = piece C the_value ea w0.next w0.scope (with_temp w0.used) in
    let q0 = piece C the_value eb (w0.next + n) w0.scope (opposite (Temp d) p0.used).used in
    let first : p ≡ p0 = ap (λ (w : Made). piece C the_value ea w.next w.scope w.used) c.in_ok-t.ensures.work in
    let o0 = opposite (Temp d) p0.used in
    let third : o ≡ o0 =
    ap (λ (u : Used). opposite (Temp t) u) (b3.used ∙ ap (λ (r : Piece Result). r.used) first) ∙ ap (λ (k : ℕ). opposite (Temp k) p0.used) same_t in
    let second : q ≡ q0 =
    ap (λ (k : ℕ). piece C the_value eb k w4.scope w4.used) (b4.next ∙ ap (λ (j : ℕ). w0.next + j) (zero-add n))
    ∙ ap (λ (h : Holders). piece C the_value eb (w0.next + n) h w4.used) b4.scope
    ∙ ap (λ (u : Used). piece C the_value eb (w0.next + n) w0.scope u) (b4.used ∙ ap (λ (r : Piece Operand). r.used) third) in
    let words : c.word.result ≡ word_of p0.result = c.word.ensures ∙ ap word_of c.in_ok-first.ensures.0 ∙ ap (λ (r : Piece Result). word_of r.result) first in
    let more : c.word-2.result ≡ word_of q0.result = c.word-2.ensures ∙ ap word_of c.in_ok-second.ensures.0 ∙ ap (λ (r : Piece Result). word_of r.result) second in
    let turned : a ≡ o0.result = c.in_ok-test.ensures.0 ∙ ap (λ (r : Piece Operand). r.result) third in
    let put0 = p0.code ++ does (Copy d (word_of p0.result)) ∷ [] in
    let put1 = q0.code ++ does (Copy d (word_of q0.result)) ∷ [] in
    let front : p.code ++ one ∷ [] ≡ put0 =
    ap (λ (k : ℕ). p.code ++ does (Copy k c.word.result) ∷ []) same_t ∙ ap (λ (x : Operand). p.code ++ does (Copy d x) ∷ []) words
    ∙ ap (λ (r : Piece Result). r.code ++ does (Copy d (word_of p0.result)) ∷ []) first in
    let last : A ≡ put1 =
    ap (λ (k : ℕ). q.code ++ does (Copy k c.word-2.result) ∷ []) same_t ∙ ap (λ (x : Operand). q.code ++ does (Copy d x) ∷ []) more
    ∙ ap (λ (r : Piece Result). r.code ++ does (Copy d (word_of q0.result)) ∷ []) second in
    let code : X ++ passed_over a A ≡ put0 ++ (o0.code ++ passed_over o0.result put1) =
    ap (λ (l : List Item). l ++ o.code ++ passed_over a A) front ∙ ap (λ (r : Piece Operand). put0 ++ r.code ++ passed_over a A) third
    ∙ ap (λ (x : Operand). put0 ++ o0.code ++ passed_over x A) turned ∙ ap (λ (l : List Item). put0 ++ o0.code ++ passed_over o0.result l) last
    ∙ append_assoc put0 o0.code (passed_over o0.result put1) in
    let sum : 0 + n + m ≡ in_expression (either_tree around c.args.below c.args.a c.args.b) =
    omega (arith, declared_append (events_of ea) (events_of eb)) in (
      ap (λ (k : ℕ). a_word (Temp k)) same_t,
      built-past w0 c.close.new.self (piece_at around (either_tree around c.args.below c.args.a c.args.b) w0) _ _ _ _ b8 code
          (ap (λ (r : Piece Result). r.used) second) sum,
    )

pub lower_list-loop-node-preserved : goal.lower_list-loop-node-preserved
lower_list-loop-node-preserved t c =
    let none : TermId = record { 0 = 0 } in
    let so_far = c.loop-node.invariant in
    record {
      result = list-result c.args.around.now c.args.below c.args.nodes.now c.loop-node.node-index c.loop-node.work _ _ c.loop-node.values.items
          so_far.result so_far.work none c.lower_expression.new.work c.in_ok-v.v c.push.new.self.items c.loop-node-test.true
          c.in_ok-v.ensures.0 c.in_ok-v.ensures.1 c.in_ok-push.ensures.items;
      work = list-work c.args.around.now c.args.below c.args.nodes.now c.loop-node.node-index c.loop-node.work _ _ c.loop-node.values.items
          so_far.result so_far.work none c.lower_expression.new.work c.loop-node-test.true c.in_ok-v.ensures.1;
    }

pub lower_list-returns : goal.lower_list-returns
lower_list-returns t c =
    list-all c.args.around.now c.args.below c.args.nodes.now c.loop-node.node-index c.loop-node.work _ _ c.loop-node.values.items
    c.loop-node.invariant.result c.loop-node.invariant.work (omega arith)

pub lower_targets-loop-node-preserved : goal.lower_targets-loop-node-preserved
lower_targets-loop-node-preserved t c =
    let none : TermId = record { 0 = 0 } in
    let so_far = c.loop-node.invariant in
    record {
      result = target-result c.args.around.now c.args.below c.args.nodes.now c.loop-node.node-index c.loop-node.work _ _ c.loop-node.targets.items
          so_far.result so_far.work none c.lower_target.new.work c.in_ok-target.target c.push.new.self.items c.loop-node-test.true
          c.in_ok-target.ensures.0 c.in_ok-target.ensures.1 c.in_ok-push.ensures.items;
      work = target-work c.args.around.now c.args.below c.args.nodes.now c.loop-node.node-index c.loop-node.work _ _ c.loop-node.targets.items
          so_far.result so_far.work none c.lower_target.new.work c.loop-node-test.true c.in_ok-target.ensures.1;
    }

pub lower_targets-returns : goal.lower_targets-returns
lower_targets-returns t c =
    target-all c.args.around.now c.args.below c.args.nodes.now c.loop-node.node-index c.loop-node.work _ _ c.loop-node.targets.items
    c.loop-node.invariant.result c.loop-node.invariant.work (omega arith)

pub lower_block-loop-node-preserved : goal.lower_block-loop-node-preserved
lower_block-loop-node-preserved t c =
    let none : TermId = record { 0 = 0 } in
    block-later c.args.around.now c.args.below c.args.nodes.now c.loop-node.node-index c.loop-node.work _ c.loop-node.invariant none
    c.lower_statement.new.work c.loop-node-test.true c.in_ok-lower_statement.ensures

pub lower_block-returns : goal.lower_block-returns
lower_block-returns t c =
    block-all c.args.around.now c.args.below c.args.nodes.now c.loop-node.node-index c.loop-node.work _ c.loop-node.invariant (omega arith)

pub lower_scope-returns : goal.lower_scope-returns
lower_scope-returns t c =
    let around = c.args.around.now in
    let w0 = c.args.work.now in
    let block = block_before around.store.now c.args.below c.args.nodes.now in
    let p = all_of around c.args.below c.args.nodes.now w0 in
    let w1 = c.lower_block.new.work in
    let b1 = built-scoped w0 w0 w1 [] w0.used w0.scope 0 (built-nothing w0) p (in_block block) c.in_ok-lower_block.ensures in
    let b2 = built-left w0 w1 c.leave.new.self p.code p.used p.result (0 + in_block block) b1 c.depth-depth.result w0.scope
    (scope-left w0.scope p.result c.depth-depth.result (block-before (around_of around) block w0.next w0.scope w0.used) c.depth-depth.ensures)
    c.in_ok-leave.ensures in
    let whole : Piece Holders = taken (λ (h : Holders). w0.scope) p in
    built-all w0 c.leave.new.self whole (in_block block) p.code p.used w0.scope (0 + in_block block) b2 refl refl refl (zero-add (in_block block))

pub lower_if-returns : goal.lower_if-returns
lower_if-returns t c =
    let around = c.args.around.now in
    let w0 = c.args.work.now in
    let tested = expression_before around.store.now c.args.below c.args.test in
    let block = block_before around.store.now c.args.below c.args.block.now in
    let p = piece_of around the_value c.args.below c.args.test w0 in
    let n = in_expression tested in
    let m = in_block block in
    let w1 = c.lower_expression.new.work in
    let w2 = c.end.new.self in
    let a = all_of around c.args.below c.args.block.now w2 in
    let w3 = c.lower_scope.new.work in
    let b1 = built-term w0 w0 w1 [] w0.used w0.scope 0 (built-nothing w0) p n c.in_ok-v.ensures.1 in
    let b2 = built-item w0 w1 w2 p.code p.used w0.scope (0 + n) b1 (ends (tests c.word.result 0)) c.in_ok-end.ensures in
    let inner : Piece Holders = taken (λ (h : Holders). w2.scope) a in
    let b3 = built-scoped w0 w2 w3 (p.code ++ ends (tests c.word.result 0) ∷ []) p.used w0.scope (0 + n) b2 inner m c.in_ok-lower_scope.ensures in
    let b5 = passed-built w0 w1 w3 c.end-2.new.self c.close.new.self p.code a.code c.word.result p.used a.used w0.scope w2.scope (0 + n) (0 + n + m)
    c.mark-mark.result.position c.mark-mark.result.ended b1 c.mark-mark.ensures.position c.mark-mark.ensures.ended b3 c.in_ok-end-2.ensures c.close.ensures in
    let C = around_of around in
    let same : a ≡ all C block (w0.next + n) w0.scope p.used =
    ap (λ (k : ℕ). all C block k w2.scope w2.used) (b2.next ∙ ap (λ (j : ℕ). w0.next + j) (zero-add n))
    ∙ ap (λ (h : Holders). all C block (w0.next + n) h w2.used) b2.scope ∙ ap (λ (u : Used). all C block (w0.next + n) w0.scope u) b2.used in
    let word : c.word.result ≡ word_of p.result = c.word.ensures ∙ ap word_of c.in_ok-v.ensures.0 in
    let sum : 0 + n + m ≡ in_statement (if_tree around c.args.below c.args.test c.args.block.now) =
    omega (arith, declared_append (events_of tested) (scope (block_events block)), declared_scope (block_events block)) in
    built-all w0 c.close.new.self (one_at around (if_tree around c.args.below c.args.test c.args.block.now) w0) _ _ _ _ _ b5
    (ap (λ (o : Operand). p.code ++ passed_over o a.code) word ∙ ap (λ (q : Piece Holders). p.code ++ passed_over (word_of p.result) q.code) same)
    (ap (λ (q : Piece Holders). q.used) same) b2.scope sum

pub lower_choice-returns : goal.lower_choice-returns
lower_choice-returns t c =
    let around = c.args.around.now in
    let w0 = c.args.work.now in
    let C = around_of around in
    let tested = expression_before around.store.now c.args.below c.args.test in
    let block = block_before around.store.now c.args.below c.args.block.now in
    let others = block_before around.store.now c.args.below c.args.other.now in
    let n = in_expression tested in
    let m = in_block block in
    let k = in_block others in
    let s0 = ends (skips 0) in
    let p = piece_of around the_value c.args.below c.args.test w0 in
    let w1 = c.lower_expression.new.work in
    let w2 = c.end.new.self in
    let a = all_of around c.args.below c.args.block.now w2 in
    let w3 = c.lower_scope.new.work in
    let w4 = c.end-2.new.self in
    let w5 = c.close.new.self in
    let b = all_of around c.args.below c.args.other.now w5 in
    let w6 = c.lower_scope-2.new.work in
    let w7 = c.end-3.new.self in
    let w8 = c.close-2.new.self in
    let t = c.word.result in
    let b1 = built-term w0 w0 w1 [] w0.used w0.scope 0 (built-nothing w0) p n c.in_ok-v.ensures.1 in
    let b2 = built-item w0 w1 w2 p.code p.used w0.scope (0 + n) b1 (ends (tests t 0)) c.in_ok-end.ensures in
    let inner : Piece Holders = taken (λ (h : Holders). w2.scope) a in
    let b3 = built-scoped w0 w2 w3 (p.code ++ ends (tests t 0) ∷ []) p.used w0.scope (0 + n) b2 inner m c.in_ok-lower_scope.ensures in
    let T = ends (tests t (suc (count_ends a.code))) in
    let b5 = tested-built w0 w1 w3 w4 w5 p.code a.code t p.used a.used w0.scope w2.scope (0 + n) (0 + n + m)
    c.mark-tested.result.position c.mark-tested.result.ended b1 c.mark-tested.ensures.position c.mark-tested.ensures.ended
    (skips 0) b3 c.in_ok-end-2.ensures c.close.ensures in
    let inner2 : Piece Holders = taken (λ (h : Holders). w5.scope) b in
    let b6 = built-scoped w0 w5 w6 (p.code ++ T ∷ (a.code ++ s0 ∷ [])) a.used w2.scope (0 + n + m) b5 inner2 k c.in_ok-lower_scope-2.ensures in
    let b7 = built-item w0 w6 w7 (p.code ++ T ∷ (a.code ++ s0 ∷ []) ++ b.code) b.used w5.scope (0 + n + m + k) b6 s0 c.in_ok-end-3.ensures in
    let X = p.code ++ T ∷ a.code in
    let Y = b.code ++ s0 ∷ [] in
    let shape : p.code ++ T ∷ (a.code ++ s0 ∷ []) ++ b.code ++ s0 ∷ [] ≡ X ++ s0 ∷ Y =
    append_assoc (p.code ++ T ∷ (a.code ++ s0 ∷ [])) b.code (s0 ∷ [])
    ∙ ap (λ (l : List Item). l ++ Y) (sym (append_assoc p.code (T ∷ a.code) (s0 ∷ [])))
    ∙ append_assoc X (s0 ∷ []) Y in
    let test = ends (tests t 0) in
    let len3 : length w3.code ≡ length (w0.code ++ X) =
    ap (λ (l : List Item). length l) b3.code
    ∙ omega (
      arith,
      length-append w0.code (p.code ++ test ∷ [] ++ a.code),
      length-append (p.code ++ test ∷ []) a.code,
      length-append p.code (test ∷ []),
      length-append w0.code X,
      length-append p.code (T ∷ a.code),
    ) in
    let ends3 : count_ends w3.code ≡ count_ends (w0.code ++ X) =
    ap count_ends b3.code
    ∙ omega (
      arith,
      count-append w0.code (p.code ++ test ∷ [] ++ a.code),
      count-append (p.code ++ test ∷ []) a.code,
      count-append p.code (test ∷ []),
      count-append w0.code X,
      count-append p.code (T ∷ a.code),
    ) in
    let b8 = built-closed w0 w7 w8 X Y (skips 0) b.used w5.scope (0 + n + m + k) c.mark-done.result.position c.mark-done.result.ended
    (subst (λ (l : List Item). Built w0 w7 l b.used w5.scope (0 + n + m + k)) shape b7)
    (c.mark-done.ensures.position ∙ len3) (c.mark-done.ensures.ended ∙ ends3) c.close-2.ensures in
    let a0 = all C block (w0.next + n) w0.scope p.used in
    let b0 = all C others (w0.next + n + m) w0.scope a0.used in
    let second : a ≡ a0 =
    ap (λ (j : ℕ). all C block j w2.scope w2.used) (b2.next ∙ ap (λ (j : ℕ). w0.next + j) (zero-add n))
    ∙ ap (λ (h : Holders). all C block (w0.next + n) h w2.used) b2.scope ∙ ap (λ (u : Used). all C block (w0.next + n) w0.scope u) b2.used in
    let at : w5.next ≡ w0.next + n + m = b5.next ∙ omega arith in
    let third : b ≡ b0 =
    ap (λ (j : ℕ). all C others j w5.scope w5.used) at
    ∙ ap (λ (h : Holders). all C others (w0.next + n + m) h w5.used) (b5.scope ∙ b2.scope)
    ∙ ap (λ (u : Used). all C others (w0.next + n + m) w0.scope u) (b5.used ∙ ap (λ (r : Piece Holders). r.used) second) in
    let word : t ≡ word_of p.result = c.word.ensures ∙ ap word_of c.in_ok-v.ensures.0 in
    let one : count_ends Y ≡ suc (count_ends b.code) = omega (arith, count-append b.code (s0 ∷ [])) in
    let code : X ++ ends (skips (count_ends Y)) ∷ Y ≡ p.code ++ choice (word_of p.result) a0.code b0.code =
    append_assoc p.code (T ∷ a.code) (ends (skips (count_ends Y)) ∷ Y)
    ∙ ap (λ (j : ℕ). p.code ++ T ∷ (a.code ++ ends (skips j) ∷ Y)) one
    ∙ ap (λ (o : Operand). p.code ++ choice o a.code b.code) word ∙ ap (λ (r : Piece Holders). p.code ++ choice (word_of p.result) r.code b.code) second
    ∙ ap (λ (r : Piece Holders). p.code ++ choice (word_of p.result) a0.code r.code) third in
    let sum : 0 + n + m + k ≡ in_statement (choice_tree around c.args.below c.args.test c.args.block.now c.args.other.now) =
    omega (
      arith,
      declared_append (events_of tested ++ scope (block_events block)) (scope (block_events others)),
      declared_append (events_of tested) (scope (block_events block)),
      declared_scope (block_events block),
      declared_scope (block_events others),
    ) in
    built-all w0 w8 (one_at around (choice_tree around c.args.below c.args.test c.args.block.now c.args.other.now) w0) _ _ _ _ _ b8 code
    (ap (λ (r : Piece Holders). r.used) third) (b5.scope ∙ b2.scope) sum

pub lower_while-returns : goal.lower_while-returns
lower_while-returns t c =
    let around = c.args.around.now in
    let w0 = c.args.work.now in
    let C = around_of around in
    let tested = expression_before around.store.now c.args.below c.args.test in
    let block = block_before around.store.now c.args.below c.args.body.now in
    let n = in_expression tested in
    let m = in_block block in
    let s0 = ends (skips 0) in
    let w1 = c.end.new.self in
    let p = piece_of around the_value c.args.below c.args.test w1 in
    let w2 = c.lower_expression.new.work in
    let w3 = c.end-2.new.self in
    let a = all_of around c.args.below c.args.body.now w3 in
    let w4 = c.lower_scope.new.work in
    let w5 = c.go_back.new.self in
    let w6 = c.close.new.self in
    let w7 = c.close_loop.new.self in
    let t = c.word.result in
    let b1 = built-item w0 w0 w1 [] w0.used w0.scope 0 (built-nothing w0) s0 c.in_ok-end.ensures in
    let b2 = built-term w0 w1 w2 (s0 ∷ []) w0.used w0.scope 0 b1 p n c.in_ok-v.ensures.1 in
    let b3 = built-item w0 w2 w3 (s0 ∷ p.code) p.used w0.scope (0 + n) b2 (ends (tests t 0)) c.in_ok-end-2.ensures in
    let inner : Piece Holders = taken (λ (h : Holders). w3.scope) a in
    let b4 = built-scoped w0 w3 w4 ((s0 ∷ p.code) ++ ends (tests t 0) ∷ []) p.used w0.scope (0 + n) b3 inner m c.in_ok-lower_scope.ensures in
    let back = count_ends w4.code - c.mark-start.result.ended in
    let Z = ends (tests t (suc (count_ends a.code))) ∷ (a.code ++ ends (repeats back) ∷ []) in
    let b6 = tested-built w0 w2 w4 w5 w6 (s0 ∷ p.code) a.code t p.used a.used w0.scope w3.scope (0 + n) (0 + n + m)
    c.mark-tested.result.position c.mark-tested.result.ended b2 c.mark-tested.ensures.position c.mark-tested.ensures.ended
    (repeats back) b4 c.in_ok-go_back.ensures c.close.ensures in
    let b7 = built-loop w0 w6 w7 (s0 ∷ []) (p.code ++ Z) a.used w3.scope (0 + n + m) c.mark-start.result.position b6
    (c.mark-start.ensures.position ∙ ap (λ (l : List Item). length l) b1.code) c.close_loop.ensures in
    let p0 = piece C the_value tested w0.next w0.scope w0.used in
    let a0 = all C block (w0.next + n) w0.scope p0.used in
    let first : p ≡ p0 = ap (λ (w : Made). piece C the_value tested w.next w.scope w.used) c.in_ok-end.ensures in
    let second : a ≡ a0 =
    ap (λ (k : ℕ). all C block k w3.scope w3.used) (b3.next ∙ ap (λ (j : ℕ). w0.next + j) (zero-add n))
    ∙ ap (λ (h : Holders). all C block (w0.next + n) h w3.used) b3.scope
    ∙ ap (λ (u : Used). all C block (w0.next + n) w0.scope u) (b3.used ∙ ap (λ (r : Piece Result). r.used) first) in
    let word : t ≡ word_of p0.result = c.word.ensures ∙ ap word_of c.in_ok-v.ensures.0 ∙ ap (λ (r : Piece Result). word_of r.result) first in
    let begin : c.mark-start.result.ended ≡ count_ends w0.code + 1 =
    c.mark-start.ensures.ended ∙ ap count_ends b1.code ∙ count-append w0.code (s0 ∷ []) in
    let test = ends (tests t 0) in
    let all_ends : count_ends w4.code ≡ count_ends w0.code + count_ends ((s0 ∷ p.code) ++ test ∷ [] ++ a.code) =
    ap count_ends b4.code ∙ count-append w0.code ((s0 ∷ p.code) ++ test ∷ [] ++ a.code) in
    let rounds : back ≡ count_ends p.code + suc (count_ends a.code) =
    omega (arith, begin, all_ends, count-append ((s0 ∷ p.code) ++ test ∷ []) a.code, count-append (s0 ∷ p.code) (test ∷ [])) in
    let code : s0 ∷ loop_of (p.code ++ Z) ≡ while_loop p0.code (word_of p0.result) a0.code =
    ap (λ (k : ℕ). s0 ∷ loop_of (p.code ++ ends (tests t (suc (count_ends a.code))) ∷ (a.code ++ ends (repeats k) ∷ []))) rounds
    ∙ ap (λ (o : Operand). while_loop p.code o a.code) word ∙ ap (λ (r : Piece Result). while_loop r.code (word_of p0.result) a.code) first
    ∙ ap (λ (r : Piece Holders). while_loop p0.code (word_of p0.result) r.code) second in
    let sum : 0 + n + m ≡ in_statement (while_tree around c.args.below c.args.test c.args.body.now) =
    omega (arith, declared_append (events_of tested) (scope (block_events block)), declared_scope (block_events block)) in
    built-all w0 w7 (one_at around (while_tree around c.args.below c.args.test c.args.body.now) w0) _ _ _ _ _ b7 code
    (ap (λ (r : Piece Holders). r.used) second) b3.scope sum

pub lower_repeat-returns : goal.lower_repeat-returns
lower_repeat-returns t c =
    let around = c.args.around.now in
    let w0 = c.args.work.now in
    let C = around_of around in
    let tested = expression_before around.store.now c.args.below c.args.test in
    let block = block_before around.store.now c.args.below c.args.body.now in
    let n = in_expression tested in
    let m = in_block block in
    let s0 = ends (skips 0) in
    let w1 = c.end.new.self in
    let a = all_of around c.args.below c.args.body.now w1 in
    let w2 = c.lower_block.new.work in
    let p = piece_of around the_value c.args.below c.args.test w2 in
    let w3 = c.lower_expression.new.work in
    let w4 = c.leave.new.self in
    let w5 = c.go_back_unless.new.self in
    let w6 = c.close_loop.new.self in
    let t = c.word.result in
    let b1 = built-item w0 w0 w1 [] w0.used w0.scope 0 (built-nothing w0) s0 c.in_ok-end.ensures in
    let b2 = built-scoped w0 w1 w2 (s0 ∷ []) w0.used w0.scope 0 b1 a m c.in_ok-lower_block.ensures in
    let b3 = built-term w0 w2 w3 (s0 ∷ a.code) a.used a.result (0 + m) b2 p n c.in_ok-v.ensures.1 in
    let depth : c.depth-depth.result ≡ length w1.scope = c.depth-depth.ensures in
    let b4 = built-left w0 w3 w4 ((s0 ∷ a.code) ++ p.code) p.used a.result (0 + m + n) b3 c.depth-depth.result w1.scope
    (scope-left w1.scope a.result c.depth-depth.result (block-before C block w1.next w1.scope w1.used) depth) c.in_ok-leave.ensures in
    let back = count_ends w4.code - c.mark-start.result.ended in
    let last = ends (repeats_unless t back) in
    let b5 = built-item w0 w4 w5 ((s0 ∷ a.code) ++ p.code) p.used w1.scope (0 + m + n) b4 last c.in_ok-go_back_unless.ensures in
    let inside = a.code ++ p.code in
    let b6 = built-loop w0 w5 w6 (s0 ∷ []) (inside ++ last ∷ []) p.used w1.scope (0 + m + n) c.mark-start.result.position b5
    (c.mark-start.ensures.position ∙ ap (λ (l : List Item). length l) b1.code) c.close_loop.ensures in
    let a0 = all C block w0.next w0.scope w0.used in
    let p0 = piece C the_value tested (w0.next + m) a0.result a0.used in
    let first : a ≡ a0 = ap (λ (w : Made). all C block w.next w.scope w.used) c.in_ok-end.ensures in
    let second : p ≡ p0 =
    ap (λ (k : ℕ). piece C the_value tested k w2.scope w2.used) (b2.next ∙ ap (λ (j : ℕ). w0.next + j) (zero-add m))
    ∙ ap (λ (h : Holders). piece C the_value tested (w0.next + m) h w2.used) (b2.scope ∙ ap (λ (r : Piece Holders). r.result) first)
    ∙ ap (λ (u : Used). piece C the_value tested (w0.next + m) a0.result u) (b2.used ∙ ap (λ (r : Piece Holders). r.used) first) in
    let word : t ≡ word_of p0.result = c.word.ensures ∙ ap word_of c.in_ok-v.ensures.0 ∙ ap (λ (r : Piece Result). word_of r.result) second in
    let begin : c.mark-start.result.ended ≡ count_ends w0.code + 1 =
    c.mark-start.ensures.ended ∙ ap count_ends b1.code ∙ count-append w0.code (s0 ∷ []) in
    let all_ends : count_ends w4.code ≡ count_ends w0.code + count_ends (s0 ∷ inside) =
    ap count_ends b4.code ∙ count-append w0.code (s0 ∷ inside) in
    let rounds : back ≡ count_ends inside = omega (arith, begin, all_ends) in
    let code : s0 ∷ loop_of (inside ++ last ∷ []) ≡ repeat_loop (a0.code ++ p0.code) (word_of p0.result) =
    ap (λ (k : ℕ). s0 ∷ loop_of (inside ++ ends (repeats_unless t k) ∷ [])) rounds
    ∙ ap (λ (o : Operand). repeat_loop inside o) word ∙ ap (λ (r : Piece Holders). repeat_loop (r.code ++ p.code) (word_of p0.result)) first
    ∙ ap (λ (r : Piece Result). repeat_loop (a0.code ++ r.code) (word_of p0.result)) second in
    let sum : 0 + m + n ≡ in_statement (repeat_tree around c.args.below c.args.body.now c.args.test) =
    omega (arith, declared_append (block_events block) (events_of tested), declared_scope (block_events block ++ events_of tested)) in
    built-all w0 w6 (one_at around (repeat_tree around c.args.below c.args.body.now c.args.test) w0) _ _ _ _ _ b6 code
    (ap (λ (r : Piece Result). r.used) second) b1.scope sum

pub lower_for-returns : goal.lower_for-returns
lower_for-returns t c =
    let around = c.args.around.now in
    let w0 = c.args.work.now in
    let C = around_of around in
    let at = c.args.at in
    let x = c.args.name in
    let vs = map result_of c.args.bounds.now in
    let block = block_before around.store.now c.args.below c.args.body.now in
    let m = in_block block in
    let s0 = ends (skips 0) in
    let d = c.in_ok-value.value in
    let d0 = w0.used.temps in
    let same_d : d ≡ d0 = c.in_ok-value.ensures.temp in
    let u0 = with_temp w0.used in
    let w1 = c.temp.new.self in
    let w2 = c.put.new.self in
    let w3 = c.end.new.self in
    let w4 = c.runs.new.work in
    let w5 = c.end-2.new.self in
    let w6 = c.declare.new.work in
    let w7 = c.lower_block.new.work in
    let w8 = c.leave.new.self in
    let w9 = c.put-2.new.self in
    let w10 = c.go_back.new.self in
    let w11 = c.close.new.self in
    let w12 = c.close_loop.new.self in
    let k = counting_of c.counting_with-k.result in
    let o = c.word.result in
    let copy = does (Copy d c.word_at.result) in
    let copy0 = does (Copy d0 (word_at vs 0)) in
    let F = copy ∷ s0 ∷ [] in
    let b1 = built-temp w0 w0 w1 [] w0.used w0.scope 0 (built-nothing w0) u0 c.in_ok-value.ensures.work in
    let b2 = built-item w0 w1 w2 [] u0 w0.scope 0 b1 copy c.in_ok-put.ensures in
    let b3 = built-item w0 w2 w3 (copy ∷ []) u0 w0.scope 0 b2 s0 c.in_ok-end.ensures in
    let q = runs k w3.used in
    let b4 = built-plain w0 w3 w4 F u0 w0.scope 0 b3 q c.in_ok-test.ensures.1 in
    let test = ends (tests o 0) in
    let b5 = built-item w0 w4 w5 (F ++ q.code) q.used w0.scope 0 b4 test c.in_ok-end-2.ensures in
    let X5 = F ++ q.code ++ test ∷ [] in
    let given : Option Result = Some (a_word (Temp d)) in
    let given0 : Option Result = Some (a_word (Temp d0)) in
    let p1 = declare C at x given w5.next w5.scope w5.used in
    let b6 = built-scoped w0 w5 w6 X5 q.used w0.scope 0 b5 p1 1 c.in_ok-declare.ensures in
    let p2 = all C block w6.next w6.scope w6.used in
    let b7 = built-scoped w0 w6 w7 (X5 ++ p1.code) p1.used p1.result (0 + 1) b6 p2 m c.in_ok-lower_block.ensures in
    let inner : Before p1.result p2.result =
    subst (λ (h : Holders). Before h p2.result) b6.scope (block-before C block w6.next w6.scope w6.used) in
    let before : Before w5.scope p2.result =
    before-both w5.scope p1.result p2.result (declared-before C at x given w5.next w5.scope w5.used) inner in
    let b8 = built-left w0 w7 w8 (X5 ++ p1.code ++ p2.code) p2.used p2.result (0 + 1 + m) b7 c.depth-depth.result w5.scope
    (scope-left w5.scope p2.result c.depth-depth.result before c.depth-depth.ensures) c.in_ok-leave.ensures in
    let y = does c.counted_on.result in
    let Y = y ∷ [] in
    let b9 = built-item w0 w8 w9 (X5 ++ p1.code ++ p2.code) p2.used w5.scope (0 + 1 + m) b8 y c.in_ok-put-2.ensures in
    let A = p1.code ++ p2.code ++ Y in
    let shape : X5 ++ p1.code ++ p2.code ++ Y ≡ X5 ++ A =
    ap (λ (l : List Item). l ++ Y) (append_assoc X5 p1.code p2.code) ∙ append_assoc X5 (p1.code ++ p2.code) Y in
    let b10 = subst (λ (l : List Item). Built w0 w9 l p2.used w5.scope (0 + 1 + m)) shape b9 in
    let back = count_ends w9.code - c.mark-start.result.ended in
    let Z = ends (tests o (suc (count_ends A))) ∷ (A ++ ends (repeats back) ∷ []) in
    let b11 = tested-built w0 w4 w9 w10 w11 (F ++ q.code) A o q.used p2.used w0.scope w5.scope 0 (0 + 1 + m)
    c.mark-tested.result.position c.mark-tested.result.ended b4 c.mark-tested.ensures.position c.mark-tested.ensures.ended
    (repeats back) b10 c.in_ok-go_back.ensures c.close.ensures in
    let b12 = built-loop w0 w11 w12 F (q.code ++ Z) p2.used w5.scope (0 + 1 + m) c.mark-start.result.position b11
    (c.mark-start.ensures.position ∙ ap (λ (l : List Item). length l) b3.code) c.close_loop.ensures in
    let number = number_of around.store.now.types x.of in
    let k0 = counting number vs d0 in
    let numbers : c.number_of.result ≡ number =
    c.number_of.ensures ∙ ap (λ (ts : List TypeForm). number_of ts x.of) c.types.ensures in
    let counted : k ≡ k0 =
    c.counting_with-k.ensures ∙ ap (λ (n : Number). counting n vs d) numbers ∙ ap (λ (j : ℕ). counting number vs j) same_d in
    let q0 = runs k0 u0 in
    let first : q ≡ q0 = ap (λ (z : Counting). runs z w3.used) counted ∙ ap (λ (u : Used). runs k0 u) b3.used in
    let p10 = declare C at x given0 w0.next w0.scope q0.used in
    let at5 : w5.next ≡ w0.next = omega (arith, b5.next) in
    let second : p1 ≡ p10 =
    ap (λ (j : ℕ). declare C at x given j w5.scope w5.used) at5
    ∙ ap (λ (h : Holders). declare C at x given w0.next h w5.used) b5.scope
    ∙ ap (λ (u : Used). declare C at x given w0.next w0.scope u) (b5.used ∙ ap (λ (r : Piece Result). r.used) first)
    ∙ ap (λ (j : ℕ). declare C at x (Some (a_word (Temp j))) w0.next w0.scope q0.used) same_d in
    let p20 = all C block (suc w0.next) p10.result p10.used in
    let at6 : w6.next ≡ suc w0.next = omega (arith, b6.next) in
    let third : p2 ≡ p20 =
    ap (λ (j : ℕ). all C block j w6.scope w6.used) at6
    ∙ ap (λ (h : Holders). all C block (suc w0.next) h w6.used) (b6.scope ∙ ap (λ (r : Piece Holders). r.result) second)
    ∙ ap (λ (u : Used). all C block (suc w0.next) p10.result u) (b6.used ∙ ap (λ (r : Piece Holders). r.used) second) in
    let word : o ≡ word_of q0.result = c.word.ensures ∙ ap word_of c.in_ok-test.ensures.0 ∙ ap (λ (r : Piece Result). word_of r.result) first in
    let copied : copy ≡ copy0 =
    ap (λ (j : ℕ). does (Copy j c.word_at.result)) same_d ∙ ap (λ (z : Operand). does (Copy d0 z)) c.word_at.ensures in
    let last : y ≡ counted_on k0 = c.counted_on.ensures ∙ ap (λ (z : Counting). counted_on z) counted in
    let body : A ≡ p10.code ++ p20.code ++ counted_on k0 ∷ [] =
    ap (λ (r : Piece Holders). r.code ++ p2.code ++ Y) second ∙ ap (λ (r : Piece Holders). p10.code ++ r.code ++ Y) third
    ∙ ap (λ (i : Item). p10.code ++ p20.code ++ i ∷ []) last in
    let begin : c.mark-start.result.ended ≡ count_ends w0.code + 1 =
    c.mark-start.ensures.ended ∙ ap count_ends b3.code ∙ count-append w0.code F in
    let all_ends : count_ends w9.code ≡ count_ends w0.code + count_ends (X5 ++ A) = ap count_ends b10.code ∙ count-append w0.code (X5 ++ A) in
    let rounds : back ≡ count_ends q.code + suc (count_ends A) =
    omega (arith, begin, all_ends, count-append X5 A, count-append (F ++ q.code) (test ∷ [])) in
    let B = p10.code ++ p20.code ++ counted_on k0 ∷ [] in
    let code : F ++ loop_of (q.code ++ Z) ≡ copy0 ∷ while_loop q0.code (word_of q0.result) B =
    ap (λ (j : ℕ). F ++ loop_of (q.code ++ ends (tests o (suc (count_ends A))) ∷ (A ++ ends (repeats j) ∷ []))) rounds
    ∙ ap (λ (i : Item). i ∷ while_loop q.code o A) copied
    ∙ ap (λ (z : Operand). copy0 ∷ while_loop q.code z A) word
    ∙ ap (λ (r : Piece Result). copy0 ∷ while_loop r.code (word_of q0.result) A) first
    ∙ ap (λ (l : List Item). copy0 ∷ while_loop q0.code (word_of q0.result) l) body in
    let sum : 0 + 1 + m ≡ suc m = omega arith in
    built-all w0 w12 (for_of around c.args.below at x vs c.args.body.now w0) _ _ _ _ _ b12 code
    (ap (λ (r : Piece Holders). r.used) third) b5.scope sum

pub lower_expression-returns-in_ok-v-in-Element-2 : goal.lower_expression-returns-in_ok-v-in-Element-2
lower_expression-returns-in_ok-v-in-Element-2 t c =
    let e = c.in-Some.e in
    element-arm c.args.around.now (want_of c.args.want) c.args.below c.args.node e.at e.of e.form.now c.in-Some.ensures.tree
    c.reached-in-Element.result c.args.work.now c.reached-in-Element.new.work c.types-types.result.now c.bytes_at.result
    c.word-in-Element.result c.word-in-Element-2.result c.types-types.ensures c.bytes_at.ensures c.in-Element.a c.in-Element.i
    c.in_ok-v-in-Element.v c.in_ok-array-in-Element.array c.in_ok-n-in-Element.n c.in_ok-v-in-Element-2.v
    c.lower_expression-in-Element.new.work c.located.new.work c.lower_expression-in-Element-2.new.work c.element.new.work c.in-Element.is
    c.in_ok-v-in-Element.ensures.0 c.in_ok-v-in-Element.ensures.1 c.in_ok-array-in-Element.ensures.0 c.in_ok-array-in-Element.ensures.1
    c.in_ok-n-in-Element.ensures.0 c.in_ok-n-in-Element.ensures.1 c.word-in-Element.ensures c.word-in-Element-2.ensures
    c.in_ok-v-in-Element-2.ensures.0 c.in_ok-v-in-Element-2.ensures.1 c.reached-in-Element.ensures

pub lower_expression-returns-in_ok-v-in-Index-2 : goal.lower_expression-returns-in_ok-v-in-Index-2
lower_expression-returns-in_ok-v-in-Index-2 t c =
    let e = c.in-Some.e in
    index-arm c.args.around.now (want_of c.args.want) c.args.below c.args.node e.at e.of e.form.now c.in-Some.ensures.tree
    c.reached-in-Index.result c.args.work.now c.reached-in-Index.new.work c.types-types.result.now c.bytes_at-in-Index.result
    c.word-in-Index.result c.word-in-Index-2.result c.types-types.ensures c.bytes_at-in-Index.ensures c.in-Index.p c.in-Index.i
    c.in_ok-v-in-Index.v c.in_ok-n-in-Index.n c.in_ok-v-in-Index-2.v
    c.lower_expression-in-Index.new.work c.lower_expression-in-Index-2.new.work c.element-in-Index.new.work c.in-Index.is
    c.in_ok-v-in-Index.ensures.0 c.in_ok-v-in-Index.ensures.1 c.in_ok-n-in-Index.ensures.0 c.in_ok-n-in-Index.ensures.1
    c.word-in-Index.ensures c.word-in-Index-2.ensures c.in_ok-v-in-Index-2.ensures.0 c.in_ok-v-in-Index-2.ensures.1 c.reached-in-Index.ensures

pub lower_expression-returns-in_ok-v-in-Address : goal.lower_expression-returns-in_ok-v-in-Address
lower_expression-returns-in_ok-v-in-Address t c =
    let e = c.in-Some.e in
    address-arm c.args.around.now (want_of c.args.want) c.args.below c.args.node e.at e.of e.form.now c.in-Some.ensures.tree
    c.located-in-Address.result c.args.work.now c.located-in-Address.new.work c.in-Address.place c.in_ok-v-in-Address.v
    c.lower_expression-in-Address.new.work c.in-Address.is c.in_ok-v-in-Address.ensures.0 c.in_ok-v-in-Address.ensures.1 c.located-in-Address.ensures

pub lower_expression-returns-in_ok-leave-in-Let : goal.lower_expression-returns-in_ok-leave-in-Let
lower_expression-returns-in_ok-leave-in-Let t c =
    let e = c.in-Some.e in
    let around = c.args.around.now in
    let w0 = c.args.work.now in
    let b = c.args.node.0 in
    let first = c.in_ok-lower_block-in-Let.ensures
    ∙ ap (λ (l : List TermId). scoped w0 (all_of around b l w0) (in_block (block_before around.store.now b l))) c.as_slice.ensures in
    let-arm around (want_of c.args.want) c.args.below c.args.node e.at e.of e.form.now c.in-Some.ensures.tree w0 c.in-Let.block c.in-Let.value
    c.in_ok-v-in-Let.v c.lower_block.new.work c.lower_expression-in-Let.new.work c.leave.new.self c.depth-depth.result c.in-Let.is first
    c.in_ok-v-in-Let.ensures.0 c.in_ok-v-in-Let.ensures.1 c.depth-depth.ensures c.in_ok-leave-in-Let.ensures

pub lower_statement-returns-in_ok-values-in-Var : goal.lower_statement-returns-in_ok-values-in-Var
lower_statement-returns-in_ok-values-in-Var t c =
    let s = c.in-Some.s in
    let around = c.args.around.now in
    let w0 = c.args.work.now in
    let b = c.args.node.0 in
    let w1 = c.lower_list.new.work in
    let w = c.declare_all.new.work in
    let r = c.declare_all.result in
    let C = around_of around in
    let same = c.in_ok-values-in-Var.ensures.0 ∙ ap (λ (l : List TermId). (pieces_of around b l w0).result) c.as_slice.ensures in
    let first = c.in_ok-values-in-Var.ensures.1
    ∙ ap (λ (l : List TermId). past w0 (pieces_of around b l w0) (in_list (list_before around.store.now b l))) c.as_slice.ensures in
    let named : Declared r w1 w (declare_all C s.at c.in-Var.names (map result_of c.deref.result.now) w1.next w1.scope w1.used) (length c.in-Var.names) =
    subst (λ (l : List TypedName). Declared r w1 w (declare_all C s.at l (map result_of c.deref.result.now) w1.next w1.scope w1.used) (length l))
    c.as_slice-in-Var.ensures c.declare_all.ensures in
    let given = subst (λ (l : List Value). Declared r w1 w (declare_all C s.at c.in-Var.names (map result_of l) w1.next w1.scope w1.used) (length c.in-Var.names))
    c.deref.ensures.value named in
    var-arm around c.args.below c.args.node s.at s.doing.now c.in-Some.ensures.tree r w0 w c.in-Var.names c.in-Var.values
    (map result_of c.in_ok-values-in-Var.values.items) w1 c.in-Var.is same first given

pub lower_statement-returns-in_ok-places-in-Assign : goal.lower_statement-returns-in_ok-places-in-Assign
lower_statement-returns-in_ok-places-in-Assign t c =
    let s = c.in-Some.s in
    let around = c.args.around.now in
    let store = around.store.now in
    let w0 = c.args.work.now in
    let b = c.args.node.0 in
    let w1 = c.lower_list-in-Assign.new.work in
    let w2 = c.lower_targets.new.work in
    let w = c.assigned_all.new.work in
    let r = c.assigned_all.result in
    let goals = c.in-Assign.targets in
    let places = c.in_ok-places-in-Assign.places.items in
    let values = c.in_ok-values-in-Assign.values.items in
    let same = c.in_ok-values-in-Assign.ensures.0 ∙ ap (λ (l : List TermId). (pieces_of around b l w0).result) c.as_slice-in-Assign.ensures in
    let first = c.in_ok-values-in-Assign.ensures.1
    ∙ ap (λ (l : List TermId). past w0 (pieces_of around b l w0) (in_list (list_before store b l))) c.as_slice-in-Assign.ensures in
    let same1 = c.in_ok-places-in-Assign.ensures.0 ∙ ap (λ (l : List TermId). (targets_of around b l w1).result) c.as_slice-nodes.ensures in
    let second = c.in_ok-places-in-Assign.ensures.1
    ∙ ap (λ (l : List TermId). past w1 (targets_of around b l w1) (in_list (list_before store b l))) c.as_slice-nodes.ensures in
    let one = subst (λ (l : List TermId). Put r w2 w (assigned_all store.types (list_before store b l) (map target_of c.deref-in-Assign.result.now)
    (map result_of c.deref-in-Assign-2.result.now) w2.used)) c.as_slice-nodes.ensures c.assigned_all.ensures in
    let two = subst (λ (l : List code_target.Target). Put r w2 w (assigned_all store.types (list_before store b goals) (map target_of l)
    (map result_of c.deref-in-Assign-2.result.now) w2.used)) c.deref-in-Assign.ensures.value one in
    let three = subst (λ (l : List Value). Put r w2 w (assigned_all store.types (list_before store b goals) (map target_of places)
    (map result_of l) w2.used)) c.deref-in-Assign-2.ensures.value two in
    assign-arm around c.args.below c.args.node s.at s.doing.now c.in-Some.ensures.tree r w0 w goals c.in-Assign.values (map target_of places)
    (map result_of values) w1 w2 c.in-Assign.is same first same1 second three

pub lower_statement-returns-in_ok-values-in-For : goal.lower_statement-returns-in_ok-values-in-For
lower_statement-returns-in_ok-values-in-For t c =
    let s = c.in-Some.s in
    let around = c.args.around.now in
    let store = around.store.now in
    let w0 = c.args.work.now in
    let b = c.args.node.0 in
    let w1 = c.lower_list-in-For.new.work in
    let w = c.lower_for.new.work in
    let r = c.lower_for.result in
    let x = c.in-For.name in
    let same = c.in_ok-values-in-For.ensures.0 ∙ ap (λ (l : List TermId). (pieces_of around b l w0).result) c.as_slice-in-For.ensures in
    let first = c.in_ok-values-in-For.ensures.1
    ∙ ap (λ (l : List TermId). past w0 (pieces_of around b l w0) (in_list (list_before store b l))) c.as_slice-in-For.ensures in
    let one = subst (λ (l : List TermId). Declared r w1 w (for_of around b s.at x (map result_of c.deref-in-For.result.now) l w1)
    (suc (in_block (block_before store b l)))) c.as_slice-in-For-2.ensures c.lower_for.ensures in
    let two = subst (λ (l : List Value). Declared r w1 w (for_of around b s.at x (map result_of l) c.in-For.body w1)
    (suc (in_block (block_before store b c.in-For.body)))) c.deref-in-For.ensures.value one in
    for-arm around c.args.below c.args.node s.at s.doing.now c.in-Some.ensures.tree r w0 w x c.in-For.bounds c.in-For.body
    (map result_of c.in_ok-values-in-For.values.items) w1 c.in-For.is same first two

pub lower_statement-returns-in-Do : goal.lower_statement-returns-in-Do
lower_statement-returns-in-Do t c =
    let s = c.in-Some.s in
    let around = c.args.around.now in
    let w0 = c.args.work.now in
    let b = c.args.node.0 in
    let w = c.lower_scope.new.work in
    let r = c.lower_scope.result in
    let done = subst (λ (l : List TermId). Declared r w0 w (taken (λ (h : Holders). w0.scope) (all_of around b l w0)) (in_block (block_before around.store.now b l)))
    c.as_slice-in-Do.ensures c.lower_scope.ensures in
    do-arm around c.args.below c.args.node s.at s.doing.now c.in-Some.ensures.tree r w0 w c.in-Do.body c.in-Do.is done
