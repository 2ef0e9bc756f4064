use Rattle.std.proofs.Common.{sym, ap, ◌∙◌, subst, Option, get_or, slice_get, arith}
use Rattle.std.proofs.lemmas.Grind.{common_steps}
use Rattle.terra_words.specs.Runs.{Value, word}
use Rattle.terra_term.specs.declared.lists.TypedName.{TypedName}
use Rattle.terra_meaning.specs.Meaning.{declared, declared_all}
use Rattle.terra_eval.specs.Views.{Ended, call_of}
use Rattle.terra_eval.proofs.Loops.{declare-all, declare-later, declare-stops}
use Rattle.terra_eval.proofs.declaring.declare_all.Goals as goal

pub loop-i-preserved : goal.loop-i-preserved
loop-i-preserved c =
    let call = call_of c.args.call.now in
    let names = c.args.names.now in
    let i = c.loop-i.i in
    let s = c.loop-i.state in
    let none : TypedName = record { symbol = record { 0 = 0 }; of = record { 0 = 0 } } in
    let gave = ap (λ (v : Option Value). declared call c.args.at (get_or names i none) v c.loop-i.number s) (sym c.given.ensures) ∙ c.in_ok-declare.ensures in
    declare-later call c.args.at names c.args.values.now i none c.loop-i.number s _ c.loop-i-test.true c.loop-i.invariant _ (word 0) _ gave c.in_ok-number.ensures

pub returns : goal.returns
returns c =
    declare-all (call_of c.args.call.now) c.args.at c.args.names.now c.args.values.now c.loop-i.i c.loop-i.number c.loop-i.state _ (omega arith) c.loop-i.invariant

pub returns-in_err-declare : goal.returns-in_err-declare
returns-in_err-declare c =
    let call = call_of c.args.call.now in
    let names = c.args.names.now in
    let i = c.loop-i.i in
    let s = c.loop-i.state in
    let none : TypedName = record { symbol = record { 0 = 0 }; of = record { 0 = 0 } } in
    let e = c.in_err-declare.field-0.0 in
    let ended : Ended e c.declare.new.state (declared call c.args.at (get_or names i none) (slice_get c.args.values.now i) c.loop-i.number s) =
    subst (λ (v : Option Value). Ended e c.declare.new.state (declared call c.args.at (get_or names i none) v c.loop-i.number s)) c.given.ensures c.in_err-declare.ensures in
    let stops : Ended e c.declare.new.state (declared_all call c.args.at names c.args.values.now c.args.from c.args.state.now) =
    declare-stops call c.args.at names c.args.values.now i none c.loop-i.number s _ c.loop-i-test.true c.loop-i.invariant e _ ended in
    grind (arith, common_steps, stops)
