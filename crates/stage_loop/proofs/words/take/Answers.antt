use Rattle.std.proofs.Common.{◌≡◌, ℕ, ◌+◌, ◌<◌, ◌≤◌, length, sym, ap, ◌∙◌, arith}
use Rattle.lua_value.specs.declared.value.Value.TheVariants.{Nil}
use Rattle.terra_term.specs.declared.lists.TypedName.{TypedName}
use Rattle.stage_loop.specs.declared.words.Passed.TheVariants.{Bad}
use Rattle.stage_loop.specs.Calls.{passed_of}
use Rattle.stage_loop.proofs.Passing.{taken-missing, taken-bad, taken-next, taken-many, taken-all}
use Rattle.stage_loop.proofs.words.take.Goals as goal

-- what stands for a parameter past the end of a list
abbrev no_parameter : TypedName
no_parameter = record { symbol = record { 0 = 0 }; of = record { 0 = 0 } }

pub returns-then-place-values : goal.returns-then-place-values
returns-then-place-values c =
    let a = c.args in
    let l = c.loop-place in
    ap passed_of
    (sym (taken-missing a.types.now a.parameters.now a.values.now l.words l.place l.invariant no_parameter c.loop-place-test.true
    c.if-place-values.true))

pub returns-in-None : goal.returns-in-None
returns-in-None c =
    let a = c.args in
    let l = c.loop-place in
    let v = c.index-values-place.result in
    ap passed_of
    (sym (taken-bad a.types.now a.parameters.now a.values.now l.words l.place l.invariant no_parameter v c.loop-place-test.true
    c.if-place-values.false c.index-values-place.is (sym c.word_of.ensures ∙ c.in-None.is)))

pub loop-place-preserved : goal.loop-place-preserved
loop-place-preserved c =
    let a = c.args in
    let l = c.loop-place in
    let v = c.index-values-place.result in
    rw c.in_ok-push-in-Some.ensures.ok
    (taken-next a.types.now a.parameters.now a.values.now l.words l.place l.invariant no_parameter v c.in-Some.word c.loop-place-test.true
    c.if-place-values.false c.index-values-place.is (sym c.word_of.ensures ∙ c.in-Some.is))

pub returns-then-values-parameters : goal.returns-then-values-parameters
returns-then-values-parameters c =
    let a = c.args in
    let l = c.loop-place in
    let all : l.place ≡ length a.parameters.now = omega (arith, c.loop-place-test.false, l.auto.place-end) in
    let more : l.place < length a.values.now = omega (arith, all, c.if-values-parameters.true) in
    ap (λ (n : ℕ). Bad (n + 1)) (sym all)
    ∙ ap passed_of
    (sym (taken-many a.types.now a.parameters.now a.values.now l.words l.place l.invariant Nil c.loop-place-test.false more))

pub returns : goal.returns
returns c =
    let a = c.args in
    let l = c.loop-place in
    let few : length a.values.now ≤ l.place = omega (arith, c.loop-place-test.false, l.auto.place-end, c.if-values-parameters.false) in
    ap passed_of
    (sym (taken-all a.types.now a.parameters.now a.values.now l.words l.place l.invariant c.loop-place-test.false few))
