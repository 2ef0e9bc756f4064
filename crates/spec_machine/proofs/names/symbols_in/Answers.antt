use Rattle.std.proofs.Common.{◌≡◌, ◌+◌, List, [], ◌∷◌, ◌++◌, drop, refl, sym, ap, ◌∙◌}
use Rattle.std.proofs.lemmas.List.{get_or_read}
use Rattle.tl_base.specs.declared.ids.SymId.{SymId}
use Rattle.lua_value.specs.declared.value.Value.{Value}
use Rattle.lua_value.specs.declared.value.Value.TheVariants as values
use Rattle.lua_value.specs.declared.kind.Kind.{Kind}
use Rattle.exotype.specs.declared.fault.Fault.TheVariants.{InTerraCode}
use Rattle.spec_model.specs.Plans.{SpecPlan, raise}
use Rattle.spec_model.specs.Names.{symbols_in}
use Rattle.spec_machine.specs.declared.reached.Reached.TheVariants.{Left}
use Rattle.spec_machine.proofs.Looping.{symbols_at, symbols_end}
use Rattle.spec_machine.proofs.Otherwise.{none_in}
use Rattle.spec_machine.proofs.Reaching.{passes_same, comes_past, comes_left}
use Rattle.spec_machine.proofs.names.symbols_in.Goals as goal

pub values-preserved : goal.values-preserved
values-preserved c =
    let a = c.args in
    let l = c.values in
    let vs = a.values.now in
    let i = l.value-index in
    let v = c.value-item.result in
    let x = c.in-Symbol.symbol in
    let rest = drop (i + 1) vs in
    let is = sym (get_or_read vs i v c.values-test.true c.value-item.is values.Nil) in
    record {
      world = l.invariant.world;
      budget = l.invariant.budget;
      same = λ go.
          l.invariant.same go
          ∙ symbols_at vs i v a.at l.symbols go c.values-test.true is
          ∙ ap (λ (u : Value). symbols_in (u ∷ rest) a.at l.symbols go) c.in-Symbol.is
          ∙ ap (λ (xs : List SymId). symbols_in rest a.at xs go) (sym c.in_ok-push-in-Symbol.ensures.ok);
    }

pub returns-in_default-clause-means : goal.returns-in_default-clause-means
returns-in_default-clause-means c =
    let a = c.args in
    let l = c.values in
    let vs = a.values.now in
    let i = l.value-index in
    let v = c.value-item.result in
    let w = c.raise.new.world in
    let left = c.raise.new.budget in
    let step = c.in_ok-step-in_default.step in
    let fault = InTerraCode c.kind.result in
    let whole = λ (go : List SymId → SpecPlan). symbols_in vs a.at [] go in
    let refused = λ (go : List SymId → SpecPlan). raise a.at fault in
    let is = sym (get_or_read vs i v c.values-test.true c.value-item.is values.Nil) in
    comes_past whole refused (Left step) a.world.now l.world w a.budget.now l.budget left
    (rw (l.invariant.budget) (passes_same whole refused a.world.now l.world a.budget.now
    (λ go. l.invariant.same go ∙ symbols_at vs i v a.at l.symbols go c.values-test.true is
    ∙ none_in v (drop (i + 1) vs) a.at l.symbols go c.in_default.not-Symbol
    ∙ ap (λ (k : Kind). raise a.at (InTerraCode k)) (sym c.kind.ensures)) (sym l.invariant.world)))
    (comes_left (raise a.at fault) step l.world w l.budget left c.in_ok-step-in_default.ensures.means)

pub returns-clause-means : goal.returns-clause-means
returns-clause-means c =
    let a = c.args in
    let l = c.values in
    let vs = a.values.now in
    let i = l.value-index in
    let whole = λ (go : List SymId → SpecPlan). symbols_in vs a.at [] go in
    let end = λ (go : List SymId → SpecPlan). go l.symbols in
    rw (l.invariant.budget) (passes_same whole end a.world.now l.world a.budget.now
    (λ go. l.invariant.same go ∙ symbols_end vs i a.at l.symbols go c.values-test.false) (sym l.invariant.world))
