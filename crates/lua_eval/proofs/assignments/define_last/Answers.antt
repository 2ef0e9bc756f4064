use Rattle.lua_table.proofs.Keeping.{keeps_closure}
use Rattle.lua_table.proofs.Keeping.{heap_keeps_by}
use Rattle.std.proofs.Common.{ℕ, List, refl, sym, ap, ◌∙◌}
use Rattle.tl_base.specs.declared.place.Place.{Place}
use Rattle.tl_tree.specs.Arena.{items_of}
use Rattle.tl_tree.specs.Code.{name_at, place_at}
use Rattle.lua_value.specs.declared.value.Value.TheVariants.{Closure}
use Rattle.lua_model.specs.Plans.{fell, with_text_of}
use Rattle.lua_model.specs.Fields.{store}
use Rattle.lua_eval.proofs.Below.{moved}
use Rattle.lua_eval.proofs.Making.{closing_goes}
use Rattle.lua_eval.proofs.assignments.define_last.Goals as goal

pub returns-clause-means : goal.returns-clause-means
returns-clause-means c =
    let a = c.args in
    let items = items_of a.tree.now in
    let fs2 = c.store_named.new.frames.items in
    let made = Closure c.in_ok-made.made in
    let text = c.name.result.now in
    closing_goes items a.frames.now.items fs2 a.function a.scope
    (λ f. with_text_of (name_at items a.last) (λ key. store a.object key f (place_at items a.last) a.scope.call fell))
    a.heap.now c.new_closure.new.self c.store_named.new.heap a.budget.now c.store_named.new.budget c.in_ok-step.step
    c.in_ok-made.made c.in_ok-made.ensures.id c.in_ok-made.ensures.ok
    (moved items a.frames.now.items fs2
    (with_text_of (name_at items a.last) (λ key. store a.object key made (place_at items a.last) a.scope.call fell))
    (with_text_of c.as_bytes.result.now (λ key. store a.object key made c.place-place.result a.scope.call fell))
    c.new_closure.new.self c.new_closure.new.self c.store_named.new.heap a.budget.now c.store_named.new.budget c.in_ok-step.step
    (ap (λ (bytes : List ℕ). with_text_of bytes (λ key. store a.object key made (place_at items a.last) a.scope.call fell))
    (sym (c.as_bytes.ensures.value ∙ c.name.ensures))
    ∙ ap (λ (at : Place). with_text_of c.as_bytes.result.now (λ key. store a.object key made at a.scope.call fell)) (sym c.place-place.ensures))
    refl (c.in_ok-step.ensures.means items))

pub returns-clause-kept : goal.returns-clause-kept
returns-clause-kept c =
    heap_keeps_by c.args.heap.now c.new_closure.new.self _ c.store_named.new.heap c.in_ok-made.ensures.ok (keeps_closure c.args.heap.now _) c.in_ok-step.ensures.kept
