use Rattle.std.proofs.Common.{◌≡◌, ℕ, Bool, true, false, List, [], ◌∷◌, ◌++◌, refl, sym, ap, ◌∙◌}
use Rattle.std.specs.Prelude.{if◌then◌else◌}
use Rattle.tl_base.specs.declared.place.Place.{Place}
use Rattle.tl_tree.specs.Arena.{items_of}
use Rattle.tl_tree.specs.Code.{if_any, name_at, place_at}
use Rattle.lua_value.specs.declared.value.Value.{Value}
use Rattle.lua_model.specs.Plans.{LuaPlan, with_text_of}
use Rattle.lua_model.specs.Fields.{read}
use Rattle.lua_model.specs.Assignments.{define_in}
use Rattle.lua_eval.specs.declared.frame.LuaFrame.TheVariants as frames
use Rattle.lua_eval.specs.declared.frame.OneFrame.TheVariants as ones
use Rattle.lua_eval.specs.declared.frame.TargetFrame.TheVariants as of_target
use Rattle.lua_eval.specs.Paths.{is_end}
use Rattle.lua_eval.proofs.Below.{moved, named_below}
use Rattle.lua_eval.proofs.Listing.{define_in_by}
use Rattle.lua_eval.proofs.assignments.define_next.Goals as goal

pub returns-then-is_end-clause-means : goal.returns-then-is_end-clause-means
returns-then-is_end-clause-means c =
    let a = c.args in
    let items = items_of a.tree.now in
    let ns = a.rest.now ++ if_any a.method in
    let last : LuaPlan = define_in items (a.first ∷ []) a.function a.scope a.object in
    let next : LuaPlan = with_text_of (name_at items a.first) (λ key. read a.object key (place_at items a.first) a.scope.call (λ o. define_in items ns a.function a.scope o)) in
    let ends : is_end ns ≡ true = sym c.is_end.ensures ∙ c.if-is_end.true in
    moved items a.frames.now.items c.define_last.new.frames.items (define_in items (a.first ∷ ns) a.function a.scope a.object) last
    a.heap.now a.heap.now c.define_last.new.heap a.budget.now c.define_last.new.budget c.in_ok-step.step
    (define_in_by items a.first ns a.function a.scope a.object ∙ ap (λ (b : Bool). if b then last else next) ends) refl c.in_ok-step.ensures.means

pub returns-clause-means : goal.returns-clause-means
returns-clause-means c =
    let a = c.args in
    let items = items_of a.tree.now in
    let fs = a.frames.now.items in
    let fs2 = c.read_named.new.frames.items in
    let s2 = c.read_named.new.heap in
    let left2 = c.read_named.new.budget in
    let found = c.in_ok-found.found in
    let ns = a.rest.now ++ if_any a.method in
    let go : Value → LuaPlan = λ o. define_in items ns a.function a.scope o in
    let last : LuaPlan = define_in items (a.first ∷ []) a.function a.scope a.object in
    let next : LuaPlan = with_text_of (name_at items a.first) (λ key. read a.object key (place_at items a.first) a.scope.call go) in
    let bytes = c.as_bytes.result.now in
    let place = c.place-place.result in
    let goes_on : is_end ns ≡ false = sym c.is_end.ensures ∙ c.if-is_end.false in
    moved items fs fs2 (define_in items (a.first ∷ ns) a.function a.scope a.object)
    (with_text_of bytes (λ key. read a.object key place a.scope.call go)) a.heap.now a.heap.now s2 a.budget.now left2 found
    (define_in_by items a.first ns a.function a.scope a.object ∙ ap (λ (b : Bool). if b then last else next) goes_on
    ∙ ap (λ (bs : List ℕ). with_text_of bs (λ key. read a.object key (place_at items a.first) a.scope.call go)) (sym (c.as_bytes.ensures.value ∙ c.name-text.ensures))
    ∙ ap (λ (p : Place). with_text_of bytes (λ key. read a.object key p a.scope.call go)) (sym c.place-place.ensures)) refl
    (named_below items fs c.push.new.self.items fs2 (frames.One (ones.Target (of_target.Path a.rest a.method a.function a.scope)))
    a.heap.now s2 a.budget.now left2 found a.object bytes place a.scope.call go c.in_ok-push.ensures.items (λ r. refl)
    (c.in_ok-found.ensures.means items))
