-- What a sound world whose exports are fine gives to compiling.
use Rattle.std.proofs.Common.{◌≡◌, ℕ, ◌≤◌, length, Some, subst, arith, slice_get}
use Rattle.std.specs.Prelude.{◌/◌}
use Rattle.tl_base.specs.declared.limits.Limits.{Limits}
use Rattle.tl_base.specs.Limits.{IsLimits}
use Rattle.terra_term.specs.declared.store.Export.{Export}
use Rattle.terra_term.specs.Stores.{contents_of, static_bytes}
use Rattle.terra_meaning.specs.Laws.{itself}
use Rattle.exotype.specs.World.{StageState}
use Rattle.check_sound.specs.Growing.{AreFine}
use Rattle.check_sound.specs.Layers.{ReachesReady}
use Rattle.check_sound.specs.Sound.{IsSound}
use Rattle.check_sound.proofs.Counted.{counted-stays}
use Rattle.back_end.specs.Compiled.{name_bytes}
use Rattle.stage_image.specs.Emitted.{CanCompile, HaveNames}
use Rattle.ready_image.proofs.Called.{outward}
use Rattle.ready_image.proofs.Compiling.{can-be-compiled}
use Rattle.stage_image.proofs.Names.{bytes-of-names}

module _ (w : StageState) (sound : IsSound w)
    (each : (i : ℕ) (e : Export) → slice_get w.exports.list i ≡ Some e → ReachesReady w e.function) (fine : AreFine w) where
  -- at most 4,000,000 names, of at most 255 bytes each
  few-names : name_bytes w.exports.list ≤ 4000000000
  few-names =
      let most = bytes-of-names w.exports.list (λ i e at. (fine.names i e at).most) in
      omega (arith, most, fine.many)

  have-names : HaveNames w.exports.list
  have-names = record { names = fine.names; differ = fine.differ; few = few-names }

  pub compilable : (limits : Limits) → IsLimits limits → w.memory ≡ limits.memory →
      CanCompile (contents_of w.store) w.exports.list limits
  compilable limits are memory =
      let can =
      can-be-compiled w sound w.exports.list fine.functions fine.nodes each
      (counted-stays w w.exports.list fine.functions fine.nodes sound fine.counted) in
      record {
        limits_are = are;
        typed = can.typed;
        half = subst (λ (m : ℕ). length (static_bytes (contents_of w.store)) ≤ m / 2) memory can.half;
        ready = can.ready;
        few = can.few;
        outward = λ i e at.
            let c = can.ready i e e.function at itself in
            outward w sound e.function c.term c.is (fine.outward i e at);
        named = have-names;
      }
