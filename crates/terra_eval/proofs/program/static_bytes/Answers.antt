use Rattle.std.proofs.Common.{◌≡◌, ◌∙◌, ◌∷◌, ◌+◌, ◌-◌, ◌++◌, List, ℕ, sym, ap, drop, length, replicate}
use Rattle.terra_term.specs.declared.store.Static.{Static}
use Rattle.terra_term.specs.Held.{first_static}
use Rattle.terra_term.specs.Stores.{contents_of, static_bytes}
use Rattle.terra_eval.proofs.Turns.{turn}
use Rattle.terra_eval.proofs.Statics.{statics-later, statics-end}
use Rattle.terra_eval.proofs.program.static_bytes.Goals as goal

pub loop-s-preserved : goal.loop-s-preserved
loop-s-preserved c =
    let held = c.statics-held.result.now in
    let i = c.loop-s.s-index in
    let s = c.s-item.result in
    let bytes = c.loop-s.bytes.items in
    let filled = c.fill.new.bytes.items in
    let step : drop i held ≡ s ∷ drop (i + 1) held = turn held i s c.loop-s-test.true ∙ ap (λ (x : Static). x ∷ drop (i + 1) held) (sym c.s-item.is) in
    let zeros : filled ≡ bytes ++ replicate (s.address - first_static - length bytes) 0 =
    c.in_ok-fill.ensures ∙ ap (λ (n : ℕ). bytes ++ replicate (n - length bytes) 0) c.saturating_sub.ensures in
    statics-later (static_bytes (contents_of c.args.store.now)) bytes filled _ (drop i held) (drop (i + 1) held) s
    c.loop-s.invariant step zeros (c.in_ok-extend_from_slice.ensures.items ∙ ap (λ (l : List ℕ). filled ++ l) c.as_slice.ensures)

pub returns : goal.returns
returns c =
    statics-end (static_bytes (contents_of c.args.store.now)) c.loop-s.bytes.items c.statics-held.result.now c.loop-s.s-index c.loop-s-test.false c.loop-s.invariant
