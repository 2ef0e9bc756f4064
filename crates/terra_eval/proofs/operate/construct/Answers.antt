use Rattle.std.proofs.Common.{◌≡◌, sym, ap, ◌∙◌, subst, ℕ, ◌+◌, ◌≤◌, ◌<◌, List, length, drop, get_or, min, replicate, arith}
use Rattle.tl_base.specs.declared.ids.TypeId.{TypeId}
use Rattle.terra_memory.specs.Numbers.{overwritten}
use Rattle.terra_words.specs.Runs.{Value, bytes}
use Rattle.terra_meaning.specs.Values.{encoded}
use Rattle.terra_meaning.specs.Meaning.{constructed}
use Rattle.terra_eval.proofs.Entries.{entries-end, entry-later}
use Rattle.terra_eval.proofs.operate.construct.Goals as goal

pub loop-i-preserved : goal.loop-i-preserved
loop-i-preserved c =
    let types = c.args.types.now in
    let os = c.args.offsets.now in
    let ts = c.args.operands.now in
    let vs = c.args.values.now in
    let i = c.loop-i.i in
    let t : TypeId = record { 0 = 0 } in
    let v = c.index-values-i.result in
    let all = c.loop-i.all.items in
    let some : i < min (min (length os) (length ts)) (length vs) =
    subst (λ (n : ℕ). i < n) (c.min-count.ensures ∙ ap (λ (n : ℕ). min n (length vs)) c.min.ensures) c.loop-i-test.true in
    let entry : c.in_ok-entry.entry.items ≡ encoded types (get_or ts i t) v = c.in_ok-entry.ensures in
    let over : c.in_ok-all-2.all.items ≡ overwritten all (get_or os i 0) (encoded types (get_or ts i t) (get_or vs i v)) =
    c.in_ok-all-2.ensures
    ∙ ap (λ (l : List ℕ). overwritten l (get_or os i 0) c.deref-in-loop-i.result.now) c.deref.ensures.value
    ∙ ap (λ (l : List ℕ). overwritten all (get_or os i 0) l) (c.deref-in-loop-i.ensures.value ∙ entry ∙ ap (λ (w : Value). encoded types (get_or ts i t) w) c.index-values-i.is) in
    entry-later types os ts vs i all _ c.loop-i.invariant t v (omega (arith, some)) (omega (arith, some)) (omega (arith, some))
    ∙ ap (λ (l : List ℕ). constructed types l (drop (i + 1) os) (drop (i + 1) ts) (drop (i + 1) vs)) (sym over)

pub returns : goal.returns
returns c =
    let types = c.args.types.now in
    let os = c.args.offsets.now in
    let ts = c.args.operands.now in
    let vs = c.args.values.now in
    let some : min (min (length os) (length ts)) (length vs) ≤ c.loop-i.i =
    subst (λ (n : ℕ). n ≤ c.loop-i.i) (c.min-count.ensures ∙ ap (λ (n : ℕ). min n (length vs)) c.min.ensures) c.loop-i-test.false in
    c.from_bytes.ensures ∙ ap (λ (l : List ℕ). bytes l) (entries-end types os ts vs c.loop-i.i c.loop-i.all.items _ c.loop-i.invariant some
    ∙ ap (λ (l : List ℕ). constructed types l os ts vs) (c.in_ok-all.ensures ∙ ap (λ (n : ℕ). replicate n 0) c.bytes_at.ensures))
