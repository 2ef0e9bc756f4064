use Rattle.std.proofs.Common.{◌≤◌, ◌∙◌, ap, ◌++◌, drop, length, ℕ, arith}
use Rattle.std.proofs.lemmas.List.{length-replicate}
use Rattle.rv_machine.proofs.Regions.{region_front}
use Rattle.rv_machine.proofs.machine.memory_of.Goals as goal

pub returns : goal.returns
returns c =
    let all : c.args.size ≤ c.in_ok-memory.memory.len = omega (arith, c.in_ok-memory.memory.ok, ap length c.in_ok-memory.ensures, length-replicate {A = ℕ} c.args.size 0) in
    let front = c.args.front.now in
    region_front c.in_ok-memory.memory.items c.put_front.new.memory front c.in_ok-memory.memory.len c.args.size c.in_ok-memory.ensures (c.put_front.ensures ∙ ap (λ i. front ++ drop (length front) i) c.deref_mut.ensures.value) c.requires all
