-- The count as the code reads it is the count, and what it computes is what each of the three answers says.
use Rattle.std.proofs.Common.{◌≡◌, ℕ, ◌+◌, ◌<◌, ◌≤◌, nat_abs, to_z, of_z, w64, length, sym, ap, arith}
use Rattle.std.proofs.Math.Facts.{to_z-of_z}
use Rattle.terra_memory.specs.Region.{Contents, aligned, heap_limit, alloc_of}
use Rattle.terra_memory.proofs.Allocation.{aligned-is, found_negative, found_refused, found_given}
use Rattle.terra_memory.proofs.region.Region.alloc_bytes.Goals as goal

negative : (c : goal.Then-n-lt0) → alloc_of c.args.self.now c.args.n ≡ (0, c.args.self.now)
negative c =
    let count : to_z w64 (of_z w64 c.args.n) ≡ c.args.n = to_z-of_z c.ranges.n in
    found_negative c.args.self.now c.args.n (to_z w64 (of_z w64 c.args.n)) count c.if-n-lt0.true

refused : (c : goal.Then-count-limit) → alloc_of c.args.self.now c.args.n ≡ (0, c.args.self.now)
refused c =
    let count : to_z w64 (of_z w64 c.args.n) ≡ c.args.n = to_z-of_z c.ranges.n in
    let size : length c.self.inside.bytes.items ≡ length c.args.self.now.bytes = ap (λ (r : Contents). length r.bytes) c.self.view_is in
    let heap : c.self.inside.heap ≡ c.args.self.now.heap = ap (λ (r : Contents). r.heap) c.self.view_is in
    let start : c.next_multiple_of-start.result ≡ aligned c.args.self.now.heap =
    aligned-is c.args.self.now.heap c.next_multiple_of-start.result (omega arith) (omega arith) c.next_multiple_of-start.ensures.multiple in
    let above : heap_limit c.args.self.now < c.next_multiple_of-start.result + nat_abs (to_z w64 (of_z w64 c.args.n)) = omega arith in
    found_refused c.args.self.now c.args.n (to_z w64 (of_z w64 c.args.n)) c.next_multiple_of-start.result count c.if-n-lt0.false start above

given : (c : goal.After-self-1)
    → alloc_of c.args.self.now c.args.n
    ≡ (c.next_multiple_of-start.result, record { bytes = c.self.inside.bytes.items; heap = c.next_multiple_of-start.result + nat_abs (to_z w64 (of_z w64 c.args.n)) })
given c =
    let count : to_z w64 (of_z w64 c.args.n) ≡ c.args.n = to_z-of_z c.ranges.n in
    let bytes : c.self.inside.bytes.items ≡ c.args.self.now.bytes = ap (λ (r : Contents). r.bytes) c.self.view_is in
    let size : length c.self.inside.bytes.items ≡ length c.args.self.now.bytes = ap (λ (r : Contents). length r.bytes) c.self.view_is in
    let heap : c.self.inside.heap ≡ c.args.self.now.heap = ap (λ (r : Contents). r.heap) c.self.view_is in
    let start : c.next_multiple_of-start.result ≡ aligned c.args.self.now.heap =
    aligned-is c.args.self.now.heap c.next_multiple_of-start.result (omega arith) (omega arith) c.next_multiple_of-start.ensures.multiple in
    let room : c.next_multiple_of-start.result + nat_abs (to_z w64 (of_z w64 c.args.n)) ≤ heap_limit c.args.self.now = omega arith in
    found_given c.args.self.now c.args.n (to_z w64 (of_z w64 c.args.n)) c.next_multiple_of-start.result c.self.inside.bytes.items count c.if-n-lt0.false start bytes room

pub returns-then-n-lt0-clause-address : goal.returns-then-n-lt0-clause-address
returns-then-n-lt0-clause-address c = sym (ap (λ (p : ℕ × Contents). p.0) (negative c))

pub returns-then-n-lt0-clause-memory : goal.returns-then-n-lt0-clause-memory
returns-then-n-lt0-clause-memory c = sym (ap (λ (p : ℕ × Contents). p.1) (negative c))

pub returns-then-count-limit-clause-address : goal.returns-then-count-limit-clause-address
returns-then-count-limit-clause-address c = sym (ap (λ (p : ℕ × Contents). p.0) (refused c))

pub returns-then-count-limit-clause-memory : goal.returns-then-count-limit-clause-memory
returns-then-count-limit-clause-memory c = sym (ap (λ (p : ℕ × Contents). p.1) (refused c))

pub returns-clause-address : goal.returns-clause-address
returns-clause-address c = sym (ap (λ (p : ℕ × Contents). p.0) (given c))

pub returns-clause-memory : goal.returns-clause-memory
returns-clause-memory c = sym (ap (λ (p : ℕ × Contents). p.1) (given c))
