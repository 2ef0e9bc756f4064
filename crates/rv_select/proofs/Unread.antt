-- A temporary that a function reads once, by the exit of a block, and writes directly before: it is live where no block begins.
use Rattle.std.proofs.Common.{◌≡◌, ◌≢◌, ℕ, zero, suc, ◌+◌, ◌<◌, ◌≤◌, Bool, true, false, not, ◌&&◌, ◌||◌, List, [], ◌∷◌, length, set}
use Rattle.std.proofs.Common.{replicate, Option, Some, None, refl, sym, ap, ◌∙◌, subst, ⊎_elim, inl, inr, arith}
use Rattle.std.specs.Prelude.{if◌then◌else◌, nat_eq, slice_get, ◌⊎◌}
use Rattle.std.specs.List.{list_any}
use Rattle.std.proofs.lemmas.Bool.{cases_eq, cases_lt, eq-eqb, ne_eqb}
use Rattle.std.proofs.lemmas.List.{get_or-set_other, get_or-set_same, get_or_past, length-set}
use Rattle.std.proofs.lemmas.Option.{slice_get_within}
use Rattle.tac_form.specs.declared.tac.Tac.{Tac}
use Rattle.tac_form.specs.declared.graph.Step.{Step}
use Rattle.tac_form.specs.declared.graph.FlowBlock.{FlowBlock}
use Rattle.tac_form.specs.Graph.{graph_of}
use Rattle.tac_form.specs.Live.{IsLive, at_place, at_step, has, is_written, read_within}
use Rattle.rv_select.specs.declared.pairs.Reads.{Reads}
use Rattle.rv_select.specs.declared.pairs.Reads.TheVariants.{Never, Once, Often}
use Rattle.rv_select.specs.Pairs.{counted, counted_blocks, counted_steps, is_once, once_more, reads_at, reads_of}
use Rattle.rv_select.proofs.Pairing.{past}

-- how often a temporary is read
one : (d t : ℕ) → ℕ
one d t = if nat_eq t d then 1 else 0

abbrev times : ℕ → List ℕ → ℕ
times d [] = 0
times d (t ∷ ts) = one d t + times d ts

abbrev times-steps : ℕ → List Step → ℕ
times-steps d [] = 0
times-steps d (s ∷ ss) = times d s.reads + times-steps d ss

abbrev times-block : ℕ → FlowBlock → ℕ
times-block d b = times-steps d b.steps + times d b.reads

abbrev times-blocks : ℕ → List FlowBlock → ℕ
times-blocks d [] = 0
times-blocks d (b ∷ bs) = times-block d b + times-blocks d bs

-- what is known of it after so many reads
abbrev number : Reads → ℕ
number Never = 0
number Once = 1
number Often = 2

record Adds (n : ℕ) (before after : Reads) : Type 0 where
  few : n + number before ≤ 1 → number after ≡ n + number before
  more : 2 ≤ n + number before → number after ≡ 2

number-few : (r : Reads) → number r ≤ 2
number-few Never = omega arith
number-few Once = omega arith
number-few Often = omega arith

adds-none : (r : Reads) → Adds 0 r r
adds-none r = record { few = λ h. same (number r); more = λ h. full (number r) (number-few r) h }
  where
    same : (n : ℕ) → n ≡ 0 + n
    same n = omega arith

    full : (n : ℕ) → n ≤ 2 → 2 ≤ 0 + n → n ≡ 2
    full n h g = omega (arith, h, g)

adds-one : (r : Reads) → Adds 1 r (once_more r)
adds-one Never = record { few = λ h. refl; more = λ h. absurd (omega (arith, h)) }
adds-one Once = record { few = λ h. absurd (omega (arith, h)); more = λ h. refl }
adds-one Often = record { few = λ h. absurd (omega (arith, h)); more = λ h. refl }

adds-both : (n k : ℕ) (a b c : Reads) → Adds n a b → Adds k b c → Adds (n + k) a c
adds-both n k a b c h g = record {
  few = λ l.
      let first : number b ≡ n + number a = h.few (less k (number a) l) in
      g.few (left (number a) (number b) l first) ∙ sum (number a) (number b) first;
  more = λ l. ⊎_elim
      (λ small. let first : number b ≡ n + number a = h.few (at-most (number a) small) in g.more (right (number a) (number b) l first))
      (λ large. let first : number b ≡ 2 = h.more large in g.more (full (number b) first)) (cases_lt (n + number a) 2);
}
  where
    less : (k a : ℕ) → n + k + a ≤ 1 → n + a ≤ 1
    less k a l = omega (arith, l)

    left : (a b : ℕ) → n + k + a ≤ 1 → b ≡ n + a → k + b ≤ 1
    left a b l e = omega (arith, l, e)

    sum : (a b : ℕ) → b ≡ n + a → k + b ≡ n + k + a
    sum a b e = omega (arith, e)

    at-most : (a : ℕ) → n + a < 2 → n + a ≤ 1
    at-most a l = omega (arith, l)

    right : (a b : ℕ) → 2 ≤ n + k + a → b ≡ n + a → 2 ≤ k + b
    right a b l e = omega (arith, l, e)

    full : (b : ℕ) → b ≡ 2 → 2 ≤ k + b
    full b e = omega (arith, e)

-- one more read of a temporary
counts-same : (reads : List Reads) (t : ℕ) → reads_at (set reads t (once_more (reads_at reads t))) t ≡ once_more (reads_at reads t)
counts-same reads t = ⊎_elim
    (λ l. get_or-set_same reads t (once_more (reads_at reads t)) Often l)
    (λ l.
    let often : reads_at reads t ≡ Often = get_or_past reads t Often l in
    get_or_past (set reads t (once_more (reads_at reads t))) t Often
    (longer (length (set reads t (once_more (reads_at reads t)))) (length-set reads t (once_more (reads_at reads t))) l)
    ∙ sym (ap once_more often))
    (cases_lt t (length reads))
  where
    longer : (n : ℕ) → n ≡ length reads → length reads ≤ t → n ≤ t
    longer n e l = omega (arith, e, l)

counts : (reads : List Reads) (t d : ℕ) → Adds (one d t) (reads_at reads d) (reads_at (set reads t (once_more (reads_at reads t))) d)
unfolding one
counts reads t d = ⊎_elim
    (λ e.
    let here : Adds 1 (reads_at reads t) (reads_at (set reads t (once_more (reads_at reads t))) t) =
    subst (λ z. Adds 1 (reads_at reads t) z) (sym (counts-same reads t)) (adds-one (reads_at reads t)) in
    let there : Adds 1 (reads_at reads d) (reads_at (set reads t (once_more (reads_at reads t))) d) =
    subst (λ z. Adds 1 (reads_at reads z) (reads_at (set reads t (once_more (reads_at reads t))) z)) e here in
    subst (λ b. Adds (if b then 1 else 0) (reads_at reads d) (reads_at (set reads t (once_more (reads_at reads t))) d))
    (sym (eq-eqb t d e)) there)
    (λ n.
    let same : reads_at (set reads t (once_more (reads_at reads t))) d ≡ reads_at reads d =
    get_or-set_other reads t d (once_more (reads_at reads t)) Often (λ e. n (sym e)) in
    subst (λ b. Adds (if b then 1 else 0) (reads_at reads d) (reads_at (set reads t (once_more (reads_at reads t))) d)) (sym (ne_eqb t d n))
    (subst (λ z. Adds 0 (reads_at reads d) z) (sym same) (adds-none (reads_at reads d))))
    (cases_eq t d)

counted-adds : (d : ℕ) (reads : List Reads) (ts : List ℕ) → Adds (times d ts) (reads_at reads d) (reads_at (counted reads ts) d)
counted-adds d reads [] = adds-none (reads_at reads d)
counted-adds d reads (t ∷ ts) =
    let next : List Reads = set reads t (once_more (reads_at reads t)) in
    adds-both (one d t) (times d ts) (reads_at reads d) (reads_at next d) (reads_at (counted next ts) d) (counts reads t d)
    (counted-adds d next ts)

steps-add : (d : ℕ) (reads : List Reads) (ss : List Step) → Adds (times-steps d ss) (reads_at reads d) (reads_at (counted_steps reads ss) d)
steps-add d reads [] = adds-none (reads_at reads d)
steps-add d reads (s ∷ ss) =
    let next : List Reads = counted reads s.reads in
    adds-both (times d s.reads) (times-steps d ss) (reads_at reads d) (reads_at next d) (reads_at (counted_steps next ss) d)
    (counted-adds d reads s.reads)
    (steps-add d next ss)

blocks-add : (d : ℕ) (reads : List Reads) (bs : List FlowBlock) → Adds (times-blocks d bs) (reads_at reads d)
    (reads_at (counted_blocks reads bs) d)
blocks-add d reads [] = adds-none (reads_at reads d)
blocks-add d reads (b ∷ bs) =
    let mid : List Reads = counted_steps reads b.steps in
    let next : List Reads = counted mid b.reads in
    adds-both (times-block d b) (times-blocks d bs) (reads_at reads d) (reads_at next d) (reads_at (counted_blocks next bs) d)
    (adds-both (times-steps d b.steps) (times d b.reads) (reads_at reads d) (reads_at mid d) (reads_at next d) (steps-add d reads b.steps)
    (counted-adds d mid b.reads))
    (blocks-add d next bs)

once-number : (r : Reads) → is_once r ≡ true → number r ≡ 1
once-number Never h = cc
once-number Once h = refl
once-number Often h = cc

-- what is read once is read no more than once
read-few : (code : Tac) (d : ℕ) → is_once (reads_at (reads_of code) d) ≡ true → times-blocks d (graph_of code) ≤ 1
unfolding reads_of
read-few code d h =
    let first : List Reads = replicate code.temps Never in
    let last : Reads = reads_at (counted_blocks first (graph_of code)) d in
    let adds : Adds (times-blocks d (graph_of code)) (reads_at first d) last = blocks-add d first (graph_of code) in
    few (times-blocks d (graph_of code)) (reads_at first d) last adds (once-number last h)
  where
    few : (n : ℕ) (a b : Reads) → Adds n a b → number b ≡ 1 → n ≤ 1
    few n a b adds e = ⊎_elim (λ l. small (number a) l) (λ l. absurd (not-both (number b) e (adds.more l))) (cases_lt (n + number a) 2)
      where
        small : (k : ℕ) → n + k < 2 → n ≤ 1
        small k l = omega (arith, l)

        not-both : (k : ℕ) → k ≡ 1 → k ≡ 2 → ⊥
        not-both k e g = omega (arith, e, g)

-- parts of sums
one-is : (d t : ℕ) (b : Bool) → nat_eq t d ≡ b → one d t ≡ (if b then 1 else 0)
unfolding one
one-is d t b e = ap (λ z. if z then 1 else 0) e

none-read : (d : ℕ) (ts : List ℕ) → times d ts ≡ 0 → has ts d ≡ false
none-read d [] h = refl
none-read d (t ∷ ts) h = tested (nat_eq t d) refl (λ z. none-read d ts z)
  where
    first : (n k : ℕ) → n + k ≡ 0 → n ≡ 1 → ⊥
    first n k h e = omega (arith, h, e)

    rest : (n k : ℕ) → n + k ≡ 0 → k ≡ 0
    rest n k h = omega (arith, h)

    tested : (b : Bool) → nat_eq t d ≡ b → (times d ts ≡ 0 → has ts d ≡ false) → (nat_eq t d || has ts d) ≡ false
    tested true e g = absurd (first (one d t) (times d ts) h (one-is d t true e))
    tested false e g = ap (λ z. z || has ts d) e ∙ g (rest (one d t) (times d ts) h)

some-read : (d : ℕ) (ts : List ℕ) → has ts d ≡ true → 1 ≤ times d ts
some-read d [] h = cc
some-read d (t ∷ ts) h = tested (nat_eq t d) refl (λ z. some-read d ts z)
  where
    first : (n k : ℕ) → n ≡ 1 → 1 ≤ n + k
    first n k e = omega (arith, e)

    rest : (n k : ℕ) → 1 ≤ k → 1 ≤ n + k
    rest n k e = omega (arith, e)

    tested : (b : Bool) → nat_eq t d ≡ b → (has ts d ≡ true → 1 ≤ times d ts) → 1 ≤ one d t + times d ts
    tested true e g = first (one d t) (times d ts) (one-is d t true e)
    tested false e g = rest (one d t) (times d ts) (g (ap (λ z. z || has ts d) (sym e) ∙ h))

step-part : (d : ℕ) (ss : List Step) (k : ℕ) (s : Step) → slice_get ss k ≡ Some s → times d s.reads ≤ times-steps d ss
step-part d [] k s e = cc
step-part d (x ∷ ss) zero s e =
    let same : x ≡ s = cc in
    subst (λ z. times d z.reads ≤ times d x.reads + times-steps d ss) same (front (times d x.reads) (times-steps d ss))
  where
    front : (a b : ℕ) → a ≤ a + b
    front a b = omega arith
step-part d (x ∷ ss) (suc k) s e = more (times d s.reads) (times-steps d ss) (times d x.reads) (step-part d ss k s e)
  where
    more : (a b c : ℕ) → a ≤ b → a ≤ c + b
    more a b c h = omega (arith, h)

block-part : (d : ℕ) (bs : List FlowBlock) (k : ℕ) (b : FlowBlock) → slice_get bs k ≡ Some b → times-block d b ≤ times-blocks d bs
block-part d [] k b e = cc
block-part d (x ∷ bs) zero b e =
    let same : x ≡ b = cc in
    subst (λ z. times-block d z ≤ times-block d x + times-blocks d bs) same (front (times-block d x) (times-blocks d bs))
  where
    front : (a b : ℕ) → a ≤ a + b
    front a b = omega arith
block-part d (x ∷ bs) (suc k) b e = more (times-block d b) (times-blocks d bs) (times-block d x) (block-part d bs k b e)
  where
    more : (a b c : ℕ) → a ≤ b → a ≤ c + b
    more a b c h = omega (arith, h)

both-parts : (d : ℕ) (bs : List FlowBlock) (j k : ℕ) (a b : FlowBlock) → slice_get bs j ≡ Some a → slice_get bs k ≡ Some b → j ≢ k →
    times-block d a + times-block d b ≤ times-blocks d bs
both-parts d [] j k a b e g n = cc
both-parts d (x ∷ bs) zero zero a b e g n = absurd (n refl)
both-parts d (x ∷ bs) zero (suc k) a b e g n =
    let same : x ≡ a = cc in
    subst (λ z. times-block d z + times-block d b ≤ times-block d x + times-blocks d bs) same
    (beside (times-block d x) (times-block d b) (times-blocks d bs) (block-part d bs k b g))
  where
    beside : (x b c : ℕ) → b ≤ c → x + b ≤ x + c
    beside x b c h = omega (arith, h)
both-parts d (x ∷ bs) (suc j) zero a b e g n =
    let same : x ≡ b = cc in
    subst (λ z. times-block d a + times-block d z ≤ times-block d x + times-blocks d bs) same
    (beside (times-block d x) (times-block d a) (times-blocks d bs) (block-part d bs j a e))
  where
    beside : (x a c : ℕ) → a ≤ c → a + x ≤ x + c
    beside x a c h = omega (arith, h)
both-parts d (x ∷ bs) (suc j) (suc k) a b e g n =
    more (times-block d a + times-block d b) (times-blocks d bs) (times-block d x)
    (both-parts d bs j k a b e g (λ i. n (ap (λ z. suc z) i)))
  where
    more : (a b c : ℕ) → a ≤ b → a ≤ c + b
    more a b c h = omega (arith, h)

-- nothing is any of a list where it's none of its items
any-none : (f : ℕ → Bool) (xs : List ℕ) → ((q : ℕ) → f q ≡ false) → list_any f xs ≡ false
any-none f [] h = refl
any-none f (x ∷ xs) h = ap (λ z. z || list_any f xs) (h x) ∙ any-none f xs h

-- A temporary that a block's exit reads, and nothing else, directly behind a step that writes it.
record ReadHere (graph : List FlowBlock) (d b : ℕ) (block : FlowBlock) (last : ℕ) (write : Step) : Type 0 where
  here : slice_get graph b ≡ Some block
  few : times-blocks d graph ≤ 1
  reads : has block.reads d ≡ true
  step : slice_get block.steps last ≡ Some write
  writes : is_written write.write d ≡ true

-- no step reads it, nor another block's exit
steps-free : (graph : List FlowBlock) (d b : ℕ) (block : FlowBlock) (last : ℕ) (write : Step) → ReadHere graph d b block last write →
    (c : ℕ) (other : FlowBlock) → slice_get graph c ≡ Some other → (times-steps d other.steps ≡ 0) × (c ≢ b → times d other.reads ≡ 0)
steps-free graph d b block last write x c other e = ⊎_elim
    (λ same.
    let blocks : block ≡ other = let q : Some block ≡ Some other = sym x.here ∙ (ap (slice_get graph) (sym same) ∙ e) in cc in (
      subst (λ z. times-steps d z.steps ≡ 0) blocks
          (alone (times-steps d block.steps) (times d block.reads) (times-blocks d graph) (block-part d graph b block x.here) x.few
          (some-read d block.reads x.reads)),
      λ n. absurd (n same),
    ))
    (λ n.
    let none = away (times-steps d other.steps) (times d other.reads) (times-steps d block.steps) (times d block.reads)
    (times-blocks d graph)
    (both-parts d graph c b other block e x.here n) x.few (some-read d block.reads x.reads) in
    (none.0, λ m. none.1))
    (cases_eq c b)
  where
    alone : (s r n : ℕ) → s + r ≤ n → n ≤ 1 → 1 ≤ r → s ≡ 0
    alone s r n h g k = omega (arith, h, g, k)

    away : (p q s r n : ℕ) → p + q + (s + r) ≤ n → n ≤ 1 → 1 ≤ r → (p ≡ 0) × (q ≡ 0)
    away p q s r n h g k = (omega (arith, h, g, k), omega (arith, h, g, k))

-- so no way leads to its read from any place that isn't directly before the exit
unread-more : (graph : List FlowBlock) (d b : ℕ) (block : FlowBlock) (last : ℕ) (write : Step) → ReadHere graph d b block last write →
    (k : ℕ) → ((c at : ℕ) → (c ≢ b) ⊎ (at ≤ last) → read_within graph k c at d ≡ false) →
    (c at : ℕ) → (c ≢ b) ⊎ (at ≤ last) → read_within graph (suc k) c at d ≡ false
unread-more graph d b block last write x k less c at h = in-block (slice_get graph c) refl
  where
    at-step : (other : FlowBlock) → slice_get graph c ≡ Some other → (o : Option Step) → slice_get other.steps at ≡ o →
        at_step other o (λ q. read_within graph k q 0 d) (read_within graph k c (suc at) d) d ≡ false
    at-step other e None g =
        let away : c ≢ b = ⊎_elim (λ n. n)
        (λ l same.
        let blocks : block ≡ other = let q : Some block ≡ Some other = sym x.here ∙ (ap (slice_get graph) (sym same) ∙ e) in cc in
        beyond (length other.steps) (past other.steps at g)
        (subst (λ z. last < length z.steps) blocks (slice_get_within block.steps last write x.step)) l) h in
        both-none (has other.reads d) (list_any (λ q. read_within graph k q 0 d) other.next)
        (none-read d other.reads ((steps-free graph d b block last write x c other e).1 away))
        (any-none (λ q. read_within graph k q 0 d) other.next (λ q. less q 0 (inr (least last))))
      where
        beyond : (n : ℕ) → n ≤ at → last < n → at ≤ last → ⊥
        beyond n a l m = omega (arith, a, l, m)

        least : (n : ℕ) → 0 ≤ n
        least n = omega arith

        both-none : (p q : Bool) → p ≡ false → q ≡ false → (p || q) ≡ false
        both-none p q i j = ap (λ z. z || q) i ∙ j
    at-step other e (Some s) g =
        step-none (has s.reads d) (is_written s.write d) (read_within graph k c (suc at) d)
        (none-read d s.reads (under (times d s.reads) (times-steps d other.steps) (step-part d other.steps at s g)
        (steps-free graph d b block last write x c other e).0))
        (⊎_elim (λ n. inr (less c (suc at) (inl n)))
        (λ l.
        ⊎_elim
        (λ same.
        ⊎_elim
        (λ before. inr (less c (suc at) (inr (next before))))
        (λ equal.
        let blocks : other ≡ block = let q : Some other ≡ Some block = sym e ∙ (ap (slice_get graph) same ∙ x.here) in cc in
        let steps : s ≡ write =
        let q : Some s ≡ Some write = sym g
        ∙ (ap (λ z. slice_get z.steps at) blocks ∙ (ap (slice_get block.steps) (equal-is equal l) ∙ x.step)) in cc in
        inl (ap (λ z. is_written z.write d) steps ∙ x.writes))
        (cases_lt at last))
        (λ n. inr (less c (suc at) (inl n)))
        (cases_eq c b)) h)
      where
        under : (a b : ℕ) → a ≤ b → b ≡ 0 → a ≡ 0
        under a b h e = omega (arith, h, e)

        next : at < last → suc at ≤ last
        next l = omega (arith, l)

        equal-is : last ≤ at → at ≤ last → at ≡ last
        equal-is m l = omega (arith, m, l)

        step-none : (p w a : Bool) → p ≡ false → (w ≡ true) ⊎ (a ≡ false) → (p || (not w && a)) ≡ false
        step-none p w a i j = ap (λ z. z || (not w && a)) i ∙ ⊎_elim (λ y. ap (λ z. not z && a) y) (λ n. ap (λ z. not w && z) n ∙ none w) j
          where
            none : (w : Bool) → (not w && false) ≡ false
            none true = refl
            none false = refl

    in-block : (o : Option FlowBlock) → slice_get graph c ≡ o →
        at_place o at (λ q. read_within graph k q 0 d) (read_within graph k c (suc at) d) d ≡ false
    in-block None e = refl
    in-block (Some other) e = at-step other e (slice_get other.steps at) refl

unread : (graph : List FlowBlock) (d b : ℕ) (block : FlowBlock) (last : ℕ) (write : Step) → ReadHere graph d b block last write →
    (k c at : ℕ) → (c ≢ b) ⊎ (at ≤ last) → read_within graph k c at d ≡ false
unread graph d b block last write x zero c at h = refl
unread graph d b block last write x (suc k) c at h =
    unread-more graph d b block last write x k (λ q n g. unread graph d b block last write x k q n g) c at h

-- it is live where no block begins
pub unread-begins : (code : Tac) (d b : ℕ) (block : FlowBlock) (last : ℕ) (write : Step) → is_once (reads_at (reads_of code) d) ≡ true →
    slice_get (graph_of code) b ≡ Some block → has block.reads d ≡ true → slice_get block.steps last ≡ Some write →
    is_written write.write d ≡ true →
    (c : ℕ) → IsLive (graph_of code) c 0 d → ⊥
unread-begins code d b block last write once here reads step writes c live =
    let none : read_within (graph_of code) live.0 c 0 d ≡ false =
    unread (graph_of code) d b block last write
    (record { here = here; few = read-few code d once; reads = reads; step = step; writes = writes }) live.0 c 0 (inr (least last)) in
    let no : true ≡ false = sym live.1 ∙ none in
    cc
  where
    least : (n : ℕ) → 0 ≤ n
    least n = omega arith
