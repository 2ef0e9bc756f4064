-- `while` and `repeat`.
use Rattle.std.proofs.Common.{◌≡◌, ℕ, suc, ◌+◌, ◌<◌, ◌≤◌, Bool, true, false, List, [], ◌∷◌, ◌++◌, refl, sym, ap, ◌∙◌, subst, arith}
use Rattle.std.specs.Prelude.{◌-◌, not, nat_eq, if◌then◌else◌}
use Rattle.tl_base.specs.declared.ids.TypeId.{TypeId}
use Rattle.terra_words.specs.Runs.{Value, is_true}
use Rattle.terra_term.specs.declared.lists.TypedName.{TypedName}
use Rattle.terra_term.specs.WellTyped.{Within}
use Rattle.terra_meaning.specs.Running.{State, Got, Gives, Ends, next, scoped}
use Rattle.terra_meaning.specs.Meaning.{the_value, Way, breaks, rounds}
use Rattle.tac_form.specs.declared.tac.Operand.{Operand}
use Rattle.tac_form.specs.declared.tac.Exit.TheVariants.{Jump}
use Rattle.tac_lower.specs.Items.{Item, does, ends, tests, repeats, count_ends, loop_of, backward}
use Rattle.tac_lower.specs.Pieces.{Used, Piece, Result, word_of, Holders}
use Rattle.tac_lower.specs.Lowering.{while_loop}
use Rattle.tac_lower.proofs.Places.{Point, step_on, start_of, after, after-append, after-block, EndsAt, HasAt, has-front, has-back}
use Rattle.tac_lower.proofs.Places.{has-loop, count-append}
use Rattle.tac_lower.proofs.Standing.{Setting, Private, Leads, word_in, Fine, Grown, Comes, Leaves}
use Rattle.tac_lower.proofs.Simulates.{Fact, one_of, Knows, whole, Sim, grown-none, grown-then, keeps-none}
use Rattle.tac_lower.proofs.Acts.{under-self, fine-later, Acts, way-before, way-at}
use Rattle.tac_lower.proofs.Branches.{jumps, branches, tested}
use Rattle.tac_lower.proofs.Rounds.{in_loop, RoundOk, round-before, scoped-round, turn-of-round, rounds_ways}

-- a value, and what a round does with it
pub value_rounds : {B : Type 0} (w : Within) {A : Type 0} {z : Setting} {n : ℕ} {names : List TypedName} {scope : Holders} {u : Used}
    {p : Piece A} {go : State → Got B} {mid : B → Fact}
    (x : Sim z n names scope [] u p go names scope mid) (u2 : Used) (out : ℕ) (at to : Point) (k : Private) (s : State) →
    HasAt z.tac.blocks out at p.code → Grown p.used (whole z) → Fine z names scope u k s → s.left < n → (go2 : B → State → Got Way) →
    ((b : B) (k1 : Private) (s1 : State) → Fine z names scope p.used k1 s1 → Knows z scope p.used (mid b) k1 → s1.left ≤ s.left →
    Leaves z (after p.code at) k1 s1 (λ way s'. RoundOk z w names scope (after p.code at) p.used k1 s1 to u2 out way s') (go2 b s1)) →
    Leaves z at k s (λ way s'. RoundOk z w names scope at u k s to u2 out way s') (next (go s) go2)
value_rounds {B} w {A} {z} {n} {names} {scope} {u} {p} {go} {mid} x u2 out at to k s has whole_ fine less go2 more =
    by (go s) (x.run out at k s has whole_ fine tt less)
  where
    by : (g : Got B) → Leaves z at k s (λ b s'. Comes z names scope at u k s (after p.code at) names scope p.used s'
        (Knows z scope p.used (mid b))) g →
        Leaves z at k s (λ way s'. RoundOk z w names scope at u k s to u2 out way s') (next g go2)
    by (Ends e) h = h
    by (Gives b s1) c =
        round-before z w names scope at (after p.code at) to u p.used u2 k c.private s s1 out c.leads x.grown c.keeps c.fewer (go2 b s1)
        (more b c.private s1 c.fine c.ok c.fewer)

-- where a loop's code ends

pub after-loop : (is : List Item) (at : Point) → after (loop_of is) at ≡ after is at
after-loop [] at = refl
after-loop (does i ∷ is) at = after-loop is (step_on at)
after-loop (ends e ∷ is) at = after-loop is (start_of (suc at.block))

-- the inside of a `while`
abbrev pub while_code : List Item → Operand → List Item → List Item
while_code code test body =
    code ++ ends (tests test (suc (count_ends body))) ∷ (body ++ ends (repeats (count_ends code + suc (count_ends body))) ∷ [])

pub while-count : (code body : List Item) (test : Operand) → count_ends (while_code code test body) ≡ count_ends code + suc
    (count_ends body + 1)
while-count code body test =
    count-append code (ends (tests test (suc (count_ends body))) ∷ (body ++ ends (repeats (count_ends code + suc (count_ends body))) ∷ []))
    ∙ ap (λ m. count_ends code + suc m) (count-append body (ends (repeats (count_ends code + suc (count_ends body))) ∷ []))

pub while-after : (code body : List Item) (test : Operand) (b0 : ℕ) → after (while_code code test body) (start_of b0) ≡ start_of
    (b0 + count_ends (while_code code test body))
while-after code body test b0 =
    let start = start_of b0 in
    let q = after code start in
    let back = after body (start_of (suc q.block)) in
    let n : suc back.block ≡ b0 + count_ends (while_code code test body) =
    omega (arith, after-block code start, after-block body (start_of (suc q.block)), while-count code body test) in
    after-append code (ends (tests test (suc (count_ends body))) ∷
    (body ++ ends (repeats (count_ends code + suc (count_ends body))) ∷ [])) start
    ∙ after-append body (ends (repeats (count_ends code + suc (count_ends body))) ∷ []) (start_of (suc q.block))
    ∙ ap start_of n

pub acts_while : {z : Setting} {n : ℕ} {w : Within} {names names1 : List TypedName} {scope : Holders} {u : Used} {p : Piece Result}
    {r : Piece Holders} {go : State → Got Value} {go2 : State → Got Way} (of : TypeId) (turns : ℕ) →
    n ≤ turns → Sim z n names scope [] u p go names scope (λ v. one_of the_value of p.result v) →
    Acts z n (in_loop w) names scope p.used r go2 names1 →
    Acts z n w names scope u (record { result = scope; code = while_loop p.code (word_of p.result) r.code; used = r.used })
    (rounds turns (λ s1. next (go s1) (λ v s2. if is_true v then scoped s2 (go2 s2) else Gives breaks s2))) names
acts_while {z} {n} {w} {names} {names1} {scope} {u} {p} {r} {go} {go2} of turns enough x y = record {
  grown = grown-then u p.used r.used x.grown y.grown;
  over = λ t lt away. away;
  under = under-self names scope;
  run = λ out at k s has whole_ fine less.
      let b0 = suc at.block in
      let e = b0 + count_ends (while_code p.code a r.code) in
      let inside = has-loop z.tac.blocks out e (while_code p.code a r.code) (start_of b0) has.1 refl in
      let zero_on : suc at.block + 0 ≡ suc at.block = omega arith in
      let begins : Leads z at k s (start_of b0) k s = subst (λ m. Leads z at k s (start_of m) k s) zero_on
      (jumps z at k s (suc at.block + 0) has.0) in
      let done : start_of e ≡ after (while_loop p.code a r.code) at = sym
      (after-loop (while_code p.code a r.code) (start_of b0) ∙ while-after p.code r.code a b0) in
      way-at z w names names scope scope at (start_of e) (after (while_loop p.code a r.code) at) u r.used k s out done
      (rounds turns round s)
      (way-before z w names names names scope scope scope at (start_of b0) (start_of e) u u r.used k k s s out begins (grown-none u)
      (λ t lt away. away) (under-self names scope) (keeps-none scope u k) (omega arith) fine fine (rounds turns round s)
      (rounds_ways z w names scope n b0 e out u r.used round (grown-then u p.used r.used x.grown y.grown) (λ k1 s1 fine1 less1.
      turn-of-round z w names scope (start_of b0) (after r.code (start_of (suc (after p.code (start_of b0)).block))) u r.used k1 s1 b0 e
      (goes_back b0 e inside) (round s1) (round_ok b0 e inside refl whole_ k1 s1 fine1 less1)) turns k s fine less
      (omega (arith, less, enough))));
}
  where
    a : Operand
    a = word_of p.result

    round : State → Got Way
    round s1 = next (go s1) (λ v s2. if is_true v then scoped s2 (go2 s2) else Gives breaks s2)

    tail : List Item
    tail = ends (tests a (suc (count_ends r.code))) ∷ (r.code ++ ends (repeats (count_ends p.code + suc (count_ends r.code))) ∷ [])

    goes_back : (b0 e : ℕ) → HasAt z.tac.blocks e (start_of b0) (while_code p.code a r.code) →
        EndsAt z.tac.blocks (after r.code (start_of (suc (after p.code (start_of b0)).block))) (Jump (backward b0))
    goes_back b0 e has =
        let q = after p.code (start_of b0) in
        let back = after r.code (start_of (suc q.block)) in
        let there = (has-back z.tac.blocks e (start_of (suc q.block)) r.code
        (ends (repeats (count_ends p.code + suc (count_ends r.code))) ∷ [])
        (has-back z.tac.blocks e (start_of b0) p.code tail has).1).0 in
        let n : back.block - (count_ends p.code + suc (count_ends r.code)) ≡ b0 = omega
        (arith, after-block p.code (start_of b0), after-block r.code (start_of (suc q.block))) in
        subst (λ m. EndsAt z.tac.blocks back (Jump (backward m))) n there

    by : (b0 e : ℕ) → HasAt z.tac.blocks e (start_of b0) (while_code p.code a r.code) → e ≡ b0 + count_ends (while_code p.code a r.code) →
        Grown r.used (whole z) → (k : Private) (s : State) → Fine z names scope p.used k s → s.left < n →
        (b : Bool) → nat_eq (word_in k a) 0 ≡ not b →
        Leaves z (after p.code (start_of b0)) k s (λ way s'. RoundOk z w names scope (after p.code (start_of b0)) p.used k s
        (after r.code (start_of (suc (after p.code (start_of b0)).block))) r.used e way s')
        (if b then scoped s (go2 s) else Gives breaks s)
    by b0 e has is_end whole_ k s fine less true test =
        let q = after p.code (start_of b0) in
        let start = start_of (suc q.block) in
        let has2 = has-back z.tac.blocks e (start_of b0) p.code tail has in
        round-before z w names scope q start (after r.code start) p.used p.used r.used k k s s e
        (branches z q k s a (suc q.block) (suc q.block + suc (count_ends r.code)) false has2.0 test) (grown-none p.used)
        (keeps-none scope p.used k) (omega arith) (scoped s (go2 s))
        (scoped-round z w names names1 scope r.result start (after r.code start) p.used r.used k s e fine y.under (go2 s)
        (y.run e start k s (has-front z.tac.blocks e start r.code (ends (repeats (count_ends p.code + suc (count_ends r.code))) ∷ [])
        has2.1) whole_ fine less))
    by b0 e has is_end whole_ k s fine less false test =
        let q = after p.code (start_of b0) in
        let has2 = has-back z.tac.blocks e (start_of b0) p.code tail has in
        let to : suc q.block + suc (count_ends r.code) ≡ e = omega
        (arith, is_end, after-block p.code (start_of b0), while-count p.code r.code a) in
        record {
          private = k;
          leads = subst (λ m. Leads z q k s (start_of m) k s) to
              (branches z q k s a (suc q.block) (suc q.block + suc (count_ends r.code)) true has2.0 test);
          ok = tt;
          fine = fine-later z names scope p.used r.used k s y.grown.temps fine;
          keeps = keeps-none scope p.used k;
          fewer = omega arith;
        }

    round_ok : (b0 e : ℕ) → HasAt z.tac.blocks e (start_of b0) (while_code p.code a r.code) →
        e ≡ b0 + count_ends (while_code p.code a r.code) → Grown r.used (whole z) → (k : Private) (s : State) → Fine z names scope u k s →
        s.left < n →
        Leaves z (start_of b0) k s
        (λ way s'. RoundOk z w names scope (start_of b0) u k s (after r.code (start_of (suc (after p.code (start_of b0)).block)))
        r.used e way s') (round s)
    round_ok b0 e has is_end whole_ k s fine less =
        value_rounds w x r.used e (start_of b0) (after r.code (start_of (suc (after p.code (start_of b0)).block))) k s
        (has-front z.tac.blocks e (start_of b0) p.code tail has) (grown-then p.used r.used (whole z) y.grown whole_) fine less
        (λ v s2. if is_true v then scoped s2 (go2 s2) else Gives breaks s2) (λ v k1 s1 fine1 knows fewer.
        by b0 e has is_end whole_ k1 s1 fine1 (omega (arith, less, fewer)) (is_true v)
        (tested z of scope p.used p.result k1 v (is_true v) knows refl))
