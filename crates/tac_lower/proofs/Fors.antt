-- `for`: its bounds, its value in a temporary of its own, and rounds that go on from one value to the next.
use Rattle.std.proofs.Common.{◌≡◌, ℕ, zero, suc, ◌+◌, ◌<◌, ◌≤◌, Bool, true, false, List, [], ◌∷◌, ◌++◌, refl, sym, ap, ◌∙◌, subst, arith}
use Rattle.std.specs.Prelude.{◌^◌, ◌-◌, not, nat_eq, if◌then◌else◌}
use Rattle.tl_base.specs.declared.ids.TypeId.{TypeId}
use Rattle.terra_words.specs.declared.words.BinaryOperator.TheVariants as operators
use Rattle.terra_words.specs.declared.words.Width.{Width}
use Rattle.terra_words.specs.Words.{wrapped, applied, flag}
use Rattle.terra_words.specs.Runs.{Value, word, number, value_at, More}
use Rattle.terra_types.specs.Opening.{boolean}
use Rattle.terra_term.specs.declared.lists.TypedName.{TypedName}
use Rattle.terra_term.specs.WellTyped.{Within}
use Rattle.terra_meaning.specs.Values.{form_at, width_of, IsValue}
use Rattle.terra_meaning.specs.Running.{State, Got, Gives, Ends, next, scoped}
use Rattle.terra_meaning.specs.Meaning as meaning
use Rattle.terra_meaning.specs.Meaning.{the_value, Way, goes_on, breaks, gives_back, step_of, for_rounds, behind}
use Rattle.tac_form.specs.declared.tac.Operand.{Operand}
use Rattle.tac_form.specs.declared.tac.Operand.TheVariants.{Temp}
use Rattle.tac_form.specs.declared.tac.Instruction.TheVariants.{Compute, Copy}
use Rattle.tac_form.specs.declared.tac.Exit.TheVariants.{Jump, Branch}
use Rattle.tac_form.specs.Flow as flow
use Rattle.tac_form.specs.Flow.{Goes, Stops, put}
use Rattle.tac_lower.specs.Items.{Item, does, ends, tests, repeats, count_ends, onward, backward}
use Rattle.tac_lower.specs.Pieces.{Used, with_temp, Piece, Result, a_word, word_of, word_at, rest, Holders, number_of}
use Rattle.tac_lower.specs.Lowering.{Counting, counting, step_in, runs, counted_on, while_loop}
pub use Rattle.tac_lower.specs.Needs.{Begins}
use Rattle.tac_lower.proofs.Places.{Point, step_on, start_of, after, after-append, after-block, DoesAt, EndsAt, HasAt, has-front, has-back}
use Rattle.tac_lower.proofs.Places.{has-loop}
use Rattle.tac_lower.proofs.Standing.{Setting, Private, stands, Leads, leads-to, one-step, word_in, operand-is, Fine, Keeps, Grown, Comes}
use Rattle.tac_lower.proofs.Standing.{Leaves}
use Rattle.tac_lower.proofs.Simulates.{Fact, nothing, one_of, all_of, AllMean, KnowsAll, whole, Sim, grown-none, grown-then, keeps-none}
use Rattle.tac_lower.proofs.Simulates.{facts-later}
use Rattle.tac_lower.proofs.Words.{value-small, wrapped-again, HasNumber}
use Rattle.tac_lower.proofs.Writes.{put-same, put-below, with_word, fresh-apart, grown-temp}
use Rattle.tac_lower.proofs.Loads.{word-is, is-value, load-number}
use Rattle.tac_lower.proofs.Operators.{first-word, second-word, number-width_at}
use Rattle.tac_lower.proofs.Acts.{Under, under-self, under-then, fine-later, WayOk, Acts, way-before, way-at}
use Rattle.tac_lower.proofs.Declares.{all-behind, types_behind, word-of-value}
use Rattle.tac_lower.proofs.Branches.{value_ways, jumps, branches, tested}
use Rattle.tac_lower.proofs.Shorts.{fine-set}
use Rattle.tac_lower.proofs.Counts.{bit, AreCounts, runs_sim, true-flag}
use Rattle.tac_lower.proofs.Rounds.{in_loop, RoundOk, TurnOk, round-before, scoped-round, back-none, back-one, numbered, numbered_ways}
use Rattle.tac_lower.proofs.Rounds.{next-turned}
use Rattle.tac_lower.proofs.Loops.{after-loop, while_code, while-count, while-after}

-- the first value, and the step

pub first-value : (z : Setting) (scope : Holders) (u : Used) (of : TypeId) (ts : List TypeId) (rs : List Result) (vs : List Value)
    (k : Private) → Begins of ts → AllMean z scope u ts rs vs k → IsValue z.types of (value_at vs 0)
first-value z scope u of [] rs vs k b h = absurd b
first-value z scope u of (t ∷ ts) (r ∷ rs) (v ∷ vs) k b h = subst (λ y. IsValue z.types y v) b (is-value z t r v h.0.good)
first-value z scope u of (t ∷ ts) [] vs k b h = absurd h
first-value z scope u of (t ∷ ts) (r ∷ rs) [] k b h = absurd h

step-word : (z : Setting) (scope : Holders) (u : Used) (ts : List TypeId) (rs : List Result) (vs : List Value) (k : Private) →
    AllMean z scope u ts rs vs k → (word_in k (step_in rs) ≡ step_of vs) × (step_of vs < 2 ^ 64)
step-word z scope u [] [] [] k h = (refl, omega arith)
step-word z scope u (t ∷ ts) (r ∷ rs) (v ∷ vs) k h =
    (word-is z t scope u r k v h.0, value-small z.types t v (is-value z t r v h.0.good))
step-word z scope u [] [] (v ∷ vs) k h = absurd h
step-word z scope u [] (r ∷ rs) vs k h = absurd h
step-word z scope u (t ∷ ts) [] vs k h = absurd h
step-word z scope u (t ∷ ts) (r ∷ rs) [] k h = absurd h

third-word : (z : Setting) (scope : Holders) (u : Used) (ts : List TypeId) (rs : List Result) (vs : List Value) (k : Private) →
    AllMean z scope u ts rs vs k →
    (word_in k (step_in (rest (rest rs))) ≡ step_of (behind (behind vs))) × (step_of (behind (behind vs)) < 2 ^ 64)
third-word z scope u ts rs vs k h =
    step-word z scope u (types_behind (types_behind ts)) (rest (rest rs)) (behind (behind vs)) k
    (all-behind z scope u (types_behind ts) (rest rs) (behind vs) k (all-behind z scope u ts rs vs k h))

-- the rounds of a `for`, as rounds that test their number
tested_round : Width → (l st : ℕ) → (ℕ → State → Got Way) → ℕ → State → Got Way
tested_round w l st round i s = if meaning.runs w i l st then round i s else Gives breaks s

numbered-for : (m i : ℕ) (w : Width) (l st : ℕ) (round : ℕ → State → Got Way) (s : State) →
    numbered m (tested_round w l st round) (λ j. wrapped w (j + st)) i s ≡ for_rounds m w l st round i s
unfolding tested_round
numbered-for zero i w l st round s = refl
numbered-for (suc m) i w l st round s =
    by (meaning.runs w i l st) (λ s1. numbered-for m (wrapped w (i + st)) w l st round s1)
  where
    by : (b : Bool) →
        ((s1 : State) → numbered m (tested_round w l st round) (λ j. wrapped w (j + st)) (wrapped w (i + st)) s1
        ≡ for_rounds m w l st round (wrapped w (i + st)) s1) →
        next (if b then round i s else Gives breaks s)
        (λ way s'. meaning.turned way s' (numbered m (tested_round w l st round) (λ j. wrapped w (j + st)) (wrapped w (i + st))))
        ≡ (if b then next (round i s) (λ way s'. meaning.turned way s' (for_rounds m w l st round (wrapped w (i + st)))) else Gives
        goes_on s)
    by true same = next-turned (round i s) (numbered m (tested_round w l st round) (λ j. wrapped w (j + st)) (wrapped w (i + st)))
        (for_rounds m w l st round (wrapped w (i + st))) same
    by false same = refl

added-word : (w : Width) (x y : ℕ) → applied w operators.Add x y ≡ wrapped w (x + y)
unfolding applied
added-word w x y = refl

module _ (z : Setting) (n : ℕ) (w : Within) (names names2 : List TypedName) (scope : Holders) (x : TypedName) (ts : List TypeId)
    (vs : List Value) (u : Used) (rs : List Result) (D : Piece Holders) (B : Piece Holders)
    (god : ℕ → State → Got Value) (gob : State → Got Way) where
  abbrev c : Counting
  c = counting (number_of z.types x.of) rs u.temps

  abbrev wide : Width
  wide = width_of z.types x.of

  abbrev limit : ℕ
  limit = number (value_at vs 1)

  abbrev stride : ℕ
  stride = step_of (behind (behind vs))

  abbrev test : Piece Result
  test = runs c (with_temp u)

  abbrev body : List Item
  body = (D.code ++ B.code) ++ counted_on c ∷ []

  abbrev round : ℕ → State → Got Way
  round i s = scoped s (next (god i s) (λ v s'. gob s'))

  -- what holds where a round begins
  abbrev Before : ℕ → Private → Type 0
  Before i k = (k.temps u.temps ≡ i) × IsValue z.types x.of (word i) × AllMean z scope u ts rs vs k

  abbrev facts : ℕ → List Fact
  facts i = one_of the_value x.of (a_word (Temp u.temps)) (word i) ∷ all_of ts rs vs ∷ []

  module _ (numbers : HasNumber (form_at z.types x.of)) (first : Begins x.of ts)
      (dec : (i : ℕ) → Sim z n names scope (facts i) test.used D (god i) (x ∷ names) D.result (λ v. nothing))
      (under : Under names scope (x ∷ names) D.result) (y : Acts z n (in_loop w) (x ∷ names) D.result D.used B gob names2) where
    small_step : (k : Private) → AllMean z scope u ts rs vs k → stride < 2 ^ 64
    small_step k h = (third-word z scope u ts rs vs k h).1

    are_counts : (i : ℕ) → AreCounts z scope (facts i) c i limit stride
    are_counts i v k h = record {
      value = ap number h.0.is;
      limit = second-word z scope v ts rs vs k h.1.0;
      step = (third-word z scope v ts rs vs k h.1.0).0;
    }

    -- the facts where a round begins
    begins : (i : ℕ) (k : Private) (s : State) → Fine z names scope u k s → Before i k → KnowsAll z scope (with_temp u) (facts i) k
    begins i k s fine h =
        let own : u.temps < (with_temp u).temps = omega arith in (
          record {
            is = ap word h.0;
            own = (own, fresh-apart z names scope s.variables u.temps u.temps k (omega arith) fine.holds);
            good = h.1;
          },
          facts-later z scope scope u (with_temp u) k k (grown-temp u) (λ t lt away. away) (keeps-none scope u k) (all_of ts rs vs ∷ [])
              (h.2, tt),
        )

    test_sim : (i : ℕ) → stride < 2 ^ 64 → Sim z n names scope (facts i) (with_temp u) test
        (λ s. Gives (word (flag (meaning.runs wide i limit stride))) s) names scope
        (λ v. bit test.result (meaning.runs wide i limit stride))
    test_sim i small =
        runs_sim {facts = facts i} (with_temp u) c i limit stride wide (number-width_at z x.of numbers) small (are_counts i)

    all_grown : (i : ℕ) → stride < 2 ^ 64 → Grown (with_temp u) B.used
    all_grown i small =
        grown-then (with_temp u) test.used B.used (test_sim i small).grown
        (grown-then test.used D.used B.used (dec i).grown y.grown)

    -- the way back, behind the count
    turns : (b0 e : ℕ) (i : ℕ) (k : Private) (s : State) (q : Point) → Fine z names scope u k s → Before i k →
        DoesAt z.tac.blocks q (Compute u.temps operators.Add (number_of z.types x.of) (Temp u.temps) c.step) →
        EndsAt z.tac.blocks (step_on q) (Jump (backward b0)) → (g : Got Way) →
        Leaves z (start_of b0) k s (λ way s'. RoundOk z w names scope (start_of b0) (with_temp u) k s q B.used e way s') g →
        Leaves z (start_of b0) k s (λ way s'. TurnOk z w names scope (start_of b0) u k s b0 B.used e (Before (wrapped wide (i + stride)))
        way s') g
    turns b0 e i k s q fine before adds back (Ends f) h = h
    turns b0 e i k s q fine before adds back (Gives breaks s1) d = record {
      private = d.private;
      leads = d.leads;
      ok = tt;
      fine = d.fine;
      keeps = record { temps = λ t lt away. d.keeps.temps t (omega (arith, lt)) away; areas = d.keeps.areas };
      fewer = d.fewer;
    }
    turns b0 e i k s q fine before adds back (Gives (gives_back v) s1) d = d
    turns b0 e i k s q fine before adds back (Gives goes_on s1) d =
        let to = wrapped wide (i + stride) in
        let k1 = with_word u.temps to d.private in
        let own : u.temps < (with_temp u).temps = omega arith in
        let away = fresh-apart z names scope s.variables u.temps u.temps k (omega arith) fine.holds in
        let at_i : d.private.temps u.temps ≡ i = d.keeps.temps u.temps own away ∙ before.0 in
        let h = facts-later z scope scope u u k d.private (grown-none u) (λ t lt aw. aw)
        (record { temps = λ t lt aw. d.keeps.temps t (omega (arith, lt)) aw; areas = d.keeps.areas }) (all_of ts rs vs ∷ [])
        (before.2, tt) in
        let st = (third-word z scope u ts rs vs d.private h.0).0 in
        let adds_to : flow.act z.program (Compute u.temps operators.Add (number_of z.types x.of) (Temp u.temps) c.step)
        (stands z q d.private s1)
        ≡ Goes (stands z (step_on q) k1 s1) =
        ap (λ a. Goes (flow.ahead
        (flow.set_temp u.temps (applied (flow.width_of (number_of z.types x.of)) operators.Add a
        (flow.operand (stands z q d.private s1) c.step)) (stands z q d.private s1)))) at_i
        ∙ ap (λ a. Goes (flow.ahead (flow.set_temp u.temps (applied (flow.width_of (number_of z.types x.of)) operators.Add i a)
        (stands z q d.private s1)))) (operand-is z q d.private s1 c.step ∙ st)
        ∙ ap (λ a. Goes (flow.ahead (flow.set_temp u.temps (applied a operators.Add i stride) (stands z q d.private s1))))
        (number-width_at z x.of numbers)
        ∙ ap (λ a. Goes (flow.ahead (flow.set_temp u.temps a (stands z q d.private s1)))) (added-word wide i stride) in
        let on : Leads z (start_of b0) k s (step_on q) k1 s1 =
        leads-to z (start_of b0) k s q d.private s1 (Goes (stands z (step_on q) k1 s1)) d.leads (
          1,
          one-step z q d.private s1
              (Compute u.temps operators.Add (number_of z.types x.of) (Temp u.temps) c.step) adds ∙ adds_to,
        ) in
        let kept : Keeps scope u k k1 = record {
          temps = λ t lt aw. put-below d.private.temps u.temps to t lt ∙ d.keeps.temps t (omega (arith, lt)) aw;
          areas = d.keeps.areas;
        } in
        record {
          private = k1;
          none =
              λ none. leads-to z (start_of b0) k s (step_on q) k1 s1 (Stops (More s1.out)) on (back-none z (step_on q) b0 k1 s1 back none);
          some = λ l some. leads-to z (start_of b0) k s (step_on q) k1 s1 (Goes (stands z (start_of b0) k1 (record s1 { left = l }))) on
              (back-one z (step_on q) b0 k1 s1 l back some);
          ok = (
            put-same d.private.temps u.temps to,
            ((load-number z x.of (form_at z.types x.of) refl numbers).1, wrapped-again (form_at z.types x.of) (i + stride)),
            (facts-later z scope scope u u k k1 (grown-none u) (λ t lt aw. aw) kept (all_of ts rs vs ∷ []) (before.2, tt)).0,
          );
          fine =
              fine-set z names scope u B.used k d.private s s1 to (omega (arith, (all_grown i (small_step k before.2)).temps)) fine d.fine;
          keeps = kept;
          fewer = d.fewer;
        }

    -- a round: the test, and where it holds the declaration and the statements in a scope of their own
    in_round : (b0 e : ℕ) (i : ℕ) (k : Private) (s : State) (q : Point) → HasAt z.tac.blocks e q (D.code ++ B.code) →
        Grown B.used (whole z) →
        Fine z names scope test.used k s → KnowsAll z scope test.used (facts i) k → s.left < n →
        Leaves z q k s (λ way s'. RoundOk z w names scope q test.used k s (after (D.code ++ B.code) q) B.used e way s') (round i s)
    in_round b0 e i k s q has whole_ fine knows less =
        let q1 = after D.code q in
        let to = after (D.code ++ B.code) q in
        scoped-round z w names names2 scope B.result q to test.used B.used k s e fine
        (under-then names (x ∷ names) names2 scope D.result B.result under y.under) (next (god i s) (λ v s'. gob s'))
        (declared (god i s) ((dec i).run e q k s (has-front z.tac.blocks e q D.code B.code has)
        (grown-then D.used B.used (whole z) y.grown whole_) fine knows less))
      where
        declared : (g : Got Value) →
            Leaves z q k s (λ v s'. Comes z names scope q test.used k s (after D.code q) (x ∷ names) D.result D.used s' (λ k1. Unit {0}))
            g →
            Leaves z q k s (λ way s'. WayOk z (in_loop w) names scope q test.used k s (after (D.code ++ B.code) q) names2 B.result B.used
            e way s')
            (next g (λ v s'. gob s'))
        declared (Ends f) h = h
        declared (Gives v s1) d =
            let q1 = after D.code q in
            way-at z (in_loop w) names names2 scope B.result q (after B.code q1) (after (D.code ++ B.code) q) test.used B.used k s e
            (sym (after-append D.code B.code q)) (gob s1)
            (way-before z (in_loop w) names (x ∷ names) names2 scope D.result B.result q q1 (after B.code q1) test.used D.used B.used k
            d.private
            s s1 e d.leads (dec i).grown (dec i).over under d.keeps d.fewer fine d.fine (gob s1)
            (y.run e q1 d.private s1 (has-back z.tac.blocks e q D.code B.code has) whole_ d.fine (omega (arith, less, d.fewer))))

    abbrev a : Operand
    a = word_of test.result

    abbrev back_item : List Item
    back_item = ends (repeats (count_ends test.code + suc (count_ends body))) ∷ []

    abbrev tail : List Item
    tail = ends (tests a (suc (count_ends body))) ∷ (body ++ back_item)

    abbrev inner : List Item
    inner = while_code test.code a body

    round_ok : (b0 e : ℕ) → HasAt z.tac.blocks e (start_of b0) inner → e ≡ b0 + count_ends inner → Grown B.used (whole z) →
        (i : ℕ) (k : Private) (s : State) → Fine z names scope u k s → Before i k → s.left < n →
        Leaves z (start_of b0) k s
        (λ way s'. TurnOk z w names scope (start_of b0) u k s b0 B.used e (Before (wrapped wide (i + stride))) way s')
        (tested_round wide limit stride round i s)
    unfolding tested_round
    round_ok b0 e has is_end whole_ i k s fine before less =
        let start = start_of b0 in
        let q = after test.code start in
        let start2 = start_of (suc q.block) in
        let q2 = after (D.code ++ B.code) start2 in
        let small = small_step k before.2 in
        let t = test_sim i small in
        let has1 = has-front z.tac.blocks e start test.code tail has in
        let has2 = has-back z.tac.blocks e start test.code tail has in
        let has3 = has-front z.tac.blocks e start2 body back_item has2.1 in
        let adds = (has-back z.tac.blocks e start2 (D.code ++ B.code) (counted_on c ∷ []) has3).0 in
        let here : after body start2 ≡ step_on q2 = after-append (D.code ++ B.code) (counted_on c ∷ []) start2 in
        let stood = (has-back z.tac.blocks e start2 body back_item has2.1).0 in
        let m : (after body start2).block - (count_ends test.code + suc (count_ends body)) ≡ b0 =
        omega (arith, after-block test.code start, after-block body start2) in
        let back = subst (λ p. EndsAt z.tac.blocks p (Jump (backward b0))) here
        (subst (λ j. EndsAt z.tac.blocks (after body start2) (Jump (backward j))) m stood) in
        let fine1 = fine-later z names scope u (with_temp u) k s (omega arith) fine in
        let knows = begins i k s fine before in
        let c1 = t.run e start k s has1 (grown-then test.used B.used (whole z) (grown-then test.used D.used B.used (dec i).grown y.grown)
        whole_)
        fine1 knows less in
        let knows1 = facts-later z scope scope (with_temp u) test.used k c1.private t.grown (λ m1 lt aw. aw) c1.keeps (facts i) knows in
        turns b0 e i k s q2 fine before adds back (tested_round wide limit stride round i s)
        (round-before z w names scope start q q2 (with_temp u) test.used B.used k c1.private s s e c1.leads t.grown c1.keeps c1.fewer
        (tested_round wide limit stride round i s)
        (by c1.private c1.fine knows1 has2.0 (has-front z.tac.blocks e start2 (D.code ++ B.code) (counted_on c ∷ []) has3)
        (meaning.runs wide i limit stride)
        (tested z boolean scope test.used test.result c1.private (word (flag (meaning.runs wide i limit stride)))
        (meaning.runs wide i limit stride)
        c1.ok (true-flag (meaning.runs wide i limit stride)))))
      where
        q0 : Point
        q0 = after test.code (start_of b0)

        by : (k1 : Private) → Fine z names scope test.used k1 s → KnowsAll z scope test.used (facts i) k1 →
            EndsAt z.tac.blocks q0 (Branch a (onward (suc q0.block)) (onward (suc q0.block + suc (count_ends body)))) →
            HasAt z.tac.blocks e (start_of (suc q0.block)) (D.code ++ B.code) → (b : Bool) → nat_eq (word_in k1 a) 0 ≡ not b →
            Leaves z q0 k1 s
            (λ way s'. RoundOk z w names scope q0 test.used k1 s (after (D.code ++ B.code) (start_of (suc q0.block))) B.used e way s')
            (if b then round i s else Gives breaks s)
        by k1 fine1 knows stood has1 true is =
            let start2 = start_of (suc q0.block) in
            round-before z w names scope q0 start2 (after (D.code ++ B.code) start2) test.used test.used B.used k1 k1 s s e
            (branches z q0 k1 s a (suc q0.block) (suc q0.block + suc (count_ends body)) false stood is) (grown-none test.used)
            (keeps-none scope test.used k1) (omega arith) (round i s)
            (in_round b0 e i k1 s start2 has1 whole_ fine1 knows less)
        by k1 fine1 knows stood has1 false is =
            let m : suc q0.block + suc (count_ends body) ≡ e =
            omega (arith, is_end, after-block test.code (start_of b0), while-count test.code body a) in
            record {
              private = k1;
              leads = subst (λ j. Leads z q0 k1 s (start_of j) k1 s) m
                  (branches z q0 k1 s a (suc q0.block) (suc q0.block + suc (count_ends body)) true stood is);
              ok = tt;
              fine = fine-later z names scope test.used B.used k1 s
                  (omega (arith, (grown-then test.used D.used B.used (dec i).grown y.grown).temps)) fine1;
              keeps = keeps-none scope test.used k1;
              fewer = omega arith;
            }

    abbrev code : List Item
    code = does (Copy u.temps (word_at rs 0)) ∷ while_loop test.code a body

    -- all of it, behind the bounds
    pub for_ways : (fuel : ℕ) → n ≤ fuel → (out : ℕ) (at : Point) (k : Private) (s : State) → HasAt z.tac.blocks out at code →
        Grown B.used (whole z) → Fine z names scope u k s → AllMean z scope u ts rs vs k → s.left < n →
        Leaves z at k s (λ way s'. WayOk z w names scope at u k s (after code at) names scope B.used out way s')
        (for_rounds fuel wide limit stride round (number (value_at vs 0)) s)
    for_ways fuel enough out at k s has whole_ fine all less =
        let i = number (value_at vs 0) in
        let b0 = suc at.block in
        let e = b0 + count_ends inner in
        let k1 = with_word u.temps i k in
        let plain = (load-number z x.of (form_at z.types x.of) refl numbers).1 in
        let copied : Leads z at k s (step_on at) k1 s = (
          1,
          one-step z at k s (Copy u.temps (word_at rs 0)) has.0
              ∙ ap (λ v. Goes (flow.ahead (flow.set_temp u.temps v (stands z at k s))))
              (operand-is z at k s (word_at rs 0) ∙ first-word z scope u ts rs vs k all),
        ) in
        let zero_on : suc at.block + 0 ≡ suc at.block = omega arith in
        let jumped : Leads z (step_on at) k1 s (start_of b0) k1 s =
        subst (λ m. Leads z (step_on at) k1 s (start_of m) k1 s) zero_on (jumps z (step_on at) k1 s (suc at.block + 0) has.1.0) in
        let on = leads-to z at k s (step_on at) k1 s (Goes (stands z (start_of b0) k1 s)) copied jumped in
        let inside = has-loop z.tac.blocks out e inner (start_of b0) has.1.1 refl in
        let kept : Keeps scope u k k1 = record { temps = λ t lt away. put-below k.temps u.temps i t lt; areas = λ m lt. refl } in
        let fine1 = fine-set z names scope u u k k s s i (omega arith) fine fine in
        let all1 = (facts-later z scope scope u u k k1 (grown-none u) (λ t lt aw. aw) kept (all_of ts rs vs ∷ []) (all, tt)).0 in
        let before : Before i k1 =
        (put-same k.temps u.temps i, word-of-value z x.of (value_at vs 0) plain (first-value z scope u x.of ts rs vs k first all), all1) in
        let g = grown-then u (with_temp u) B.used (grown-temp u) (all_grown i (small_step k all)) in
        let done : start_of e ≡ after code at = sym (after-loop inner (start_of b0) ∙ while-after test.code body a b0) in
        subst (λ got. Leaves z at k s (λ way s'. WayOk z w names scope at u k s (after code at) names scope B.used out way s') got)
        (numbered-for fuel i wide limit stride round s)
        (way-at z w names names scope scope at (start_of e) (after code at) u B.used k s out done
        (numbered fuel (tested_round wide limit stride round) (λ j. wrapped wide (j + stride)) i s)
        (way-before z w names names names scope scope scope at (start_of b0) (start_of e) u u B.used k k1 s s out on (grown-none u)
        (λ t lt away. away) (under-self names scope) kept (omega arith) fine fine1
        (numbered fuel (tested_round wide limit stride round) (λ j. wrapped wide (j + stride)) i s)
        (numbered_ways z w names scope n b0 e out u B.used (tested_round wide limit stride round) (λ j. wrapped wide (j + stride)) Before g
        (λ j k2 s2 fine2 before2 less2. round_ok b0 e inside refl whole_ j k2 s2 fine2 before2 less2) fuel i k1 s fine1 before less
        (omega (arith, less, enough)))))

pub acts_for : {z : Setting} {n : ℕ} {w : Within} {names names2 : List TypedName} {scope : Holders} {u : Used} {q : Piece (List Result)}
    {goq : State → Got (List Value)} (x : TypedName) (ts : List TypeId) (D B : Piece Holders) (god : ℕ → State → Got Value)
    (gob : State → Got Way) (fuel : ℕ) → n ≤ fuel → HasNumber (form_at z.types x.of) → Begins x.of ts →
    Sim z n names scope [] u q goq names scope (λ vs. all_of ts q.result vs) →
    let c = counting (number_of z.types x.of) q.result q.used.temps in
    let t = runs c (with_temp q.used) in
    ((vs : List Value) (i : ℕ) →
    Sim z n names scope (one_of the_value x.of (a_word (Temp q.used.temps)) (word i) ∷ all_of ts q.result vs ∷ []) t.used D (god i)
    (x ∷ names) D.result (λ v. nothing)) →
    Under names scope (x ∷ names) D.result → Acts z n (in_loop w) (x ∷ names) D.result D.used B gob names2 →
    Acts z n w names scope u (record {
      result = scope;
      code = q.code ++ (does (Copy q.used.temps (word_at q.result 0)) ∷
          while_loop t.code (word_of t.result) ((D.code ++ B.code) ++ counted_on c ∷ []));
      used = B.used;
    })
    (λ s. next (goq s) (λ vs s'. for_rounds fuel (width_of z.types x.of) (number (value_at vs 1)) (step_of (behind (behind vs)))
    (λ i s1. scoped s1 (next (god i s1) (λ v s2. gob s2))) (number (value_at vs 0)) s')) names
acts_for {z} {n} {w} {names} {names2} {scope} {u} {q} {goq} x ts D B god gob fuel enough numbers first xq dec under y = record {
  grown = grown-then u q.used B.used xq.grown rest_grown;
  over = λ t lt away. away;
  under = under-self names scope;
  run = λ out at k s has whole_ fine less.
      way-at z w names names scope scope at (after code (after q.code at)) (after (q.code ++ code) at) u B.used k s out
      (sym (after-append q.code code at)) (next (goq s) rounds)
      (value_ways w xq names scope B.used out at (after code (after q.code at)) k s (has-front z.tac.blocks out at q.code code has)
      (grown-then q.used B.used (whole z) rest_grown whole_) fine less rounds (λ vs k1 s1 fine1 knows fewer.
      for_ways z n w names names2 scope x ts vs q.used q.result D B god gob numbers first (dec vs) under y fuel enough out
      (after q.code at) k1 s1 (has-back z.tac.blocks out at q.code code has) whole_ fine1 knows (omega (arith, less, fewer))));
}
  where
    c1 : Counting
    c1 = counting (number_of z.types x.of) q.result q.used.temps

    t : Piece Result
    t = runs c1 (with_temp q.used)

    code : List Item
    code = does (Copy q.used.temps (word_at q.result 0)) ∷ while_loop t.code (word_of t.result) ((D.code ++ B.code) ++ counted_on c1 ∷ [])

    rounds : List Value → State → Got Way
    rounds vs s' = for_rounds fuel (width_of z.types x.of) (number (value_at vs 1)) (step_of (behind (behind vs)))
        (λ i s1. scoped s1 (next (god i s1) (λ v s2. gob s2))) (number (value_at vs 0)) s'

    rest_grown : Grown q.used B.used
    rest_grown = grown-then q.used (with_temp q.used) B.used (grown-temp q.used)
        (all_grown z n w names names2 scope x ts [] q.used q.result D B god gob numbers first (dec []) under y 0 (omega arith))
