-- `repeat`: its statements and the test in one scope, and the way back.
use Rattle.std.proofs.Common.{◌≡◌, ℕ, zero, suc, ◌+◌, ◌<◌, ◌≤◌, Bool, true, false, List, [], ◌∷◌, ◌++◌, length, refl, sym, ap, ◌∙◌, subst}
use Rattle.std.proofs.Common.{arith}
use Rattle.std.specs.Prelude.{◌-◌, not, nat_eq, if◌then◌else◌}
use Rattle.tl_base.specs.declared.ids.TypeId.{TypeId}
use Rattle.terra_words.specs.Runs.{Value, is_true, More}
use Rattle.terra_term.specs.declared.lists.TypedName.{TypedName}
use Rattle.terra_term.specs.WellTyped.{Within}
use Rattle.terra_meaning.specs.Running.{State, Got, Gives, Ends, next, scoped}
use Rattle.terra_meaning.specs.Meaning.{the_value, Way, goes_on, breaks, gives_back, along, rounds}
use Rattle.tac_form.specs.declared.tac.Operand.{Operand}
use Rattle.tac_form.specs.declared.tac.Exit.TheVariants.{Branch}
use Rattle.tac_form.specs.Flow as flow
use Rattle.tac_form.specs.Flow.{Goes, Stops}
use Rattle.tac_lower.specs.Items.{Item, ends, repeats_unless, count_ends, onward, backward}
use Rattle.tac_lower.specs.Pieces.{Used, Piece, Result, word_of, Holders}
use Rattle.tac_lower.specs.Lowering.{repeat_loop}
use Rattle.tac_lower.proofs.Places.{Point, start_of, after, after-append, after-block, EndsAt, HasAt, has-front, has-back, has-loop}
use Rattle.tac_lower.proofs.Places.{count-append}
use Rattle.tac_lower.proofs.Standing.{Setting, Private, stands, Leads, Halts, leads-to, one-end, word_in, operand-is, Fine, Grown, Means}
use Rattle.tac_lower.proofs.Standing.{Comes, Leaves}
use Rattle.tac_lower.proofs.Simulates.{one_of, whole, Sim, grown-none, grown-then, keeps-none, keeps-then}
use Rattle.tac_lower.proofs.Acts.{outermost, under-self, holds-length, fine-outer, WayOk, Acts, way-before, way-at, comes-later}
use Rattle.tac_lower.proofs.Branches.{jumps, tested}
use Rattle.tac_lower.proofs.Rounds.{in_loop, TurnOk, rounds_ways}
use Rattle.tac_lower.proofs.Loops.{after-loop}

-- the way back, which counts, is taken where the word is zero
back-none : (z : Setting) (q : Point) (a : Operand) (one back : ℕ) (k : Private) (s : State) →
    EndsAt z.tac.blocks q (Branch a (onward one) (backward back)) → nat_eq (word_in k a) 0 ≡ true → s.left ≡ zero →
    Halts z q k s (More s.out)
back-none z q a one back k s h e none = (
  1,
  one-end z q k s (Branch a (onward one) (backward back)) h
      ∙ ap (λ x. if nat_eq x 0 then flow.follow (backward back) (stands z q k s) else flow.follow (onward one) (stands z q k s))
      (operand-is z q k s a)
      ∙ ap (λ b. if b then flow.follow (backward back) (stands z q k s) else flow.follow (onward one) (stands z q k s)) e
      ∙ ap (λ l. flow.counted l (stands z q k s) (λ s'. Goes (record s' { here = record s'.here { block = back; at = 0 } }))) none,
)

back-some : (z : Setting) (q : Point) (a : Operand) (one back : ℕ) (k : Private) (s : State) (l : ℕ) →
    EndsAt z.tac.blocks q (Branch a (onward one) (backward back)) → nat_eq (word_in k a) 0 ≡ true → s.left ≡ suc l →
    Leads z q k s (start_of back) k (record s { left = l })
back-some z q a one back k s l h e some = (
  1,
  one-end z q k s (Branch a (onward one) (backward back)) h
      ∙ ap (λ x. if nat_eq x 0 then flow.follow (backward back) (stands z q k s) else flow.follow (onward one) (stands z q k s))
      (operand-is z q k s a)
      ∙ ap (λ b. if b then flow.follow (backward back) (stands z q k s) else flow.follow (onward one) (stands z q k s)) e
      ∙ ap (λ m. flow.counted m (stands z q k s) (λ s'. Goes (record s' { here = record s'.here { block = back; at = 0 } }))) some,
)

ahead-on : (z : Setting) (q : Point) (a : Operand) (one back : ℕ) (k : Private) (s : State) →
    EndsAt z.tac.blocks q (Branch a (onward one) (backward back)) → nat_eq (word_in k a) 0 ≡ false → Leads z q k s (start_of one) k s
ahead-on z q a one back k s h e = (
  1,
  one-end z q k s (Branch a (onward one) (backward back)) h
      ∙ ap (λ x. if nat_eq x 0 then flow.follow (backward back) (stands z q k s) else flow.follow (onward one) (stands z q k s))
      (operand-is z q k s a)
      ∙ ap (λ b. if b then flow.follow (backward back) (stands z q k s) else flow.follow (onward one) (stands z q k s)) e,
)

pub acts_repeat : {z : Setting} {n : ℕ} {w : Within} {names names1 : List TypedName} {scope : Holders} {u : Used} {r : Piece Holders}
    {p : Piece Result} {go : State → Got Way} {go2 : State → Got Value} (of : TypeId) (turns : ℕ) → n ≤ turns →
    Acts z n (in_loop w) names scope u r go names1 →
    Sim z n names1 r.result [] r.used p go2 names1 r.result (λ v. one_of the_value of p.result v) →
    Acts z n w names scope u (record { result = scope; code = repeat_loop (r.code ++ p.code) (word_of p.result); used = p.used })
    (rounds turns (λ s1. scoped s1 (next (go s1) (λ way s2. along way s2 (λ s3.
    next (go2 s3) (λ v s4. Gives (if is_true v then breaks else goes_on) s4)))))) names
acts_repeat {z} {n} {w} {names} {names1} {scope} {u} {r} {p} {go} {go2} of turns enough x y = record {
  grown = grown;
  over = λ t lt away. away;
  under = under-self names scope;
  run = λ out at k s has whole_ fine less.
      let b0 = suc at.block in
      let e = b0 + count_ends inner in
      let inside = has-loop z.tac.blocks out e inner (start_of b0) has.1 refl in
      let zero_on : suc at.block + 0 ≡ suc at.block = omega arith in
      let begins : Leads z at k s (start_of b0) k s =
      subst (λ m. Leads z at k s (start_of m) k s) zero_on (jumps z at k s (suc at.block + 0) has.0) in
      let done : start_of e ≡ after (repeat_loop code a) at = sym (after-loop inner (start_of b0) ∙ ends-at b0) in
      way-at z w names names scope scope at (start_of e) (after (repeat_loop code a) at) u p.used k s out done (rounds turns round s)
      (way-before z w names names names scope scope scope at (start_of b0) (start_of e) u u p.used k k s s out begins (grown-none u)
      (λ t lt away. away) (under-self names scope) (keeps-none scope u k) (omega arith) fine fine (rounds turns round s)
      (rounds_ways z w names scope n b0 e out u p.used round grown
      (λ k1 s1 fine1 less1. round_ok b0 e inside refl whole_ k1 s1 fine1 less1) turns k s fine less (omega (arith, less, enough))));
}
  where
    a : Operand
    a = word_of p.result

    code : List Item
    code = r.code ++ p.code

    back_item : List Item
    back_item = ends (repeats_unless a (count_ends code)) ∷ []

    inner : List Item
    inner = code ++ back_item

    grown : Grown u p.used
    grown = grown-then u r.used p.used x.grown y.grown

    round : State → Got Way
    round s1 = scoped s1 (next (go s1) (λ way s2. along way s2 (λ s3.
        next (go2 s3) (λ v s4. Gives (if is_true v then breaks else goes_on) s4))))

    inner-count : count_ends inner ≡ count_ends code + 1
    inner-count = count-append code back_item

    ends-at : (b0 : ℕ) → after inner (start_of b0) ≡ start_of (b0 + count_ends inner)
    ends-at b0 =
        let q = after code (start_of b0) in
        let m : suc q.block ≡ b0 + count_ends inner = omega (arith, after-block code (start_of b0), inner-count) in
        after-append code back_item (start_of b0) ∙ ap start_of m

    Ok : (b0 e : ℕ) → Private → State → Got Way → Type 0
    Ok b0 e k s g =
        Leaves z (start_of b0) k s (λ way s'. TurnOk z w names scope (start_of b0) u k s b0 p.used e (λ k1. Unit {0}) way s') g

    -- the test was computed
    test_ok : (b0 e : ℕ) (k : Private) (s s1 : State) → Fine z names scope u k s →
        (c : Comes z names scope (start_of b0) u k s (after code (start_of b0)) names1 r.result p.used s1 (λ k1. Unit {0})) →
        EndsAt z.tac.blocks (after code (start_of b0)) (Branch a (onward e) (backward b0)) → (b : Bool) →
        nat_eq (word_in c.private a) 0 ≡ not b →
        Ok b0 e k s (Gives (if b then breaks else goes_on) (outermost (length s.variables) s1))
    test_ok b0 e k s s1 fine c stood true test =
        let q = after code (start_of b0) in
        record {
          private = c.private;
          leads = leads-to z (start_of b0) k s q c.private s1 (Goes (stands z (start_of e) c.private s1)) c.leads
              (ahead-on z q a e b0 c.private s1 stood test);
          ok = tt;
          fine = fine-outer z names names1 scope r.result p.used c.private (length s.variables) s1 x.under
              (holds-length z names scope s.variables u.temps k fine.holds) c.fine;
          keeps = c.keeps;
          fewer = c.fewer;
        }
    test_ok b0 e k s s1 fine c stood false test =
        let q = after code (start_of b0) in
        record {
          private = c.private;
          none = λ none. leads-to z (start_of b0) k s q c.private s1 (Stops (More s1.out)) c.leads
              (back-none z q a e b0 c.private s1 stood test none);
          some = λ l some. leads-to z (start_of b0) k s q c.private s1 (Goes (stands z (start_of b0) c.private (record s1 { left = l })))
              c.leads (back-some z q a e b0 c.private s1 l stood test some);
          ok = tt;
          fine = fine-outer z names names1 scope r.result p.used c.private (length s.variables) s1 x.under
              (holds-length z names scope s.variables u.temps k fine.holds) c.fine;
          keeps = c.keeps;
          fewer = c.fewer;
        }

    ends_so : (b0 e : ℕ) → HasAt z.tac.blocks e (start_of b0) inner → e ≡ b0 + count_ends inner →
        EndsAt z.tac.blocks (after code (start_of b0)) (Branch a (onward e) (backward b0))
    ends_so b0 e has is_end =
        let q = after code (start_of b0) in
        let h = (has-back z.tac.blocks e (start_of b0) code back_item has).0 in
        let to : suc q.block ≡ e = omega (arith, is_end, after-block code (start_of b0), inner-count) in
        let back : q.block - count_ends code ≡ b0 = omega (arith, after-block code (start_of b0)) in
        subst (λ m. EndsAt z.tac.blocks q (Branch a (onward e) (backward m))) back
        (subst (λ m. EndsAt z.tac.blocks q (Branch a (onward m) (backward (q.block - count_ends code)))) to h)

    -- the statements were done
    second : (b0 e : ℕ) → EndsAt z.tac.blocks (after code (start_of b0)) (Branch a (onward e) (backward b0)) →
        (k : Private) (s s1 : State) →
        Fine z names scope u k s →
        (c : Comes z names scope (start_of b0) u k s (after r.code (start_of b0)) names1 r.result r.used s1 (λ k1. Unit {0})) →
        (g : Got Value) →
        Leaves z (after r.code (start_of b0)) c.private s1 (λ v s'. Comes z names1 r.result (after r.code (start_of b0)) r.used c.private s1
        (after p.code (after r.code (start_of b0))) names1 r.result p.used s' (λ k1. Means z the_value of r.result p.used p.result k1 v))
        g →
        Ok b0 e k s (scoped s (next g (λ v s4. Gives (if is_true v then breaks else goes_on) s4)))
    second b0 e stood k s s1 fine c (Ends f) h = leads-to z (start_of b0) k s (after r.code (start_of b0)) c.private s1 (Stops f) c.leads h
    second b0 e stood k s s1 fine c (Gives v s2) d =
        let q1 = after r.code (start_of b0) in
        let here : after p.code q1 ≡ after code (start_of b0) = sym (after-append r.code p.code (start_of b0)) in
        let on : Leads z (start_of b0) k s (after code (start_of b0)) d.private s2 =
        subst (λ q. Leads z (start_of b0) k s q d.private s2) here
        (leads-to z (start_of b0) k s q1 c.private s1 (Goes (stands z (after p.code q1) d.private s2)) c.leads d.leads) in
        test_ok b0 e k s s2 fine (record {
          private = d.private;
          leads = on;
          ok = tt;
          fine = d.fine;
          keeps = keeps-then scope r.result u r.used k c.private d.private x.grown x.over c.keeps d.keeps;
          fewer = omega (arith, c.fewer, d.fewer);
        }) stood (is_true v) (tested z of r.result p.used p.result d.private v (is_true v) d.ok refl)

    first : (b0 e : ℕ) → HasAt z.tac.blocks e (start_of b0) inner → e ≡ b0 + count_ends inner → Grown p.used (whole z) →
        (k : Private) (s : State) →
        Fine z names scope u k s → s.left < n → (g : Got Way) →
        Leaves z (start_of b0) k s (λ way s'. WayOk z (in_loop w) names scope (start_of b0) u k s (after r.code (start_of b0)) names1
        r.result r.used e way s') g →
        Ok b0 e k s (scoped s
        (next g (λ way s2. along way s2 (λ s3. next (go2 s3) (λ v s4. Gives (if is_true v then breaks else goes_on) s4)))))
    first b0 e has is_end whole_ k s fine less (Ends f) h = h
    first b0 e has is_end whole_ k s fine less (Gives goes_on s1) c =
        let start = start_of b0 in
        let inside = has-front z.tac.blocks e start code back_item has in
        second b0 e (ends_so b0 e has is_end) k s s1 fine c (go2 s1)
        (y.run e (after r.code start) c.private s1 (has-back z.tac.blocks e start r.code p.code inside) whole_ c.fine tt
        (omega (arith, less, c.fewer)))
    first b0 e has is_end whole_ k s fine less (Gives breaks s1) d =
        comes-later z names names scope scope (start_of b0) (start_of e) u r.used p.used k s (outermost (length s.variables) s1)
        y.grown.temps d.1
    first b0 e has is_end whole_ k s fine less (Gives (gives_back v) s1) d = record {
      to = d.to;
      private = d.private;
      leads = d.leads;
      sized = d.sized;
      fewer = d.fewer;
      is_value = d.is_value;
      lawful = d.lawful;
    }

    round_ok : (b0 e : ℕ) → HasAt z.tac.blocks e (start_of b0) inner → e ≡ b0 + count_ends inner → Grown p.used (whole z) →
        (k : Private) (s : State) → Fine z names scope u k s → s.left < n → Ok b0 e k s (round s)
    round_ok b0 e has is_end whole_ k s fine less =
        let start = start_of b0 in
        first b0 e has is_end whole_ k s fine less (go s)
        (x.run e start k s (has-front z.tac.blocks e start r.code p.code (has-front z.tac.blocks e start code back_item has))
        (grown-then r.used p.used (whole z) y.grown whole_) fine less)
