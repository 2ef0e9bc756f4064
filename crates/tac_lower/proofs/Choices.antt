-- `if` with `else`, `repeat`, and the statements of a `let`.
use Rattle.std.proofs.Common.{◌≡◌, ℕ, suc, ◌+◌, ◌<◌, ◌≤◌, Bool, true, false, List, [], ◌∷◌, ◌++◌, length, refl, sym, ap, ◌∙◌, subst, arith}
use Rattle.std.specs.Prelude.{not, nat_eq, if◌then◌else◌}
use Rattle.tl_base.specs.declared.ids.TypeId.{TypeId}
use Rattle.terra_words.specs.Runs.{Value, is_true}
use Rattle.terra_term.specs.declared.lists.TypedName.{TypedName}
use Rattle.terra_term.specs.WellTyped.{Within}
use Rattle.terra_meaning.specs.Running.{State, Got, Gives, Ends, next, scoped}
use Rattle.terra_meaning.specs.Meaning.{Wanted, the_value, Way, goes_on, breaks, gives_back}
use Rattle.tac_form.specs.declared.tac.Operand.{Operand}
use Rattle.tac_form.specs.declared.tac.Operand.TheVariants.{Temp, Constant}
use Rattle.tac_form.specs.Flow.{Goes, Stops}
use Rattle.tac_lower.specs.Items.{Item, ends, skips, count_ends}
use Rattle.tac_lower.specs.Pieces.{Used, Piece, then_piece, Result, a_word, an_area, an_offset, word_of, Holders}
use Rattle.tac_lower.specs.Lowering.{choice}
pub use Rattle.tac_lower.specs.Needs.{in_let}
use Rattle.tac_lower.proofs.Places.{Point, start_of, after, after-append, after-block, HasAt, has-front, has-back}
use Rattle.tac_lower.proofs.Standing.{Setting, Private, stands, Leads, leads-to, word_in, Apart, Fine, Grown, Own, Means, Comes, Leaves}
use Rattle.tac_lower.proofs.Simulates.{Fact, one_of, whole, Sim, grown-none, grown-then, keeps-then}
use Rattle.tac_lower.proofs.Acts.{outermost, Under, under-self, holds-length, fine-outer, fine-later, WayOk, Acts, way-at, scoped-ways}
use Rattle.tac_lower.proofs.Acts.{comes-later}
use Rattle.tac_lower.proofs.Branches.{value_ways, jumps, branches, way-on, way-from, tested}

-- more is used behind
way-later : (z : Setting) (w : Within) (names : List TypedName) (scope : Holders) (at to : Point) (u u' v : Used) (k : Private)
    (s : State) (out : ℕ) → u'.temps ≤ v.temps → (g : Got Way) →
    Leaves z at k s (λ way s'. WayOk z w names scope at u k s to names scope u' out way s') g →
    Leaves z at k s (λ way s'. WayOk z w names scope at u k s to names scope v out way s') g
way-later z w names scope at to u u' v k s out le (Ends e) h = h
way-later z w names scope at to u u' v k s out le (Gives goes_on s1) c = comes-later z names names scope scope at to u u' v k s s1 le c
way-later z w names scope at to u u' v k s out le (Gives breaks s1) c =
    (c.0, comes-later z names names scope scope at (start_of out) u u' v k s (outermost (length s.variables) s1) le c.1)
way-later z w names scope at to u u' v k s out le (Gives (gives_back x) s1) c = c

choice-after : (a : Operand) (one other : List Item) (q : Point) →
    after (choice a one other) q ≡ start_of (suc (after other (start_of (suc (after one (start_of (suc q.block))).block))).block)
choice-after a one other q =
    let start = start_of (suc q.block) in
    after-append one (ends (skips (suc (count_ends other))) ∷ (other ++ ends (skips 0) ∷ [])) start
    ∙ after-append other (ends (skips 0) ∷ []) (start_of (suc (after one start).block))

pub acts_choice : {z : Setting} {n : ℕ} {w : Within} {names names1 names2 : List TypedName} {scope : Holders} {u : Used}
    {p : Piece Result} {r1 r2 : Piece Holders} {go : State → Got Value} {go1 go2 : State → Got Way} (of : TypeId) →
    Sim z n names scope [] u p go names scope (λ v. one_of the_value of p.result v) → Acts z n w names scope p.used r1 go1 names1 →
    Acts z n w names scope r1.used r2 go2 names2 →
    Acts z n w names scope u (record { result = scope; code = p.code ++ choice (word_of p.result) r1.code r2.code; used = r2.used })
    (λ s. next (go s) (λ v s'. scoped s' (if is_true v then go1 s' else go2 s'))) names
acts_choice {z} {n} {w} {names} {names1} {names2} {scope} {u} {p} {r1} {r2} {go} {go1} {go2} of x y1 y2 = record {
  grown = grown-then u p.used r2.used x.grown (grown-then p.used r1.used r2.used y1.grown y2.grown);
  over = λ t lt away. away;
  under = under-self names scope;
  run = λ out at k s has whole_ fine less.
      let q = after p.code at in
      let has2 = has-back z.tac.blocks out at p.code code has in
      let done : after code q ≡ after (p.code ++ code) at = sym (after-append p.code code at) in
      value_ways w x names scope r2.used out at (after (p.code ++ code) at) k s (has-front z.tac.blocks out at p.code code has)
      (grown-then p.used r2.used (whole z) (grown-then p.used r1.used r2.used y1.grown y2.grown) whole_) fine less
      (λ v s'. scoped s' (if is_true v then go1 s' else go2 s')) (λ v k1 s1 fine1 knows fewer.
      way-at z w names names scope scope q (after code q) (after (p.code ++ code) at) p.used r2.used k1 s1 out done
      (scoped s1 (if is_true v then go1 s1 else go2 s1))
      (by out q k1 s1 has2 whole_ fine1 (omega (arith, less, fewer)) (is_true v)
      (tested z of scope p.used p.result k1 v (is_true v) knows refl)));
}
  where
    a : Operand
    a = word_of p.result

    code : List Item
    code = choice a r1.code r2.code

    behind : List Item
    behind = r2.code ++ ends (skips 0) ∷ []

    by : (out : ℕ) (q : Point) (k : Private) (s : State) → HasAt z.tac.blocks out q code → Grown r2.used (whole z) →
        Fine z names scope p.used k s → s.left < n →
        (b : Bool) → nat_eq (word_in k a) 0 ≡ not b →
        Leaves z q k s (λ way s'. WayOk z w names scope q p.used k s (after code q) names scope r2.used out way s')
        (scoped s (if b then go1 s else go2 s))
    by out q k s has whole_ fine less true e =
        let start = start_of (suc q.block) in
        let mid = after r1.code start in
        let has1 = has-back z.tac.blocks out start r1.code (ends (skips (suc (count_ends r2.code))) ∷ behind) has.1 in
        let n_end : suc mid.block + suc (count_ends r2.code) ≡ suc (after r2.code (start_of (suc mid.block))).block = omega
        (arith, after-block r2.code (start_of (suc mid.block))) in
        let done : start_of (suc mid.block + suc (count_ends r2.code)) ≡ after code q = ap start_of n_end ∙ sym
        (choice-after a r1.code r2.code q) in
        way-later z w names scope q (after code q) p.used r1.used r2.used k s out y2.grown.temps (scoped s (go1 s))
        (way-from z w names names scope scope q start (after code q) p.used p.used r1.used k s out (grown-none p.used)
        (branches z q k s a (suc q.block) (suc q.block + suc (count_ends r1.code)) false has.0 e) fine fine (scoped s (go1 s))
        (way-on z w names names scope scope start mid (after code q) p.used r1.used k s out
        (λ k1 s1. subst (λ t. Leads z mid k1 s1 t k1 s1) done (jumps z mid k1 s1 (suc mid.block + suc (count_ends r2.code)) has1.0))
        (scoped s (go1 s))
        (scoped-ways z w names names1 scope r1.result start mid p.used r1.used k s out fine y1.under (go1 s)
        (y1.run out start k s (has-front z.tac.blocks out start r1.code (ends (skips (suc (count_ends r2.code))) ∷ behind) has.1)
        (grown-then r1.used r2.used (whole z) y2.grown whole_) fine less))))
    by out q k s has whole_ fine less false e =
        let start = start_of (suc q.block) in
        let mid = after r1.code start in
        let has1 = has-back z.tac.blocks out start r1.code (ends (skips (suc (count_ends r2.code))) ∷ behind) has.1 in
        let other = start_of (suc mid.block) in
        let last = after r2.code other in
        let to : suc q.block + suc (count_ends r1.code) ≡ suc mid.block = omega (arith, after-block r1.code start) in
        let fine1 = fine-later z names scope p.used r1.used k s y1.grown.temps fine in
        let zero_on : suc last.block + 0 ≡ suc last.block = omega arith in
        way-from z w names names scope scope q other (after code q) p.used r1.used r2.used k s out y1.grown
        (subst (λ m. Leads z q k s (start_of m) k s) to
        (branches z q k s a (suc q.block) (suc q.block + suc (count_ends r1.code)) true has.0 e)) fine fine1 (scoped s (go2 s))
        (way-on z w names names scope scope other last (after code q) r1.used r2.used k s out
        (λ k1 s1. subst (λ t. Leads z last k1 s1 t k1 s1) (ap start_of zero_on ∙ sym (choice-after a r1.code r2.code q))
        (jumps z last k1 s1 (suc last.block + 0) (has-back z.tac.blocks out other r2.code (ends (skips 0) ∷ []) has1.1).0))
        (scoped s (go2 s))
        (scoped-ways z w names names2 scope r2.result other last r1.used r2.used k s out fine1 y2.under (go2 s)
        (y2.run out other k s (has-front z.tac.blocks out other r2.code (ends (skips 0) ∷ []) has1.1) whole_ fine1 less)))

apart-under : (bs scope : Holders) (t : ℕ) → Apart t (bs ++ scope) → Apart t scope
apart-under [] scope t h = h
apart-under (b ∷ bs) scope t h = apart-under bs scope t h.1

own-under : (names names1 : List TypedName) (scope scope1 : Holders) (u : Used) (r : Result) → Under names scope names1 scope1 →
    Own scope1 u r → Own scope u r
own-under names names1 scope scope1 u (a_word (Temp t)) x h = (h.0, apart-under x.bs scope t (subst (λ b. Apart t b) x.scope_is h.1))
own-under names names1 scope scope1 u (a_word (Constant c)) x h = tt
own-under names names1 scope scope1 u (an_area n) x h = h
own-under names names1 scope scope1 u (an_offset o) x h = tt

pub let_sim : {z : Setting} {n : ℕ} {names names1 : List TypedName} {scope : Holders} {facts : List Fact} {u : Used} {r : Piece Holders}
    {go : State → Got Way} (w : Within) (want : Wanted) (of : TypeId) (more : Holders → Used → Piece Result) (go2 : State → Got Value) →
    Acts z n (in_let w) names scope u r go names1 →
    Sim z n names1 r.result [] r.used (more r.result r.used) go2 names1 r.result (λ v. one_of want of (more r.result r.used).result v) →
    Sim z n names scope facts u (then_piece r more) (λ s. scoped s (next (go s) (λ way s'. go2 s'))) names scope
    (λ v. one_of want of (more r.result r.used).result v)
let_sim {z} {n} {names} {names1} {scope} {facts} {u} {r} {go} w want of more go2 x y = record {
  grown = grown-then u r.used q.used x.grown y.grown;
  over = λ t lt away. away;
  run = λ out at k s has whole_ fine knows less.
      second out at k s has whole_ fine less (go s)
      (x.run out at k s (has-front z.tac.blocks out at r.code q.code has) (grown-then r.used q.used (whole z) y.grown whole_) fine less);
}
  where
    q : Piece Result
    q = more r.result r.used

    third : (out : ℕ) (at : Point) (k : Private) (s s1 : State) → Fine z names scope u k s →
        (c : Comes z names scope at u k s (after r.code at) names1 r.result r.used s1 (λ k1. Unit {0})) → (g : Got Value) →
        Leaves z (after r.code at) c.private s1 (λ v s'. Comes z names1 r.result (after r.code at) r.used c.private s1
        (after q.code (after r.code at)) names1 r.result q.used s' (λ k1. Means z want of r.result q.used q.result k1 v)) g →
        Leaves z at k s (λ v s'. Comes z names scope at u k s (after (r.code ++ q.code) at) names scope q.used s'
        (λ k1. Means z want of scope q.used q.result k1 v)) (scoped s g)
    third out at k s s1 fine c (Ends e) h = leads-to z at k s (after r.code at) c.private s1 (Stops e) c.leads h
    third out at k s s1 fine c (Gives v s2) d = record {
      private = d.private;
      leads = leads-to z at k s (after r.code at) c.private s1 (Goes (stands z (after (r.code ++ q.code) at) d.private s2)) c.leads
          (subst (λ p. Leads z (after r.code at) c.private s1 p d.private s2) (sym (after-append r.code q.code at)) d.leads);
      ok = record { is = d.ok.is; own = own-under names names1 scope r.result q.used q.result x.under d.ok.own; good = d.ok.good };
      fine = fine-outer z names names1 scope r.result q.used d.private (length s.variables) s2 x.under
          (holds-length z names scope s.variables u.temps k fine.holds) d.fine;
      keeps = keeps-then scope r.result u r.used k c.private d.private x.grown x.over c.keeps d.keeps;
      fewer = omega (arith, c.fewer, d.fewer);
    }

    second : (out : ℕ) (at : Point) (k : Private) (s : State) → HasAt z.tac.blocks out at (r.code ++ q.code) → Grown q.used (whole z) →
        Fine z names scope u k s → s.left < n → (g : Got Way) →
        Leaves z at k s (λ way s'. WayOk z (in_let w) names scope at u k s (after r.code at) names1 r.result r.used out way s') g →
        Leaves z at k s (λ v s'. Comes z names scope at u k s (after (r.code ++ q.code) at) names scope q.used s'
        (λ k1. Means z want of scope q.used q.result k1 v)) (scoped s (next g (λ way s'. go2 s')))
    second out at k s has whole_ fine less (Ends e) h = h
    second out at k s has whole_ fine less (Gives goes_on s1) c =
        third out at k s s1 fine c (go2 s1)
        (y.run out (after r.code at) c.private s1 (has-back z.tac.blocks out at r.code q.code has) whole_ c.fine tt
        (omega (arith, less, c.fewer)))
    second out at k s has whole_ fine less (Gives breaks s1) c = absurd (grind (arith, c.0))
    second out at k s has whole_ fine less (Gives (gives_back v) s1) c = let bad : true ≡ false = c.lawful in absurd (grind (arith, bad))
