-- Code of statements does what the meaning's do: it goes on, leaves the loop around, or gives the function's value.
use Rattle.std.proofs.Common.{◌≡◌, ℕ, suc, ◌+◌, ◌<◌, ◌≤◌, true, false, List, [], ◌∷◌, ◌++◌, length, drop, refl, sym, ap, ◌∙◌, subst, arith}
use Rattle.std.proofs.Common.{append_assoc, length-append}
use Rattle.std.specs.Prelude.{◌-◌}
use Rattle.std.proofs.lemmas.List.{length-drop, drop-drop}
use Rattle.terra_words.specs.Runs.{Value}
use Rattle.terra_term.specs.declared.lists.TypedName.{TypedName}
use Rattle.terra_term.specs.WellTyped.{Within}
use Rattle.terra_meaning.specs.Values.{IsValue}
use Rattle.terra_meaning.specs.Running.{Variable, State, Got, Gives, Ends, next, scoped}
use Rattle.terra_meaning.specs.Meaning.{Way, goes_on, breaks, gives_back, along}
use Rattle.tac_form.specs.Flow as flow
use Rattle.tac_form.specs.Flow.{Moved, Goes, Stops, steps}
use Rattle.tac_lower.specs.Pieces.{Used, Piece, known, then_piece, taken, Holders}
use Rattle.tac_lower.proofs.Places.{Point, start_of, after, after-append, HasAt, has-front, has-back}
use Rattle.tac_lower.proofs.Standing.{Setting, Private, stands, Leads, leads-to, below, Holds, Fine, Keeps, Grown, Comes, Leaves}
use Rattle.tac_lower.proofs.Simulates.{whole, Over, grown-none, grown-then, keeps-none, keeps-then, comes-before}
use Rattle.tac_lower.proofs.Writes.{holds-later, below-le}

-- the outermost variables
abbrev pub outermost : ℕ → State → State
outermost n s = record s { variables = drop (length s.variables - n) s.variables }

-- a scope under another
pub record Under (names : List TypedName) (scope : Holders) (names' : List TypedName) (scope' : Holders) : Type 0 where
  pub ns : List TypedName
  pub bs : Holders
  pub names_are : names' ≡ ns ++ names
  pub scope_is : scope' ≡ bs ++ scope
  pub long : length ns ≡ length bs

pub under-self : (names : List TypedName) (scope : Holders) → Under names scope names scope
under-self names scope = record { ns = []; bs = []; names_are = refl; scope_is = refl; long = refl }

pub under-then : (a b c : List TypedName) (p q r : Holders) → Under a p b q → Under b q c r → Under a p c r
under-then a b c p q r x y = record {
  ns = y.ns ++ x.ns;
  bs = y.bs ++ x.bs;
  names_are = y.names_are ∙ ap (λ l. y.ns ++ l) x.names_are ∙ sym (append_assoc y.ns x.ns a);
  scope_is = y.scope_is ∙ ap (λ l. y.bs ++ l) x.scope_is ∙ sym (append_assoc y.bs x.bs p);
  long = omega (arith, x.long, y.long, length-append y.ns x.ns, length-append y.bs x.bs);
}

pub holds-length : (z : Setting) (names : List TypedName) (scope : Holders) (vs : List Variable) (l : ℕ) (k : Private) →
    Holds z names scope vs l k → length vs ≡ length scope
holds-length z [] [] [] l k h = refl
holds-length z (x ∷ xs) (b ∷ bs) (v ∷ vs) l k h = ap suc (holds-length z xs bs vs (below b.holder l) k h.3)
holds-length z [] [] (v ∷ vs) l k h = absurd h
holds-length z [] (b ∷ bs) vs l k h = absurd h
holds-length z (x ∷ xs) [] vs l k h = absurd h
holds-length z (x ∷ xs) (b ∷ bs) [] l k h = absurd h

holds-under : (z : Setting) (ns names : List TypedName) (bs scope : Holders) (vs : List Variable) (l : ℕ) (k : Private) →
    length ns ≡ length bs →
    Holds z (ns ++ names) (bs ++ scope) vs l k → Holds z names scope (drop (length ns) vs) l k
holds-under z [] names [] scope vs l k e h = h
holds-under z (x ∷ ns) names (b ∷ bs) scope (v ∷ vs) l k e h =
    holds-later z names scope (drop (length ns) vs) (below b.holder l) l k k (below-le z x.of b.holder v.is l k h.2) (λ t lt. refl)
    (holds-under z ns names bs scope vs (below b.holder l) k (omega (arith, e)) h.3)
holds-under z [] names (b ∷ bs) scope vs l k e h = absurd (omega (arith, e))
holds-under z (x ∷ ns) names [] scope vs l k e h = absurd (omega (arith, e))
holds-under z (x ∷ ns) names (b ∷ bs) scope [] l k e h = absurd h

-- a scope is left
pub fine-outer : (z : Setting) (names names' : List TypedName) (scope scope' : Holders) (u : Used) (k : Private) (n : ℕ) (s : State) →
    Under names scope names' scope' →
    n ≡ length scope → Fine z names' scope' u k s → Fine z names scope u k (outermost n s)
fine-outer z names names' scope scope' u k n s x e fine =
    let h = subst (λ a. Holds z a scope' s.variables u.temps k) x.names_are fine.holds in
    let h' = subst (λ b. Holds z (x.ns ++ names) b s.variables u.temps k) x.scope_is h in
    let long = holds-length z names' scope' s.variables u.temps k fine.holds in
    let deep : length s.variables - n ≡ length x.ns = omega (arith, long, ap length x.scope_is, length-append x.bs scope, x.long, e) in
    record {
      holds = subst (λ m. Holds z names scope (drop m s.variables) u.temps k) (sym deep)
          (holds-under z x.ns names x.bs scope s.variables u.temps k x.long h');
      small = fine.small;
      sized = fine.sized;
    }

outer-outer : (vs : List Variable) (n m : ℕ) → n ≤ m → length (drop (length vs - m) vs) ≡ m →
    drop (length (drop (length vs - m) vs) - n) (drop (length vs - m) vs) ≡ drop (length vs - n) vs
outer-outer vs n m le e =
    let long = length-drop (length vs - m) vs in
    let add : (length vs - m) + (m - n) ≡ length vs - n = omega (arith, le, e, long) in
    ap (λ l. drop (l - n) (drop (length vs - m) vs)) e
    ∙ drop-drop (m - n) (length vs - m) vs
    ∙ ap (λ l. drop l vs) add

-- what follows a value that is given back
pub record Returns (z : Setting) (w : Within) (at : Point) (k : Private) (s : State) (v : Value) (s' : State) : Type 0 where
  pub to : Point
  pub private : Private
  pub leads : (j : ℕ) × (steps z.program j (Goes (stands z at k s)) ≡ flow.give z.program v z.callers (stands z to private s'))
  pub sized : length s'.region.bytes ≡ z.memory
  pub fewer : s'.left ≤ s.left
  pub is_value : IsValue z.types w.result v
  pub lawful : w.in_let ≡ false

-- what a statement's code leads to, by the way in which the meaning ends
abbrev pub WayOk : Setting → Within → List TypedName → Holders → Point → Used → Private → State → Point → List TypedName → Holders →
    Used → (out : ℕ) → Way → State → Type 0
WayOk z w names scope at u k s to names' scope' u' out goes_on s' = Comes z names scope at u k s to names' scope' u' s' (λ k1. Unit {0})
WayOk z w names scope at u k s to names' scope' u' out breaks s' =
    (w.in_loop ≡ true) × Comes z names scope at u k s (start_of out) names scope u' (outermost (length s.variables) s') (λ k1. Unit {0})
WayOk z w names scope at u k s to names' scope' u' out (gives_back v) s' = Returns z w at k s v s'

-- The code of statements does what a part of the meaning does where less than n is left of the count.
pub record Acts (z : Setting) (n : ℕ) (w : Within) (names : List TypedName) (scope : Holders) (u : Used) (r : Piece Holders)
    (go : State → Got Way) (names' : List TypedName) : Type 0 where
  pub grown : Grown u r.used
  pub over : Over scope u r.result
  pub under : Under names scope names' r.result
  pub run : (out : ℕ) (at : Point) (k : Private) (s : State) → HasAt z.tac.blocks out at r.code → Grown r.used (whole z) →
      Fine z names scope u k s → s.left < n →
      Leaves z at k s (λ way s'. WayOk z w names scope at u k s (after r.code at) names' r.result r.used out way s') (go s)

pub fine-later : (z : Setting) (names : List TypedName) (scope : Holders) (u u' : Used) (k : Private) (s : State) → u.temps ≤ u'.temps →
    Fine z names scope u k s → Fine z names scope u' k s
fine-later z names scope u u' k s le fine = record {
  holds = holds-later z names scope s.variables u.temps u'.temps k k le (λ t lt. refl) fine.holds;
  small = fine.small;
  sized = fine.sized;
}

-- a stretch of code before statements
pub way-before : (z : Setting) (w : Within) (names names1 names2 : List TypedName) (scope scope1 scope2 : Holders) (at at1 to : Point)
    (u u1 u2 : Used) (k k1 : Private) (s s1 : State) (out : ℕ) →
    Leads z at k s at1 k1 s1 → Grown u u1 → Over scope u scope1 → Under names scope names1 scope1 → Keeps scope u k k1 → s1.left ≤ s.left →
    Fine z names scope u k s → Fine z names1 scope1 u1 k1 s1 → (g : Got Way) →
    Leaves z at1 k1 s1 (λ way s'. WayOk z w names1 scope1 at1 u1 k1 s1 to names2 scope2 u2 out way s') g →
    Leaves z at k s (λ way s'. WayOk z w names scope at u k s to names2 scope2 u2 out way s') g
way-before z w names names1 names2 scope scope1 scope2 at at1 to u u1 u2 k k1 s s1 out leads g over under keeps fewer fine fine1
    (Ends e) h =
    leads-to z at k s at1 k1 s1 (Stops e) leads h
way-before z w names names1 names2 scope scope1 scope2 at at1 to u u1 u2 k k1 s s1 out leads g over under keeps fewer fine fine1
    (Gives goes_on s2) d =
    comes-before z names names1 names2 scope scope1 scope2 at at1 to u u1 u2 k k1 s s1 s2 (λ k2. Unit {0}) leads g over keeps fewer d
way-before z w names names1 names2 scope scope1 scope2 at at1 to u u1 u2 k k1 s s1 out leads g over under keeps fewer fine fine1
    (Gives breaks s2) d =
    let c = d.1 in
    let n = holds-length z names scope s.variables u.temps k fine.holds in
    let m = holds-length z names1 scope1 s1.variables u1.temps k1 fine1.holds in
    let inner = holds-length z names1 scope1 (drop (length s2.variables - length s1.variables) s2.variables) u2.temps c.private
    c.fine.holds in
    let le : length s.variables ≤ length s1.variables = omega (arith, n, m, ap length under.scope_is, length-append under.bs scope) in
    let outer = fine-outer z names names1 scope scope1 u2 c.private (length s.variables) (outermost (length s1.variables) s2) under n
    c.fine in (
      d.0,
      record {
        private = c.private;
        leads = leads-to z at k s at1 k1 s1 (Goes (stands z (start_of out) c.private s2)) leads c.leads;
        ok = tt;
        fine = subst (λ vs. Fine z names scope u2 c.private (record s2 { variables = vs }))
            (outer-outer s2.variables (length s.variables) (length s1.variables) le (inner ∙ sym m)) outer;
        keeps = keeps-then scope scope1 u u1 k k1 c.private g over keeps c.keeps;
        fewer = omega (arith, fewer, c.fewer);
      },
    )
way-before z w names names1 names2 scope scope1 scope2 at at1 to u u1 u2 k k1 s s1 out leads g over under keeps fewer fine fine1
    (Gives (gives_back v) s2) d = record {
      to = d.to;
      private = d.private;
      leads = leads-to z at k s at1 k1 s1 (flow.give z.program v z.callers (stands z d.to d.private s2)) leads d.leads;
      sized = d.sized;
      fewer = omega (arith, fewer, d.fewer);
      is_value = d.is_value;
      lawful = d.lawful;
    }

-- where code ends after two pieces, and what is used then
pub way-at : (z : Setting) (w : Within) (names names' : List TypedName) (scope scope' : Holders) (at to to' : Point) (u u' : Used)
    (k : Private) (s : State) (out : ℕ) → to ≡ to' →
    (g : Got Way) → Leaves z at k s (λ way s'. WayOk z w names scope at u k s to names' scope' u' out way s') g →
    Leaves z at k s (λ way s'. WayOk z w names scope at u k s to' names' scope' u' out way s') g
way-at z w names names' scope scope' at to to' u u' k s out e g h =
    subst (λ p. Leaves z at k s (λ way s'. WayOk z w names scope at u k s p names' scope' u' out way s') g) e h

pub comes-later : (z : Setting) (names names' : List TypedName) (scope scope' : Holders) (at to : Point) (u u' v : Used) (k : Private)
    (s s' : State) → u'.temps ≤ v.temps →
    Comes z names scope at u k s to names' scope' u' s' (λ k1. Unit {0}) → Comes z names scope at u k s to names' scope' v s'
    (λ k1. Unit {0})
comes-later z names names' scope scope' at to u u' v k s s' le c = record {
  private = c.private;
  leads = c.leads;
  ok = tt;
  fine = fine-later z names' scope' u' v c.private s' le c.fine;
  keeps = c.keeps;
  fewer = c.fewer;
}

-- no statements
pub acts_none : {z : Setting} {n : ℕ} {w : Within} {names : List TypedName} {scope : Holders} (u : Used) →
    Acts z n w names scope u (known scope u) (λ s. Gives goes_on s) names
acts_none {z} {n} {w} {names} {scope} u = record {
  grown = grown-none u;
  over = λ t lt away. away;
  under = under-self names scope;
  run = λ out at k s has whole_ fine less. record {
    private = k;
    leads = (0, refl);
    ok = tt;
    fine = fine;
    keeps = keeps-none scope u k;
    fewer = omega arith;
  };
}

-- a statement, and those behind it
pub acts_then : {z : Setting} {n : ℕ} {w : Within} {names names1 names2 : List TypedName} {scope : Holders} {u : Used} {r : Piece Holders}
    {go : State → Got Way}
    (more : Holders → Used → Piece Holders) (go2 : State → Got Way) → Acts z n w names scope u r go names1 →
    Acts z n w names1 r.result r.used (more r.result r.used) go2 names2 →
    Acts z n w names scope u (then_piece r more) (λ s. next (go s) (λ way s'. along way s' go2)) names2
acts_then {z} {n} {w} {names} {names1} {names2} {scope} {u} {r} {go} more go2 x y = record {
  grown = grown-then u r.used q.used x.grown y.grown;
  over = λ t lt away. y.over t (omega (arith, lt, x.grown.temps)) (x.over t lt away);
  under = under-then names names1 names2 scope r.result q.result x.under y.under;
  run = λ out at k s has whole_ fine less.
      second out at k s has whole_ fine less (go s)
      (x.run out at k s (has-front z.tac.blocks out at r.code q.code has) (grown-then r.used q.used (whole z) y.grown whole_) fine less);
}
  where
    q : Piece Holders
    q = more r.result r.used

    second : (out : ℕ) (at : Point) (k : Private) (s : State) → HasAt z.tac.blocks out at (r.code ++ q.code) → Grown q.used (whole z) →
        Fine z names scope u k s → s.left < n → (g : Got Way) →
        Leaves z at k s (λ way s'. WayOk z w names scope at u k s (after r.code at) names1 r.result r.used out way s') g →
        Leaves z at k s (λ way s'. WayOk z w names scope at u k s (after (r.code ++ q.code) at) names2 q.result q.used out way s')
        (next g (λ way s'. along way s' go2))
    second out at k s has whole_ fine less (Ends e) h = h
    second out at k s has whole_ fine less (Gives goes_on s1) c =
        way-at z w names names2 scope q.result at (after q.code (after r.code at)) (after (r.code ++ q.code) at) u q.used k s out
        (sym (after-append r.code q.code at)) (go2 s1)
        (way-before z w names names1 names2 scope r.result q.result at (after r.code at) (after q.code (after r.code at)) u r.used q.used
        k c.private s s1 out
        c.leads x.grown x.over x.under c.keeps c.fewer fine c.fine (go2 s1)
        (y.run out (after r.code at) c.private s1 (has-back z.tac.blocks out at r.code q.code has) whole_ c.fine
        (omega (arith, less, c.fewer))))
    second out at k s has whole_ fine less (Gives breaks s1) c = (
      c.0,
      comes-later z names names scope scope at (start_of out) u r.used q.used k s (outermost (length s.variables) s1)
          y.grown.temps c.1,
    )
    second out at k s has whole_ fine less (Gives (gives_back v) s1) c = c

-- a scope of its own
pub scoped-ways : (z : Setting) (w : Within) (names names1 : List TypedName) (scope scope1 : Holders) (at to : Point) (u u1 : Used)
    (k : Private) (s : State) (out : ℕ) → Fine z names scope u k s →
    Under names scope names1 scope1 → (g : Got Way) →
    Leaves z at k s (λ way s'. WayOk z w names scope at u k s to names1 scope1 u1 out way s') g →
    Leaves z at k s (λ way s'. WayOk z w names scope at u k s to names scope u1 out way s') (scoped s g)
scoped-ways z w names names1 scope scope1 at to u u1 k s out fine under (Ends e) h = h
scoped-ways z w names names1 scope scope1 at to u u1 k s out fine under (Gives goes_on s1) c = record {
  private = c.private;
  leads = c.leads;
  ok = tt;
  fine = fine-outer z names names1 scope scope1 u1 c.private (length s.variables) s1 under
      (holds-length z names scope s.variables u.temps k fine.holds) c.fine;
  keeps = c.keeps;
  fewer = c.fewer;
}
scoped-ways z w names names1 scope scope1 at to u u1 k s out fine under (Gives breaks s1) d =
    let c = d.1 in
    let n = holds-length z names scope s.variables u.temps k fine.holds in
    let inner = holds-length z names scope (drop (length s1.variables - length s.variables) s1.variables) u1.temps c.private c.fine.holds
    in (
      d.0,
      record {
        private = c.private;
        leads = c.leads;
        ok = tt;
        fine = subst (λ vs. Fine z names scope u1 c.private (record s1 { variables = vs }))
            (sym (outer-outer s1.variables (length s.variables) (length s.variables) (omega arith) (inner ∙ sym n))) c.fine;
        keeps = c.keeps;
        fewer = c.fewer;
      },
    )
scoped-ways z w names names1 scope scope1 at to u u1 k s out fine under (Gives (gives_back v) s1) d = record {
  to = d.to;
  private = d.private;
  leads = d.leads;
  sized = d.sized;
  fewer = d.fewer;
  is_value = d.is_value;
  lawful = d.lawful;
}

pub acts_scoped : {z : Setting} {n : ℕ} {w : Within} {names names1 : List TypedName} {scope : Holders} {u : Used} {r : Piece Holders}
    {go : State → Got Way} →
    Acts z n w names scope u r go names1 → Acts z n w names scope u (taken (λ inner. scope) r) (λ s. scoped s (go s)) names
acts_scoped {z} {n} {w} {names} {names1} {scope} {u} {r} {go} x = record {
  grown = x.grown;
  over = λ t lt away. away;
  under = under-self names scope;
  run = λ out at k s has whole_ fine less.
      scoped-ways z w names names1 scope r.result at (after r.code at) u r.used k s out fine x.under (go s)
      (x.run out at k s has whole_ fine less);
}
