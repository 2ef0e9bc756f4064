-- Loops: rounds of code do what the rounds of the meaning do, and each that goes on counts once.
use Rattle.std.proofs.Common.{◌≡◌, ℕ, zero, suc, ◌<◌, ◌≤◌, List, [], ◌∷◌, length, refl, ap, ◌∙◌, subst, arith}
use Rattle.tl_base.specs.declared.ids.TypeId.{TypeId}
use Rattle.terra_words.specs.Runs.{More}
use Rattle.terra_term.specs.declared.lists.TypedName.{TypedName}
use Rattle.terra_term.specs.WellTyped.{Within}
use Rattle.terra_meaning.specs.Running.{Held, held, lies, Variable, State, Got, Gives, Ends, next, scoped, need_more, counted_from}
use Rattle.terra_meaning.specs.Meaning.{Way, goes_on, breaks, gives_back, turned, rounds}
use Rattle.tac_form.specs.declared.tac.Exit.TheVariants.{Jump}
use Rattle.tac_form.specs.Flow as flow
use Rattle.tac_form.specs.Flow.{Moved, Goes, Stops, steps}
use Rattle.tac_lower.specs.Items.{backward}
use Rattle.tac_lower.specs.Pieces.{Used, Holder, in_temp, at_offset, Holders}
pub use Rattle.tac_lower.specs.Needs.{in_loop}
use Rattle.tac_lower.proofs.Places.{Point, start_of, EndsAt}
use Rattle.tac_lower.proofs.Standing.{Setting, Private, stands, Leads, Halts, leads-to, one-end, Is, below, Holds, Fine, Keeps, Grown}
use Rattle.tac_lower.proofs.Standing.{Comes, Leaves}
use Rattle.tac_lower.proofs.Simulates.{grown-none, comes-before}
use Rattle.tac_lower.proofs.Acts.{Under, under-self, holds-length, fine-outer, Returns, WayOk, way-before}

-- what a round's code leads to: where the loop goes back, behind the loop, or to the caller
abbrev pub RoundOk : Setting → Within → List TypedName → Holders → Point → Used → Private → State → Point → Used → (out : ℕ) → Way →
    State → Type 0
RoundOk z w names scope at u k s to u' out goes_on s' = Comes z names scope at u k s to names scope u' s' (λ k1. Unit {0})
RoundOk z w names scope at u k s to u' out breaks s' = Comes z names scope at u k s (start_of out) names scope u' s' (λ k1. Unit {0})
RoundOk z w names scope at u k s to u' out (gives_back v) s' = Returns z w at k s v s'

-- a stretch of code before a round's
pub round-before : (z : Setting) (w : Within) (names : List TypedName) (scope : Holders) (at at1 to : Point) (u u1 u2 : Used)
    (k k1 : Private) (s s1 : State) (out : ℕ) →
    Leads z at k s at1 k1 s1 → Grown u u1 → Keeps scope u k k1 → s1.left ≤ s.left → (g : Got Way) →
    Leaves z at1 k1 s1 (λ way s'. RoundOk z w names scope at1 u1 k1 s1 to u2 out way s') g →
    Leaves z at k s (λ way s'. RoundOk z w names scope at u k s to u2 out way s') g
round-before z w names scope at at1 to u u1 u2 k k1 s s1 out leads g keeps fewer (Ends e) h = leads-to z at k s at1 k1 s1 (Stops e) leads h
round-before z w names scope at at1 to u u1 u2 k k1 s s1 out leads g keeps fewer (Gives goes_on s2) d =
    comes-before z names names names scope scope scope at at1 to u u1 u2 k k1 s s1 s2 (λ k2. Unit {0}) leads g
    (λ t lt away. away) keeps fewer d
round-before z w names scope at at1 to u u1 u2 k k1 s s1 out leads g keeps fewer (Gives breaks s2) d =
    comes-before z names names names scope scope scope at at1 (start_of out) u u1 u2 k k1 s s1 s2 (λ k2. Unit {0}) leads g
    (λ t lt away. away) keeps fewer d
round-before z w names scope at at1 to u u1 u2 k k1 s s1 out leads g keeps fewer (Gives (gives_back v) s2) d = record {
  to = d.to;
  private = d.private;
  leads = leads-to z at k s at1 k1 s1 (flow.give z.program v z.callers (stands z d.to d.private s2)) leads d.leads;
  sized = d.sized;
  fewer = omega (arith, fewer, d.fewer);
  is_value = d.is_value;
  lawful = d.lawful;
}

-- statements in a scope of their own, as a round
pub scoped-round : (z : Setting) (w : Within) (names names1 : List TypedName) (scope scope1 : Holders) (at to : Point) (u u1 : Used)
    (k : Private) (s : State) (out : ℕ) → Fine z names scope u k s →
    Under names scope names1 scope1 → (g : Got Way) →
    Leaves z at k s (λ way s'. WayOk z (in_loop w) names scope at u k s to names1 scope1 u1 out way s') g →
    Leaves z at k s (λ way s'. RoundOk z w names scope at u k s to u1 out way s') (scoped s g)
scoped-round z w names names1 scope scope1 at to u u1 k s out fine under (Ends e) h = h
scoped-round z w names names1 scope scope1 at to u u1 k s out fine under (Gives goes_on s1) c = record {
  private = c.private;
  leads = c.leads;
  ok = tt;
  fine = fine-outer z names names1 scope scope1 u1 c.private (length s.variables) s1 under
      (holds-length z names scope s.variables u.temps k fine.holds) c.fine;
  keeps = c.keeps;
  fewer = c.fewer;
}
scoped-round z w names names1 scope scope1 at to u u1 k s out fine under (Gives breaks s1) d = d.1
scoped-round z w names names1 scope scope1 at to u u1 k s out fine under (Gives (gives_back v) s1) d = record {
  to = d.to;
  private = d.private;
  leads = d.leads;
  sized = d.sized;
  fewer = d.fewer;
  is_value = d.is_value;
  lawful = d.lawful;
}

-- the temporaries of a scope's variables are below the same number in each state
is-again : (z : Setting) (of : TypeId) (b : Holder) (v v' : Held) (l l' : ℕ) (k k' : Private) → Is z of b v l k → Is z of b v' l' k' →
    Is z of b v' l k'
is-again z of (in_temp t) (held w) (held w') l l' k k' h g = (h.0, g.1, g.2)
is-again z of (at_offset o) (lies a) (lies a') l l' k k' h g = g
is-again z of (in_temp t) v (lies a) l l' k k' h g = absurd g
is-again z of (in_temp t) (lies a) (held w) l l' k k' h g = absurd h
is-again z of (at_offset o) v (held w) l l' k k' h g = absurd g
is-again z of (at_offset o) (held w) (lies a) l l' k k' h g = absurd h

pub holds-again : (z : Setting) (names : List TypedName) (scope : Holders) (vs vs' : List Variable) (l l' : ℕ) (k k' : Private) →
    Holds z names scope vs l k → Holds z names scope vs' l' k' → Holds z names scope vs' l k'
holds-again z [] [] [] [] l l' k k' h g = tt
holds-again z (x ∷ xs) (b ∷ bs) (v ∷ vs) (v' ∷ vs') l l' k k' h g = (
  g.0,
  g.1,
  is-again z x.of b.holder v.is v'.is l l' k k' h.2 g.2,
  holds-again z xs bs vs vs' (below b.holder l) (below b.holder l') k k' h.3 g.3,
)
holds-again z [] [] [] (v' ∷ vs') l l' k k' h g = absurd g
holds-again z [] [] (v ∷ vs) vs' l l' k k' h g = absurd h
holds-again z [] (b ∷ bs) vs vs' l l' k k' h g = absurd h
holds-again z (x ∷ xs) [] vs vs' l l' k k' h g = absurd h
holds-again z (x ∷ xs) (b ∷ bs) [] vs' l l' k k' h g = absurd h
holds-again z (x ∷ xs) (b ∷ bs) (v ∷ vs) [] l l' k k' h g = absurd g

pub fine-again : (z : Setting) (names : List TypedName) (scope : Holders) (u u' : Used) (k k' : Private) (s s' : State) →
    Fine z names scope u k s → Fine z names scope u' k' s' → Fine z names scope u k' s'
fine-again z names scope u u' k k' s s' a b = record {
  holds = holds-again z names scope s.variables s'.variables u.temps u'.temps k k' a.holds b.holds;
  small = b.small;
  sized = b.sized;
}

-- the way back, which counts
pub back-none : (z : Setting) (back : Point) (to : ℕ) (k : Private) (s : State) → EndsAt z.tac.blocks back (Jump (backward to)) →
    s.left ≡ zero → Halts z back k s (More s.out)
back-none z back to k s h e = (
  1,
  one-end z back k s (Jump (backward to)) h
      ∙ ap (λ l. flow.counted l (stands z back k s) (λ s'. Goes (record s' { here = record s'.here { block = to; at = 0 } }))) e,
)

pub back-one : (z : Setting) (back : Point) (to : ℕ) (k : Private) (s : State) (l : ℕ) → EndsAt z.tac.blocks back (Jump (backward to)) →
    s.left ≡ suc l →
    Leads z back k s (start_of to) k (record s { left = l })
back-one z back to k s l h e = (
  1,
  one-end z back k s (Jump (backward to)) h
      ∙ ap (λ m. flow.counted m (stands z back k s) (λ s'. Goes (record s' { here = record s'.here { block = to; at = 0 } }))) e,
)

-- Where a round goes on: the run ends where nothing is left of the count, and else the loop begins again.
pub record Turns (z : Setting) (names : List TypedName) (scope : Holders) (at : Point) (u : Used) (k : Private) (s : State)
    (b0 : ℕ) (u' : Used) (s' : State) (Then : Private → Type 0) : Type 0 where
  pub private : Private
  pub none : s'.left ≡ zero → Halts z at k s (More s'.out)
  pub some : (l : ℕ) → s'.left ≡ suc l → Leads z at k s (start_of b0) private (record s' { left = l })
  pub ok : Then private
  pub fine : Fine z names scope u' private s'
  pub keeps : Keeps scope u k private
  pub fewer : s'.left ≤ s.left

-- what a round's code leads to: the loop's begin, behind the loop, or the caller
abbrev pub TurnOk : Setting → Within → List TypedName → Holders → Point → Used → Private → State → (b0 : ℕ) → Used → (out : ℕ) →
    (Private → Type 0) → Way → State → Type 0
TurnOk z w names scope at u k s b0 u' out Then goes_on s' = Turns z names scope at u k s b0 u' s' Then
TurnOk z w names scope at u k s b0 u' out Then breaks s' =
    Comes z names scope at u k s (start_of out) names scope u' s' (λ k1. Unit {0})
TurnOk z w names scope at u k s b0 u' out Then (gives_back v) s' = Returns z w at k s v s'

-- a round whose code comes to the way back
pub turn-of-round : (z : Setting) (w : Within) (names : List TypedName) (scope : Holders) (at back : Point) (u u' : Used)
    (k : Private) (s : State) (b0 out : ℕ) → EndsAt z.tac.blocks back (Jump (backward b0)) → (g : Got Way) →
    Leaves z at k s (λ way s'. RoundOk z w names scope at u k s back u' out way s') g →
    Leaves z at k s (λ way s'. TurnOk z w names scope at u k s b0 u' out (λ k1. Unit {0}) way s') g
turn-of-round z w names scope at back u u' k s b0 out stood (Ends e) h = h
turn-of-round z w names scope at back u u' k s b0 out stood (Gives goes_on s1) c = record {
  private = c.private;
  none = λ e. leads-to z at k s back c.private s1 (Stops (More s1.out)) c.leads (back-none z back b0 c.private s1 stood e);
  some = λ l e. leads-to z at k s back c.private s1 (Goes (stands z (start_of b0) c.private (record s1 { left = l }))) c.leads
      (back-one z back b0 c.private s1 l stood e);
  ok = tt;
  fine = c.fine;
  keeps = c.keeps;
  fewer = c.fewer;
}
turn-of-round z w names scope at back u u' k s b0 out stood (Gives breaks s1) c = c
turn-of-round z w names scope at back u u' k s b0 out stood (Gives (gives_back v) s1) d = d

-- rounds of a number, which goes on from one to the next
abbrev pub numbered : ℕ → (ℕ → State → Got Way) → (ℕ → ℕ) → ℕ → State → Got Way
numbered zero round on i s = need_more s
numbered (suc n) round on i s = next (round i s) (λ way s'. turned way s' (numbered n round on (on i)))

-- rounds of code that stands at the begin of a block
pub numbered_ways : (z : Setting) (w : Within) (names : List TypedName) (scope : Holders) (n b0 e out : ℕ) (u u' : Used)
    (round : ℕ → State → Got Way) (on : ℕ → ℕ) (Before : ℕ → Private → Type 0) → Grown u u' →
    ((i : ℕ) (k : Private) (s : State) → Fine z names scope u k s → Before i k → s.left < n →
    Leaves z (start_of b0) k s (λ way s'. TurnOk z w names scope (start_of b0) u k s b0 u' e (Before (on i)) way s') (round i s)) →
    (m i : ℕ) (k : Private) (s : State) → Fine z names scope u k s → Before i k → s.left < n → s.left < m →
    Leaves z (start_of b0) k s (λ way s'. WayOk z w names scope (start_of b0) u k s (start_of e) names scope u' out way s')
    (numbered m round on i s)
numbered_ways z w names scope n b0 e out u u' round on Before g ok zero i k s fine before less lt = absurd (omega (arith, lt))
numbered_ways z w names scope n b0 e out u u' round on Before g ok (suc m) i k s fine before less lt =
    by (round i s) (ok i k s fine before less) (λ k1 s1 fine1 before1 less1 lt1.
    numbered_ways z w names scope n b0 e out u u' round on Before g ok m (on i) k1 s1 fine1 before1 less1 lt1)
  where
    start : Point
    start = start_of b0

    End : (k1 : Private) (s1 : State) → Got Way → Type 0
    End k1 s1 got = Leaves z start k1 s1 (λ way s'. WayOk z w names scope start u k1 s1 (start_of e) names scope u' out way s') got

    More' : Type 0
    More' = (k1 : Private) (s1 : State) → Fine z names scope u k1 s1 → Before (on i) k1 → s1.left < n → s1.left < m →
        End k1 s1 (numbered m round on (on i) s1)

    turn : (s1 : State) → Turns z names scope start u k s b0 u' s1 (Before (on i)) → More' → (l : ℕ) → s1.left ≡ l →
        End k s (counted_from l s1 (numbered m round on (on i)))
    turn s1 c more zero same = c.none same
    turn s1 c more (suc l) same =
        let s2 : State = record s1 { left = l } in
        let fine1 : Fine z names scope u' c.private s2 = record { holds = c.fine.holds; small = c.fine.small; sized = c.fine.sized } in
        let fine2 : Fine z names scope u c.private s2 = fine-again z names scope u u' k c.private s s2 fine fine1 in
        let fewer : suc l ≤ s.left = subst (λ m. m ≤ s.left) same c.fewer in
        way-before z w names names names scope scope scope start start (start_of e) u u u' k c.private s s2 out (c.some l same)
        (grown-none u) (λ t away lt1. lt1) (under-self names scope) c.keeps (omega (arith, fewer)) fine fine2
        (numbered m round on (on i) s2)
        (more c.private s2 fine2 c.ok (omega (arith, fewer, less)) (omega (arith, fewer, lt)))

    by : (got : Got Way) →
        Leaves z start k s (λ way s'. TurnOk z w names scope start u k s b0 u' e (Before (on i)) way s') got → More' →
        End k s (next got (λ way s'. turned way s' (numbered m round on (on i))))
    by (Ends r) h more = h
    by (Gives goes_on s1) c more = turn s1 c more s1.left refl
    by (Gives breaks s1) c more = c
    by (Gives (gives_back v) s1) d more = d

-- what follows a round is told otherwise
turned-same : (way : Way) (s : State) (go go' : State → Got Way) → ((s1 : State) → go s1 ≡ go' s1) → turned way s go ≡ turned way s go'
turned-same goes_on s go go' e = by s.left
  where
    by : (l : ℕ) → counted_from l s go ≡ counted_from l s go'
    by zero = refl
    by (suc l) = e (record s { left = l })
turned-same breaks s go go' e = refl
turned-same (gives_back v) s go go' e = refl

pub next-turned : (got : Got Way) (go go' : State → Got Way) → ((s1 : State) → go s1 ≡ go' s1) →
    next got (λ way s'. turned way s' go) ≡ next got (λ way s'. turned way s' go')
next-turned (Gives way s1) go go' e = turned-same way s1 go go' e
next-turned (Ends r) go go' e = refl

numbered-rounds : (m i : ℕ) (round : State → Got Way) (s : State) → numbered m (λ j. round) (λ j. j) i s ≡ rounds m round s
numbered-rounds zero i round s = refl
numbered-rounds (suc m) i round s =
    next-turned (round s) (numbered m (λ j. round) (λ j. j) i) (rounds m round) (λ s1. numbered-rounds m i round s1)

pub rounds_ways : (z : Setting) (w : Within) (names : List TypedName) (scope : Holders) (n b0 e out : ℕ) (u u' : Used)
    (round : State → Got Way) → Grown u u' →
    ((k : Private) (s : State) → Fine z names scope u k s → s.left < n →
    Leaves z (start_of b0) k s (λ way s'. TurnOk z w names scope (start_of b0) u k s b0 u' e (λ k1. Unit {0}) way s') (round s)) →
    (m : ℕ) (k : Private) (s : State) → Fine z names scope u k s → s.left < n → s.left < m →
    Leaves z (start_of b0) k s (λ way s'. WayOk z w names scope (start_of b0) u k s (start_of e) names scope u' out way s')
    (rounds m round s)
rounds_ways z w names scope n b0 e out u u' round g ok m k s fine less lt =
    subst
    (λ got. Leaves z (start_of b0) k s (λ way s'. WayOk z w names scope (start_of b0) u k s (start_of e) names scope u' out way s') got)
    (numbered-rounds m 0 round s)
    (numbered_ways z w names scope n b0 e out u u' (λ j. round) (λ j. j) (λ j k1. Unit {0}) g
    (λ j k1 s1 fine1 before less1. ok k1 s1 fine1 less1) m 0 k s fine tt less lt)
