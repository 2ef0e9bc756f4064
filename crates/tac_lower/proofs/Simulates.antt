-- A piece of code does what a part of the meaning does; and one such after the other.
use Rattle.std.proofs.Common.{◌≡◌, ℕ, ◌<◌, ◌≤◌, List, [], ◌∷◌, ◌++◌, length, refl, sym, ap, ◌∙◌, subst, arith, append_assoc, append-nil}
use Rattle.std.proofs.Common.{length-append}
use Rattle.tl_base.specs.declared.ids.TypeId.{TypeId}
use Rattle.terra_words.specs.Runs.{Value, word, bytes}
use Rattle.terra_term.specs.declared.lists.TypedName.{TypedName}
use Rattle.terra_meaning.specs.Running.{State, Got, Gives, Ends, next}
use Rattle.terra_meaning.specs.Meaning.{Wanted, the_value, the_address}
use Rattle.tac_form.specs.declared.tac.Operand.TheVariants.{Temp, Constant}
use Rattle.tac_form.specs.Flow.{Goes, Stops}
use Rattle.tac_lower.specs.Pieces.{Used, Piece, then_piece, Result, a_word, an_area, an_offset, Holders}
use Rattle.tac_lower.specs.Lowering.{Target, to_temp, to_place}
use Rattle.tac_lower.proofs.Places.{Point, after, after-append, HasAt, has-front, has-back}
use Rattle.tac_lower.proofs.Standing.{Setting, Private, stands, Leads, leads-to, value_in, Apart, Fine, Keeps, Grown, Own, Means, Comes}
use Rattle.tac_lower.proofs.Standing.{Leaves}

-- what is known of results, and kept by later code
pub data Fact : Type 0 where
  nothing : Fact
  one_of : Wanted → TypeId → Result → Value → Fact
  all_of : List TypeId → List Result → List Value → Fact
  aims : List TypeId → List Target → List Value → Fact

abbrev pub AllMean : Setting → Holders → Used → List TypeId → List Result → List Value → Private → Type 0
AllMean z scope u [] [] [] k = Unit {0}
AllMean z scope u (t ∷ ts) (r ∷ rs) (v ∷ vs) k = Means z the_value t scope u r k v × AllMean z scope u ts rs vs k
AllMean z scope u _ _ _ k = ⊥

-- the target of an assignment, and the address at which it lies if it has one
abbrev pub Aims : Setting → Holders → Used → TypeId → Target → Value → Private → Type 0
Aims z scope u t (to_temp d) v k = Unit {0}
Aims z scope u t (to_place r) v k = Means z the_address t scope u r k v

abbrev pub AllAim : Setting → Holders → Used → List TypeId → List Target → List Value → Private → Type 0
AllAim z scope u [] [] [] k = Unit {0}
AllAim z scope u (t ∷ ts) (p ∷ ps) (v ∷ vs) k = Aims z scope u t p v k × AllAim z scope u ts ps vs k
AllAim z scope u _ _ _ k = ⊥

abbrev pub Knows : Setting → Holders → Used → Fact → Private → Type 0
Knows z scope u nothing k = Unit {0}
Knows z scope u (one_of want of r v) k = Means z want of scope u r k v
Knows z scope u (all_of ts rs vs) k = AllMean z scope u ts rs vs k
Knows z scope u (aims ts ps vs) k = AllAim z scope u ts ps vs k

abbrev pub KnowsAll : Setting → Holders → Used → List Fact → Private → Type 0
KnowsAll z scope u [] k = Unit {0}
KnowsAll z scope u (f ∷ fs) k = Knows z scope u f k × KnowsAll z scope u fs k

-- all of a function
abbrev pub whole : Setting → Used
whole z = record { temps = z.tac.temps; areas = z.tac.areas }

-- temporaries of no variable of one scope are of none of another's
abbrev pub Over : Holders → Used → Holders → Type 0
Over scope u scope' = (t : ℕ) → t < u.temps → Apart t scope → Apart t scope'

-- A piece of code, in a scope and with this known, does what a part of the meaning does where less than n is left of the count.
pub record Sim {A B : Type 0} (z : Setting) (n : ℕ) (names : List TypedName) (scope : Holders) (facts : List Fact) (u : Used)
    (r : Piece A) (go : State → Got B) (names' : List TypedName) (scope' : Holders) (post : B → Fact) : Type 0 where
  pub grown : Grown u r.used
  pub over : Over scope u scope'
  pub run : (out : ℕ) (at : Point) (k : Private) (s : State) → HasAt z.tac.blocks out at r.code → Grown r.used (whole z) →
      Fine z names scope u k s → KnowsAll z scope u facts k → s.left < n →
      Leaves z at k s (λ b s'. Comes z names scope at u k s (after r.code at) names' scope' r.used s' (Knows z scope' r.used (post b)))
      (go s)

pub grown-none : (u : Used) → Grown u u
grown-none u = record { temps = omega arith; areas = ([], sym (append-nil u.areas)) }

pub grown-then : (u v w : Used) → Grown u v → Grown v w → Grown u w
grown-then u v w a b = record {
  temps = omega (arith, a.temps, b.temps);
  areas = (a.areas.0 ++ b.areas.0, b.areas.1 ∙ ap (λ l. l ++ b.areas.0) a.areas.1 ∙ append_assoc u.areas a.areas.0 b.areas.0);
}

pub grown-areas : (u v : Used) → Grown u v → length u.areas ≤ length v.areas
grown-areas u v g =
    let e = ap length g.areas.1 ∙ length-append u.areas g.areas.0 in
    omega (arith, e)

pub keeps-none : (scope : Holders) (u : Used) (k : Private) → Keeps scope u k k
keeps-none scope u k = record { temps = λ t h a. refl; areas = λ n h. refl }

pub keeps-then : (scope scope' : Holders) (u v : Used) (a b c : Private) → Grown u v → Over scope u scope' → Keeps scope u a b →
    Keeps scope' v b c → Keeps scope u a c
keeps-then scope scope' u v a b c g over x y = record {
  temps = λ t h away. y.temps t (omega (arith, h, g.temps)) (over t h away) ∙ x.temps t h away;
  areas = λ n h. y.areas n (omega (arith, h, grown-areas u v g)) ∙ x.areas n h;
}

-- what is known stays known

own-later : (scope scope' : Holders) (u v : Used) (r : Result) → Grown u v → Over scope u scope' → Own scope u r → Own scope' v r
own-later scope scope' u v (a_word (Temp t)) g over h = (omega (arith, h.0, g.temps), over t h.0 h.1)
own-later scope scope' u v (a_word (Constant c)) g over h = tt
own-later scope scope' u v (an_area n) g over h = omega (arith, h, grown-areas u v g)
own-later scope scope' u v (an_offset o) g over h = tt

value-kept : (z : Setting) (scope : Holders) (u : Used) (k k' : Private) (r : Result) → Own scope u r → Keeps scope u k k' →
    value_in z k' r ≡ value_in z k r
value-kept z scope u k k' (a_word (Temp t)) h x = ap word (x.temps t h.0 h.1)
value-kept z scope u k k' (a_word (Constant c)) h x = refl
value-kept z scope u k k' (an_area n) h x = ap bytes (x.areas n h)
value-kept z scope u k k' (an_offset o) h x = refl

pub means-later : (z : Setting) (want : Wanted) (of : TypeId) (scope scope' : Holders) (u v : Used) (r : Result) (k k' : Private)
    (x : Value) →
    Grown u v → Over scope u scope' → Keeps scope u k k' → Means z want of scope u r k x → Means z want of scope' v r k' x
means-later z want of scope scope' u v r k k' x g over keeps m = record {
  is = value-kept z scope u k k' r m.own keeps ∙ m.is;
  own = own-later scope scope' u v r g over m.own;
  good = m.good;
}

all-later : (z : Setting) (scope scope' : Holders) (u v : Used) (k k' : Private) → Grown u v → Over scope u scope' → Keeps scope u k k' →
    (ts : List TypeId) (rs : List Result) (vs : List Value) → AllMean z scope u ts rs vs k → AllMean z scope' v ts rs vs k'
all-later z scope scope' u v k k' g over keeps [] [] [] h = tt
all-later z scope scope' u v k k' g over keeps (t ∷ ts) (r ∷ rs) (x ∷ xs) h =
    (means-later z the_value t scope scope' u v r k k' x g over keeps h.0, all-later z scope scope' u v k k' g over keeps ts rs xs h.1)
all-later z scope scope' u v k k' g over keeps [] [] (x ∷ xs) h = absurd h
all-later z scope scope' u v k k' g over keeps [] (r ∷ rs) xs h = absurd h
all-later z scope scope' u v k k' g over keeps (t ∷ ts) [] xs h = absurd h
all-later z scope scope' u v k k' g over keeps (t ∷ ts) (r ∷ rs) [] h = absurd h

aims-later : (z : Setting) (scope scope' : Holders) (u v : Used) (k k' : Private) → Grown u v → Over scope u scope' → Keeps scope u k k' →
    (t : TypeId) (p : Target) (x : Value) → Aims z scope u t p x k → Aims z scope' v t p x k'
aims-later z scope scope' u v k k' g over keeps t (to_temp d) x h = tt
aims-later z scope scope' u v k k' g over keeps t (to_place r) x h = means-later z the_address t scope scope' u v r k k' x g over keeps h

all-aim-later : (z : Setting) (scope scope' : Holders) (u v : Used) (k k' : Private) → Grown u v → Over scope u scope' →
    Keeps scope u k k' → (ts : List TypeId) (ps : List Target) (vs : List Value) → AllAim z scope u ts ps vs k →
    AllAim z scope' v ts ps vs k'
all-aim-later z scope scope' u v k k' g over keeps [] [] [] h = tt
all-aim-later z scope scope' u v k k' g over keeps (t ∷ ts) (p ∷ ps) (x ∷ xs) h =
    (aims-later z scope scope' u v k k' g over keeps t p x h.0, all-aim-later z scope scope' u v k k' g over keeps ts ps xs h.1)
all-aim-later z scope scope' u v k k' g over keeps [] [] (x ∷ xs) h = absurd h
all-aim-later z scope scope' u v k k' g over keeps [] (p ∷ ps) xs h = absurd h
all-aim-later z scope scope' u v k k' g over keeps (t ∷ ts) [] xs h = absurd h
all-aim-later z scope scope' u v k k' g over keeps (t ∷ ts) (p ∷ ps) [] h = absurd h

knows-later : (z : Setting) (scope scope' : Holders) (u v : Used) (k k' : Private) → Grown u v → Over scope u scope' → Keeps scope u k k' →
    (f : Fact) → Knows z scope u f k → Knows z scope' v f k'
knows-later z scope scope' u v k k' g over keeps nothing h = tt
knows-later z scope scope' u v k k' g over keeps (one_of want of r x) h = means-later z want of scope scope' u v r k k' x g over keeps h
knows-later z scope scope' u v k k' g over keeps (all_of ts rs vs) h = all-later z scope scope' u v k k' g over keeps ts rs vs h
knows-later z scope scope' u v k k' g over keeps (aims ts ps vs) h = all-aim-later z scope scope' u v k k' g over keeps ts ps vs h

pub facts-later : (z : Setting) (scope scope' : Holders) (u v : Used) (k k' : Private) → Grown u v → Over scope u scope' →
    Keeps scope u k k' →
    (fs : List Fact) → KnowsAll z scope u fs k → KnowsAll z scope' v fs k'
facts-later z scope scope' u v k k' g over keeps [] h = tt
facts-later z scope scope' u v k k' g over keeps (f ∷ fs) h =
    (knows-later z scope scope' u v k k' g over keeps f h.0, facts-later z scope scope' u v k k' g over keeps fs h.1)

-- a stretch of code before another
pub comes-before : (z : Setting) (names names1 names2 : List TypedName) (scope scope1 scope2 : Holders) (at at1 at2 : Point)
    (u u1 u2 : Used)
    (k k1 : Private) (s s1 s2 : State) (Ok : Private → Type 0) → Leads z at k s at1 k1 s1 → Grown u u1 → Over scope u scope1 →
    Keeps scope u k k1 → s1.left ≤ s.left → Comes z names1 scope1 at1 u1 k1 s1 at2 names2 scope2 u2 s2 Ok →
    Comes z names scope at u k s at2 names2 scope2 u2 s2 Ok
comes-before z names names1 names2 scope scope1 scope2 at at1 at2 u u1 u2 k k1 s s1 s2 Ok leads g over keeps fewer c = record {
  private = c.private;
  leads = leads-to z at k s at1 k1 s1 (Goes (stands z at2 c.private s2)) leads c.leads;
  ok = c.ok;
  fine = c.fine;
  keeps = keeps-then scope scope1 u u1 k k1 c.private g over keeps c.keeps;
  fewer = omega (arith, fewer, c.fewer);
}

-- where code ends after two pieces
pub comes-at : (z : Setting) (names names' : List TypedName) (scope scope' : Holders) (at to to' : Point) (u u' : Used) (k : Private)
    (s s' : State)
    (Ok : Private → Type 0) → to ≡ to' → Comes z names scope at u k s to names' scope' u' s' Ok →
    Comes z names scope at u k s to' names' scope' u' s' Ok
comes-at z names names' scope scope' at to to' u u' k s s' Ok e c =
    subst (λ p. Comes z names scope at u k s p names' scope' u' s' Ok) e c

-- one piece and then another
pub then_sim : {A B C D : Type 0} {z : Setting} {n : ℕ} {names names1 names2 : List TypedName} {scope scope1 scope2 : Holders}
    {facts : List Fact}
    {u : Used} {r : Piece A} {go : State → Got B} {mid : B → Fact} {post : D → Fact} (more : A → Used → Piece C) (go2 : B → State → Got D)
    (b0 : B) →
    Sim z n names scope facts u r go names1 scope1 mid →
    ((b : B) → Sim z n names1 scope1 (mid b ∷ facts) r.used (more r.result r.used) (go2 b) names2 scope2 post) →
    Sim z n names scope facts u (then_piece r more) (λ s. next (go s) go2) names2 scope2 post
then_sim {A} {B} {C} {D} {z} {n} {names} {names1} {names2} {scope} {scope1} {scope2} {facts} {u} {r} {go} {mid} {post} more go2 b0 x y =
    record {
      grown = grown-then u r.used (more r.result r.used).used x.grown (y b0).grown;
      over = λ t h away. (y b0).over t (omega (arith, h, x.grown.temps)) (x.over t h away);
      run = λ out at k s has whole_ fine knows less.
          second out at k s has whole_ fine knows less (go s)
          (x.run out at k s (has-front z.tac.blocks out at r.code q.code has) (grown-then r.used q.used (whole z) (y b0).grown whole_) fine
          knows less);
    }
  where
    q : Piece C
    q = more r.result r.used

    third : (out : ℕ) (at : Point) (k : Private) (s : State) (b : B) (s1 : State)
        (c : Comes z names scope at u k s (after r.code at) names1 scope1 r.used s1 (Knows z scope1 r.used (mid b))) (g : Got D) →
        Leaves z (after r.code at) c.private s1 (λ d s'. Comes z names1 scope1 (after r.code at) r.used c.private s1
        (after q.code (after r.code at)) names2 scope2 q.used s' (Knows z scope2 q.used (post d))) g →
        Leaves z at k s (λ d s'. Comes z names scope at u k s (after (r.code ++ q.code) at) names2 scope2 q.used s'
        (Knows z scope2 q.used (post d))) g
    third out at k s b s1 c (Ends e) h = leads-to z at k s (after r.code at) c.private s1 (Stops e) c.leads h
    third out at k s b s1 c (Gives d s2) h =
        comes-at z names names2 scope scope2 at (after q.code (after r.code at)) (after (r.code ++ q.code) at) u q.used k s s2
        (Knows z scope2 q.used (post d)) (sym (after-append r.code q.code at))
        (comes-before z names names1 names2 scope scope1 scope2 at (after r.code at) (after q.code (after r.code at)) u r.used q.used k
        c.private s s1 s2
        (Knows z scope2 q.used (post d)) c.leads x.grown x.over c.keeps c.fewer h)

    second : (out : ℕ) (at : Point) (k : Private) (s : State) → HasAt z.tac.blocks out at (r.code ++ q.code) → Grown q.used (whole z) →
        Fine z names scope u k s → KnowsAll z scope u facts k → s.left < n → (g : Got B) →
        Leaves z at k s (λ b s'. Comes z names scope at u k s (after r.code at) names1 scope1 r.used s' (Knows z scope1 r.used (mid b))) g →
        Leaves z at k s (λ d s'. Comes z names scope at u k s (after (r.code ++ q.code) at) names2 scope2 q.used s'
        (Knows z scope2 q.used (post d))) (next g go2)
    second out at k s has whole_ fine knows less (Ends e) h = h
    second out at k s has whole_ fine knows less (Gives b s1) c =
        third out at k s b s1 c (go2 b s1)
        ((y b).run out (after r.code at) c.private s1 (has-back z.tac.blocks out at r.code q.code has) whole_ c.fine
        (c.ok, facts-later z scope scope1 u r.used k c.private x.grown x.over c.keeps facts knows)
        (omega (arith, less, c.fewer)))
