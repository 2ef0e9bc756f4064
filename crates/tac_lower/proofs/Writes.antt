-- What a write to a fresh temporary or area keeps, and pieces of one instruction.
use Rattle.std.proofs.Common.{◌≡◌, ◌≢◌, ℕ, suc, ◌<◌, ◌≤◌, false, List, [], ◌∷◌, ◌++◌, length, refl, sym, ap, ◌∙◌, subst, arith, append-nil}
use Rattle.std.proofs.Common.{length-append, ⊎_elim}
use Rattle.std.proofs.lemmas.Bool.{eq-eqb}
use Rattle.std.proofs.lemmas.Bool.Decides.{eqb_tells}
use Rattle.std.specs.Prelude.{nat_eq, if◌then◌else◌}
use Rattle.tl_base.specs.declared.ids.TypeId.{TypeId}
use Rattle.terra_words.specs.Runs.{Value, word, bytes}
use Rattle.terra_term.specs.declared.lists.TypedName.{TypedName}
use Rattle.terra_meaning.specs.Running.{Held, held, lies, Variable, State, Got, Gives, Ends, next}
use Rattle.terra_meaning.specs.Meaning.{Wanted}
use Rattle.tac_form.specs.declared.tac.Operand.TheVariants.{Temp}
use Rattle.tac_form.specs.declared.tac.Instruction.{Instruction}
use Rattle.tac_form.specs.Flow.{Goes, Stops, put, act, area_size}
use Rattle.tac_lower.specs.Pieces.{Used, with_temp, with_area, Piece, known, doing, taken, a_word, an_area, Holder, in_temp, at_offset}
use Rattle.tac_lower.specs.Pieces.{Holders}
use Rattle.tac_lower.proofs.Places.{Point, step_on, after, DoesAt}
use Rattle.tac_lower.proofs.Standing.{Setting, Private, stands, one-step, Elsewhere, Apart, Is, below, Holds, Fine, Grown, Good, Means}
use Rattle.tac_lower.proofs.Standing.{Comes, Leaves}
use Rattle.tac_lower.proofs.Simulates.{Fact, one_of, Knows, KnowsAll, whole, Over, Sim, grown-none, keeps-none, facts-later}

pub nat_eq-ne : (a b : ℕ) → a ≢ b → nat_eq a b ≡ false
nat_eq-ne a b ne = ⊎_elim (λ t. absurd (ne t.1)) (λ f. f.0) (eqb_tells a b)

pub put-same : {A : Type 0} → (all : ℕ → A) (d : ℕ) (x : A) → put all d x d ≡ x
put-same all d x = ap (λ b. if b then x else all d) (eq-eqb d d refl)

pub put-other : {A : Type 0} → (all : ℕ → A) (d : ℕ) (x : A) (t : ℕ) → t ≢ d → put all d x t ≡ all t
put-other all d x t ne = ap (λ b. if b then x else all t) (nat_eq-ne t d ne)

pub put-below : {A : Type 0} → (all : ℕ → A) (d : ℕ) (x : A) (t : ℕ) → t < d → put all d x t ≡ all t
put-below all d x t lt = let ne : t ≢ d = omega arith in put-other all d x t ne

abbrev pub with_word : ℕ → ℕ → Private → Private
with_word d x k = record k { temps = put k.temps d x }

abbrev pub with_bytes : ℕ → List ℕ → Private → Private
with_bytes n bs k = record k { areas = put k.areas n bs }

-- the variables in temporaries below a number stay where those temporaries do

pub is-later : (z : Setting) (of : TypeId) (b : Holder) (v : Held) (l l' : ℕ) (k k' : Private) → l ≤ l' →
    ((t : ℕ) → t < l → k'.temps t ≡ k.temps t) → Is z of b v l k → Is z of b v l' k'
is-later z of (in_temp t) (held w) l l' k k' le same h = (omega (arith, h.0, le), same t h.0 ∙ h.1, h.2)
is-later z of (at_offset o) (lies a) l l' k k' le same h = h
is-later z of (in_temp t) (lies a) l l' k k' le same h = absurd h
is-later z of (at_offset o) (held w) l l' k k' le same h = absurd h

pub below-le : (z : Setting) (of : TypeId) (b : Holder) (v : Held) (l : ℕ) (k : Private) → Is z of b v l k → below b l ≤ l
below-le z of (in_temp t) (held w) l k h = omega (arith, h.0)
below-le z of (at_offset o) v l k h = omega arith
below-le z of (in_temp t) (lies a) l k h = absurd h

below-mono : (b : Holder) (l l' : ℕ) → l ≤ l' → below b l ≤ below b l'
below-mono (in_temp t) l l' h = omega arith
below-mono (at_offset o) l l' h = h

pub holds-later : (z : Setting) (names : List TypedName) (scope : Holders) (vs : List Variable) (l l' : ℕ) (k k' : Private) → l ≤ l' →
    ((t : ℕ) → t < l → k'.temps t ≡ k.temps t) → Holds z names scope vs l k → Holds z names scope vs l' k'
holds-later z [] [] [] l l' k k' le same h = tt
holds-later z (x ∷ xs) (b ∷ bs) (v ∷ vs) l l' k k' le same h = (
  h.0,
  h.1,
  is-later z x.of b.holder v.is l l' k k' le same h.2,
  holds-later z xs bs vs (below b.holder l) (below b.holder l') k k' (below-mono b.holder l l' le)
      (λ t lt. same t (omega (arith, lt, below-le z x.of b.holder v.is l k h.2))) h.3,
)
holds-later z [] [] (v ∷ vs) l l' k k' le same h = absurd h
holds-later z [] (b ∷ bs) vs l l' k k' le same h = absurd h
holds-later z (x ∷ xs) [] vs l l' k k' le same h = absurd h
holds-later z (x ∷ xs) (b ∷ bs) [] l l' k k' le same h = absurd h

-- a temporary that isn't below is no variable's
pub fresh-apart : (z : Setting) (names : List TypedName) (scope : Holders) (vs : List Variable) (l t : ℕ) (k : Private) → l ≤ t →
    Holds z names scope vs l k → Apart t scope
fresh-apart z [] [] [] l t k le h = tt
fresh-apart z (x ∷ xs) (b ∷ bs) (v ∷ vs) l t k le h = (
  elsewhere b.holder v.is h.2,
  fresh-apart z xs bs vs (below b.holder l) t k (omega (arith, le, below-le z x.of b.holder v.is l k h.2)) h.3,
)
  where
    elsewhere : (holder : Holder) (is : Held) → Is z x.of holder is l k → Elsewhere t holder
    elsewhere (in_temp u) (held w) i = let lt : u < l = i.0 in omega (arith, lt, le)
    elsewhere (at_offset o) is i = tt
    elsewhere (in_temp u) (lies a) i = absurd i
fresh-apart z [] [] (v ∷ vs) l t k le h = absurd h
fresh-apart z [] (b ∷ bs) vs l t k le h = absurd h
fresh-apart z (x ∷ xs) [] vs l t k le h = absurd h
fresh-apart z (x ∷ xs) (b ∷ bs) [] l t k le h = absurd h

-- what an instruction keeps of the state
pub record Same (s s1 : State) : Type 0 where
  pub variables : s1.variables ≡ s.variables
  pub sized : length s1.region.bytes ≡ length s.region.bytes
  pub left : s1.left ≡ s.left

pub same-self : (s : State) → Same s s
same-self s = record { variables = refl; sized = refl; left = refl }

-- an instruction that puts a word into a temporary, beside what the meaning gives
pub record Puts (z : Setting) (want : Wanted) (of : TypeId) (at : Point) (k : Private) (s : State) (d : ℕ) (i : Instruction) (v : Value)
    (s1 : State) : Type 0 where
  pub word_put : ℕ
  pub moves : act z.program i (stands z at k s) ≡ Goes (stands z (step_on at) (with_word d word_put k) s1)
  pub is : word word_put ≡ v
  pub good : Good z want of (a_word (Temp d)) v
  pub same : Same s s1

abbrev pub PutsOr : Setting → Wanted → TypeId → Point → Private → State → ℕ → Instruction → Got Value → Type 0
PutsOr z want of at k s d i (Gives v s1) = Puts z want of at k s d i v s1
PutsOr z want of at k s d i (Ends r) = act z.program i (stands z at k s) ≡ Stops r

pub grown-temp : (u : Used) → Grown u (with_temp u)
grown-temp u = record { temps = omega arith; areas = ([], sym (append-nil u.areas)) }

pub fine-word : (z : Setting) (names : List TypedName) (scope : Holders) (u : Used) (k : Private) (s s1 : State) (x : ℕ) → Same s s1 →
    Fine z names scope u k s → Fine z names scope (with_temp u) (with_word u.temps x k) s1
fine-word z names scope u k s s1 x same fine = record {
  holds = subst (λ vs. Holds z names scope vs (suc u.temps) (with_word u.temps x k)) (sym same.variables)
      (holds-later z names scope s.variables u.temps (suc u.temps) k (with_word u.temps x k) (omega arith)
      (λ t lt. put-below k.temps u.temps x t lt) fine.holds);
  small = fine.small;
  sized = same.sized ∙ fine.sized;
}

pub puts_sim : {z : Setting} {n : ℕ} {names : List TypedName} {scope : Holders} {facts : List Fact} (u : Used) (want : Wanted)
    (of : TypeId) (i : Instruction) (go : State → Got Value) →
    ((at : Point) (k : Private) (s : State) → Fine z names scope u k s → KnowsAll z scope u facts k → PutsOr z want of at k s u.temps i
    (go s)) →
    Sim z n names scope facts u (doing (a_word (Temp u.temps)) i (with_temp u)) go names scope
    (λ v. one_of want of (a_word (Temp u.temps)) v)
puts_sim {z} {n} {names} {scope} {facts} u want of i go h = record {
  grown = grown-temp u;
  over = λ t lt away. away;
  run = λ out at k s has whole_ fine knows less. result at k s has.0 fine (go s) (h at k s fine knows);
}
  where
    result : (at : Point) (k : Private) (s : State) → DoesAt z.tac.blocks at i → Fine z names scope u k s → (g : Got Value) →
        PutsOr z want of at k s u.temps i g →
        Leaves z at k s (λ v s'. Comes z names scope at u k s (step_on at) names scope (with_temp u) s'
        (λ k1. Means z want of scope (with_temp u) (a_word (Temp u.temps)) k1 v)) g
    result at k s stood fine (Gives v s1) p = record {
      private = with_word u.temps p.word_put k;
      leads = (1, one-step z at k s i stood ∙ p.moves);
      ok = record {
        is = ap word (put-same k.temps u.temps p.word_put) ∙ p.is;
        own = (omega arith, fresh-apart z names scope s.variables u.temps u.temps k (omega arith) fine.holds);
        good = p.good;
      };
      fine = fine-word z names scope u k s s1 p.word_put p.same fine;
      keeps = record { temps = λ t lt away. put-below k.temps u.temps p.word_put t lt; areas = λ n lt. refl };
      fewer = omega (arith, p.same.left);
    }
    result at k s stood fine (Ends r) p = (1, one-step z at k s i stood ∙ p)

-- an instruction that puts bytes into an area, beside what the meaning gives
pub record Fills (z : Setting) (want : Wanted) (of : TypeId) (at : Point) (k : Private) (s : State) (n : ℕ) (i : Instruction) (v : Value)
    (s1 : State) : Type 0 where
  pub bytes_put : List ℕ
  pub moves : act z.program i (stands z at k s) ≡ Goes (stands z (step_on at) (with_bytes n bytes_put k) s1)
  pub is : bytes bytes_put ≡ v
  pub small : length bytes_put ≤ area_size z.tac n
  pub good : Good z want of (an_area n) v
  pub same : Same s s1

abbrev pub FillsOr : Setting → Wanted → TypeId → Point → Private → State → ℕ → Instruction → Got Value → Type 0
FillsOr z want of at k s n i (Gives v s1) = Fills z want of at k s n i v s1
FillsOr z want of at k s n i (Ends r) = act z.program i (stands z at k s) ≡ Stops r

pub grown-area : (size : ℕ) (u : Used) → Grown u (with_area size u)
grown-area size u = record { temps = omega arith; areas = (size ∷ [], refl) }

pub small-put : (z : Setting) (k : Private) (n : ℕ) (bs : List ℕ) → length bs ≤ area_size z.tac n →
    ((m : ℕ) → length (k.areas m) ≤ area_size z.tac m) →
    (m : ℕ) → length (put k.areas n bs m) ≤ area_size z.tac m
small-put z k n bs fits small m = ⊎_elim
    (λ t. subst (λ j. length (put k.areas n bs j) ≤ area_size z.tac j) (sym t.1)
    (subst (λ l. length l ≤ area_size z.tac n) (sym (put-same k.areas n bs)) fits))
    (λ f. subst (λ b. length (if b then bs else k.areas m) ≤ area_size z.tac m) (sym f.0) (small m))
    (eqb_tells m n)

pub fills_sim : {z : Setting} {n : ℕ} {names : List TypedName} {scope : Holders} {facts : List Fact} (u : Used) (want : Wanted)
    (of : TypeId) (size : ℕ) (i : Instruction) (go : State → Got Value) →
    ((at : Point) (k : Private) (s : State) → Grown (with_area size u) (whole z) → Fine z names scope u k s → KnowsAll z scope u facts k →
    FillsOr z want of at k s (length u.areas) i (go s)) →
    Sim z n names scope facts u (doing (an_area (length u.areas)) i (with_area size u)) go names scope
    (λ v. one_of want of (an_area (length u.areas)) v)
fills_sim {z} {n} {names} {scope} {facts} u want of size i go h = record {
  grown = grown-area size u;
  over = λ t lt away. away;
  run = λ out at k s has whole_ fine knows less. result at k s has.0 fine (go s) (h at k s whole_ fine knows);
}
  where
    longer : length u.areas < length (u.areas ++ size ∷ [])
    longer = omega (arith, length-append u.areas (size ∷ []))

    result : (at : Point) (k : Private) (s : State) → DoesAt z.tac.blocks at i → Fine z names scope u k s → (g : Got Value) →
        FillsOr z want of at k s (length u.areas) i g →
        Leaves z at k s (λ v s'. Comes z names scope at u k s (step_on at) names scope (with_area size u) s'
        (λ k1. Means z want of scope (with_area size u) (an_area (length u.areas)) k1 v)) g
    result at k s stood fine (Gives v s1) p = record {
      private = with_bytes (length u.areas) p.bytes_put k;
      leads = (1, one-step z at k s i stood ∙ p.moves);
      ok = record { is = ap bytes (put-same k.areas (length u.areas) p.bytes_put) ∙ p.is; own = longer; good = p.good };
      fine = record {
        holds = subst (λ vs. Holds z names scope vs u.temps (with_bytes (length u.areas) p.bytes_put k)) (sym p.same.variables)
            (holds-later z names scope s.variables u.temps u.temps k (with_bytes (length u.areas) p.bytes_put k) (omega arith)
            (λ t lt. refl) fine.holds);
        small = small-put z k (length u.areas) p.bytes_put p.small fine.small;
        sized = p.same.sized ∙ fine.sized;
      };
      keeps = record { temps = λ t lt away. refl; areas = λ m lt. put-below k.areas (length u.areas) p.bytes_put m lt };
      fewer = omega (arith, p.same.left);
    }
    result at k s stood fine (Ends r) p = (1, one-step z at k s i stood ∙ p)

-- an instruction that leaves what the call keeps for itself
pub record Passes (z : Setting) (at : Point) (k : Private) (s : State) (i : Instruction) (s1 : State) : Type 0 where
  pub moves : act z.program i (stands z at k s) ≡ Goes (stands z (step_on at) k s1)
  pub same : Same s s1

-- an instruction that changes the state alone
abbrev pub PassesOr : {B : Type 0} → Setting → Point → Private → State → Instruction → Got B → Type 0
PassesOr z at k s i (Gives b s1) = Passes z at k s i s1
PassesOr z at k s i (Ends r) = act z.program i (stands z at k s) ≡ Stops r

pub passes_sim : {A B : Type 0} {z : Setting} {n : ℕ} {names : List TypedName} {scope : Holders} {facts : List Fact} {post : B → Fact}
    (u : Used) (a : A) (i : Instruction) (go : State → Got B) →
    ((at : Point) (k : Private) (s : State) → Fine z names scope u k s → KnowsAll z scope u facts k → PassesOr z at k s i (go s)) →
    ((b : B) (k : Private) → KnowsAll z scope u facts k → Knows z scope u (post b) k) →
    Sim z n names scope facts u (doing a i u) go names scope post
passes_sim {A} {B} {z} {n} {names} {scope} {facts} {post} u a i go h ok = record {
  grown = grown-none u;
  over = λ t lt away. away;
  run = λ out at k s has whole_ fine knows less. result at k s has.0 fine knows (go s) (h at k s fine knows);
}
  where
    result : (at : Point) (k : Private) (s : State) → DoesAt z.tac.blocks at i → Fine z names scope u k s → KnowsAll z scope u facts k →
        (g : Got B) → PassesOr z at k s i g →
        Leaves z at k s (λ b s'. Comes z names scope at u k s (step_on at) names scope u s' (Knows z scope u (post b))) g
    result at k s stood fine knows (Gives b s1) p = record {
      private = k;
      leads = (1, one-step z at k s i stood ∙ p.moves);
      ok = ok b k knows;
      fine = record {
        holds = subst (λ vs. Holds z names scope vs u.temps k) (sym p.same.variables) fine.holds;
        small = fine.small;
        sized = p.same.sized ∙ fine.sized;
      };
      keeps = keeps-none scope u k;
      fewer = omega (arith, p.same.left);
    }
    result at k s stood fine knows (Ends r) p = (1, one-step z at k s i stood ∙ p)

-- no code
pub known_sim : {A B : Type 0} {z : Setting} {n : ℕ} {names : List TypedName} {scope : Holders} {facts : List Fact} {post : B → Fact}
    (u : Used) (a : A) (b : B) →
    ((k : Private) (s : State) → Fine z names scope u k s → KnowsAll z scope u facts k → Knows z scope u (post b) k) →
    Sim z n names scope facts u (known a u) (λ s. Gives b s) names scope post
known_sim {A} {B} {z} {n} {names} {scope} {facts} {post} u a b h = record {
  grown = grown-none u;
  over = λ t lt away. away;
  run = λ out at k s has whole_ fine knows less. record {
    private = k;
    leads = (0, refl);
    ok = h k s fine knows;
    fine = fine;
    keeps = keeps-none scope u k;
    fewer = omega arith;
  };
}

-- the same code with a result of its own
taken-leaves : {B D : Type 0} (z : Setting) (names names' : List TypedName) (scope scope' : Holders) (at to : Point) (u u' : Used)
    (k : Private) (s : State)
    (Ok : B → Private → Type 0) (Ok' : D → Private → Type 0) (h : B → D) → ((b : B) (k1 : Private) → Ok b k1 → Ok' (h b) k1) → (g : Got B) →
    Leaves z at k s (λ b s'. Comes z names scope at u k s to names' scope' u' s' (Ok b)) g →
    Leaves z at k s (λ d s'. Comes z names scope at u k s to names' scope' u' s' (Ok' d)) (next g (λ b s'. Gives (h b) s'))
taken-leaves z names names' scope scope' at to u u' k s Ok Ok' h same (Gives b s1) c = record {
  private = c.private;
  leads = c.leads;
  ok = same b c.private c.ok;
  fine = c.fine;
  keeps = c.keeps;
  fewer = c.fewer;
}
taken-leaves z names names' scope scope' at to u u' k s Ok Ok' h same (Ends r) c = c

pub taken_sim : {A B C D : Type 0} {z : Setting} {n : ℕ} {names names' : List TypedName} {scope scope' : Holders} {facts : List Fact}
    {u : Used} {r : Piece A}
    {go : State → Got B} {mid : B → Fact} {post : D → Fact} (f : A → C) (h : B → D) → Sim z n names scope facts u r go names' scope' mid →
    ((b : B) (k : Private) → Knows z scope' r.used (mid b) k → Knows z scope' r.used (post (h b)) k) →
    Sim z n names scope facts u (taken f r) (λ s. next (go s) (λ b s'. Gives (h b) s')) names' scope' post
taken_sim {A} {B} {C} {D} {z} {n} {names} {names'} {scope} {scope'} {facts} {u} {r} {go} {mid} {post} f h x same = record {
  grown = x.grown;
  over = x.over;
  run = λ out at k s has whole_ fine knows less.
      taken-leaves z names names' scope scope' at (after r.code at) u r.used k s (λ b. Knows z scope' r.used (mid b))
      (λ d. Knows z scope' r.used (post d)) h same (go s)
      (x.run out at k s has whole_ fine knows less);
}

-- the same, where what was known before counts too
taken-with : {B D : Type 0} (z : Setting) (names names' : List TypedName) (scope scope' : Holders) (facts : List Fact) (at to : Point)
    (u u' : Used) (k : Private) (s : State)
    (Ok : B → Private → Type 0) (Ok' : D → Private → Type 0) (h : B → D) → Grown u u' → Over scope u scope' → KnowsAll z scope u facts k →
    ((b : B) (k1 : Private) → KnowsAll z scope' u' facts k1 → Ok b k1 → Ok' (h b) k1) → (g : Got B) →
    Leaves z at k s (λ b s'. Comes z names scope at u k s to names' scope' u' s' (Ok b)) g →
    Leaves z at k s (λ d s'. Comes z names scope at u k s to names' scope' u' s' (Ok' d)) (next g (λ b s'. Gives (h b) s'))
taken-with z names names' scope scope' facts at to u u' k s Ok Ok' h grown over knows same (Gives b s1) c = record {
  private = c.private;
  leads = c.leads;
  ok = same b c.private (facts-later z scope scope' u u' k c.private grown over c.keeps facts knows) c.ok;
  fine = c.fine;
  keeps = c.keeps;
  fewer = c.fewer;
}
taken-with z names names' scope scope' facts at to u u' k s Ok Ok' h grown over knows same (Ends r) c = c

pub taken_with_sim : {A B C D : Type 0} {z : Setting} {n : ℕ} {names names' : List TypedName} {scope scope' : Holders} {facts : List Fact}
    {u : Used} {r : Piece A}
    {go : State → Got B} {mid : B → Fact} {post : D → Fact} (f : A → C) (h : B → D) → Sim z n names scope facts u r go names' scope' mid →
    ((b : B) (k : Private) → KnowsAll z scope' r.used facts k → Knows z scope' r.used (mid b) k → Knows z scope' r.used (post (h b)) k) →
    Sim z n names scope facts u (taken f r) (λ s. next (go s) (λ b s'. Gives (h b) s')) names' scope' post
taken_with_sim {A} {B} {C} {D} {z} {n} {names} {names'} {scope} {scope'} {facts} {u} {r} {go} {mid} {post} f h x same = record {
  grown = x.grown;
  over = x.over;
  run = λ out at k s has whole_ fine knows less.
      taken-with z names names' scope scope' facts at (after r.code at) u r.used k s (λ b. Knows z scope' r.used (mid b))
      (λ d. Knows z scope' r.used (post d)) h x.grown x.over knows same (go s)
      (x.run out at k s has whole_ fine knows less);
}
