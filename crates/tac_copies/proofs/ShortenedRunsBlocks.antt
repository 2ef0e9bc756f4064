-- Where shortened code stands for a place of the other's, and that it gets there.
use Rattle.std.proofs.Common.{◌≡◌, ℕ, zero, suc, ◌≤◌, true, false, List, [], ◌∷◌, Option, Some, None, refl, sym, ap, ◌∙◌, subst, ⊎_elim}
use Rattle.std.proofs.Common.{inl, inr}
use Rattle.std.specs.Prelude.{nat_eq, slice_get, ◌⊎◌}
use Rattle.std.proofs.lemmas.Bool.{and_from, and_left, eq-eqb, eqb-true, or_left, or_right}
use Rattle.tac_form.specs.declared.tac.Operand.TheVariants.{Temp}
use Rattle.tac_form.specs.declared.tac.Instruction.{Instruction}
use Rattle.tac_form.specs.declared.tac.Instruction.TheVariants.{Copy}
use Rattle.tac_form.specs.declared.tac.Block.{Block}
use Rattle.tac_form.specs.declared.tac.Tac.{Tac}
use Rattle.tac_form.specs.Flow.{Temps, put}
use Rattle.tac_form.specs.Graph.{exit_reads, instruction_reads, instruction_write}
use Rattle.tac_copies.specs.Once.{is_once, times}
use Rattle.tac_copies.specs.Shortened.{few, goes, own_names, reads_first, shortened, shortened_block}
use Rattle.tac_copies.proofs.ShortenedRunsCounts.{Hidden, after, and-left, and-right, by_value, carries, clash, gone, gone-hidden, once-few}
use Rattle.tac_copies.proofs.ShortenedRunsCounts.{rest-few, times_from}
use Rattle.tac_copies.proofs.ShortenedRunsSafe.{Agrees, Safe, agrees-all, exit-same, gone-after, gone-shortened, kept-after, kept-carries}
use Rattle.tac_copies.proofs.ShortenedRunsSafe.{kept-shortened, next-safe, put-other, put-same, put_if, put_if-other, put_if-same}
use Rattle.tac_copies.proofs.ShortenedRunsSafe.{read-same, removes}

-- ---- what is left of a list

abbrev pub behind : {A : Type 0} → ℕ → List A → List A
behind zero xs = xs
behind (suc n) [] = []
behind (suc n) (x ∷ xs) = behind n xs

pub behind-get : {A : Type 0} (n : ℕ) (xs : List A) → slice_get xs n ≡ slice_get (behind n xs) 0
behind-get zero xs = refl
behind-get (suc n) [] = refl
behind-get (suc n) (x ∷ xs) = behind-get n xs

pub behind-more : {A : Type 0} (n : ℕ) (xs : List A) → behind (suc n) xs ≡ behind 1 (behind n xs)
behind-more zero xs = refl
behind-more (suc n) [] = refl
behind-more (suc n) (x ∷ xs) = behind-more n xs

-- ---- a place in a block

-- The instructions behind `at` are the rest, with these names, and those of the shortened block behind `at'` are what becomes of it.
pub record Mid (code : Tac) (b : Block) (at : ℕ) (old : Temps) (at' : ℕ) (new : Temps) (names : ℕ → ℕ) (rest : List Instruction) :
    Type 0 where
  pub old_at : behind at b.instructions ≡ rest
  pub new_at : behind at' (shortened_block (is_once code) b).instructions ≡ (shortened (is_once code) names rest b.exit).instructions
  pub exit : (shortened_block (is_once code) b).exit ≡ (shortened (is_once code) names rest b.exit).exit
  pub shows : (t : ℕ) → gone (is_once code) names t rest b.exit ≡ true → Hidden code t
  pub few : (t : ℕ) → is_once code t ≡ true → times_from t rest b.exit ≤ 1
  pub safe : (t : ℕ) → Safe code names rest b.exit old new t

abbrev pub AtBlock : Tac → Option Block → (at : ℕ) → (old : Temps) → (at' : ℕ) → (new : Temps) → Type 0
AtBlock code None at old at' new = Unit {0}
AtBlock code (Some b) at old at' new = (names : ℕ → ℕ) × (rest : List Instruction) × Mid code b at old at' new names rest

-- what holds where a block is entered
abbrev pub Begins : Tac → (old new : Temps) → Type 0
Begins code old new = (t : ℕ) → (old t ≡ new t) ⊎ ((Hidden code t) × (is_once code t ≡ true))

pub block-begins : (code : Tac) (n : ℕ) (o : Option Block) (old new : Temps) → slice_get code.blocks n ≡ o → Begins code old new →
    AtBlock code o 0 old 0 new
block-begins code n None old new e h = tt
block-begins code n (Some b) old new e h = (
  own_names,
  b.instructions,
  record {
    old_at = refl;
    new_at = refl;
    exit = refl;
    shows = λ t g. gone-hidden code t n b e g;
    few = λ t g. once-few code t n b e g;
    safe = λ t. ⊎_elim (λ k. inl (refl, k)) (λ k. inr (record { hidden = k.0; once = k.1; now = inr (k.0 n b e) })) (h t);
  },
)

-- at the exit each temporary is the same or hidden
pub exit-begins : (code : Tac) (b : Block) (at : ℕ) (old : Temps) (at' : ℕ) (new : Temps) (names : ℕ → ℕ) →
    Mid code b at old at' new names [] → Begins code old new
exit-begins code b at old at' new names m t = ⊎_elim (λ k. inl k.1) (λ k. inr (k.hidden, k.once)) (m.safe t)

pub exit-agrees : (code : Tac) (b : Block) (at : ℕ) (old : Temps) (at' : ℕ) (new : Temps) (names : ℕ → ℕ) →
    Mid code b at old at' new names [] → Agrees names old new (exit_reads b.exit)
exit-agrees code b at old at' new names m =
    agrees-all names old new (exit_reads b.exit) (λ t h. exit-same code names b.exit old new t (m.safe t) h)

module _ (code : Tac) (b : Block) (at : ℕ) (old : Temps) (at' : ℕ) (new : Temps) (names : ℕ → ℕ) where
  pub mid-agrees : (i : Instruction) (is : List Instruction) → Mid code b at old at' new names (i ∷ is) →
      Agrees names old new (instruction_reads i)
  mid-agrees i is m = agrees-all names old new (instruction_reads i) (λ t h. read-same code names i is b.exit old new t (m.safe t) h)

  more-shows : (i : Instruction) (is : List Instruction) → Mid code b at old at' new names (i ∷ is) → (t : ℕ) →
      gone (is_once code) (after (is_once code) names i is b.exit) t is b.exit ≡ true → Hidden code t
  more-shows i is m t g =
      m.shows t (or_right (carries (is_once code) names t i is b.exit)
      (gone (is_once code) (after (is_once code) names i is b.exit) t is b.exit) g)

  more-few : (i : Instruction) (is : List Instruction) → Mid code b at old at' new names (i ∷ is) → (t : ℕ) →
      is_once code t ≡ true → times_from t is b.exit ≤ 1
  more-few i is m t g = rest-few (times t (instruction_reads i)) (times_from t is b.exit) (m.few t g)

  -- behind an instruction that is kept
  pub kept-mid : (i : Instruction) (is : List Instruction) → Mid code b at old at' new names (i ∷ is) →
      removes (is_once code) names i is b.exit ≡ false → (x : ℕ) →
      Mid code b (suc at) (put_if (instruction_write i) x old) (suc at') (put_if (instruction_write i) x new)
      (after (is_once code) names i is b.exit) is
  kept-mid i is m h x = record {
    old_at = behind-more at b.instructions ∙ ap (λ z. behind 1 z) m.old_at;
    new_at = behind-more at' (shortened_block (is_once code) b).instructions ∙ ap (λ z. behind 1 z) m.new_at
        ∙ ap (λ c. behind 1 c.instructions) (kept-shortened (is_once code) names i is b.exit h);
    exit = m.exit ∙ ap (λ c. c.exit) (kept-shortened (is_once code) names i is b.exit h);
    shows = more-shows i is m;
    few = more-few i is m;
    safe = λ t. next-safe code names i is b.exit old new (put_if (instruction_write i) x old) (put_if (instruction_write i) x new) t
        (record {
          name = ap (λ f. f t) (kept-after (is_once code) names i is b.exit h);
          stays = kept-carries (is_once code) names t i is b.exit h;
          few = m.few t;
          old_same = λ g. put_if-other (instruction_write i) x old t g;
          new_same = λ u g. put_if-other (instruction_write i) x new u g;
          written = λ g. put_if-same (instruction_write i) x old t g ∙ sym (put_if-same (instruction_write i) x new t g);
        }) (m.safe t);
  }

  -- behind a copy that goes
  module _ (d u : ℕ) (is : List Instruction) (m : Mid code b at old at' new names (Copy d (Temp u) ∷ is))
      (h : goes (is_once code) d (names u) is b.exit ≡ true) where
    abbrev next : ℕ → ℕ
    next = after (is_once code) names (Copy d (Temp u)) is b.exit

    abbrev later : Temps
    later = put old d (old u)

    renamed : next d ≡ names u
    renamed = ap (λ f. f d) (gone-after (is_once code) names d u is b.exit h) ∙ put-same names d (names u)

    carried : carries (is_once code) names d (Copy d (Temp u)) is b.exit ≡ true
    carried = and_from (nat_eq d d) (goes (is_once code) d (names u) is b.exit) (eq-eqb d d refl) h

    copied : Safe code next is b.exit later new d
    copied = inr (record {
      hidden = m.shows d (or_left (carries (is_once code) names d (Copy d (Temp u)) is b.exit)
          (gone (is_once code) next d is b.exit) carried);
      once = and-left (is_once code d) _ h;
      now = inl (record {
        same = put-same old d (old u) ∙ same ∙ ap new (sym renamed);
        count = few;
        first = subst (λ z. reads_first few d z is b.exit ≡ true) (sym renamed) (and-right _ (reads_first few d (names u) is b.exit)
            (and-right (is_once code d) _ h));
      });
    })
      where
        same : old u ≡ new (names u)
        same = read-same code names (Copy d (Temp u)) is b.exit old new u (m.safe u) (or_left (nat_eq u u) false (eq-eqb u u refl))

    others : (t : ℕ) → nat_eq d t ≡ false → Safe code next is b.exit later new t
    others t n = next-safe code names (Copy d (Temp u)) is b.exit old new later new t
        (record {
          name = ap (λ f. f t) (gone-after (is_once code) names d u is b.exit h) ∙ put-other names d t (names u) n;
          stays = and_left (nat_eq d t) (goes (is_once code) d (names u) is b.exit) n;
          few = m.few t;
          old_same = λ g. put-other old d t (old u) g;
          new_same = λ v g. refl;
          written = λ g. clash (nat_eq d t) g n;
        }) (m.safe t)

    pub gone-mid : Mid code b (suc at) later at' new next is
    gone-mid = record {
      old_at = behind-more at b.instructions ∙ ap (λ z. behind 1 z) m.old_at;
      new_at = m.new_at ∙ ap (λ c. c.instructions) (gone-shortened (is_once code) names d u is b.exit h);
      exit = m.exit ∙ ap (λ c. c.exit) (gone-shortened (is_once code) names d u is b.exit h);
      shows = more-shows (Copy d (Temp u)) is m;
      few = more-few (Copy d (Temp u)) is m;
      safe = λ t. by_value (nat_eq d t)
          (λ e. subst (λ z. Safe code next is b.exit later new z) (eqb-true d t e) copied)
          (λ e. others t e);
    }
