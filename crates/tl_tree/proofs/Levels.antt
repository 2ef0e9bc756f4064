-- Reading part within part, level by level, meets the language of whole texts.
use Rattle.std.proofs.Common.{◌≡◌, ℕ, zero, suc, Bool, true, false, List, [], ◌∷◌, ◌++◌, refl, sym, ap, ◌∙◌, subst}
use Rattle.std.proofs.Common.{append-nil, inr}
use Rattle.tl_lex.specs.Answers.{Position}
use Rattle.tl_lex.specs.Answers.{place_at}
use Rattle.tl_tree.specs.Tokens.{Token}
use Rattle.tl_tree.specs.Tree.{Tree, Part}
use Rattle.tl_tree.specs.Grammar.{Rule, Parts, Took, Stop, blame, unexpected, is_none_left, Table, down, parts_at}
use Rattle.tl_tree.specs.Grammar.{readers_at, all_levels, Whole}
use Rattle.tl_tree.specs.Refusing.{any, Viable}
use Rattle.tl_tree.proofs.Reading.{Allows, AllGood, leaves_all, leaves, steady, sound, complete, not_longer, same_back}
use Rattle.tl_tree.proofs.Reading.{Answers, ReadersLeave, ReadersSteady}
use Rattle.tl_tree.proofs.Spelled.{spelled-append}
use Rattle.tl_tree.proofs.Completing.{Shows, Completion, Bare, Starts}
use Rattle.tl_tree.proofs.Parting.{Leaving, Keeping, Ending, Deep, leaving_of, keeping_of, Turned, turned_any}
use Rattle.tl_tree.proofs.Settings.{Setting, Completable}
use Rattle.tl_tree.proofs.Exact.{ReadersBlame, blames-run, Meets, GoesOn}

-- where no level is left
junk_leave : ReadersLeave (λ part ts. unexpected ts)
junk_leave part [] = leaves_all []
junk_leave part (t ∷ ts) = leaves_all (t ∷ ts)

junk_steady : ReadersSteady (λ part ts. unexpected ts)
junk_steady part [] [] x b t e = absurd cc
junk_steady part [] (u ∷ r) x b t e = absurd (not_longer (u ∷ r) (u ∷ r) b t (leaves_all (u ∷ r)) e)
junk_steady part (u ∷ f) r x b t e = ap (λ (l : List Token). Stop (blame u.symbol) l) (same_back (u ∷ f) r x b t e)

junk_blame : ReadersBlame (λ part ts. unexpected ts)
junk_blame part [] = refl
junk_blame part (t ∷ ts) = inr refl

module _ (table : Table) where
  pub leave_at : (levels : ℕ) → ReadersLeave (λ part ts. readers_at table levels part ts)
  leave_at zero part ts = leaves zero (λ inner us. unexpected us) junk_leave (table part) ts
  leave_at (suc levels) part ts =
      leaves (suc levels) (λ inner us. readers_at table levels inner us) (leave_at levels) (table part) ts

  pub steady_at : (levels : ℕ) → ReadersSteady (λ part ts. readers_at table levels part ts)
  steady_at zero part front r x b t e =
      steady zero (λ inner us. unexpected us) junk_leave junk_steady (table part) front r x b t e
  steady_at (suc levels) part front r x b t e =
      steady (suc levels) (λ inner us. readers_at table levels inner us) (leave_at levels) (steady_at levels)
      (table part) front r x b t e

  pub blame_at : (levels : ℕ) → ReadersBlame (λ part ts. readers_at table levels part ts)
  blame_at zero part ts = blames-run zero (λ inner us. unexpected us) junk_blame (table part) ts
  blame_at (suc levels) part ts =
      blames-run (suc levels) (λ inner us. readers_at table levels inner us) (blame_at levels) (table part) ts

  none_left : {A : Type 0} → is_none_left zero ≡ false → A
  none_left e = absurd cc

  pub sound_at : (rule : Rule) → Allows rule
      → (levels : ℕ) (part : Part) (ts : List Token) (x : Tree) (rest : List Token)
      → readers_at table levels part ts ≡ Took x rest → parts_at table rule (suc (suc levels)) levels part ts x rest
  sound_at rule al zero part ts x rest e =
      sound rule al zero (λ inner us. unexpected us) (λ p us y r. parts_at table rule 1 zero p us y r) junk_leave
      (λ left. none_left left) (table part) ts x rest e
  sound_at rule al (suc levels) part ts x rest e =
      sound rule al (suc levels) (λ inner us. readers_at table levels inner us)
      (λ p us y r. parts_at table rule (suc (suc levels)) levels p us y r) (leave_at levels)
      (λ left. sound_at rule al levels) (table part) ts x rest e

  pub complete_at : (rule : Rule) (depth levels : ℕ) (part : Part) (ts : List Token) (x : Tree) (rest : List Token)
      → parts_at table rule depth levels part ts x rest → Answers rule x rest (readers_at table levels part ts)
  complete_at rule zero levels part ts x rest p = absurd p
  complete_at rule (suc depth) zero part ts x rest p =
      complete rule zero (λ inner us. unexpected us) (λ q us y r. parts_at table rule depth zero q us y r) junk_leave
      (λ left. none_left left) (table part) ts x rest p
  complete_at rule (suc depth) (suc levels) part ts x rest p =
      complete rule (suc levels) (λ inner us. readers_at table levels inner us)
      (λ q us y r. parts_at table rule depth levels q us y r) (leave_at levels) (λ left. complete_at rule depth levels)
      (table part) ts x rest p

-- what the parts of a table owe: some tokens complete each, from nothing on and from any front
abbrev pub Begun : Table → (Part → Token → Bool) → Type 1
Begun table after = (levels : ℕ) (parts : Rule → Parts) (part : Part)
    → Starts levels parts (table part) (λ t. true) (after part)

abbrev pub Completed : Table → (Part → Token → Bool) → Type 1
Completed table after = (s : Setting after) (part : Part) → Completable s (table part) (λ t. true) (after part)

abbrev pub Parted : Table → (Part → Token → Bool) → Type 1
Parted table after = (s : Setting after) (part : Part) → Turned s.deep (table part) (λ t. true) (after part)

module _ (table : Table) (after : Part → Token → Bool) (begun : Begun table after) where
  -- the parts that nest so deep, the limits aside
  abbrev parts_within : ℕ → ℕ → Parts
  parts_within depth levels part ts x rest = parts_at table any depth levels part ts x rest

  -- What is known of them: where a reading of one is parted, one that nests one deeper completes it.
  record Facts (depth levels : ℕ) : Type 0 where
    leaving : (part : Part) → Leaving (λ ts x rest. parts_within depth levels part ts x rest)
    keeping : (part : Part) → Keeping (λ ts x rest. parts_within depth levels part ts x rest)
        (λ ts x rest. parts_within (suc depth) levels part ts x rest)
    ending : (part : Part) → Ending (λ ts x rest. parts_within depth levels part ts x rest)
        (λ ts x rest. parts_within (suc depth) levels part ts x rest) (after part)

  bare_within : (depth levels : ℕ) (part : Part) (p : Position)
      → Bare (λ rule ts x rest. parts_within (suc depth) levels part ts x rest) p (λ t. true) (after part)
  bare_within depth levels part p =
      let c = begun levels (λ rule q us y r. parts_within depth (down levels) q us y r) part p in
      record {
        more = c.more;
        spelled = c.spelled;
        value = c.value;
        starts = c.starts;
        reads = λ close k rule al le.
            c.reads close k any (λ usage t ts e. refl) (λ usage ts e. refl);
      }

  abbrev deep_of : (depth levels : ℕ) → Facts depth (down levels) → Deep after
  deep_of depth levels facts =
      record {
        levels = levels;
        inner = parts_within depth (down levels);
        outer = parts_within (suc depth) (down levels);
        leaving = facts.leaving;
        keeping = facts.keeping;
        bare = λ part p. bare_within depth (down levels) part p;
        ending = facts.ending;
      }

  no_facts : (levels : ℕ) → Facts zero levels
  no_facts levels = record {
    leaving = λ part ts x rest h. absurd h;
    keeping = λ part front r x b t y h.
        absurd h;
    ending = λ part p t f r x rest h k. absurd h;
  }

  -- where no level is left, no token opens a part
  abbrev lowest : Deep after → Setting after
  lowest deep =
      record {
        levels = zero;
        readers = λ inner us. unexpected us;
        parts = λ rule p us y rest. parts_at table rule 1 zero p us y rest;
        leave = junk_leave;
        steady = junk_steady;
        sound = λ rule al left. none_left table left;
        bare = λ p. begun zero (λ rule q us y rest. parts_at table rule zero zero q us y rest) p;
        below = λ left. none_left table left;
        deep = deep;
      }

module _ (table : Table) (after : Part → Token → Bool) (begun : Begun table after) (parted_at : Parted table after)
  where
    facts_at : (depth levels : ℕ) → Facts table after begun depth levels
    facts_at zero levels = no_facts table after begun levels
    facts_at (suc depth) levels =
        let d = deep_of table after begun depth levels (facts_at depth (down levels)) in
        record {
          leaving = λ part. leaving_of d (table part);
          keeping = λ part.
              keeping_of d (table part);
          ending = λ part. (parted_at (lowest table after begun d) part).ends;
        }

    first_good : (front more : List Token) → AllGood (front ++ more) → AllGood front
    first_good [] more h = tt
    first_good (t ∷ front) more h = (h.0, first_good front more h.1)

    -- what begins a whole text, the limits aside, goes on from each place with tokens that stand one behind the other
    pub viable_goes : (part : Part) (p : Position) (front : List Token)
        → Viable (λ rule ts tree. Whole table part rule ts tree) front
        → GoesOn (λ rule ts tree. Whole table part rule ts tree) p front
    viable_goes part p front v = go v.2.0 v.2.1
      where
        go : (depth : ℕ) → parts_at table any depth all_levels part (front ++ v.0) v.1 []
            → GoesOn (λ rule ts tree. Whole table part rule ts tree) p front
        go zero h = absurd h
        go (suc depth) h =
            let d = deep_of table after begun depth all_levels (facts_at depth (down all_levels)) in
            let left = leaving_of d (table part) (front ++ v.0) v.1 [] h in
            let e = turned_any d (table part) (λ t. true) (after part) (parted_at (lowest table after begun d) part) p
            front v.0 v.1 [] h (v.0, sym (append-nil v.0)) in
            record {
              good = first_good front v.0
                  (subst (λ (x : List Token). AllGood x) (sym (append-nil left.0) ∙ sym left.1) left.2);
              more = e.more ++ [];
              tree = e.value;
              spelled = spelled-append p e.more [] e.spelled tt;
              reads = (suc (suc depth), e.reads [] refl);
            }

module _ (table : Table) (after : Part → Token → Bool) (begun : Begun table after) (completed : Completed table after)
  where
    completes_at : (levels : ℕ) (part : Part) (p : Position) (front r : List Token)
        → Shows (readers_at table levels part (front ++ r)) r
        → Completion (λ rule ts x rest. parts_at table rule (suc (suc levels)) levels part ts x rest) p
        (readers_at table levels part (front ++ r)) (λ t. true) (after part) front
    completes_at zero part place front r sh =
        completed (lowest table after begun (deep_of table after begun zero zero (no_facts table after begun zero))) part
        place front r sh
    completes_at (suc levels) part place front r sh =
        completed
        (record {
          levels = suc levels;
          readers = λ inner us. readers_at table levels inner us;
          parts = λ rule p us y rest. parts_at table rule (suc (suc levels)) levels p us y rest;
          leave = leave_at table levels;
          steady = steady_at table levels;
          sound = λ rule al left. sound_at table rule al levels;
          bare = λ p. begun levels (λ rule q us y rest. parts_at table rule (suc levels) (down levels) q us y rest) p;
          below = λ left. completes_at levels;
          deep = deep_of table after begun zero zero (no_facts table after begun zero);
        })
        part place front r sh

    pub meets : (part : Part)
        → Meets (λ ts. readers_at table all_levels part ts) (λ rule ts tree. Whole table part rule ts tree)
    meets part =
        record {
          leaves = λ ts. leave_at table all_levels part ts;
          steady = λ front r x b t e. steady_at table all_levels part front r x b t e;
          blames = λ ts. blame_at table all_levels part ts;
          sound = λ rule al ts a e. (suc (suc all_levels), sound_at table rule al all_levels part ts a [] e);
          complete = λ rule ts a p. complete_at table rule p.0 all_levels part ts a [] p.1;
          completes = λ front r sh.
              let c = completes_at all_levels part (record { place = place_at 1 1; offset = 0 }) front r sh in
              (c.more ++ [], c.value, λ rule al le fo. (suc (suc all_levels), c.reads [] refl rule al le fo));
        }
