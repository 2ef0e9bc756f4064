-- The completions of a grammar from a front on, form by form: what stands there goes on to a text that is read.
use Rattle.std.proofs.Common.{◌≡◌, ℕ, zero, suc, ◌≤◌, Bool, true, false, cond, List, [], ◌∷◌, ◌++◌, length, Option}
use Rattle.std.proofs.Common.{Some, None, refl, sym, ◌∙◌, subst, arith, inl, inr}
use Rattle.std.proofs.lemmas.List.{append_cancel_right}
use Rattle.tl_lex.specs.Answers.{Position}
use Rattle.tl_tree.specs.Tokens.{Token}
use Rattle.tl_tree.specs.declared.symbol.Symbol.{Symbol}
use Rattle.tl_lex.specs.declared.SyntaxKind.{SyntaxKind}
use Rattle.tl_tree.specs.declared.mode.TokenUse.{TokenUse}
use Rattle.tl_tree.specs.Tree.{Tree, Nothing, Part}
use Rattle.tl_tree.specs.Grammar.{Use, bar, is_of, is_none_left, Grammar, give, token, bind, when, many, begins, Rule}
use Rattle.tl_tree.specs.Grammar.{Parts, Opened, Turns, stop, turn, Reads, Outcome, Took, Stop, ◌>>=◌, blame, unless}
use Rattle.tl_tree.specs.Grammar.{Readers, opened, turns, run}
use Rattle.tl_tree.proofs.Spelled.{is_written, placed, next_word}
use Rattle.tl_tree.proofs.Reading.{rest_of, with_rest, Allows, Leaves, leaves, leaves-turns, leaves-opened, leaves-bind}
use Rattle.tl_tree.proofs.Reading.{leaves_all, steady, steady-opened, steady-bind}
use Rattle.tl_tree.proofs.Reading.{sound, sound-opened, bar_levels, bind_took, ReadersLeave, ReadersSteady}
use Rattle.tl_tree.proofs.Reading.{ReadersSound}
use Rattle.tl_tree.proofs.Completing.{all_fit, fits_also, apart, no_limit, Shows, Completion, Bare, Starts, seq}
use Rattle.tl_tree.proofs.Completing.{shows_nothing, forgives_nothing, shows_no_front}
use Rattle.tl_tree.proofs.Completing.{bare-both, bare-opened, bare-when}

-- ---- the completions of a grammar, form by form

module _ (levels : ℕ) (readers : Readers) (parts : Rule → Parts) (part_after : Part → Token → Bool)
    (readers_leave : ReadersLeave readers) (readers_steady : ReadersSteady readers)
    (readers_sound : (rule : Rule) → Allows rule → ReadersSound levels readers (parts rule))
    (parts_bare : (part : Part) (p : Position)
    → Bare (λ rule ts x rest. parts rule part ts x rest) p (λ t. true) (part_after part))
    (readers_complete : is_none_left levels ≡ false → (part : Part) (p : Position) (front r : List Token)
    → Shows (readers part (front ++ r)) r
    → Completion (λ rule ts x rest. parts rule part ts x rest) p (readers part (front ++ r)) (λ t. true)
    (part_after part) front) where
  -- what is completed by what follows
  abbrev pub Covers : (Token → Bool) → Option Part → Type 0
  Covers after None = Unit {0}
  Covers after (Some part) = (t : Token) → after t ≡ true → part_after part t ≡ true

  abbrev pub Completes : {A : Type 0} → Grammar A → (Token → Bool) → (Token → Bool) → Type 0
  Completes g first after =
      (p : Position) (front r : List Token) → Shows (run levels readers g (front ++ r)) r
      → Completion (λ rule ts a rest. Reads rule levels (parts rule) g ts a rest) p (run levels readers g (front ++ r))
      first after front

  pub starts_of : {A : Type 0} (g : Grammar A) (first after : Token → Bool) → Completes g first after
      → Starts levels parts g first after
  starts_of g first after completes p =
      let c = completes p [] [] (shows_nothing (run levels readers g []) (leaves levels readers readers_leave g [])) in
      record {
        more = c.more;
        spelled = c.spelled;
        value = c.value;
        starts = λ close k.
            c.starts refl close k;
        reads =
            λ close k rule al le. c.reads close k rule al le
            (forgives_nothing (run levels readers g []) rule (c.more ++ close)
            (leaves levels readers readers_leave g []));
      }

  opened_bare : (o : Option Part) (p : Position) (after : Token → Bool) → Covers after o
      → Bare (λ rule ts x rest. Opened (parts rule) o ts x rest) p (λ t. true) after
  opened_bare None p after h =
      record {
        more = [];
        spelled = tt;
        value = Nothing;
        starts = λ close k.
            all_fit close;
        reads = λ close k rule al le. (refl, refl);
      }
  opened_bare (Some part) p after h =
      let c = parts_bare part p in
      record {
        more = c.more;
        spelled = c.spelled;
        value = c.value;
        starts = λ close k.
            all_fit (c.more ++ close);
        reads =
            λ close k rule al le. c.reads close (fits_also after (part_after part) h close k) rule al le;
      }

  opened_completes : (usage : TokenUse) (t : Token) (o : Option Part) (p : Position) (after : Token → Bool)
      → Covers after o → bar (record { opens = o; levels = levels; usage = usage }) t ≡ None → (front r : List Token)
      → Shows (opened readers o (front ++ r)) r
      → Completion (λ rule ts x rest. Opened (parts rule) o ts x rest) p (opened readers o (front ++ r)) (λ t. true)
      after front
  opened_completes usage t None p after h k [] r s =
      record {
        more = [];
        spelled = tt;
        value = Nothing;
        starts = λ none close k2.
            all_fit close;
        reads = λ close k2 rule al le fo. (refl, refl);
      }
  opened_completes usage t None p after h k (u ∷ front) r s = absurd cc
  opened_completes usage t (Some part) p after h k front r s =
      let c = readers_complete (bar_levels part levels usage t k) part p front r s in
      record {
        more = c.more;
        spelled = c.spelled;
        value = c.value;
        starts = λ none close k2.
            all_fit (c.more ++ close);
        reads =
            λ close k2 rule al le fo. c.reads close (fits_also after (part_after part) h close k2) rule al le fo;
      }

  pub completes-within : {A : Type 0} (g : Grammar A) (first first' after after' : Token → Bool)
      → ((t : Token) → first t ≡ true → first' t ≡ true) → ((t : Token) → after' t ≡ true → after t ≡ true)
      → Completes g first after → Completes g first' after'
  completes-within g first first' after after' wider narrower completes p front r sh =
      let c = completes p front r sh in
      record {
        more = c.more;
        spelled = c.spelled;
        value = c.value;
        starts = λ none close k.
            fits_also first first' wider (c.more ++ close)
            (c.starts none close (fits_also after' after narrower close k));
        reads =
            λ close k rule al le fo. c.reads close (fits_also after' after narrower close k) rule al le fo;
      }

  pub completes-give : {A : Type 0} (a : A) (after : Token → Bool) → Completes (give a) after after
  completes-give a after p [] r sh =
      record {
        more = [];
        spelled = tt;
        value = a;
        starts = λ none close k. k;
        reads = λ close k rule al le fo.
            (refl, refl);
      }
  completes-give a after p (t ∷ front) r sh = absurd cc

  pub completes-token : (class : Token → Bool) (usage : Token → TokenUse) (opens : Token → Option Part) (sample : Token)
      (k : Symbol) (first after : Token → Bool) → is_written k ≡ true
      → ((p : Position) → is_of class (placed p k) ≡ true) → ((p : Position) → first (placed p k) ≡ true)
      → ((t : Token) → is_of class t ≡ true → Covers after (opens t))
      → Completes (token class usage opens sample) first after
  completes-token class usage opens sample k first after written good good_first covers p [] r sh =
      let c = bare-opened levels parts class usage opens sample k p first (λ t. true) after written (good p)
      (good_first p) (opened_bare (opens (placed p k)) (next_word p k) after (covers (placed p k) (good p))) in
      record {
        more = c.more;
        spelled = c.spelled;
        value = c.value;
        starts = λ none close h.
            c.starts close h;
        reads = λ close h rule al le fo. c.reads close h rule al le;
      }
  completes-token class usage opens sample k first after written good good_first covers p (t ∷ front) r sh =
      go (is_of class t) refl (bar (use_of t) t) refl sh
    where
      use_of : Token → Use
      use_of t = record { opens = opens t; levels = levels; usage = usage t }

      go : (c : Bool) → is_of class t ≡ c → (o : Option SyntaxKind)
          → bar (record { opens = opens t; levels = levels; usage = usage t }) t ≡ o
          → Shows {A = Token × Tree}
          (cond c (unless o (t ∷ (front ++ r)) (opened readers (opens t) (front ++ r) >>= λ x mid. Took (t, x) mid))
          (Stop (blame t.symbol) (t ∷ (front ++ r)))) r
          → Completion {A = Token × Tree}
          (λ rule ts a rest. Reads rule levels (parts rule) (token class usage opens sample) ts a rest) p
          (cond c (unless o (t ∷ (front ++ r)) (opened readers (opens t) (front ++ r) >>= λ x mid. Took (t, x) mid))
          (Stop (blame t.symbol) (t ∷ (front ++ r)))) first after (t ∷ front)
      go true h None k s =
          let c =
          seq (λ ts. opened readers (opens t) ts) (λ rule ts x rest. Opened (parts rule) (opens t) ts x rest)
          (λ x ts. Took (t, x) ts) (λ rule x ts b rest. (b ≡ (t, x)) × (rest ≡ ts)) p (λ t. true) after after
          (length (front ++ r))
          (λ ts. leaves-opened readers readers_leave (opens t) ts)
          (λ f s x b u e. steady-opened readers readers_steady (opens t) f s x b u e)
          (λ rule al ts x rest e. sound-opened levels readers (parts rule) (readers_sound rule al) (usage t) t
          (opens t) k ts x rest e) (λ x ts. leaves_all ts)
          (opened_completes (usage t) t (opens t) p after (covers t h) k)
          (λ q x. record {
            more = [];
            spelled = tt;
            value = (t, x);
            starts = λ close k2.
                k2;
            reads = λ close k2 rule al le. (refl, refl);
          })
          (λ x f s le q. given x f s q)
          front r (omega arith) (opened readers (opens t) (front ++ r)) refl s in
          record {
            more = c.more;
            spelled = c.spelled;
            value = c.value;
            starts = λ none close f. absurd cc;
            reads = λ close f rule al le fo.
                let b = c.reads close f rule al le fo in
                pair_reads rule (front ++ (c.more ++ close)) c.value close h
                (al (record { opens = opens t; levels = levels; usage = usage t }) t (front ++ (c.more ++ close))
                k) b.0 b.1 b.2 b.3;
          }
        where
          given : (x : Tree) (f s : List Token) → Shows {A = Token × Tree} (Took (t, x) (f ++ s)) s
              → Completion {A = Token × Tree} (λ rule ts b rest. (b ≡ (t, x)) × (rest ≡ ts)) p (Took (t, x) (f ++ s))
              after after f
          given x [] s q = record {
            more = [];
            spelled = tt;
            value = (t, x);
            starts = λ none close k.
                k;
            reads = λ close k rule al le fo. (refl, refl);
          }
          given x (u ∷ f) s q = absurd cc

          pair_reads : (rule : Rule) (inner : List Token) (v : Token × Tree) (close : List Token)
              → is_of class t ≡ true → rule (record { opens = opens t; levels = levels; usage = usage t }) (t ∷ inner)
              ≡ true → (x : Tree) (mid : List Token) → Opened (parts rule) (opens t) inner x mid → (v ≡ (t, x))
              × (close ≡ mid) → Reads rule levels (parts rule) (token class usage opens sample) (t ∷ inner) v close
          pair_reads rule inner v close h r x mid o e =
              subst (λ (w : Token × Tree). Reads rule levels (parts rule) (token class usage opens sample) (t ∷ inner)
              w close) (sym e.0) (
                inner,
                refl,
                h,
                r,
                subst (λ (m : List Token). Opened (parts rule) (opens t) inner x m) (sym e.1) o,
              )
      go true h (Some why) k s =
          let empty : front ≡ [] = append_cancel_right front [] r s.0 in
          let c = opened_bare (opens t) p after (covers t h) in
          record {
            more = c.more;
            spelled = c.spelled;
            value = (t, c.value);
            starts = λ none close f. absurd cc;
            reads = λ close f rule al le fo.
                subst (λ (x : List Token). Reads rule levels (parts rule) (token class usage opens sample)
                (t ∷ (x ++ (c.more ++ close))) (t, c.value) close) (sym empty) (
                  c.more ++ close,
                  refl,
                  h,
                  fo (record { opens = opens t; levels = levels; usage = usage t }) k,
                  c.reads close f rule al le,
                );
          }
      go false h o k s = absurd (no_limit t s.1)

  pub completes-bind : {A B : Type 0} (g : Grammar A) (h : A → Grammar B) (first mid after : Token → Bool)
      → Completes g first mid → ((a : A) → Completes (h a) mid after) → Completes (bind g h) first after
  completes-bind g h first mid after c d p front r sh =
      seq (λ ts. run levels readers g ts) (λ rule ts a rest. Reads rule levels (parts rule) g ts a rest)
      (λ a ts. run levels readers (h a) ts) (λ rule a ts b rest. Reads rule levels (parts rule) (h a) ts b rest) p
      first mid after (length (front ++ r))
      (λ ts. leaves levels readers readers_leave g ts)
      (λ f s x b t e. steady levels readers readers_leave readers_steady g f s x b t e)
      (λ rule al ts a rest e. sound rule al levels readers (parts rule) readers_leave (readers_sound rule al) g ts a
      rest e) (λ a ts. leaves levels readers readers_leave (h a) ts)
      (c p) (λ q a. starts_of (h a) mid after (d a) q) (λ a f s le k. d a p f s k)
      front r (omega arith) (run levels readers g (front ++ r)) refl sh

  -- a token and what follows it, which begins in a class that depends on the token
  pub completes-then : {A : Type 0} (class : Token → Bool) (usage : Token → TokenUse) (opens : Token → Option Part)
      (sample : Token) (s : Symbol) (h : Token × Tree → Grammar A) (first : Token → Bool)
      (other : Token → Token → Bool) (after : Token → Bool) → is_written s ≡ true
      → ((p : Position) → is_of class (placed p s) ≡ true) → ((p : Position) → first (placed p s) ≡ true)
      → ((t : Token) → is_of class t ≡ true → Covers (other t) (opens t))
      → ((x : Token × Tree) → is_of class x.0 ≡ true → Completes (h x) (other x.0) after)
      → Completes (bind (token class usage opens sample) h) first after
  completes-then {A} class usage opens sample s h first other after written good good_first covers next p [] r sh =
      let t : Token = placed p s in
      let c = bare-both (λ rule ts x rest. Opened (parts rule) (opens t) ts x rest)
      (λ rule x ts y rest. Reads rule levels (parts rule) (h (t, x)) ts y rest) (next_word p s) (λ t. true)
      (other t) after (opened_bare (opens t) (next_word p s) (other t) (covers t (good p)))
      (λ q x. starts_of (h (t, x)) (other t) after (next (t, x) (good p)) q) in
      record {
        more = t ∷ c.more;
        spelled = ((s, written, refl), c.spelled);
        value = c.value;
        starts = λ none close k. good_first p;
        reads = λ close k rule al le fo.
            let i = c.reads close k rule al (λ usage ts short. le usage ts (omega arith)) in (
              (t, i.0),
              i.1,
              (
                c.more ++ close,
                refl,
                good p,
                le (record { opens = opens t; levels = levels; usage = usage t }) (t ∷ (c.more ++ close))
                    (omega arith),
                i.2,
              ),
              i.3,
            );
      }
  completes-then {A} class usage opens sample s h first other after written good good_first covers next p (t ∷ front) r
      sh = go (is_of class t) refl (bar (record { opens = opens t; levels = levels; usage = usage t }) t) refl sh
    where
      f : Token × Tree → List Token → Outcome A
      f a mid = run levels readers (h a) mid

      bind_again : (o : Outcome Tree)
          → ((o >>= λ x mid. Took (t, x) mid) >>= λ a mid. run levels readers (h a) mid)
          ≡ (o >>= λ x mid. run levels readers (h (t, x)) mid)
      bind_again (Took x mid) = refl
      bind_again (Stop why rest) = refl

      go : (c : Bool) → is_of class t ≡ c → (o : Option SyntaxKind)
          → bar (record { opens = opens t; levels = levels; usage = usage t }) t ≡ o
          → Shows {A = A} (cond c (unless o (t ∷ (front ++ r))
          (opened readers (opens t) (front ++ r) >>= λ x mid. Took (t, x) mid))
          (Stop (blame t.symbol) (t ∷ (front ++ r))) >>= λ a mid. run levels readers (h a) mid) r
          → Completion {A = A} (λ rule ts a rest.
          Reads rule levels (parts rule) (bind (token class usage opens sample) h) ts a rest) p
          (cond c (unless o (t ∷ (front ++ r)) (opened readers (opens t) (front ++ r) >>= λ x mid. Took (t, x) mid))
          (Stop (blame t.symbol) (t ∷ (front ++ r))) >>= λ a mid. run levels readers (h a) mid) first after (t ∷ front)
      go true e None k s =
          let same = bind_again (opened readers (opens t) (front ++ r)) in
          let c =
          seq (λ ts. opened readers (opens t) ts) (λ rule ts x rest. Opened (parts rule) (opens t) ts x rest)
          (λ x ts. run levels readers (h (t, x)) ts)
          (λ rule x ts y rest. Reads rule levels (parts rule) (h (t, x)) ts y rest) p (λ t. true) (other t) after
          (length (front ++ r))
          (λ ts. leaves-opened readers readers_leave (opens t) ts)
          (λ f s x b u e. steady-opened readers readers_steady (opens t) f s x b u e)
          (λ rule al ts x rest e. sound-opened levels readers (parts rule) (readers_sound rule al) (usage t) t
          (opens t) k ts x rest e) (λ x ts. leaves levels readers readers_leave (h (t, x)) ts)
          (opened_completes (usage t) t (opens t) p (other t) (covers t e) k)
          (λ q x. starts_of (h (t, x)) (other t) after (next (t, x) e) q) (λ x f s le k2. next (t, x) e p f s k2)
          front r (omega arith) (opened readers (opens t) (front ++ r)) refl
          (subst (λ (o : Outcome A). Shows o r) same s) in
          subst (λ (o : Outcome A). Completion {A = A}
          (λ rule ts a rest. Reads rule levels (parts rule) (bind (token class usage opens sample) h) ts a rest) p
          o first after (t ∷ front)) (sym same)
          (record {
            more = c.more;
            spelled = c.spelled;
            value = c.value;
            starts = λ none close f. absurd cc;
            reads = λ close f rule al le fo.
                let b = c.reads close f rule al le fo in (
                  (t, b.0),
                  b.1,
                  (
                    front ++ (c.more ++ close),
                    refl,
                    e,
                    al (record { opens = opens t; levels = levels; usage = usage t }) t (front ++ (c.more ++ close)) k,
                    b.2,
                  ),
                  b.3,
                );
          })
      go true e (Some why) k s =
          let empty : front ≡ [] = append_cancel_right front [] r s.0 in
          let c = bare-both (λ rule ts x rest. Opened (parts rule) (opens t) ts x rest)
          (λ rule x ts y rest. Reads rule levels (parts rule) (h (t, x)) ts y rest) p (λ t. true) (other t) after
          (opened_bare (opens t) p (other t) (covers t e))
          (λ q x. starts_of (h (t, x)) (other t) after (next (t, x) e) q) in
          record {
            more = c.more;
            spelled = c.spelled;
            value = c.value;
            starts = λ none close f. absurd cc;
            reads = λ close f rule al le fo.
                let b = c.reads close f rule al le in
                subst (λ (x : List Token). Reads rule levels (parts rule) (bind (token class usage opens sample) h)
                (t ∷ (x ++ (c.more ++ close))) c.value close) (sym empty) (
                  (t, b.0),
                  b.1,
                  (
                    c.more ++ close,
                    refl,
                    e,
                    fo (record { opens = opens t; levels = levels; usage = usage t }) k,
                    b.2,
                  ),
                  b.3,
                );
          }
      go false e o k s = absurd (no_limit t s.1)

  pub completes-when : {A : Type 0} (class : Token → Bool) (g h : Grammar A) (first other after : Token → Bool)
      → Completes g other after → Completes h first after → ((t : Token) → first t ≡ true → is_of class t ≡ false)
      → Completes (when class g h) first after
  completes-when class g h first other after c1 c2 far p [] r sh =
      subst (λ (x : List Token). Completion
      (λ rule ts a rest. Reads rule levels (parts rule) (when class g h) ts a rest) p
      (run levels readers (when class g h) x) first after []) (sym none) found
    where
      none : r ≡ []
      none = shows_no_front (run levels readers (when class g h) r) r
          (leaves levels readers readers_leave (when class g h) r) sh

      c : Bare (λ rule ts a rest. Reads rule levels (parts rule) (when class g h) ts a rest) p first after
      c = bare-when levels parts class g h first after (starts_of h first after c2) far p

      found : Completion (λ rule ts a rest. Reads rule levels (parts rule) (when class g h) ts a rest) p
          (run levels readers h []) first after []
      found = record {
        more = c.more;
        spelled = c.spelled;
        value = c.value;
        starts = λ none close k.
            c.starts close k;
        reads = λ close k rule al le fo. c.reads close k rule al le;
      }
  completes-when class g h first other after c1 c2 far p (t ∷ front) r sh = go (is_of class t) refl sh
    where
      go : (c : Bool) → is_of class t ≡ c
          → Shows (cond c (run levels readers g (t ∷ (front ++ r))) (run levels readers h (t ∷ (front ++ r)))) r
          → Completion (λ rule ts a rest. Reads rule levels (parts rule) (when class g h) ts a rest) p
          (cond c (run levels readers g (t ∷ (front ++ r))) (run levels readers h (t ∷ (front ++ r)))) first after
          (t ∷ front)
      go true e s =
          let c = c1 p (t ∷ front) r s in
          record {
            more = c.more;
            spelled = c.spelled;
            value = c.value;
            starts = λ none close k.
                absurd cc;
            reads = λ close k rule al le fo. inl (e, c.reads close k rule al le fo);
          }
      go false e s =
          let c = c2 p (t ∷ front) r s in
          record {
            more = c.more;
            spelled = c.spelled;
            value = c.value;
            starts = λ none close k.
                absurd cc;
            reads = λ close k rule al le fo. inr (e, c.reads close k rule al le fo);
          }

  module _ {A : Type 0} (class : A → Token → Bool) (usage : A → Token → TokenUse) (opens : A → Token → Option Part)
      (step : Token → Tree → A → Grammar A) (other : Token → Token → Bool) (after : Token → Bool)
      (covers : (a : A) (t : Token) → is_of (class a) t ≡ true → Covers (other t) (opens a t))
      (step_completes : (t : Token) (x : Tree) (a : A) → is_of (class a) t ≡ true
      → Completes (step t x a) (other t) after)
      (far : (a : A) (t : Token) → after t ≡ true → is_of (class a) t ≡ false) where
    abbrev Inside : Rule → A → Token → List Token → A → List Token → Type 0
    Inside rule a t inner y next =
        (x : Tree) × (mid : List Token) × Opened (parts rule) (opens a t) inner x mid
        × Reads rule levels (parts rule) (step t x a) mid y next

    abbrev Turn : Rule → A → Token → List Token → A → List Token → Type 0
    Turn rule a t inner y next =
        (rule (record { opens = opens a t; levels = levels; usage = usage a t }) (t ∷ inner) ≡ true) × (x : Tree)
        × (mid : List Token) × Opened (parts rule) (opens a t) inner x mid
        × Reads rule levels (parts rule) (step t x a) mid y next

    abbrev go_on : A → Token → List Token → Outcome A
    go_on a t inner = opened readers (opens a t) inner >>= λ x mid. run levels readers (step t x a) mid

    abbrev runs : ℕ → A → List Token → Outcome A
    runs n a ts = turns n class (λ a t. bar (record { opens = opens a t; levels = levels; usage = usage a t }) t)
        (λ a t inner. opened readers (opens a t) inner >>= λ x mid. run levels readers (step t x a) mid) a ts

    go_on_leaves : (a : A) (t : Token) (inner : List Token) → Leaves (rest_of (go_on a t inner)) inner
    go_on_leaves a t inner =
        leaves-bind (opened readers (opens a t) inner) (λ x mid. run levels readers (step t x a) mid) inner
        (leaves-opened readers readers_leave (opens a t) inner)
        (λ x mid. leaves levels readers readers_leave (step t x a) mid)

    runs_leaves : (n : ℕ) (a : A) (ts : List Token) → Leaves (rest_of (runs n a ts)) ts
    runs_leaves n a ts = leaves-turns class
        (λ a t. bar (record { opens = opens a t; levels = levels; usage = usage a t }) t)
        (λ a t inner. opened readers (opens a t) inner >>= λ x mid. run levels readers (step t x a) mid) go_on_leaves n
        a ts

    go_on_steady : (a : A) (t : Token) (f r x b : List Token) (s : Token) → rest_of (go_on a t (f ++ r)) ≡ s ∷ (b ++ r)
        → go_on a t (f ++ x) ≡ with_rest (s ∷ (b ++ x)) (go_on a t (f ++ r))
    go_on_steady a t f r x b s k =
        steady-bind (opened readers (opens a t) (f ++ r)) (opened readers (opens a t) (f ++ x))
        (λ y mid. run levels readers (step t y a) mid) (λ y mid. run levels readers (step t y a) mid) r x b s
        (λ y mid. leaves levels readers readers_leave (step t y a) mid)
        (λ u c h. steady-opened readers readers_steady (opens a t) f r x c u h)
        (λ y u c h l. steady levels readers readers_leave readers_steady (step t y a) (u ∷ c) r x b s l) k

    inside_sound : (rule : Rule) → Allows rule → (a : A) (t : Token)
        → bar (record { opens = opens a t; levels = levels; usage = usage a t }) t ≡ None
        → (inner : List Token) (y : A) (next : List Token) → go_on a t inner ≡ Took y next
        → Inside rule a t inner y next
    inside_sound rule al a t k inner y next e =
        let s = bind_took (opened readers (opens a t) inner) (λ x mid. run levels readers (step t x a) mid) y next e in (
          s.0,
          s.1,
          sound-opened levels readers (parts rule) (readers_sound rule al) (usage a t) t (opens a t) k inner
              s.0 s.1 s.2,
          sound rule al levels readers (parts rule) readers_leave (readers_sound rule al) (step t s.0 a)
              s.1 y next s.3,
        )

    inside_bare : (p : Position) (a : A) (t : Token) → is_of (class a) t ≡ true
        → Bare (λ rule inner y next. Inside rule a t inner y next) p (λ t. true) after
    inside_bare p a t h = bare-both (λ rule ts x rest. Opened (parts rule) (opens a t) ts x rest)
        (λ rule x ts y rest. Reads rule levels (parts rule) (step t x a) ts y rest) p (λ t. true) (other t) after
        (opened_bare (opens a t) p (other t) (covers a t h))
        (λ q x. starts_of (step t x a) (other t) after (step_completes t x a h) q)

    inside_completes : (p : Position) (a : A) (t : Token) → is_of (class a) t ≡ true
        → bar (record { opens = opens a t; levels = levels; usage = usage a t }) t ≡ None → (front r : List Token)
        → Shows (go_on a t (front ++ r)) r
        → Completion (λ rule inner y next. Inside rule a t inner y next) p (go_on a t (front ++ r)) (λ t. true) after
        front
    inside_completes p a t h k front r s =
        seq (λ ts. opened readers (opens a t) ts) (λ rule ts x rest. Opened (parts rule) (opens a t) ts x rest)
        (λ x ts. run levels readers (step t x a) ts)
        (λ rule x ts y rest. Reads rule levels (parts rule) (step t x a) ts y rest) p (λ t. true) (other t) after
        (length (front ++ r))
        (λ ts. leaves-opened readers readers_leave (opens a t) ts)
        (λ f s x b u e. steady-opened readers readers_steady (opens a t) f s x b u e)
        (λ rule al ts x rest e. sound-opened levels readers (parts rule) (readers_sound rule al) (usage a t) t
        (opens a t) k ts x rest e) (λ x ts. leaves levels readers readers_leave (step t x a) ts)
        (opened_completes (usage a t) t (opens a t) p (other t) (covers a t h) k)
        (λ q x. starts_of (step t x a) (other t) after (step_completes t x a h) q)
        (λ x f s le k2. step_completes t x a h p f s k2)
        front r (omega arith) (opened readers (opens a t) (front ++ r)) refl s

    completes-runs : (p : Position) (n : ℕ) (a : A) (front r : List Token) → length (front ++ r) ≤ n
        → Shows (runs n a (front ++ r)) r
        → Completion (λ rule ts b rest. Turns class (Turn rule) a ts b rest) p (runs n a (front ++ r)) after after front
    completes-runs p n a [] r le sh =
        record {
          more = [];
          spelled = tt;
          value = a;
          starts = λ none close k. k;
          reads = λ close k rule al le2 fo.
              stop (apart after (class a) (far a) close k);
        }
    completes-runs p zero a (t ∷ front) r le sh = absurd (omega arith)
    completes-runs p (suc n) a (t ∷ front) r le sh =
        go (is_of (class a) t) refl (bar (record { opens = opens a t; levels = levels; usage = usage a t }) t) refl sh
        (λ x f r2 le2 k2. completes-runs p n x f r2 le2 k2)
      where
        go : (c : Bool) → is_of (class a) t ≡ c → (o : Option SyntaxKind)
            → bar (record { opens = opens a t; levels = levels; usage = usage a t }) t ≡ o
            → Shows (cond c (unless o (t ∷ (front ++ r)) (go_on a t (front ++ r) >>= λ x mid. runs n x mid))
            (Took a (t ∷ (front ++ r)))) r
            → ((x : A) (f r2 : List Token) → length (f ++ r2) ≤ n → Shows (runs n x (f ++ r2)) r2
            → Completion (λ rule ts b rest. Turns class (Turn rule) x ts b rest) p (runs n x (f ++ r2)) after after f)
            → Completion (λ rule ts b rest. Turns class (Turn rule) a ts b rest) p
            (cond c (unless o (t ∷ (front ++ r)) (go_on a t (front ++ r) >>= λ x mid. runs n x mid))
            (Took a (t ∷ (front ++ r)))) after after (t ∷ front)
        go false h o k s again = absurd cc
        go true h (Some why) k s again =
            let empty : front ≡ [] = append_cancel_right front [] r s.0 in
            let c1 = inside_bare p a t h in
            record {
              more = c1.more;
              spelled = c1.spelled;
              value = c1.value;
              starts = λ none close f. absurd cc;
              reads = λ close f rule al le2 fo.
                  let i = c1.reads close f rule al le2 in
                  subst (λ (x : List Token). Turns class (Turn rule) a (t ∷ (x ++ (c1.more ++ close))) c1.value close)
                  (sym empty)
                  (turn h (fo (record { opens = opens a t; levels = levels; usage = usage a t }) k, i.0, i.1, i.2, i.3)
                  (stop (apart after (class c1.value) (far c1.value) close f)));
            }
        go true h None k s again =
            let c =
            seq (λ ts. go_on a t ts) (λ rule ts x rest. Inside rule a t ts x rest) (λ x ts. runs n x ts)
            (λ rule x ts b rest. Turns class (Turn rule) x ts b rest) p (λ t. true) after after n
            (λ ts. go_on_leaves a t ts) (λ f s x b t2 e. go_on_steady a t f s x b t2 e)
            (λ rule al ts x rest e. inside_sound rule al a t k ts x rest e)
            (λ x ts. runs_leaves n x ts)
            (inside_completes p a t h k)
            (λ q x. record {
              more = [];
              spelled = tt;
              value = x;
              starts = λ close f. f;
              reads = λ close f rule al le2.
                  stop (apart after (class x) (far x) close f);
            })
            again
            front r (omega arith) (go_on a t (front ++ r)) refl s in
            record {
              more = c.more;
              spelled = c.spelled;
              value = c.value;
              starts = λ none close f. absurd cc;
              reads = λ close f rule al le2 fo.
                  let b = c.reads close f rule al le2 fo in
                  let i = b.2 in
                  turn h (
                    al (record { opens = opens a t; levels = levels; usage = usage a t }) t
                        (front ++ (c.more ++ close)) k,
                    i.0,
                    i.1,
                    i.2,
                    i.3,
                  ) b.3;
            }

    pub completes-many : (a : A) → Completes (many class usage opens step a) after after
    completes-many a p front r sh = completes-runs p (length (front ++ r)) a front r (omega arith) sh
