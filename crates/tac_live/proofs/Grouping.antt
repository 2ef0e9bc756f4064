-- Which blocks groups have, as blocks are gone through one after the other.
use Rattle.std.proofs.Common.{◌≡◌, ◌≢◌, ℕ, ◌+◌, ◌<◌, ◌≤◌, Bool, true, false, not, ◌&&◌, ◌||◌, eqb, List, [], ◌∷◌, ◌++◌, length, get_or, replicate}
use Rattle.std.proofs.Common.{set, Option, Some, None, refl, sym, ap, ◌∙◌, subst, ⊎_elim, arith}
use Rattle.std.specs.Prelude.{slice_get}
use Rattle.std.proofs.lemmas.List.{length-set, get_or-set_same, get_or-set_other, get_or-replicate, length-replicate, set_past, get_or_past}
use Rattle.std.proofs.lemmas.Option.{slice_get-get_or, slice_get_past, get_or_from_slice_get}
use Rattle.std.proofs.lemmas.Bool.{cases_eq, cases_lt, cases_Bool, eqb-true, eq-eqb}
use Rattle.tac_form.specs.declared.graph.Step.{Step}
use Rattle.tac_form.specs.declared.graph.FlowBlock.{FlowBlock}
use Rattle.tac_form.specs.Live.{has, is_written}
use Rattle.tac_live.specs.Sets.{before_steps}
use Rattle.tac_live.specs.Flows.{group_at, put, all_put, is_turn, is_marked, all_marked, write_marked, Seen, exposed_unless, all_exposed, step_exposed}
use Rattle.tac_live.specs.Flows.{steps_exposed, block_exposed, write_put, steps_put, exposes, steps_write, in_block, AreGroupedTo}
use Rattle.tac_live.specs.Flows.{AreGrouped, AreBelow}

or-false : (a : Bool) → (a || false) ≡ a
or-false true = refl
or-false false = refl

or-assoc : (a b c : Bool) → ((a || b) || c) ≡ (a || (b || c))
or-assoc true b c = refl
or-assoc false b c = refl

pub eqb-other : (a b : ℕ) → a ≢ b → eqb a b ≡ false
eqb-other a b n = ⊎_elim (λ t. absurd (n (eqb-true a b t))) (λ f. f) (cases_Bool (eqb a b))

pub has-push : (xs : List ℕ) (x c : ℕ) → has (xs ++ x ∷ []) c ≡ (has xs c || eqb x c)
has-push [] x c = or-false (eqb x c)
has-push (y ∷ ys) x c = ap (λ b. eqb y c || b) (has-push ys x c) ∙ sym (or-assoc (eqb y c) (has ys c) (eqb x c))

pub put-long : (k x : ℕ) (gs : List (List ℕ)) → length (put k x gs) ≡ length gs
put-long k x gs = length-set gs k (get_or gs k [] ++ x ∷ [])

pub put-has : (k x : ℕ) (gs : List (List ℕ)) (t c : ℕ) → t < length gs → has (group_at (put k x gs) t) c ≡ (has (group_at gs t) c || (eqb x c && eqb k t))
put-has k x gs t c l =
    ⊎_elim
    (λ y.
    let h : k < length gs = omega (arith, y) in
    let e : group_at (put k x gs) t ≡ get_or gs k [] ++ x ∷ [] =
    ap (λ v. group_at (put k x gs) v) y ∙ get_or-set_same gs k (get_or gs k [] ++ x ∷ []) [] h in
    ap (λ v. has v c) e ∙ (has-push (get_or gs k []) x c
    ∙ (ap (λ v. has (get_or gs v []) c || eqb x c) (sym y) ∙ ap (λ b. has (group_at gs t) c || b) (sym (and-true (eqb x c)) ∙ ap (λ b. eqb x c && b) (sym (eq-eqb k t (sym y)))))))
    (λ n.
    ap (λ v. has v c) (get_or-set_other gs k t (get_or gs k [] ++ x ∷ []) [] n)
    ∙ sym (ap (λ b. has (group_at gs t) c || b) (ap (λ b. eqb x c && b) (eqb-other k t (λ e. n (sym e))) ∙ and-false (eqb x c)) ∙ or-false (has (group_at gs t) c)))
    (cases_eq t k)
  where
    and-true : (a : Bool) → (a && true) ≡ a
    and-true true = refl
    and-true false = refl

    and-false : (a : Bool) → (a && false) ≡ false
    and-false true = refl
    and-false false = refl

or-and : (a e p q : Bool) → ((a || (e && p)) || (e && q)) ≡ (a || (e && (p || q)))
or-and true e p q = refl
or-and false true p q = refl
or-and false false p q = refl

none-added : (a e : Bool) → a ≡ (a || (e && false))
none-added true e = refl
none-added false true = refl
none-added false false = refl

-- what a pass puts in for one block: those for which a test holds
pub record Adds (b : ℕ) (test : ℕ → Bool) (old new : List (List ℕ)) : Type 0 where
  pub long : length new ≡ length old
  pub holds : (t c : ℕ) → t < length old → has (group_at new t) c ≡ (has (group_at old t) c || (eqb b c && test t))

pub adds-none : (b : ℕ) (old : List (List ℕ)) → Adds b (λ t. false) old old
adds-none b old = record { long = refl; holds = λ t c l. none-added (has (group_at old t) c) (eqb b c) }

pub adds-one : (k b : ℕ) (old : List (List ℕ)) → Adds b (λ t. eqb k t) old (put k b old)
adds-one k b old = record { long = put-long k b old; holds = λ t c l. put-has k b old t c l }

pub then-adds : (b : ℕ) (p q : ℕ → Bool) (old mid new : List (List ℕ)) → Adds b p old mid → Adds b q mid new → Adds b (λ t. p t || q t) old new
then-adds b p q old mid new x y = record {
  long = y.long ∙ x.long;
  holds = λ t c l.
      y.holds t c (omega (arith, x.long)) ∙ (ap (λ v. v || (eqb b c && q t)) (x.holds t c l) ∙ or-and (has (group_at old t) c) (eqb b c) (p t) (q t));
}

pub adds-along : (b : ℕ) (p q : ℕ → Bool) (old new : List (List ℕ)) → ((t : ℕ) → t < length old → p t ≡ q t) → Adds b p old new → Adds b q old new
adds-along b p q old new e x = record {
  long = x.long;
  holds = λ t c l. x.holds t c l ∙ ap (λ v. has (group_at old t) c || (eqb b c && v)) (e t l);
}

pub all-adds : (ks : List ℕ) (b : ℕ) (old : List (List ℕ)) → Adds b (λ t. has ks t) old (all_put ks b old)
all-adds [] b old = adds-none b old
all-adds (k ∷ ks) b old =
    then-adds b (λ t. eqb k t) (λ t. has ks t) old (put k b old) (all_put ks b (put k b old)) (adds-one k b old) (all-adds ks b (put k b old))

write-adds : (w : Option ℕ) (b : ℕ) (old : List (List ℕ)) → Adds b (λ t. is_written w t) old (write_put w b old)
write-adds None b old = adds-none b old
write-adds (Some d) b old = adds-one d b old

pub steps-add : (ss : List Step) (b : ℕ) (old : List (List ℕ)) → Adds b (λ t. steps_write ss t) old (steps_put ss b old)
steps-add [] b old = adds-none b old
steps-add (s ∷ ss) b old =
    then-adds b (λ t. is_written s.write t) (λ t. steps_write ss t) old (write_put s.write b old) (steps_put ss b (write_put s.write b old))
    (write-adds s.write b old) (steps-add ss b (write_put s.write b old))

-- Marks
pub marked-set : (marks : List ℕ) (k turn t : ℕ) → t < length marks → is_marked (set marks k turn) t turn ≡ (is_marked marks t turn || eqb k t)
marked-set marks k turn t l =
    ⊎_elim
    (λ y.
    let g : slice_get (set marks k turn) t ≡ Some turn =
    slice_get-get_or (set marks k turn) t 0 (omega (arith, length-set marks k turn))
    ∙ ap Some (ap (λ v. get_or (set marks k turn) v 0) y ∙ get_or-set_same marks k turn 0 (omega (arith, y))) in
    ap (λ o. is_turn o turn) g ∙ (eq-eqb turn turn refl ∙ sym (ap (λ b. is_marked marks t turn || b) (eq-eqb k t (sym y)) ∙ or-true (is_marked marks t turn))))
    (λ n.
    let g : slice_get (set marks k turn) t ≡ slice_get marks t =
    slice_get-get_or (set marks k turn) t 0 (omega (arith, length-set marks k turn))
    ∙ (ap Some (get_or-set_other marks k t turn 0 n) ∙ sym (slice_get-get_or marks t 0 l)) in
    ap (λ o. is_turn o turn) g ∙ sym (ap (λ b. is_marked marks t turn || b) (eqb-other k t (λ e. n (sym e))) ∙ or-false (is_marked marks t turn)))
    (cases_eq t k)
  where
    or-true : (a : Bool) → (a || true) ≡ true
    or-true true = refl
    or-true false = refl

write-marked : (w : Option ℕ) (turn : ℕ) (marks : List ℕ) (t : ℕ) → t < length marks →
    is_marked (write_marked w turn marks) t turn ≡ (is_marked marks t turn || is_written w t)
write-marked None turn marks t l = sym (or-false (is_marked marks t turn))
write-marked (Some d) turn marks t l = marked-set marks d turn t l

write-marked-long : (w : Option ℕ) (turn : ℕ) (marks : List ℕ) → length (write_marked w turn marks) ≡ length marks
write-marked-long None turn marks = refl
write-marked-long (Some d) turn marks = length-set marks d turn

-- marks that lay below a turn lie below the next
pub set-low : (marks : List ℕ) (k m bound : ℕ) → m < bound → ((j : ℕ) → get_or marks j 0 < bound) → (j : ℕ) → get_or (set marks k m) j 0 < bound
set-low marks k m bound h low j =
    ⊎_elim
    (λ y.
    ⊎_elim
    (λ l. subst (λ v. v < bound) (sym (ap (λ v. get_or (set marks k m) v 0) y ∙ get_or-set_same marks k m 0 l)) h)
    (λ g. subst (λ v. get_or v j 0 < bound) (sym (set_past marks k m g)) (low j))
    (cases_lt k (length marks)))
    (λ n. subst (λ v. v < bound) (sym (get_or-set_other marks k j m 0 n)) (low j))
    (cases_eq j k)

pub below-next : (marks : List ℕ) (count turn : ℕ) → AreBelow marks count turn → AreBelow marks count (turn + 1)
below-next marks count turn b = record { long = b.long; below = λ k. let l = b.below k in omega arith }

pub below-set : (marks : List ℕ) (count k turn : ℕ) → AreBelow marks count (turn + 1) → AreBelow (set marks k turn) count (turn + 1)
below-set marks count k turn b = record {
  long = length-set marks k turn ∙ b.long;
  below = set-low marks k turn (turn + 1) (omega arith) b.below;
}

pub below-all : (ks : List ℕ) (marks : List ℕ) (count turn : ℕ) → AreBelow marks count (turn + 1) → AreBelow (all_marked ks turn marks) count (turn + 1)
below-all [] marks count turn b = b
below-all (k ∷ ks) marks count turn b = below-all ks (set marks k turn) count turn (below-set marks count k turn b)

pub not-marked : (marks : List ℕ) (count turn : ℕ) → AreBelow marks count turn → (k : ℕ) → is_marked marks k turn ≡ false
not-marked marks count turn b k = by-mark (slice_get marks k) refl
  where
    by-mark : (o : Option ℕ) → slice_get marks k ≡ o → is_turn o turn ≡ false
    by-mark None e = refl
    by-mark (Some m) e =
        let g : get_or marks k 0 ≡ m = get_or_from_slice_get marks k m 0 e in
        let l = b.below k in
        eqb-other m turn (λ y. absurd (omega (arith, g, y)))

pub all-marked-at : (ks : List ℕ) (marks : List ℕ) (turn t : ℕ) → t < length marks → is_marked (all_marked ks turn marks) t turn ≡ (is_marked marks t turn || has ks t)
all-marked-at [] marks turn t l = sym (or-false (is_marked marks t turn))
all-marked-at (k ∷ ks) marks turn t l =
    all-marked-at ks (set marks k turn) turn t (omega (arith, length-set marks k turn))
    ∙ (ap (λ b. b || has ks t) (marked-set marks k turn t l) ∙ or-assoc (is_marked marks t turn) (eqb k t) (has ks t))

pub none-marked : (count : ℕ) → AreBelow (replicate count 0) count 1
none-marked count = record { long = length-replicate count 0; below = λ k. zero-at k }
  where
    zero-at : (k : ℕ) → get_or (replicate count 0) k 0 < 1
    zero-at k =
        ⊎_elim
        (λ l. subst (λ v. v < 1) (sym (get_or-replicate {A = ℕ} count k 0 0 l)) (omega arith))
        (λ g. subst (λ v. v < 1) (sym (get_or_past (replicate count 0) k 0 (omega (arith, length-replicate {A = ℕ} count 0)))) (omega arith))
        (cases_lt k count)

-- What is read before it is written
exposed-adds : (ts : List ℕ) (b turn : ℕ) (marks : List ℕ) (old : List (List ℕ)) →
    Adds b (λ t. not (is_marked marks t turn) && has ts t) old (all_exposed ts b turn marks old)
exposed-adds [] b turn marks old = adds-along b (λ t. false) (λ t. not (is_marked marks t turn) && false) old old (λ t l. none (not (is_marked marks t turn))) (adds-none b old)
  where
    none : (a : Bool) → false ≡ (a && false)
    none true = refl
    none false = refl
exposed-adds (u ∷ us) b turn marks old =
    adds-along b (λ t. (not (is_marked marks t turn) && eqb u t) || (not (is_marked marks t turn) && has us t))
    (λ t. not (is_marked marks t turn) && (eqb u t || has us t)) old (all_exposed us b turn marks mid)
    (λ t l. both (not (is_marked marks t turn)) (eqb u t) (has us t))
    (then-adds b (λ t. not (is_marked marks t turn) && eqb u t) (λ t. not (is_marked marks t turn) && has us t) old mid (all_exposed us b turn marks mid)
    (by-mark (is_marked marks u turn) refl) (exposed-adds us b turn marks mid))
  where
    mid : List (List ℕ)
    mid = exposed_unless (is_marked marks u turn) u b old

    both : (m p q : Bool) → ((m && p) || (m && q)) ≡ (m && (p || q))
    both true p q = refl
    both false p q = refl

    at-u : (m : Bool) → is_marked marks u turn ≡ m → (t : ℕ) → (e : Bool) → eqb u t ≡ e → (not (is_marked marks t turn) && e) ≡ (not m && e)
    at-u m h t true e = ap (λ v. not v && true) (ap (λ v. is_marked marks v turn) (sym (eqb-true u t e)) ∙ h)
    at-u true h t false e = none (not (is_marked marks t turn))
      where
        none : (a : Bool) → (a && false) ≡ false
        none true = refl
        none false = refl
    at-u false h t false e = none (not (is_marked marks t turn))
      where
        none : (a : Bool) → (a && false) ≡ false
        none true = refl
        none false = refl

    by-mark : (m : Bool) → is_marked marks u turn ≡ m → Adds b (λ t. not (is_marked marks t turn) && eqb u t) old (exposed_unless m u b old)
    by-mark true h = adds-along b (λ t. false) (λ t. not (is_marked marks t turn) && eqb u t) old old (λ t l. sym (at-u true h t (eqb u t) refl)) (adds-none b old)
    by-mark false h = adds-along b (λ t. eqb u t) (λ t. not (is_marked marks t turn) && eqb u t) old (put u b old) (λ t l. sym (at-u false h t (eqb u t) refl)) (adds-one u b old)

pub record StepsSeen (ss : List Step) (b turn : ℕ) (old new : Seen) : Type 0 where
  pub long : length new.marks ≡ length old.marks
  pub marks : (t : ℕ) → t < length old.marks → is_marked new.marks t turn ≡ (is_marked old.marks t turn || steps_write ss t)
  pub groups : length old.groups ≤ length old.marks → Adds b (λ t. not (is_marked old.marks t turn) && before_steps ss false t) old.groups new.groups

pub steps-seen : (ss : List Step) (b turn : ℕ) (old : Seen) → StepsSeen ss b turn old (steps_exposed ss b turn old)
steps-seen [] b turn old = record {
  long = refl;
  marks = λ t l. sym (or-false (is_marked old.marks t turn));
  groups = λ h. adds-along b (λ t. false) (λ t. not (is_marked old.marks t turn) && false) old.groups old.groups (λ t l. none (not (is_marked old.marks t turn))) (adds-none b old.groups);
}
  where
    none : (a : Bool) → false ≡ (a && false)
    none true = refl
    none false = refl
steps-seen (s ∷ ss) b turn old =
    let r = steps-seen ss b turn (step_exposed s b turn old) in
    let k = write-marked-long s.write turn old.marks in
    let a = exposed-adds s.reads b turn old.marks old.groups in
    record {
      long = r.long ∙ k;
      marks = λ t l.
          r.marks t (omega (arith, k)) ∙ (ap (λ v. v || steps_write ss t) (write-marked s.write turn old.marks t l)
          ∙ or-assoc (is_marked old.marks t turn) (is_written s.write t) (steps_write ss t));
      groups = λ h.
          adds-along b
          (λ t. (not (is_marked old.marks t turn) && has s.reads t) || (not (is_marked (write_marked s.write turn old.marks) t turn) && before_steps ss false t))
          (λ t. not (is_marked old.marks t turn) && before_steps (s ∷ ss) false t) old.groups (steps_exposed ss b turn (step_exposed s b turn old)).groups
          (λ t l.
          ap (λ v. (not (is_marked old.marks t turn) && has s.reads t) || (not v && before_steps ss false t)) (write-marked s.write turn old.marks t (omega (arith, h)))
          ∙ joined (is_marked old.marks t turn) (has s.reads t) (is_written s.write t) (before_steps ss false t))
          (then-adds b (λ t. not (is_marked old.marks t turn) && has s.reads t)
          (λ t. not (is_marked (write_marked s.write turn old.marks) t turn) && before_steps ss false t)
          old.groups (all_exposed s.reads b turn old.marks old.groups) (steps_exposed ss b turn (step_exposed s b turn old)).groups a
          (r.groups (omega (arith, k, a.long))));
    }
  where
    joined : (m r w x : Bool) → ((not m && r) || (not (m || w) && x)) ≡ (not m && (r || (not w && x)))
    joined true r w x = refl
    joined false r w x = refl

-- before steps, what they read first, or what is live behind and not written
pub steps-parts : (ss : List Step) (after : Bool) (t : ℕ) → (before_steps ss false t || (not (steps_write ss t) && after)) ≡ before_steps ss after t
steps-parts [] after t = refl
steps-parts (s ∷ ss) after t =
    parts (has s.reads t) (is_written s.write t) (before_steps ss false t) (steps_write ss t) after
    ∙ ap (λ v. has s.reads t || (not (is_written s.write t) && v)) (steps-parts ss after t)
  where
    parts : (r w x y a : Bool) → ((r || (not w && x)) || (not (w || y) && a)) ≡ (r || (not w && (x || (not y && a))))
    parts true w x y a = refl
    parts false true x y a = refl
    parts false false x y a = refl

pub block-adds : (block : FlowBlock) (b turn : ℕ) (old : Seen) → length old.groups ≤ length old.marks → ((k : ℕ) → is_marked old.marks k turn ≡ false) →
    Adds b (λ t. exposes block t) old.groups (block_exposed block b turn old).groups
block-adds block b turn old h none =
    let mid = steps_exposed block.steps b turn old in
    let r = steps-seen block.steps b turn old in
    let g = r.groups h in
    adds-along b (λ t. (not (is_marked old.marks t turn) && before_steps block.steps false t) || (not (is_marked mid.marks t turn) && has block.reads t))
    (λ t. exposes block t) old.groups (block_exposed block b turn old).groups
    (λ t l.
    ap (λ v. (not (is_marked old.marks t turn) && before_steps block.steps false t) || (not v && has block.reads t)) (r.marks t (omega (arith, h)))
    ∙ (ap (λ v. (not v && before_steps block.steps false t) || (not (v || steps_write block.steps t) && has block.reads t)) (none t)
    ∙ steps-parts block.steps (has block.reads t) t))
    (then-adds b (λ t. not (is_marked old.marks t turn) && before_steps block.steps false t) (λ t. not (is_marked mid.marks t turn) && has block.reads t)
    old.groups mid.groups (block_exposed block b turn old).groups g (exposed-adds block.reads b turn mid.marks mid.groups))

write-low : (w : Option ℕ) (marks : List ℕ) (count turn : ℕ) → AreBelow marks count (turn + 1) → AreBelow (write_marked w turn marks) count (turn + 1)
write-low None marks count turn b = b
write-low (Some d) marks count turn b = below-set marks count d turn b

pub block-below : (ss : List Step) (b turn count : ℕ) (old : Seen) → AreBelow old.marks count (turn + 1) → AreBelow (steps_exposed ss b turn old).marks count (turn + 1)
block-below [] b turn count old h = h
block-below (s ∷ ss) b turn count old h = block-below ss b turn count (step_exposed s b turn old) (write-low s.write old.marks count turn h)

-- one block after the other
pub grouped-none : (graph : List FlowBlock) (count : ℕ) (test : FlowBlock → ℕ → Bool) (groups : List (List ℕ)) → groups ≡ replicate count [] →
    AreGroupedTo graph count 0 test groups
grouped-none graph count test groups e = record {
  long = ap length e ∙ length-replicate count [];
  below = λ k b l h. absurd (omega arith);
  above = λ k b l h. ap (λ v. has (group_at v k) b) e ∙ ap (λ v. has v b) (get_or-replicate count k [] [] l);
}

pub grouped-turn : (graph : List FlowBlock) (count i : ℕ) (test : FlowBlock → ℕ → Bool) (block : FlowBlock) (old new : List (List ℕ)) → slice_get graph i ≡ Some block →
    AreGroupedTo graph count i test old → Adds i (λ t. test block t) old new → AreGroupedTo graph count (i + 1) test new
grouped-turn graph count i test block old new g was a = record {
  long = a.long ∙ was.long;
  below = λ k b l h.
      ⊎_elim
      (λ y.
      a.holds k b (omega (arith, was.long)) ∙ (ap (λ v. v || (eqb i b && test block k)) (was.above k b l (omega arith))
      ∙ (ap (λ v. v && test block k) (eq-eqb i b (sym y)) ∙ ap (λ o. in_block test o k) (sym g ∙ ap (λ v. slice_get graph v) (sym y)))))
      (λ n.
      a.holds k b (omega (arith, was.long)) ∙ (ap (λ v. has (group_at old k) b || (v && test block k)) (eqb-other i b (λ e. n (sym e)))
      ∙ (or-false (has (group_at old k) b) ∙ was.below k b l (omega (arith, n)))))
      (cases_eq b i);
  above = λ k b l h.
      a.holds k b (omega (arith, was.long)) ∙ (ap (λ v. has (group_at old k) b || (v && test block k)) (eqb-other i b (λ e. absurd (omega (arith, e))))
      ∙ (or-false (has (group_at old k) b) ∙ was.above k b l (omega arith)));
}

pub grouped-all : (graph : List FlowBlock) (count i : ℕ) (test : FlowBlock → ℕ → Bool) (groups : List (List ℕ)) → length graph ≤ i →
    AreGroupedTo graph count i test groups → AreGrouped graph count test groups
grouped-all graph count i test groups h a = record {
  long = a.long;
  holds = λ k b l.
      ⊎_elim
      (λ m. a.below k b l m)
      (λ m. a.above k b l m ∙ sym (ap (λ o. in_block test o k) (slice_get_past graph b (omega arith))))
      (cases_lt b i);
}
