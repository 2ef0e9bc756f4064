-- The layers that are suspended, and what the first question comes to.
use Rattle.std.proofs.Common.{◌≡◌, ℕ, zero, suc, ◌+◌, ◌≤◌, List, [], ◌∷◌, ◌++◌, Option, Some, None, refl, sym, ap, ◌∙◌, subst, arith}
use Rattle.std.proofs.Math.Path.{fun_ext}
use Rattle.tl_base.specs.Layer.{State, Given, Seen, Ended, SpentAt, Asks, Meaning, at}
use Rattle.stage_form.specs.Stage.{Stage, Final, Finished, Exhausted, after, on_question, on_end, fed}

on_end-more : {W E : Type 0} (o o' : Option (Final W E)) (go go' : E → State W → Option (Final W E)) → ((out : Final W E) → o ≡ Some out → o' ≡ Some out) → ((e : E) (s : State W) (out : Final W E) → go e s ≡ Some out → go' e s ≡ Some out) → (out : Final W E) → on_end o go ≡ Some out → on_end o' go' ≡ Some out
on_end-more None o' go go' f g out h = cc
on_end-more (Some (Finished e s)) o' go go' f g out h = rw (f (Finished e s) refl) (g e s out h)
on_end-more (Some (Exhausted s)) o' go go' f g out h = rw (f (Exhausted s) refl) h

on_question-more : {W Q E : Type 0} (seen : Seen W Q E) (go go' : Q → State W → Option (Final W E)) → ((q : Q) (s : State W) (out : Final W E) → go q s ≡ Some out → go' q s ≡ Some out) → (out : Final W E) → on_question seen go ≡ Some out → on_question seen go' ≡ Some out
on_question-more (Ended e s) go go' g out h = h
on_question-more (SpentAt s) go go' g out h = h
on_question-more (Asks q s) go go' g out h = g q s out h

-- what comes out at n comes out at each larger one
pub fed-more : {W Q A E : Type 0} (stage : Stage W Q A E) (n m : ℕ) (meaning : Meaning W Q A E) (answer : Given W A) (out : Final W E) → fed stage n meaning answer ≡ Some out → n ≤ m → fed stage m meaning answer ≡ Some out
unfolding fed
fed-more stage zero m meaning answer out h b = cc
fed-more stage (suc n) zero meaning answer out h b = absurd (omega arith)
fed-more stage (suc n) (suc m) meaning answer out h b =
    on_question-more (meaning answer [])
    (λ q s. on_end (fed stage n (stage.meaning q) (at stage.go s)) (λ e s'. fed stage n (after meaning answer) (at (stage.answer_of e) s')))
    (λ q s. on_end (fed stage m (stage.meaning q) (at stage.go s)) (λ e s'. fed stage m (after meaning answer) (at (stage.answer_of e) s')))
    (λ q s o k.
    on_end-more (fed stage n (stage.meaning q) (at stage.go s)) (fed stage m (stage.meaning q) (at stage.go s))
    (λ e s'. fed stage n (after meaning answer) (at (stage.answer_of e) s'))
    (λ e s'. fed stage m (after meaning answer) (at (stage.answer_of e) s'))
    (λ o' k'. fed-more stage n m (stage.meaning q) (at stage.go s) o' k' (omega arith))
    (λ e s' o' k'. fed-more stage n m (after meaning answer) (at (stage.answer_of e) s') o' k' (omega arith)) o k)
    out h

-- two meanings that give the same of all answers are one
pub same_meaning : {W Q A E : Type 0} (c d : Meaning W Q A E) → ((first : Given W A) (later : List (Given W A)) → c first later ≡ d first later) → c ≡ d
same_meaning c d h = fun_ext (λ first. fun_ext (λ later. h first later))

-- what a layer comes to, given its next answer
pub record Reaches {W Q A E : Type 0} (stage : Stage W Q A E) (meaning : Meaning W Q A E) (answer : Given W A) (out : Final W E) : Type 0 where
  pub n : ℕ
  pub at_n : fed stage n meaning answer ≡ Some out

-- what a layer comes to, given what its question came to
abbrev pub Passes : {W Q A E : Type 0} → Stage W Q A E → Meaning W Q A E → Final W E → Final W E → Type 0
Passes stage meaning (Finished e s) out = Reaches stage meaning (at (stage.answer_of e) s) out
Passes stage meaning (Exhausted s) out = Exhausted s ≡ out

-- what the lowest of the layers comes to, given what the question of the uppermost came to
abbrev pub Unwinds : {L W Q A E : Type 0} → Stage W Q A E → (L → Meaning W Q A E) → List L → Final W E → Final W E → Type 0
Unwinds stage rest [] out final = out ≡ final
Unwinds {L} {W} {Q} {A} {E} stage rest (l ∷ ls) out final = (mid : Final W E) × Unwinds stage rest ls out mid × Passes stage (rest l) mid final

-- where a layer comes to an end, so do the layers below it, and the first question with them
abbrev pub Leads : {L W Q A E : Type 0} → Stage W Q A E → (L → Meaning W Q A E) → Q → State W → List L → L → Given W A → Type 0
Leads {L} {W} {Q} {A} {E} stage rest question s ls l next =
    (out final : Final W E) → Reaches stage (rest l) next out → Unwinds stage rest ls out final → Reaches stage (stage.meaning question) (at stage.go s) final

pub reaches_end : {W Q A E : Type 0} (stage : Stage W Q A E) (meaning : Meaning W Q A E) (answer : Given W A) (e : E) (s : State W) → meaning answer [] ≡ Ended e s → Reaches stage meaning answer (Finished e s)
unfolding fed
reaches_end stage meaning answer e s h = record {
  n = 1;
  at_n = ap (λ o. on_question o (λ q s1. on_end (fed stage 0 (stage.meaning q) (at stage.go s1)) (λ e1 s2. fed stage 0 (after meaning answer) (at (stage.answer_of e1) s2)))) h;
}

pub reaches_spent : {W Q A E : Type 0} (stage : Stage W Q A E) (meaning : Meaning W Q A E) (answer : Given W A) (s : State W) → meaning answer [] ≡ SpentAt s → Reaches stage meaning answer (Exhausted s)
unfolding fed
reaches_spent stage meaning answer s h = record {
  n = 1;
  at_n = ap (λ o. on_question o (λ q s1. on_end (fed stage 0 (stage.meaning q) (at stage.go s1)) (λ e1 s2. fed stage 0 (after meaning answer) (at (stage.answer_of e1) s2)))) h;
}

-- a layer that asks comes to what it comes to with what its question came to
pub reaches_asked : {W Q A E : Type 0} (stage : Stage W Q A E) (old new : Meaning W Q A E) (first : Given W A) (q : Q) (s : State W) (mid out : Final W E) → old first [] ≡ Asks q s → ((next : Given W A) (later : List (Given W A)) → old first (next ∷ later) ≡ new next later) → Reaches stage (stage.meaning q) (at stage.go s) mid → Passes stage new mid out → Reaches stage old first out
unfolding fed
reaches_asked stage old new first q s (Finished e t) out h law r p =
    let k = r.n + p.n in
    record {
      n = suc k;
      at_n =
          ap (λ o. on_question o (λ q1 s1. on_end (fed stage k (stage.meaning q1) (at stage.go s1)) (λ e1 s2. fed stage k (after old first) (at (stage.answer_of e1) s2)))) h
          ∙ ap (λ o. on_end o (λ e1 s2. fed stage k (after old first) (at (stage.answer_of e1) s2))) (fed-more stage r.n k (stage.meaning q) (at stage.go s) (Finished e t) r.at_n (omega arith))
          ∙ ap (λ m. fed stage k m (at (stage.answer_of e) t)) (same_meaning (after old first) new law)
          ∙ fed-more stage p.n k new (at (stage.answer_of e) t) out p.at_n (omega arith);
    }
reaches_asked stage old new first q s (Exhausted t) out h law r p = record {
  n = suc r.n;
  at_n =
      ap (λ o. on_question o (λ q1 s1. on_end (fed stage r.n (stage.meaning q1) (at stage.go s1)) (λ e1 s2. fed stage r.n (after old first) (at (stage.answer_of e1) s2)))) h
      ∙ ap (λ o. on_end o (λ e1 s2. fed stage r.n (after old first) (at (stage.answer_of e1) s2))) r.at_n
      ∙ ap Some p;
}

pub unwinds-push : {L W Q A E : Type 0} (stage : Stage W Q A E) (rest : L → Meaning W Q A E) (ls : List L) (l : L) (out mid final : Final W E) → Passes stage (rest l) out mid → Unwinds stage rest ls mid final → Unwinds stage rest (ls ++ l ∷ []) out final
unwinds-push stage rest [] l out mid final p u = (out, refl, subst (λ f. Passes stage (rest l) out f) u p)
unwinds-push stage rest (k ∷ ls) l out mid final p u = (u.0, unwinds-push stage rest ls l out mid u.0 p u.1, u.2)

pub unwinds-pop : {L W Q A E : Type 0} (stage : Stage W Q A E) (rest : L → Meaning W Q A E) (ls : List L) (l : L) (out final : Final W E) → Unwinds stage rest (ls ++ l ∷ []) out final → (mid : Final W E) × Passes stage (rest l) out mid × Unwinds stage rest ls mid final
unwinds-pop stage rest [] l out final u = (final, subst (λ o. Passes stage (rest l) o final) (sym u.1) u.2, refl)
unwinds-pop stage rest (k ∷ ls) l out final u = let r = unwinds-pop stage rest ls l out u.0 u.1 in (r.0, r.1, (u.0, r.2, u.2))

pub unwinds_spent : {L W Q A E : Type 0} (stage : Stage W Q A E) (rest : L → Meaning W Q A E) (ls : List L) (s : State W) → Unwinds stage rest ls (Exhausted s) (Exhausted s)
unwinds_spent stage rest [] s = refl
unwinds_spent stage rest (l ∷ ls) s = (Exhausted s, unwinds_spent stage rest ls s, refl)

-- the first layer leads to what it comes to
pub leads_first : {L W Q A E : Type 0} (stage : Stage W Q A E) (rest : L → Meaning W Q A E) (question : Q) (s : State W) (l : L) → ((first : Given W A) (later : List (Given W A)) → rest l first later ≡ stage.meaning question first later) → Leads stage rest question s [] l (at stage.go s)
leads_first stage rest question s l means = λ out final r u.
    subst (λ o. Reaches stage (stage.meaning question) (at stage.go s) o) u
    (subst (λ m. Reaches stage m (at stage.go s) out) (same_meaning (rest l) (stage.meaning question) means) r)

-- a layer that ended leads to where the one below it leads with that answer
pub leads_ended : {L W Q A E : Type 0} (stage : Stage W Q A E) (rest : L → Meaning W Q A E) (question : Q) (s : State W) (ls ls2 : List L) (l l2 : L) (next : Given W A) (e : E) (t : State W) → Leads stage rest question s ls l next → ls ≡ ls2 ++ l2 ∷ [] → rest l next [] ≡ Ended e t → Leads stage rest question s ls2 l2 (at (stage.answer_of e) t)
leads_ended stage rest question s ls ls2 l l2 next e t leads popped turn = λ out final r u.
    leads (Finished e t) final (reaches_end stage (rest l) next e t turn)
    (rw popped (unwinds-push stage rest ls2 l2 (Finished e t) out final r u))

-- a layer that asked leads to where the layer of its question leads, above it
pub leads_asked : {L W Q A E : Type 0} (stage : Stage W Q A E) (rest : L → Meaning W Q A E) (question : Q) (s : State W) (ls ls2 : List L) (l l1 l2 : L) (next : Given W A) (q : Q) (t : State W) → Leads stage rest question s ls l next → ls2 ≡ ls ++ l1 ∷ [] → rest l next [] ≡ Asks q t → ((first : Given W A) (later : List (Given W A)) → rest l next (first ∷ later) ≡ rest l1 first later) → ((first : Given W A) (later : List (Given W A)) → rest l2 first later ≡ stage.meaning q first later) → Leads stage rest question s ls2 l2 (at stage.go t)
leads_asked stage rest question s ls ls2 l l1 l2 next q t leads pushed turn goes_on means = λ out final r u.
    let below = unwinds-pop stage rest ls l1 out final (rw pushed at u) in
    let begun = subst (λ m. Reaches stage m (at stage.go t) out) (same_meaning (rest l2) (stage.meaning q) means) r in
    leads below.0 final (reaches_asked stage (rest l) (rest l1) next q t out below.0 turn goes_on begun below.1) below.2

-- a layer has asked, and goes on with each answer that may follow its question; since then what is kept was kept
pub record Waits {L W Q A : Type 0} (fits : L → Given W A → Type 0) (follows : Q → State W → Given W A → Type 0) (keeps : W → W → Type 0) (l : L) (now : State W) : Type 0 where
  pub question : Q
  pub asked : State W
  pub fits_next : (next : Given W A) → follows question asked next → fits l next
  pub kept : keeps asked.world now.world
  pub paid : now.left ≤ asked.left

-- all layers have asked
abbrev pub AllWait : {L W Q A : Type 0} → (L → Given W A → Type 0) → (Q → State W → Given W A → Type 0) → (W → W → Type 0) → List L → State W → Type 0
AllWait fits follows keeps [] now = Unit {0}
AllWait fits follows keeps (l ∷ ls) now = Waits fits follows keeps l now × AllWait fits follows keeps ls now

pub all_wait-push : {L W Q A : Type 0} (fits : L → Given W A → Type 0) (follows : Q → State W → Given W A → Type 0) (keeps : W → W → Type 0) (ls : List L) (l : L) (now : State W) → AllWait fits follows keeps ls now → Waits fits follows keeps l now → AllWait fits follows keeps (ls ++ l ∷ []) now
all_wait-push fits follows keeps [] l now a w = (w, tt)
all_wait-push fits follows keeps (k ∷ ls) l now a w = (a.0, all_wait-push fits follows keeps ls l now a.1 w)

pub all_wait-pop : {L W Q A : Type 0} (fits : L → Given W A → Type 0) (follows : Q → State W → Given W A → Type 0) (keeps : W → W → Type 0) (ls : List L) (l : L) (now : State W) → AllWait fits follows keeps (ls ++ l ∷ []) now → AllWait fits follows keeps ls now × Waits fits follows keeps l now
all_wait-pop fits follows keeps [] l now a = (tt, a.0)
all_wait-pop fits follows keeps (k ∷ ls) l now a = let r = all_wait-pop fits follows keeps ls l now a.1 in ((a.0, r.0), r.1)

-- a turn keeps them waiting
pub all_wait-on : {L W Q A : Type 0} (fits : L → Given W A → Type 0) (follows : Q → State W → Given W A → Type 0) (keeps : W → W → Type 0) → ((u v w : W) → keeps u v → keeps v w → keeps u w) → (ls : List L) (s t : State W) → keeps s.world t.world → t.left ≤ s.left → AllWait fits follows keeps ls s → AllWait fits follows keeps ls t
all_wait-on fits follows keeps keeps_on [] s t k p a = tt
all_wait-on fits follows keeps keeps_on (l ∷ ls) s t k p a = (
  record { question = a.0.question; asked = a.0.asked; fits_next = a.0.fits_next; kept = keeps_on a.0.asked.world s.world t.world a.0.kept k; paid = omega (arith, a.0.paid, p) },
  all_wait-on fits follows keeps keeps_on ls s t k p a.1,
)
