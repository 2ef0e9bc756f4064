-- The test of a `for`: whether it goes on to its value, for steps above zero, below it, and zero.
use Rattle.std.proofs.Common.{◌≡◌, ◌≢◌, ℕ, zero, suc, ◌+◌, ◌<◌, Bool, true, false, List, refl, sym, ap, ◌∙◌, subst, arith}
use Rattle.std.specs.Prelude.{◌^◌, ◌%◌, not, ◌&&◌, ◌||◌, nat_eq, nat_le, nat_lt, if◌then◌else◌}
use Rattle.std.proofs.lemmas.Bool.{eqb-true, leb-true, leb-false, lt-ltb, le-ltb}
use Rattle.tl_base.specs.declared.ids.TypeId.{TypeId}
use Rattle.terra_words.specs.declared.words.BinaryOperator.{BinaryOperator}
use Rattle.terra_words.specs.declared.words.BinaryOperator.TheVariants as operators
use Rattle.terra_words.specs.declared.words.Width.{Width}
use Rattle.terra_words.specs.Words.{wrapped, applied, divides, is_less, is_negative, flag}
use Rattle.terra_words.specs.Runs.{Value, word, number, is_true}
use Rattle.terra_types.specs.declared.types.TypeForm.TheVariants as forms
use Rattle.terra_types.specs.Opening.{boolean}
use Rattle.terra_term.specs.declared.lists.TypedName.{TypedName}
use Rattle.terra_meaning.specs.Values.{form_at, IsValue}
use Rattle.terra_meaning.specs.Running.{State, Got, Gives}
use Rattle.terra_meaning.specs.Meaning as meaning
use Rattle.terra_meaning.specs.Meaning.{the_value}
use Rattle.tac_form.specs.declared.tac.Number.{Number}
use Rattle.tac_form.specs.declared.tac.Operand.{Operand}
use Rattle.tac_form.specs.declared.tac.Operand.TheVariants.{Temp, Constant}
use Rattle.tac_form.specs.Flow as flow
use Rattle.tac_lower.specs.Pieces.{Used, with_temp, Piece, known, then_piece, Result, a_word, word_of, Holders, whole_word, compute}
use Rattle.tac_lower.specs.Lowering.{Counting, is_one, either_way, with_step, runs}
use Rattle.tac_lower.proofs.Standing.{Setting, Private, word_in, Means}
use Rattle.tac_lower.proofs.Simulates.{Fact, one_of, KnowsAll, Sim, then_sim}
use Rattle.tac_lower.proofs.Words.{width_by}
use Rattle.tac_lower.proofs.Writes.{nat_eq-ne, known_sim}
use Rattle.tac_lower.proofs.Loads.{AreWords, compute_sim}
use Rattle.tac_lower.proofs.Shorts.{plain-bool}

-- a bool's word
flag-again : (b : Bool) → wrapped (width_by forms.Bool) (flag b) ≡ flag b
unfolding wrapped
flag-again true = refl
flag-again false = refl

pub good-flag : (z : Setting) (of : TypeId) (b : Bool) → form_at z.types of ≡ forms.Bool → IsValue z.types of (word (flag b))
good-flag z of b e = (plain-bool z.types of e, subst (λ f. wrapped (width_by f) (flag b) ≡ flag b) (sym e) (flag-again b))

pub true-flag : (b : Bool) → is_true (word (flag b)) ≡ b
true-flag true = refl
true-flag false = refl

-- what a part gives that always gives the same
pub fixed_sim : {A B : Type 0} {z : Setting} {n : ℕ} {names names' : List TypedName} {scope scope' : Holders} {facts : List Fact} {u : Used}
    {r : Piece A} {post : B → Fact} (b : B) → Sim z n names scope facts u r (λ s. Gives b s) names' scope' post →
    Sim z n names scope facts u r (λ s. Gives b s) names' scope' (λ c. post b)
fixed_sim b x = record { grown = x.grown; over = x.over; run = x.run }

-- a word that is a bool's
abbrev pub bit : Result → Bool → Fact
bit r b = one_of the_value boolean r (word (flag b))

abbrev Bit : Setting → Holders → List Fact → Operand → Bool → Type 0
Bit z scope facts o b = (u : Used) (k : Private) → KnowsAll z scope u facts k → word_in k o ≡ flag b

bit_sim : {z : Setting} {n : ℕ} {names : List TypedName} {scope : Holders} {facts : List Fact} (u : Used) (op : BinaryOperator)
    (form : Number) (a b : Operand) (x y : ℕ) (t : Bool) → AreWords z scope facts a b x y → (divides op && nat_eq y 0) ≡ false →
    applied (flow.width_of form) op x y ≡ flag t →
    Sim z n names scope facts u (compute op form a b u) (λ s. Gives (word (flag t)) s) names scope (λ v. bit (a_word (Temp u.temps)) t)
bit_sim {z} u op form a b x y t words safe is =
    fixed_sim (word (flag t))
    (compute_sim u the_value boolean op form a b x y (word (flag t)) words safe (ap word is) (good-flag z boolean t z.boolean_is))

both-bits : (a b : Bool) → applied (flow.width_of whole_word) operators.And (flag a) (flag b) ≡ flag (a && b)
unfolding applied wrapped
both-bits true true = refl
both-bits true false = refl
both-bits false true = refl
both-bits false false = refl

either-bits : (a b : Bool) → applied (flow.width_of whole_word) operators.Or (flag a) (flag b) ≡ flag (a || b)
unfolding applied wrapped
either-bits true true = refl
either-bits true false = refl
either-bits false true = refl
either-bits false false = refl

less-bit : (w : Width) (x y : ℕ) → applied w operators.Less x y ≡ flag (is_less w x y)
unfolding applied
less-bit w x y = refl

greater-bit : (w : Width) (x y : ℕ) → applied w operators.Greater x y ≡ flag (is_less w y x)
unfolding applied
greater-bit w x y = refl

unequal-bit : (w : Width) (x y : ℕ) → applied w operators.NotEqual x y ≡ flag (not (nat_eq x y))
unfolding applied
unequal-bit w x y = refl

-- the words of a `for`
pub record Counts (k : Private) (c : Counting) (i l st : ℕ) : Type 0 where
  pub value : k.temps c.value ≡ i
  pub limit : word_in k c.limit ≡ l
  pub step : word_in k c.step ≡ st

abbrev pub AreCounts : Setting → Holders → List Fact → Counting → (i l st : ℕ) → Type 0
AreCounts z scope facts c i l st = (u : Used) (k : Private) → KnowsAll z scope u facts k → Counts k c i l st

-- whether it goes on, told by tests

and-true : (b : Bool) → (b && true) ≡ b
and-true true = refl
and-true false = refl

and-false : (b : Bool) → (b && false) ≡ false
and-false true = refl
and-false false = refl

or-false : (b : Bool) → (b || false) ≡ b
or-false true = refl
or-false false = refl

runs-plain : (w : Width) (i l st : ℕ) → w.signed ≡ false → (is_less w i l && not (nat_eq st 0)) ≡ meaning.runs w i l st
runs-plain w i l zero e = and-false (is_less w i l)
runs-plain w i l (suc st) e =
    let some : suc st ≢ 0 = omega arith in
    ap (λ t. is_less w i l && not t) (nat_eq-ne (suc st) 0 some) ∙ and-true (is_less w i l) ∙ ap
    (λ b. if b && is_negative (suc st) then is_less w l i else is_less w i l) (sym e)

runs-one : (w : Width) (i l : ℕ) → is_less w i l ≡ meaning.runs w i l 1
runs-one w i l = sym (ap (λ b. if b then is_less w l i else is_less w i l) (and-false w.signed))

-- a step with a sign is below zero, above it, or zero
below-zero : (st : ℕ) → st < 2 ^ 64 → nat_lt ((st + 2 ^ 63) % 2 ^ 64) ((0 + 2 ^ 63) % 2 ^ 64) ≡ is_negative st
below-zero st small = by (is_negative st) refl
  where
    by : (b : Bool) → nat_le (2 ^ 63) st ≡ b → nat_lt ((st + 2 ^ 63) % 2 ^ 64) (2 ^ 63) ≡ b
    by true e =
        let h = leb-true (2 ^ 63) st e in
        lt-ltb ((st + 2 ^ 63) % 2 ^ 64) (2 ^ 63) (omega (arith, h, small))
    by false e =
        let h = leb-false (2 ^ 63) st e in
        le-ltb ((st + 2 ^ 63) % 2 ^ 64) (2 ^ 63) (omega (arith, h, small))

above-zero : (st : ℕ) → suc st < 2 ^ 64 → nat_lt ((0 + 2 ^ 63) % 2 ^ 64) ((suc st + 2 ^ 63) % 2 ^ 64) ≡ not (is_negative (suc st))
above-zero st small = by (is_negative (suc st)) refl
  where
    by : (b : Bool) → nat_le (2 ^ 63) (suc st) ≡ b → nat_lt (2 ^ 63) ((suc st + 2 ^ 63) % 2 ^ 64) ≡ not b
    by true e =
        let h = leb-true (2 ^ 63) (suc st) e in
        le-ltb (2 ^ 63) ((suc st + 2 ^ 63) % 2 ^ 64) (omega (arith, h, small))
    by false e =
        let h = leb-false (2 ^ 63) (suc st) e in
        lt-ltb (2 ^ 63) ((suc st + 2 ^ 63) % 2 ^ 64) (omega (arith, h, small))

choose : (n down up : Bool) → ((n && down) || (not n && up)) ≡ (if n then down else up)
choose true true up = refl
choose true false up = refl
choose false down up = refl

signed-less : (w : Width) (x y : ℕ) → w.signed ≡ true → is_less w x y ≡ nat_lt ((x + 2 ^ 63) % 2 ^ 64) ((y + 2 ^ 63) % 2 ^ 64)
signed-less w x y e = ap (λ b. if b then nat_lt ((x + 2 ^ 63) % 2 ^ 64) ((y + 2 ^ 63) % 2 ^ 64) else nat_lt x y) e

runs-signed : (w : Width) (i l st : ℕ) → w.signed ≡ true → st < 2 ^ 64 →
    ((is_less w st 0 && is_less w l i) || (is_less w 0 st && is_less w i l)) ≡ meaning.runs w i l st
runs-signed w i l zero e small =
    ap (λ b. (b && is_less w l i) || (b && is_less w i l)) (signed-less w 0 0 e ∙ le-ltb (2 ^ 63) (2 ^ 63) (omega arith))
runs-signed w i l (suc st) e small =
    ap (λ b. (b && is_less w l i) || (is_less w 0 (suc st) && is_less w i l)) (signed-less w (suc st) 0 e ∙ below-zero (suc st) small)
    ∙ ap (λ b. (is_negative (suc st) && is_less w l i) || (b && is_less w i l)) (signed-less w 0 (suc st) e ∙ above-zero st small)
    ∙ choose (is_negative (suc st)) (is_less w l i) (is_less w i l)
    ∙ ap (λ b. if b && is_negative (suc st) then is_less w l i else is_less w i l) (sym e)

-- the code of the test

either_way_sim : {z : Setting} {n : ℕ} {names : List TypedName} {scope : Holders} {facts : List Fact} (u : Used) (c : Counting)
    (below : Operand) (i l st : ℕ) (w : Width) → flow.width_of c.number ≡ w → AreCounts z scope facts c i l st →
    Bit z scope facts below (is_less w i l) →
    Sim z n names scope facts u (either_way c below u)
    (λ s. Gives (word (flag ((is_less w st 0 && is_less w l i) || (is_less w 0 st && is_less w i l)))) s) names scope
    (λ v. bit (either_way c below u).result ((is_less w st 0 && is_less w l i) || (is_less w 0 st && is_less w i l)))
either_way_sim {z} {n} {names} {scope} {facts} u c below i l st w wide counts is_below =
    let all = (is_less w st 0 && is_less w l i) || (is_less w 0 st && is_less w i l) in
    let on : Value → State → Got Value = λ v s. Gives (word (flag all)) s in
    let u1 = with_temp u in
    let u2 = with_temp u1 in
    let u3 = with_temp u2 in
    let u4 = with_temp u3 in
    let u5 = with_temp u4 in
    let t : ℕ → Result = λ m. a_word (Temp m) in
    then_sim {mid = λ v. bit (t u.temps) (is_less w l i)}
    (λ above v1. then_piece (compute operators.Less c.number c.step (Constant 0) v1) (λ falls v2.
    then_piece (compute operators.Greater c.number c.step (Constant 0) v2) (λ rises v3.
    then_piece (compute operators.And whole_word (word_of falls) (word_of above) v3) (λ falling v4.
    then_piece (compute operators.And whole_word (word_of rises) below v4) (λ rising v5.
    compute operators.Or whole_word (word_of falling) (word_of rising) v5))))) on (word 0)
    (bit_sim u operators.Less c.number c.limit (Temp c.value) l i (is_less w l i)
    (λ v k h. let m = counts v k h in (m.limit, m.value)) refl
    (less-bit (flow.width_of c.number) l i ∙ ap (λ y. flag (is_less y l i)) wide))
    (λ b1. then_sim {mid = λ v. bit (t u1.temps) (is_less w st 0)}
    (λ falls v2. then_piece (compute operators.Greater c.number c.step (Constant 0) v2) (λ rises v3.
    then_piece (compute operators.And whole_word (word_of falls) (Temp u.temps) v3) (λ falling v4.
    then_piece (compute operators.And whole_word (word_of rises) below v4) (λ rising v5.
    compute operators.Or whole_word (word_of falling) (word_of rising) v5)))) on (word 0)
    (bit_sim u1 operators.Less c.number c.step (Constant 0) st 0 (is_less w st 0)
    (λ v k h. ((counts v k h.1).step, refl)) refl
    (less-bit (flow.width_of c.number) st 0 ∙ ap (λ y. flag (is_less y st 0)) wide))
    (λ b2. then_sim {mid = λ v. bit (t u2.temps) (is_less w 0 st)}
    (λ rises v3. then_piece (compute operators.And whole_word (Temp u1.temps) (Temp u.temps) v3) (λ falling v4.
    then_piece (compute operators.And whole_word (word_of rises) below v4) (λ rising v5.
    compute operators.Or whole_word (word_of falling) (word_of rising) v5))) on (word 0)
    (bit_sim u2 operators.Greater c.number c.step (Constant 0) st 0 (is_less w 0 st)
    (λ v k h. ((counts v k h.1.1).step, refl)) refl
    (greater-bit (flow.width_of c.number) st 0 ∙ ap (λ y. flag (is_less y 0 st)) wide))
    (λ b3. then_sim {mid = λ v. bit (t u3.temps) (is_less w st 0 && is_less w l i)}
    (λ falling v4. then_piece (compute operators.And whole_word (Temp u2.temps) below v4) (λ rising v5.
    compute operators.Or whole_word (word_of falling) (word_of rising) v5)) on (word 0)
    (bit_sim u3 operators.And whole_word (Temp u1.temps) (Temp u.temps) (flag (is_less w st 0)) (flag (is_less w l i))
    (is_less w st 0 && is_less w l i) (λ v k h. (ap number h.1.0.is, ap number h.1.1.0.is)) refl
    (both-bits (is_less w st 0) (is_less w l i)))
    (λ b4. then_sim {mid = λ v. bit (t u4.temps) (is_less w 0 st && is_less w i l)}
    (λ rising v5. compute operators.Or whole_word (Temp u3.temps) (word_of rising) v5) on (word 0)
    (bit_sim u4 operators.And whole_word (Temp u2.temps) below (flag (is_less w 0 st)) (flag (is_less w i l))
    (is_less w 0 st && is_less w i l) (λ v k h. (ap number h.1.0.is, is_below v k h.1.1.1.1)) refl
    (both-bits (is_less w 0 st) (is_less w i l)))
    (λ b5. bit_sim u5 operators.Or whole_word (Temp u3.temps) (Temp u4.temps) (flag (is_less w st 0 && is_less w l i))
    (flag (is_less w 0 st && is_less w i l)) all (λ v k h. (ap number h.1.0.is, ap number h.0.is)) refl
    (either-bits (is_less w st 0 && is_less w l i) (is_less w 0 st && is_less w i l)))))))

with_step_sim : {z : Setting} {n : ℕ} {names : List TypedName} {scope : Holders} {facts : List Fact} (u : Used) (c : Counting)
    (below : Operand) (i l st : ℕ) (w : Width) → flow.width_of c.number ≡ w → st < 2 ^ 64 → AreCounts z scope facts c i l st →
    Bit z scope facts below (is_less w i l) →
    Sim z n names scope facts u (with_step c below u) (λ s. Gives (word (flag (meaning.runs w i l st))) s) names scope
    (λ v. bit (with_step c below u).result (meaning.runs w i l st))
with_step_sim {z} {n} {names} {scope} {facts} u c below i l st w wide small counts is_below = by c.number.signed refl
  where
    moves : Bool
    moves = not (nat_eq st 0)

    code : Bool → Piece Result
    code b = then_piece (compute operators.NotEqual whole_word c.step (Constant 0) u)
        (λ m u'. if b then either_way c below u' else compute operators.And whole_word below (word_of m) u')

    first : Sim z n names scope facts u (compute operators.NotEqual whole_word c.step (Constant 0) u) (λ s. Gives (word (flag moves)) s)
        names scope (λ v. bit (a_word (Temp u.temps)) moves)
    first =
        bit_sim u operators.NotEqual whole_word c.step (Constant 0) st 0 moves (λ v k h. ((counts v k h).step, refl)) refl
        (unequal-bit (flow.width_of whole_word) st 0)

    by : (b : Bool) → c.number.signed ≡ b →
        Sim z n names scope facts u (code b) (λ s. Gives (word (flag (meaning.runs w i l st))) s) names scope
        (λ v. bit (code b).result (meaning.runs w i l st))
    by true e =
        let sign : w.signed ≡ true = sym (ap (λ y. y.signed) wide) ∙ e in
        subst (λ t. Sim z n names scope facts u (code true) (λ s. Gives (word (flag t)) s) names scope (λ v. bit (code true).result t))
        (runs-signed w i l st sign small)
        (then_sim (λ m u'. either_way c below u')
        (λ v s. Gives (word (flag ((is_less w st 0 && is_less w l i) || (is_less w 0 st && is_less w i l)))) s) (word 0) first
        (λ v. either_way_sim (with_temp u) c below i l st w wide (λ u1 k h. counts u1 k h.1) (λ u1 k h. is_below u1 k h.1)))
    by false e =
        let sign : w.signed ≡ false = sym (ap (λ y. y.signed) wide) ∙ e in
        subst (λ t. Sim z n names scope facts u (code false) (λ s. Gives (word (flag t)) s) names scope (λ v. bit (code false).result t))
        (runs-plain w i l st sign)
        (then_sim (λ m u'. compute operators.And whole_word below (word_of m) u')
        (λ v s. Gives (word (flag (is_less w i l && moves))) s) (word 0) first
        (λ v. bit_sim (with_temp u) operators.And whole_word below (Temp u.temps) (flag (is_less w i l)) (flag moves)
        (is_less w i l && moves) (λ u1 k h. (is_below u1 k h.1, ap number h.0.is)) refl (both-bits (is_less w i l) moves)))

-- a step that is 1 in the code
one-step : (z : Setting) (o : Operand) (k : Private) (st : ℕ) → is_one o ≡ true → word_in k o ≡ st → st ≡ 1
one-step z (Constant m) k st e h = sym h ∙ eqb-true m 1 e
one-step z (Temp t) k st e h = absurd (grind (arith, e))

pub runs_sim : {z : Setting} {n : ℕ} {names : List TypedName} {scope : Holders} {facts : List Fact} (u : Used) (c : Counting)
    (i l st : ℕ) (w : Width) → flow.width_of c.number ≡ w → st < 2 ^ 64 → AreCounts z scope facts c i l st →
    Sim z n names scope facts u (runs c u) (λ s. Gives (word (flag (meaning.runs w i l st))) s) names scope
    (λ v. bit (runs c u).result (meaning.runs w i l st))
runs_sim {z} {n} {names} {scope} {facts} u c i l st w wide small counts = by (is_one c.step) refl
  where
    below : Operand
    below = Temp u.temps

    code : Bool → Piece Result
    code b = then_piece (compute operators.Less c.number (Temp c.value) c.limit u)
        (λ r u'. if b then known r u' else with_step c (word_of r) u')

    first : Sim z n names scope facts u (compute operators.Less c.number (Temp c.value) c.limit u)
        (λ s. Gives (word (flag (is_less w i l))) s) names scope (λ v. bit (a_word below) (is_less w i l))
    first =
        bit_sim u operators.Less c.number (Temp c.value) c.limit i l (is_less w i l)
        (λ v k h. let m = counts v k h in (m.value, m.limit)) refl
        (less-bit (flow.width_of c.number) i l ∙ ap (λ y. flag (is_less y i l)) wide)

    by : (b : Bool) → is_one c.step ≡ b →
        Sim z n names scope facts u (code b) (λ s. Gives (word (flag (meaning.runs w i l st))) s) names scope
        (λ v. bit (code b).result (meaning.runs w i l st))
    by false e =
        then_sim (λ r u'. with_step c (word_of r) u') (λ v s. Gives (word (flag (meaning.runs w i l st))) s) (word 0) first
        (λ v. with_step_sim (with_temp u) c below i l st w wide small (λ u1 k h. counts u1 k h.1) (λ u1 k h. ap number h.0.is))
    by true e =
        then_sim (λ r u'. known r u') (λ v s. Gives (word (flag (meaning.runs w i l st))) s) (word 0) first
        (λ v. known_sim (with_temp u) (a_word below) (word (flag (meaning.runs w i l st))) (λ k s fine h.
        let one : st ≡ 1 = one-step z c.step k st e (counts (with_temp u) k h.1).step in
        let same : is_less w i l ≡ meaning.runs w i l st = runs-one w i l ∙ ap (meaning.runs w i l) (sym one) in
        subst (λ t. Means z the_value boolean scope (with_temp u) (a_word below) k (word (flag t))) same h.0))
