-- Operations on words.
use Rattle.std.proofs.Common.{◌≡◌, ℕ, ◌+◌, ◌<◌, Bool, true, false, List, [], ◌∷◌, refl, ap, subst, sym, ◌∙◌, arith}
use Rattle.std.proofs.lemmas.Bool.{false≢true}
use Rattle.std.specs.Prelude.{◌^◌, ◌-◌, ◌%◌, ◌&&◌, nat_eq, nat_le, if◌then◌else◌}
use Rattle.tl_base.specs.declared.place.Place.{Place}
use Rattle.tl_base.specs.declared.ids.TypeId.{TypeId}
use Rattle.terra_words.specs.declared.words.BinaryOperator.{BinaryOperator}
use Rattle.terra_words.specs.declared.words.BinaryOperator.TheVariants as operators
use Rattle.terra_words.specs.declared.words.FaultKind.TheVariants.{DivZero}
use Rattle.terra_words.specs.declared.words.Width.{Width}
use Rattle.terra_words.specs.Words.{wrapped, applied, negated, divides}
use Rattle.terra_words.specs.Runs.{Value, word, bytes, number, value_at}
use Rattle.terra_term.specs.declared.lists.TypedName.{TypedName}
use Rattle.terra_types.specs.declared.types.TypeForm.{TypeForm}
use Rattle.terra_meaning.specs.Values.{form_at, width_of, IsValue}
use Rattle.terra_meaning.specs.Running.{State, Got, Gives, fault}
use Rattle.terra_meaning.specs.Meaning as meaning
use Rattle.terra_meaning.specs.Meaning.{Wanted, the_value, the_address, type_at}
use Rattle.tac_form.specs.declared.tac.Size.{Size}
use Rattle.tac_form.specs.declared.tac.Size.TheVariants.{One, Two, Four, Eight}
use Rattle.tac_form.specs.declared.tac.Number.{Number}
use Rattle.tac_form.specs.declared.tac.Operand.{Operand}
use Rattle.tac_form.specs.declared.tac.Operand.TheVariants.{Temp, Constant}
use Rattle.tac_form.specs.declared.tac.Instruction.TheVariants.{TestDivisor}
use Rattle.tac_form.specs.Flow as flow
use Rattle.tac_form.specs.Flow.{Goes, Stops, act}
use Rattle.tac_lower.specs.Pieces.{Used, Piece, known, doing, then_piece, Result, a_word, an_area, an_offset, word_of, word_at, Holders}
use Rattle.tac_lower.specs.Pieces.{number_of, compute}
use Rattle.tac_lower.specs.Lowering.{cut, fitted, is_whole, binary, form_of}
use Rattle.tac_lower.proofs.Standing.{Setting, Private, stands, one-step, word_in, operand-is, Good, Own}
use Rattle.tac_lower.proofs.Simulates.{Fact, nothing, one_of, all_of, AllMean, Sim, then_sim}
use Rattle.tac_lower.proofs.Words.{wrapped-again, wrapped-zero, value-small, HasNumber, number-width}
use Rattle.tac_lower.proofs.Writes.{grown-temp, same-self, passes_sim, known_sim}
use Rattle.tac_lower.proofs.Loads.{compute_sim, word-is, is-value, load-number, AreWords}

-- the words of operands by their positions
pub first-word : (z : Setting) (scope : Holders) (u : Used) (ts : List TypeId) (rs : List Result) (vs : List Value) (k : Private) →
    AllMean z scope u ts rs vs k →
    word_in k (word_at rs 0) ≡ number (value_at vs 0)
first-word z scope u [] [] [] k h = refl
first-word z scope u (t ∷ ts) (r ∷ rs) (v ∷ vs) k h = word-is z t scope u r k v h.0
first-word z scope u [] [] (v ∷ vs) k h = absurd h
first-word z scope u [] (r ∷ rs) vs k h = absurd h
first-word z scope u (t ∷ ts) [] vs k h = absurd h
first-word z scope u (t ∷ ts) (r ∷ rs) [] k h = absurd h

pub second-word : (z : Setting) (scope : Holders) (u : Used) (ts : List TypeId) (rs : List Result) (vs : List Value) (k : Private) →
    AllMean z scope u ts rs vs k →
    word_in k (word_at rs 1) ≡ number (value_at vs 1)
second-word z scope u [] [] [] k h = refl
second-word z scope u (t ∷ ts) (r ∷ rs) (v ∷ vs) k h = first-word z scope u ts rs vs k h.1
second-word z scope u [] [] (v ∷ vs) k h = absurd h
second-word z scope u [] (r ∷ rs) vs k h = absurd h
second-word z scope u (t ∷ ts) [] vs k h = absurd h
second-word z scope u (t ∷ ts) (r ∷ rs) [] k h = absurd h

pub both-words : (z : Setting) (scope : Holders) (facts : List Fact) (ts : List TypeId) (rs : List Result) (vs : List Value) →
    AreWords z scope (all_of ts rs vs ∷ facts) (word_at rs 0) (word_at rs 1) (number (value_at vs 0)) (number (value_at vs 1))
both-words z scope facts ts rs vs = λ u k knows. (first-word z scope u ts rs vs k knows.0, second-word z scope u ts rs vs k knows.0)

-- the words of operands are words of their types
pub value-again : (types : List TypeForm) (t : TypeId) (v : Value) → IsValue types t v → wrapped (width_of types t) (number v) ≡ number v
value-again types t (word x) h = h.1
value-again types t (bytes bs) h = wrapped-zero (form_at types t)

pub first-again : (z : Setting) (scope : Holders) (u : Used) (ts : List TypeId) (rs : List Result) (vs : List Value) (k : Private) →
    AllMean z scope u ts rs vs k → wrapped (width_of z.types (type_at ts 0)) (number (value_at vs 0)) ≡ number (value_at vs 0)
first-again z scope u [] [] [] k h = wrapped-zero (form_at z.types (type_at [] 0))
first-again z scope u (t ∷ ts) (r ∷ rs) (v ∷ vs) k h = value-again z.types t v (is-value z t r v h.0.good)
first-again z scope u [] [] (v ∷ vs) k h = absurd h
first-again z scope u [] (r ∷ rs) vs k h = absurd h
first-again z scope u (t ∷ ts) [] vs k h = absurd h
first-again z scope u (t ∷ ts) (r ∷ rs) [] k h = absurd h

pub second-again : (z : Setting) (scope : Holders) (u : Used) (ts : List TypeId) (rs : List Result) (vs : List Value) (k : Private) →
    AllMean z scope u ts rs vs k → wrapped (width_of z.types (type_at ts 1)) (number (value_at vs 1)) ≡ number (value_at vs 1)
second-again z scope u [] [] [] k h = wrapped-zero (form_at z.types (type_at [] 0))
second-again z scope u (t ∷ ts) (r ∷ rs) (v ∷ vs) k h = first-again z scope u ts rs vs k h.1
second-again z scope u [] [] (v ∷ vs) k h = absurd h
second-again z scope u [] (r ∷ rs) vs k h = absurd h
second-again z scope u (t ∷ ts) [] vs k h = absurd h
second-again z scope u (t ∷ ts) (r ∷ rs) [] k h = absurd h

-- a word of a type with numbers, wrapped to its width
pub good-number : (z : Setting) (of : TypeId) (o : Operand) (m : ℕ) → HasNumber (form_at z.types of) → Good z the_value of (a_word o)
    (word (wrapped (width_of z.types of) m))
good-number z of o m h = ((load-number z of (form_at z.types of) refl h).1, wrapped-again (form_at z.types of) m)

pub number-width_at : (z : Setting) (of : TypeId) → HasNumber (form_at z.types of) → flow.width_of (number_of z.types of)
    ≡ width_of z.types of
number-width_at z of h = number-width (form_at z.types of) h

from-zero : (w : Width) (x : ℕ) → applied w operators.Subtract 0 x ≡ negated w x
unfolding applied negated
from-zero w x = let e : 0 + (2 ^ 64 - x) ≡ 2 ^ 64 - x = omega arith in ap (wrapped w) e

pub negate_sim : {z : Setting} {n : ℕ} {names : List TypedName} {scope : Holders} {facts : List Fact} (u : Used) (of : TypeId)
    (ts : List TypeId) (rs : List Result) (vs : List Value) → HasNumber (form_at z.types of) →
    Sim z n names scope (all_of ts rs vs ∷ facts) u (compute operators.Subtract (number_of z.types of) (Constant 0) (word_at rs 0) u)
    (λ s. Gives (word (negated (width_of z.types of) (number (value_at vs 0)))) s) names scope
    (λ w. one_of the_value of (a_word (Temp u.temps)) w)
unfolding negated
negate_sim {z} {n} {names} {scope} {facts} u of ts rs vs h =
    compute_sim u the_value of operators.Subtract (number_of z.types of) (Constant 0) (word_at rs 0) 0 (number (value_at vs 0))
    (word (negated (width_of z.types of) (number (value_at vs 0))))
    (λ u1 k knows. (refl, first-word z scope u1 ts rs vs k knows.0)) refl
    (ap word (from-zero (flow.width_of (number_of z.types of)) (number (value_at vs 0)) ∙ ap (λ w. negated w (number (value_at vs 0)))
    (number-width_at z of h)))
    (good-number z of (Temp u.temps) (2 ^ 64 - number (value_at vs 0)) h)

plus-zero : (w : Width) (x : ℕ) → applied w operators.Add x 0 ≡ wrapped w x
unfolding applied
plus-zero w x = let e : x + 0 ≡ x = omega arith in ap (wrapped w) e

-- the word of one type as one of another that has numbers
pub convert_sim : {z : Setting} {n : ℕ} {names : List TypedName} {scope : Holders} {facts : List Fact} (u : Used) (of : TypeId)
    (ts : List TypeId) (rs : List Result) (vs : List Value) → HasNumber (form_at z.types of) →
    Sim z n names scope (all_of ts rs vs ∷ facts) u (compute operators.Add (number_of z.types of) (word_at rs 0) (Constant 0) u)
    (λ s. Gives (word (wrapped (width_of z.types of) (number (value_at vs 0)))) s) names scope
    (λ w. one_of the_value of (a_word (Temp u.temps)) w)
convert_sim {z} {n} {names} {scope} {facts} u of ts rs vs h =
    compute_sim u the_value of operators.Add (number_of z.types of) (word_at rs 0) (Constant 0) (number (value_at vs 0)) 0
    (word (wrapped (width_of z.types of) (number (value_at vs 0))))
    (λ u1 k knows. (first-word z scope u1 ts rs vs k knows.0, refl)) refl
    (ap word (plus-zero (flow.width_of (number_of z.types of)) (number (value_at vs 0)) ∙ ap (λ w. wrapped w (number (value_at vs 0)))
    (number-width_at z of h)))
    (good-number z of (Temp u.temps) (number (value_at vs 0)) h)

-- the first value is a word of 64 bits, and what gives its word is kept
pub first-small : (z : Setting) (scope : Holders) (u : Used) (ts : List TypeId) (rs : List Result) (vs : List Value) (k : Private) →
    AllMean z scope u ts rs vs k → number (value_at vs 0) < 2 ^ 64
first-small z scope u [] [] [] k h = omega arith
first-small z scope u (t ∷ ts) (r ∷ rs) (v ∷ vs) k h = value-small z.types t v (is-value z t r v h.0.good)
first-small z scope u [] [] (v ∷ vs) k h = absurd h
first-small z scope u [] (r ∷ rs) vs k h = absurd h
first-small z scope u (t ∷ ts) [] vs k h = absurd h
first-small z scope u (t ∷ ts) (r ∷ rs) [] k h = absurd h

word-own : (scope : Holders) (u : Used) (r : Result) → Own scope u r → Own scope u (a_word (word_of r))
word-own scope u (a_word (Temp t)) h = h
word-own scope u (a_word (Constant c)) h = tt
word-own scope u (an_area n) h = tt
word-own scope u (an_offset o) h = tt

first-own : (z : Setting) (scope : Holders) (u : Used) (ts : List TypeId) (rs : List Result) (vs : List Value) (k : Private) →
    AllMean z scope u ts rs vs k → Own scope u (a_word (word_at rs 0))
first-own z scope u [] [] [] k h = tt
first-own z scope u (t ∷ ts) (r ∷ rs) (v ∷ vs) k h = word-own scope u r h.0.own
first-own z scope u [] [] (v ∷ vs) k h = absurd h
first-own z scope u [] (r ∷ rs) vs k h = absurd h
first-own z scope u (t ∷ ts) [] vs k h = absurd h
first-own z scope u (t ∷ ts) (r ∷ rs) [] k h = absurd h

-- a word is one of a form of eight bytes already
stays-whole : (form : Number) (x : ℕ) → is_whole form.size ≡ true → x < 2 ^ 64 → x ≡ wrapped (flow.width_of form) x
unfolding wrapped
stays-whole form x e lt = by form.signed form.size e
  where
    by : (signed : Bool) (size : Size) → is_whole size ≡ true → x ≡ wrapped (flow.width_of (record { signed = signed; size = size })) x
    by true Eight h = either (nat_le (2 ^ 63) (x % 2 ^ 64))
      where
        either : (b : Bool) → x ≡ (if b then x % 2 ^ 64 + 0 else x % 2 ^ 64)
        either true = omega (arith, lt)
        either false = omega (arith, lt)
    by false Eight h = omega (arith, lt)
    by signed One h = absurd (false≢true h)
    by signed Two h = absurd (false≢true h)
    by signed Four h = absurd (false≢true h)

-- the same where the word may stay as it is, or be a constant
pub fitted_sim : {z : Setting} {n : ℕ} {names : List TypedName} {scope : Holders} {facts : List Fact} (u : Used) (of : TypeId)
    (ts : List TypeId) (rs : List Result) (vs : List Value) → HasNumber (form_at z.types of) →
    Sim z n names scope (all_of ts rs vs ∷ facts) u (fitted (number_of z.types of) (word_at rs 0) u)
    (λ s. Gives (word (wrapped (width_of z.types of) (number (value_at vs 0)))) s) names scope
    (λ w. one_of the_value of (fitted (number_of z.types of) (word_at rs 0) u).result w)
fitted_sim {z} {n} {names} {scope} {facts} u of ts rs vs h = whole (is_whole (number_of z.types of).size) refl
  where
    Fits : Piece Result → Type 0
    Fits p = Sim z n names scope (all_of ts rs vs ∷ facts) u p
        (λ s. Gives (word (wrapped (width_of z.types of) (number (value_at vs 0)))) s) names scope (λ w. one_of the_value of p.result w)

    by : (x : Operand) → word_at rs 0 ≡ x → Fits (cut (number_of z.types of) x u)
    by (Temp t) e = subst (λ x. Fits (compute operators.Add (number_of z.types of) x (Constant 0) u)) e (convert_sim u of ts rs vs h)
    by (Constant c) e =
        let w = wrapped (flow.width_of (number_of z.types of)) c in
        known_sim u (a_word (Constant w)) (word (wrapped (width_of z.types of) (number (value_at vs 0))))
        (λ k s fine knows.
        let same : c ≡ number (value_at vs 0) = ap (word_in k) (sym e) ∙ first-word z scope u ts rs vs k knows.0 in
        record {
          is = ap word (ap (λ v. wrapped v c) (number-width_at z of h) ∙ ap (wrapped (width_of z.types of)) same);
          own = tt;
          good = good-number z of (Constant w) (number (value_at vs 0)) h;
        })

    whole : (b : Bool) → is_whole (number_of z.types of).size ≡ b →
        Fits (if b then known (a_word (word_at rs 0)) u else cut (number_of z.types of) (word_at rs 0) u)
    whole false e = by (word_at rs 0) refl
    whole true e =
        known_sim u (a_word (word_at rs 0)) (word (wrapped (width_of z.types of) (number (value_at vs 0))))
        (λ k s fine knows.
        let x = number (value_at vs 0) in
        let stays = stays-whole (number_of z.types of) x e (first-small z scope u ts rs vs k knows.0) in
        record {
          is = ap word (first-word z scope u ts rs vs k knows.0 ∙ (stays ∙ ap (λ v. wrapped v x) (number-width_at z of h)));
          own = first-own z scope u ts rs vs k knows.0;
          good = good-number z of (word_at rs 0) x h;
        })

-- an operator on two words, whose divisor is tested before; `told` says that it means the same at the width that its code has
pub binary_sim : {z : Setting} {n : ℕ} {names : List TypedName} {scope : Holders} {facts : List Fact} (u : Used) (place : Place)
    (of first : TypeId) (op : BinaryOperator) (ts : List TypeId) (rs : List Result) (vs : List Value) →
    applied (flow.width_of (form_of op (number_of z.types first) (word_at rs 1))) op (number (value_at vs 0)) (number (value_at vs 1))
    ≡ applied (width_of z.types first) op (number (value_at vs 0)) (number (value_at vs 1)) →
    Good z the_value of (a_word (Temp u.temps))
    (word (applied (width_of z.types first) op (number (value_at vs 0)) (number (value_at vs 1)))) →
    Sim z n names scope (all_of ts rs vs ∷ facts) u (binary place (number_of z.types first) op (word_at rs 0) (word_at rs 1) u)
    (meaning.binary place (width_of z.types first) op (number (value_at vs 0)) (number (value_at vs 1))) names scope
    (λ w. one_of the_value of (a_word (Temp u.temps)) w)
binary_sim {z} {n} {names} {scope} {facts} u place of first op ts rs vs told good = by (divides op) refl (nat_eq y 0) refl
  where
    x : ℕ
    x = number (value_at vs 0)

    y : ℕ
    y = number (value_at vs 1)

    w : Width
    w = width_of z.types first

    form : Number
    form = form_of op (number_of z.types first) (word_at rs 1)

    code : Bool → Piece Result
    code d = then_piece (if d then doing (tt {0}) (TestDivisor place (word_at rs 1)) u else known (tt {0}) u)
        (λ t u'. compute op form (word_at rs 0) (word_at rs 1) u')

    go : Bool → Bool → State → Got Value
    go d b s = if d && b then fault DivZero place s else Gives (word (applied w op x y)) s

    by : (d : Bool) → divides op ≡ d → (b : Bool) → nat_eq y 0 ≡ b → Sim z n names scope (all_of ts rs vs ∷ facts) u (code d)
        (go d b) names scope (λ v. one_of the_value of (a_word (Temp u.temps)) v)
    by false ed b eb =
        compute_sim u the_value of op form (word_at rs 0) (word_at rs 1) x y (word (applied w op x y)) (both-words z scope facts ts rs vs)
        (ap (λ d. d && nat_eq y 0) ed) (ap word told) good
    by true ed true eb = record {
      grown = grown-temp u;
      over = λ t lt away. away;
      run = λ out at k s has whole_ fine knows less. (
        1,
        one-step z at k s (TestDivisor place (word_at rs 1)) has.0
            ∙ ap (λ m. if nat_eq m 0 then flow.fault DivZero place (stands z at k s) else Goes (flow.ahead (stands z at k s)))
            (operand-is z at k s (word_at rs 1) ∙ second-word z scope u ts rs vs k knows.0)
            ∙ ap (λ b. if b then flow.fault DivZero place (stands z at k s) else Goes (flow.ahead (stands z at k s))) eb,
      );
    }
    by true ed false eb =
        then_sim (λ t u'. compute op form (word_at rs 0) (word_at rs 1) u') (λ t s. Gives (word (applied w op x y)) s) (tt {0})
        (passes_sim {post = λ t. nothing} u (tt {0}) (TestDivisor place (word_at rs 1)) (λ s. Gives (tt {0}) s)
        (λ at k s fine knows. record {
          moves =
              ap (λ m. if nat_eq m 0 then flow.fault DivZero place (stands z at k s) else Goes (flow.ahead (stands z at k s)))
              (operand-is z at k s (word_at rs 1) ∙ second-word z scope u ts rs vs k knows.0)
              ∙ ap (λ b. if b then flow.fault DivZero place (stands z at k s) else Goes (flow.ahead (stands z at k s))) eb;
          same = same-self s;
        }) (λ t k knows. tt))
        (λ t. compute_sim u the_value of op form (word_at rs 0) (word_at rs 1) x y (word (applied w op x y))
        (λ u1 k knows. both-words z scope facts ts rs vs u1 k knows.1)
        (ap (λ d. d && nat_eq y 0) ed ∙ eb) (ap word told) good)
