-- What `clap` found, and the job that it names.
use Rattle.std.proofs.Common.{◌≡◌, ◌≢◌, ◌⊎◌, inl, inr, ℕ, ◌^◌, Bool, true, false, cond, ◌&&◌, List, [], ◌∷◌, length, Option}
use Rattle.std.proofs.Common.{refl, sym, ap, subst, ◌∙◌, ◌<◌, nat_lt, lt-ltb, ltb-true, arith}
use Rattle.std.proofs.lemmas.Bool.{ne_eqb}
use Rattle.std.specs.List.{list_all}
use Rattle.std.specs.Char.{digit_value}
use Rattle.std.specs.Str.Parse.{AllDigits, IsNumeral, digits_value, without_leading_plus}
use Rattle.clap.specs.Words.{App, IsAmong, Row, Text, fault_of, is_simple, is_simple_and_free, subcommand_of, takes}
use Rattle.clap.specs.Walk.{is_empty}
use Rattle.clap.specs.declared.error.ErrorKind.{ErrorKind}
use Rattle.clap.specs.declared.error.ErrorKind.TheVariants.{OutOfMemory}
use Rattle.clap.proofs.OnLiterals.{clap_on_literals}
use Rattle.terrac_call.specs.Words.{Asked, Job, Refused, asked_job, asked_of, command_line, job_of_command, is_numeral, number_or_zero}
use Rattle.terrac_call.specs.Words.{AreTaken}

is_simple_line : is_simple command_line ≡ true
unfolding clap_on_literals
is_simple_line = refl

is_free_line : is_simple_and_free command_line ≡ true
unfolding clap_on_literals
is_free_line = refl

empty_fault : (xs : List ErrorKind) → xs ≡ [] → is_empty xs ≡ true
empty_fault xs e = ap is_empty e

some_fault : (kind : ErrorKind) (xs : List ErrorKind) → IsAmong kind xs → is_empty xs ≡ false
some_fault kind [] h = absurd h
some_fault kind (x ∷ xs) h = ne_eqb (length (x ∷ xs)) 0 (λ e. omega arith)

-- what is asked for with what was found for words that are taken is what they ask for
pub named : (built : App) (words : List Text) (found : Option (Text × List Row)) (job : Job) (asked : Asked) → built ≡ command_line →
    (is_simple_and_free built ≡ true → fault_of built words ≡ []) → (is_simple built ≡ true → found ≡ subcommand_of built words) →
    job ≡ job_of_command found → asked ≡ asked_job job → asked ≡ asked_of words
unfolding asked_of
named built words found job asked line free simple is by =
    let none : fault_of command_line words ≡ [] = sym (ap (λ (a : App). fault_of a words) line)
    ∙ free (ap is_simple_and_free line ∙ is_free_line) in
    let rows : found ≡ subcommand_of command_line words = simple (ap is_simple line ∙ is_simple_line)
    ∙ ap (λ (a : App). subcommand_of a words) line in
    by ∙ ap asked_job (is ∙ ap job_of_command rows)
    ∙ sym (ap (λ (b : Bool). cond b (asked_job (job_of_command (subcommand_of command_line words))) Refused)
    (empty_fault (fault_of command_line words) none))

-- words that are refused name none
pub refuses : (built : App) (words : List Text) (kind : ErrorKind) → built ≡ command_line →
    (is_simple_and_free built ≡ true → (kind ≡ OutOfMemory) ⊎ IsAmong kind (fault_of built words)) → kind ≢ OutOfMemory
    → Refused ≡ asked_of words
unfolding asked_of
refuses built words kind line free other =
    elim (free (ap is_simple_and_free line ∙ is_free_line)) [
      | inl memory ↦ absurd (other memory)
      | inr among ↦
          let some : is_empty (fault_of command_line words) ≡ false =
          some_fault kind (fault_of command_line words) (subst (λ (a : App). IsAmong kind (fault_of a words)) line among) in
          sym (ap (λ (b : Bool). cond b (asked_job (job_of_command (subcommand_of command_line words))) Refused) some)
    ]

pub taken : (built : App) (words : List Text) → built ≡ command_line → AreTaken words → takes built words ≡ true
unfolding AreTaken
taken built words line are = ap (λ (a : App). takes a words) line ∙ are

-- ---- a number of a text

digits_pass : (ds : List ℕ) → AllDigits 10 ds → list_all (λ d. nat_lt (digit_value d) 10) ds ≡ true
digits_pass [] h = refl
digits_pass (d ∷ ds) h = rw (lt-ltb (digit_value d) 10 h.0) (digits_pass ds h.1)

both : (a b : Bool) → (a && b) ≡ true → (a ≡ true) × (b ≡ true)
both true b e = (refl, e)
both false b e = absurd cc

digits_from : (ds : List ℕ) → list_all (λ d. nat_lt (digit_value d) 10) ds ≡ true → AllDigits 10 ds
digits_from [] e = tt
digits_from (d ∷ ds) e =
    let parts = both _ _ e in
    (ltb-true _ _ parts.0, digits_from ds parts.1)

pub number_read : (text : Text) (number : ℕ) → IsNumeral 10 (without_leading_plus text)
    × (digits_value 10 (without_leading_plus text) < 2 ^ 64) →
    number ≡ digits_value 10 (without_leading_plus text) → number ≡ number_or_zero text
number_read text number h is =
    let ds = without_leading_plus text in
    rw (lt-ltb 0 (length ds) h.0.0, digits_pass ds h.0.1, lt-ltb (digits_value 10 ds) (2 ^ 64) h.1) is

pub number_unread : (text : Text) → (IsNumeral 10 (without_leading_plus text) × (digits_value 10 (without_leading_plus text) < 2 ^ 64)
    → ⊥) → 0 ≡ number_or_zero text
number_unread text h = go (is_numeral (without_leading_plus text)) refl
  where
    go : (b : Bool) → is_numeral (without_leading_plus text) ≡ b → 0 ≡ number_or_zero text
    go false t = rw t refl
    go true t =
        let outer = both _ _ t in
        let inner = both _ _ outer.1 in
        absurd (h ((ltb-true _ _ outer.0, digits_from (without_leading_plus text) inner.0), ltb-true _ _ inner.1))
