-- Arguments, word by word.
use Rattle.std.proofs.Common.{◌≡◌, ℕ, ◌+◌, ◌<◌, List, [], ◌∷◌, ◌++◌, length, drop, get_or, Some, None, ap, sym, ◌∙◌, arith, add-one}
use Rattle.std.proofs.Common.{length-append}
use Rattle.std.specs.Borrow.{Bor}
use Rattle.std.proofs.Math.Seq.{drop-cons, drop-length}
use Rattle.terrac_call.specs.JobView.{texts_of}
use Rattle.terrac_call.specs.Arguments.{Arguments, Good, Bad, then_arguments, argument_of, arguments_of}
use Rattle.terrac_call.proofs.Numbers.{with_arguments, with_arguments-good, with_arguments-bad, with_arguments-more}

-- the word at an index comes first behind those before it
pub word_at : (words : List (Bor (List ℕ))) (i : ℕ) (blank : Bor (List ℕ)) → i < length words →
    texts_of (drop i words) ≡ (get_or words i blank).now ∷ texts_of (drop (i + 1) words)
word_at words i blank h = rw add-one (ap texts_of (drop-cons words i blank h))

-- and so does the code
pub code_at : (codes : List ℕ) (i : ℕ) → i < length codes → drop i codes ≡ get_or codes i 0 ∷ drop (i + 1) codes
code_at codes i h = rw add-one (drop-cons codes i 0 h)

pub no_code : (codes : List ℕ) (i : ℕ) → i ≡ length codes → drop i codes ≡ []
no_code codes i over = ap (λ n. drop n codes) over ∙ drop-length codes

pub no_word : (words : List (Bor (List ℕ))) (i : ℕ) → i ≡ length words → texts_of (drop i words) ≡ []
no_word words i over = ap texts_of (ap (λ n. drop n words) over ∙ drop-length words)

-- what the codes and words so far gave, with those that are left
pub record Begun (values codes : List ℕ) (texts : List (List ℕ)) (whole : Arguments) : Type 0 where
  pub same : with_arguments values (arguments_of codes (length values + 1) texts) ≡ whole

module _ (values codes : List ℕ) (texts : List (List ℕ)) (whole : Arguments) (begun : Begun values codes texts whole) where
  pub too_many : (word : List ℕ) (words : List (List ℕ)) → texts ≡ word ∷ words → codes ≡ [] → Bad (length values + 1) ≡ whole
  too_many word words parts none =
      sym (with_arguments-bad values (length values + 1))
      ∙ sym (ap (λ cs. with_arguments values (arguments_of cs (length values + 1) (word ∷ words))) none)
      ∙ sym (ap (λ ts. with_arguments values (arguments_of codes (length values + 1) ts)) parts)
      ∙ begun.same

  module _ (code : ℕ) (more : List ℕ) (word : List ℕ) (words : List (List ℕ)) (coded : codes ≡ code ∷ more)
      (parts : texts ≡ word ∷ words) where
    first : with_arguments values (then_arguments (argument_of code word) (length values + 1)
        (arguments_of more (length values + 1 + 1) words)) ≡ whole
    first =
        sym (ap (λ cs. with_arguments values (arguments_of cs (length values + 1) (word ∷ words))) coded)
        ∙ sym (ap (λ ts. with_arguments values (arguments_of codes (length values + 1) ts)) parts)
        ∙ begun.same

    pub bad_word : argument_of code word ≡ None → Bad (length values + 1) ≡ whole
    bad_word bad =
        sym (with_arguments-bad values (length values + 1))
        ∙ sym (ap (λ o. with_arguments values (then_arguments o (length values + 1) (arguments_of more (length values + 1 + 1) words))) bad)
        ∙ first

    pub good_word : (value : ℕ) → argument_of code word ≡ Some value → Begun (values ++ value ∷ []) more words whole
    good_word value good =
        let longer : length values + 1 + 1 ≡ length (values ++ value ∷ []) + 1 = omega (arith, length-append values (value ∷ [])) in
        record {
          same =
              ap (λ n. with_arguments (values ++ value ∷ []) (arguments_of more n words)) (sym longer)
              ∙ sym (with_arguments-more values value (arguments_of more (length values + 1 + 1) words))
              ∙ sym (ap (λ o. with_arguments values (then_arguments o (length values + 1)
              (arguments_of more (length values + 1 + 1) words))) good)
              ∙ first;
        }

  pub missing : (code : ℕ) (more : List ℕ) → codes ≡ code ∷ more → texts ≡ [] → Bad (length values + 1) ≡ whole
  missing code more coded none =
      sym (with_arguments-bad values (length values + 1))
      ∙ sym (ap (λ cs. with_arguments values (arguments_of cs (length values + 1) [])) coded)
      ∙ sym (ap (λ ts. with_arguments values (arguments_of codes (length values + 1) ts)) none)
      ∙ begun.same

  pub ended : codes ≡ [] → texts ≡ [] → Good values ≡ whole
  ended uncoded none =
      sym (with_arguments-good values)
      ∙ sym (ap (λ cs. with_arguments values (arguments_of cs (length values + 1) [])) uncoded)
      ∙ sym (ap (λ ts. with_arguments values (arguments_of codes (length values + 1) ts)) none)
      ∙ begun.same

-- the same at an index of both lists
module _ (codes : List ℕ) (words : List (Bor (List ℕ))) (values : List ℕ) (index position : ℕ) (blank : Bor (List ℕ)) (whole : Arguments)
    (begun : Begun values (drop index codes) (texts_of (drop index words)) whole) (within : index < length words) where
  pub too_many_at : index ≡ length codes → Bad (length values + 1) ≡ whole
  too_many_at over = too_many values (drop index codes) (texts_of (drop index words)) whole begun _ _ (word_at words index blank within)
      (no_code codes index over)

  module _ (coded : index < length codes) (same : position ≡ index) where
    argument_at : (o : _) → argument_of (get_or codes position 0) (get_or words index blank).now ≡ o
        → argument_of (get_or codes index 0) (get_or words index blank).now ≡ o
    argument_at o is = sym (ap (λ n. argument_of (get_or codes n 0) (get_or words index blank).now) same) ∙ is

    pub bad_at : argument_of (get_or codes position 0) (get_or words index blank).now ≡ None → Bad (length values + 1) ≡ whole
    bad_at bad = bad_word values (drop index codes) (texts_of (drop index words)) whole begun _ _ _ _ (code_at codes index coded)
        (word_at words index blank within) (argument_at None bad)

    pub good_at : (value : ℕ) → argument_of (get_or codes position 0) (get_or words index blank).now ≡ Some value →
        Begun (values ++ value ∷ []) (drop (index + 1) codes) (texts_of (drop (index + 1) words)) whole
    good_at value good = good_word values (drop index codes) (texts_of (drop index words)) whole begun _ _ _ _
        (code_at codes index coded) (word_at words index blank within) value (argument_at (Some value) good)
