-- Lines of checks.
use Rattle.std.proofs.Common.{◌≡◌, ℕ, suc, ◌+◌, ◌<◌, List, ◌++◌, length, drop, get_or, add-one, append_assoc}
use Rattle.std.specs.Prelude.{codes}
use Rattle.std.proofs.Math.Seq.{drop-cons}
use Rattle.terra_term.specs.declared.refusal.Refusal.{Refusal}
use Rattle.exotype.specs.World.{StageState}
use Rattle.check_library.specs.Answers.{kind_text}
use Rattle.stage_model.specs.declared.staging.CheckLine.{CheckLine}
use Rattle.stage_model.specs.Texts.{number_text, place_text, refusal_text, check_text, checks_text}

-- a line is written
pub lines_on : (w : StageState) (lines : List CheckLine) (i : ℕ) (d : CheckLine) (front : List ℕ)
    → i < length lines
    → (front ++ check_text w (get_or lines i d)) ++ checks_text w (drop (i + 1) lines)
    ≡ front ++ checks_text w (drop i lines)
lines_on w lines i d front h =
    rw (add-one, drop-cons lines i d)
    (append_assoc front (check_text w (get_or lines i d)) (checks_text w (drop (suc i) lines)))

parts_on : (front named kind at placed in_it by : List ℕ)
    → front ++ named ++ kind ++ at ++ placed ++ in_it ++ by ≡ front ++ (named ++ kind ++ at ++ placed ++ in_it ++ by)
parts_on front named kind at placed in_it by = simp append_assoc

-- a refusal is written
pub refusal_on : (why : Refusal) (front named kind at placed in_it new name : List ℕ)
    → named ≡ front ++ codes "refused " → name ≡ kind_text why.kind → kind ≡ named ++ name → at ≡ kind ++ codes " at "
    → placed ≡ at ++ place_text why.place → in_it ≡ placed ++ codes " in function "
    → new ≡ in_it ++ number_text why.function
    → new ≡ front ++ refusal_text why
refusal_on why front named kind at placed in_it new name a b c d e f g =
    rw (g, f, e, d, c, b, a)
    (parts_on front (codes "refused ") (kind_text why.kind) (codes " at ") (place_text why.place) (codes " in function ")
    (number_text why.function))
