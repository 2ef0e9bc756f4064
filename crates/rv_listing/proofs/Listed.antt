-- How far the words of an image are listed.
use Rattle.std.proofs.Common.{◌≡◌, ◌∙◌, ℕ, ◌+◌, ◌*◌, ◌<◌, suc, List, [], ◌∷◌, ◌++◌, length, drop, get_or, refl, sym, ap, subst, arith, append_assoc, append-nil, add-one, drop-cons}
use Rattle.std.proofs.Math.Seq.{drop-length}
use Rattle.tl_base.specs.declared.limits.TheConstants.{TEXT_ADDRESS}
use Rattle.rv_listing.specs.Texts.{IsWordText}
use Rattle.rv_listing.specs.Listing.{AreWordLines, word_line}

-- lines of the words from the k-th on make lines of all words
pub record Listed (words start out : List ℕ) (k address : ℕ) : Type 0 where
  pub place : address ≡ TEXT_ADDRESS + 4 * k
  pub rest : (lines : List ℕ) → AreWordLines address (drop k words) lines
      → (whole : List ℕ) × AreWordLines TEXT_ADDRESS words whole × (out ++ lines ≡ start ++ whole)

pub listed_start : (words start : List ℕ) → Listed words start start 0 TEXT_ADDRESS
listed_start words start = record { place = omega arith; rest = λ (lines : List ℕ) (are : AreWordLines TEXT_ADDRESS words lines). (lines, are, refl) }

pub listed_next : (words start out longer : List ℕ) (k address w : ℕ) → Listed words start out k address → k < length words → w ≡ get_or words k 0
    → (text : List ℕ) × IsWordText w text × (longer ≡ out ++ word_line address w text) → Listed words start longer (k + 1) (address + 4)
listed_next words start out longer k address w p within is written =
    let front : drop k words ≡ w ∷ drop (k + 1) words =
    drop-cons words k 0 within ∙ (ap (λ (v : ℕ). v ∷ drop (suc k) words) (sym is) ∙ ap (λ (n : ℕ). w ∷ drop n words) (sym (add-one k))) in
    record {
      place = omega (arith, p.place);
      rest = λ (lines : List ℕ) (are : AreWordLines (address + 4) (drop (k + 1) words) lines).
          let line : List ℕ = word_line address w written.0 in
          let more : AreWordLines address (w ∷ drop (k + 1) words) (line ++ lines) = (written.0, lines, written.1, are, refl) in
          let here : AreWordLines address (drop k words) (line ++ lines) =
          subst (λ (ws : List ℕ). AreWordLines address ws (line ++ lines)) (sym front) more in
          let got = p.rest (line ++ lines) here in
          (got.0, got.1, ap (λ (l : List ℕ). l ++ lines) written.2 ∙ (append_assoc out line lines ∙ got.2));
    }

pub listed_end : (words start out : List ℕ) (k address : ℕ) → Listed words start out k address → k ≡ length words
    → (whole : List ℕ) × AreWordLines TEXT_ADDRESS words whole × (out ≡ start ++ whole)
listed_end words start out k address p at =
    let none : drop k words ≡ [] = ap (λ (n : ℕ). drop n words) at ∙ drop-length words in
    let here : AreWordLines address (drop k words) [] = subst (λ (ws : List ℕ). AreWordLines address ws []) (sym none) refl in
    let got = p.rest [] here in
    (got.0, got.1, sym (append-nil out) ∙ got.2)
