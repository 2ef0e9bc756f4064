-- How far a source is read: the lines before are the texts of the words so far.
use Rattle.std.proofs.Common.{◌≡◌, ◌∙◌, ℕ, Result, Ok, Err, suc, ◌+◌, ◌<◌, ◌≤◌, ◌^◌, Bool, true, false, cond, eqb, List, [], ◌∷◌, ◌++◌, length, take, drop, refl, sym, ap, subst, arith, append_assoc, append-nil, add-one}
use Rattle.std.proofs.lemmas.List.{length_push, length-drop}
use Rattle.std.proofs.lemmas.Bool.{eqb-false, eqb-true}
use Rattle.std.specs.Result.{IfErr, IsErrAnd}
use Rattle.rv_listing.specs.declared.reading.AsmError.{AsmError}
use Rattle.rv_listing.specs.declared.assembly.AsmFault.{AsmFault}
use Rattle.rv_listing.specs.declared.assembly.AsmFault.TheVariants as faults
use Rattle.rv_listing.specs.Texts.{IsWordText}
use Rattle.rv_listing.specs.Assembly.{IsBad, IsFault, before_first, lines_of, AreTexts, IsFirstBad}
use Rattle.rv_listing.specs.Reading.{line_length}

-- each word is the only one of its line
abbrev pub AreOnly : List ℕ → List (List ℕ) → Type 0
AreOnly [] [] = Unit {0}
AreOnly (w ∷ ws) (line ∷ lines) = ((v : ℕ) → v < 2 ^ 32 → IsWordText v line → w ≡ v) × AreOnly ws lines
AreOnly [] (line ∷ lines) = ⊥
AreOnly (w ∷ ws) [] = ⊥

pub only_same : (ws vs : List ℕ) (lines : List (List ℕ)) → AreOnly ws lines → AreTexts vs lines → ws ≡ vs
only_same [] [] [] a b = refl
only_same [] (v ∷ vs) [] a b = absurd b
only_same (w ∷ ws) vs [] a b = absurd a
only_same [] vs (l ∷ ls) a b = absurd a
only_same (w ∷ ws) [] (l ∷ ls) a b = absurd b
only_same (w ∷ ws) (v ∷ vs) (l ∷ ls) a b = cc (a.0 v b.0 b.1, only_same ws vs ls a.1 b.2)

texts_more : (ws : List ℕ) (lines : List (List ℕ)) (w : ℕ) (line : List ℕ) → AreTexts ws lines → w < 2 ^ 32 → IsWordText w line
    → AreTexts (ws ++ w ∷ []) (lines ++ line ∷ [])
texts_more [] [] w line a small text = (small, text, tt)
texts_more [] (l ∷ ls) w line a small text = absurd a
texts_more (v ∷ vs) [] w line a small text = absurd a
texts_more (v ∷ vs) (l ∷ ls) w line a small text = (a.0, a.1, texts_more vs ls w line a.2 small text)

only_more : (ws : List ℕ) (lines : List (List ℕ)) (w : ℕ) (line : List ℕ) → AreOnly ws lines → ((v : ℕ) → v < 2 ^ 32 → IsWordText v line → w ≡ v)
    → AreOnly (ws ++ w ∷ []) (lines ++ line ∷ [])
only_more [] [] w line a one = (one, tt)
only_more [] (l ∷ ls) w line a one = absurd a
only_more (v ∷ vs) [] w line a one = absurd a
only_more (v ∷ vs) (l ∷ ls) w line a one = (a.0, only_more vs ls w line a.1 one)

-- the first line and those behind it
lines_split : (b : ℕ) (bs : List ℕ)
    → lines_of (b ∷ bs) ≡ take (line_length (b ∷ bs)) (b ∷ bs) ∷ lines_of (drop (suc (line_length (b ∷ bs))) (b ∷ bs))
lines_split b [] =
    elim (eqb b 10) as (λ v. cond v ([] ∷ []) ((b ∷ []) ∷ []) ≡ take (cond v 0 1) (b ∷ []) ∷ lines_of (drop (suc (cond v 0 1)) (b ∷ []))) [
      | true ↦ refl
      | false ↦ refl
    ]
lines_split b (c ∷ cs) =
    elim (eqb b 10) as (λ v. cond v ([] ∷ lines_of (c ∷ cs)) (before_first b (lines_of (c ∷ cs)))
    ≡ take (cond v 0 (suc (line_length (c ∷ cs)))) (b ∷ c ∷ cs) ∷ lines_of (drop (suc (cond v 0 (suc (line_length (c ∷ cs))))) (b ∷ c ∷ cs))) [
      | true ↦ refl
      | false ↦ ap (before_first b) (lines_split c cs)
    ]

pub lines_next : (s : List ℕ) → 0 < length s → lines_of s ≡ take (line_length s) s ∷ lines_of (drop (line_length s + 1) s)
lines_next [] some = absurd (omega arith)
lines_next (b ∷ bs) some =
    lines_split b bs ∙ ap (λ (n : ℕ). take (line_length (b ∷ bs)) (b ∷ bs) ∷ lines_of (drop n (b ∷ bs))) (sym (add-one (line_length (b ∷ bs))))

pub record Progress (source left words : List ℕ) (line : ℕ) : Type 0 where
  pub before : List (List ℕ)
  pub texts : AreTexts words before
  pub only : AreOnly words before
  pub lines : lines_of source ≡ before ++ lines_of left
  pub count : line ≡ length before
  pub room : line + length left ≤ length source

pub progress_start : (source : List ℕ) → Progress source source [] 0
progress_start source = record { before = []; texts = tt; only = tt; lines = refl; count = refl; room = omega arith }

pub progress_next : (source left words : List ℕ) (line w : ℕ) → Progress source left words line → 0 < length left → w < 2 ^ 32
    → IsWordText w (take (line_length left) left) → ((v : ℕ) → v < 2 ^ 32 → IsWordText v (take (line_length left) left) → w ≡ v)
    → Progress source (drop (line_length left + 1) left) (words ++ w ∷ []) (line + 1)
progress_next source left words line w p some small text one =
    let text_line : List ℕ = take (line_length left) left in
    let rest : List (List ℕ) = lines_of (drop (line_length left + 1) left) in
    record {
      before = p.before ++ text_line ∷ [];
      texts = texts_more words p.before w text_line p.texts small text;
      only = only_more words p.before w text_line p.only one;
      lines = p.lines ∙ (ap (λ (l : List (List ℕ)). p.before ++ l) (lines_next left some) ∙ sym (append_assoc p.before (text_line ∷ []) rest));
      count = omega (arith, p.count, length_push p.before text_line);
      room = omega (arith, p.room, length-drop (line_length left + 1) left);
    }

pub progress_end : (source left words : List ℕ) (line : ℕ) → Progress source left words line → length left ≡ 0 → AreTexts words (lines_of source)
progress_end source [] words line p none = subst (AreTexts words) (sym (p.lines ∙ append-nil p.before)) p.texts
progress_end source (b ∷ bs) words line p none = absurd (omega arith)

pub progress_only : (source left words : List ℕ) (line : ℕ) → Progress source left words line → length left ≡ 0
    → (ws : List ℕ) → AreTexts ws (lines_of source) → words ≡ ws
progress_only source [] words line p none ws texts =
    only_same words ws p.before p.only (subst (AreTexts ws) (p.lines ∙ append-nil p.before) texts)
progress_only source (b ∷ bs) words line p none ws texts = absurd (omega arith)

pub progress_bad : (source left words : List ℕ) (line : ℕ) (error : AsmError) → Progress source left words line → 0 < length left
    → IsBad error (take (line_length left) left) → IsFirstBad (lines_of source) error (line + 1)
progress_bad source left words line error p some bad = record {
  before = p.before;
  bad = take (line_length left) left;
  behind = lines_of (drop (line_length left + 1) left);
  parts = p.lines ∙ ap (λ (l : List (List ℕ)). p.before ++ l) (lines_next left some);
  words = words;
  good = p.texts;
  cause = bad;
  counted = ap (λ (n : ℕ). n + 1) p.count;
}

-- the same as the code says it
pub left_some : (left : List ℕ) (t : Bool) → t ≡ eqb (length left) 0 → t ≡ false → 0 < length left
left_some left t is fails =
    let other : length left ≡ 0 → ⊥ = eqb-false (length left) 0 (sym is ∙ fails) in
    omega (arith, other)

pub left_none : (left : List ℕ) (t : Bool) → t ≡ eqb (length left) 0 → t ≡ true → length left ≡ 0
left_none left t is holds = eqb-true (length left) 0 (sym is ∙ holds)

same_word : (v w : ℕ) (r : Result ℕ AsmError) → r ≡ Ok v → r ≡ Ok w → v ≡ w
same_word v w r e f = cc

pub progress_step : (source left words longer behind : List ℕ) (line w n : ℕ) (t : Bool) (r : Result ℕ AsmError) → Progress source left words line
    → t ≡ eqb (length left) 0 → t ≡ false → n ≡ line_length left → r ≡ Ok w → w < 2 ^ 32 → IsWordText w (take n left)
    → ((v : ℕ) → v < 2 ^ 32 → IsWordText v (take n left) → r ≡ Ok v) → longer ≡ words ++ w ∷ [] → behind ≡ drop (n + 1) left
    → Progress source behind longer (line + 1)
progress_step source left words longer behind line w n t r p test fails at got small text only pushed cut =
    let its : IsWordText w (take (line_length left) left) = subst (λ (k : ℕ). IsWordText w (take k left)) at text in
    let one : (v : ℕ) → v < 2 ^ 32 → IsWordText v (take (line_length left) left) → w ≡ v = λ (v : ℕ) (below : v < 2 ^ 32) (other : IsWordText v (take (line_length left) left)).
    same_word w v r got (only v below (subst (λ (k : ℕ). IsWordText v (take k left)) (sym at) other)) in
    let next : Progress source (drop (line_length left + 1) left) (words ++ w ∷ []) (line + 1) =
    progress_next source left words line w p (left_some left t test fails) small its one in
    let cut_there : behind ≡ drop (line_length left + 1) left = cut ∙ ap (λ (k : ℕ). drop (k + 1) left) at in
    let moved : Progress source behind (words ++ w ∷ []) (line + 1) =
    subst (λ (l : List ℕ). Progress source l (words ++ w ∷ []) (line + 1)) (sym cut_there) next in
    subst (λ (l : List ℕ). Progress source behind l (line + 1)) (sym pushed) moved

pub progress_refused : (source left words : List ℕ) (line n : ℕ) (t : Bool) (error : AsmError) → Progress source left words line
    → t ≡ eqb (length left) 0 → t ≡ false → n ≡ line_length left → IsBad error (take n left) → IsFirstBad (lines_of source) error (line + 1)
progress_refused source left words line n t error p test fails at bad =
    progress_bad source left words line error p (left_some left t test fails) (subst (λ (k : ℕ). IsBad error (take k left)) at bad)

pub wants_memory : {A : Type 0} (source : List ℕ) (r : Result A AsmFault) → IsErrAnd r (λ e. e ≡ faults.NoMemory) → IfErr r (λ fault. IsFault source fault)
wants_memory source (Ok x) h = tt
wants_memory source (Err e) h = subst (IsFault source) (sym h) tt

texts_length : (ws : List ℕ) (lines : List (List ℕ)) → AreTexts ws lines → length ws ≡ length lines
texts_length [] [] a = refl
texts_length [] (l ∷ ls) a = absurd a
texts_length (w ∷ ws) [] a = absurd a
texts_length (w ∷ ws) (l ∷ ls) a = ap suc (texts_length ws ls a.2)

-- a word for each line, and a byte for each word
pub progress_count : (source left words : List ℕ) (line : ℕ) → Progress source left words line → length left ≡ 0 → 0 < length source
    → (0 < length words) × (length words ≤ length source)
progress_count source [] words line p none some =
    let whole : lines_of source ≡ p.before = p.lines ∙ append-nil p.before in
    let rest : List (List ℕ) = lines_of (drop (line_length source + 1) source) in
    let longer : length p.before ≡ suc (length rest) = ap (λ (l : List (List ℕ)). length l) (sym whole ∙ lines_next source some) in
    let same = texts_length words p.before p.texts in
    (omega (arith, longer, same), omega (arith, p.room, p.count, same))
progress_count source (b ∷ bs) words line p none some = absurd (omega arith)
