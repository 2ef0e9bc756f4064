-- Lines of exports.
use Rattle.std.proofs.Common.{◌≡◌, ℕ, suc, ◌+◌, ◌<◌, List, [], ◌∷◌, ◌++◌, length, take, drop, get_or, sym, ap, add-one, append_assoc}
use Rattle.std.proofs.Math.Seq.{drop-cons, take-suc}
use Rattle.terra_term.specs.declared.store.Export.{Export}
use Rattle.terra_term.specs.Held.{Held}
use Rattle.stage_text.specs.Terms.{term_line, term_lines}

-- a function's line, and those behind it
pub lines_step : (store : Held) (es : List Export) (i : ℕ) (d : Export) → i < length es
    → term_lines store (take i es) (drop i es)
    ≡ term_line store (take i es) (get_or es i d).function ++ term_lines store (take (i + 1) es) (drop (i + 1) es)
lines_step store es i d h =
    rw (add-one, drop-cons es i d)
    (ap (λ (b : List Export). term_line store (take i es) (get_or es i d).function ++ term_lines store b (drop (suc i) es))
    (sym (take-suc es i d h)))

-- a line is written
pub lines_on : (store : Held) (es : List Export) (i : ℕ) (d : Export) (front : List ℕ) → i < length es
    → (front ++ term_line store (take i es) (get_or es i d).function) ++ term_lines store (take (i + 1) es) (drop (i + 1) es)
    ≡ front ++ term_lines store (take i es) (drop i es)
lines_on store es i d front h =
    rw (lines_step store es i d h)
    (append_assoc front (term_line store (take i es) (get_or es i d).function)
    (term_lines store (take (i + 1) es) (drop (i + 1) es)))
