-- The bytes of statics behind bytes.
use Rattle.std.proofs.Common.{◌≡◌, refl, sym, ap, ◌∙◌, ℕ, ◌-◌, ◌≤◌, false, List, [], ◌∷◌, ◌++◌, length, drop, replicate}
use Rattle.terra_term.specs.declared.store.Static.{Static}
use Rattle.terra_term.specs.Held.{Held, first_static}
use Rattle.terra_term.specs.Stores.{contents_of, static_bytes}
use Rattle.terra_eval.proofs.Turns.{none-left}

-- those of statics of which the first has these bytes
abbrev pub bytes_behind : List ℕ → List Static → List ℕ
bytes_behind bs ss = static_bytes (record { types = []; functions = []; statics = record { address = 0; is_text = false; bytes = bs } ∷ ss; typed = [] })

pub statics-begin : (store : Held) → static_bytes (contents_of store) ≡ bytes_behind [] store.statics
statics-begin store = refl

pub statics-later : (whole bs filled new : List ℕ) (ss rest : List Static) (s : Static) → whole ≡ bytes_behind bs ss → ss ≡ s ∷ rest
    → filled ≡ bs ++ replicate (s.address - first_static - length bs) 0 → new ≡ filled ++ s.bytes → whole ≡ bytes_behind new rest
statics-later whole bs filled new ss rest s so_far step zeros behind =
    so_far ∙ ap (λ (l : List Static). bytes_behind bs l) step
    ∙ ap (λ (l : List ℕ). bytes_behind l rest) (sym (behind ∙ ap (λ (l : List ℕ). l ++ s.bytes) zeros))

pub statics-end : (whole bs : List ℕ) (ss : List Static) (i : ℕ) → length ss ≤ i → whole ≡ bytes_behind bs (drop i ss) → bs ≡ whole
statics-end whole bs ss i past so_far = sym (so_far ∙ ap (λ (l : List Static). bytes_behind bs l) (none-left ss i past))
