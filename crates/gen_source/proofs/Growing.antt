-- Texts that grow piece by piece.
use Rattle.std.proofs.Common.{◌≡◌, refl, ℕ, ◌+◌, ◌++◌, append_assoc, add-one, ap, ◌∙◌}
use Rattle.gen_source.specs.Generated.{Bytes, each_below}

each-next : (text : ℕ → Bytes) (before : ℕ) → each_below (before + 1) text ≡ each_below before text ++ text before
each-next text before = rw add-one refl

pub each-step : (text : ℕ → Bytes) (before : ℕ) (out made next : Bytes) → made ≡ out ++ each_below before text → next ≡ made ++ text before → next ≡ out ++ each_below (before + 1) text
each-step text before out made next so-far then =
    rw (each-next text before)
    (then ∙ (ap (λ (bytes : Bytes). bytes ++ text before) so-far ∙ append_assoc out (each_below before text) (text before)))

pub grown-by_group : (out one two three : Bytes) (before digits behind steps end : Bytes) → one ≡ out ++ (before ++ (digits ++ behind)) → two ≡ one ++ steps → three ≡ two ++ end → three ≡ out ++ (before ++ (digits ++ (behind ++ (steps ++ end))))
grown-by_group out one two three before digits behind steps end first second third = rw (third, second, first) (simp append_assoc)

pub grown-by_six : (one two three four five six : Bytes) (a b c d e f : Bytes) → one ≡ a → two ≡ one ++ b → three ≡ two ++ c → four ≡ three ++ d → five ≡ four ++ e → six ≡ five ++ f → six ≡ a ++ (b ++ (c ++ (d ++ (e ++ f))))
grown-by_six one two three four five six a b c d e f e1 e2 e3 e4 e5 e6 = rw (e6, e5, e4, e3, e2, e1) (simp append_assoc)
