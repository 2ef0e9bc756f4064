-- Memory that begins with bytes.
use Rattle.std.proofs.Common.{◌≡◌, ◌∙◌, ap, ◌++◌, [], ◌≤◌, take, drop, replicate, length, ◌-◌, List, ℕ, length-append, append-nil, arith}
use Rattle.std.proofs.lemmas.List.{drop-replicate, length-replicate, take_all, drop_all}

pub region_front : (items given statics : List ℕ) (len size : ℕ) → items ≡ replicate size 0 → given ≡ statics ++ drop (length statics) items → length statics ≤ size → size ≤ len → take len (given ++ drop (length given) items) ≡ statics ++ replicate (size - length statics) 0
region_front items given statics len size zeros same fits long =
    let rest = size - length statics in
    let whole = statics ++ replicate rest 0 in
    let all : length whole ≡ size = omega (arith, length-append statics (replicate rest 0), length-replicate {A = ℕ} rest 0) in
    let given_is : given ≡ whole = same ∙ ap (λ i. statics ++ drop (length statics) i) zeros ∙ ap (λ r. statics ++ r) (drop-replicate (length statics) size 0) in
    let none : drop (length whole) items ≡ [] = drop_all (length whole) items (omega (arith, ap length zeros, length-replicate {A = ℕ} size 0, all)) in
    ap (λ g. take len (g ++ drop (length g) items)) given_is
    ∙ ap (λ r. take len (whole ++ r)) none
    ∙ ap (take len) (append-nil whole)
    ∙ take_all len whole (omega (arith, all))
