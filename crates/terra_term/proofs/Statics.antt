-- The end of statics is that of the last one.
use Rattle.std.proofs.Common.{◌≡◌, refl, ℕ, ◌+◌, List, [], ◌∷◌, ◌++◌, length}
use Rattle.terra_term.specs.declared.store.Static.{Static}
use Rattle.terra_term.specs.Held.{end_from}

pub end-push : (end : ℕ) (ss : List Static) (s : Static) → end_from end (ss ++ s ∷ []) ≡ s.address + length s.bytes
end-push end [] s = refl
end-push end (t ∷ ss) s = end-push (t.address + length t.bytes) ss s
