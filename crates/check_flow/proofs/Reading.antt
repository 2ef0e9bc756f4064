-- Entries that are read one after the other.
use Rattle.std.proofs.Common.{◌≡◌, ℕ, zero, suc, ◌+◌, ◌<◌, List, [], ◌∷◌, ◌++◌, refl, ap, ◌∙◌, arith, Option, Some, None, inl, inr}
use Rattle.std.proofs.lemmas.Bool.{cases_lt}
use Rattle.lua_table.specs.LuaState.{LuaState}
use Rattle.lua_table.specs.Pairs.{Pairs, value_at}
use Rattle.terra_types.specs.declared.layout.Entry.{Entry}
use Rattle.terra_types.specs.Sizes.{for_some}
use Rattle.check_model.specs.Layouts.{entry_in, entries_to}

none_behind : (o : Option (List Entry)) → for_some o (λ them. for_some {A = Entry} None (λ one. Some (them ++ one ∷ []))) ≡ None
none_behind None = refl
none_behind (Some them) = refl

-- behind what is no entry there are none
pub entries_stop : (s : LuaState) (pairs : Pairs) (n m : ℕ)
    → entry_in s (value_at pairs (n + 1)) ≡ None → n < m → entries_to s pairs m ≡ None
entries_stop s pairs n zero none under = absurd (omega arith)
entries_stop s pairs n (suc m) none under =
    elim (cases_lt n m) [
      | inl h ↦
          ap (λ (o : Option (List Entry)). for_some o (λ them. for_some (entry_in s (value_at pairs (suc m))) (λ one. Some (them ++ one ∷ []))))
          (entries_stop s pairs n m none h)
      | inr h ↦
          let same : suc m ≡ n + 1 = omega arith in
          ap (λ (o : Option Entry). for_some (entries_to s pairs m) (λ them. for_some o (λ one. Some (them ++ one ∷ []))))
          (ap (λ (k : ℕ). entry_in s (value_at pairs k)) same ∙ none)
          ∙ none_behind (entries_to s pairs m)
    ]
