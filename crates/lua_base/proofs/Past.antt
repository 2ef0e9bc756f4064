-- Behind the last argument of `print` there is nothing to write.
use Rattle.std.proofs.Common.{◌≡◌, ℕ, ◌+◌, ◌≤◌, List, ◌++◌, length, drop, codes, refl, arith}
use Rattle.std.proofs.lemmas.List.{drop_all}
use Rattle.tl_base.specs.Layer.{State}
use Rattle.lua_value.specs.declared.value.Value.{Value}
use Rattle.lua_table.specs.LuaState.{LuaState}
use Rattle.lua_base.specs.Printing.{print_rest, printed}

pub nothing_past : (s : State LuaState) (line : List ℕ) (vs : List Value) (i : ℕ) → length vs ≤ i
    → print_rest s line vs (i + 1) (drop (i + 1) vs) ≡ printed s (line ++ codes "\n")
nothing_past s line vs i h = rw (drop_all (i + 1) vs (omega (arith, h))) refl
