-- What steps keep, where the heap that they made is known by an equation.
use Rattle.std.proofs.Common.{ℕ, List, Result, Ok, Err}
use Rattle.lua_value.specs.declared.value.Value.{Value}
use Rattle.lua_ops.specs.declared.fault.Fault.{Fault}
use Rattle.lua_ops.specs.Outcomes.{piece_of, joined, text_store, concat_store}
use Rattle.lua_table.specs.LuaState.{LuaState}
use Rattle.lua_table.specs.Keeping.{KeepsHeap}
use Rattle.lua_table.proofs.Keeping.{keeps_itself, keeps_text}

keeps_joined : (s : LuaState) (text : Result (List ℕ) Fault) → KeepsHeap s (text_store s text)
keeps_joined s (Ok bytes) = keeps_text s bytes
keeps_joined s (Err fault) = keeps_itself s

pub keeps_concat : (s : LuaState) (a b : Value) → KeepsHeap s (concat_store s a b)
keeps_concat s a b = keeps_joined s (joined a b (piece_of s a) (piece_of s b))
