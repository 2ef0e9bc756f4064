-- What a staging works in.
use Rattle.std.specs.Prelude.{ℕ, List}
use Rattle.tl_base.specs.declared.ids.FnId.{FnId}
use Rattle.terra_term.specs.Held.{Held}
use Rattle.check_model.specs.Typing.{TypingState}

-- a run of a Terra function that Lua code called: the store in which it ran, the words of its arguments, and how many units there were
pub record TerraRun : Type 0 where
  pub store : Held
  pub function : FnId
  pub arguments : List ℕ
  pub units : ℕ

-- what bodies are typed in, and the runs of Terra functions in their order
pub record StagingState : Type 0 where
  pub typing : TypingState
  pub runs : List TerraRun

abbrev pub with_typing : StagingState → TypingState → StagingState
with_typing w p = record { typing = p; runs = w.runs }
