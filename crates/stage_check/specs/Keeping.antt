-- What each turn of the stage keeps: of the world of the staging what each turn of a staging without checks keeps.
use Rattle.check_model.specs.Typing.{TypingState}
use Rattle.stage_library.specs.Keeping.{KeepsStaging}

abbrev pub KeepsChecking : TypingState → TypingState → Type 0
KeepsChecking old new = KeepsStaging old.stage new.stage
