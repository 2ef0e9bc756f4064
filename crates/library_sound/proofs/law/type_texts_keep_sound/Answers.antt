use Rattle.library_sound.proofs.LibraryLayers.{texts-sound}
use Rattle.library_sound.proofs.law.type_texts_keep_sound.Goals as goal

pub returns : goal.returns
returns c = texts-sound
