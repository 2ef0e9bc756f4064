use Rattle.library_sound.proofs.LibraryLayers.{library-sound}
use Rattle.library_sound.proofs.law.library_keeps_sound.Goals as goal

pub returns : goal.returns
returns c = library-sound
