use Rattle.terra_frames.proofs.Laying.{frames_are_laid_out}
use Rattle.terra_frames.proofs.law.frames_are_laid_out.Goals as goal

pub returns : goal.returns
returns c = frames_are_laid_out
