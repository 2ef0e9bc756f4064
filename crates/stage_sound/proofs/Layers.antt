-- What the layers of a stage are proved to keep.
use Rattle.lua_table.specs.LuaState.{LuaState}
use Rattle.tl_tree.specs.Code.{Items}
use Rattle.exotype.specs.World.{StageState, with_heap}
use Rattle.spec_model.specs.declared.job.SpecJob.{SpecJob}
use Rattle.spec_model.specs.Meaning.{spec}
use Rattle.check_sound.specs.Sound.{IsSound}
use Rattle.check_sound.specs.Growing.{Leads}
use Rattle.check_sound.specs.Layers.{LayerKeepsSound, KeepsSound, ChecksKeepSound, LayoutsKeepSound}
use Rattle.library_sound.specs.Layers.{LibraryKeepsSound, TypeTextsKeepSound}
use Rattle.library_sound.specs.Leaving.{CallsAskSound, EndsAskSound, AnswersAskSound}

pub record LayersKeep (items : Items) : Type 0 where
  pub heaps : (w : StageState) → IsSound w → (heap : LuaState) → IsSound (with_heap w heap) × Leads w (with_heap w heap)
  pub specialising : (task : SpecJob) → LayerKeepsSound (spec items task)
  pub library : LibraryKeepsSound
  pub texts : TypeTextsKeepSound
  pub asking_calls : CallsAskSound
  pub asking_ends : EndsAskSound
  pub asking_answers : AnswersAskSound
  pub bodies : KeepsSound
  pub checks : ChecksKeepSound
  pub layouts : LayoutsKeepSound
