-- What is owed for a source: from what its staging was made to, up to its bytes.
use Rattle.std.proofs.Common.{◌≡◌, inl, ℕ, List, [], ◌++◌, Some, refl, sym, ap, ap₂, subst, ◌∙◌, append_assoc}
use Rattle.tl_base.specs.declared.place.Place.{Place}
use Rattle.tl_tree.specs.Code.{Items}
use Rattle.tl_tree.specs.Nodes.{lay}
use Rattle.tl_tree.specs.Tree.{Tree}
use Rattle.elf_image.specs.declared.image.Image.{Image}
use Rattle.elf_image.specs.Calls.{symbol_named}
use Rattle.elf_image.specs.Written as files
use Rattle.terra_term.specs.Stores.{contents_of}
use Rattle.exotype.specs.World.{StageState}
use Rattle.spec_sound.specs.Sound.{ArePlaced}
use Rattle.stage_model.specs.declared.staging.End.{End}
use Rattle.stage_model.specs.declared.staging.End.TheVariants as staged
use Rattle.stage_model.specs.declared.staging.Mode.{Mode}
use Rattle.stage_model.specs.declared.staging.Mode.TheVariants.{Exports}
use Rattle.stage_model.specs.declared.texts.Written.{Written}
use Rattle.stage_model.specs.Staging.{Ending, outcome}
use Rattle.stage_model.specs.Texts.{AreChecks, AreTerms}
use Rattle.back_end.specs.Compiled.{IsCompiled}
use Rattle.stage_image.specs.declared.emitting.Made.{Made}
use Rattle.stage_image.specs.declared.emitting.Made.TheVariants as made
use Rattle.stage_image.specs.declared.emitting.Emitted.{Emitted}
use Rattle.stage_image.specs.Emitted.{IsEmitted, IsMade, defined_count}
use Rattle.terrac_call.specs.declared.status.Status.TheVariants as statuses
use Rattle.terrac_call.specs.Words.{Asking, Check, Emit, Limits, Run, Task, Terms}
use Rattle.terrac_call.specs.Due.{Due, IsReadAs, IsTree, after, given, refused}
use Rattle.terrac_call.specs.Exec.{IsCallDue}
use Rattle.terrac_call.specs.Run.{manner_of}
use Rattle.terrac_call.specs.Staged.{IsDone, IsEndDue, IsRestOwed, IsSourceOwed, IsTreeOwed, bytes_of, limits_of, mode_of, told}
use Rattle.terrac_call.specs.EndView.{due_of_end}
use Rattle.terrac_call.specs.MadeView.{IsLawfulMade}

-- five pieces, joined from the right
pub five_joined : (a b c d e : List ℕ) → a ++ (b ++ (c ++ (d ++ e))) ≡ a ++ b ++ c ++ d ++ e
five_joined a b c d e =
    sym (append_assoc (a ++ b ++ c) d e ∙ append_assoc (a ++ b) c (d ++ e) ∙ append_assoc a b (c ++ (d ++ e)))

-- ---- what a staging was made to

-- an image that compiling gave is lawful
pub lawful_made : (w : StageState) (memory : ℕ) (end : End) (it : Made) → IsMade w memory end it → IsLawfulMade it
lawful_made w memory staged.Done (made.Image image) is = is.lawful
lawful_made w memory staged.Done (made.Raised text place) is = absurd is
lawful_made w memory staged.Done made.Spent is = absurd is
lawful_made w memory staged.Done made.Unmade is = tt
lawful_made w memory (staged.Raised text place) it is = subst IsLawfulMade (sym is) tt
lawful_made w memory staged.Spent it is = subst IsLawfulMade (sym is) tt

refused_same : (text other : List ℕ) (place at : Place) → ◌≡◌ {A = Made} (made.Raised text place) (made.Raised other at)
    → refused (statuses.Raised text place) ≡ refused (statuses.Raised other at)
refused_same text other place at same =
    let texts : text ≡ other = cc in
    let places : place ≡ at = cc in
    ap₂ (λ t p. refused (statuses.Raised t p)) texts places

module _ (task : Task) (it : Ending) (memory : ℕ) where
  -- an image comes of a staging that is done
  pub image_end : (end : End) (image : Image) (rest : Due) → IsMade it.left.world.typing.stage memory end (made.Image image)
      → (IsCompiled (contents_of it.left.world.typing.stage.store) memory it.left.world.typing.stage.exports.list image → IsDone task it rest)
      → IsEndDue task it end rest
  image_end staged.Done image rest is done = done is
  image_end (staged.Raised text place) image rest is done = absurd cc
  image_end staged.Spent image rest is done = absurd cc

  -- a staging that raised an error owes its line
  pub raised_end : (end : End) (text : List ℕ) (place : Place) → IsMade it.left.world.typing.stage memory end (made.Raised text place)
      → IsEndDue task it end (refused (statuses.Raised text place))
  raised_end staged.Done text place is = absurd is
  raised_end (staged.Raised other at) text place is = refused_same text other place at is
  raised_end staged.Spent text place is = absurd cc

  -- and so does one whose budget was spent
  pub spent_end : (end : End) → IsMade it.left.world.typing.stage memory end made.Spent → IsEndDue task it end (refused statuses.BudgetSpent)
  spent_end staged.Done is = absurd is
  spent_end (staged.Raised text place) is = absurd cc
  spent_end staged.Spent is = refl

  -- lines that are due where it is done are due with each end
  pub lines_end : (end : End) (lines : List ℕ) → IsDone task it (given lines) → IsEndDue task it end (due_of_end end lines)
  lines_end staged.Done lines done = done
  lines_end (staged.Raised text place) lines done = refl
  lines_end staged.Spent lines done = refl

-- the file of an image that was compiled
pub file_done : (limits : Limits) (it : Ending) (image : Image) (rest : Due)
    → IsCompiled (contents_of it.left.world.typing.stage.store) (bytes_of limits.memory) it.left.world.typing.stage.exports.list image
    → rest ≡ given (files.bytes_of image) → IsDone (Emit limits) it rest
file_done limits it image rest compiled is = record { image = image; compiled = compiled; is = is }

-- and a call of it
pub call_done : (asking : Asking) (it : Ending) (functions : ℕ) (image : Image) (rest : Due)
    → functions ≡ defined_count it.left.world.typing.stage.store
    → IsCompiled (contents_of it.left.world.typing.stage.store) (bytes_of asking.running.limits.memory) it.left.world.typing.stage.exports.list image
    → IsCallDue image asking.call (manner_of asking functions) (symbol_named asking.call.entry image.exports) rest
    → IsDone (Run asking) it rest
call_done asking it functions image rest count compiled is = record {
  image = image;
  compiled = compiled;
  due_is =
      subst (λ (n : ℕ). IsCallDue image asking.call (manner_of asking n) (symbol_named asking.call.entry image.exports) rest) count is;
}

-- as the task says
abbrev Makes : Ending → Image → Due → Task → Type 0
Makes it image rest task =
    IsCompiled (contents_of it.left.world.typing.stage.store) (bytes_of (limits_of task).memory) it.left.world.typing.stage.exports.list image
    → IsDone task it rest

pub file_rest : (shown : Task) (limits : Limits) (it : Ending) (image : Image) (rest : Due) → shown ≡ Emit limits
    → rest ≡ given (files.bytes_of image)
    → IsCompiled (contents_of it.left.world.typing.stage.store) (bytes_of (limits_of shown).memory) it.left.world.typing.stage.exports.list image
    → IsDone shown it rest
file_rest shown limits it image rest same is compiled =
    subst (Makes it image rest) (sym same) (λ made. file_done limits it image rest made is) compiled

pub call_rest : (shown : Task) (asking : Asking) (it : Ending) (functions : ℕ) (image : Image) (rest : Due) → shown ≡ Run asking
    → functions ≡ defined_count it.left.world.typing.stage.store
    → IsCallDue image asking.call (manner_of asking functions) (symbol_named asking.call.entry image.exports) rest
    → IsCompiled (contents_of it.left.world.typing.stage.store) (bytes_of (limits_of shown).memory) it.left.world.typing.stage.exports.list image
    → IsDone shown it rest
call_rest shown asking it functions image rest same count is compiled =
    subst (Makes it image rest) (sym same) (λ made. call_done asking it functions image rest count made is) compiled

-- ---- for the nodes of a tree, and for the bytes that read as it

-- what is owed behind what a staging printed
pub tree_owed : (task : Task) (items : Items) (finish : Place) (n units memory : ℕ) (it : Ending) (printed : List ℕ) (rest due : Due)
    → ArePlaced items → outcome items finish (mode_of task) n units memory ≡ Some it → units ≡ (limits_of task).budget
    → memory ≡ bytes_of (limits_of task).memory → printed ≡ it.left.world.typing.stage.heap.printed → IsRestOwed task it rest
    → due ≡ told task printed rest → IsTreeOwed task items finish due
tree_owed task items finish n units memory it printed rest due placed comes same_units same_memory same_printed owed is = record {
  placed = placed;
  n = n;
  ending = it;
  comes =
      subst (λ (m : ℕ). outcome items finish (mode_of task) n (limits_of task).budget m ≡ Some it) same_memory
      (subst (λ (u : ℕ). outcome items finish (mode_of task) n u memory ≡ Some it) same_units comes);
  rest = rest;
  rest_is = owed;
  is = is ∙ ap (λ (p : List ℕ). told task p rest) same_printed;
}

-- lines that stagings give
pub written_owed : (task : Task) (items : Items) (finish : Place) (n units memory : ℕ) (it : Ending) (printed lines : List ℕ) (end : End)
    (due : Due) → ArePlaced items → outcome items finish (mode_of task) n units memory ≡ Some it → units ≡ (limits_of task).budget
    → memory ≡ bytes_of (limits_of task).memory → printed ≡ it.left.world.typing.stage.heap.printed → end ≡ it.end
    → IsDone task it (given lines) → due ≡ told task printed (due_of_end end lines) → IsTreeOwed task items finish due
written_owed task items finish n units memory it printed lines end due placed comes same_units same_memory same_printed same_end done is =
    tree_owed task items finish n units memory it printed (due_of_end it.end lines) due placed comes same_units same_memory same_printed
    (inl (lines_end task it memory it.end lines done)) (is ∙ ap (λ (e : End). told task printed (due_of_end e lines)) same_end)

pub source_owed : (task : Task) (bytes : List ℕ) (tree : Tree) (finish : Place) (items : Items) (due : Due)
    → IsReadAs bytes (IsTree tree finish) → items ≡ lay tree [] → IsTreeOwed task items finish due → IsSourceOwed task bytes due
source_owed task bytes tree finish items due reads laid is =
    (IsTree tree finish, reads, subst (λ (xs : Items). IsTreeOwed task xs finish due) laid is)

-- ---- what the calls of the staging give

module _ (shown : Task) (items : Items) (finish : Place) (units memory : ℕ) (placed : ArePlaced items)
    (same_units : units ≡ (limits_of shown).budget) (same_memory : memory ≡ bytes_of (limits_of shown).memory) where
  abbrev Owes : Due → Task → Type 0
  Owes due task = units ≡ (limits_of task).budget → memory ≡ bytes_of (limits_of task).memory → IsTreeOwed task items finish due

  -- the lines of checks
  pub checks_owed : (limits : Limits) (it : Written) (due : Due) → shown ≡ Check limits → AreChecks items finish units memory it
      → due ≡ after it.printed (due_of_end it.end it.lines) → IsTreeOwed shown items finish due
  checks_owed limits it due same are is =
      subst (Owes due) (sym same)
      (λ u m. written_owed (Check limits) items finish are.n units memory are.ending it.printed it.lines it.end due placed are.comes u m
      are.printed are.end (ap given are.lines) is)
      same_units same_memory

  -- those of exports and their terms
  pub terms_owed : (limits : Limits) (it : Written) (due : Due) → shown ≡ Terms limits → AreTerms items finish units memory it
      → due ≡ after it.printed (due_of_end it.end it.lines) → IsTreeOwed shown items finish due
  terms_owed limits it due same are is =
      subst (Owes due) (sym same)
      (λ u m. written_owed (Terms limits) items finish are.n units memory are.ending it.printed it.lines it.end due placed are.comes u m
      are.printed are.end (ap given are.lines) is)
      same_units same_memory

  -- what is made of an image
  pub emitted_owed : (it : Emitted) (due : Due) → mode_of shown ≡ Exports
      → (are : IsEmitted items finish (record { budget = units; memory = memory }) it)
      → ((e : Ending) → it.functions ≡ defined_count e.left.world.typing.stage.store
      → IsMade e.left.world.typing.stage (bytes_of (limits_of shown).memory) e.end it.end
      → (rest : Due) × IsRestOwed shown e rest × (due ≡ told shown it.printed rest))
      → IsTreeOwed shown items finish due
  emitted_owed it due exports are gives =
      let made : IsMade are.ending.left.world.typing.stage (bytes_of (limits_of shown).memory) are.ending.end it.end =
      subst (λ (m : ℕ). IsMade are.ending.left.world.typing.stage m are.ending.end it.end) same_memory are.end in
      let given_rest = gives are.ending are.functions made in
      tree_owed shown items finish are.n units memory are.ending it.printed given_rest.0 due placed
      (subst (λ (mode : Mode). outcome items finish mode are.n units memory ≡ Some are.ending) (sym exports) are.comes)
      same_units same_memory are.printed given_rest.1 given_rest.2
