-- What is due for a source is due for one that binds alike.
use Rattle.std.proofs.Common.{◌≡◌, ◌∙◌, ◌<◌, ◌≤◌, ◌↔◌, ◌⊎◌, inl, inr, ℕ, Bool, true, List, [], length, Option, Some, None, refl, sym, ap, subst}
use Rattle.std.proofs.Common.{get_or, slice_get}
use Rattle.std.proofs.lemmas.Option.{get_or_from_slice_get, slice_get-get_or, slice_get_cases}
use Rattle.std.specs.Str.{IsUtf8}
use Rattle.tl_base.specs.declared.place.Place.{Place}
use Rattle.tl_base.specs.declared.ids.NodeId.{NodeId}
use Rattle.tl_tree.specs.Item.{Item}
use Rattle.tl_tree.specs.Nodes.{lay, item_at, absent_item}
use Rattle.tl_tree.specs.Tree.{Tree}
use Rattle.tl_tree.specs.Tokens.{finish_of}
use Rattle.tl_tree.specs.Texts.{Reads}
use Rattle.tl_tree.specs.Code.{Items, place_of}
use Rattle.tl_tree.specs.Binding.{Alike, Bound}
use Rattle.tl_alike.specs.Alike.{AreAlike, SameNode, SameName, SameNumeral, SameLiteral, SameItem}
use Rattle.tl_alike.proofs.AlikeTrees.{alike_trees}
use Rattle.tl_renaming.proofs.Utf8.{renamed_utf8}
use Rattle.terra_term.specs.WellTyped.{is_placed}
use Rattle.spec_sound.specs.Sound.{ArePlaced, word_of}
use Rattle.stage_model.specs.declared.staging.Mode.{Mode}
use Rattle.stage_model.specs.Staging.{Ending, outcome}
use Rattle.stage_alike.proofs.Outcomes.{trees_stage_alike}
use Rattle.terrac_call.specs.Words.{Make, Stage, Exec, Task, Asked, Named, Refused, Unlawful, generated_of, asked_of, source_of, text_of}
use Rattle.terrac_call.specs.Due.{Due, Reading, IsReadingDue, IsRefused, IsTree, IsDueOfSource, IsReadAs, IsText, IsTextReadAs, HasTree, longest}
use Rattle.terrac_call.specs.Staged.{IsSourceDue, IsTreeDue, bytes_of, limits_of, mode_of}
use Rattle.terrac_call.specs.Answer.{IsDue}
use Rattle.renaming_alike.proofs.RenamedAlike.{renamed_alike}
use Rattle.terrac_alike.specs.Alike.{AreAlikeSources, StagesSource, AlikeSourcesAreDueAlike, AlikeSourcesAnswerAlike, RenamedSourcesAreDueAlike}
use Rattle.terrac_call.proofs.OneReading.{one_reading}
use Rattle.terrac_call.specs.Call.{OneDue}

-- places are the same in alike trees
place-same : (one other : Item) → SameNode one other → place_of one ≡ place_of other
place-same _ _ (SameName place offset other_offset text other_text) = refl
place-same _ _ (SameNumeral place text other_text e f) = refl
place-same _ _ (SameLiteral place text other_text e) = refl
place-same item _ (SameItem _) = refl

-- what is due for a tree of one source is due for an alike one of the other
abbrev Turns : (Items → Place → Due → Type 0) → Type 0
Turns IsTreeDue =
    (items other : Items) → AreAlike items other → (place : Place) (due : Due) → IsTreeDue items place due → IsTreeDue other place due

-- the reading of a source that may be read and has a tree
reading-is : (a : List ℕ) (tree : Tree) (reading : Reading) → length a ≤ longest → IsUtf8 a → Reads a tree → IsReadAs a reading
    → reading ≡ IsTree tree (finish_of a)
reading-is a tree reading short utf8 reads is =
    one_reading a reading (IsTree tree (finish_of a)) is (IsText (IsTree tree (finish_of a)) short utf8 (HasTree tree reads))

over : (IsTreeDue : Items → Place → Due → Type 0) → Turns IsTreeDue → (a b : List ℕ) (tree other : Tree) → length a ≤ longest → IsUtf8 a
    → length b ≤ longest → IsUtf8 b → Reads a tree → Reads b other → AreAlike (lay tree []) (lay other []) → finish_of a ≡ finish_of b
    → (due : Due) → IsDueOfSource IsTreeDue a due → IsDueOfSource IsTreeDue b due
over IsTreeDue turns a b tree other short utf8 other_short other_utf8 reads other_reads alike finish due d =
    let here : IsTreeDue (lay tree []) (finish_of a) due =
    subst (λ (r : Reading). IsReadingDue IsTreeDue r due) (reading-is a tree d.0 short utf8 reads d.1) d.2 in (
      IsTree other (finish_of b),
      IsText (IsTree other (finish_of b)) other_short other_utf8 (HasTree other other_reads),
      subst (λ (place : Place). IsTreeDue (lay other []) place due) finish (turns (lay tree []) (lay other []) alike (finish_of a) due here),
    )

finish-same : (a b : List ℕ) (alike : Alike a b) → finish_of a ≡ finish_of b
finish-same a b alike = ap (λ (x : Bound). x.finish) alike.is_bound_alike

trees-alike : (a b : List ℕ) (alike : Alike a b) → AreAlike (lay alike.tree []) (lay alike.other [])
trees-alike a b alike = alike_trees a b alike.tree alike.other alike.reads alike.other_reads alike.is_bound_alike

turned : (a b : List ℕ) → Alike a b → Alike b a
turned a b alike = record {
  tree = alike.other;
  other = alike.tree;
  reads = alike.other_reads;
  other_reads = alike.reads;
  is_bound_alike = sym alike.is_bound_alike;
}

pub sources-turned : (a b : List ℕ) → AreAlikeSources a b → AreAlikeSources b a
sources-turned a b s = record {
  short = s.other_short;
  other_short = s.short;
  utf8 = s.other_utf8;
  other_utf8 = s.utf8;
  alike = turned a b s.alike;
}

due-over : (IsTreeDue : Items → Place → Due → Type 0) → Turns IsTreeDue → (a b : List ℕ) → AreAlikeSources a b → (due : Due)
    → IsDueOfSource IsTreeDue a due → IsDueOfSource IsTreeDue b due
due-over IsTreeDue turns a b s due d =
    over IsTreeDue turns a b s.alike.tree s.alike.other s.short s.utf8 s.other_short s.other_utf8 s.alike.reads s.alike.other_reads
    (trees-alike a b s.alike) (finish-same a b s.alike) due d

-- ---- each job

comes : {E : Type 0} (one other : Option E) (end : E) → one ≡ other → one ≡ Some end → other ≡ Some end
comes one other end same e = sym same ∙ e

comes-too : (items other : Items) → AreAlike items other → (place : Place) (mode : Mode) (n units memory : ℕ) (ending : Ending)
    → outcome items place mode n units memory ≡ Some ending → outcome other place mode n units memory ≡ Some ending
comes-too items other alike place mode n units memory ending e =
    comes (outcome items place mode n units memory) (outcome other place mode n units memory) ending
    (trees_stage_alike items other alike place mode n units memory) e

word-same : (one other : Item) → SameNode one other → word_of one ≡ word_of other
word-same _ _ (SameName place offset other_offset text other_text) = refl
word-same _ _ (SameNumeral place text other_text e f) = refl
word-same _ _ (SameLiteral place text other_text e) = refl
word-same item _ (SameItem _) = refl

inside : {A : Type 0} (xs : List A) (i : ℕ) (x : A) → slice_get xs i ≡ Some x → i < length xs
inside {A} xs i x e = by-case (slice_get_cases xs i).1
  where
    by-case : ((y : A) × (i < length xs) × (slice_get xs i ≡ Some y) × (get_or xs i y ≡ y)) ⊎ ((length xs ≤ i) × (slice_get xs i ≡ None))
        → i < length xs
    by-case (inl found) = found.1
    by-case (inr past) = let bad : ◌≡◌ {A = Option A} None (Some x) = sym past.1 ∙ e in absurd cc

placed-too : (items other : Items) → AreAlike items other → ArePlaced items → ArePlaced other
placed-too items other alike placed i y e =
    let less : i < length items = subst (λ n. i < n) (sym alike.long) (inside other i y e) in
    let x : Item = get_or items i absent_item in
    let own : (is_placed (place_of x) ≡ true) × (is_placed (word_of x) ≡ true) = placed i x (slice_get-get_or items i absent_item less) in
    let same : SameNode x (get_or other i absent_item) = alike.nodes (record { 0 = i }) in
    let to : SameNode x y = subst (λ z. SameNode x z) (get_or_from_slice_get other i y absent_item e) same in (
      subst (λ p. is_placed p ≡ true) (place-same x y to) own.0,
      subst (λ p. is_placed p ≡ true) (word-same x y to) own.1,
    )

task-turns : (task : Task) → Turns (IsTreeDue task)
task-turns task items other alike place due d = record {
  placed = placed-too items other alike d.placed;
  n = d.n;
  ending = d.ending;
  comes =
      comes-too items other alike place (mode_of task) d.n (limits_of task).budget (bytes_of (limits_of task).memory) d.ending d.comes;
  rest = d.rest;
  rest_is = d.rest_is;
  is = d.is;
}

-- a task that reads its source, on that source
read-by : (generated : Option ℕ) (bytes : List ℕ) → generated ≡ None → source_of generated bytes ≡ bytes
read-by generated bytes none = ap (λ (o : Option ℕ). source_of o bytes) none

pub job-over : (asked : Asked) (a b : List ℕ) → AreAlikeSources a b → StagesSource asked → (due : Due) → IsDue asked a due
    → IsDue asked b due
job-over Refused a b s stages due d = absurd stages
job-over Unlawful a b s stages due d = absurd stages
job-over (Named (Make what)) a b s stages due d = absurd stages
job-over (Named (Exec call steps)) a b s stages due d = absurd stages
job-over (Named (Stage task)) a b s stages due d =
    let read : (bytes : List ℕ) → text_of task bytes ≡ bytes = λ bytes. read-by (generated_of task) bytes stages in
    subst (λ (bytes : List ℕ). IsSourceDue task bytes due) (sym (read b))
    (due-over (IsTreeDue task) (task-turns task) a b s due (subst (λ (bytes : List ℕ). IsSourceDue task bytes due) (read a) d))

pub alike_sources_are_due_alike : AlikeSourcesAreDueAlike
alike_sources_are_due_alike words a b s stages due = (
  job-over (asked_of words) a b s stages due,
  job-over (asked_of words) b a (sources-turned a b s) stages due,
)

pub alike_sources_answer_alike : OneDue → AlikeSourcesAnswerAlike
alike_sources_answer_alike one_due words a b s stages compiles one other p q =
    one_due words b one other compiles (job-over (asked_of words) a b s stages one p) q

pub renamed_sources_are_due_alike : RenamedSourcesAreDueAlike
renamed_sources_are_due_alike words bytes other r short utf8 names other_short stages due =
    alike_sources_are_due_alike words bytes other two stages due
  where
    two : AreAlikeSources bytes other
    two = record {
      short = short;
      other_short = other_short;
      utf8 = utf8;
      other_utf8 = subst (λ (x : List ℕ). IsUtf8 x) (sym r.is) (renamed_utf8 bytes r.tree r.reads utf8);
      alike = renamed_alike bytes other r short names;
    }
