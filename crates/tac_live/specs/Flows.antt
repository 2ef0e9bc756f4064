-- Views of the code, which private contracts cite: groups of numbers, marks, and what a search for live temporaries goes by.
use Rattle.std.specs.Prelude.{◌≡◌, ℕ, ◌<◌, ◌≤◌, Bool, true, false, ◌||◌, nat_eq, List, [], ◌∷◌, ◌++◌, length}
use Rattle.std.specs.Prelude.{Option, Some, None, slice_get, slice_set, slice_index_or}
use Rattle.tac_form.specs.declared.graph.Step.{Step}
use Rattle.tac_form.specs.declared.graph.FlowBlock.{FlowBlock}
use Rattle.tac_form.specs.Live.{has, is_written}
use Rattle.tac_live.specs.Sets.{before_steps}

abbrev pub group_at : List (List ℕ) → ℕ → List ℕ
group_at groups k = slice_index_or groups k []

-- a number goes into a group, if there is that group
abbrev pub put : (k x : ℕ) → List (List ℕ) → List (List ℕ)
put k x groups = slice_set groups k (slice_index_or groups k [] ++ x ∷ [])

abbrev pub all_put : (ks : List ℕ) → (x : ℕ) → List (List ℕ) → List (List ℕ)
all_put [] x groups = groups
all_put (k ∷ ks) x groups = all_put ks x (put k x groups)

-- the mark of a number is that of a turn
abbrev pub is_turn : Option ℕ → (turn : ℕ) → Bool
is_turn None turn = false
is_turn (Some m) turn = nat_eq m turn

abbrev pub is_marked : (marks : List ℕ) → (k turn : ℕ) → Bool
is_marked marks k turn = is_turn (slice_get marks k) turn

abbrev pub all_marked : (ks : List ℕ) → (turn : ℕ) → List ℕ → List ℕ
all_marked [] turn marks = marks
all_marked (k ∷ ks) turn marks = all_marked ks turn (slice_set marks k turn)

abbrev pub write_marked : Option ℕ → (turn : ℕ) → List ℕ → List ℕ
write_marked None turn marks = marks
write_marked (Some t) turn marks = slice_set marks t turn

-- marks say what a block has written so far, and groups in which blocks temporaries are read before they are written
pub record Seen : Type 0 where
  pub marks : List ℕ
  pub groups : List (List ℕ)

abbrev pub seen : List ℕ → List (List ℕ) → Seen
seen marks groups = record { marks = marks; groups = groups }

abbrev pub exposed_unless : (written : Bool) → (t b : ℕ) → List (List ℕ) → List (List ℕ)
exposed_unless true t b groups = groups
exposed_unless false t b groups = put t b groups

abbrev pub all_exposed : (ts : List ℕ) → (b turn : ℕ) → (marks : List ℕ) → List (List ℕ) → List (List ℕ)
all_exposed [] b turn marks groups = groups
all_exposed (t ∷ ts) b turn marks groups = all_exposed ts b turn marks (exposed_unless (is_marked marks t turn) t b groups)

abbrev pub step_exposed : Step → (b turn : ℕ) → Seen → Seen
step_exposed s b turn n =
    record { marks = write_marked s.write turn n.marks; groups = all_exposed s.reads b turn n.marks n.groups }

abbrev pub steps_exposed : List Step → (b turn : ℕ) → Seen → Seen
steps_exposed [] b turn n = n
steps_exposed (s ∷ ss) b turn n = steps_exposed ss b turn (step_exposed s b turn n)

abbrev pub exit_exposed : List ℕ → (b turn : ℕ) → Seen → Seen
exit_exposed reads b turn n = record { marks = n.marks; groups = all_exposed reads b turn n.marks n.groups }

abbrev pub block_exposed : FlowBlock → (b turn : ℕ) → Seen → Seen
block_exposed block b turn n = exit_exposed block.reads b turn (steps_exposed block.steps b turn n)

abbrev pub write_put : Option ℕ → (b : ℕ) → List (List ℕ) → List (List ℕ)
write_put None b groups = groups
write_put (Some t) b groups = put t b groups

abbrev pub steps_put : List Step → (b : ℕ) → List (List ℕ) → List (List ℕ)
steps_put [] b groups = groups
steps_put (s ∷ ss) b groups = steps_put ss b (write_put s.write b groups)

-- whether a block reads a temporary before it writes it, writes it, and leads to a block
abbrev pub exposes : FlowBlock → (t : ℕ) → Bool
exposes block t = before_steps block.steps (has block.reads t) t

abbrev pub steps_write : List Step → (t : ℕ) → Bool
steps_write [] t = false
steps_write (s ∷ ss) t = is_written s.write t || steps_write ss t

abbrev pub writes : FlowBlock → (t : ℕ) → Bool
writes block t = steps_write block.steps t

abbrev pub leads : FlowBlock → (c : ℕ) → Bool
leads block c = has block.next c

abbrev pub in_block : (test : FlowBlock → ℕ → Bool) → Option FlowBlock → ℕ → Bool
in_block test None k = false
in_block test (Some block) k = test block k

-- each group has the blocks that pass a test of its number, of the first so many
pub record AreGroupedTo (graph : List FlowBlock) (count i : ℕ) (test : FlowBlock → ℕ → Bool) (groups : List (List ℕ)) : Type 0 where
  pub long : length groups ≡ count
  pub below : (k b : ℕ) → k < count → b < i → has (group_at groups k) b ≡ in_block test (slice_get graph b) k
  pub above : (k b : ℕ) → k < count → i ≤ b → has (group_at groups k) b ≡ false

pub record AreGrouped (graph : List FlowBlock) (count : ℕ) (test : FlowBlock → ℕ → Bool) (groups : List (List ℕ)) : Type 0 where
  pub long : length groups ≡ count
  pub holds : (k b : ℕ) → k < count → has (group_at groups k) b ≡ in_block test (slice_get graph b) k

pub record AreFlows (graph : List FlowBlock) (count : ℕ) (exposed writers before : List (List ℕ)) : Type 0 where
  pub exposed_are : AreGrouped graph count exposes exposed
  pub writers_are : AreGrouped graph count writes writers
  pub before_are : AreGrouped graph (length graph) leads before

-- the same for one temporary
pub record IsFlowOf (graph : List FlowBlock) (t : ℕ) (exposed writers : List ℕ) (before : List (List ℕ)) : Type 0 where
  pub exposed_are : (b : ℕ) → has exposed b ≡ in_block exposes (slice_get graph b) t
  pub writers_are : (b : ℕ) → has writers b ≡ in_block writes (slice_get graph b) t
  pub before_are : AreGrouped graph (length graph) leads before

-- so many marks, and none of a turn or a later one
pub record AreBelow (marks : List ℕ) (count turn : ℕ) : Type 0 where
  pub long : length marks ≡ count
  pub below : (k : ℕ) → slice_index_or marks k 0 < turn
