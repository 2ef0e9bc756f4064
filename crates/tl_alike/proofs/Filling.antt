-- The nodes that a tree lays out fill an interval of numbers, by recursion over the tree; and with it, what the grammar says of the entries
-- of a struct and of what is spliced.
use Rattle.std.proofs.Common.{Bool, ◌≡◌, ℕ, suc, pred, ◌<◌, ◌≤◌, List, [], ◌∷◌, ◌++◌, length, get_or, refl, sym, ap, subst, ◌∙◌, append_assoc}
use Rattle.std.proofs.Common.{length-append, inl, inr, arith}
use Rattle.std.specs.Prelude.{true}
use Rattle.std.specs.List.{All}
use Rattle.std.proofs.lemmas.Bool.{and_parts, false≢true, cases_lt}
use Rattle.std.proofs.lemmas.List.{append-nil}
use Rattle.std.proofs.lemmas.List.Elements.{All-nil, All-cons, All-append}
use Rattle.tl_base.specs.declared.ids.NodeId.{NodeId}
use Rattle.tl_tree.specs.Item.{Item}
use Rattle.tl_tree.specs.Tree.{Tree}
use Rattle.tl_tree.specs.Tree as t
use Rattle.tl_tree.specs.Nodes.{added, lay, last, last_of, item_at, absent_item}
use Rattle.tl_tree.specs.Kinds as kinds
use Rattle.tl_tree.specs.Kinds.{WellFormed, IsWellFormedBlock}
use Rattle.tl_tree.specs.Children.{children_of}
use Rattle.tl_tree.proofs.Fitting.{Slot, One, Many, Any, Fits}
use Rattle.tl_tree.proofs.Fitting as kind
use Rattle.tl_tree.proofs.Laying.{ref, ids, Grows}
use Rattle.tl_alike.specs.Roles.{is_entry, is_arm, is_escape, HasKinds}
use Rattle.tl_alike.proofs.Intervals.{Full, NoMore, Next, behind, Whole}

-- ---- nodes with more behind them

same : (items : List Item) → Grows items items
same items = record { more = []; is = sym (append-nil items) }

further : {a b c : List Item} → Grows a b → Grows b c → Grows a c
further {a} {b} {c} p q =
    record { more = p.more ++ q.more; is = q.is ∙ ap (λ (x : List Item). x ++ q.more) p.is ∙ append_assoc a p.more q.more }

pushed : (items : List Item) (item : Item) → Grows items (items ++ item ∷ [])
pushed items item = record { more = item ∷ []; is = refl }

length_pushed : (items : List Item) (item : Item) → length (items ++ item ∷ []) ≡ suc (length items)
length_pushed items item = omega (arith, length-append items (item ∷ []))

get_middle : (xs : List Item) (item : Item) (more : List Item) → get_or ((xs ++ item ∷ []) ++ more) (length xs) absent_item ≡ item
get_middle [] item more = refl
get_middle (x ∷ xs) item more = get_middle xs item more

last_number : (xs : List Item) (item : Item) → last_of (xs ++ item ∷ []) ≡ record { 0 = length xs }
last_number xs item = ap (λ (n : ℕ). record { 0 = pred n }) (length_pushed xs item)

last_item : (xs : List Item) (item : Item) (items : List Item) → Grows (xs ++ item ∷ []) items
    → item_at items (last_of (xs ++ item ∷ [])) ≡ item
last_item xs item items p =
    ap (λ (is : List Item). item_at is (last_of (xs ++ item ∷ []))) p.is
    ∙ ap (λ (id : NodeId). item_at ((xs ++ item ∷ []) ++ p.more) id) (last_number xs item)
    ∙ get_middle xs item p.more

-- ---- trees one after the other

-- Behind the nodes in front trees were laid, among these nodes, and these are their numbers.
pub record Chain (front xs : List Item) (ns : List NodeId) : Type 0 where
  pub grows : Grows front xs
  pub full : (items : List Item) → Grows xs items → Full items (length front) (length xs) ns
  pub kinds : (items : List Item) → Grows xs items → (n : NodeId) → length front ≤ n.0 → n.0 < length xs → HasKinds items (item_at items n)

start : (front : List Item) → Chain front front []
start front = record {
  grows = same front;
  full = λ items g. NoMore refl;
  kinds = λ items g n low high. absurd (omega (arith, low, high));
}

then : {front xs ys : List Item} {ns ms : List NodeId} → Chain front xs ns → Chain xs ys ms → Chain front ys (ns ++ ms)
then {front} {xs} {ys} {ns} {ms} x y = record {
  grows = further x.grows y.grows;
  full = λ items g. behind items (length front) (length xs) (length ys) ns ms (x.full items (further y.grows g)) (y.full items g);
  kinds = λ items g n low high. elim (cases_lt n.0 (length xs)) as (λ _. HasKinds items (item_at items n)) [
    | inl lt ↦ x.kinds items (further y.grows g) n low lt
    | inr le ↦ y.kinds items g n le high
  ];
}

-- a node behind those that it has as children
close : {front ys : List Item} {ns : List NodeId} (item : Item) → children_of item ≡ ns
    → ((items : List Item) → Grows (ys ++ item ∷ []) items → HasKinds items item) → Chain front ys ns
    → Chain front (ys ++ item ∷ []) (last_of (ys ++ item ∷ []) ∷ [])
close {front} {ys} {ns} item are has x = record {
  grows = further x.grows (pushed ys item);
  full = λ items g. Next (below items g) (NoMore (omega (arith, length_pushed ys item, at_end)));
  kinds = λ items g n low high. elim (cases_lt n.0 (length ys)) as (λ _. HasKinds items (item_at items n)) [
    | inl lt ↦ x.kinds items (further (pushed ys item) g) n low lt
    | inr le ↦
        let e : (last_of (ys ++ item ∷ [])).0 ≡ n.0 = omega (arith, at_end, le, high, length_pushed ys item) in
        subst (λ (k : ℕ). HasKinds items (item_at items (record { 0 = k }))) e
        (subst (λ (i : Item). HasKinds items i) (sym (last_item ys item items g)) (has items g))
  ];
}
  where
    at_end : (last_of (ys ++ item ∷ [])).0 ≡ length ys
    at_end = ap (λ (id : NodeId). id.0) (last_number ys item)

    below : (items : List Item) → Grows (ys ++ item ∷ []) items
        → Full items (length front) (last_of (ys ++ item ∷ [])).0 (children_of (item_at items (last_of (ys ++ item ∷ []))))
    below items g =
        subst (λ (i : Item). Full items (length front) (last_of (ys ++ item ∷ [])).0 (children_of i)) (sym (last_item ys item items g))
        (subst (λ (n : ℕ). Full items (length front) n (children_of item)) (sym at_end)
        (subst (λ (all : List NodeId). Full items (length front) (length ys) all) (sym are) (x.full items (further (pushed ys item) g))))

-- ---- entries, and what is spliced

-- All nodes of a list are of a kind.
abbrev AllAt : (Item → Type 0) → List Item → List NodeId → Type 0
AllAt P items ns = All (λ c. P (item_at items c)) ns

entry_at : (a : Tree) → kinds.is_entry a ≡ true → (front items : List Item) → Grows (lay a front) items
    → is_entry (item_at items (last (added a front)))
entry_at (t.Entry a b) h front items g = subst (λ (i : Item). is_entry i) (sym (last_item (lay b (lay a front)) _ items g)) tt
entry_at _ h front items g = absurd (false≢true h)

arm_at : (a : Tree) → kinds.is_arm a ≡ true → (front items : List Item) → Grows (lay a front) items
    → is_arm (item_at items (last (added a front)))
arm_at (t.Arm a b) h front items g = subst (λ (i : Item). is_arm i) (sym (last_item (lay b (lay a front)) _ items g)) tt
arm_at _ h front items g = absurd (false≢true h)

terra_arm_at : (a : Tree) → kinds.is_terra_arm a ≡ true → (front items : List Item) → Grows (lay a front) items
    → is_arm (item_at items (last (added a front)))
terra_arm_at (t.Arm a b) h front items g = subst (λ (i : Item). is_arm i) (sym (last_item (lay b (lay a front)) _ items g)) tt
terra_arm_at _ h front items g = absurd (false≢true h)

escape_at : (a : Tree) → kinds.is_escape a ≡ true → (front items : List Item) → Grows (lay a front) items
    → is_escape (item_at items (last (added a front)))
escape_at (t.Escape place a) h front items g = subst (λ (i : Item). is_escape i) (sym (last_item (lay a front) _ items g)) tt
escape_at _ h front items g = absurd (false≢true h)

-- where the trees of a list are of a kind, so are their nodes
abbrev AreKind : (Tree → Bool) → (Item → Type 0) → Tree → List Item → Type 0
AreKind K P a front = kinds.are K a ≡ true → (items : List Item) → Grows (lay a front) items → AllAt P items (added a front).numbers

one_more : (K : Tree → Bool) (P : Item → Type 0)
    → ((a : Tree) → K a ≡ true → (front items : List Item) → Grows (lay a front) items → P (item_at items (last (added a front))))
    → (earlier next : Tree) (front : List Item) → Grows (lay earlier front) (lay next (lay earlier front)) → AreKind K P earlier front
    → AreKind K P (t.More earlier next) front
one_more K P at earlier next front grows are h items g =
    let both = and_parts _ _ h in
    All-append (λ c. P (item_at items c)) (added earlier front).numbers (last (added next (lay earlier front)) ∷ [])
    (are both.0 items (further grows g))
    (All-cons (λ c. P (item_at items c)) (last (added next (lay earlier front))) [] (at next both.1 (lay earlier front) items g)
    (All-nil (λ c. P (item_at items c))))

-- a list of entries or of arms
record Lists (a : Tree) (front : List Item) : Type 0 where
  entries : AreKind kinds.is_entry is_entry a front
  arms : AreKind kinds.is_arm is_arm a front
  terra_arms : AreKind kinds.is_terra_arm is_arm a front

abbrev ListsIf : Slot → Tree → List Item → Type 0
ListsIf Many a front = Lists a front
ListsIf _ a front = Unit {0}

-- ---- each tree

abbrev Filled : Slot → Tree → List Item → Type 0
Filled s a front = Chain front (lay a front) (ids s (ref s (added a front))) × ListsIf s a front

fills : (a : Tree) (s : Slot) → Fits s a → WellFormed a → (front : List Item) → Filled s a front
fills t.Nothing Many f w front = (
  start front,
  record {
    entries = λ h items g. All-nil (λ c. is_entry (item_at items c));
    arms = λ h items g. All-nil (λ c. is_arm (item_at items c));
    terra_arms = λ h items g. All-nil (λ c. is_arm (item_at items c));
  },
)
fills t.Nothing Any f w front = (start front, tt)
fills (t.More earlier next) Many f w front =
    let parts = and_parts _ _ f in
    let x = fills earlier Many parts.0 w.0 front in
    let y = fills next One parts.1 w.1 (lay earlier front) in (
      then x.0 y.0,
      record {
        entries = one_more kinds.is_entry is_entry entry_at earlier next front y.0.grows x.1.entries;
        arms = one_more kinds.is_arm is_arm arm_at earlier next front y.0.grows x.1.arms;
        terra_arms = one_more kinds.is_terra_arm is_arm terra_arm_at earlier next front y.0.grows x.1.terra_arms;
      },
    )
fills (t.Just a) Any f w front = ((fills a One f w front).0, tt)
fills (t.Name place offset text) One f w front =
    (close _ refl (λ items g. tt) (start front), tt)
fills (t.Numeral place text) One f w front =
    (close _ refl (λ items g. tt) (start front), tt)
fills (t.Literal place text) One f w front =
    (close _ refl (λ items g. tt) (start front), tt)
fills (t.Nil place) One f w front =
    (close _ refl (λ items g. tt) (start front), tt)
fills (t.False place) One f w front =
    (close _ refl (λ items g. tt) (start front), tt)
fills (t.True place) One f w front =
    (close _ refl (λ items g. tt) (start front), tt)
fills (t.Varargs place) One f w front =
    (close _ refl (λ items g. tt) (start front), tt)
fills (t.Function place a) One f w front =
    (close _ refl (λ items g. tt) (fills a One (kind.body a w.0) w.1 front).0, tt)
fills (t.Table place a) One f w front =
    (close _ refl (λ items g. tt) (fills a Many (kind.all kinds.is_field kind.field a w.0) w.1 front).0, tt)
fills (t.Binary place op a b) One f w front = (
  close _ refl (λ items g. tt)
      (then (fills a One (kind.expression a w.0.0) w.0.1 front).0
      (fills b One (kind.expression b w.1.0) w.1.1 (lay a front)).0),
  tt,
)
fills (t.Unary place op a) One f w front =
    (close _ refl (λ items g. tt) (fills a One (kind.expression a w.0) w.1 front).0, tt)
fills (t.Paren place a) One f w front =
    (close _ refl (λ items g. tt) (fills a One (kind.expression a w.0) w.1 front).0, tt)
fills (t.Index place a b) One f w front = (
  close _ refl (λ items g. tt)
      (then (fills a One (kind.expression a w.0.0) w.0.1 front).0
      (fills b One (kind.expression b w.1.0) w.1.1 (lay a front)).0),
  tt,
)
fills (t.Select place a b) One f w front = (
  close _ refl (λ items g. tt)
      (then (fills a One (kind.expression a w.0.0) w.0.1 front).0
      (fills b One (kind.name b w.1.0) w.1.1 (lay a front)).0),
  tt,
)
fills (t.Call place a b) One f w front = (
  close _ refl (λ items g. tt)
      (then (fills a One (kind.expression a w.0.0) w.0.1 front).0
      (fills b Many (kind.all kinds.is_expression kind.expression b w.1.0) w.1.1 (lay a front)).0),
  tt,
)
fills (t.Method place a b c) One f w front = (
  close _ refl (λ items g. tt)
      (then (fills a One (kind.expression a w.0.0) w.0.1 front).0
      (then (fills b One (kind.name b w.1.0) w.1.1 (lay a front)).0
      (fills c Many (kind.all kinds.is_expression kind.expression c w.2.0) w.2.1 (lay b (lay a front))).0)),
  tt,
)
fills (t.TerraFunction place a) One f w front =
    (close _ refl (λ items g. tt) (fills a One (kind.terra_body a w.0) w.1 front).0, tt)
fills (t.Struct place a) One f w front = (
  close _ refl (λ items g. (fills a Many (kind.all kinds.is_entry kind.entry a w.0) w.1 front).1.entries w.0 items (further (pushed _ _) g))
      (fills a Many (kind.all kinds.is_entry kind.entry a w.0) w.1 front).0,
  tt,
)
fills (t.Quote place a) One f w front =
    (close _ refl (λ items g. tt) (fills a One (kind.quoted a w.0) w.1 front).0, tt)
fills (t.Backtick place a) One f w front =
    (close _ refl (λ items g. tt) (fills a One (kind.terra_expression a w.0) w.1 front).0, tt)
fills (t.Assign place a b) One f w front = (
  close _ refl (λ items g. tt)
      (then (fills a Many (kind.all kinds.is_target kind.target a w.0.0) w.0.1 front).0
      (fills b Many (kind.all kinds.is_expression kind.expression b w.1.0) w.1.1 (lay a front)).0),
  tt,
)
fills (t.CallStatement place a) One f w front =
    (close _ refl (λ items g. tt) (fills a One (kind.call a w.0) w.1 front).0, tt)
fills (t.Do place a) One f w front =
    (close _ refl (λ items g. tt) (fills a One (kind.block a w.0) w.1 front).0, tt)
fills (t.While place a b) One f w front = (
  close _ refl (λ items g. tt)
      (then (fills a One (kind.expression a w.0.0) w.0.1 front).0
      (fills b One (kind.block b w.1.0) w.1.1 (lay a front)).0),
  tt,
)
fills (t.Repeat place a b) One f w front = (
  close _ refl (λ items g. tt)
      (then (fills a One (kind.block a w.0.0) w.0.1 front).0
      (fills b One (kind.expression b w.1.0) w.1.1 (lay a front)).0),
  tt,
)
fills (t.If place a b) One f w front = (
  close _ refl
      (λ items g. (fills a Many (kind.all kinds.is_arm kind.arm a w.0.0) w.0.1 front).1.arms w.0.0 items
      (further (fills b Any (kind.if_any kinds.is_block kind.block b w.1.0) w.1.1 (lay a front)).0.grows (further (pushed _ _) g)))
      (then (fills a Many (kind.all kinds.is_arm kind.arm a w.0.0) w.0.1 front).0
      (fills b Any (kind.if_any kinds.is_block kind.block b w.1.0) w.1.1 (lay a front)).0),
  tt,
)
fills (t.NumericFor place a b c d e) One f w front = (
  close _ refl (λ items g. tt)
      (then (fills a One (kind.name a w.0.0) w.0.1 front).0
      (then (fills b One (kind.expression b w.1.0) w.1.1 (lay a front)).0
      (then (fills c One (kind.expression c w.2.0) w.2.1 (lay b (lay a front))).0
      (then (fills d Any (kind.if_any kinds.is_expression kind.expression d w.3.0) w.3.1 (lay c (lay b (lay a front)))).0
      (fills e One (kind.block e w.4.0) w.4.1 (lay d (lay c (lay b (lay a front))))).0)))),
  tt,
)
fills (t.GenericFor place a b c) One f w front = (
  close _ refl (λ items g. tt)
      (then (fills a Many (kind.all kinds.is_name kind.name a w.0.0) w.0.1 front).0
      (then (fills b Many (kind.all kinds.is_expression kind.expression b w.1.0) w.1.1 (lay a front)).0
      (fills c One (kind.block c w.2.0) w.2.1 (lay b (lay a front))).0)),
  tt,
)
fills (t.DefineFunction place a b) One f w front = (
  close _ refl (λ items g. tt)
      (then (fills a One (kind.path a w.0.0) w.0.1 front).0
      (fills b One (kind.body b w.1.0) w.1.1 (lay a front)).0),
  tt,
)
fills (t.LocalFunction place a b) One f w front = (
  close _ refl (λ items g. tt)
      (then (fills a One (kind.name a w.0.0) w.0.1 front).0
      (fills b One (kind.body b w.1.0) w.1.1 (lay a front)).0),
  tt,
)
fills (t.Local place a b) One f w front = (
  close _ refl (λ items g. tt)
      (then (fills a Many (kind.all kinds.is_name kind.name a w.0.0) w.0.1 front).0
      (fills b Many (kind.all kinds.is_expression kind.expression b w.1.0) w.1.1 (lay a front)).0),
  tt,
)
fills (t.DefineTerra place a b) One f w front = (
  close _ refl (λ items g. tt)
      (then (fills a One (kind.path a w.0.0) w.0.1 front).0
      (fills b One (kind.terra_body b w.1.0) w.1.1 (lay a front)).0),
  tt,
)
fills (t.DeclareTerra place a b) One f w front = (
  close _ refl (λ items g. tt)
      (then (fills a One (kind.path a w.0.0) w.0.1 front).0
      (fills b One (kind.expression b w.1.0) w.1.1 (lay a front)).0),
  tt,
)
fills (t.LocalTerra place word a b) One f w front = (
  close _ refl (λ items g. tt)
      (then (fills a One (kind.name a w.0.0) w.0.1 front).0
      (fills b One (kind.terra_body b w.1.0) w.1.1 (lay a front)).0),
  tt,
)
fills (t.LocalDeclareTerra place word a b) One f w front = (
  close _ refl (λ items g. tt)
      (then (fills a One (kind.name a w.0.0) w.0.1 front).0
      (fills b One (kind.expression b w.1.0) w.1.1 (lay a front)).0),
  tt,
)
fills (t.DefineStruct place a b) One f w front = (
  close _ refl (λ items g.
      (fills b Many (kind.all kinds.is_entry kind.entry b w.1.0) w.1.1 (lay a front)).1.entries w.1.0 items (further (pushed _ _) g))
      (then (fills a One (kind.path a w.0.0) w.0.1 front).0
      (fills b Many (kind.all kinds.is_entry kind.entry b w.1.0) w.1.1 (lay a front)).0),
  tt,
)
fills (t.LocalStruct place word a b) One f w front = (
  close _ refl (λ items g.
      (fills b Many (kind.all kinds.is_entry kind.entry b w.1.0) w.1.1 (lay a front)).1.entries w.1.0 items (further (pushed _ _) g))
      (then (fills a One (kind.name a w.0.0) w.0.1 front).0
      (fills b Many (kind.all kinds.is_entry kind.entry b w.1.0) w.1.1 (lay a front)).0),
  tt,
)
fills (t.Emit place a) One f w front =
    (close _ refl (λ items g. tt) (fills a One (kind.expression a w.0) w.1 front).0, tt)
fills (t.Return place a) One f w front =
    (close _ refl (λ items g. tt) (fills a Many (kind.all kinds.is_expression kind.expression a w.0) w.1 front).0, tt)
fills (t.Break place) One f w front =
    (close _ refl (λ items g. tt) (start front), tt)
fills (t.TerraNil place) One f w front =
    (close _ refl (λ items g. tt) (start front), tt)
fills (t.TerraFalse place) One f w front =
    (close _ refl (λ items g. tt) (start front), tt)
fills (t.TerraTrue place) One f w front =
    (close _ refl (λ items g. tt) (start front), tt)
fills (t.TerraBinary place op a b) One f w front = (
  close _ refl (λ items g. tt)
      (then (fills a One (kind.terra_expression a w.0.0) w.0.1 front).0
      (fills b One (kind.terra_expression b w.1.0) w.1.1 (lay a front)).0),
  tt,
)
fills (t.TerraUnary place op a) One f w front =
    (close _ refl (λ items g. tt) (fills a One (kind.terra_expression a w.0) w.1 front).0, tt)
fills (t.TerraParen place a) One f w front =
    (close _ refl (λ items g. tt) (fills a One (kind.terra_expression a w.0) w.1 front).0, tt)
fills (t.Escape place a) One f w front =
    (close _ refl (λ items g. tt) (fills a One (kind.expression a w.0) w.1 front).0, tt)
fills (t.TerraIndex place a b) One f w front = (
  close _ refl (λ items g. tt)
      (then (fills a One (kind.terra_expression a w.0.0) w.0.1 front).0
      (fills b One (kind.terra_expression b w.1.0) w.1.1 (lay a front)).0),
  tt,
)
fills (t.TerraSelect place a b) One f w front = (
  close _ refl (λ items g. tt)
      (then (fills a One (kind.terra_expression a w.0.0) w.0.1 front).0
      (fills b One (kind.terra_name b w.1.0) w.1.1 (lay a front)).0),
  tt,
)
fills (t.TerraCall place a b) One f w front = (
  close _ refl (λ items g. tt)
      (then (fills a One (kind.terra_expression a w.0.0) w.0.1 front).0
      (fills b Many (kind.all kinds.is_terra_expression kind.terra_expression b w.1.0) w.1.1 (lay a front)).0),
  tt,
)
fills (t.TerraMethod place a b c) One f w front = (
  close _ refl (λ items g. tt)
      (then (fills a One (kind.terra_expression a w.0.0) w.0.1 front).0
      (then (fills b One (kind.terra_name b w.1.0) w.1.1 (lay a front)).0
      (fills c Many (kind.all kinds.is_terra_expression kind.terra_expression c w.2.0) w.2.1 (lay b (lay a front))).0)),
  tt,
)
fills (t.Construct place a b) One f w front = (
  close _ refl (λ items g. tt)
      (then (fills a One (kind.terra_expression a w.0.0) w.0.1 front).0
      (fills b Many (kind.all kinds.is_initialiser kind.initialiser b w.1.0) w.1.1 (lay a front)).0),
  tt,
)
fills (t.TerraAssign place a b) One f w front = (
  close _ refl (λ items g. tt)
      (then (fills a Many (kind.terra_targets a w.0.0) w.0.1 front).0
      (fills b Many (kind.all kinds.is_terra_expression kind.terra_expression b w.1.0) w.1.1 (lay a front)).0),
  tt,
)
fills (t.TerraCallStatement place a) One f w front =
    (close _ refl (λ items g. tt) (fills a One (kind.terra_call a w.0) w.1 front).0, tt)
fills (t.Splice place a) One f w front = (
  close _ refl (λ items g. escape_at a w.0 front items (further (pushed _ _) g))
      (fills a One (kind.escape a w.0) w.1 front).0,
  tt,
)
fills (t.TerraDo place a) One f w front =
    (close _ refl (λ items g. tt) (fills a One (kind.terra_block a w.0) w.1 front).0, tt)
fills (t.TerraWhile place a b) One f w front = (
  close _ refl (λ items g. tt)
      (then (fills a One (kind.terra_expression a w.0.0) w.0.1 front).0
      (fills b One (kind.terra_block b w.1.0) w.1.1 (lay a front)).0),
  tt,
)
fills (t.TerraRepeat place a b) One f w front = (
  close _ refl (λ items g. tt)
      (then (fills a One (kind.terra_block a w.0.0) w.0.1 front).0
      (fills b One (kind.terra_expression b w.1.0) w.1.1 (lay a front)).0),
  tt,
)
fills (t.TerraIf place a b) One f w front = (
  close _ refl
      (λ items g. (fills a Many (kind.all kinds.is_terra_arm kind.terra_arm a w.0.0) w.0.1 front).1.terra_arms w.0.0 items
      (further (fills b Any (kind.if_any kinds.is_terra_block kind.terra_block b w.1.0) w.1.1 (lay a front)).0.grows (further (pushed _ _) g)))
      (then (fills a Many (kind.all kinds.is_terra_arm kind.terra_arm a w.0.0) w.0.1 front).0
      (fills b Any (kind.if_any kinds.is_terra_block kind.terra_block b w.1.0) w.1.1 (lay a front)).0),
  tt,
)
fills (t.TerraFor place a b c d e) One f w front = (
  close _ refl (λ items g. tt)
      (then (fills a One (kind.terra_name a w.0.0) w.0.1 front).0
      (then (fills b One (kind.terra_expression b w.1.0) w.1.1 (lay a front)).0
      (then (fills c One (kind.terra_expression c w.2.0) w.2.1 (lay b (lay a front))).0
      (then (fills d Any (kind.if_any kinds.is_terra_expression kind.terra_expression d w.3.0) w.3.1 (lay c (lay b (lay a front)))).0
      (fills e One (kind.terra_block e w.4.0) w.4.1 (lay d (lay c (lay b (lay a front))))).0)))),
  tt,
)
fills (t.Var place a b) One f w front = (
  close _ refl (λ items g. tt)
      (then (fills a Many (kind.all kinds.is_variable kind.variable a w.0.0) w.0.1 front).0
      (fills b Many (kind.all kinds.is_terra_expression kind.terra_expression b w.1.0) w.1.1 (lay a front)).0),
  tt,
)
fills (t.EscapeBlock place a) One f w front =
    (close _ refl (λ items g. tt) (fills a One (kind.block a w.0) w.1 front).0, tt)
fills (t.TerraReturn place a) One f w front = (
  close _ refl (λ items g. tt)
      (fills a Many (kind.all kinds.is_terra_expression kind.terra_expression a w.0) w.1 front).0,
  tt,
)
fills (t.TerraBreak place) One f w front =
    (close _ refl (λ items g. tt) (start front), tt)
fills (t.Block a) One f w front =
    (close _ refl (λ items g. tt) (fills a Many f w front).0, tt)
fills (t.Arm a b) One f w front =
    let parts = and_parts _ _ f in (
      close _ refl (λ items g. tt)
          (then (fills a One parts.0 w.0 front).0
          (fills b One parts.1 w.1 (lay a front)).0),
      tt,
    )
fills (t.Body a flag b) One f w front =
    let parts = and_parts _ _ f in (
      close _ refl (λ items g. tt)
          (then (fills a Many parts.0 w.0 front).0
          (fills b One parts.1 w.1 (lay a front)).0),
      tt,
    )
fills (t.Path a b) One f w front =
    let parts = and_parts _ _ f in (
      close _ refl (λ items g. tt)
          (then (fills a Many parts.0 w.0 front).0
          (fills b Any parts.1 w.1 (lay a front)).0),
      tt,
    )
fills (t.NamedField a b) One f w front =
    let parts = and_parts _ _ f in (
      close _ refl (λ items g. tt)
          (then (fills a One parts.0 w.0 front).0
          (fills b One parts.1 w.1 (lay a front)).0),
      tt,
    )
fills (t.KeyedField a b) One f w front =
    let parts = and_parts _ _ f in (
      close _ refl (λ items g. tt)
          (then (fills a One parts.0 w.0 front).0
          (fills b One parts.1 w.1 (lay a front)).0),
      tt,
    )
fills (t.Entry a b) One f w front =
    let parts = and_parts _ _ f in (
      close _ refl (λ items g. tt)
          (then (fills a One parts.0 w.0 front).0
          (fills b One parts.1 w.1 (lay a front)).0),
      tt,
    )
fills (t.Quoted a b) One f w front = (
  close _ refl (λ items g. tt)
      (then (fills a One (kind.terra_block a w.0.0) w.0.1 front).0
      (fills b Any (kind.if_any kinds.is_terra_expression kind.terra_expression b w.1.0) w.1.1 (lay a front)).0),
  tt,
)
fills (t.TerraBody place a b c) One f w front = (
  close _ refl (λ items g. tt)
      (then (fills a Many (kind.all kinds.is_parameter kind.parameter a w.0.0) w.0.1 front).0
      (then (fills b Any (kind.if_any kinds.is_expression kind.expression b w.1.0) w.1.1 (lay a front)).0
      (fills c One (kind.terra_block c w.2.0) w.2.1 (lay b (lay a front))).0)),
  tt,
)
fills (t.Parameter place a b) One f w front = (
  close _ refl (λ items g. tt)
      (then (fills a One (kind.name a w.0.0) w.0.1 front).0
      (fills b One (kind.expression b w.1.0) w.1.1 (lay a front)).0),
  tt,
)
fills (t.SpliceParameter place a) One f w front =
    (close _ refl (λ items g. tt) (fills a One (kind.escape a w.0) w.1 front).0, tt)
fills (t.Variable place a b) One f w front = (
  close _ refl (λ items g. tt)
      (then (fills a One (kind.terra_name a w.0.0) w.0.1 front).0
      (fills b Any (kind.if_any kinds.is_expression kind.expression b w.1.0) w.1.1 (lay a front)).0),
  tt,
)
fills _ _ f w front = absurd (false≢true f)

-- ---- the tree of a text

filled : (a : Tree) → IsWellFormedBlock a → Chain [] (lay a []) (last_of (lay a []) ∷ [])
filled a h = (fills a One (kind.block a h.0) h.1 []).0

pub whole : (a : Tree) → IsWellFormedBlock a → Whole (lay a [])
whole a h = (filled a h).full (lay a []) (same (lay a []))

pub has_kinds : (a : Tree) → IsWellFormedBlock a → (n : NodeId) → n.0 < length (lay a []) → HasKinds (lay a []) (item_at (lay a []) n)
has_kinds a h n lt = (filled a h).kinds (lay a []) (same (lay a [])) n (omega arith) lt
