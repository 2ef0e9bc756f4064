-- Lists of nodes that are evaluated in their order, where some are behind the first, and stores in targets.
use Rattle.std.proofs.Common.{◌≡◌, ℕ, suc, ◌+◌, ◌-◌, ◌*◌, ◌<◌, List, [], ◌∷◌, ◌++◌, length, refl, sym, ap, ◌∙◌, arith}
use Rattle.std.proofs.lemmas.Bool.Decides.{nat_tests}
use Rattle.std.specs.Prelude.{true, false, ◌==◌, if◌then◌else◌}
use Rattle.tl_base.specs.declared.ids.NodeId.{NodeId}
use Rattle.tl_base.specs.declared.ids.TableId.{TableId}
use Rattle.tl_base.specs.Plan.{Do}
use Rattle.tl_tree.specs.Nodes.{item_at}
use Rattle.tl_tree.specs.Code.{Items, name_at, place_at, node_in}
use Rattle.lua_value.specs.declared.value.Value.{Value}
use Rattle.lua_table.specs.Cells.{nth_value}
use Rattle.lua_model.specs.declared.scope.Scope.{Scope}
use Rattle.lua_model.specs.declared.job.Job.TheVariants as jobs
use Rattle.lua_model.specs.Plans.{LuaPlan, on_one, on_all, value_of, values_of, with_text_of}
use Rattle.lua_model.specs.Fields.{read}
use Rattle.lua_model.specs.Tables.{store_values, next_field}
use Rattle.lua_model.specs.Assignments.{define, define_in, store_target, stores}
use Rattle.lua_eval.specs.Frames.{define_name}
use Rattle.lua_eval.specs.Paths.{is_end}

-- an expression with others behind it
pub values_next : (n : NodeId) (ns : List NodeId) (scope : Scope) (vs : List Value) (go : List Value → LuaPlan) → 0 < length ns
    → values_of (n ∷ ns) scope vs go ≡ Do (jobs.Expression n scope) (λ r. on_one r (λ v. values_of ns scope (vs ++ v ∷ []) go))
values_next n [] scope vs go some = absurd (omega arith)
values_next n (m ∷ ns) scope vs go some = refl

-- the last one
pub values_last : (n : NodeId) (ns : List NodeId) (scope : Scope) (vs : List Value) (go : List Value → LuaPlan) → length ns ≡ 0
    → values_of (n ∷ ns) scope vs go ≡ Do (jobs.Expression n scope) (λ r. on_all r (λ us. go (vs ++ us)))
values_last n [] scope vs go none = refl
values_last n (m ∷ ns) scope vs go none = absurd (omega arith)

-- the same for fields without a key
pub field_next : (table : TableId) (next : ℕ) (n : NodeId) (ns : List NodeId) (scope : Scope) (go : ℕ → LuaPlan) → 0 < length ns
    → next_field table next n ns scope go ≡ Do (jobs.Expression n scope) (λ r. on_one r (λ v. store_values table next (v ∷ []) (go (next + 1))))
field_next table next n [] scope go some = absurd (omega arith)
field_next table next n (m ∷ ns) scope go some = refl

pub field_last : (table : TableId) (next : ℕ) (n : NodeId) (ns : List NodeId) (scope : Scope) (go : ℕ → LuaPlan) → length ns ≡ 0
    → next_field table next n ns scope go ≡ Do (jobs.Expression n scope) (λ r. on_all r (λ vs. store_values table next vs (go next)))
field_last table next n [] scope go none = refl
field_last table next n (m ∷ ns) scope go none = absurd (omega arith)

-- a path, of which this is the last name or not
pub define_in_by : (items : Items) (n : NodeId) (ns : List NodeId) (function : NodeId) (scope : Scope) (object : Value)
    → define_in items (n ∷ ns) function scope object
    ≡ (if is_end ns then define_in items (n ∷ []) function scope object
    else with_text_of (name_at items n) (λ key. read object key (place_at items n) scope.call (λ next. define_in items ns function scope next)))
define_in_by items n [] function scope object = refl
define_in_by items n (m ∷ ns) function scope object = refl

pub define_by : (items : Items) (n : NodeId) (ns : List NodeId) (function : NodeId) (scope : Scope)
    → define items (n ∷ ns) function scope
    ≡ (if is_end ns then Do (jobs.Target n scope) (λ r. on_all r (λ us. define_name items n function scope))
    else value_of n scope (λ object. define_in items ns function scope object))
define_by items n [] function scope = refl
define_by items n (m ∷ ns) function scope = refl

-- the store before the others that are left
stores_suc : (items : Items) (ns : List NodeId) (scope : Scope) (us vs : List Value) (left i : ℕ) → left ≡ suc i
    → stores items ns scope us vs left
    ≡ store_target items (item_at items (node_in ns i)) (node_in ns i) scope (nth_value us (2 * i)) (nth_value us (2 * i + 1)) (nth_value vs i)
    (stores items ns scope us vs i)
stores_suc items ns scope us vs left i is = ap (stores items ns scope us vs) is

pub stores_next : (items : Items) (ns : List NodeId) (scope : Scope) (us vs : List Value) (left : ℕ) → 0 < left
    → stores items ns scope us vs left
    ≡ store_target items (item_at items (node_in ns (left - 1))) (node_in ns (left - 1)) scope (nth_value us (2 * (left - 1)))
    (nth_value us (2 * (left - 1) + 1)) (nth_value vs (left - 1)) (stores items ns scope us vs (left - 1))
stores_next items ns scope us vs left some = stores_suc items ns scope us vs left (left - 1) (omega arith)

-- the same, where the target, its object, its key and its value are known by equations
pub stores_at : (items : Items) (ns : List NodeId) (scope : Scope) (us vs : List Value) (left : ℕ) (n : NodeId) (object key v : Value)
    → 0 < left → n ≡ node_in ns (left - 1) → object ≡ nth_value us (2 * (left - 1)) → key ≡ nth_value us (2 * (left - 1) + 1)
    → v ≡ nth_value vs (left - 1)
    → stores items ns scope us vs left ≡ store_target items (item_at items n) n scope object key v (stores items ns scope us vs (left - 1))
stores_at items ns scope us vs left n object key v some n_is object_is key_is v_is =
    let rest = stores items ns scope us vs (left - 1) in
    let i = left - 1 in
    stores_next items ns scope us vs left some
    ∙ ap (λ (m : NodeId). store_target items (item_at items m) m scope (nth_value us (2 * i)) (nth_value us (2 * i + 1)) (nth_value vs i) rest) (sym n_is)
    ∙ ap (λ (o : Value). store_target items (item_at items n) n scope o (nth_value us (2 * i + 1)) (nth_value vs i) rest) (sym object_is)
    ∙ ap (λ (k : Value). store_target items (item_at items n) n scope object k (nth_value vs i) rest) (sym key_is)
    ∙ ap (λ (w : Value). store_target items (item_at items n) n scope object key w rest) (sym v_is)

-- what tests of lists tell
pub some_of : (ns : List NodeId) → (length ns == 0) ≡ false → 0 < length ns
some_of ns e = grind (arith, nat_tests)

pub none_of : (ns : List NodeId) → (length ns == 0) ≡ true → length ns ≡ 0
none_of ns e = grind (arith, nat_tests)

pub none_is : (ns : List NodeId) → length ns ≡ 0 → ns ≡ []
none_is [] none = refl
none_is (n ∷ ns) none = absurd (omega arith)

not_zero : (n : ℕ) → false ≡ (suc n == 0)
not_zero n = grind (arith, nat_tests)

pub end_after : (ns : List NodeId) (n : NodeId) → is_end (ns ++ n ∷ []) ≡ false
end_after [] n = refl
end_after (m ∷ ns) n = refl

pub end_of : (ns : List NodeId) → is_end (ns ++ []) ≡ (length ns == 0)
end_of [] = refl
end_of (m ∷ ns) = not_zero (length ns)
