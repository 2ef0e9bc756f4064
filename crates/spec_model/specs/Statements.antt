-- Statements of Terra code.
use Rattle.std.specs.Prelude.{List, [], ◌∷◌, ◌++◌, Option, Some, None}
use Rattle.tl_base.specs.declared.ids.EnvId.{EnvId}
use Rattle.tl_base.specs.declared.ids.NodeId.{NodeId}
use Rattle.tl_base.specs.declared.ids.SymId.{SymId}
use Rattle.tl_base.specs.declared.ids.TermId.{TermId}
use Rattle.tl_base.specs.declared.ids.TypeId.{TypeId}
use Rattle.tl_base.specs.declared.place.Place.{Place}
use Rattle.tl_base.specs.Plan.{Give, Read, Write, Pay}
use Rattle.tl_tree.specs.declared.node.TerraStatement.{TerraStatement}
use Rattle.tl_tree.specs.declared.node.TerraStatement.TheVariants as tree
use Rattle.tl_tree.specs.Item.{Item}
use Rattle.tl_tree.specs.Item as kept
use Rattle.tl_tree.specs.Nodes.{item_at}
use Rattle.lua_value.specs.declared.value.Value.{Value}
use Rattle.lua_value.specs.declared.value.Value.TheVariants as values
use Rattle.lua_table.specs.Heap.{table_at}
use Rattle.tl_tree.specs.Code.{Items, place_at, statements_at, arm_condition, arm_block, if_any}
use Rattle.terra_term.specs.declared.lists.VarName.{VarName}
use Rattle.terra_term.specs.declared.store.Quote.{Quote}
use Rattle.terra_term.specs.declared.store.Quote.TheVariants as quotes
use Rattle.terra_term.specs.declared.term.Statement.TheVariants as s
use Rattle.terra_term.specs.declared.term.Term.TheVariants as terms
use Rattle.exotype.specs.World.{StageState}
use Rattle.exotype.specs.Terms.{terms_size}
use Rattle.spec_model.specs.Making.{next_symbol, with_symbol, symbol_type, quote_at}
use Rattle.spec_model.specs.declared.end.End.TheVariants.{Joined}
use Rattle.spec_model.specs.declared.wanted.Wanted.{Wanted}
use Rattle.spec_model.specs.Nodes.{escaped_at, or_first, typing_at, Typing}
use Rattle.spec_model.specs.Plans.{SpecPlan, eval, emitted, node, join, one, values_in, term, terms_of, each_term, block, entering}
use Rattle.spec_model.specs.Plans.{declaring}
use Rattle.spec_model.specs.Names.{symbols_of, symbol_of}
use Rattle.spec_model.specs.Types.{type_if_any}

abbrev pub joined : List TermId → SpecPlan
joined ts = Give (Joined ts)

-- ---- values as statements

abbrev pub performed : Value → Place → List TermId → (List TermId → SpecPlan) → SpecPlan
performed v place ts go = one v place (λ t. node (terms.Statement place (s.Perform t)) (λ u. go (ts ++ u ∷ [])))

-- a quote's statements join the block, and its nodes are paid for
abbrev pub quoted : StageState → Option Quote → Value → Place → List TermId → (List TermId → SpecPlan) → SpecPlan
quoted w (Some (quotes.Statements us)) v place ts go = Pay (terms_size w us).nodes (go (ts ++ us))
quoted w q v place ts go = performed v place ts go

abbrev pub item_of : Value → Place → List TermId → (List TermId → SpecPlan) → SpecPlan
item_of (values.Quote q) place ts go = Read (λ w. quoted w (quote_at w q) (values.Quote q) place ts go)
item_of v place ts go = performed v place ts go

abbrev pub each_item : List Value → Place → List TermId → (List TermId → SpecPlan) → SpecPlan
each_item [] place ts go = go ts
each_item (v ∷ vs) place ts go = item_of v place ts (λ us. each_item vs place us go)

-- a value as an item of a block, which is a list position
abbrev pub spliced : Value → Place → List TermId → (List TermId → SpecPlan) → SpecPlan
spliced (values.Table t) place ts go = Read (λ w. each_item (values_in (table_at w.heap t)) place ts go)
spliced v place ts go = item_of v place ts go

abbrev pub each_spliced : List Value → Place → List TermId → (List TermId → SpecPlan) → SpecPlan
each_spliced [] place ts go = go ts
each_spliced (v ∷ vs) place ts go = spliced v place ts (λ us. each_spliced vs place us go)

-- ---- `var`

abbrev pub given : List SymId → Option TypeId → Place → List Wanted
given [] of place = []
given (x ∷ xs) of place = record { symbol = Some x; of = of; place = place } ∷ given xs of place

abbrev pub wanted_one : Items → Typing → Option NodeId → EnvId → List Wanted → (List Wanted → SpecPlan) → SpecPlan
wanted_one items v (Some e) env ws go =
    eval e env (λ x. symbols_of x (place_at items v.name) (λ xs.
    type_if_any items v.type env (λ of. go (ws ++ given xs of (place_at items v.name)))))
wanted_one items v None env ws go =
    type_if_any items v.type env (λ of. go (ws ++ record { symbol = None; of = of; place = place_at items v.name } ∷ []))

-- Escapes in the place of names, and types, go first, in their order; each variable pays for itself.
abbrev pub wanted : Items → List NodeId → EnvId → List Wanted → (List Wanted → SpecPlan) → SpecPlan
wanted items [] env ws go = go ws
wanted items (n ∷ ns) env ws go =
    Pay 1 (wanted_one items (typing_at items n) (escaped_at items (typing_at items n).name) env ws (λ more. wanted items ns env more go))

abbrev pub or_own : Option TypeId → Option TypeId → Option TypeId
or_own (Some t) own = Some t
or_own None own = own

abbrev pub drawn_one : Wanted → Option SymId → EnvId → List VarName → (List VarName → SpecPlan) → SpecPlan
drawn_one v (Some x) env names go =
    Read (λ w. go (names ++ record { symbol = x; of = or_own v.of (symbol_type w x); place = v.place } ∷ []))
drawn_one v None env names go =
    Read (λ w. Write (with_symbol w v.of) (declaring env (values.Symbol (next_symbol w))
    (go (names ++ record { symbol = next_symbol w; of = v.of; place = v.place } ∷ []))))

-- Then, behind the values, plain names draw their symbols, in their order, and are declared.
abbrev pub drawn : List Wanted → EnvId → List VarName → (List VarName → SpecPlan) → SpecPlan
drawn [] env names go = go names
drawn (v ∷ vs) env names go = drawn_one v v.symbol env names (λ more. drawn vs env more go)

-- There are values where there is a `=`, also if no term comes of them.
abbrev pub values_if_any : List NodeId → EnvId → (Option (List TermId) → SpecPlan) → SpecPlan
values_if_any [] env go = go None
values_if_any (n ∷ ns) env go = terms_of (n ∷ ns) env [] (λ ts. go (Some ts))

abbrev pub var_plan : Items → List NodeId → List NodeId → Place → EnvId → SpecPlan
var_plan items ns es place env =
    wanted items ns env [] (λ ws. values_if_any es env (λ values. drawn ws env [] (λ names. join place (s.Var names values))))

-- ---- blocks

-- a block of its own
abbrev pub inner_block : Items → NodeId → EnvId → (List TermId → SpecPlan) → SpecPlan
inner_block items b env go = entering b env (λ inner. block (statements_at items b) inner [] go)

abbrev pub repeat_plan : Items → NodeId → NodeId → NodeId → Place → EnvId → SpecPlan
repeat_plan items n b condition place env =
    entering n env (λ inner. block (statements_at items b) inner [] (λ ts. term condition inner (λ t. join place (s.Repeat ts t))))

-- ---- `if`

-- goes on with the block behind `else`, if there is one
abbrev pub Others : Type 0
Others = (Option (List TermId) → SpecPlan) → SpecPlan

-- an arm, and what comes of the others
abbrev pub arm : Items → Item → Place → EnvId → Others → (TermId → SpecPlan) → SpecPlan
arm items a place env others go =
    term (arm_condition a) env (λ test. inner_block items (arm_block a) env (λ ts.
    others (λ us. node (terms.Statement place (s.If test ts us)) go)))

abbrev pub else_block : Items → Option NodeId → EnvId → Others
else_block items (Some b) env go = inner_block items b env (λ ts. go (Some ts))
else_block items None env go = go None

-- an arm behind `elseif` is an `if` in the block behind `else`, at its condition's place
abbrev pub else_of : Items → List NodeId → Option NodeId → EnvId → Others
else_of items [] otherwise env go = else_block items otherwise env go
else_of items (n ∷ ns) otherwise env go =
    arm items (item_at items n) (place_at items (arm_condition (item_at items n))) env
    (λ next. else_of items ns otherwise env next) (λ t. go (Some (t ∷ [])))

abbrev pub if_plan : Items → List NodeId → Option NodeId → Place → EnvId → SpecPlan
if_plan items [] otherwise place env = joined []
if_plan items (n ∷ ns) otherwise place env =
    arm items (item_at items n) place env (λ next. else_of items ns otherwise env next) (λ t. joined (t ∷ []))

-- ---- `for`

abbrev pub for_body : Items → NodeId → NodeId → SymId → Place → List TermId → Place → EnvId → SpecPlan
for_body items n b x at bounds place inner =
    block (statements_at items b) inner [] (λ ts. join place (s.For (record { symbol = x; of = None; place = at }) bounds ts))

-- an escape for the name comes before the bounds, and a plain name draws its symbol behind them
abbrev pub for_plan : Items → NodeId → Option NodeId → Place → List NodeId → NodeId → Place → EnvId → SpecPlan
for_plan items n (Some e) at bounds b place env =
    eval e env (λ v. symbol_of v at (λ x. each_term bounds env [] (λ ts. entering n env (λ inner. for_body items n b x at ts place inner))))
for_plan items n None at bounds b place env =
    each_term bounds env [] (λ ts. Read (λ w. Write (with_symbol w None)
    (entering n env (λ inner. declaring inner (values.Symbol (next_symbol w)) (for_body items n b (next_symbol w) at ts place inner)))))

-- ---- statements

abbrev pub statement_of : Items → TerraStatement → NodeId → Place → EnvId → SpecPlan
statement_of items (tree.Assign targets es) n place env =
    terms_of targets env [] (λ ts. terms_of es env [] (λ us. join place (s.Assign ts us)))
statement_of items (tree.Call e) n place env = term e env (λ t. join place (s.Perform t))
statement_of items (tree.Splice e) n place env = eval (or_first (escaped_at items e)) env (λ v. spliced v place [] joined)
statement_of items (tree.Do b) n place env = inner_block items b env (λ ts. join place (s.Do ts))
statement_of items (tree.While condition b) n place env =
    term condition env (λ t. inner_block items b env (λ ts. join place (s.While t ts)))
statement_of items (tree.Repeat b condition) n place env = repeat_plan items n b condition place env
statement_of items (tree.If ns otherwise) n place env = if_plan items ns otherwise place env
statement_of items (tree.For name first limit step b) n place env =
    for_plan items n (escaped_at items name) (place_at items name) (first ∷ limit ∷ if_any step) b place env
statement_of items (tree.Var ns es) n place env = var_plan items ns es place env
statement_of items (tree.Escape b) n place env = emitted b env (λ vs. each_spliced vs place [] joined)
statement_of items (tree.Return es) n place env = terms_of es env [] (λ ts. join place (s.Return ts))
statement_of items tree.Break n place env = join place s.Break

-- What is no statement is none.
abbrev pub statement_plan : Items → Item → NodeId → EnvId → SpecPlan
statement_plan items (kept.TerraStatement place x) n env = statement_of items x n place env
statement_plan items item n env = joined []
