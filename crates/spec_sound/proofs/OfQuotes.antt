-- Plans for quotes and for structs are fine.
use Rattle.std.proofs.Common.{◌≡◌, ℕ, ◌+◌, true, List, [], ◌∷◌, Option, Some, None}
use Rattle.std.specs.Prelude.{codes, nat_le, if◌then◌else◌}
use Rattle.tl_base.specs.declared.ids.EnvId.{EnvId}
use Rattle.tl_base.specs.declared.ids.NodeId.{NodeId}
use Rattle.tl_base.specs.declared.ids.TableId.{TableId}
use Rattle.tl_base.specs.declared.ids.TermId.{TermId}
use Rattle.tl_base.specs.declared.ids.TextId.{TextId}
use Rattle.tl_base.specs.declared.ids.TypeId.{TypeId}
use Rattle.tl_base.specs.declared.place.Place.{Place}
use Rattle.tl_base.specs.Plan.{Read, Write}
use Rattle.tl_tree.specs.Code.{Items, name_at, statements_at}
use Rattle.terra_term.specs.declared.store.Quote.{Quote}
use Rattle.terra_term.specs.declared.store.Quote.TheVariants as quotes
use Rattle.terra_term.specs.declared.term.Expression.TheVariants as e
use Rattle.terra_term.specs.declared.size.Size.{Size}
use Rattle.terra_term.specs.WellTyped.{is_placed}
use Rattle.exotype.specs.declared.fault.Fault.TheVariants as faults
use Rattle.exotype.specs.World.{StageState, with_heap}
use Rattle.exotype.specs.Terms.{term_size, terms_size}
use Rattle.exotype.specs.Types.{next_type, with_struct, tables_of}
use Rattle.check_sound.specs.Sound.{IsSound, QuoteIsSound, AreStatements}
use Rattle.spec_model.specs.Nodes.{quoted_at, typing_at}
use Rattle.spec_model.specs.Plans.{SpecPlan, with_text_of, raise, expression, block}
use Rattle.spec_model.specs.Quotes.{most_nodes, most_levels, limited, give_quote, quote_term, backtick_plan, quoted_plan, quote_plan}
use Rattle.spec_model.specs.Structs.{with_entry, entry, entry_if_any, entries_plan, new_struct}
use Rattle.spec_sound.proofs.Following.{Next, next-itself, next-twice, statements-still}
use Rattle.spec_sound.proofs.Running.{Fine}
use Rattle.spec_sound.proofs.Writing.{heap-follows, quote-follows, struct-follows}
use Rattle.spec_sound.proofs.OfPlans.{fine-if, fine-text, fine-raise, fine-expression, fine-term, fine-block, fine-entering}
use Rattle.spec_sound.proofs.OfNames.{fine-type-if-any}

-- ---- limits

pub fine-limited : (w : StageState) → IsSound w → (size : Size) (place : Place) (rest : SpecPlan) → Fine rest w →
    Fine (limited size place rest) w
fine-limited w sound size place rest h =
    fine-if w (nat_le size.nodes most_nodes)
    (if nat_le size.levels most_levels then rest else raise place faults.TermTooDeep) (raise place faults.TermTooLarge)
    (λ c. fine-if w (nat_le size.levels most_levels) rest (raise place faults.TermTooDeep) (λ d. h)
    (λ d. fine-raise w sound place faults.TermTooDeep))
    (λ c. fine-raise w sound place faults.TermTooLarge)

-- ---- quotes

fine-give-quote : (w : StageState) → IsSound w → (q : Quote) → QuoteIsSound w q → Fine (give_quote q) w
fine-give-quote w sound q h = (quote-follows w sound q h, tt)

fine-quote-term : (w : StageState) → IsSound w → (place : Place) (t : TermId) → Fine (quote_term place t) w
fine-quote-term w sound place t =
    fine-limited w sound (term_size w t) place (give_quote (quotes.Expression t))
    (fine-give-quote w sound (quotes.Expression t) tt)

pub fine-backtick : (w : StageState) (n : NodeId) (place : Place) (env : EnvId) → Fine (backtick_plan n place env) w
fine-backtick w n place env =
    fine-term w n env (λ t. quote_term place t) (λ t v f. fine-quote-term v f.sound place t)

fine-quoted-plan : (w : StageState) → IsSound w →
    (o : Option NodeId) (ts : List TermId) (place : Place) (inner : EnvId) →
    is_placed place ≡ true → AreStatements w ts → Fine (quoted_plan o ts place inner) w
fine-quoted-plan w sound (Some n) ts place inner placed are =
    fine-term w n inner (λ t. expression place (e.Let ts t) (λ l. quote_term place l))
    (λ t v f. fine-expression v f.sound place (e.Let ts t) (λ l. quote_term place l) placed
    (statements-still w v sound f ts are) (λ l u g. fine-quote-term u g.sound place l))
fine-quoted-plan w sound None ts place inner placed are =
    fine-limited w sound (terms_size w ts) place (give_quote (quotes.Statements ts))
    (fine-give-quote w sound (quotes.Statements ts) are)

pub fine-quote : (w : StageState) → IsSound w → (items : Items) (q : NodeId) (place : Place) (env : EnvId) →
    is_placed place ≡ true → Fine (quote_plan items q place env) w
fine-quote w sound items q place env placed =
    fine-entering w sound q env
    (λ inner. block (statements_at items (quoted_at items q).block) inner []
    (λ ts. quoted_plan (quoted_at items q).value ts place inner))
    (λ inner v f. fine-block v f.sound (statements_at items (quoted_at items q).block) inner []
    (λ ts. quoted_plan (quoted_at items q).value ts place inner) tt
    (λ ts u g are. fine-quoted-plan u g.sound (quoted_at items q).value ts place inner placed are))

-- ---- structs

abbrev Goes : StageState → SpecPlan → Type 0
Goes w rest = (v : StageState) → Next w v → Fine rest v

abbrev writing : TableId → ℕ → TextId → TextId → TextId → TypeId → SpecPlan → SpecPlan
writing entries i field name type of rest =
    Read (λ w. Write (with_heap w (with_entry w.heap entries i field name type of)) rest)

fine-entry : (w : StageState) → IsSound w → (entries : TableId) (i : ℕ) (bytes : List ℕ) (of : TypeId)
    (rest : SpecPlan) → Goes w rest → Fine (entry entries i bytes of rest) w
fine-entry w sound entries i bytes of rest k =
    fine-text w sound (codes "field")
    (λ field. with_text_of bytes (λ name. with_text_of (codes "type")
    (λ type. writing entries i field name type of rest)))
    (λ field v f. fine-text v f.sound bytes
    (λ name. with_text_of (codes "type") (λ type. writing entries i field name type of rest))
    (λ name u g. fine-text u g.sound (codes "type") (λ type. writing entries i field name type of rest)
    (λ type x h.
    let heap = with_entry x.heap entries i field name type of in
    let j = heap-follows x h.sound heap in (
      j,
      k (with_heap x heap) (next-twice w v (with_heap x heap) f
          (next-twice v u (with_heap x heap) g (next-twice u x (with_heap x heap) h j))),
    ))))

fine-entry-if-any : (w : StageState) → IsSound w → (entries : TableId) (i : ℕ) (bytes : List ℕ) (o : Option TypeId)
    (rest : SpecPlan) → Goes w rest → Fine (entry_if_any entries i bytes o rest) w
fine-entry-if-any w sound entries i bytes (Some of) rest k = fine-entry w sound entries i bytes of rest k
fine-entry-if-any w sound entries i bytes None rest k = k w (next-itself w sound)

pub fine-entries : (w : StageState) → IsSound w → (items : Items) (ns : List NodeId) (struct : TypeId) (i : ℕ)
    (env : EnvId) (rest : SpecPlan) → Goes w rest → Fine (entries_plan items ns struct i env rest) w
fine-entries w sound items [] struct i env rest k = k w (next-itself w sound)
fine-entries w sound items (n ∷ ns) struct i env rest k =
    let bytes = name_at items (typing_at items n).name in
    fine-type-if-any w sound items (typing_at items n).type env
    (λ of. Read (λ u. entry_if_any (tables_of u struct).entries i bytes of
    (entries_plan items ns struct (i + 1) env rest)))
    (λ of v f there. fine-entry-if-any v f.sound (tables_of v struct).entries i bytes of
    (entries_plan items ns struct (i + 1) env rest)
    (λ u g. fine-entries u g.sound items ns struct (i + 1) env rest
    (λ x h. k x (next-twice w u x (next-twice w v u f g) h))))

pub fine-new-struct : (w : StageState) → IsSound w → (place : Place) (go : TypeId → SpecPlan) →
    ((t : TypeId) (v : StageState) → Next w v → Fine (go t) v) → Fine (new_struct place go) w
fine-new-struct w sound place go k =
    let f = struct-follows w sound place in
    (f, k (next_type w) (with_struct w place) f)
