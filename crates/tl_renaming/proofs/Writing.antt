-- The text node by node.
use Rattle.std.specs.Prelude.{◌≡◌, ℕ, suc, ◌+◌, List, ◌∷◌, ◌++◌, length, drop, get_or, Option, Some, None}
use Rattle.std.proofs.Common.{refl, sym, ap, ◌∙◌, arith}
use Rattle.std.proofs.lemmas.List.{append_assoc, take_rest}
use Rattle.tl_tree.specs.Item.{Item}
use Rattle.tl_tree.specs.Item as kept
use Rattle.tl_tree.specs.Nodes.{item_at, last_of}
use Rattle.tl_tree.specs.Code.{Items}
use Rattle.tl_tree.specs.Scopes.{Found, binder}
use Rattle.tl_renaming.specs.Renamed.{number_of, number_found, or_found, local_number, replaced, renamed_from, bytes_between}
use Rattle.tl_renaming.specs.Passes.{AreNumbers, AreBinders, number_at, number_in, written_for, written, goes_on_for, goes_on}
use Rattle.tl_renaming.proofs.Ordered.{by_node, none_behind}

-- ---- numbers

found_number : (items : Items) (numbers : List (Option ℕ)) (found : Option Found) → AreNumbers items numbers
    → number_at numbers found ≡ number_found items found
found_number items numbers None h = refl
found_number items numbers (Some found) h = h found.declaration.0

pub number_is : (items : Items) (numbers : List (Option ℕ)) (binders : List (Option Found)) (n : ℕ) → AreNumbers items numbers
    → AreBinders items binders → number_in numbers binders n ≡ local_number items n
number_is items numbers binders n h b =
    ap (λ o. or_found o (number_at numbers (get_or binders n None))) (h n)
    ∙ ap (λ f. or_found (number_of items n) (number_at numbers f)) (b (record { 0 = n }))
    ∙ ap (or_found (number_of items n)) (found_number items numbers (binder items (record { 0 = n })) h)

-- ---- the text

name_written : (number : Option ℕ) (letters : ℕ) (text : List ℕ) (at offset : ℕ) (name : List ℕ) (go : ℕ → List ℕ)
    → written_for number letters text at offset ++ go (goes_on_for number at (offset + length name))
    ≡ replaced number letters text at offset name go
name_written None letters text at offset name go = refl
name_written (Some k) letters text at offset name go = refl

item_written : (items : Items) (letters : ℕ) (text : List ℕ) (at k : ℕ) (i : Item) (more : Items)
    → written (local_number items k) letters text at i ++ renamed_from items letters text (goes_on (local_number items k) at i) (k + 1) more
    ≡ renamed_from items letters text at k (i ∷ more)
item_written items letters text at k (kept.Name place offset name) more =
    name_written (local_number items k) letters text at offset name (λ next. renamed_from items letters text next (k + 1) more)
item_written items letters text at k (kept.Numeral place t) more = refl
item_written items letters text at k (kept.Literal place t) more = refl
item_written items letters text at k (kept.Expression place e) more = refl
item_written items letters text at k (kept.Statement place s) more = refl
item_written items letters text at k (kept.TerraExpression place e) more = refl
item_written items letters text at k (kept.TerraStatement place s) more = refl
item_written items letters text at k (kept.Piece p) more = refl

node_written : (items : Items) (letters : ℕ) (text : List ℕ) (at k : ℕ)
    → written (local_number items k) letters text at (item_at items (record { 0 = k }))
    ++ renamed_from items letters text (goes_on (local_number items k) at (item_at items (record { 0 = k }))) (k + 1) (drop (suc k) items)
    ≡ renamed_from items letters text at k (drop k items)
node_written items letters text at k =
    by_node
    (λ i before after.
    written (local_number items k) letters text at i ++ renamed_from items letters text (goes_on (local_number items k) at i) (k + 1) after
    ≡ renamed_from items letters text at k before)
    (λ i more. item_written items letters text at k i more) refl items k

-- one more node is written
pub written_next : (items : Items) (letters : ℕ) (text : List ℕ) (at next k : ℕ) (i : Item) (number : Option ℕ) (old new total : List ℕ)
    → number ≡ local_number items k → i ≡ item_at items (record { 0 = k })
    → new ≡ old ++ written number letters text at i → next ≡ goes_on number at i
    → old ++ renamed_from items letters text at k (drop k items) ≡ total
    → new ++ renamed_from items letters text next (k + 1) (drop (k + 1) items) ≡ total
written_next items letters text at next k i number old new total n is w g h =
    let e : k + 1 ≡ suc k = omega arith in
    let there = item_at items (record { 0 = k }) in
    let part = written (local_number items k) letters text at there in
    let rest = renamed_from items letters text (goes_on (local_number items k) at there) (k + 1) (drop (suc k) items) in
    ap (λ b. b ++ renamed_from items letters text next (k + 1) (drop (k + 1) items))
    (w ∙ ap (λ o. old ++ written o letters text at i) n ∙ ap (λ j. old ++ written (local_number items k) letters text at j) is)
    ∙ ap (λ a. (old ++ part) ++ renamed_from items letters text a (k + 1) (drop (k + 1) items))
    (g ∙ ap (λ o. goes_on o at i) n ∙ ap (goes_on (local_number items k) at) is)
    ∙ ap (λ j. (old ++ part) ++ renamed_from items letters text (goes_on (local_number items k) at there) (k + 1) (drop j items)) e
    ∙ append_assoc old part rest
    ∙ ap (λ b. old ++ b) (node_written items letters text at k)
    ∙ h

-- behind the last node the rest follows
pub written_last : (items : Items) (letters : ℕ) (text : List ℕ) (at k : ℕ) (old new total : List ℕ) → k ≡ suc (last_of items).0
    → new ≡ old ++ bytes_between text at (length text) → old ++ renamed_from items letters text at k (drop k items) ≡ total → new ≡ total
written_last items letters text at k old new total e w h =
    w ∙ ap (λ b. old ++ b) (take_rest text at)
    ∙ sym (ap (λ l. old ++ renamed_from items letters text at k l) (none_behind items k e)) ∙ h
