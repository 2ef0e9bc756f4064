-- What lowering's code has, as the definitions have it. A view of the code: nothing is promised here.
use Rattle.std.specs.Prelude.{ℕ, suc, List, [], ◌∷◌, ◌++◌, Some, map}
use Rattle.tl_base.specs.declared.place.Place.{Place}
use Rattle.tl_base.specs.declared.ids.TermId.{TermId}
use Rattle.terra_term.specs.declared.lists.TypedName.{TypedName}
use Rattle.terra_term.specs.Planted.{nowhere}
use Rattle.terra_term.specs.TypedTerms as typed
use Rattle.terra_term.specs.Stores.{contents_of}
use Rattle.terra_meaning.specs.Meaning as meanings
use Rattle.terra_eval.specs.Trees.{block_before, callable_tree, expression_before, list_before, statement_before}
use Rattle.terra_eval.specs.declared.nodes.Callable.{Callable}
use Rattle.terra_eval.specs.Views.{home_of}
use Rattle.tac_lower.specs.Pieces as forms
use Rattle.tac_form.specs.declared.tac.Destination.{Destination}
use Rattle.tac_form.specs.declared.tac.Operand.TheVariants.{Temp}
use Rattle.tac_form.specs.declared.tac.Instruction.TheVariants.{Copy}
use Rattle.tac_lower.specs.Items.{does}
use Rattle.tac_lower.specs.Pieces.{Piece, Result, Holders, a_word, declare, nothing_used, number_of, then_piece, with_temp, word_at}
use Rattle.tac_lower.specs.Pieces.{word_of}
use Rattle.tac_lower.specs.Lowering.{Target, aimed, all, body_piece, counted_on, counting, one, piece, pieces, received, runs, targets}
use Rattle.tac_lower.specs.Lowering.{while_loop}
use Rattle.tac_lower.specs.Works.{Made}
use Rattle.tac_lower.specs.declared.around.Around.{Around}

abbrev pub around_of : Around → forms.Around
around_of c = record { types = (contents_of c.store.now).types; entries = c.entries.now; homes = map home_of c.homes.now }

-- the pieces of nodes among those before a number, behind the code so far

abbrev pub piece_of : Around → meanings.Wanted → (below : ℕ) → TermId → Made → Piece Result
piece_of c want below node w = piece (around_of c) want (expression_before c.store.now below node) w.next w.scope w.used

abbrev pub pieces_of : Around → (below : ℕ) → List TermId → Made → Piece (List Result)
pieces_of c below nodes w = pieces (around_of c) (list_before c.store.now below nodes) w.next w.scope w.used

abbrev pub targets_of : Around → (below : ℕ) → List TermId → Made → Piece (List Target)
targets_of c below nodes w = targets (around_of c) (list_before c.store.now below nodes) w.next w.scope w.used

abbrev pub one_of : Around → (below : ℕ) → TermId → Made → Piece Holders
one_of c below node w = one (around_of c) (statement_before c.store.now below node) w.next w.scope w.used

abbrev pub all_of : Around → (below : ℕ) → List TermId → Made → Piece Holders
all_of c below nodes w = all (around_of c) (block_before c.store.now below nodes) w.next w.scope w.used

abbrev pub target_at : Around → (below : ℕ) → TermId → Made → Piece Target
target_at c below node w =
    let e = expression_before c.store.now below node in
    aimed w.scope e (piece (around_of c) meanings.the_address e w.next w.scope w.used) w.used

-- terms of parts among those before a number; of these neither the place nor the type counts

abbrev pub both_tree : Around → (below : ℕ) → TermId → TermId → typed.Expression
both_tree c below a b =
    typed.typed nowhere (record { 0 = 0 }) (typed.Both (expression_before c.store.now below a) (expression_before c.store.now below b))

abbrev pub either_tree : Around → (below : ℕ) → TermId → TermId → typed.Expression
either_tree c below a b =
    typed.typed nowhere (record { 0 = 0 }) (typed.Either (expression_before c.store.now below a) (expression_before c.store.now below b))

abbrev pub if_tree : Around → (below : ℕ) → TermId → List TermId → typed.Statement
if_tree c below test block =
    typed.statement nowhere (typed.If (expression_before c.store.now below test) (block_before c.store.now below block))

abbrev pub choice_tree : Around → (below : ℕ) → TermId → List TermId → List TermId → typed.Statement
choice_tree c below test block other =
    typed.statement nowhere (typed.IfElse (expression_before c.store.now below test)
    (block_before c.store.now below block) (block_before c.store.now below other))

abbrev pub while_tree : Around → (below : ℕ) → TermId → List TermId → typed.Statement
while_tree c below test body =
    typed.statement nowhere (typed.While (expression_before c.store.now below test) (block_before c.store.now below body))

abbrev pub repeat_tree : Around → (below : ℕ) → List TermId → TermId → typed.Statement
repeat_tree c below body test =
    typed.statement nowhere (typed.Repeat (block_before c.store.now below body) (expression_before c.store.now below test))

abbrev pub piece_at : Around → typed.Expression → Made → Piece Result
piece_at c e w = piece (around_of c) meanings.the_value e w.next w.scope w.used

abbrev pub one_at : Around → typed.Statement → Made → Piece Holders
one_at c s w = one (around_of c) s w.next w.scope w.used

-- a `for` behind its bounds
abbrev pub for_of : Around → (below : ℕ) → Place → TypedName → List Result → List TermId → Made → Piece Holders
for_of c below at x vs body w =
    let k = counting (number_of c.store.now.types x.of) vs w.used.temps in
    let t = runs k (with_temp w.used) in
    let a = then_piece (declare (around_of c) at x (Some (a_word (Temp k.value))) w.next w.scope t.used)
    (λ inner u2. all (around_of c) (block_before c.store.now below body) (suc w.next) inner u2) in
    record {
      result = w.scope;
      code = does (Copy k.value (word_at vs 0)) ∷ while_loop t.code (word_of t.result) (a.code ++ counted_on k ∷ []);
      used = a.used;
    }

-- a function: where its parameters go, and the code of their declarations and of its body
abbrev pub destinations_of : Around → Callable → Piece (List Destination)
destinations_of c k = received c.store.now.types k.parameters.now nothing_used

abbrev pub parts_of_body : Around → Callable → Piece Holders
parts_of_body c k = let tos = destinations_of c k in body_piece (around_of c) (callable_tree c.store.now k) tos.result tos.used
