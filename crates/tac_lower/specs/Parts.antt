-- Parts of the definitions by names of their own, as the code has functions for them. A view of the code: nothing is promised here.
use Rattle.std.specs.Prelude.{◌≡◌, ℕ, nat_eq, if◌then◌else◌, List, [], Option, Some, None}
use Rattle.tl_base.specs.declared.place.Place.{Place}
use Rattle.tl_base.specs.declared.ids.TypeId.{TypeId}
use Rattle.tl_base.specs.declared.ids.FnId.{FnId}
use Rattle.terra_words.specs.declared.words.BinaryOperator.TheVariants as operators
use Rattle.terra_types.specs.declared.types.TypeForm.{TypeForm}
use Rattle.terra_types.specs.Opening.{boolean}
use Rattle.terra_term.specs.TypedTerms.{Expression}
use Rattle.terra_meaning.specs.Values.{form_at, bytes_at}
use Rattle.terra_meaning.specs.Meaning.{in_expression}
use Rattle.tac_form.specs.declared.tac.Operand.{Operand}
use Rattle.tac_form.specs.declared.tac.Operand.TheVariants.{Constant}
use Rattle.tac_form.specs.declared.tac.Signature.{Signature}
use Rattle.tac_form.specs.declared.tac.Spot.{Spot}
use Rattle.tac_lower.specs.Pieces.{Used, Piece, Result, Holders, known, taken, then_piece, compute, copied, destination, number_of, stored}
use Rattle.tac_lower.specs.Pieces.{whole_word, word_of}
use Rattle.tac_lower.specs.Lowering.{to_temp, to_place, aimed, call, call_value, fitted, signature_in, turned_over}

abbrev pub placed_word : List TypeForm → TypeId → Spot → Result → Used → Piece (Unit {0})
placed_word types of to r u =
    if nat_eq (bytes_at types of) 0 then taken (λ b. tt) (copied (word_of r) u) else stored types of to r u

abbrev pub negated : List TypeForm → TypeId → Operand → Used → Piece Result
negated types of x u =
    if nat_eq of.0 boolean.0 then compute operators.Xor whole_word x (Constant 1) u
    else turned_over (number_of types of) x u

abbrev pub converted : List TypeForm → TypeId → Operand → Used → Piece Result
converted types of x u =
    if nat_eq of.0 boolean.0 then compute operators.NotEqual whole_word x (Constant 0) u
    else fitted (number_of types of) x u

abbrev pub called : List TypeForm → Place → TypeId → FnId → List Result → Used → Piece Result
called types at of f vs u = then_piece (destination types of u) (λ to u'. call at f vs to u')

abbrev pub called_value : List TypeForm → Place → TypeId → TypeId → List Result → Used → Piece Result
called_value types at of callee vs u =
    then_piece (destination types of u) (λ to u'. call_value at (signature_in (form_at types callee)) vs to u')

abbrev pub no_signature : Signature
no_signature = record { params = []; result = record { 0 = 0 } }

-- what an assignment to a term goes to: this temporary, or the place that the term is
abbrev pub AimsAt : Expression → Holders → Option ℕ → Type 0
AimsAt e scope (Some t) = ((p : Piece Result) (u : Used) → aimed scope e p u ≡ known (to_temp t) u) × (in_expression e ≡ 0)
AimsAt e scope None = (p : Piece Result) (u : Used) → aimed scope e p u ≡ taken to_place p
