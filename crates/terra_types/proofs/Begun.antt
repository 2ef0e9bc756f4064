-- The types that are there from the begin are held.
use Rattle.std.specs.Prelude.{◌≡◌, refl, false, List, [], ◌∷◌, ◌++◌, length, position, None}
use Rattle.std.proofs.Common.{arith, lit<}
use Rattle.std.proofs.lemmas.Option.{none-some}
use Rattle.terra_types.specs.declared.key.TypeKey.{TypeKey}
use Rattle.terra_types.specs.declared.key.TypeKey.TheVariants as keys
use Rattle.terra_types.specs.declared.table.Kept.{Kept}
use Rattle.terra_types.specs.declared.types.Integer.TheVariants.{Int8, Int16, Int32, Int64, Uint8, Uint16, Uint32, Uint64}
use Rattle.terra_types.specs.declared.types.TypeForm.{TypeForm}
use Rattle.terra_types.specs.declared.types.TypeForm.TheVariants as forms
use Rattle.terra_types.specs.Holding.{IsHeld, opening_entries}
use Rattle.terra_types.specs.Kept.{Fits, AreKept, forms_in, elements_for, plain}
use Rattle.terra_types.specs.Making.{is_same}
use Rattle.terra_types.specs.Opening.{NamesBelow}
use Rattle.terra_types.proofs.Held.{is_struct, plain-comes}
use Rattle.terra_types.proofs.Pushing.{kept-push}

kept_none : AreKept []
kept_none =
    record {
      fitting = tt;
      elements = λ i e at. absurd (none-some e at);
      lawful = record {
        alone = λ i j t at also. absurd (none-some t at);
        before = λ i t at. absurd (none-some t at);
        numbered = λ i n p l at. absurd (none-some (forms.Struct n p l) at);
        limited = λ i n p l at. absurd (none-some _ at);
      };
    }

one_more : {es : List (TypeKey × Kept)} (key : TypeKey) (form : TypeForm) → AreKept es → Fits key form → None ≡ elements_for es form → is_struct form ≡ false → NamesBelow (length (forms_in es)) form → position (is_same form) (forms_in es) ≡ None → AreKept (es ++ (key, plain form) ∷ [])
one_more {es} key form k fits own plain_form below new =
    kept-push es (key, plain form) k fits own (plain-comes (forms_in es) form plain_form below new)

kept_opening : AreKept opening_entries
kept_opening =
    one_more (keys.Pointer (record { 0 = 0 })) (forms.Pointer (record { 0 = 0 })) (one_more keys.Unit forms.Unit (one_more keys.Bool forms.Bool (one_more (keys.Integer Uint64) (forms.Integer Uint64) (one_more (keys.Integer Uint32) (forms.Integer Uint32) (one_more (keys.Integer Uint16) (forms.Integer Uint16) (one_more (keys.Integer Uint8) (forms.Integer Uint8) (one_more (keys.Integer Int64) (forms.Integer Int64) (one_more (keys.Integer Int32) (forms.Integer Int32) (one_more (keys.Integer Int16) (forms.Integer Int16) (one_more (keys.Integer Int8) (forms.Integer Int8) kept_none refl refl refl (omega arith) refl) refl refl refl (omega arith) refl) refl refl refl (omega arith) refl) refl refl refl (omega arith) refl) refl refl refl (omega arith) refl) refl refl refl (omega arith) refl) refl refl refl (omega arith) refl) refl refl refl (omega arith) refl) refl refl refl (omega arith) refl) refl refl refl (omega arith) refl) refl refl refl (lit< tt) refl

pub held-opening : IsHeld opening_entries 0
held-opening = record { opened = ([], refl); kept = kept_opening; counted = refl }
