-- Lowered code is such as machine code may be made of.
use Rattle.std.proofs.Common.{◌≡◌, ℕ, zero, suc, ◌+◌, ◌*◌, ◌<◌, ◌≤◌, Bool, true, false, List, Option, Some, None}
use Rattle.std.proofs.Common.{length, refl, sym, ap, ◌∙◌, subst, arith}
use Rattle.std.specs.Prelude.{◌^◌, ◌&&◌, ◌↔◌, nat_lt, if◌then◌else◌, IsTrue, IfSome, option_map}
use Rattle.std.proofs.lemmas.Option.{same_Some}
use Rattle.tl_base.specs.declared.ids.FnId.{FnId}
use Rattle.terra_types.specs.Opening.{AreTypes}
use Rattle.terra_term.specs.Stores.{Contents, Callable, callable_of}
use Rattle.terra_term.specs.Sizes.{body_size}
use Rattle.terra_term.specs.WellTyped.{body_typed}
use Rattle.tac_form.specs.declared.tac.Tac.{Tac}
use Rattle.tac_form.specs.Graph.{graph_of}
use Rattle.tac_form.specs.Live.{IsLive, read_within}
use Rattle.tac_form.specs.Weights.{code_words, private_bytes}
use Rattle.tac_form.specs.Fits.{Fits, place_fits, is_within, most_nodes, receives}
use Rattle.tac_lower.specs.Lowering.{code_of, unreached, are_narrow, parameter_types, lowered}
use Rattle.tac_lower.specs.Laws.{GoodWhereTyped, IsGood, LoweredIsGood}
use Rattle.tac_lower.proofs.Needing.{body-needs}
use Rattle.tac_lower.proofs.Ways.{code-counted}
use Rattle.tac_lower.proofs.Weights.{lowered-words}
use Rattle.tac_lower.proofs.Bytes.{lowered-bytes}
use Rattle.tac_lower.proofs.FitsWhole.{code-within}
use Rattle.tac_lower.proofs.Entry.{entry-live}

-- code that no call reaches names nothing, and nothing is live in it
unreached-within : (k : Callable) → place_fits k.at ≡ true → is_within (unreached k) ≡ true
unreached-within k place =
    ap (λ b. (((((b && true) && true) && true) && b) && nat_lt 0 (2 ^ 63)) && nat_lt 0 1) place

unreached-idle : (k : Callable) (t j : ℕ) → read_within (graph_of (unreached k)) j 0 0 t ≡ false
unreached-idle k t zero = refl
unreached-idle k t (suc j) = refl

unreached-begins : (k : Callable) (t : ℕ) → IsLive (graph_of (unreached k)) 0 0 t ↔ IsTrue (receives (unreached k) t)
unreached-begins k t = (
  λ h. let bad : false ≡ true = sym (unreached-idle k t h.0) ∙ h.1 in absurd (grind (arith, bad)),
  λ h. let bad : false ≡ true = h in absurd (grind (arith, bad)),
)

lowered-fits : (store : Contents) (entries : List FnId) (k : Callable) → AreTypes store.types → length entries < 2 ^ 32 →
    place_fits k.at ≡ true → (body_size k.body).nodes ≤ most_nodes → body_typed store k.body ≡ true → Fits (lowered store entries k)
lowered-fits store entries k are few place small typed =
    by (are_narrow store.types (parameter_types k)) refl (lowered-words store entries k) (lowered-bytes store entries k are typed)
  where
    by : (b : Bool) → are_narrow store.types (parameter_types k) ≡ b →
        code_words (if b then code_of store entries k else unreached k)
        ≤ 250 * (if b then code_of store entries k else unreached k).nodes →
        private_bytes (if b then code_of store entries k else unreached k)
        ≤ 136 * (if b then code_of store entries k else unreached k).nodes + 65536 →
        Fits (if b then code_of store entries k else unreached k)
    by true e words bytes = record {
      within = code-within store entries k are few place small typed e;
      short = omega (arith, words, small);
      few = omega (arith, bytes, small);
      begins = λ t. entry-live store entries k t;
    }
    by false e words bytes = record {
      within = unreached-within k place;
      short = omega (arith, words, small);
      few = omega (arith, bytes, small);
      begins = λ t. unreached-begins k t;
    }

pub lowered-good : LoweredIsGood lowered
lowered-good store entries k are few place small typed = record {
  fits = lowered-fits store entries k are few place small typed;
  counted = code-counted store entries k (body-needs store are entries few k typed);
  sized = record { in_words = lowered-words store entries k; in_bytes = lowered-bytes store entries k are typed };
}

-- the same of the code that is made of a function
module _ (store : Contents) (entries : List FnId) (f : FnId) where
  good-of : (o : Option Callable) → callable_of store f ≡ o →
      IfSome (option_map (lowered store entries) o) (λ (tac : Tac). GoodWhereTyped store entries f tac)
  good-of None is = tt
  good-of (Some k) is = λ j same are few place small typed.
      subst (λ (i : Callable). IsGood (lowered store entries i)) (same_Some j k (sym same ∙ is))
      (lowered-good store entries j are few place small typed)

  pub good-where-typed : (code : Option Tac) → code ≡ option_map (lowered store entries) (callable_of store f) →
      IfSome code (λ (tac : Tac). GoodWhereTyped store entries f tac)
  good-where-typed code is =
      subst (λ (o : Option Tac). IfSome o (λ (tac : Tac). GoodWhereTyped store entries f tac)) (sym is) (good-of (callable_of store f) refl)
