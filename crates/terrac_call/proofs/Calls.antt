-- The function that a call names.
use Rattle.std.proofs.Common.{◌≡◌, ◌≢◌, ◌⊎◌, inl, inr, ℕ, ◌*◌, Bool, true, false, cond, ◌&&◌, List, [], ◌∷◌, length, Option, Some}
use Rattle.std.proofs.Common.{None, refl, sym, ap, subst, ◌∙◌, nat_le}
use Rattle.std.specs.List.{list_all}
use Rattle.std.specs.Str.{bytes_eq}
use Rattle.elf_image.specs.declared.image.Image.{Image}
use Rattle.elf_image.specs.declared.image.Symbol.{Symbol}
use Rattle.elf_image.specs.Calls.{symbol_named}
use Rattle.elf_image.specs.Exports.{param_rule}
use Rattle.elf_image.specs.Fields.{allows}
use Rattle.elf_image.specs.Lawful.{IsLawful, is_lawful_symbol}
use Rattle.terrac_call.specs.declared.status.Status.{Status}
use Rattle.terrac_call.specs.declared.status.Status.TheVariants as statuses
use Rattle.terrac_call.specs.Due.{Due, due_of_no_entry}
use Rattle.terrac_call.specs.Words.{Call}
use Rattle.terrac_call.specs.Arguments.{Arguments, arguments_of}
use Rattle.terrac_call.specs.Exec.{Manner, IsCallDue, IsRunDue}

pub not_fault : (status other : Status) → status ≡ other → other ≢ statuses.WriteFault → status ≢ statuses.WriteFault
not_fault status other same differs = λ is. differs (sym same ∙ is)

pub call_none : (image : Image) (call : Call) (manner : Manner) (due : Due) → None ≡ symbol_named call.entry image.exports
    → due ≡ due_of_no_entry call.entry →
    IsCallDue image call manner (symbol_named call.entry image.exports) due
call_none image call manner due none is = subst (λ (o : Option Symbol). IsCallDue image call manner o due) none is

pub call_some : (image : Image) (call : Call) (manner : Manner) (symbol : Symbol) (given : Arguments) (due : Due)
    → Some symbol ≡ symbol_named call.entry image.exports →
    given ≡ arguments_of symbol.params 1 call.arguments → IsRunDue image symbol manner given due
    → IsCallDue image call manner (symbol_named call.entry image.exports) due
call_some image call manner symbol given due named same is =
    subst (λ (o : Option Symbol). IsCallDue image call manner o due) named
    (subst (λ (a : Arguments). IsRunDue image symbol manner a due) same is)

pub both : (a b : Bool) → (a && b) ≡ true → (a ≡ true) × (b ≡ true)
both true b e = (refl, e)
both false b e = absurd cc

pub is_true_or_false : (b : Bool) → (b ≡ true) ⊎ (b ≡ false)
is_true_or_false true = inl refl
is_true_or_false false = inr refl

-- what passes for all symbols passes for the one that is found
found_passes : (p : Symbol → Bool) (name : List ℕ) (symbols : List Symbol) (s : Symbol) → symbol_named name symbols ≡ Some s
    → list_all p symbols ≡ true → p s ≡ true
found_passes p name [] s found all = absurd cc
found_passes p name (t ∷ ts) s found all =
    let parts = both (p t) (list_all p ts) all in
    elim (is_true_or_false (bytes_eq name t.name)) [
      | inl here ↦
          let same : ◌≡◌ {A = Option Symbol} (Some t) (Some s) = sym (ap (λ (b : Bool). cond b (Some t) (symbol_named name ts)) here)
          ∙ found in
          let is : t ≡ s = cc in
          ap p (sym is) ∙ parts.0
      | inr behind ↦ found_passes p name ts s (sym (ap (λ (b : Bool). cond b (Some t) (symbol_named name ts)) behind) ∙ found) parts.1
    ]

-- the type codes of a symbol's parameters, in a lawful image
module _ (image : Image) (name : List ℕ) (s : Symbol) (lawful : IsLawful image) (named : Some s ≡ symbol_named name image.exports) where
  params_pass : (nat_le (length s.params) 8 && list_all (allows param_rule) s.params) ≡ true
  params_pass =
      let passes : is_lawful_symbol (4 * length image.text) s ≡ true =
      found_passes (is_lawful_symbol (4 * length image.text)) name image.exports s (sym named) lawful.symbols in
      let behind_name = both _ _ passes in
      let behind_address = both _ _ behind_name.1 in
      (both _ _ behind_address.1).0

  -- there are at most eight
  pub few_params : nat_le (length s.params) 8 ≡ true
  few_params = (both _ _ params_pass).0

  -- and each is the code of a scalar type
  pub scalar_params : list_all (allows param_rule) s.params ≡ true
  scalar_params = (both _ _ params_pass).1
