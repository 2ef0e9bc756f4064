-- A text that grows by what a source gives.
use Rattle.std.proofs.Common.{◌≡◌, ℕ, ◌+◌, ◌≤◌, List, [], ◌++◌, length, Option, Some, None, refl, sym, ap, ◌∙◌, append_assoc}
use Rattle.std.proofs.Common.{arith, length-append}
use Rattle.tl_base.specs.Outside.{with_front}
use Rattle.terrac_call.specs.Reading.{TookAtMost}
use Rattle.terrac_call.specs.Delivery.{Gathered}

-- nothing stood before what is left
pub with_front-none : (left : Option (List ℕ)) → left ≡ with_front [] left
with_front-none None = refl
with_front-none (Some bytes) = refl

-- one front, and then another
pub with_front-both : (a b : List ℕ) (left : Option (List ℕ)) → with_front a (with_front b left) ≡ with_front (a ++ b) left
with_front-both a b None = refl
with_front-both a b (Some bytes) = ap Some (sym (append_assoc a b bytes))

-- a text that is all that was taken from a source so far
pub record Grown (most : ℕ) (text : List ℕ) (old new : Option (List ℕ)) : Type 0 where
  pub within : length text ≤ most
  pub front : old ≡ with_front text new

pub grown_nothing : (most : ℕ) (left : Option (List ℕ)) → Grown most [] left left
grown_nothing most left = record { within = omega arith; front = with_front-none left }

-- with what one more read gave
pub grown_more : (most room : ℕ) (text longer : List ℕ) (old mid new : Option (List ℕ)) → Grown most text old mid
    → length text + room ≤ most →
    Gathered room text longer mid new → Grown most longer old new
grown_more most room text longer old mid new grown fits gathered = record {
  within = omega (arith, fits, gathered.few, ap length gathered.added, length-append text gathered.part);
  front =
      grown.front ∙ ap (with_front text) gathered.front ∙ with_front-both text gathered.part new
      ∙ ap (λ bytes. with_front bytes new) (sym gathered.added);
}

-- what was taken before, and what was taken then
pub grown_bound : (most room : ℕ) (text : List ℕ) (old mid new : Option (List ℕ)) → Grown most text old mid → length text + room ≤ most →
    TookAtMost room mid new → TookAtMost most old new
grown_bound most room text old mid new grown fits took = (
  text ++ took.0,
  omega (arith, fits, took.1, length-append text took.0),
  grown.front ∙ ap (with_front text) took.2 ∙ with_front-both text took.0 new,
)

pub grown_took : (most : ℕ) (text : List ℕ) (old new : Option (List ℕ)) → Grown most text old new → TookAtMost most old new
grown_took most text old new grown = (text, grown.within, grown.front)
