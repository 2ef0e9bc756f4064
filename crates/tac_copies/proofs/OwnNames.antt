-- Instructions that read temporaries by these temporaries' own names.
use Rattle.std.proofs.Common.{◌≡◌, List, [], ◌∷◌, map, refl, ap, ◌∙◌}
use Rattle.tac_form.specs.declared.tac.Operand.{Operand}
use Rattle.tac_form.specs.declared.tac.Operand.TheVariants.{Temp, Constant}
use Rattle.tac_form.specs.declared.tac.Address.{Address}
use Rattle.tac_form.specs.declared.tac.Address.TheVariants.{Word, Frame}
use Rattle.tac_form.specs.declared.tac.Spot.{Spot}
use Rattle.tac_form.specs.declared.tac.Spot.TheVariants as spots
use Rattle.tac_form.specs.declared.tac.Part.{Part}
use Rattle.tac_form.specs.declared.tac.Part.TheVariants as parts
use Rattle.tac_form.specs.declared.tac.Instruction.{Instruction}
use Rattle.tac_form.specs.declared.tac.Instruction.TheVariants.{Compute, TestDivisor, Copy, Locate, Load, Store, Move, Clear, Call}
use Rattle.tac_form.specs.declared.tac.Instruction.TheVariants.{CallValue, PutByte, Write, Alloc}
use Rattle.tac_copies.specs.Shortened.{named, named_address, named_spot, named_part, named_in, own_names}

own-operand : (a : Operand) → named own_names a ≡ a
own-operand (Temp t) = refl
own-operand (Constant c) = refl

own-address : (a : Address) → named_address own_names a ≡ a
own-address (Word a) = ap Word (own-operand a)
own-address (Frame offset) = refl

own-spot : (spot : Spot) → named_spot own_names spot ≡ spot
own-spot (spots.Region at a) = ap (spots.Region at) (own-address a)
own-spot (spots.Area n offset) = refl

own-part : (p : Part) → named_part own_names p ≡ p
own-part (parts.Word a) = ap parts.Word (own-operand a)
own-part (parts.Area n) = refl

own-parts : (ps : List Part) → map (named_part own_names) ps ≡ ps
own-parts [] = refl
own-parts (p ∷ ps) = ap (λ q. q ∷ map (named_part own_names) ps) (own-part p) ∙ ap (λ qs. p ∷ qs) (own-parts ps)

pub own-in : (i : Instruction) → named_in own_names i ≡ i
own-in (Compute d op form a b) =
    ap (λ x. Compute d op form x (named own_names b)) (own-operand a) ∙ ap (λ x. Compute d op form a x) (own-operand b)
own-in (TestDivisor at a) = ap (TestDivisor at) (own-operand a)
own-in (Copy d a) = ap (Copy d) (own-operand a)
own-in (Locate d offset) = refl
own-in (Load d form spot) = ap (Load d form) (own-spot spot)
own-in (Store spot size a) =
    ap (λ x. Store x size (named own_names a)) (own-spot spot) ∙ ap (λ x. Store spot size x) (own-operand a)
own-in (Move to from size) =
    ap (λ x. Move x (named_spot own_names from) size) (own-spot to) ∙ ap (λ x. Move to x size) (own-spot from)
own-in (Clear n size) = refl
own-in (Call to at f arguments) = ap (Call to at f) (own-parts arguments)
own-in (CallValue to at sig a arguments) =
    ap (λ x. CallValue to at sig x (map (named_part own_names) arguments)) (own-operand a)
    ∙ ap (λ x. CallValue to at sig a x) (own-parts arguments)
own-in (PutByte a) = ap PutByte (own-operand a)
own-in (Write at a b) = ap (λ x. Write at x (named own_names b)) (own-operand a) ∙ ap (λ x. Write at a x) (own-operand b)
own-in (Alloc d a) = ap (Alloc d) (own-operand a)
