-- What is known of the parts that tokens open, for the completions of a grammar: of what was not refused, and of what
-- is parted at some token.
use Rattle.std.proofs.Common.{◌≡◌, ℕ, Bool, true, false, List, ◌++◌, Option, Some, None}
use Rattle.tl_lex.specs.Answers.{Position}
use Rattle.tl_tree.specs.Tokens.{Token}
use Rattle.tl_tree.specs.Tree.{Part}
use Rattle.tl_tree.specs.Grammar.{is_none_left, Grammar, Rule, Parts, Readers}
use Rattle.tl_tree.proofs.Reading.{Allows, ReadersLeave, ReadersSteady, ReadersSound}
use Rattle.tl_tree.proofs.Completing.{Shows, Completion, Bare}
use Rattle.tl_tree.proofs.Continuing.{Covers, Completes}
use Rattle.tl_tree.proofs.Parting.{Deep, Covering}

pub record Setting (part_after : Part → Token → Bool) : Type 1 where
  pub levels : ℕ
  pub readers : Readers
  pub parts : Rule → Parts
  pub leave : ReadersLeave readers
  pub steady : ReadersSteady readers
  pub sound : (rule : Rule) → Allows rule → ReadersSound levels readers (parts rule)
  pub bare : (part : Part) (p : Position)
      → Bare (λ rule ts x rest. parts rule part ts x rest) p (λ t. true) (part_after part)
  pub below : is_none_left levels ≡ false → (part : Part) (p : Position) (front r : List Token)
      → Shows (readers part (front ++ r)) r
      → Completion (λ rule ts x rest. parts rule part ts x rest) p (readers part (front ++ r)) (λ t. true)
      (part_after part) front
  pub deep : Deep part_after

module _ {part_after : Part → Token → Bool} (s : Setting part_after) where
  -- what the setting makes of reading can be completed
  abbrev pub Completable : {A : Type 0} → Grammar A → (Token → Bool) → (Token → Bool) → Type 0
  Completable g first after =
      Completes s.levels s.readers s.parts part_after s.leave s.steady s.sound s.bare s.below g first after

  abbrev pub CoveredBy : (Token → Bool) → Option Part → Type 0
  CoveredBy after o = Covers s.levels s.readers s.parts part_after s.leave s.steady s.sound s.bare s.below after o

  pub covering : (after : Token → Bool) (o : Option Part) → CoveredBy after o → Covering s.deep after o
  covering after None h = tt
  covering after (Some part) h = h
