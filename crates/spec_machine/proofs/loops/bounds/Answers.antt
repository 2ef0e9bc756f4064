use Rattle.std.proofs.Common.{◌≡◌, refl, sym, ap, ◌∙◌, List, [], ◌∷◌, Option, Some, None}
use Rattle.tl_base.specs.declared.ids.TermId.{TermId}
use Rattle.tl_base.specs.declared.machine.Step.TheVariants.{Enter}
use Rattle.tl_tree.specs.Code.{if_any}
use Rattle.spec_model.specs.declared.job.Job.TheVariants as jobs
use Rattle.spec_machine.specs.declared.frame.TermFrame.TheVariants as of_term
use Rattle.spec_machine.specs.Frames.{bounds_from}
use Rattle.spec_machine.proofs.Doing.{moved}
use Rattle.spec_machine.proofs.Pushing.{term_enters}
use Rattle.spec_machine.proofs.loops.bounds.Goals as goal

pub returns : goal.returns
returns c = record {
  means = λ items w left.
      let a = c.args in
      let none = c.new-none.result in
      let ns = a.first ∷ a.limit ∷ if_any a.step in
      moved items a.frames.now.items c.push.new.self.items (bounds_from items a.frame ns []) (bounds_from items a.frame ns none)
      w w w left left (Enter (jobs.Expression a.first a.frame.env))
      (ap (λ (ts : List TermId). bounds_from items a.frame ns ts) (sym c.new-none.ensures)) refl
      (term_enters items a.frames.now.items c.push.new.self.items (of_term.Bound (Some a.limit) a.step none a.frame) a.first a.frame.env
      w left c.in_ok-push.ensures.items);
}
