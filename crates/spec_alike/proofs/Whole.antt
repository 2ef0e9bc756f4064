-- Specialising means the same in trees that are alike.
use Rattle.std.proofs.Common.{refl}
use Rattle.std.specs.List.{AllByRecursion as Each}
use Rattle.tl_base.specs.declared.ids.EnvId.{EnvId}
use Rattle.tl_base.specs.declared.ids.NodeId.{NodeId}
use Rattle.tl_base.specs.declared.place.Place.{Place}
use Rattle.tl_tree.specs.declared.node.Expression.{Expression}
use Rattle.tl_tree.specs.declared.node.Expression.TheVariants as expressions
use Rattle.tl_tree.specs.declared.node.Statement.{Statement}
use Rattle.tl_tree.specs.declared.node.Statement.TheVariants as statements
use Rattle.tl_tree.specs.Item.{Item}
use Rattle.tl_tree.specs.Item as kept
use Rattle.tl_tree.specs.Nodes.{item_at}
use Rattle.tl_tree.specs.Code.{Items}
use Rattle.tl_alike.specs.Roles.{code_in, code_in_expression, code_in_statement, is_entry, HasKinds}
use Rattle.tl_alike.specs.Alike.{AreAlike, SameNode, SameName, SameNumeral, SameLiteral, SameItem, HasSameUse}
use Rattle.tl_alike.proofs.Plans.{plans_mean_same}
use Rattle.spec_model.specs.declared.job.SpecJob.{SpecJob}
use Rattle.spec_model.specs.declared.job.Job.{Job}
use Rattle.spec_model.specs.declared.job.Job.TheVariants as jobs
use Rattle.spec_model.specs.Meaning.{job_plan, value_plan, definition_plan, first_of, first_plan, close}
use Rattle.spec_alike.specs.Same.{IsAsked, MeansSame}
use Rattle.spec_alike.proofs.Children.{each}
use Rattle.spec_alike.proofs.Reading.{uses-of, names-of}
use Rattle.spec_alike.proofs.OfPlans.{IsDone, Same}
use Rattle.spec_alike.proofs.OfExpressions.{same-expression-plan}
use Rattle.spec_alike.proofs.OfStatements.{same-statement-plan}
use Rattle.spec_alike.proofs.OfQuotes.{same-backtick-plan, same-quote-plan}
use Rattle.spec_alike.proofs.OfDefinitions.{same-terra-plan, same-local-terra-plan, same-anonymous-plan, same-declare-plan}
use Rattle.spec_alike.proofs.OfDefinitions.{same-local-declare-plan}
use Rattle.spec_alike.proofs.OfStructs.{same-struct-plan, same-local-struct-plan, same-anonymous-struct-plan}

module _ (items other : Items) (alike : AreAlike items other) where
  same-job : (job : Job) → IsDone items other job → Same items other (job_plan items job) (job_plan other job)
  same-job (jobs.Expression n env) used =
      same-expression-plan items other alike (alike.nodes n) n env used (uses-of items other alike n) (names-of items other alike n)
  same-job (jobs.Statement n env) used =
      same-statement-plan items other alike (alike.nodes n) n env (uses-of items other alike n) (alike.kinds n)

  same-value-plan : (e : Expression) (place : Place) (env : EnvId) → Each (HasSameUse items other) (code_in_expression e)
      → HasKinds items (kept.Expression place e) → Same items other (value_plan items e place env) (value_plan other e place env)
  same-value-plan (expressions.Terra body) place env uses kinds = same-anonymous-plan items other alike body place env
  same-value-plan (expressions.Struct ns) place env uses kinds =
      same-anonymous-struct-plan items other alike ns place env (each (λ c. is_entry (item_at items c)) ns kinds)
  same-value-plan (expressions.Quote q) place env uses kinds = same-quote-plan items other alike q place env
  same-value-plan (expressions.Backtick e) place env uses kinds = same-backtick-plan items other e place env uses.0
  same-value-plan e place env uses kinds = refl

  same-definition-plan : (s : Statement) (n : NodeId) (place : Place) (env : EnvId) → Each (HasSameUse items other) (code_in_statement s)
      → HasKinds items (kept.Statement place s)
      → Same items other (definition_plan items s n place env) (definition_plan other s n place env)
  same-definition-plan (statements.Terra path body) n place env uses kinds = same-terra-plan items other alike path body n place env
  same-definition-plan (statements.DeclareTerra path type) n place env uses kinds =
      same-declare-plan items other alike path type place env uses.1.0
  same-definition-plan (statements.LocalTerra word name body) n place env uses kinds = same-local-terra-plan items other alike body word env
  same-definition-plan (statements.LocalDeclareTerra word name type) n place env uses kinds =
      same-local-declare-plan items other alike type word env uses.0
  same-definition-plan (statements.Struct path ns) n place env uses kinds =
      same-struct-plan items other alike path ns place env (each (λ c. is_entry (item_at items c)) ns kinds)
  same-definition-plan (statements.LocalStruct word name ns) n place env uses kinds =
      same-local-struct-plan items other alike ns word env (each (λ c. is_entry (item_at items c)) ns kinds)
  same-definition-plan s n place env uses kinds = refl

  same-item-first : (a : Item) (n : NodeId) (env : EnvId) → Each (HasSameUse items other) (code_in a) → HasKinds items a
      → Same items other (first_of items a n env) (first_of other a n env)
  same-item-first (kept.Expression place e) n env uses kinds = same-value-plan e place env uses kinds
  same-item-first (kept.Statement place s) n env uses kinds = same-definition-plan s n place env uses kinds
  same-item-first a n env uses kinds = refl

  same-first : {a b : Item} → SameNode a b → (n : NodeId) (env : EnvId) → Each (HasSameUse items other) (code_in a) → HasKinds items a
      → Same items other (first_of items a n env) (first_of other b n env)
  same-first (SameName place i j text others) n env uses kinds = refl
  same-first (SameNumeral place text others symbol value) n env uses kinds = refl
  same-first (SameLiteral place text others value) n env uses kinds = refl
  same-first (SameItem item) n env uses kinds = same-item-first item n env uses kinds

  same-first-plan : (task : SpecJob) → Same items other (first_plan items task) (first_plan other task)
  same-first-plan task = same-first (alike.nodes task.node) task.node task.env (uses-of items other alike task.node) (alike.kinds task.node)

pub means-same : MeansSame
means-same items other alike task =
    plans_mean_same (IsDone items other) (IsAsked items other) close (job_plan items) (job_plan other) (first_plan items task)
    (first_plan other task) (same-job items other alike) (same-first-plan items other alike task)
