-- What specialising means: a function of what is asked for and of the answers that are given on the way.
use Rattle.std.specs.Prelude.{List}
use Rattle.tl_base.specs.declared.ids.EnvId.{EnvId}
use Rattle.tl_base.specs.declared.ids.NodeId.{NodeId}
use Rattle.tl_base.specs.declared.place.Place.{Place}
use Rattle.tl_base.specs.Layer.{Given, Meaning}
use Rattle.tl_base.specs.Plan.{run, run_job, shown}
use Rattle.tl_tree.specs.declared.node.Expression.{Expression}
use Rattle.tl_tree.specs.declared.node.Expression.TheVariants as expressions
use Rattle.tl_tree.specs.declared.node.Statement.{Statement}
use Rattle.tl_tree.specs.declared.node.Statement.TheVariants as of_statements
use Rattle.tl_tree.specs.Item.{Item}
use Rattle.tl_tree.specs.Item as kept
use Rattle.tl_tree.specs.Nodes.{item_at}
use Rattle.lua_value.specs.declared.value.Value.TheVariants as values
use Rattle.tl_tree.specs.Code.{Items}
use Rattle.exotype.specs.World.{StageState}
use Rattle.spec_model.specs.declared.end.End.{End}
use Rattle.spec_model.specs.declared.end.End.TheVariants.{Found, Made, Joined, Gave, Answered, Raised}
use Rattle.spec_model.specs.declared.end.SpecEnd.{SpecEnd}
use Rattle.spec_model.specs.declared.end.SpecEnd.TheVariants as ends
use Rattle.spec_model.specs.declared.job.SpecJob.{SpecJob}
use Rattle.spec_model.specs.declared.job.Job.{Job}
use Rattle.spec_model.specs.declared.job.Job.TheVariants as jobs
use Rattle.spec_model.specs.declared.question.SpecQuestion.{SpecQuestion}
use Rattle.spec_model.specs.declared.question.SpecAnswer.{SpecAnswer}
use Rattle.spec_model.specs.Plans.{SpecPlan}
use Rattle.spec_model.specs.Expressions.{expression_plan}
use Rattle.spec_model.specs.Statements.{statement_plan}
use Rattle.spec_model.specs.Quotes.{quote_plan, backtick_plan}
use Rattle.spec_model.specs.Definitions.{over, terra_plan, local_terra_plan, anonymous_plan, declare_plan, local_declare_plan}
use Rattle.spec_model.specs.Structs.{struct_plan, local_struct_plan, anonymous_struct_plan}

-- ---- jobs, each of which pays one unit first

abbrev pub job_plan : Items → Job → SpecPlan
job_plan items (jobs.Expression n env) = expression_plan items (item_at items n) n env
job_plan items (jobs.Statement n env) = statement_plan items (item_at items n) n env

-- ---- what is asked for, which pays nothing by itself

-- Only the nodes of Lua code that work on Terra code are asked for.
abbrev pub value_plan : Items → Expression → Place → EnvId → SpecPlan
value_plan items (expressions.Terra body) place env = anonymous_plan items body place env
value_plan items (expressions.Struct ns) place env = anonymous_struct_plan items ns place env
value_plan items (expressions.Quote q) place env = quote_plan items q place env
value_plan items (expressions.Backtick e) place env = backtick_plan e place env
value_plan items e place env = over

abbrev pub definition_plan : Items → Statement → NodeId → Place → EnvId → SpecPlan
definition_plan items (of_statements.Terra path body) n place env = terra_plan items path body n place env
definition_plan items (of_statements.DeclareTerra path type) n place env = declare_plan items path type place env
definition_plan items (of_statements.LocalTerra word name body) n place env = local_terra_plan items body word env
definition_plan items (of_statements.LocalDeclareTerra word name type) n place env = local_declare_plan items type word env
definition_plan items (of_statements.Struct path ns) n place env = struct_plan items path ns place env
definition_plan items (of_statements.LocalStruct word name ns) n place env = local_struct_plan items ns word env
definition_plan items s n place env = over

abbrev pub first_of : Items → Item → NodeId → EnvId → SpecPlan
first_of items (kept.Expression place e) n env = value_plan items e place env
first_of items (kept.Statement place s) n env = definition_plan items s n place env
first_of items item n env = over

abbrev pub first_plan : Items → SpecJob → SpecPlan
first_plan items task = first_of items (item_at items task.node) task.node task.env

-- How it ends. The plans of tasks give values.
abbrev pub close : End → SpecEnd
close (Found v place) = ends.Done v
close (Made t) = ends.Done values.Nil
close (Joined ts) = ends.Done values.Nil
close (Gave v) = ends.Done v
close (Answered vs) = ends.Done values.Nil
close (Raised v place) = ends.Raised v place

-- ---- the meaning

-- an answer, with the world and the units with which it is given
abbrev pub SpecGiven : Type 0
SpecGiven = Given StageState SpecAnswer

-- what is seen of it, given the first answer, which is `Go`, and the answers after it
abbrev pub spec : Items → SpecJob → Meaning StageState SpecQuestion SpecAnswer SpecEnd
spec items task first later = shown close (run (run_job (job_plan items)) (first_plan items task) first.state later)
