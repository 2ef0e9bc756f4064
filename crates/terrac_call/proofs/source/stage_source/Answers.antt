use Rattle.std.proofs.Common.{subst, ◌∙◌}
use Rattle.std.proofs.lemmas.Result.{IfOk-weaker}
use Rattle.tl_tree.specs.Arena.{items_of, end_of}
use Rattle.terrac_call.specs.declared.parsing.Parsed.{Parsed}
use Rattle.terrac_call.specs.declared.parsing.Parsed.TheVariants as parsed
use Rattle.terrac_call.specs.Due.{IsReadAs, IsRefused}
use Rattle.terrac_call.specs.DueView.{due_of_work}
use Rattle.terrac_call.specs.JobView.{shown_task}
use Rattle.terrac_call.specs.ParsedView.{Shows}
use Rattle.terrac_call.proofs.Sources.{source_owed}
use Rattle.terrac_call.proofs.source.stage_source.Goals as goal

pub returns-in_ok-due-in-Refused : goal.returns-in_ok-due-in-Refused
returns-in_ok-due-in-Refused c =
    let shows : Shows (IsReadAs c.args.bytes.now) (parsed.Refused c.in-Refused.kind c.in-Refused.place) =
    subst (λ (p : Parsed). Shows (IsReadAs c.args.bytes.now) p) c.in-Refused.is c.in_ok-parsed.ensures in
    (IsRefused c.in-Refused.kind c.in-Refused.place, shows, c.of.ensures ∙ c.in_ok-due-in-Refused.ensures)

pub returns-in-Tree : goal.returns-in-Tree
returns-in-Tree c =
    let tree = c.in-Tree.tree in
    let shows : Shows (IsReadAs c.args.bytes.now) (parsed.Tree tree) =
    subst (λ (p : Parsed). Shows (IsReadAs c.args.bytes.now) p) c.in-Tree.is c.in_ok-parsed.ensures in
    IfOk-weaker c.stage_tree.result _ _
    (λ work owed. source_owed (shown_task c.args.task.now) c.args.bytes.now shows.0 (end_of tree) (items_of tree) (due_of_work work)
    shows.1 shows.2 owed)
    c.stage_tree.ensures
