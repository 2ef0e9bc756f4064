use Rattle.std.proofs.Common.{◌≡◌, ◌∙◌, ◌||◌, ap, ap₂, codes}
use Rattle.clap.specs.Words.{app_of, new_app, with_rule}
use Rattle.clap.specs.Simple.{app_of_fields}
use Rattle.terrac_call.proofs.words.trace_command.Goals as goal

pub returns-clause-shape : goal.returns-clause-shape
returns-clause-shape c =
    let bare : app_of c.after_help.result ≡ new_app (codes "trace") =
    ap app_of_fields c.after_help.ensures ∙ ap app_of_fields c.about.ensures ∙ c.new.ensures.app in
    let with_traced = c.in_ok-arg.ensures.shape c.traced_argument.ensures.local ∙ ap₂ with_rule bare c.traced_argument.ensures.rule in
    let with_entry = c.in_ok-arg-2.ensures.shape c.entry_argument.ensures.local ∙ ap₂ with_rule with_traced c.entry_argument.ensures.rule in
    c.in_ok-command.ensures.shape c.call_arguments.ensures.local ∙ ap₂ with_rule with_entry c.call_arguments.ensures.rule

pub returns-clause-local : goal.returns-clause-local
returns-clause-local c =
    let bare = ap (λ f. f.has_globals) c.after_help.ensures ∙ ap (λ f. f.has_globals) c.about.ensures ∙ c.new.ensures.local in
    let with_traced = c.in_ok-arg.ensures.globals ∙ ap₂ ◌||◌ bare c.traced_argument.ensures.local in
    let with_entry = c.in_ok-arg-2.ensures.globals ∙ ap₂ ◌||◌ with_traced c.entry_argument.ensures.local in
    c.in_ok-command.ensures.globals ∙ ap₂ ◌||◌ with_entry c.call_arguments.ensures.local
