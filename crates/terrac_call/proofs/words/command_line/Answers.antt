use Rattle.std.proofs.Common.{◌≡◌, ◌∙◌, ap, ap₂, true}
use Rattle.clap.specs.Words.{App, app_of, with_subcommand}
use Rattle.clap.specs.Simple.{app_of_fields, on_top}
use Rattle.terrac_call.specs.Words.{program}
use Rattle.terrac_call.proofs.words.command_line.Goals as goal

pub returns : goal.returns
returns c =
    let bare : app_of c.subcommand_required.result ≡ program = ap app_of_fields c.subcommand_required.ensures
    ∙ ap (on_top (λ s. record s { subcommand_required = true })) (ap app_of_fields c.about.ensures ∙ c.new.ensures.app) in
    let with_run = c.in_ok-subcommand.ensures.shape c.in_ok-run_command.ensures.local
    ∙ ap₂ with_subcommand bare (ap (λ (a : App). a.top) c.in_ok-run_command.ensures.shape) in
    let with_emit = c.in_ok-subcommand-2.ensures.shape c.in_ok-emit_command.ensures.local
    ∙ ap₂ with_subcommand with_run (ap (λ (a : App). a.top) c.in_ok-emit_command.ensures.shape) in
    let with_exec = c.in_ok-subcommand-3.ensures.shape c.in_ok-exec_command.ensures.local
    ∙ ap₂ with_subcommand with_emit (ap (λ (a : App). a.top) c.in_ok-exec_command.ensures.shape) in
    let with_check = c.in_ok-subcommand-4.ensures.shape c.in_ok-check_command.ensures.local
    ∙ ap₂ with_subcommand with_exec (ap (λ (a : App). a.top) c.in_ok-check_command.ensures.shape) in
    let with_terms = c.in_ok-subcommand-5.ensures.shape c.in_ok-terms_command.ensures.local
    ∙ ap₂ with_subcommand with_check (ap (λ (a : App). a.top) c.in_ok-terms_command.ensures.shape) in
    let with_rename = c.in_ok-subcommand-6.ensures.shape c.in_ok-rename_command.ensures.local
    ∙ ap₂ with_subcommand with_terms (ap (λ (a : App). a.top) c.in_ok-rename_command.ensures.shape) in
    let with_gen = c.in_ok-subcommand-7.ensures.shape c.in_ok-gen_command.ensures.local
    ∙ ap₂ with_subcommand with_rename (ap (λ (a : App). a.top) c.in_ok-gen_command.ensures.shape) in
    let with_list = c.in_ok-subcommand-8.ensures.shape c.in_ok-list_command.ensures.local
    ∙ ap₂ with_subcommand with_gen (ap (λ (a : App). a.top) c.in_ok-list_command.ensures.shape) in
    let with_asm = c.in_ok-subcommand-9.ensures.shape c.in_ok-asm_command.ensures.local
    ∙ ap₂ with_subcommand with_list (ap (λ (a : App). a.top) c.in_ok-asm_command.ensures.shape) in
    c.in_ok-command.ensures.shape c.in_ok-trace_command.ensures.local
    ∙ ap₂ with_subcommand with_asm (ap (λ (a : App). a.top) c.in_ok-trace_command.ensures.shape)
