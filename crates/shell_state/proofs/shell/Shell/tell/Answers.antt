-- What is asked is told.
use Rattle.std.proofs.Common.{◌≡◌, ◌++◌, ap, refl, subst, sym, ◌∙◌}
use Rattle.code_server.specs.Modules.{Table as Loaded}
use Rattle.erl_ir.specs.Module.{Forms}
use Rattle.erl_term.specs.Tree.{list}
use Rattle.app_table.specs.Applications.{Application}
use Rattle.shell_steps.specs.Node.{NodeState}
use Rattle.shell_answers.specs.Answers.{apps_of, line_of, mark_at, modules_of}
use Rattle.undo_journal.specs.Timeline.{here}
use Rattle.shell_state.proofs.Done.{told-done}
use Rattle.shell_steps.specs.State.{ShellState, node_of}
use Rattle.shell_requests.specs.declared.request.Question.TheVariants as questions
use Rattle.shell_state.proofs.shell.Shell.tell.Goals as goal

pub returns-in_ok-write_modules-in-Modules : goal.returns-in_ok-write_modules-in-Modules
returns-in_ok-write_modules-in-Modules c =
    let text = c.args.out.now.items in
    let modules = c.modules.ensures.modules ∙ ap (λ (n : NodeState). n.modules) c.state.ensures in
    told-done c.args.self.now c.args.question questions.Modules text _ c.in-Modules.is (c.in_ok-write_modules-in-Modules.ensures ∙ ap (λ (t : Loaded Forms). text ++ line_of (list (modules_of t.entries))) modules ∙ ap (λ (s : ShellState). text ++ line_of (list (modules_of (node_of s).modules.entries))) c.self.view_is)

pub returns-in_ok-write_apps-in-Apps : goal.returns-in_ok-write_apps-in-Apps
returns-in_ok-write_apps-in-Apps c =
    let text = c.args.out.now.items in
    let apps = c.apps.ensures ∙ ap (λ (n : NodeState). n.apps) c.state-in-Apps.ensures in
    told-done c.args.self.now c.args.question questions.Apps text _ c.in-Apps.is (c.in_ok-write_apps-in-Apps.ensures ∙ ap (λ t. text ++ line_of (list (apps_of t))) apps ∙ ap (λ (s : ShellState). text ++ line_of (list (apps_of (node_of s).apps))) c.self.view_is)

pub returns-in_ok-tell_replies-in-Replies : goal.returns-in_ok-tell_replies-in-Replies
returns-in_ok-tell_replies-in-Replies c =
    told-done c.args.self.now c.args.question questions.Replies c.args.out.now.items _ c.in-Replies.is c.in_ok-tell_replies-in-Replies.ensures

pub returns-in_ok-write_mark-in-Mark : goal.returns-in_ok-write_mark-in-Mark
returns-in_ok-write_mark-in-Mark c =
    let text = c.args.out.now.items in
    told-done c.args.self.now c.args.question questions.Mark text _ c.in-Mark.is (c.in_ok-write_mark-in-Mark.ensures ∙ ap (λ m. text ++ line_of (mark_at m)) c.mark.ensures.serial ∙ ap (λ (s : ShellState). text ++ line_of (mark_at (here s.timeline).serial)) c.self.view_is)
