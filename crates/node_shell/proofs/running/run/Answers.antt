-- The shell over the node that has booted is served the lines, and the headline holds of any.
use Rattle.std.proofs.Common.{◌≡◌, ◌∙◌, ap, subst}
use Rattle.line_server.specs.Serving.{Serves, ServesWhole}
use Rattle.release_files.specs.Files.{Contents}
use Rattle.shell_exec.specs.State.{ShellState, opened_shell}
use Rattle.node_shell.specs.Shell.{shell_exchange}
use Rattle.node_shell.proofs.Replays.{RunsCommands-served, RunsWhole-served}
use Rattle.node_shell.proofs.running.run.Goals as goal

pub returns-clause-ran : goal.returns-clause-ran
returns-clause-ran g c =
    let opened : c.in-Ok.shell ≡ opened_shell c.args.files c.in_ok-node.field-0.node = c.in-Ok.ensures ∙ ap (λ (fs : Contents). opened_shell fs c.in_ok-node.field-0.node) c.in_ok-node.ensures.files in
    let serves = subst (λ (s : ShellState). Serves shell_exchange s c.serve-ended.new.session (g.R.Read.remaining c.args.reader.now) (g.R.Read.remaining c.serve-ended.new.reader) (g.W.Write.contents c.args.writer.now) (g.W.Write.contents c.serve-ended.new.writer) c.serve-ended.result) opened c.serve-ended.ensures.served in
    RunsCommands-served c.args.files c.args.vsn.now c.in_ok-node.field-0.node c.in_ok-node.ensures.booted c.serve-ended.new.session _ _ _ _ _ serves

pub returns-clause-whole : goal.returns-clause-whole
returns-clause-whole g c = λ input before left held none unrefused.
    let opened : c.in-Ok.shell ≡ opened_shell c.args.files c.in_ok-node.field-0.node = c.in-Ok.ensures ∙ ap (λ (fs : Contents). opened_shell fs c.in_ok-node.field-0.node) c.in_ok-node.ensures.files in
    let serves = subst (λ (s : ShellState). ServesWhole shell_exchange s c.serve-ended.new.session input before (g.W.Write.contents c.serve-ended.new.writer)) opened (c.serve-ended.ensures.whole input before left held none unrefused) in
    RunsWhole-served c.args.files c.args.vsn.now c.in_ok-node.field-0.node c.in_ok-node.ensures.booted c.serve-ended.new.session input before _ serves
