-- The console over the node that has booted is served the lines.
use Rattle.std.proofs.Common.{◌≡◌, ◌∙◌, ap, subst}
use Rattle.line_server.specs.Serving.{Serves, ServesWhole}
use Rattle.node_console.specs.Console.{ConsoleState, console_exchange, opened_console}
use Rattle.node_console.proofs.Turns.{console-served}
use Rattle.release_files.specs.Files.{Contents}
use Rattle.node_console.proofs.running.run_console.Goals as goal

pub returns-clause-ran : goal.returns-clause-ran
returns-clause-ran g c =
    let opened : c.in-Ok.console ≡ opened_console c.args.files c.in_ok-node.field-0.node = c.in-Ok.ensures ∙ ap (λ (fs : Contents). opened_console fs c.in_ok-node.field-0.node) c.in_ok-node.ensures.files in
    let serves = subst (λ (s : ConsoleState). Serves console_exchange s c.serve-ended.new.session (g.R.Read.remaining c.args.reader.now) (g.R.Read.remaining c.serve-ended.new.reader) (g.W.Write.contents c.args.writer.now) (g.W.Write.contents c.serve-ended.new.writer) c.serve-ended.result) opened c.serve-ended.ensures.served in
    console-served c.args.files c.args.vsn.now c.in_ok-node.field-0.node c.in_ok-node.ensures.booted c.serve-ended.new.session _ _ _ _ _ serves

pub returns-clause-whole : goal.returns-clause-whole
returns-clause-whole g c = λ input before left held none unrefused.
    let opened : c.in-Ok.console ≡ opened_console c.args.files c.in_ok-node.field-0.node = c.in-Ok.ensures ∙ ap (λ (fs : Contents). opened_console fs c.in_ok-node.field-0.node) c.in_ok-node.ensures.files in
    record {
      node = c.in_ok-node.field-0.node;
      starts = c.in_ok-node.ensures.booted;
      end = c.serve-ended.new.session;
      serves = subst (λ (s : ConsoleState). ServesWhole console_exchange s c.serve-ended.new.session input before (g.W.Write.contents c.serve-ended.new.writer)) opened (c.serve-ended.ensures.whole input before left held none unrefused);
    }
