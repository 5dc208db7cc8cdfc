-- Comments come after the answer.
use Rattle.std.specs.Option.{option_copied}
use Rattle.node_console.proofs.Answering.{commented}
use Rattle.node_console.specs.Held.{console_of}
use Rattle.node_console.proofs.session.answer_line.Goals as goal

pub returns : goal.returns
returns c =
    commented c.in_ok-fate.fate (console_of c.args.held.now c.args.books.now) (console_of c.do_line.new.held c.do_line.new.books) (option_copied c.args.line) c.args.out.now.items c.do_line.new.out.items c.put_remarks.new.out.items c.in_ok-fate.ensures c.in_ok-put_remarks.ensures
