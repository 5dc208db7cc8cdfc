-- The mark has the name, or there is no memory for that.
use Rattle.std.proofs.Common.{List, ◌++◌, ap, refl, ◌∙◌}
use Rattle.console_answers.specs.Journal.{named_mark}
use Rattle.console_answers.specs.declared.journal.NamedMark.{NamedMark}
use Rattle.node_console.proofs.Answering.{IfOk-then, not_named, same_console}
use Rattle.node_console.specs.Console.{ConsoleState, has_name}
use Rattle.shell_answers.specs.Answers.{line_of, mark_at}
use Rattle.undo_journal.specs.Timeline.{here}
use Rattle.shell_exec.specs.State.{NodeTimeline}
use Rattle.node_console.proofs.obeying.give_name.Goals as goal

pub returns-in_ok-write_mark-in-Ok : goal.returns-in_ok-write_mark-in-Ok
returns-in_ok-write_mark-in-Ok c =
    let mark = c.mark-mark.ensures.serial ∙ ap (λ (t : NodeTimeline). (here t).serial) c.journal.ensures in (
      _,
      has_name,
      (λ i. record { shell = c.args.held.now; steps = c.args.books.now.steps.items; marks = (c.in-Ok.ensures.named ∙ ap (λ m. named_mark c.args.name m c.args.books.now.marks.items) mark) i }),
      c.in_ok-write_mark-in-Ok.ensures ∙ ap (λ m. c.args.out.now.items ++ line_of (mark_at m)) mark,
    )

pub returns-in-Err : goal.returns-in-Err
returns-in-Err c =
    IfOk-then c.refuse.result _ _ c.refuse.ensures (λ fate told. not_named _ _ c.args.name fate c.args.out.now.items c.refuse.new.out.items (same_console c.args.held.now c.args.books.now.steps.items c.args.books.now.steps.items c.args.books.now.marks.items c.name_mark.new.marks.items refl c.in-Err.ensures.err) told)
