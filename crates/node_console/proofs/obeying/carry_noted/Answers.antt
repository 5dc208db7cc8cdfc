-- What was done is noted.
use Rattle.std.proofs.Common.{◌∙◌}
use Rattle.console_answers.specs.Journal.{steps_after}
use Rattle.node_console.proofs.Answering.{obeyed}
use Rattle.node_console.specs.Held.{order_said}
use Rattle.node_console.proofs.obeying.carry_noted.Goals as goal

pub returns : goal.returns
returns c =
    let noted = c.note_line.ensures
    ∙ (λ i. steps_after c.args.line (c.position-before.ensures.mark i) (c.position-before.ensures.floor i) (c.position-after.ensures.mark i) (c.position-after.ensures.floor i) c.args.books.now.steps.items) in
    obeyed c.in_ok-fate.fate c.args.line (order_said c.args.order) c.args.held.now c.carry_out.new.held c.args.books.now.steps.items c.note_line.new.steps.items c.args.books.now.marks.items c.args.out.now.items c.carry_out.new.out.items c.in_ok-fate.ensures noted
