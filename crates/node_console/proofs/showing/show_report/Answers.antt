-- The report and the steps, or no memory for them.
use Rattle.std.proofs.Common.{ℕ, List, Option, ◌++◌, ap, subst, sym, ◌∙◌}
use Rattle.std.proofs.lemmas.List.{append_assoc}
use Rattle.console_answers.specs.Journal.{step_rows}
use Rattle.console_answers.specs.Rows.{rows_text}
use Rattle.erl_term.specs.declared.term.Term.{Term}
use Rattle.node_console.proofs.Answering.{IfOk-then}
use Rattle.node_console.specs.Console.{PreviewsMark, no_memory, shown}
use Rattle.node_console.specs.Held.{IsShown, console_of}
use Rattle.shell_answers.specs.Answers.{line_of, undone_steps}
use Rattle.shell_exec.specs.Fate.{Fate}
use Rattle.node_console.proofs.showing.show_report.Goals as goal

pub returns-in_default : goal.returns-in_default
returns-in_default c =
    IfOk-then c.refuse.result _ _ c.refuse.ensures (λ fate told. λ is. subst (λ (f : Option Fate). IsShown (PreviewsMark (console_of c.args.held.now c.args.books.now) c.args.mark f) c.args.out.now.items c.refuse.new.out.items) (sym told.0) (_, no_memory, told.1))

pub returns : goal.returns
returns c =
    let old = c.args.out.now.items in
    let line = line_of (undone_steps c.args.report.now) in
    let rows = c.as_slice.ensures.value ∙ c.in-Ok.ensures
    ∙ (λ i. step_rows c.args.mark (c.as_slice-marks.ensures.value i) (c.as_slice-steps.ensures.value i)) in
    IfOk-then c.say_rows.result _ _ c.say_rows.ensures (λ fate told. λ is. subst (λ (f : Option Fate). IsShown (PreviewsMark (console_of c.args.held.now c.args.books.now) c.args.mark f) old c.say_rows.new.out.items) (sym told.0) (
      _,
      shown c.args.report.now is,
      told.1 ∙ ap (λ (b : List ℕ). b ++ rows_text c.as_slice.result.now) c.in_ok-write_undone.ensures
          ∙ append_assoc old line (rows_text c.as_slice.result.now) ∙ ap (λ (rs : List Term). old ++ (line ++ rows_text rs)) rows,
    ))
