-- By whether the mark has a report.
use Rattle.std.proofs.Common.{Option, subst, sym}
use Rattle.node_console.proofs.Answering.{IfOk-then}
use Rattle.node_console.specs.Console.{PreviewsMark, dead, forgotten, no_memory}
use Rattle.node_console.specs.Held.{IsShown, console_of}
use Rattle.shell_exec.specs.Fate.{Fate}
use Rattle.shell_exec.specs.State.{NodeTimeline}
use Rattle.node_types.specs.Note.{Note}
use Rattle.node_types.specs.declared.event.Refusal.{Refusal}
use Rattle.undo_journal.specs.Journal.{HasNoReport, IsReportOf}
use Rattle.undo_journal.specs.declared.error.JournalError.{JournalError}
use Rattle.undo_journal.specs.Timeline.{IsDead, IsForgotten}
use Rattle.node_console.proofs.showing.preview_mark.Goals as goal

pub returns-in-Ok : goal.returns-in-Ok
returns-in-Ok c =
    IfOk-then c.show_report.result _ _ c.show_report.ensures (λ fate shown. shown (subst (λ (t : NodeTimeline). IsReportOf c.args.mark t c.in-Ok.report) c.journal.ensures c.in-Ok.ensures.reported))

pub returns-in-Err-Forgotten : goal.returns-in-Err-Forgotten
returns-in-Err-Forgotten c =
    let is = subst (λ (t : NodeTimeline). IsForgotten c.args.mark t) c.journal.ensures
    (subst (λ (e : JournalError Refusal Note). HasNoReport c.args.mark c.journal.result.now e) c.in-Err-Forgotten.field-0-is c.in-Err-Forgotten.ensures.err) in
    IfOk-then c.say.result _ _ c.say.ensures (λ fate told. subst (λ (f : Option Fate). IsShown (PreviewsMark (console_of c.args.held.now c.args.books.now) c.args.mark f) c.args.out.now.items c.say.new.out.items) (sym told.0) (_, forgotten is, told.1))

pub returns-in-Err-DeadMark : goal.returns-in-Err-DeadMark
returns-in-Err-DeadMark c =
    let is = subst (λ (t : NodeTimeline). IsDead c.args.mark t) c.journal.ensures
    (subst (λ (e : JournalError Refusal Note). HasNoReport c.args.mark c.journal.result.now e) c.in-Err-DeadMark.field-0-is c.in-Err-DeadMark.ensures.err) in
    IfOk-then c.say-in-Err-DeadMark.result _ _ c.say-in-Err-DeadMark.ensures (λ fate told. subst (λ (f : Option Fate). IsShown (PreviewsMark (console_of c.args.held.now c.args.books.now) c.args.mark f) c.args.out.now.items c.say-in-Err-DeadMark.new.out.items) (sym told.0) (_, dead is, told.1))

pub returns : goal.returns
returns c =
    IfOk-then c.refuse.result _ _ c.refuse.ensures (λ fate told. subst (λ (f : Option Fate). IsShown (PreviewsMark (console_of c.args.held.now c.args.books.now) c.args.mark f) c.args.out.now.items c.refuse.new.out.items) (sym told.0) (_, no_memory, told.1))
