-- Each line is its term's.
use Rattle.std.proofs.Common.{sym, ap, ◌∙◌}
use Rattle.shell_answers.specs.Answers.{line_of, fixed}
use Rattle.shell_answers.proofs.FixedLines.{done-line, true-line, false-line, bad_command-line, line_too_long-line, serial_end-line, counter_at_end-line, forgotten-line, dead_mark-line, memory-line, no_job-line, no_proc-line, suspended-line, running-line, idle-line, not_running-line, stale-line, duplicate_call-line, name_taken-line, no_child-line, not_due-line, installing-line, not_installing-line, erts_changed-line, stepped_only-line, no_reply-line}
use Rattle.shell_answers.proofs.fixed.Fixed.line.Goals as goal

pub returns-in-Done : goal.returns-in-Done
returns-in-Done c = sym done-line ∙ ap (λ f. line_of (fixed f)) (sym c.in-Done.is)

pub returns-in-True : goal.returns-in-True
returns-in-True c = sym true-line ∙ ap (λ f. line_of (fixed f)) (sym c.in-True.is)

pub returns-in-False : goal.returns-in-False
returns-in-False c = sym false-line ∙ ap (λ f. line_of (fixed f)) (sym c.in-False.is)

pub returns-in-BadCommand : goal.returns-in-BadCommand
returns-in-BadCommand c = sym bad_command-line ∙ ap (λ f. line_of (fixed f)) (sym c.in-BadCommand.is)

pub returns-in-LineTooLong : goal.returns-in-LineTooLong
returns-in-LineTooLong c = sym line_too_long-line ∙ ap (λ f. line_of (fixed f)) (sym c.in-LineTooLong.is)

pub returns-in-SerialEnd : goal.returns-in-SerialEnd
returns-in-SerialEnd c = sym serial_end-line ∙ ap (λ f. line_of (fixed f)) (sym c.in-SerialEnd.is)

pub returns-in-CounterAtEnd : goal.returns-in-CounterAtEnd
returns-in-CounterAtEnd c = sym counter_at_end-line ∙ ap (λ f. line_of (fixed f)) (sym c.in-CounterAtEnd.is)

pub returns-in-Forgotten : goal.returns-in-Forgotten
returns-in-Forgotten c = sym forgotten-line ∙ ap (λ f. line_of (fixed f)) (sym c.in-Forgotten.is)

pub returns-in-DeadMark : goal.returns-in-DeadMark
returns-in-DeadMark c = sym dead_mark-line ∙ ap (λ f. line_of (fixed f)) (sym c.in-DeadMark.is)

pub returns-in-Memory : goal.returns-in-Memory
returns-in-Memory c = sym memory-line ∙ ap (λ f. line_of (fixed f)) (sym c.in-Memory.is)

pub returns-in-NoJob : goal.returns-in-NoJob
returns-in-NoJob c = sym no_job-line ∙ ap (λ f. line_of (fixed f)) (sym c.in-NoJob.is)

pub returns-in-NoProc : goal.returns-in-NoProc
returns-in-NoProc c = sym no_proc-line ∙ ap (λ f. line_of (fixed f)) (sym c.in-NoProc.is)

pub returns-in-Suspended : goal.returns-in-Suspended
returns-in-Suspended c = sym suspended-line ∙ ap (λ f. line_of (fixed f)) (sym c.in-Suspended.is)

pub returns-in-Running : goal.returns-in-Running
returns-in-Running c = sym running-line ∙ ap (λ f. line_of (fixed f)) (sym c.in-Running.is)

pub returns-in-Idle : goal.returns-in-Idle
returns-in-Idle c = sym idle-line ∙ ap (λ f. line_of (fixed f)) (sym c.in-Idle.is)

pub returns-in-NotRunning : goal.returns-in-NotRunning
returns-in-NotRunning c = sym not_running-line ∙ ap (λ f. line_of (fixed f)) (sym c.in-NotRunning.is)

pub returns-in-Stale : goal.returns-in-Stale
returns-in-Stale c = sym stale-line ∙ ap (λ f. line_of (fixed f)) (sym c.in-Stale.is)

pub returns-in-DuplicateCall : goal.returns-in-DuplicateCall
returns-in-DuplicateCall c = sym duplicate_call-line ∙ ap (λ f. line_of (fixed f)) (sym c.in-DuplicateCall.is)

pub returns-in-NoChild : goal.returns-in-NoChild
returns-in-NoChild c = sym no_child-line ∙ ap (λ f. line_of (fixed f)) (sym c.in-NoChild.is)

pub returns-in-NotDue : goal.returns-in-NotDue
returns-in-NotDue c = sym not_due-line ∙ ap (λ f. line_of (fixed f)) (sym c.in-NotDue.is)

pub returns-in-NameTaken : goal.returns-in-NameTaken
returns-in-NameTaken c = sym name_taken-line ∙ ap (λ f. line_of (fixed f)) (sym c.in-NameTaken.is)

pub returns-in-Installing : goal.returns-in-Installing
returns-in-Installing c = sym installing-line ∙ ap (λ f. line_of (fixed f)) (sym c.in-Installing.is)

pub returns-in-NotInstalling : goal.returns-in-NotInstalling
returns-in-NotInstalling c = sym not_installing-line ∙ ap (λ f. line_of (fixed f)) (sym c.in-NotInstalling.is)

pub returns-in-ErtsChanged : goal.returns-in-ErtsChanged
returns-in-ErtsChanged c = sym erts_changed-line ∙ ap (λ f. line_of (fixed f)) (sym c.in-ErtsChanged.is)

pub returns-in-SteppedOnly : goal.returns-in-SteppedOnly
returns-in-SteppedOnly c = sym stepped_only-line ∙ ap (λ f. line_of (fixed f)) (sym c.in-SteppedOnly.is)

pub returns-in-NoReply : goal.returns-in-NoReply
returns-in-NoReply c = sym no_reply-line ∙ ap (λ f. line_of (fixed f)) (sym c.in-NoReply.is)
