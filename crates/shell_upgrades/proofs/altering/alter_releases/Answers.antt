-- The change is told, or why it was not made.
use Rattle.std.proofs.Common.{◌++◌, IfOk, ap, refl, subst, sym, ◌∙◌}
use Rattle.std.specs.Str.{chars}
use Rattle.undo_journal.specs.Reversible.{Accepted}
use Rattle.shell_state.specs.Node.{NodeState}
use Rattle.node_types.specs.Note.{Note}
use Rattle.node_types.specs.declared.event.Answer.{Answer}
use Rattle.node_types.specs.declared.event.Event.{Event}
use Rattle.shell_answers.specs.Answers.{line_of}
use Rattle.shell_state.proofs.Done.{IfOk-then}
use Rattle.shell_state.proofs.Performing.{halted, performed}
use Rattle.shell_state.specs.Done.{IsDone}
use Rattle.shell_state.specs.Halts.{halt_answer}
use Rattle.shell_state.specs.Performing.{Performs, done_by}
use Rattle.shell_state.specs.State.{Effect, ShellState, carried, node_of, stepped}
use Rattle.shell_upgrades.proofs.Altered.{alteration_done}
use Rattle.shell_upgrades.specs.Upgrades.{release_answer, release_event, subject_in}
use Rattle.shell_upgrades.proofs.altering.alter_releases.Goals as goal

pub returns-in_default : goal.returns-in_default
returns-in_default c =
    let s = c.args.held.now in
    let vsn = chars c.args.vsn.now in
    let e = release_event c.args.kind vsn in
    let about = subject_in vsn (node_of s).releases in
    IfOk-then c.tell_unaltered.result _ _ c.tell_unaltered.ensures (λ fate told. halted s e about (done_by s e) c.halt_of_alteration.result fate c.args.out.now.items c.tell_unaltered.new.out.items c.halt_of_alteration.ensures told)

pub returns-in-Ok-perform : goal.returns-in-Ok-perform
returns-in-Ok-perform c =
    let s = c.args.held.now in
    let kind = c.args.kind in
    let vsn = chars c.args.vsn.now in
    let about = subject_in vsn (node_of s).releases in
    let e = c.release_event.result in
    let is = c.release_event.ensures ∙ ap (release_event kind) c.in-Ok.ensures in
    let text = c.args.out.now.items in
    let new = c.perform.new.self in
    let out = c.tell_altered.new.out.items in
    subst (λ (done : Accepted NodeState Answer Note → Effect). IfOk c.tell_altered.result (λ fate. IsDone (Performs s s (release_event kind vsn) about done fate) new text out)) (alteration_done s kind vsn) (subst (λ (x : Event). IfOk c.tell_altered.result (λ fate. IsDone (Performs s s x about (λ a. carried (stepped a s) x (release_answer kind a.answer)) fate) new text out)) is (IfOk-then c.tell_altered.result _ _ c.tell_altered.ensures (λ fate told. performed s new e about (λ a. carried (stepped a s) e (release_answer kind a.answer)) c.in-Ok-perform.answer fate new text out (λ after a. after) (λ after a. line_of (release_answer kind a)) c.in-Ok-perform.ensures.stepped (λ a rule. refl) (told.0, refl, told.1))))

pub returns-in-Err : goal.returns-in-Err
returns-in-Err c =
    let s = c.args.held.now in
    let vsn = chars c.args.vsn.now in
    let about = subject_in vsn (node_of s).releases in
    let e = c.release_event.result in
    let is = c.release_event.ensures ∙ ap (release_event c.args.kind) c.in-Ok.ensures in
    let text = c.args.out.now.items in
    let new = c.perform.new.self in
    let out = c.tell_unaltered-in-Err.new.out.items in
    let halt = c.in-Err.halt in
    subst (λ (x : Event). IfOk c.tell_unaltered-in-Err.result (λ fate. IsDone (Performs s s x about (done_by s x) fate) new text out)) is (IfOk-then c.tell_unaltered-in-Err.result _ _ c.tell_unaltered-in-Err.ensures (λ fate told. subst (λ (u : ShellState). IsDone (Performs s s e about (done_by s e) fate) u text out) (sym c.in-Err.ensures.err) (halted s e about (done_by s e) halt fate text out c.in-Err.ensures.halted (told.0, told.1 ∙ ap (λ (u : ShellState). text ++ line_of (halt_answer (subject_in vsn (node_of u).releases) halt)) c.in-Err.ensures.err))))
