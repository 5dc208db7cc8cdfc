-- The job is kept, or it is told why there is none.
use Rattle.std.proofs.Common.{◌≡◌, ◌++◌, ◌∙◌, Some, ap, subst}
use Rattle.values.specs.Failure.{TellsFailure}
use Rattle.values.specs.declared.failure.Failure.{Failure}
use Rattle.process_effects.specs.Commits.{job_at}
use Rattle.process_store.specs.Table.{Table, living}
use Rattle.process_table.specs.Steps.{retake_refusal}
use Rattle.process_table.specs.declared.error.ProcError.{ProcError}
use Rattle.shell_answers.specs.Answers.{fixed, line_of}
use Rattle.shell_state.proofs.Done.{IfOk-then}
use Rattle.shell_state.proofs.Performing.{again_kept, not_kept, retold}
use Rattle.shell_steps.specs.State.{node_of}
use Rattle.shell_state.proofs.shell.Shell.retake.Goals as goal

pub returns-in-Ok : goal.returns-in-Ok
returns-in-Ok c =
    IfOk-then c.keep_again.result _ _ c.keep_again.ensures (λ fate told. again_kept c.args.self.now c.keep_again.new.self c.args.pid c.in-Ok.job fate c.args.out.now.items c.keep_again.new.out.items (subst (λ (t : Table). job_at (living c.args.pid t) ≡ Some c.in-Ok.job) c.processes.ensures c.in-Ok.ensures.job) told)

pub returns-in-Err-Refused : goal.returns-in-Err-Refused
returns-in-Err-Refused c =
    let here = subst (λ (t : Table). TellsFailure c.in-Err-Refused.field-0 (retake_refusal c.args.pid t)) c.processes.ensures c.in-Err-Refused.ensures.refused in
    let refuses = subst (λ (e : Failure ProcError). TellsFailure e (retake_refusal c.args.pid (node_of c.args.self.now).processes)) c.in-Err-Refused.field-0-is here in
    IfOk-then c.say.result _ _ c.say.ensures (λ fate told. retold c.args.self.now c.args.pid c.in-Err-Refused.why fate c.args.out.now.items c.say.new.out.items refuses (told.0, told.1 ∙ ap (λ word. c.args.out.now.items ++ line_of (fixed word)) c.proc_refusal.ensures))

pub returns-in-Err-Memory : goal.returns-in-Err-Memory
returns-in-Err-Memory c =
    let here = subst (λ (t : Table). TellsFailure c.in-Err-Memory.field-0 (retake_refusal c.args.pid t)) c.processes.ensures c.in-Err-Memory.ensures.refused in
    let free = subst (λ (e : Failure ProcError). TellsFailure e (retake_refusal c.args.pid (node_of c.args.self.now).processes)) c.in-Err-Memory.field-0-is here in
    IfOk-then c.refuse.result _ _ c.refuse.ensures (λ fate told. not_kept c.args.self.now c.args.pid fate c.args.out.now.items c.refuse.new.out.items free told)
