-- The result of the job that is kept is committed; or none is kept, or it was not run.
use Rattle.std.proofs.Common.{◌≡◌, None, Option, Some, refl, subst, sym, ◌∙◌, ap}
use Rattle.std.specs.Option.{option_copied}
use Rattle.erl_semantics.specs.declared.jobs.Job.{Job}
use Rattle.shell_answers.specs.Answers.{fixed}
use Rattle.shell_answers.specs.declared.fixed.Fixed.TheVariants as words
use Rattle.shell_state.specs.Serving.{Commits, CommitsKept, kept_job}
use Rattle.shell_state.specs.Done.{IsDone}
use Rattle.shell_steps.specs.State.{answered}
use Rattle.shell_state.proofs.Done.{IfOk-then}
use Rattle.shell_state.proofs.Performing.{unrun}
use Rattle.shell_state.proofs.shell.Shell.commit.Goals as goal

pub returns-in_default : goal.returns-in_default
returns-in_default c =
    let s = c.args.self.now in
    let here = c.args.out.now.items in
    let none : kept_job c.args.number s.jobs ≡ None = sym c.kept_job.ensures ∙ ap option_copied c.in_default.is in
    IfOk-then c.say.result _ _ c.say.ensures (λ fate told. subst (λ (o : Option Job). IsDone (CommitsKept s o fate) s here c.say.new.out.items) (sym none) (answered s (fixed words.NoJob), (told.0, refl), refl, told.1))

pub returns-in-Ok : goal.returns-in-Ok
returns-in-Ok c =
    let s = c.args.self.now in
    let here = c.args.out.now.items in
    let job = c.in-Some.job.now in
    let some : kept_job c.args.number s.jobs ≡ Some job = sym c.kept_job.ensures ∙ ap option_copied c.in-Some.is in
    IfOk-then c.commit_done.result _ _ c.commit_done.ensures (λ fate done. subst (λ (o : Option Job). IsDone (CommitsKept s o fate) c.commit_done.new.self here c.commit_done.new.out.items) (sym some) (subst (λ (j : Job). IsDone (Commits s j fate) c.commit_done.new.self here c.commit_done.new.out.items) c.in-Ok.ensures done))

pub returns-in-Err : goal.returns-in-Err
returns-in-Err c =
    let s = c.args.self.now in
    let here = c.args.out.now.items in
    let job = c.in-Some.job.now in
    let some : kept_job c.args.number s.jobs ≡ Some job = sym c.kept_job.ensures ∙ ap option_copied c.in-Some.is in
    IfOk-then c.tell_halt.result _ _ c.tell_halt.ensures (λ fate told. subst (λ (o : Option Job). IsDone (CommitsKept s o fate) s here c.tell_halt.new.out.items) (sym some) (unrun s job c.halt_of_job.result fate here c.tell_halt.new.out.items c.halt_of_job.ensures told))
