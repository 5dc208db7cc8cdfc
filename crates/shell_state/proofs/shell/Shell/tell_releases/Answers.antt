-- The releases are told, or that there is no memory for what is written.
use Rattle.std.proofs.Common.{◌++◌, ap, refl, subst, sym, ◌∙◌}
use Rattle.shell_steps.specs.Node.{NodeState}
use Rattle.shell_answers.specs.Answers.{line_of, releases_of}
use Rattle.shell_state.proofs.Done.{IfOk-then}
use Rattle.shell_state.specs.Serving.{Asks, is_told, no_memory_to_tell}
use Rattle.shell_state.specs.Done.{IsDone}
use Rattle.shell_requests.specs.declared.request.Question.TheVariants as questions
use Rattle.shell_state.proofs.shell.Shell.tell_releases.Goals as goal

pub returns-in_default : goal.returns-in_default
returns-in_default c =
    let s = c.args.self.now in
    IfOk-then c.refuse.result _ _ c.refuse.ensures (λ fate told. subst (λ f. IsDone (Asks s questions.Which f) s c.args.out.now.items c.refuse.new.out.items) (sym told.0) (_, no_memory_to_tell tt, refl, told.1))

pub returns : goal.returns
returns c =
    let text = c.args.out.now.items in
    let same = c.as_slice-releases.ensures.items ∙ c.releases.ensures ∙ ap (λ (x : NodeState). x.releases) c.node.ensures in
    (_, is_told, refl, c.in_ok-write_releases.ensures ∙ ap (λ rs. text ++ line_of (releases_of rs)) same)
