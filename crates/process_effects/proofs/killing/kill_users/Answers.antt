-- The users leave.
use Rattle.std.proofs.Common.{ap, ◌∙◌}
use Rattle.process_effects.specs.Ends.{all_vacated}
use Rattle.process_effects.proofs.Kills.{users_leave}
use Rattle.process_effects.proofs.killing.kill_users.Goals as goal

pub returns-clause-killed : goal.returns-clause-killed
returns-clause-killed c =
    let t = c.args.store.now in
    c.in_ok-ended.ensures.ended ∙ ap (λ x. all_vacated x t) (c.as_slice-2.ensures.value ∙ c.in_ok-pids.ensures) ∙ users_leave c.args.serial t
