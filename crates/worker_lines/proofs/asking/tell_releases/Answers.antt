-- What it came to was told.
use Rattle.std.proofs.Common.{List, subst, ◌∙◌}
use Rattle.node_history.specs.declared.command.Command.TheVariants as command
use Rattle.release_statuses.specs.declared.listed.Listed.{Listed}
use Rattle.shell_answers.specs.Refusals.{naming_nothing}
use Rattle.worker_lines.specs.Asking.{IsWritten, releases_told}
use Rattle.worker_lines.proofs.Asked.{releases-told}
use Rattle.worker_lines.proofs.Heard.{IfOk-then, unheard-told}
use Rattle.worker_lines.proofs.asking.tell_releases.Goals as goal

pub returns-in-Ok : goal.returns-in-Ok
returns-in-Ok g c =
    let text = c.args.out.now.items in
    let out = c.say_releases.new.out.items in
    IfOk-then c.say_releases.result _ _ c.say_releases.ensures (λ fate told. releases-told c.in-Ok.releases fate c.args.seat.now c.which.new.seat text out c.in-Ok.ensures (subst (λ (rs : List Listed). IsWritten rs fate text out) (c.as_slice.ensures ∙ c.get.ensures) told))

pub returns-in-Err : goal.returns-in-Err
returns-in-Err g c =
    IfOk-then c.tell_error.result _ _ c.tell_error.ensures (λ fate told. unheard-told command.Which naming_nothing releases_told c.args.seat.now c.which.new.seat c.args.out.now.items c.tell_error.new.out.items c.in-Err.error fate c.in-Err.ensures told)
