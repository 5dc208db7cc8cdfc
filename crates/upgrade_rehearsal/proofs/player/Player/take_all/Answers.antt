-- One process more has taken a message.
use Rattle.std.proofs.Common.{◌∙◌, ◌+◌, [], ◌∷◌, ◌++◌, ap, sym}
use Rattle.std.proofs.lemmas.List.{length-append}
use Rattle.node_types.specs.declared.event.Event.TheVariants.{Take}
use Rattle.upgrade_rehearsal.proofs.Leading.{leads_as, leads_once_more}
use Rattle.upgrade_rehearsal.proofs.Performing.{is_next}
use Rattle.upgrade_rehearsal.specs.Stages.{Undergoes, TakesNext}
use Rattle.upgrade_rehearsal.proofs.player.Player.take_all.Goals as goal

pub loop-taken-preserved : goal.loop-taken-preserved
loop-taken-preserved c =
    let pid = c.in-Some.pid in
    let pids = c.loop-taken.invariant.0 in
    let next = is_next c.loop-taken.self c.state.result.now c.runnable.result pid c.state.ensures c.runnable.ensures
    c.in-Some.is in (
      pids ++ pid ∷ [],
      leads_once_more TakesNext pids pid _ _ _ c.loop-taken.invariant.1
          (leads_as (Undergoes (Take pid)) (TakesNext pid) _ _ (λ sent takes. (next, takes)) c.in_ok-happen-in-Some.ensures),
      ap (λ n. n + 1) c.loop-taken.invariant.2 ∙ sym (length-append pids (pid ∷ [])),
    )
