-- One process more is served, and at last so many have been.
use Rattle.std.proofs.Common.{◌≡◌, ◌≤◌, ◌∙◌, ◌+◌, [], ◌∷◌, ◌++◌, ap, arith, inr, length}
use Rattle.std.proofs.lemmas.List.{length-append}
use Rattle.upgrade_rehearsal.proofs.Leading.{leads_as, leads_once_more}
use Rattle.upgrade_rehearsal.proofs.Performing.{is_next}
use Rattle.upgrade_rehearsal.specs.Sequences.{InTurn}
use Rattle.upgrade_rehearsal.specs.Stages.{IsServed, ServesAll, ServesNext, most_served}
use Rattle.upgrade_rehearsal.proofs.player.Player.serve.Goals as goal

pub loop-preserved : goal.loop-preserved
loop-preserved c =
    let pid = c.in-Some.pid in
    let pids = c.loop.invariant.0 in
    let within = c.loop-test.true in
    let one_more : c.loop.counter + 1 ≤ most_served = omega (arith, within) in
    let next = is_next c.loop.self c.state.result.now c.runnable.result pid c.state.ensures c.runnable.ensures c.in-Some.is in (
      pids ++ pid ∷ [],
      leads_once_more ServesNext pids pid _ _ _ c.loop.invariant.1
          (leads_as (IsServed pid) (ServesNext pid) _ _ (λ sent served. (next, served)) c.in_ok-serve_one-in-Some.ensures),
      length-append pids (pid ∷ []) ∙ ap (λ n. n + 1) c.loop.invariant.2,
      one_more,
    )

pub returns : goal.returns
returns c =
    let pids = c.loop.invariant.0 in
    let same = c.loop.invariant.2 in
    let up_to = c.loop.invariant.3 in
    let past = c.loop-test.false in
    let all : length pids ≡ most_served = omega (arith, same, up_to, past) in
    leads_as (InTurn ServesNext pids) ServesAll _ _ (λ sent served. (pids, served, inr all)) c.loop.invariant.1
