-- The differences are those of what runs on both.
use Rattle.std.proofs.Common.{◌≡◌, ◌↔◌, Contains, subst, true}
use Rattle.node_questions.specs.Differences.{Differs}
use Rattle.node_questions.specs.Running.{Running, running_of}
use Rattle.upgrade_rehearsal.specs.Seen.{running}
use Rattle.upgrade_rehearsal.proofs.rehearsing.compare_with.Goals as goal

pub returns : goal.returns
returns c =
    let found = c.in_ok-found.found.items in (
      c.if-not-is_up.false,
      λ d.
          subst (λ (u : Running). Contains found d ↔ Differs u (running c.args.booted.now) d) c.running.ensures
          (subst (λ (f : Running). Contains found d ↔ Differs (running_of c.running.result) f d) c.running-2.ensures
          (c.in_ok-found.ensures.found d)),
    )
