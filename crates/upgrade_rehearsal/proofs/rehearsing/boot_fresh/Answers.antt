-- It has booted, or the reason is returned.
use Rattle.upgrade_rehearsal.specs.Seen.{HasBooted}
use Rattle.upgrade_rehearsal.proofs.rehearsing.boot_fresh.Goals as goal

pub returns-in-Ok : goal.returns-in-Ok
returns-in-Ok c =
    let booted : HasBooted c.args.to.now c.in-Ok.node = record {
      boots = c.in-Ok.ensures.booted;
      releases = c.in-Ok.ensures.releases;
      runner = c.in-Ok.ensures.idle;
    } in
    booted
