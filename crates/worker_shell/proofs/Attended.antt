-- A run of a release that was read, by what comes of its node.
use Rattle.std.proofs.Common.{ℕ, ◌+◌, ◌≤◌, List, Option, Result, Ok, Err, IfOk, IfErr}
use Rattle.line_server.specs.declared.ended.ServeEnd.{ServeEnd}
use Rattle.release_files.specs.Files.{Contents}
use Rattle.release_files.specs.Releases.{IsRelease}
use Rattle.release_table.specs.declared.table.Release.{Release}
use Rattle.node_shell.specs.declared.fault.StartFault.TheVariants as start
use Rattle.worker_shell.specs.Run.{AttendFails, Attends, RunsWorkers, WorkersFail}
use Rattle.worker_shell.specs.declared.fault.WorkersFault.{WorkersFault}
use Rattle.worker_shell.specs.declared.fault.WorkersFault.TheVariants as fault

pub attended : (files : Contents) (vsn : List ℕ) (workers : ℕ) (release : Release) (left rest held holds : Option (List ℕ)) (r : Result ServeEnd WorkersFault) → 1 ≤ workers → workers ≤ 15 → IsRelease files vsn release → IfOk r (Attends files release (workers + 1) left rest held holds) → IfOk r (RunsWorkers files vsn workers left rest held holds)
attended files vsn workers release left rest held holds (Ok ended) some few is attends =
    record { some = some; few = few; release = release; is_release = is; attends = attends }
attended files vsn workers release left rest held holds (Err why) some few is attends = tt

fails_so : (why : WorkersFault) (files : Contents) (vsn : List ℕ) (workers : ℕ) (release : Release) (left rest held holds : Option (List ℕ)) → 1 ≤ workers → workers ≤ 15 → IsRelease files vsn release → AttendFails why files release (workers + 1) left rest held holds → WorkersFail why files vsn workers left rest held holds
fails_so (fault.NotStarted (start.OfFiles why kept)) files vsn workers release left rest held holds some few is fails = absurd fails
fails_so (fault.NotStarted (start.OfBoot e)) files vsn workers release left rest held holds some few is fails = (some, few, (release, is, fails.0), fails.1)
fails_so (fault.NotStarted start.NoMemory) files vsn workers release left rest held holds some few is fails = (some, few, tt, fails)
fails_so fault.WorkerCount files vsn workers release left rest held holds some few is fails = absurd fails
fails_so fault.Foreign files vsn workers release left rest held holds some few is fails = (release, is, fails)
fails_so fault.SeatsLost files vsn workers release left rest held holds some few is fails = (release, is, fails)

pub unattended : (files : Contents) (vsn : List ℕ) (workers : ℕ) (release : Release) (left rest held holds : Option (List ℕ)) (r : Result ServeEnd WorkersFault) → 1 ≤ workers → workers ≤ 15 → IsRelease files vsn release → IfErr r (λ why. AttendFails why files release (workers + 1) left rest held holds) → IfErr r (λ why. WorkersFail why files vsn workers left rest held holds)
unattended files vsn workers release left rest held holds (Ok ended) some few is fails = tt
unattended files vsn workers release left rest held holds (Err why) some few is fails = fails_so why files vsn workers release left rest held holds some few is fails
