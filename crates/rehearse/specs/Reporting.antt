-- The report of a rehearsal, and how it ends.
use Rattle.std.specs.Prelude.{◌≡◌, ◌⊎◌, List, Option, None, Some}
use Rattle.low_instructions.specs.declared.low.Low.{Low}
use Rattle.low_instructions.specs.declared.modules.Direction.{Direction}
use Rattle.low_instructions.specs.declared.modules.Direction.TheVariants.{Up, Down}
use Rattle.otp_review.specs.OnOtp.{DiffersOnOtp}
use Rattle.rehearsal_report.specs.Verdicts.{IsVerdict}
use Rattle.rehearsal_report.specs.declared.report.Report.{Report}
use Rattle.rehearsal_report.specs.declared.verdicts.Verdict.{Verdict}
use Rattle.rehearsal_report.specs.declared.verdicts.Verdict.TheVariants as verdict
use Rattle.rehearsals.specs.declared.way.Rehearsal.{Rehearsal}
use Rattle.rehearse.specs.declared.asking.Asked.{Asked}
use Rattle.rehearse.specs.declared.ending.End.{End}
use Rattle.rehearse.specs.declared.ending.End.TheVariants.{Goes, HasFindings, Fails}
use Rattle.rehearse.specs.declared.reporting.Found.{Found}
use Rattle.release_table.specs.declared.table.Release.{Release}
use Rattle.upgrade_files.specs.Choosing.{down_of, up_of}
use Rattle.upgrade_review.specs.Calls.{IsAsking, IsOutside, LeavesUnanswered}
use Rattle.upgrade_review.specs.Findings.{IsFound}
use Rattle.upgrade_review.specs.Interfaces.{interfaces_of}
use Rattle.upgrade_review.specs.declared.finding.Finding.{Finding}
use Rattle.upgrade_review.specs.declared.interface.Interface.{Interface}

-- A finding about a script that leads `way` from a release, between releases whose modules have these interfaces: what OTP does
-- otherwise with it, or a call that nobody answers meanwhile. The same about the script down, if there is one.

abbrev pub IsOnPassage : Direction → Release → List Interface → List Interface → List Low → Finding → Type 0
IsOnPassage way release left installed script f = DiffersOnOtp way release script f ⊎ LeavesUnanswered way left installed script f

abbrev pub IsOnPassageDown : Release → List Interface → List Interface → Option (List Low) → Finding → Type 0
IsOnPassageDown release left installed None f = ⊥
IsOnPassageDown release left installed (Some script) f = IsOnPassage Down release installed left script f

abbrev pub IsOnPassages : Release → Release → List Interface → List Interface → Finding → Type 0
IsOnPassages from to left installed f =
    IsOnPassage Up from left installed (up_of from to) f ⊎ IsOnPassageDown to left installed (down_of from to) f

-- A finding about two releases and their scripts: what is likely wrong with the release that is installed and the script up, a
-- call to a module that neither release has, a function that can't be rehearsed, or a finding about one of both scripts.

abbrev pub IsInModules : List Interface → List Interface → Finding → Type 0
IsInModules left installed f = IsOutside left installed f ⊎ IsAsking installed f

abbrev pub IsFindingBy : Release → Release → List Interface → List Interface → Finding → Type 0
IsFindingBy from to left installed f =
    (IsFound from to (up_of from to) f ⊎ IsInModules left installed f) ⊎ IsOnPassages from to left installed f

abbrev pub IsFinding : Release → Release → Finding → Type 0
IsFinding from to f = IsFindingBy from to (interfaces_of from) (interfaces_of to) f

-- A report has all that was found, this rehearsal, and what the command line allows.
pub record IsReport (asked : Asked) (rehearsal : Rehearsal) (found : Found) (report : Report) : Type 0 where
  pub findings : report.findings.now ≡ found.findings.items
  pub amiss : report.amiss.now ≡ found.amiss.items
  pub observations : report.observations.now ≡ found.observations.items
  pub allowed : report.allowed.now ≡ asked.allowed.items
  pub rehearsed : report.rehearsal.now ≡ rehearsal

-- A rehearsal ends by its verdict.

abbrev pub end_by : Verdict → End
end_by verdict.Goes = Goes
end_by verdict.HasFindings = HasFindings
end_by verdict.Fails = Fails

abbrev pub IsEnd : Report → End → Type 0
IsEnd report end = (v : Verdict) × IsVerdict report v × (end ≡ end_by v)
