-- The kind of each thing that is likely wrong, and the verdict on an upgrade by its findings.
use Rattle.std.specs.Prelude.{◌≡◌, ◌⊎◌, true, false, List, Contains}
use Rattle.node_questions.specs.declared.comparing.Difference.{Difference}
use Rattle.node_questions.specs.declared.comparing.Difference.TheVariants.{ApplicationMissing, ApplicationStays, ChildMissing, ChildStays}
use Rattle.node_questions.specs.declared.comparing.Difference.TheVariants.{OtherSpecification, OtherName, OtherState}
use Rattle.node_questions.specs.declared.comparing.Difference.TheVariants.{CodeMissing, OtherCode, CodeStays}
use Rattle.rehearsal_report.specs.declared.kinds.Kind.{Kind}
use Rattle.rehearsal_report.specs.declared.kinds.Kind.TheVariants.{EndsBefore, CallsDownBefore, UnheardBefore}
use Rattle.rehearsal_report.specs.declared.kinds.Kind.TheVariants.{FailsWithoutTraffic as FailsWithoutTrafficKind}
use Rattle.rehearsal_report.specs.declared.kinds.Kind.TheVariants.{NotRestored as NotRestoredKind, Vanishes as VanishesKind}
use Rattle.rehearsal_report.specs.declared.kinds.Kind.TheVariants.{Kills as KillsKind, Ends as EndsKind}
use Rattle.rehearsal_report.specs.declared.kinds.Kind.TheVariants.{CallsDown as CallsDownKind, Unheard as UnheardKind}
use Rattle.rehearsal_report.specs.declared.kinds.Kind.TheVariants.{Lingers as LingersKind, SuspendsNobody as SuspendsNobodyKind}
use Rattle.rehearsal_report.specs.declared.kinds.Kind.TheVariants.{NoCodeChange as NoCodeChangeKind, NotLoaded as NotLoadedKind}
use Rattle.rehearsal_report.specs.declared.kinds.Kind.TheVariants.{NotUndone as NotUndoneKind, NoWayDown as NoWayDownKind}
use Rattle.rehearsal_report.specs.declared.kinds.Kind.TheVariants.{Restarts as RestartsKind, Stops as StopsKind}
use Rattle.rehearsal_report.specs.declared.kinds.Kind.TheVariants.{Starts as StartsKind, LoadedAgain as LoadedAgainKind}
use Rattle.rehearsal_report.specs.declared.kinds.Kind.TheVariants.{NotResumedOnOtp as NotResumedOnOtpKind}
use Rattle.rehearsal_report.specs.declared.kinds.Kind.TheVariants.{ResumesNobodyOnOtp as ResumesNobodyOnOtpKind}
use Rattle.rehearsal_report.specs.declared.kinds.Kind.TheVariants.{ChangesNobodyOnOtp as ChangesNobodyOnOtpKind}
use Rattle.rehearsal_report.specs.declared.kinds.Kind.TheVariants.{StartsNobodyOnOtp as StartsNobodyOnOtpKind}
use Rattle.rehearsal_report.specs.declared.kinds.Kind.TheVariants.{SuspendedSupervisorOnOtp as SuspendedSupervisorOnOtpKind}
use Rattle.rehearsal_report.specs.declared.kinds.Kind.TheVariants.{TemporaryOnOtp as TemporaryOnOtpKind}
use Rattle.rehearsal_report.specs.declared.kinds.Kind.TheVariants.{PassedOverOnOtp as PassedOverOnOtpKind}
use Rattle.rehearsal_report.specs.declared.kinds.Kind.TheVariants.{OrderOnOtp as OrderOnOtpKind}
use Rattle.rehearsal_report.specs.declared.kinds.Kind.TheVariants.{EarlyOnOtp as EarlyOnOtpKind, PointsOnOtp as PointsOnOtpKind}
use Rattle.rehearsal_report.specs.declared.kinds.Kind.TheVariants.{CallsInCallback as CallsInCallbackKind, Restless as RestlessKind}
use Rattle.rehearsal_report.specs.declared.kinds.Kind.TheVariants.{BootFails as BootFailsKind, AppliesNobody as AppliesNobodyKind}
use Rattle.rehearsal_report.specs.declared.kinds.Kind.TheVariants.{Unanswered as UnansweredKind, CallsOutside as CallsOutsideKind}
use Rattle.rehearsal_report.specs.declared.kinds.Kind.TheVariants.{OtherState as OtherStateKind, OtherChildren as OtherChildrenKind}
use Rattle.rehearsal_report.specs.declared.kinds.Kind.TheVariants.{OtherSpecification as OtherSpecificationKind}
use Rattle.rehearsal_report.specs.declared.kinds.Kind.TheVariants.{OtherName as OtherNameKind, OtherCode as OtherCodeKind}
use Rattle.rehearsal_report.specs.declared.kinds.Kind.TheVariants.{OtherApplications as OtherApplicationsKind}
use Rattle.rehearsal_report.specs.declared.report.Report.{Report}
use Rattle.rehearsal_report.specs.declared.verdicts.Verdict.{Verdict}
use Rattle.rehearsal_report.specs.declared.verdicts.Verdict.TheVariants.{Goes, HasFindings, Fails}
use Rattle.rehearsals.specs.Ways.{would_go}
use Rattle.rehearsals.specs.declared.observing.Moment.{Moment}
use Rattle.rehearsals.specs.declared.observing.Moment.TheVariants.{At, Before}
use Rattle.rehearsals.specs.declared.observing.Observation.{Observation}
use Rattle.rehearsals.specs.declared.observing.Observation.TheVariants.{SuspendsNobody, Kills, Ends, CallsDown, Unheard, Lingers}
use Rattle.rehearsals.specs.declared.observing.Observation.TheVariants.{OrderOnOtp, PassedOverOnOtp, Restless, TemporaryOnOtp}
use Rattle.rehearsals.specs.declared.observing.Observation.TheVariants.{NotRestored, Vanishes, FailsWithoutTraffic, BootFails, Differs}
use Rattle.upgrade_review.specs.declared.finding.Finding.{Finding}
use Rattle.upgrade_review.specs.declared.finding.Finding.TheVariants.{LoadedAgain, NoCodeChange, NotLoaded, NotUndone}
use Rattle.upgrade_review.specs.declared.finding.Finding.TheVariants.{NoWayDown, Restarts, Starts, Stops}
use Rattle.upgrade_review.specs.declared.finding.Finding.TheVariants.{NotResumedOnOtp, ResumesNobodyOnOtp}
use Rattle.upgrade_review.specs.declared.finding.Finding.TheVariants.{ChangesNobodyOnOtp, StartsNobodyOnOtp}
use Rattle.upgrade_review.specs.declared.finding.Finding.TheVariants.{Unanswered, AppliesNobody, CallsInCallback, CallsOutside}
use Rattle.upgrade_review.specs.declared.finding.Finding.TheVariants.{EarlyOnOtp, NoPointOnOtp, SecondPointOnOtp, SuspendedSupervisorOnOtp}

-- The kind of a finding about the releases and the scripts.
abbrev pub kind_of_finding : Finding → Kind
kind_of_finding (NotLoaded application m) = NotLoadedKind
kind_of_finding (LoadedAgain i m) = LoadedAgainKind
kind_of_finding (NoCodeChange i m) = NoCodeChangeKind
kind_of_finding (Starts i application) = StartsKind
kind_of_finding (Restarts i application) = RestartsKind
kind_of_finding (Stops i application) = StopsKind
kind_of_finding NoWayDown = NoWayDownKind
kind_of_finding (NotUndone i m) = NotUndoneKind
kind_of_finding (NotResumedOnOtp way i m) = NotResumedOnOtpKind
kind_of_finding (ResumesNobodyOnOtp way i m) = ResumesNobodyOnOtpKind
kind_of_finding (ChangesNobodyOnOtp way i m) = ChangesNobodyOnOtpKind
kind_of_finding (StartsNobodyOnOtp way i m) = StartsNobodyOnOtpKind
kind_of_finding (NoPointOnOtp way) = PointsOnOtpKind
kind_of_finding (SecondPointOnOtp way i) = PointsOnOtpKind
kind_of_finding (EarlyOnOtp way i) = EarlyOnOtpKind
kind_of_finding (SuspendedSupervisorOnOtp way i m) = SuspendedSupervisorOnOtpKind
kind_of_finding (Unanswered way from to caller call) = UnansweredKind
kind_of_finding (AppliesNobody way i call) = AppliesNobodyKind
kind_of_finding (CallsOutside caller call) = CallsOutsideKind
kind_of_finding (CallsInCallback callback) = CallsInCallbackKind

-- The kind of what a message caused. Before the way up it is another kind, for the upgrade has no part in it.

abbrev pub end_kind : Moment → Kind
end_kind Before = EndsBefore
end_kind (At way i) = EndsKind

abbrev pub call_down_kind : Moment → Kind
call_down_kind Before = CallsDownBefore
call_down_kind (At way i) = CallsDownKind

abbrev pub unheard_kind : Moment → Kind
unheard_kind Before = UnheardBefore
unheard_kind (At way i) = UnheardKind

-- The kind of a difference from a node on which the release that is installed has booted.
abbrev pub kind_of_difference : Difference → Kind
kind_of_difference (ApplicationMissing application) = OtherApplicationsKind
kind_of_difference (ApplicationStays application) = OtherApplicationsKind
kind_of_difference (ChildMissing application id) = OtherChildrenKind
kind_of_difference (ChildStays application id) = OtherChildrenKind
kind_of_difference (OtherSpecification application id) = OtherSpecificationKind
kind_of_difference (OtherName application id upgraded booted) = OtherNameKind
kind_of_difference (OtherState application id upgraded booted) = OtherStateKind
kind_of_difference (CodeMissing m) = OtherCodeKind
kind_of_difference (OtherCode m) = OtherCodeKind
kind_of_difference (CodeStays m) = OtherCodeKind

-- The kind of an observation.
abbrev pub kind_of_observation : Observation → Kind
kind_of_observation (SuspendsNobody way i m) = SuspendsNobodyKind
kind_of_observation (Kills way i pid) = KillsKind
kind_of_observation (Ends when e) = end_kind when
kind_of_observation (CallsDown when) = call_down_kind when
kind_of_observation (Unheard when name) = unheard_kind when
kind_of_observation (Lingers way m pid) = LingersKind
kind_of_observation (NotRestored pid) = NotRestoredKind
kind_of_observation (Vanishes pid) = VanishesKind
kind_of_observation (Restless pid) = RestlessKind
kind_of_observation (TemporaryOnOtp way i pid) = TemporaryOnOtpKind
kind_of_observation (PassedOverOnOtp way i) = PassedOverOnOtpKind
kind_of_observation (OrderOnOtp way i m) = OrderOnOtpKind
kind_of_observation FailsWithoutTraffic = FailsWithoutTrafficKind
kind_of_observation BootFails = BootFailsKind
kind_of_observation (Differs difference) = kind_of_difference difference

-- A finding or an observation counts if its kind is not allowed; and whether one of several counts.

abbrev pub IsCountedFinding : List Kind → Finding → Type 0
IsCountedFinding allowed f = Contains allowed (kind_of_finding f) → ⊥

abbrev pub IsCountedObservation : List Kind → Observation → Type 0
IsCountedObservation allowed o = Contains allowed (kind_of_observation o) → ⊥

abbrev pub HasCountedFinding : List Kind → List Finding → Type 0
HasCountedFinding allowed findings = (f : Finding) × Contains findings f × IsCountedFinding allowed f

abbrev pub HasCountedObservation : List Kind → List Observation → Type 0
HasCountedObservation allowed seen = (o : Observation) × Contains seen o × IsCountedObservation allowed o

-- Something in a report counts.
abbrev pub IsCounted : List Kind → Report → Type 0
IsCounted allowed r = HasCountedFinding allowed r.findings.now ⊎
    (HasCountedFinding allowed r.amiss.now ⊎ HasCountedObservation allowed r.observations.now)

-- The verdict on an upgrade that would go; and the verdict on any upgrade.

abbrev pub IsVerdictOfGoing : Report → Verdict → Type 0
IsVerdictOfGoing r v = (IsCounted r.allowed.now r × (v ≡ HasFindings)) ⊎ ((IsCounted r.allowed.now r → ⊥) × (v ≡ Goes))

abbrev pub IsVerdict : Report → Verdict → Type 0
IsVerdict r v = ((would_go r.rehearsal.now ≡ false) × (v ≡ Fails)) ⊎
    ((would_go r.rehearsal.now ≡ true) × IsVerdictOfGoing r v)
