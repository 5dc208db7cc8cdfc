-- Events of the release handler: a script begins, goes on by one instruction, and ends; the node restarts; old code that
-- scripts have left is purged (release_handler(3), install_release/1, make_permanent/1, reboot_old_release/1; relup(4);
-- appup(4), PostPurge).
use Rattle.std.specs.Prelude.{◌≡◌, ◌⊎◌, ◌+◌, ℕ, Bool, true, false, IsSome, List, [], length, take, Option, None, Some, slice_get, option_map, Result, Ok, Err}
use Rattle.app_table.specs.Changes.{specs_set}
use Rattle.app_table.specs.Undo.{Fits}
use Rattle.code_loading.specs.Purging.{downs_of_purges}
use Rattle.code_replacement.specs.Replacing.{RunningSystem, all_without, running}
use Rattle.erl_term.specs.declared.term.Term.{Term}
use Rattle.install_checks.specs.Installing.{install_refusal, script_to}
use Rattle.install_checks.specs.declared.installing.InstallError.{InstallError}
use Rattle.low_instructions.specs.declared.low.Low.{Low}
use Rattle.node_restart.specs.Restart.{RestartsAs, TellsRestart, restart_refusal}
use Rattle.code_server.specs.declared.error.CodeError.{CodeError}
use Rattle.code_server.specs.declared.error.CodeError.TheVariants.{CounterEnd}
use Rattle.otp_files.specs.declared.upgrade.Entry.{Entry}
use Rattle.process_effects.specs.declared.told.Reply.{Reply}
use Rattle.release_specs.specs.Specs.{specs_of}
use Rattle.release_statuses.specs.Statuses.{first_with, is_permanent, listed, made_permanent, permanent_refusal, index_of, reboot_refusal, rebooted, restarted, status_of}
use Rattle.release_statuses.specs.declared.error.RelError.{RelError}
use Rattle.release_statuses.specs.declared.listed.Listed.{Listed}
use Rattle.release_statuses.specs.declared.status.Status.TheVariants.{Permanent}
use Rattle.release_table.specs.declared.table.Release.{Release}
use Rattle.release_words.specs.declared.purge.Purge.TheVariants.{Brutal}
use Rattle.script_checks.specs.Checks.{has_point}
use Rattle.script_ends.specs.Ends.{apps_recovered, processes_finished, releases_finished}
use Rattle.script_runner.specs.Instructions.{RunsInstruction, Fails, IsAtEnd, busy_of}
use Rattle.script_runner.specs.Parts.{Parts}
use Rattle.script_state.specs.Runner.{RunnerState, begun}
use Rattle.script_steps.specs.declared.stepping.NoStep.{NoStep}
use Rattle.script_steps.specs.declared.stepping.NoStep.TheVariants as no_step
use Rattle.script_steps.specs.declared.stepping.NoStep.TheVariants.{AtEnd, Busy, Failed}
use Rattle.script_steps.specs.declared.stepping.Side.TheVariants.{Before, Behind}
use Rattle.undo_journal.specs.Reversible.{Accepted}
use Rattle.unpurged_code.specs.Unpurged.{AreNoted, AreSwept}
use Rattle.node_rules.specs.Node.{NodeState}
use Rattle.node_types.specs.declared.event.Answer.{Answer}
use Rattle.node_types.specs.declared.event.Answer.TheVariants as answer
use Rattle.node_types.specs.Note.{Note}
use Rattle.node_types.specs.declared.event.Refusal.{Refusal}
use Rattle.node_types.specs.declared.event.Refusal.TheVariants as refusal

abbrev pub Outcome : Type 0
Outcome = Result (Accepted NodeState Answer Note) Refusal

-- nothing is reported; or these replies are
abbrev pub reporting : List Reply → Note
reporting replies = record { replies = replies; arrival = None }

-- While a script runs these events are refused, whatever else stands against them: a removal of a release, loads, deletions
-- and purges of code, another install, a release that is made permanent, and a restart with an old one.

abbrev pub UnlessInstalling : Option RunnerState → (Outcome → Type 0) → Outcome → Type 0
UnlessInstalling None IsOutcome r = IsOutcome r
UnlessInstalling (Some s) IsOutcome r = r ≡ Err refusal.Installing

-- why such an event is refused, where else it would be for this reason, if there is one
abbrev pub unless_installing : Option RunnerState → Option Refusal → Option Refusal
unless_installing None e = e
unless_installing (Some s) e = Some refusal.Installing

-- Install: the script to the release is found and checked, the specifications of the release are put in place, and the
-- script is to run.

abbrev pub begun_as : Release → Entry Term Low → NodeState → Accepted NodeState Answer Note
begun_as r entry n = record {
  node = record n { apps = specs_set (specs_of r) n.apps; runner = Some (begun r entry n.apps) };
  answer = answer.Installing r.rel.vsn (length entry.instructions);
  note = reporting [];
}

pub record Begins (vsn : List ℕ) (n : NodeState) (a : Accepted NodeState Answer Note) : Type 0 where
  pub unrefused : install_refusal vsn n.releases n.modules n.processes ≡ None
  pub target : Listed
  pub found : listed vsn n.releases ≡ Some target
  pub entry : Entry Term Low
  pub script : script_to vsn n.releases ≡ Some entry
  pub is : a ≡ begun_as target.release entry n

abbrev pub Installs : List ℕ → NodeState → Outcome → Type 0
Installs vsn n (Err e) =
    (it : InstallError) × (install_refusal vsn n.releases n.modules n.processes ≡ Some it) × (e ≡ refusal.OfInstall it)
Installs vsn n (Ok a) = Begins vsn n a

-- What the instructions of a script change, of a node; and the node with these, where the script is one instruction further.

abbrev pub parts_in : RunnerState → NodeState → Parts
parts_in s n = record {
  modules = n.modules;
  processes = n.processes;
  apps = n.apps;
  suspended = s.progress.suspended;
  stopped = s.progress.stopped;
  versions = s.progress.versions;
}

abbrev pub gone_on : Parts → RunnerState → RunnerState
gone_on p s = record s {
  progress = record {
    next = s.progress.next + 1;
    suspended = p.suspended;
    stopped = p.stopped;
    versions = p.versions;
  };
}

abbrev pub with_parts : Parts → RunnerState → NodeState → NodeState
with_parts p s n = record n {
  modules = p.modules;
  processes = p.processes;
  apps = p.apps;
  runner = Some (gone_on p s);
}

-- the instruction that is next, and the release that is being installed

abbrev pub next_in : RunnerState → Option Low
next_in s = slice_get s.script s.progress.next

abbrev pub target_in : RunnerState → NodeState → Option Release
target_in s n = option_map (λ it. it.release) (listed s.target n.releases)

-- Restarted: a release boots in place of what runs, behind the serials and the pids that were given. No
-- script runs. The statuses of the releases are these.
pub record IsRestarted (r : Release) (releases : List Listed) (n after : NodeState) (told : List Reply) : Type 0 where
  pub unrefused : restart_refusal r n.modules ≡ None
  pub tells : TellsRestart n.processes told
  pub boots : RestartsAs r n.modules n.processes after.modules after.processes after.apps
  pub is : after ≡ record {
    modules = after.modules;
    processes = after.processes;
    apps = after.apps;
    releases = releases;
    runner = None;
  }

-- Advance. Behind its last instruction the script is finished: the processes that it has suspended, and not resumed, are
-- resumed, and the release is current, or stays permanent. An instruction is carried out; or it fails. Before the point of
-- no return the script is given up then, and the specifications are as before the install; behind it the node restarts with
-- the permanent release, and what was current is old.

abbrev pub finished_as : RunnerState → NodeState → Accepted NodeState Answer Note
finished_as s n = record {
  node = record n { processes = processes_finished s n.processes; releases = releases_finished s n.releases; runner = None };
  answer = answer.Finished s.other s.description;
  note = reporting [];
}

abbrev pub recovered_as : Term → RunnerState → NodeState → Accepted NodeState Answer Note
recovered_as reason s n = record {
  node = record n { apps = apps_recovered s n.apps; runner = None };
  answer = answer.Recovered reason;
  note = reporting [];
}

abbrev pub permanent_in : NodeState → Option Release
permanent_in n = option_map (λ it. it.release) (first_with Permanent n.releases)

pub record FallsBack (reason : Term) (n : NodeState) (a : Accepted NodeState Answer Note) : Type 0 where
  pub permanent : Release
  pub found : permanent_in n ≡ Some permanent
  pub told : List Reply
  pub restarts : IsRestarted permanent (restarted n.releases) n a.node told
  pub answers : a.answer ≡ answer.Restarted reason
  pub notes : a.note ≡ reporting told

-- the restart can't be made where the release has more modules than serials are left
pub record LacksSerials (n : NodeState) : Type 0 where
  pub permanent : Release
  pub found : permanent_in n ≡ Some permanent
  pub at_end : restart_refusal permanent n.modules ≡ Some CounterEnd

-- on which side of the point of no return the instruction stands
abbrev pub GivesUp : Bool → Term → RunnerState → NodeState → Accepted NodeState Answer Note → Type 0
GivesUp false reason s n a = a ≡ recovered_as reason s n
GivesUp true reason s n a = FallsBack reason n a

abbrev pub is_past : RunnerState → Bool
is_past s = has_point (take s.progress.next s.script)

pub record IsCarriedOut (r : Release) (i : Low) (s : RunnerState) (n : NodeState) (a : Accepted NodeState Answer Note)
    : Type 0 where
  pub parts : Parts
  pub told : List Reply
  pub does : RunsInstruction r i (parts_in s n) parts told
  pub is : a ≡ record { node = with_parts parts s n; answer = answer.Ran i; note = reporting told }

pub record HasFailed (r : Release) (i : Low) (s : RunnerState) (n : NodeState) (a : Accepted NodeState Answer Note) : Type 0 where
  pub reason : Term
  pub fails : Fails r i (parts_in s n) reason
  pub gives_up : GivesUp (is_past s) reason s n a

-- Or the event is refused: a process runs that is to be suspended, unless waiting is given up; or a number can't be counted
-- further, by the instruction, or by the restart that its failure asks for.

pub record CannotRestart (r : Release) (i : Low) (s : RunnerState) (n : NodeState) : Type 0 where
  pub reason : Term
  pub fails : Fails r i (parts_in s n) reason
  pub past : is_past s ≡ true
  pub lacks : LacksSerials n

abbrev pub RefusesAdvance : Refusal → Release → Bool → Low → RunnerState → NodeState → Type 0
RefusesAdvance (refusal.Busy pid) r give_up i s n = busy_of give_up i (parts_in s n) ≡ Some pid
RefusesAdvance refusal.CounterEnd r give_up i s n =
    (busy_of give_up i (parts_in s n) ≡ None) × (IsAtEnd r i (parts_in s n) ⊎ CannotRestart r i s n)
RefusesAdvance (refusal.OfProcesses e) r give_up i s n = ⊥
RefusesAdvance (refusal.OfModules e) r give_up i s n = ⊥
RefusesAdvance (refusal.OfApps e) r give_up i s n = ⊥
RefusesAdvance (refusal.OfReleases e) r give_up i s n = ⊥
RefusesAdvance (refusal.OfInstall e) r give_up i s n = ⊥
RefusesAdvance refusal.Installing r give_up i s n = ⊥
RefusesAdvance refusal.NotInstalling r give_up i s n = ⊥

-- by the next instruction, if one is left, and the release that is being installed, which is known as long as its script runs

abbrev pub GoesOnBy : Option Low → Release → Bool → RunnerState → NodeState → Outcome → Type 0
GoesOnBy None r give_up s n out = out ≡ Ok (finished_as s n)
GoesOnBy (Some i) r give_up s n (Err e) = RefusesAdvance e r give_up i s n
GoesOnBy (Some i) r give_up s n (Ok a) =
    (busy_of give_up i (parts_in s n) ≡ None) × (IsCarriedOut r i s n a ⊎ HasFailed r i s n a)

abbrev pub GoesOn : Option Release → Bool → RunnerState → NodeState → Outcome → Type 0
GoesOn None give_up s n out = ⊥
GoesOn (Some r) give_up s n out = GoesOnBy (next_in s) r give_up s n out

abbrev pub Advances : Bool → Option RunnerState → NodeState → Outcome → Type 0
Advances give_up None n out = out ≡ Err refusal.NotInstalling
Advances give_up (Some s) n out = GoesOn (target_in s n) give_up s n out

-- What becomes of a script that doesn't go on: what the function says that ends it, gives it up, or restarts the node.

abbrev pub FallBack : Term → NodeState → Outcome → Type 0
FallBack reason n (Ok a) = FallsBack reason n a
FallBack reason n (Err e) = (e ≡ refusal.CounterEnd) × LacksSerials n

abbrev pub HaltsAs : NoStep → RunnerState → NodeState → Outcome → Type 0
HaltsAs AtEnd s n out = out ≡ Ok (finished_as s n)
HaltsAs (Busy pid) s n out = out ≡ Err (refusal.Busy pid)
HaltsAs (Failed Before reason) s n out = out ≡ Ok (recovered_as reason s n)
HaltsAs (Failed Behind reason) s n out = FallBack reason n out
HaltsAs no_step.CounterEnd s n out = out ≡ Err refusal.CounterEnd

abbrev pub CanHalt : NoStep → RunnerState → NodeState → Type 0
CanHalt AtEnd s n = IsSome (index_of s.target n.releases)
CanHalt (Busy pid) s n = Unit {0}
CanHalt (Failed Before reason) s n = Fits s.former n.apps
CanHalt (Failed Behind reason) s n = Unit {0}
CanHalt no_step.CounterEnd s n = Unit {0}

-- Why it is refused, as that is told without memory: no script runs, or somebody has to be waited for. That what is
-- evaluated fails is told only after evaluating, which takes memory.

abbrev pub busy_by : Option Low → Bool → RunnerState → NodeState → Option ℕ
busy_by None give_up s n = None
busy_by (Some i) give_up s n = busy_of give_up i (parts_in s n)

abbrev pub busy_next : Bool → RunnerState → NodeState → Option ℕ
busy_next give_up s n = busy_by (next_in s) give_up s n

abbrev pub advance_refused : Bool → Option RunnerState → NodeState → Option Refusal
advance_refused give_up None n = Some refusal.NotInstalling
advance_refused give_up (Some s) n = option_map refusal.Busy (busy_next give_up s n)

-- What runs, of a node; and the node with that in its place.

abbrev pub running_in : NodeState → RunningSystem
running_in n = running n.modules n.processes n.apps

abbrev pub with_running : RunningSystem → NodeState → NodeState
with_running s n = record n { modules = s.modules; processes = s.processes; apps = s.apps }

-- Make permanent: the modules are purged whose old code is noted to be purged brutally, one after the other in the order of
-- their names, and the release is permanent. Where it is permanent already nothing changes.

abbrev pub ArePurged : Bool → NodeState → List (List ℕ) → Type 0
ArePurged true n names = names ≡ []
ArePurged false n names = AreNoted Brutal n.modules names

abbrev pub permanent_as : List ℕ → List (List ℕ) → NodeState → Accepted NodeState Answer Note
permanent_as vsn names n = record {
  node = record (with_running (all_without names (running_in n)) n) { releases = made_permanent vsn n.releases };
  answer = answer.Unit;
  note = reporting (downs_of_purges names n.modules n.processes);
}

abbrev pub MakesPermanent : List ℕ → NodeState → Outcome → Type 0
MakesPermanent vsn n (Err e) = (it : RelError) × (permanent_refusal vsn n.releases ≡ Some it) × (e ≡ refusal.OfReleases it)
MakesPermanent vsn n (Ok a) = (permanent_refusal vsn n.releases ≡ None) × (names : List (List ℕ)) ×
    ArePurged (is_permanent (status_of vsn n.releases)) n names × (a ≡ permanent_as vsn names n)

-- Sweep: the modules are purged whose old code is noted to be purged softly, and in which nobody lingers, in the order of
-- their names. So nobody is killed, and no client is told anything.

abbrev pub swept_as : List (List ℕ) → NodeState → Accepted NodeState Answer Note
swept_as names n = record {
  node = with_running (all_without names (running_in n)) n;
  answer = answer.Swept names;
  note = reporting (downs_of_purges names n.modules n.processes);
}

abbrev pub Sweeps : NodeState → Outcome → Type 0
Sweeps n (Err e) = ⊥
Sweeps n (Ok a) = (names : List (List ℕ)) × AreSwept n.modules n.processes names × (a ≡ swept_as names n)

-- Reboot old: the node restarts with an old release, which is permanent then; what was permanent or current is old.

pub record Reboots (vsn : List ℕ) (n : NodeState) (a : Accepted NodeState Answer Note) : Type 0 where
  pub unrefused : reboot_refusal vsn n.releases ≡ None
  pub old : Listed
  pub found : listed vsn n.releases ≡ Some old
  pub told : List Reply
  pub restarts : IsRestarted old.release (rebooted vsn n.releases) n a.node told
  pub answers : a.answer ≡ answer.Unit
  pub notes : a.note ≡ reporting told

abbrev pub reboot_wants : Option Listed → NodeState → Option CodeError
reboot_wants None n = None
reboot_wants (Some old) n = restart_refusal old.release n.modules

abbrev pub reboots_refused : Option RelError → Option CodeError → Option Refusal
reboots_refused (Some e) wants = Some (refusal.OfReleases e)
reboots_refused None (Some e) = Some refusal.CounterEnd
reboots_refused None None = None

abbrev pub reboot_refused : List ℕ → NodeState → Option Refusal
reboot_refused vsn n = reboots_refused (reboot_refusal vsn n.releases) (reboot_wants (listed vsn n.releases) n)

abbrev pub RebootsOld : List ℕ → NodeState → Outcome → Type 0
RebootsOld vsn n (Err e) = reboot_refused vsn n ≡ Some e
RebootsOld vsn n (Ok a) = Reboots vsn n a
