-- Refusals of events, as they are answered: `false` where OTP's code server answers so, else `{error,Name}`, or with what
-- is told.
use Rattle.std.specs.Prelude.{ℕ, List, [], codes, Option, None, Some}
use Rattle.std.specs.Str.{chars}
use Rattle.erl_term.specs.Tree.{Tree, atom, pid}
use Rattle.install_checks.specs.Installing.{module_at}
use Rattle.install_checks.specs.declared.installing.InstallError.{InstallError}
use Rattle.install_checks.specs.declared.installing.InstallError.TheVariants as install
use Rattle.low_instructions.specs.declared.low.Low.{Low}
use Rattle.release_statuses.specs.declared.error.RelError.{RelError}
use Rattle.release_statuses.specs.declared.error.RelError.TheVariants as rel
use Rattle.release_statuses.specs.declared.status.Status.{Status}
use Rattle.release_words.specs.Words.{string_tree}
use Rattle.code_server.specs.declared.error.CodeError.{CodeError}
use Rattle.code_server.specs.declared.error.CodeError.TheVariants as code
use Rattle.process_table.specs.declared.error.ProcError.{ProcError}
use Rattle.process_table.specs.declared.error.ProcError.TheVariants as proc
use Rattle.sys_protocol.specs.declared.error.SysError.{SysError}
use Rattle.sys_protocol.specs.declared.error.SysError.TheVariants as sys
use Rattle.node_types.specs.declared.event.Refusal.{Refusal}
use Rattle.node_types.specs.declared.event.Refusal.TheVariants.{OfProcesses, OfModules, OfApps, OfReleases, OfInstall, Installing, NotInstalling, Busy, CounterEnd}
use Rattle.shell_answers.specs.Answers.{error, fixed, pair, status_of, triple}
use Rattle.shell_answers.specs.Faults.{placed, start_failed}
use Rattle.shell_answers.specs.declared.refusals.Subject.{Subject as Given}
use Rattle.shell_answers.specs.declared.fixed.Fixed.{Fixed}
use Rattle.shell_answers.specs.declared.fixed.Fixed.TheVariants as it

abbrev pub proc_refusal : ProcError → Fixed
proc_refusal proc.NoProc = it.NoProc
proc_refusal proc.Suspended = it.Suspended
proc_refusal proc.Idle = it.Idle
proc_refusal proc.Running = it.Running
proc_refusal proc.NotRunning = it.NotRunning
proc_refusal proc.Stale = it.Stale
proc_refusal proc.NameTaken = it.NameTaken
proc_refusal proc.DuplicateCall = it.DuplicateCall
proc_refusal proc.CounterEnd = it.CounterAtEnd

abbrev pub code_refusal : CodeError → Fixed
code_refusal code.NotLoaded = it.False
code_refusal code.NotPurged = it.False
code_refusal code.OldInUse = it.False
code_refusal code.CounterEnd = it.CounterAtEnd

abbrev pub app_refusal : SysError → Tree
app_refusal (sys.StartFailed failed) = start_failed failed.child failed.reason
app_refusal sys.NoChild = fixed it.NoChild
app_refusal sys.NotDue = fixed it.NotDue

-- What a refusal is told of: the version that the event names, if it names one; and of an install the version of the
-- release that runs, and the instructions of the script that leads from it to the other, if one does.
pub record Subject : Type 0 where
  pub vsn : List ℕ
  pub running : List ℕ
  pub script : List Low

-- of an event that is no install
abbrev pub naming : List ℕ → Subject
naming vsn = record { vsn = vsn; running = []; script = [] }

-- and that names no version
abbrev pub naming_nothing : Subject
naming_nothing = naming []

-- as it is given
abbrev pub subject_of : Given → Subject
subject_of given = record { vsn = chars given.vsn.now; running = chars given.running.now; script = given.script.now }

-- of the releases, with the version that the event names: `{error,{Name,"Vsn"}}`, `{error,{bad_status,"Vsn",Status}}`

abbrev pub of_version : List ℕ → List ℕ → Tree
of_version word vsn = pair (atom (codes "error")) (pair (atom word) (string_tree vsn))

abbrev pub bad_status : List ℕ → Status → Tree
bad_status vsn status = pair (atom (codes "error")) (triple (atom (codes "bad_status")) (string_tree vsn) (status_of status))

abbrev pub release_refusal : List ℕ → RelError → Tree
release_refusal vsn rel.Exists = of_version (codes "exists") vsn
release_refusal vsn rel.NoSuchRelease = of_version (codes "no_such_release") vsn
release_refusal vsn rel.AlreadyInstalled = of_version (codes "already_installed") vsn
release_refusal vsn rel.Permanent = of_version (codes "permanent") vsn
release_refusal vsn (rel.BadStatus status) = bad_status vsn status

-- of an install: `{error,{no_matching_relup,"Vsn","Running"}}`, `{error,{bad_script,I}}`, `{error,{old_processes,Mod}}`,
-- where the module is that of the instruction in whose old code a process lingers

abbrev pub no_matching_relup : List ℕ → List ℕ → Tree
no_matching_relup vsn running =
    pair (atom (codes "error")) (triple (atom (codes "no_matching_relup")) (string_tree vsn) (string_tree running))

abbrev pub bad_script : ℕ → Tree
bad_script index = pair (atom (codes "error")) (placed (codes "bad_script") index)

abbrev pub old_processes : Option (List ℕ) → Tree
old_processes None = error (codes "old_processes")
old_processes (Some name) = pair (atom (codes "error")) (pair (atom (codes "old_processes")) (atom name))

abbrev pub install_refusal : Subject → InstallError → Tree
install_refusal about (install.OfReleases why) = release_refusal about.vsn why
install_refusal about install.NoMatchingRelup = no_matching_relup about.vsn about.running
install_refusal about (install.BadScript index) = bad_script index
install_refusal about (install.OldProcesses index) = old_processes (module_at about.script index)

-- a process runs that is to be suspended: `{error,{busy,Pid}}`
abbrev pub busy : ℕ → Tree
busy n = pair (atom (codes "error")) (pair (atom (codes "busy")) (pid n))

-- of an event, told of this
abbrev pub refusal_of : Subject → Refusal → Tree
refusal_of about (OfProcesses why) = fixed (proc_refusal why)
refusal_of about (OfModules why) = fixed (code_refusal why)
refusal_of about (OfApps why) = app_refusal why
refusal_of about (OfReleases why) = release_refusal about.vsn why
refusal_of about (OfInstall why) = install_refusal about why
refusal_of about Installing = fixed it.Installing
refusal_of about NotInstalling = fixed it.NotInstalling
refusal_of about (Busy n) = busy n
refusal_of about CounterEnd = fixed it.CounterAtEnd
