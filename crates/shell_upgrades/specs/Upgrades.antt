-- What the shell may do where a line asks for something of releases and of their scripts: by what lack of memory makes of
-- it, one clause a way.
use Rattle.std.specs.Prelude.{◌≡◌, ◌⊎◌, ℕ, Bool, List, [], Option, None, Some, option_map, string_bytes}
use Rattle.std.specs.Str.{chars}
use Rattle.erl_term.specs.Tree.{Tree}
use Rattle.erl_term.specs.declared.term.Term.{Term}
use Rattle.install_checks.specs.Installing.{install_refusal, script_to}
use Rattle.low_instructions.specs.declared.low.Low.{Low}
use Rattle.otp_files.specs.declared.upgrade.Entry.{Entry}
use Rattle.shell_state.specs.Node.{NodeState}
use Rattle.shell_state.specs.Scripts.{reboot_refused}
use Rattle.node_types.specs.declared.event.Answer.{Answer}
use Rattle.node_types.specs.declared.event.Event.{Event}
use Rattle.node_types.specs.declared.event.Event.TheVariants as event
use Rattle.node_types.specs.declared.event.Refusal.{Refusal}
use Rattle.node_types.specs.declared.event.Refusal.TheVariants.{OfReleases, OfInstall}
use Rattle.release_files.specs.Faults.{IsFirstFault}
use Rattle.release_files.specs.Releases.{IsRelease}
use Rattle.release_files.specs.declared.fault.FileFault.{FileFault}
use Rattle.release_files.specs.declared.fault.FileFault.TheVariants.{Memory}
use Rattle.release_files.specs.declared.fault.ReleaseFault.{ReleaseFault}
use Rattle.release_statuses.specs.Statuses.{permanent_refusal, remove_refusal, running, vsn_of}
use Rattle.release_statuses.specs.declared.listed.Listed.{Listed}
use Rattle.release_table.specs.declared.table.Release.{Release}
use Rattle.shell_answers.specs.Answers.{fixed}
use Rattle.shell_answers.specs.Faults.{file_fault}
use Rattle.shell_answers.specs.Refusals.{Subject, naming, naming_nothing}
use Rattle.shell_answers.specs.declared.fixed.Fixed.TheVariants as words
use Rattle.shell_requests.specs.declared.request.ReleaseChange.{ReleaseChange}
use Rattle.shell_requests.specs.declared.request.ReleaseChange.TheVariants as releases
use Rattle.shell_state.specs.Performing.{Performs, begun_in, done_by}
use Rattle.shell_state.specs.State.{Effect, ShellState, answered, node_of}
use Rattle.shell_state.specs.Fate.{Fate}
use Rattle.shell_state.specs.Fate.TheVariants.{Refused}

-- `unpack VSN`: a fault of the release's files is answered before a refusal. If an allocation fails while they are read, nothing
-- is known of either.

pub data Unpacks (s : ShellState) (vsn : List ℕ) : Option Fate → Effect → Type 0 where
  no_release : (path : List ℕ) (why : FileFault) → IsFirstFault s.files vsn path why →
      Unpacks s vsn None (answered s (file_fault path why))
  release_read : (r : Release) (fate : Option Fate) (d : Effect) → IsRelease s.files vsn r →
      Performs s s (event.SetUnpacked r) (naming (chars vsn)) (done_by s (event.SetUnpacked r)) fate d → Unpacks s vsn fate d
  release_unread : Unpacks s vsn (Some Refused) (answered s (fixed words.Memory))

-- why the files are no release, memory that was refused aside
abbrev pub IsUnreadRelease : ShellState → List ℕ → ReleaseFault → Type 0
IsUnreadRelease s vsn it = (it.fault ≡ Memory) ⊎ IsFirstFault s.files vsn (string_bytes it.path) it.fault

-- `remove`, `install`, `permanent`, `reboot VSN`

abbrev pub release_event : ReleaseChange → List ℕ → Event
release_event releases.Remove vsn = event.Remove vsn
release_event releases.Install vsn = event.Install vsn
release_event releases.MakePermanent vsn = event.MakePermanent vsn
release_event releases.RebootOld vsn = event.RebootOld vsn

-- an install tells that its script has begun
abbrev pub release_answer : ReleaseChange → Answer → Tree
release_answer releases.Install answer = begun_in answer
release_answer _ answer = fixed words.Done

-- What a refusal is told of: the version that is named, the version of the release that runs, and the script from it to the
-- other.

abbrev pub version_in : Option Listed → List ℕ
version_in None = []
version_in (Some it) = vsn_of it

abbrev pub script_in : Option (Entry Term Low) → List Low
script_in None = []
script_in (Some entry) = entry.instructions

abbrev pub subject_in : List ℕ → List Listed → Subject
subject_in vsn known = record { vsn = vsn; running = version_in (running known); script = script_in (script_to vsn known) }

abbrev pub AltersReleases : ShellState → ReleaseChange → List ℕ → Option Fate → Effect → Type 0
AltersReleases s kind vsn fate d =
    Performs s s (release_event kind (chars vsn)) (subject_in (chars vsn) (node_of s).releases)
    (done_by s (release_event kind (chars vsn))) fate d

-- why such a change is refused where no script runs, as far as it is told without memory
abbrev pub refusal_of_alteration : ReleaseChange → List ℕ → NodeState → Option Refusal
refusal_of_alteration releases.Remove vsn n = option_map OfReleases (remove_refusal vsn n.releases)
refusal_of_alteration releases.Install vsn n = option_map OfInstall (install_refusal vsn n.releases n.modules n.processes)
refusal_of_alteration releases.MakePermanent vsn n = option_map OfReleases (permanent_refusal vsn n.releases)
refusal_of_alteration releases.RebootOld vsn n = reboot_refused vsn n

-- `step`, `step give_up`

abbrev pub AdvancesScript : ShellState → Bool → Option Fate → Effect → Type 0
AdvancesScript s give_up fate d =
    Performs s s (event.Advance give_up) naming_nothing (done_by s (event.Advance give_up)) fate d

-- `sweep`

abbrev pub Sweeps : ShellState → Option Fate → Effect → Type 0
Sweeps s fate d = Performs s s event.Sweep naming_nothing (done_by s event.Sweep) fate d
