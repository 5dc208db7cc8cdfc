-- Why a release is not installed (release_handler(3), install_release/1; relup(4); appup(4), load, remove, PrePurge).
use Rattle.std.specs.Prelude.{ℕ, Bool, false, List, position, Option, None, Some, option_and_then, slice_get}
use Rattle.code_loading.specs.Loading.{is_lingered_in}
use Rattle.code_server.specs.Modules.{Table as Loaded}
use Rattle.erl_ir.specs.Module.{Forms}
use Rattle.erl_term.specs.declared.term.Term.{Term}
use Rattle.low_instructions.specs.declared.low.Low.{Low}
use Rattle.low_instructions.specs.declared.low.Low.TheVariants.{LoadObjectCode, PointOfNoReturn, Load, Remove, Purge, Suspend, Resume, CodeChange, Stop, Start, Apply}
use Rattle.otp_files.specs.declared.upgrade.Entry.{Entry}
use Rattle.process_store.specs.Table.{Table}
use Rattle.release_statuses.specs.Statuses as statuses
use Rattle.release_statuses.specs.Statuses.{listed, running}
use Rattle.release_statuses.specs.declared.error.RelError.{RelError}
use Rattle.release_statuses.specs.declared.listed.Listed.{Listed}
use Rattle.release_words.specs.declared.purge.Purge.{Purge as Kind}
use Rattle.release_words.specs.declared.purge.Purge.TheVariants.{Soft, Brutal}
use Rattle.script_checks.specs.Checks.{bad_script}
use Rattle.install_checks.specs.declared.installing.InstallError.{InstallError}
use Rattle.install_checks.specs.declared.installing.InstallError.TheVariants.{OfReleases, NoMatchingRelup, BadScript, OldProcesses}
use Rattle.script_state.specs.Finding.{script_for}

-- The script that leads from the release that runs to that of a version.
abbrev pub script_to : List ℕ → List Listed → Option (Entry Term Low)
script_to vsn releases =
    option_and_then (λ now. option_and_then (λ new. script_for now.release new.release) (listed vsn releases)) (running releases)

-- The first instruction that is to purge old code softly in which a process lingers, by its index.

abbrev pub has_old_if_soft : Kind → List ℕ → Loaded Forms → Table → Bool
has_old_if_soft Soft m modules t = is_lingered_in m modules t
has_old_if_soft Brutal m modules t = false

abbrev pub has_old_processes : Loaded Forms → Table → Low → Bool
has_old_processes modules t (LoadObjectCode app vsn ms) = false
has_old_processes modules t PointOfNoReturn = false
has_old_processes modules t (Load m pre post) = has_old_if_soft pre m modules t
has_old_processes modules t (Remove m pre post) = has_old_if_soft pre m modules t
has_old_processes modules t (Purge ms) = false
has_old_processes modules t (Suspend ms) = false
has_old_processes modules t (Resume ms) = false
has_old_processes modules t (CodeChange direction changes) = false
has_old_processes modules t (Stop ms) = false
has_old_processes modules t (Start ms) = false
has_old_processes modules t (Apply m f args) = false

abbrev pub old_processes : Loaded Forms → Table → List Low → Option ℕ
old_processes modules t script = position (has_old_processes modules t) script

-- the module that an instruction loads or removes, by its index: of the first that is told a node tells the module

abbrev pub replaced_module : Option Low → Option (List ℕ)
replaced_module None = None
replaced_module (Some (LoadObjectCode app vsn ms)) = None
replaced_module (Some PointOfNoReturn) = None
replaced_module (Some (Load m pre post)) = Some m
replaced_module (Some (Remove m pre post)) = Some m
replaced_module (Some (Purge ms)) = None
replaced_module (Some (Suspend ms)) = None
replaced_module (Some (Resume ms)) = None
replaced_module (Some (CodeChange direction changes)) = None
replaced_module (Some (Stop ms)) = None
replaced_module (Some (Start ms)) = None
replaced_module (Some (Apply m f args)) = None

abbrev pub module_at : List Low → ℕ → Option (List ℕ)
module_at script index = replaced_module (slice_get script index)

-- Why it is not installed, in order: there is no such release, or it runs; no script leads to it; the script can't be
-- installed; a process lingers.

abbrev pub unless_lingering : Option ℕ → Option InstallError
unless_lingering None = None
unless_lingering (Some index) = Some (OldProcesses index)

abbrev pub unless_bad : Option ℕ → Option InstallError → Option InstallError
unless_bad None otherwise = otherwise
unless_bad (Some index) otherwise = Some (BadScript index)

abbrev pub script_refusal : Loaded Forms → Table → List Low → Option InstallError
script_refusal modules t script = unless_bad (bad_script script) (unless_lingering (old_processes modules t script))

abbrev pub entry_refusal : Option (Entry Term Low) → Loaded Forms → Table → Option InstallError
entry_refusal None modules t = Some NoMatchingRelup
entry_refusal (Some entry) modules t = script_refusal modules t entry.instructions

abbrev pub unless_refused : Option RelError → Option InstallError → Option InstallError
unless_refused None otherwise = otherwise
unless_refused (Some e) otherwise = Some (OfReleases e)

abbrev pub install_refusal : List ℕ → List Listed → Loaded Forms → Table → Option InstallError
install_refusal vsn releases modules t =
    unless_refused (statuses.install_refusal vsn releases) (entry_refusal (script_to vsn releases) modules t)
