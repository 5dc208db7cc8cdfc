-- How a line ends whose term, whose source or whose child was looked for.
use Rattle.std.specs.Prelude.{◌≡◌, ◌≢◌, ℕ, Bool, slice_get, option_and_then, position, List, Option, None, Some}
use Rattle.std.specs.Ordering.{eq_by_cmp, on}
use Rattle.erl_ir.specs.Module.{Forms}
use Rattle.erl_parse.specs.Sources.{IsNoSource, IsSource}
use Rattle.erl_parse.specs.Telling.{Says}
use Rattle.erl_parse.specs.declared.error.LangError.{LangError}
use Rattle.erl_term.specs.Order.{tree_cmp}
use Rattle.erl_term.specs.Term.{tree}
use Rattle.erl_term.specs.declared.term.Term.{Term}
use Rattle.app_table.specs.Applications.{has_id}
use Rattle.app_table.specs.declared.child.Child.{Child}
use Rattle.code_server.specs.Modules.{delete_refusal}
use Rattle.code_server.specs.declared.error.CodeError.{CodeError}
use Rattle.shell_upgrades.specs.Node.{NodeState}
use Rattle.shell_upgrades.specs.Step.{soft_purge_refusal}
use Rattle.release_files.specs.Files.{Contents, file_of}
use Rattle.release_files.specs.declared.fault.FileFault.TheVariants as file
use Rattle.shell_requests.specs.declared.request.ArrivalKind.{ArrivalKind}
use Rattle.shell_requests.specs.declared.request.CodeOperation.{CodeOperation}
use Rattle.shell_requests.specs.declared.request.CodeOperation.TheVariants as changes
use Rattle.shell_upgrades.specs.State.{ShellState}
use Rattle.shell_upgrades.specs.Halt.{Halt}
use Rattle.shell_upgrades.specs.Halt.TheVariants.{Full, Refused, Memory}
use Rattle.shell_exec.specs.Execution.{tried}
use Rattle.shell_exec.specs.declared.loading.Unloaded.{Unloaded}
use Rattle.shell_exec.specs.declared.loading.Unloaded.TheVariants.{Faulted, Unread}
use Rattle.values.specs.declared.failure.Failure.{Failure}
use Rattle.values.specs.declared.failure.Failure.TheVariants as failures

-- why a change of a module is refused where no script runs
abbrev pub refusal_of_change : CodeOperation → List ℕ → NodeState → Option CodeError
refusal_of_change changes.Delete name n = delete_refusal name n.modules
refusal_of_change changes.Purge name n = None
refusal_of_change changes.SoftPurge name n = soft_purge_refusal name n

-- A module of this name was read, or it is told why none was.

pub record IsSourced (files : Contents) (name path : List ℕ) (m : Forms) : Type 0 where
  pub bytes : List ℕ
  pub stands : file_of path files ≡ Some bytes
  pub source : IsSource bytes m
  pub named : m.name ≡ name

abbrev pub Unsourced : Contents → List ℕ → List ℕ → Unloaded → Type 0
Unsourced files name path (Faulted file.Missing) = file_of path files ≡ None
Unsourced files name path (Faulted (file.File e)) = ⊥
Unsourced files name path (Faulted file.DuplicateModule) = ⊥
Unsourced files name path (Faulted file.Memory) = ⊥
Unsourced files name path (Faulted file.WrongModule) =
    (bytes : List ℕ) × (m : Forms) × (file_of path files ≡ Some bytes) × IsSource bytes m × (m.name ≢ name)
Unsourced files name path (Faulted (file.Lang why)) =
    (bytes : List ℕ) × (file_of path files ≡ Some bytes) × Says bytes why × IsNoSource bytes
Unsourced files name path Unread = (bytes : List ℕ) × (file_of path files ≡ Some bytes)

-- by what is told of its source
abbrev pub not_loaded : Failure LangError → Unloaded
not_loaded (failures.Refused why) = Faulted (file.Lang why)
not_loaded failures.Memory = Unread

-- what is told of an arrival that was not performed: a call is counted, unless memory was refused
abbrev pub after_missed : Halt → ArrivalKind → ShellState → ShellState
after_missed Full kind s = tried kind s
after_missed (Refused why) kind s = tried kind s
after_missed Memory kind s = s

-- whether a term is this one
abbrev pub is_id : Term → Term → Bool
is_id t id = eq_by_cmp (on tree tree_cmp) id t

-- the child of an Id among children
abbrev pub child_called : Term → List Child → Option Child
child_called id children = option_and_then (slice_get children) (position (has_id id) children)
