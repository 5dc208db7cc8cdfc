-- What a run of the program does.
use Rattle.std.specs.Prelude.{◌≡◌, ◌⊎◌, ℕ, List, ◌++◌, map, All, Option, None, Some, string_bytes}
use Rattle.line_server.specs.declared.ended.ServeEnd.{ServeEnd}
use Rattle.line_server.specs.Lines.{lines_of}
use Rattle.line_server.specs.Serving.{Serves}
use Rattle.line_server.specs.Session.{lines_in, text_of}
use Rattle.release_table.specs.declared.table.Release.{Release}
use Rattle.release_files.specs.Faults.{IsFirstFault}
use Rattle.release_files.specs.Files.{Contents}
use Rattle.release_files.specs.Releases.{IsRelease}
use Rattle.release_files.specs.declared.fault.FileFault.TheVariants.{Memory}
use Rattle.release_boot.specs.Boot.{BootFails, Boots}
use Rattle.release_statuses.specs.Statuses.{booted}
use Rattle.shell_exec.specs.Node.{NodeState}
use Rattle.shell_exec.specs.State.{ShellState, opened_shell}
use Rattle.node_shell.specs.Replay.{Executed, AreExecuted, IsHeadline, SaysItsBytes, answered_as}
use Rattle.node_shell.specs.Shell.{shell_exchange}
use Rattle.node_shell.specs.declared.fault.StartFault.{StartFault}
use Rattle.node_shell.specs.declared.fault.StartFault.TheVariants as fault

-- The files say a release of this version, and it boots as this node, whose only release it is.
pub record BootsFiles (files : Contents) (vsn : List ℕ) (node : NodeState) : Type 0 where
  pub release : Release
  pub is_release : IsRelease files vsn release
  pub boots : Boots release node.modules node.processes node.apps
  pub known : node.releases ≡ booted release

-- Why no node starts: the first fault of the release's files, with which these are handed back; or why it doesn't boot; or
-- memory was refused.
abbrev pub StartFails : StartFault → Contents → List ℕ → Type 0
StartFails (fault.OfFiles f kept) files vsn = (kept ≡ files) ×
    ((f.fault ≡ Memory) ⊎ IsFirstFault files vsn (string_bytes f.path) f.fault)
StartFails (fault.OfBoot e) files vsn = (release : Release) × IsRelease files vsn release × BootFails e release
StartFails fault.NoMemory files vsn = Unit {0}

-- A run over files: the release boots, and the bytes that were read are answered line by line, as the commands say, from
-- the node that has booted to some shell; and of the lines that it answered the headline holds. `left` and `rest` are what
-- the reader has left before and after, `held` and `holds` what the writer holds.
pub record RunsShell (files : Contents) (vsn : List ℕ) (left rest held holds : Option (List ℕ)) (ended : ServeEnd) : Type 0 where
  pub node : NodeState
  pub starts : BootsFiles files vsn node
  pub end : ShellState
  pub serves : Serves shell_exchange (opened_shell files node) end left rest held holds ended
  pub executed : List Executed
  pub answered : serves.answered ≡ map answered_as executed
  pub said : All SaysItsBytes executed
  pub in_turn : AreExecuted (opened_shell files node) executed
  pub headline : IsHeadline node (opened_shell files node) executed

-- A run without a fault that never ran out of memory: all lines of the input were executed, and their text was written
-- behind what the writer held.
pub record RunsWhole (files : Contents) (vsn input before : List ℕ) (holds : Option (List ℕ)) : Type 0 where
  pub node : NodeState
  pub starts : BootsFiles files vsn node
  pub executed : List Executed
  pub said : All SaysItsBytes executed
  pub in_turn : AreExecuted (opened_shell files node) executed
  pub headline : IsHeadline node (opened_shell files node) executed
  pub unrefused : All (λ o. o.fate ≡ None) executed
  pub lines : lines_in (map answered_as executed) ≡ lines_of input
  pub written : holds ≡ Some (before ++ text_of (map answered_as executed))
