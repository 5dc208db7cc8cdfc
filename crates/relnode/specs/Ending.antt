-- How the program ends, and with which status.
use Rattle.std.specs.Prelude.{◌≡◌, ℕ, List, Option, None, Some, Result, Ok, Err}
use Rattle.line_server.specs.declared.ended.ServeEnd.{ServeEnd}
use Rattle.line_server.specs.declared.ended.Fault.{Fault as CommandsFault}
use Rattle.relnode.specs.declared.ending.Fault.{Fault}
use Rattle.relnode.specs.declared.ending.Fault.TheVariants.{CommandLine, NoRandomBytes, Files, Start, Commands, Workers, Output}
use Rattle.program_words.specs.Status.{status_of_words}
use Rattle.release_files.specs.Files.{Contents}
use Rattle.node_console.specs.Run.{RunsConsole}
use Rattle.node_shell.specs.Run.{RunsShell, StartFails}
use Rattle.node_shell.specs.declared.fault.StartFault.{StartFault}
use Rattle.worker_shell.specs.Run.{RunsWorkers, WorkersFail}
use Rattle.worker_shell.specs.declared.fault.WorkersFault.{WorkersFault}
use Rattle.worker_shell.specs.declared.fault.WorkersFault.TheVariants as workers

-- the end of the program that the end of its run is
abbrev pub end_by : Option CommandsFault → Result (Unit {0}) Fault
end_by None = Ok tt
end_by (Some fault) = Err (Commands fault)

-- A run over files ended the program so; or it ends before anything is read or written, for no node has started.
pub data EndsSo (files : Contents) (vsn : List ℕ) (left rest held holds : Option (List ℕ)) (end : Result (Unit {0}) Fault)
    : Type 0 where
  ran : (ended : ServeEnd) → RunsShell files vsn left rest held holds ended → end ≡ end_by ended.fault →
      EndsSo files vsn left rest held holds end
  not_started : (fault : StartFault) → StartFails fault files vsn → rest ≡ left → holds ≡ held → end ≡ Err (Start fault) →
      EndsSo files vsn left rest held holds end

-- A run with a console over files ended the program so; or it ends before anything is read or written.
pub data EndsConsole (files : Contents) (vsn : List ℕ) (left rest held holds : Option (List ℕ)) (end : Result (Unit {0}) Fault)
    : Type 0 where
  console_ran : (ended : ServeEnd) → RunsConsole files vsn left rest held holds ended → end ≡ end_by ended.fault →
      EndsConsole files vsn left rest held holds end
  no_console : (fault : StartFault) → StartFails fault files vsn → rest ≡ left → holds ≡ held → end ≡ Err (Start fault) →
      EndsConsole files vsn left rest held holds end

-- the end of the program where there is no run with workers
abbrev pub end_without : WorkersFault → Result (Unit {0}) Fault
end_without (workers.NotStarted fault) = Err (Start fault)
end_without workers.WorkerCount = Err (Workers workers.WorkerCount)
end_without workers.Foreign = Err (Workers workers.Foreign)
end_without workers.SeatsLost = Err (Workers workers.SeatsLost)

-- A run over files that so many workers served ended the program so; or the program ends for why there is no such run.
pub data EndsServing (files : Contents) (vsn : List ℕ) (count : ℕ) (left rest held holds : Option (List ℕ))
    (end : Result (Unit {0}) Fault)
    : Type 0 where
  served : (ended : ServeEnd) → RunsWorkers files vsn count left rest held holds ended → end ≡ end_by ended.fault →
      EndsServing files vsn count left rest held holds end
  not_served : (fault : WorkersFault) → WorkersFail fault files vsn count left rest held holds → end ≡ end_without fault →
      EndsServing files vsn count left rest held holds end

-- The status: 0 at the end of the input, and where the help was written; 2 after a bad command line, and else 1.
abbrev pub status_of : Result (Unit {0}) Fault → ℕ
status_of (Ok u) = 0
status_of (Err (CommandLine error)) = status_of_words error
status_of (Err (NoRandomBytes error)) = 1
status_of (Err (Files error)) = 1
status_of (Err (Start fault)) = 1
status_of (Err (Commands fault)) = 1
status_of (Err (Workers fault)) = 1
status_of (Err (Output error)) = 1
