-- What a run of the program with a console does.
use Rattle.std.specs.Prelude.{◌≡◌, ◌⊎◌, ℕ, List, [], ◌∷◌, Option}
use Rattle.console_answers.specs.Comments.{AddsComments}
use Rattle.line_server.specs.declared.ended.ServeEnd.{ServeEnd}
use Rattle.line_server.specs.Serving.{Serves, ServesWhole}
use Rattle.line_server.specs.Session.{Answered}
use Rattle.node_console.specs.Console.{ConsoleState, console_exchange, opened_console}
use Rattle.node_shell.specs.Replay.{Executed, AreExecuted, IsHeadline}
use Rattle.node_shell.specs.Run.{BootsFiles}
use Rattle.release_files.specs.Files.{Contents}
use Rattle.shell_exec.specs.Fate.{Fate}
use Rattle.shell_exec.specs.Node.{NodeState}
use Rattle.shell_exec.specs.State.{opened_shell}

-- A line that the shell executed: its answer begins the text, and only comments come after it.
pub record IsTurn (a : Answered ConsoleState Fate) (o : Executed) : Type 0 where
  pub line : o.line ≡ a.line
  pub fate : o.fate ≡ a.fate
  pub after : a.exchange.after.shell ≡ o.effect.after
  pub text : AddsComments o.effect.text a.exchange.text

-- Of the lines that were answered, in order, these are those that the shell executed; each other left the shell unchanged.
abbrev pub AreTurns : ConsoleState → List (Answered ConsoleState Fate) → List Executed → Type 0
AreTurns c [] executed = executed ≡ []
AreTurns c (a ∷ others) [] = (a.exchange.after.shell ≡ c.shell) × AreTurns a.exchange.after others []
AreTurns c (a ∷ others) (o ∷ executed) =
    ((a.exchange.after.shell ≡ c.shell) × AreTurns a.exchange.after others (o ∷ executed)) ⊎
    (IsTurn a o × AreTurns a.exchange.after others executed)

-- A run over files: the release boots, and the bytes that were read are answered line by line, as the console says. The lines that
-- the shell executed are a run of the shell, and its headline holds of them; so a console adds what only shows.
pub record RunsConsole (files : Contents) (vsn : List ℕ) (left rest held holds : Option (List ℕ)) (ended : ServeEnd) : Type 0 where
  pub node : NodeState
  pub starts : BootsFiles files vsn node
  pub end : ConsoleState
  pub serves : Serves console_exchange (opened_console files node) end left rest held holds ended
  pub executed : List Executed
  pub turns : AreTurns (opened_console files node) serves.answered executed
  pub in_turn : AreExecuted (opened_shell files node) executed
  pub headline : IsHeadline node (opened_shell files node) executed

-- A run without a fault that never ran out of memory: all lines of the input were answered, and their text was written after what
-- the writer held.
pub record ServesConsole (files : Contents) (vsn input before : List ℕ) (holds : Option (List ℕ)) : Type 0 where
  pub node : NodeState
  pub starts : BootsFiles files vsn node
  pub end : ConsoleState
  pub serves : ServesWhole console_exchange (opened_console files node) end input before holds
