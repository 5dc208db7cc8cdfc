-- What the parts of a session stand for.
use Rattle.std.specs.Prelude.{◌≡◌, ℕ, List, ◌++◌, Option, None, Some}
use Rattle.line_server.specs.Session.{Exchange}
use Rattle.node_console.specs.Console.{ConsoleState}
use Rattle.node_console.specs.declared.books.Books.{Books}
use Rattle.node_console.specs.declared.obeying.Order.{Order}
use Rattle.node_console.specs.declared.obeying.Order.TheVariants as orders
use Rattle.shell_exec.specs.State.{ShellState}
use Rattle.shell_requests.specs.Request.{Spoken, asks, forget, spoken, undo}

abbrev pub console_of : ShellState → Books → ConsoleState
console_of shell books = record { shell = shell; steps = books.steps.items; marks = books.marks.items }

-- what the shell is told to do
abbrev pub order_said : Order → Spoken
order_said (orders.Line line) = spoken (Some line.now)
order_said orders.TooLong = spoken None
order_said (orders.Undo mark) = asks (undo mark)
order_said (orders.Forget mark) = asks (forget mark)

-- one of these texts was appended
abbrev pub IsShown : (List ℕ → Type 0) → List ℕ → List ℕ → Type 0
IsShown may old new = (text : List ℕ) × may text × (new ≡ old ++ text)
