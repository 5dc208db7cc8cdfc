-- How the shell answers a line, as the line server sees it.
use Rattle.std.specs.Prelude.{◌≡◌}
use Rattle.line_server.specs.Session.{Exchange, Exchanges}
use Rattle.shell_exec.specs.Execution.{ExecutesLine}
use Rattle.shell_exec.specs.State.{Effect, ShellState}
use Rattle.shell_exec.specs.Fate.{Fate}
use Rattle.shell_requests.specs.Request.{spoken}

abbrev pub exchange_of : Effect → Exchange ShellState
exchange_of d = record { text = d.text; after = d.after }

-- it does what the line says
abbrev pub shell_exchange : Exchanges ShellState Fate
shell_exchange fate s line t = (d : Effect) × ExecutesLine fate s (spoken line) d × (t ≡ exchange_of d)
