-- The name of the node: the release that it boots, how many seats it has, and the ledger of the blank.
use Rattle.worker_shell.proofs.running.run_gated.Given as goal

abbrev pub ghosts-attend-N-Naming : goal.ghosts-attend-N-Naming
ghosts-attend-N-Naming g a = record { opened = a.release; seats = a.seats }

abbrev pub ghosts-attend-N-Ledger : goal.ghosts-attend-N-Ledger
ghosts-attend-N-Ledger g a = record { name = a.blank.name; parts = a.blank.parts }
