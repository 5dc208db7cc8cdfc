-- Children of supervisors, and the processes that they are, as an upgrade changes them.
use Rattle.std.specs.Prelude.{List}
use Rattle.app_table.specs.Applications.{Application}
use Rattle.process_store.specs.Table.{Table}

-- The applications, and the processes.
pub record Supervised : Type 0 where
  pub apps : List Application
  pub processes : Table
