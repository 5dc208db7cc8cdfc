-- What holds of restarts.
use Rattle.std.specs.Prelude.{◌≡◌, List}
use Rattle.process_effects.specs.declared.told.Reply.{Reply}
use Rattle.process_store.specs.Table.{Table}
use Rattle.node_restart.specs.Restart.{TellsRestart}

-- What clients are told of a restart is one thing.
pub record RestartsTellOneThing : Type 0 where
  pub tells : (t : Table) (told said : List Reply) → TellsRestart t told → TellsRestart t said → told ≡ said
