-- What takes a step of the processes back.
use Rattle.std.specs.Prelude.{◌≡◌, ℕ, ◌-◌, All, List, IsSome}
use Rattle.erl_ir.specs.Module.{Forms}
use Rattle.code_server.specs.Modules.{IsModuleTable, Table as Loaded}
use Rattle.process.specs.Rerun.{runs_again}
use Rattle.process_effects.specs.Batches.{CanUnbatch, unbatched}
use Rattle.process_effects.specs.Commits.{CanUnrest, unrested}
use Rattle.process_effects.specs.Exits.{CanUnexit, unexited}
use Rattle.process_effects.specs.CommitPieces.{held_of}
use Rattle.process_effects.specs.Ends.{AllReturn, AllStand, Lives, all_returned}
use Rattle.process_effects.specs.EndedPieces.{held_by, held_by_all}
use Rattle.process_store.specs.Inverses.{WasCalled, WasStarted, WasTaken}
use Rattle.process_store.specs.Living.{unarrived, untook}
use Rattle.process_store.specs.Pieces.{Piece, no_pieces}
use Rattle.process_store.specs.Table.{Table, changed, living, next_pid, without_last}
use Rattle.process_table.specs.declared.undo.ProcessesUndo.{ProcessesUndo}
use Rattle.process_table.specs.declared.undo.ProcessesUndo.TheVariants.{Started, Arrived, Taken, Rested, Exited, Batched, Killed}

-- The table that an undo gives back. A process that has ended lives again with the instances that it used, as they stand in the
-- table of modules.
abbrev pub undone : Loaded Forms → ProcessesUndo → Table → Table
undone modules Started t = without_last t
undone modules (Arrived pid call) t = changed (unarrived call) pid t
undone modules (Taken pid position) t = changed (untook position) pid t
undone modules (Rested u) t = unrested modules u t
undone modules (Exited u) t = unexited modules u t
undone modules (Batched u) t = unbatched u t
undone modules (Killed es) t = all_returned modules es t

-- What `revert` needs: what the undo's step has left is there.
abbrev pub Fits : Loaded Forms → ProcessesUndo → Table → Type 0
Fits modules Started t = WasStarted (living (next_pid t - 1) t)
Fits modules (Arrived pid call) t = WasCalled call (living pid t)
Fits modules (Taken pid position) t = WasTaken position (living pid t)
Fits modules (Rested u) t = CanUnrest u t
Fits modules (Exited u) t = CanUnexit modules u t
Fits modules (Batched u) t = CanUnbatch u t
Fits modules (Killed es) t = AllReturn modules es t

-- An undo that is done loses nothing: each process that has ended lives again, and one that ran runs again.
abbrev pub LosesNothing : Loaded Forms → ProcessesUndo → Type 0
LosesNothing modules Started = Unit {0}
LosesNothing modules (Arrived pid call) = Unit {0}
LosesNothing modules (Taken pid position) = Unit {0}
LosesNothing modules (Rested u) = IsSome (runs_again modules u.ran)
LosesNothing modules (Exited u) = Lives modules u.ended
LosesNothing modules (Batched u) = Unit {0}
LosesNothing modules (Killed es) = All (Lives modules) es

-- An undo can be asked for over any table of modules, and gives back the table before its step, whole.
abbrev pub TakesBack : ProcessesUndo → Table → Table → Type 0
TakesBack undo before after = (modules : Loaded Forms) → Fits modules undo after × (undone modules undo after ≡ before)

-- The same where processes have ended, or have committed a job: the table before is given back where the instances that its
-- processes use stand.
abbrev pub TakesBackEnds : ProcessesUndo → Table → Table → Type 0
TakesBackEnds undo before after = (modules : Loaded Forms) →
    Fits modules undo after × (IsModuleTable modules → AllStand modules before → undone modules undo after ≡ before)

-- The pieces that an undo holds of the process of a pid, by the table after its step.
abbrev pub held : ProcessesUndo → Table → ℕ → List Piece
held Started t = no_pieces
held (Arrived pid call) t = no_pieces
held (Taken pid position) t = no_pieces
held (Rested u) t = held_of u t
held (Exited u) t = held_by u.ended
held (Batched u) t = no_pieces
held (Killed es) t = held_by_all es
