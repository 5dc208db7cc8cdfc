-- Processes that have ended, and live again.
use Rattle.std.specs.Prelude.{◌≡◌, ℕ, List, [], ◌∷◌, ◌++◌, map, Option, None, Some, IfSome, IsSome, option_map, option_to_list}
use Rattle.erl_ir.specs.Module.{Forms}
use Rattle.code_server.specs.Modules.{IsModuleTable, Table as Loaded}
use Rattle.process.specs.declared.named.CodeRef.{CodeRef}
use Rattle.process.specs.Ended.{CodeStands, PlaceStands, ended, ended_with, lives}
use Rattle.process.specs.Process.{ProcessState}
use Rattle.process.specs.declared.process.ending.CodeRefs.{CodeRefs}
use Rattle.process_index.specs.declared.calls.Call.{Call}
use Rattle.process_store.specs.Table.{Table, living}
use Rattle.process_store.specs.Vacating.{CanReturn, occupied, vacated}
use Rattle.process_store.specs.declared.living.ProcessEntry.{ProcessEntry}
use Rattle.process_effects.specs.declared.ending.EndedProcess.{EndedProcess}
use Rattle.process_effects.specs.declared.ending.ToldProcess.{ToldProcess}

-- a process as it is when it has ended, with its instances told so
abbrev pub ended_as : ℕ → Option CodeRef → List CodeRef → ProcessEntry → EndedProcess
ended_as pid rests_in code l = record { pid = pid; process = ended_with rests_in code l.process; calls = l.calls }

-- a process that lives again, with its open calls, in the slot of its pid

abbrev pub with_returned : Option ProcessState → ℕ → List Call → Table → Table
with_returned None pid calls t = t
with_returned (Some p) pid calls t = occupied pid (record { process = p; calls = calls }) t

abbrev pub CanBeReturned : Option ProcessState → ℕ → List Call → Table → Type 0
CanBeReturned None pid calls t = Unit {0}
CanBeReturned (Some p) pid calls t = CanReturn pid (record { process = p; calls = calls }) t

-- A process that has ended lives again with the instances that it used, as they stand in the table of modules; of more the last
-- first.

abbrev pub returned : Loaded Forms → EndedProcess → Table → Table
returned modules e t = with_returned (lives modules e.process) e.pid e.calls t

abbrev pub all_returned : Loaded Forms → List EndedProcess → Table → Table
all_returned modules [] t = t
all_returned modules (e ∷ es) t = returned modules e (all_returned modules es t)

-- what they need for it

abbrev pub Returns : Loaded Forms → EndedProcess → Table → Type 0
Returns modules e t = CanBeReturned (lives modules e.process) e.pid e.calls t

abbrev pub AllReturn : Loaded Forms → List EndedProcess → Table → Type 0
AllReturn modules [] t = Unit {0}
AllReturn modules (e ∷ es) t = AllReturn modules es t × Returns modules e (all_returned modules es t)

-- that the instances are there, so that it does live again
abbrev pub Lives : Loaded Forms → EndedProcess → Type 0
Lives modules e = IsSome (lives modules e.process)

-- A process lives, and is the one that has ended once its instances are told so.
abbrev pub EndsAs : EndedProcess → CodeRefs → Option ProcessEntry → Type 0
EndsAs e told None = ⊥
EndsAs e told (Some l) = ended_as e.pid told.rests_in told.code l ≡ e

-- Each instance that a process uses is its module's current or old code.

abbrev pub Stands : Loaded Forms → ProcessState → Type 0
Stands modules p = PlaceStands modules p.rests_in × CodeStands modules p.activity

abbrev pub AllStand : Loaded Forms → Table → Type 0
AllStand modules t = (pid : ℕ) → IfSome (living pid t) (λ l. Stands modules l.process)

-- What tells instances tells those of a process, where it lives.
abbrev pub HasCodeRefs : CodeRefs → Option ProcessEntry → Type 0
HasCodeRefs told o = IfSome o (λ l. ended_with told.rests_in told.code l.process ≡ ended l.process)

-- what becomes of processes that leave, the last first: the table without them, and what they are then

abbrev pub all_vacated : List ℕ → Table → Table
all_vacated [] t = t
all_vacated (pid ∷ pids) t = vacated pid (all_vacated pids t)

abbrev pub ended_of : ToldProcess → Option ProcessEntry → Option EndedProcess
ended_of p o = option_map (ended_as p.pid p.told.rests_in p.told.code) o

abbrev pub all_ended : List ToldProcess → Table → List EndedProcess
all_ended [] t = []
all_ended (p ∷ ps) t = all_ended ps t ++ option_to_list (ended_of p (living p.pid (all_vacated (map (λ q. q.pid) ps) t)))

-- One process that has ended, and all of some, can live again over any table of modules; and the table before is given back where
-- the instances that its processes use stand.

abbrev pub EndsBack : EndedProcess → Table → Table → Type 0
EndsBack e before after = (modules : Loaded Forms) →
    Returns modules e after × (IsModuleTable modules → AllStand modules before → returned modules e after ≡ before)

abbrev pub UndoesEnds : List EndedProcess → Table → Table → Type 0
UndoesEnds es before after = (modules : Loaded Forms) →
    AllReturn modules es after × (IsModuleTable modules → AllStand modules before → all_returned modules es after ≡ before)
