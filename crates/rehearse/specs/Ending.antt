-- The status of the program.
use Rattle.std.specs.Prelude.{ℕ, Result, Ok, Err}
use Rattle.std.specs.IoError.{error_kind}
use Rattle.std.specs.declared.io.ErrorKind.{ErrorKind}
use Rattle.std.specs.declared.io.ErrorKind.TheVariants.{OutOfMemory}
use Rattle.client_traffic.specs.declared.TrafficError.{TrafficError}
use Rattle.client_traffic.specs.declared.TrafficError.TheVariants as traffic
use Rattle.file_tree.specs.declared.TreeError.{TreeError}
use Rattle.file_tree.specs.declared.TreeError.TheVariants as tree
use Rattle.program_words.specs.Status.{status_of_words}
use Rattle.rehearse.specs.declared.ending.End.{End}
use Rattle.rehearse.specs.declared.ending.End.TheVariants.{Goes, HasFindings, Fails}
use Rattle.rehearse.specs.declared.ending.Fault.{Fault}
use Rattle.rehearse.specs.declared.ending.Fault.TheVariants as fault
use Rattle.release_boot.specs.declared.error.BootError.TheVariants as boot
use Rattle.relup_make.specs.declared.error.MakeError.{MakeError}
use Rattle.relup_make.specs.declared.error.MakeError.TheVariants as making
use Rattle.upgrade_rehearsal.specs.declared.halting.Fault.{Fault as RehearsalFault}
use Rattle.upgrade_rehearsal.specs.declared.halting.Fault.TheVariants as rehearsing

-- A failed allocation is never reported as a fault of files, which has status 3: it has status 1.

abbrev pub status_of_unread : ErrorKind → ℕ
status_of_unread OutOfMemory = 1
status_of_unread _ = 3

abbrev pub status_of_tree : TreeError → ℕ
status_of_tree (tree.Folder path error) = status_of_unread (error_kind error)
status_of_tree (tree.File path error) = status_of_unread (error_kind error)
status_of_tree (tree.Name path) = 3
status_of_tree (tree.TooMany path) = 3
status_of_tree (tree.Memory error) = 1

abbrev pub status_of_traffic : TrafficError → ℕ
status_of_traffic traffic.NoArrival = 3
status_of_traffic traffic.NotOneTerm = 3
status_of_traffic (traffic.Term error) = 3
status_of_traffic traffic.Memory = 1

abbrev pub status_of_making : MakeError → ℕ
status_of_making making.ErtsChanged = 3
status_of_making (making.BaseChanged app) = 3
status_of_making (making.NoAppup app) = 3
status_of_making (making.NoEntry app vsn) = 3
status_of_making (making.UnknownModule m) = 3
status_of_making making.Memory = 1

-- a release that doesn't boot is a fault of its files
abbrev pub status_of_rehearsing : RehearsalFault → ℕ
status_of_rehearsing (rehearsing.Boot (boot.NotStarted app reason)) = 3
status_of_rehearsing (rehearsing.Boot boot.Memory) = 1
status_of_rehearsing (rehearsing.Halted why) = 1

-- 2 after a bad command line, 3 if the files are at fault, 1 if the system is
abbrev pub status_of_fault : Fault → ℕ
status_of_fault (fault.CommandLine words) = status_of_words words
status_of_fault fault.SameVersion = 2
status_of_fault fault.SeveralVersions = 2
status_of_fault (fault.UnknownKind word) = 2
status_of_fault (fault.NoRandomBytes error) = 1
status_of_fault (fault.Files error) = status_of_tree error
status_of_fault (fault.TrafficUnread error) = status_of_unread (error_kind error)
status_of_fault (fault.Traffic it) = status_of_traffic it.error
status_of_fault (fault.Releases unread) = 3
status_of_fault (fault.NoRelup why text) = status_of_making why
status_of_fault (fault.Rehearsal why) = status_of_rehearsing why
status_of_fault (fault.Output error) = 1
status_of_fault (fault.File path error) = 1
status_of_fault (fault.Memory error) = 1

-- 0 if the upgrade goes up and down and nothing is found that isn't allowed, 4 if something is, 1 if it doesn't go
abbrev pub status_of : Result End Fault → ℕ
status_of (Ok Goes) = 0
status_of (Ok HasFindings) = 4
status_of (Ok Fails) = 1
status_of (Err why) = status_of_fault why

-- the worse of two ends
abbrev pub worse : End → End → End
worse Goes Goes = Goes
worse Goes HasFindings = HasFindings
worse Goes Fails = Fails
worse HasFindings Goes = HasFindings
worse HasFindings HasFindings = HasFindings
worse HasFindings Fails = Fails
worse Fails other = Fails
