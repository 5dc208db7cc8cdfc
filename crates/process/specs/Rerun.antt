-- What a job leaves behind when its process rests again, with no code: its instances are told by names and serials.
use Rattle.std.specs.Prelude.{◌≡◌, All, List, map, Option, None, Some}
use Rattle.std.specs.Option.{option_map}
use Rattle.erl_ir.specs.Module.{Forms}
use Rattle.erl_semantics.specs.Views.{instance}
use Rattle.erl_semantics.specs.declared.instance.Instance.{Instance}
use Rattle.code_server.specs.Modules.{IsModuleTable, Table}
use Rattle.process.specs.Named.{StandsIn, all_found, named_instance}
use Rattle.process.specs.declared.named.CodeRef.{CodeRef}
use Rattle.process.specs.declared.process.Ran.{Ran}
use Rattle.process.specs.declared.process.rerunning.NamedRan.{NamedRan}
use Rattle.process.specs.Ended.{PlaceStands, held, named, rests_found}

-- with the instances told so
abbrev pub ran_with : Option CodeRef → List CodeRef → Ran → NamedRan
ran_with rests_in code ran = record {
  place = ran.place;
  rests_in = rests_in;
  running = record { entry_serial = ran.running.entry_serial; message = ran.running.message; code = code };
}

abbrev pub ran_named : Ran → NamedRan
ran_named ran = ran_with (option_map named ran.rests_in) (map named_instance (map instance ran.running.code)) ran

-- with these instances
abbrev pub ran_in : Option Instance → List Instance → NamedRan → Ran
ran_in rests_in code n = record {
  place = n.place;
  rests_in = rests_in;
  running = record { entry_serial = n.running.entry_serial; message = n.running.message; code = code };
}

abbrev pub runs_by : Option (Option Instance) → Option (List Instance) → NamedRan → Option Ran
runs_by None code n = None
runs_by (Some rests_in) None n = None
runs_by (Some rests_in) (Some code) n = Some (ran_in rests_in code n)

-- with the instances that the table of modules has; none where one of them is not in the table
abbrev pub runs_again : Table Forms → NamedRan → Option Ran
runs_again t n = runs_by (rests_found t n.rests_in) (option_map (map held) (all_found n.running.code t)) n

-- What a job has left behind is made whole again where the instances stand in the table that its process used.
abbrev pub JobsRunAgain : Type 0
JobsRunAgain = (t : Table Forms) (ran : Ran) → IsModuleTable t → PlaceStands t ran.rests_in →
    All (StandsIn t) (map instance ran.running.code) → runs_again t (ran_named ran) ≡ Some ran
