-- A process that was taken out whole, with its instances told by names and serials, and the process that is made of it again.
use Rattle.std.specs.Prelude.{◌≡◌, ℕ, All, List, [], map, Option, None, Some}
use Rattle.std.specs.Option.{option_map}
use Rattle.erl_ir.specs.Module.{Forms}
use Rattle.erl_term.specs.declared.term.Term.{Term}
use Rattle.erl_semantics.specs.declared.acts.Place.{Place}
use Rattle.erl_semantics.specs.State as state
use Rattle.erl_semantics.specs.Views.{instance}
use Rattle.erl_semantics.specs.declared.instance.Instance.{Instance}
use Rattle.code_server.specs.Modules.{IsModuleTable, Table}
use Rattle.process.specs.Named.{StandsIn, all_found, found, named_instance}
use Rattle.process.specs.declared.named.CodeRef.{CodeRef}
use Rattle.process.specs.declared.activity.Activity.{Activity}
use Rattle.process.specs.declared.activity.Activity.TheVariants as activity
use Rattle.process.specs.declared.process.ending.Did.{Did}
use Rattle.process.specs.declared.process.ending.Did.TheVariants as did
use Rattle.process.specs.Process.{ProcessState}

-- A process as it was when it was taken out, but with no code: its instances are told by names and serials.
pub record EndedState : Type 0 where
  pub pid : ℕ
  pub name : Option (List ℕ)
  pub place : Place
  pub rests_in : Option CodeRef
  pub did : Did
  pub turn : ℕ
  pub mailbox : List Term

-- Taking out.

-- what tells an instance
abbrev pub named : Instance → CodeRef
named i = named_instance (instance i)

-- what tells the code that is run
abbrev pub code_named : Activity → List CodeRef
code_named activity.Idle = []
code_named activity.Suspended = []
code_named (activity.Runs r) = map named_instance (map instance r.code)

abbrev pub did_by : List CodeRef → Activity → Did
did_by code activity.Idle = did.Idle
did_by code activity.Suspended = did.Suspended
did_by code (activity.Runs r) = did.Ran (record { entry_serial = r.entry_serial; message = r.message; code = code })

-- with the instances told so
abbrev pub ended_with : Option CodeRef → List CodeRef → ProcessState → EndedState
ended_with rests_in code p = record {
  pid = p.pid;
  name = p.name;
  place = p.place;
  rests_in = rests_in;
  did = did_by code p.activity;
  turn = p.turn;
  mailbox = p.mailbox;
}

abbrev pub ended : ProcessState → EndedState
ended p = ended_with (option_map named p.rests_in) (code_named p.activity) p

-- Living again, with the instances that are found in the table of modules, current or old.

abbrev pub held : state.Instance → Instance
held i = record { name = i.name; serial = i.serial; «module» = i.forms }

abbrev pub rests_found : Table Forms → Option CodeRef → Option (Option Instance)
rests_found t None = Some None
rests_found t (Some n) = option_map (λ i. Some (held i)) (found n.name n.serial t)

abbrev pub code_found : Table Forms → Did → Option (List Instance)
code_found t did.Idle = Some []
code_found t did.Suspended = Some []
code_found t (did.Ran r) = option_map (map held) (all_found r.code t)

abbrev pub activity_by : List Instance → Did → Activity
activity_by code did.Idle = activity.Idle
activity_by code did.Suspended = activity.Suspended
activity_by code (did.Ran r) = activity.Runs (record { entry_serial = r.entry_serial; message = r.message; code = code })

-- with these instances
abbrev pub lived : Option Instance → List Instance → EndedState → ProcessState
lived rests_in code e = record {
  pid = e.pid;
  name = e.name;
  place = e.place;
  rests_in = rests_in;
  activity = activity_by code e.did;
  turn = e.turn;
  mailbox = e.mailbox;
}

abbrev pub lives_by : Option (Option Instance) → Option (List Instance) → EndedState → Option ProcessState
lives_by None code e = None
lives_by (Some rests_in) None e = None
lives_by (Some rests_in) (Some code) e = Some (lived rests_in code e)

-- none where one of the instances is not in the table
abbrev pub lives : Table Forms → EndedState → Option ProcessState
lives t e = lives_by (rests_found t e.rests_in) (code_found t e.did) e

-- The instances that a process uses stand in the table.

abbrev pub PlaceStands : Table Forms → Option Instance → Type 0
PlaceStands t None = Unit {0}
PlaceStands t (Some i) = StandsIn t (instance i)

abbrev pub CodeStands : Table Forms → Activity → Type 0
CodeStands t activity.Idle = Unit {0}
CodeStands t activity.Suspended = Unit {0}
CodeStands t (activity.Runs r) = All (StandsIn t) (map instance r.code)

-- A process that was taken out lives again where they do.
abbrev pub EndedProcessesLive : Type 0
EndedProcessesLive = (t : Table Forms) (p : ProcessState) → IsModuleTable t → PlaceStands t p.rests_in → CodeStands t p.activity →
    lives t (ended p) ≡ Some p
