-- The effects of a script on modules and applications (appup(4), Low-Level Instructions; application(3)).
use Rattle.std.specs.Prelude.{ℕ, Bool, false, ◌&&◌, if◌then◌else◌, List, codes, Option, None, Some}
use Rattle.std.specs.List.{list_any}
use Rattle.std.specs.Str.{bytes_eq}
use Rattle.erl_term.specs.Accessors.{atom_of}
use Rattle.erl_term.specs.Tree.{Trees, none, more}
use Rattle.low_instructions.specs.declared.low.Low.{Low}
use Rattle.low_instructions.specs.declared.low.Low.TheVariants.{LoadObjectCode, PointOfNoReturn, Load, Remove, Purge, Suspend}
use Rattle.low_instructions.specs.declared.low.Low.TheVariants.{Resume, CodeChange, Stop, Start, Apply}

-- Whether an instruction makes object code the current code of the module `m`.
abbrev pub loads : List ℕ → Low → Bool
loads m (LoadObjectCode application version modules) = false
loads m PointOfNoReturn = false
loads m (Load name pre post) = bytes_eq name m
loads m (Remove name pre post) = false
loads m (Purge modules) = false
loads m (Suspend modules) = false
loads m (Resume modules) = false
loads m (CodeChange direction changes) = false
loads m (Stop modules) = false
loads m (Start modules) = false
loads m (Apply name function arguments) = false

-- Whether an instruction makes the current code of the module `m` old.
abbrev pub removes : List ℕ → Low → Bool
removes m (LoadObjectCode application version modules) = false
removes m PointOfNoReturn = false
removes m (Load name pre post) = false
removes m (Remove name pre post) = bytes_eq name m
removes m (Purge modules) = false
removes m (Suspend modules) = false
removes m (Resume modules) = false
removes m (CodeChange direction changes) = false
removes m (Stop modules) = false
removes m (Start modules) = false
removes m (Apply name function arguments) = false

-- Whether an instruction of a script loads a module, and whether one removes it.

abbrev pub is_loaded : List ℕ → List Low → Bool
is_loaded m script = list_any (loads m) script

abbrev pub is_removed : List ℕ → List Low → Bool
is_removed m script = list_any (removes m) script

-- The application that `application:start` with these arguments starts: `[App]` or `[App,Type]`.
abbrev pub app_of_start : Trees → Option (List ℕ)
app_of_start none = None
app_of_start (more app none) = atom_of app
app_of_start (more app (more type none)) = atom_of app
app_of_start (more app (more type (more another others))) = None

-- The application that `application:stop` with these arguments stops: `[App]`.
abbrev pub app_of_stop : Trees → Option (List ℕ)
app_of_stop none = None
app_of_stop (more app none) = atom_of app
app_of_stop (more app (more another others)) = None

-- Whether a call is a call of a function of the module `application`.
abbrev pub is_of_application : List ℕ → List ℕ → List ℕ → Bool
is_of_application wanted name function = bytes_eq name (codes "application") && bytes_eq function wanted

-- The application that an instruction starts: it applies `application:start/1` or `application:start/2` to its name.
abbrev pub started_by : Low → Option (List ℕ)
started_by (LoadObjectCode application version modules) = None
started_by PointOfNoReturn = None
started_by (Load name pre post) = None
started_by (Remove name pre post) = None
started_by (Purge modules) = None
started_by (Suspend modules) = None
started_by (Resume modules) = None
started_by (CodeChange direction changes) = None
started_by (Stop modules) = None
started_by (Start modules) = None
started_by (Apply name function arguments) =
    if is_of_application (codes "start") name function then app_of_start arguments else None

-- The application that an instruction stops: it applies `application:stop/1` to its name.
abbrev pub stopped_by : Low → Option (List ℕ)
stopped_by (LoadObjectCode application version modules) = None
stopped_by PointOfNoReturn = None
stopped_by (Load name pre post) = None
stopped_by (Remove name pre post) = None
stopped_by (Purge modules) = None
stopped_by (Suspend modules) = None
stopped_by (Resume modules) = None
stopped_by (CodeChange direction changes) = None
stopped_by (Stop modules) = None
stopped_by (Start modules) = None
stopped_by (Apply name function arguments) =
    if is_of_application (codes "stop") name function then app_of_stop arguments else None

-- Whether this is the name `app`.
abbrev pub is_name : List ℕ → Option (List ℕ) → Bool
is_name app None = false
is_name app (Some name) = bytes_eq name app

-- Whether an instruction starts an application, and whether it stops it.

abbrev pub starts : List ℕ → Low → Bool
starts app low = is_name app (started_by low)

abbrev pub stops : List ℕ → Low → Bool
stops app low = is_name app (stopped_by low)

-- Whether an instruction of a script starts an application, and whether one stops it.

abbrev pub is_started : List ℕ → List Low → Bool
is_started app script = list_any (starts app) script

abbrev pub is_stopped : List ℕ → List Low → Bool
is_stopped app script = list_any (stops app) script
