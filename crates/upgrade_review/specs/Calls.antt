-- Calls that nobody answers: the points of a script at which a module calls a function of another module that doesn't export it,
-- judged by the interfaces of the modules alone (code(3); appup(4), Low-Level Instructions).
use Rattle.std.specs.Prelude.{◌≡◌, ◌≤◌, ◌<◌, ℕ, ◌-◌, Bool, true, false, ◌&&◌, ◌||◌, ◌==◌, not, if◌then◌else◌}
use Rattle.std.specs.Prelude.{List, [], ◌∷◌, ◌++◌, Contains, codes, drop, get_or, length, take, Option, None, Some, is_some, slice_get}
use Rattle.std.specs.List.{find, list_any}
use Rattle.std.specs.Str.{bytes_eq}
use Rattle.erl_ir.specs.Module.{Key, key_eq}
use Rattle.erl_term.specs.Tree.{Trees, count}
use Rattle.low_instructions.specs.declared.low.Low.{Low}
use Rattle.low_instructions.specs.declared.low.Low.TheVariants.{LoadObjectCode, PointOfNoReturn, Load, Remove, Purge, Suspend}
use Rattle.low_instructions.specs.declared.low.Low.TheVariants.{Resume, CodeChange, Stop, Start, Apply}
use Rattle.low_instructions.specs.declared.modules.Direction.{Direction}
use Rattle.upgrade_review.specs.Gathering.{FromEach}
use Rattle.upgrade_review.specs.Interfaces.{is_server_call}
use Rattle.upgrade_review.specs.Scripts.{is_started, is_stopped}
use Rattle.upgrade_review.specs.Suspended.{has_suspended}
use Rattle.upgrade_review.specs.declared.calls.Current.{Current}
use Rattle.upgrade_review.specs.declared.calls.Current.TheVariants.{Left, Installed, Removed}
use Rattle.upgrade_review.specs.declared.finding.Finding.{Finding}
use Rattle.upgrade_review.specs.declared.finding.Finding.TheVariants.{AppliesNobody, CallsInCallback, CallsOutside, Unanswered}
use Rattle.upgrade_review.specs.declared.interface.Call.{Call}
use Rattle.upgrade_review.specs.declared.interface.Interface.{Interface}

-- The interface of a module of a release, if the release has the module; and whether one of two releases has it.

abbrev pub interface_in : List ℕ → List Interface → Option Interface
interface_in m interfaces = find (λ i. bytes_eq i.name m) interfaces

abbrev pub is_known : List ℕ → List Interface → List Interface → Bool
is_known m left installed = is_some (interface_in m left) || is_some (interface_in m installed)

-- Which code of the module `m` is current after an instruction, given which was current before it: a `load` makes that of the
-- release that is installed current, and a `remove` leaves the module without current code (code(3), load_binary/3, delete/1).
abbrev pub current_after : List ℕ → Current → Low → Current
current_after m c (LoadObjectCode application version modules) = c
current_after m c PointOfNoReturn = c
current_after m c (Load name pre post) = if bytes_eq name m then Installed else c
current_after m c (Remove name pre post) = if bytes_eq name m then Removed else c
current_after m c (Purge modules) = c
current_after m c (Suspend modules) = c
current_after m c (Resume modules) = c
current_after m c (CodeChange direction changes) = c
current_after m c (Stop modules) = c
current_after m c (Start modules) = c
current_after m c (Apply name function arguments) = c

-- after each instruction of a script, from the first on
unfoldable pub current_by : List ℕ → Current → List Low → Current
current_by m c [] = c
current_by m c (low ∷ script) = current_by m (current_after m c low) script

-- The interface of the current code of a module, after these instructions.

abbrev pub interface_of_current : Current → Option Interface → Option Interface → Option Interface
interface_of_current Left left installed = left
interface_of_current Installed left installed = installed
interface_of_current Removed left installed = None

abbrev pub interface_at : List ℕ → List Low → List Interface → List Interface → Option Interface
interface_at m before left installed =
    interface_of_current (current_by m Left before) (interface_in m left) (interface_in m installed)

-- Whether code makes a call, and whether it answers one: it exports the function.

abbrev pub is_call : Call → Call → Bool
is_call a b = bytes_eq a.«module» b.«module» && bytes_eq a.function b.function && (a.arity == b.arity)

abbrev pub makes : Call → Option Interface → Bool
makes k None = false
makes k (Some i) = list_any (is_call k) i.calls

abbrev pub answers : Call → Option Interface → Bool
answers k None = false
answers k (Some i) = list_any (key_eq (k.function, k.arity)) i.exports

-- Whether, after these instructions, the module `caller` makes a call that nobody answers.
abbrev pub is_unanswered : List Interface → List Interface → List ℕ → Call → List Low → Bool
is_unanswered left installed caller k before =
    makes k (interface_at caller before left installed) && not (answers k (interface_at k.«module» before left installed))

-- Whether no process makes a call of a module after so many instructions, because of the script: its processes are suspended by
-- its name (appup(4), suspend), or its application is down until a later instruction starts it (application(3)).

abbrev pub is_down : List ℕ → List Low → Bool
is_down app later = is_started app later && not (is_stopped app later)

abbrev pub is_idle : List ℕ → List ℕ → List Low → ℕ → Bool
is_idle app m script i = has_suspended m (take i script) || is_down app (drop i script)

-- Whether, after so many instructions, a process may make a call that nobody answers.
abbrev pub is_missed : List Interface → List Interface → List ℕ → List ℕ → Call → List Low → ℕ → Bool
is_missed left installed app caller k script i =
    is_unanswered left installed caller k (take i script) && not (is_idle app caller script i)

-- A window: the points of a script from one on and before another one, or up to the end, at all of which something holds. A
-- point is the number of instructions before it, and the last one is the end. The window is as long as can be: it doesn't hold
-- at the point before the window, nor at the point after it.

abbrev pub Begins : (ℕ → Bool) → ℕ → Type 0
Begins holds from = 0 < from → holds (from - 1) ≡ false

abbrev pub IsBefore : ℕ → Option ℕ → Type 0
IsBefore i None = Unit {0}
IsBefore i (Some to) = i < to

abbrev pub Ends : (ℕ → Bool) → ℕ → ℕ → Option ℕ → Type 0
Ends holds last from None = Unit {0}
Ends holds last from (Some to) = (from < to) × (to ≤ last) × (holds to ≡ false)

pub record IsWindow (holds : ℕ → Bool) (last from : ℕ) (to : Option ℕ) : Type 0 where
  pub begin : Begins holds from
  pub all : (i : ℕ) → from ≤ i → i ≤ last → IsBefore i to → holds i ≡ true
  pub within : from ≤ last
  pub end : Ends holds last from to

-- The upgrade has a part in a window: it begins after an instruction, or lasts to the end. A window that is there from the
-- beginning and ends is a fault of the release that is left, which the upgrade mends.
abbrev pub IsOfUpgrade : ℕ → Option ℕ → Type 0
IsOfUpgrade from None = Unit {0}
IsOfUpgrade from (Some to) = 1 ≤ from

-- A finding about a call of a module of a release while a script that leads `way` runs, or about a call that the script makes.
pub data LeavesUnanswered (way : Direction) (left installed : List Interface) (script : List Low) (f : Finding) : Type 0 where
  -- A module calls a function of a module of the releases, and nobody answers at the points of a window.
  unanswered : (caller : Interface) (k : Call) (from : ℕ) (to : Option ℕ) → Contains (left ++ installed) caller →
      Contains caller.calls k → is_known k.«module» left installed ≡ true →
      IsWindow (is_missed left installed caller.application caller.name k script) (length script) from to →
      IsOfUpgrade from to → f ≡ Unanswered way from to caller.name k → LeavesUnanswered way left installed script f
  -- An instruction applies a function of a module of the releases, and nobody answers it then.
  applies_nobody : (i : ℕ) (m name : List ℕ) (arguments : Trees) → slice_get script i ≡ Some (Apply m name arguments) →
      is_known m left installed ≡ true →
      answers (record { «module» = m; function = name; arity = count arguments }) (interface_at m (take i script) left installed)
      ≡ false →
      f ≡ AppliesNobody way i (record { «module» = m; function = name; arity = count arguments }) →
      LeavesUnanswered way left installed script f

-- Whether a call starts a supervisor, which the node does itself when it starts an application (supervisor(3), start_link/2,3).
abbrev pub is_supervisor_start : Call → Bool
is_supervisor_start k = bytes_eq k.«module» (codes "supervisor") && bytes_eq k.function (codes "start_link")

-- A call that each node answers: it starts a supervisor, or it is gen_server:call, which clients call too.
abbrev pub is_on_each_node : Call → Bool
is_on_each_node k = is_supervisor_start k || is_server_call k

-- A finding about a call of a module of the release that is installed: neither release has the module that it calls.
pub data IsOutside (left installed : List Interface) (f : Finding) : Type 0 where
  outside : (caller : Interface) (k : Call) → Contains installed caller → Contains caller.calls k →
      is_known k.«module» left installed ≡ false → is_on_each_node k ≡ false → f ≡ CallsOutside caller.name k →
      IsOutside left installed f

abbrev pub function_in : List ℕ → Key → Call
function_in m key = record { «module» = m; function = key.0; arity = key.1 }

-- A finding about a function of a module of the release that is installed: it serves processes and calls gen_server:call itself.
pub data IsAsking (installed : List Interface) (f : Finding) : Type 0 where
  asking : (server : Interface) (key : Key) → Contains installed server → Contains server.asking key →
      f ≡ CallsInCallback (function_in server.name key) → IsAsking installed f

-- The same of the parts of a script: of a call of a module, of all calls of a module, of all modules of a release, and of an
-- instruction.

abbrev pub IsWindowFrom : Direction → (ℕ → Bool) → ℕ → ℕ → List ℕ → Call → Finding → Type 0
IsWindowFrom way holds last from caller k f =
    (to : Option ℕ) × IsWindow holds last from to × IsOfUpgrade from to × (f ≡ Unanswered way from to caller k)

abbrev pub IsWindowFinding : Direction → (ℕ → Bool) → ℕ → List ℕ → Call → Finding → Type 0
IsWindowFinding way holds last caller k f = (from : ℕ) × IsWindowFrom way holds last from caller k f

abbrev pub IsUnansweredCall : Direction → List Interface → List Interface → List Low → List ℕ → List ℕ → Call → Finding → Type 0
IsUnansweredCall way left installed script app caller k f = (is_known k.«module» left installed ≡ true)
    × IsWindowFinding way (is_missed left installed app caller k script) (length script) caller k f

abbrev pub IsUnansweredOf : Direction → List Interface → List Interface → List Low → Interface → Finding → Type 0
IsUnansweredOf way left installed script caller f =
    FromEach (λ i k. IsUnansweredCall way left installed script caller.application caller.name k) caller.calls f

abbrev pub IsUnansweredIn : Direction → List Interface → List Interface → List Low → List Interface → Finding → Type 0
IsUnansweredIn way left installed script callers f =
    FromEach (λ i caller. IsUnansweredOf way left installed script caller) callers f

abbrev pub AppliesNobodyAt : Direction → List Interface → List Interface → List Low → ℕ → Call → Finding → Type 0
AppliesNobodyAt way left installed script i k f = (is_known k.«module» left installed ≡ true)
    × (answers k (interface_at k.«module» (take i script) left installed) ≡ false) × (f ≡ AppliesNobody way i k)

abbrev pub applied_by : Low → Option Call
applied_by (LoadObjectCode application version modules) = None
applied_by PointOfNoReturn = None
applied_by (Load name pre post) = None
applied_by (Remove name pre post) = None
applied_by (Purge modules) = None
applied_by (Suspend modules) = None
applied_by (Resume modules) = None
applied_by (CodeChange direction changes) = None
applied_by (Stop modules) = None
applied_by (Start modules) = None
applied_by (Apply name function arguments) = Some (record { «module» = name; function = function; arity = count arguments })

abbrev pub AppliesNobodyBy : Direction → List Interface → List Interface → List Low → ℕ → Low → Finding → Type 0
AppliesNobodyBy way left installed script i low f =
    (k : Call) × (applied_by low ≡ Some k) × AppliesNobodyAt way left installed script i k f

abbrev pub IsOutsideCall : List Interface → List Interface → List ℕ → Call → Finding → Type 0
IsOutsideCall left installed caller k f =
    (is_known k.«module» left installed ≡ false) × (is_on_each_node k ≡ false) × (f ≡ CallsOutside caller k)

abbrev pub IsOutsideOf : List Interface → List Interface → Interface → Finding → Type 0
IsOutsideOf left installed caller f = FromEach (λ i k. IsOutsideCall left installed caller.name k) caller.calls f

abbrev pub IsAskingKey : List ℕ → Key → Finding → Type 0
IsAskingKey server key f = f ≡ CallsInCallback (function_in server key)

abbrev pub IsAskingOf : Interface → Finding → Type 0
IsAskingOf server f = FromEach (λ i key. IsAskingKey server.name key) server.asking f

-- Whether something holds for the current code, given whether it holds for each code.
abbrev pub of_current : Current → Bool → Bool → Bool
of_current Left left installed = left
of_current Installed left installed = installed
of_current Removed left installed = false

-- Whether something holds at a point, given a list with an item for each point.
abbrev pub holds_at : List Bool → ℕ → Bool
holds_at points i = get_or points i false
