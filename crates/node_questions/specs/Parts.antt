-- The parts of the differences of an upgraded node from one on which the release has booted, as `Differences` defines the whole.
use Rattle.std.specs.Prelude.{◌≡◌, ◌≢◌, ◌⊎◌, ℕ, Bool, true, false, List, Option, None, Some}
use Rattle.app_table.specs.Applications.{Application, child_of}
use Rattle.app_table.specs.declared.child.Child.{Child}
use Rattle.code_server.specs.Modules.{Table as Loaded}
use Rattle.erl_ir.specs.Module.{Forms}
use Rattle.erl_term.specs.declared.term.Term.{Term}
use Rattle.process.specs.Process.{ProcessState}
use Rattle.process_store.specs.Table.{Table}
use Rattle.upgrade_review.specs.Gathering.{FromEach}
use Rattle.node_questions.specs.Running.{Running, code_of, is_awaited, process_in, process_of, runs}
use Rattle.node_questions.specs.Shapes.{is_alike}
use Rattle.node_questions.specs.declared.comparing.Difference.{Difference}
use Rattle.node_questions.specs.declared.comparing.Difference.TheVariants.{ApplicationMissing, ApplicationStays, ChildMissing}
use Rattle.node_questions.specs.declared.comparing.Difference.TheVariants.{ChildStays}
use Rattle.node_questions.specs.declared.comparing.Difference.TheVariants.{OtherSpecification, OtherName, OtherState}
use Rattle.node_questions.specs.declared.comparing.Difference.TheVariants.{CodeMissing, OtherCode, CodeStays}

-- Of a child's processes: the one after the upgrade, if there is one, or whether the child is due then; and the one after the
-- boot, if there is one.

abbrev pub IsOtherName : List ℕ → Term → ProcessState → ProcessState → Difference → Type 0
IsOtherName app id q p d = (q.name ≢ p.name) × (d ≡ OtherName app id q.name p.name)

abbrev pub IsOtherState : List ℕ → Term → ProcessState → ProcessState → Difference → Type 0
IsOtherState app id q p d = (is_alike q.place p.place ≡ false) × (d ≡ OtherState app id q.place p.place)

abbrev pub IsOtherProcess : List ℕ → Term → ProcessState → ProcessState → Difference → Type 0
IsOtherProcess app id q p d = IsOtherName app id q p d ⊎ IsOtherState app id q p d

abbrev pub DiffersAsProcess : List ℕ → Term → Bool → Option ProcessState → ProcessState → Difference → Type 0
DiffersAsProcess app id awaited None p d = (awaited ≡ false) × (d ≡ ChildMissing app id)
DiffersAsProcess app id awaited (Some q) p d = IsOtherProcess app id q p d

abbrev pub DiffersIfRuns : List ℕ → Term → Bool → Option ProcessState → Option ProcessState → Difference → Type 0
DiffersIfRuns app id awaited q None d = ⊥
DiffersIfRuns app id awaited q (Some p) d = DiffersAsProcess app id awaited q p d

-- Of a child after the boot, with its specification and its process.

abbrev pub HasOtherSpecification : List ℕ → Child → Option Child → Difference → Type 0
HasOtherSpecification app c None d = ⊥
HasOtherSpecification app c (Some other) d = (other.spec ≢ c.spec) × (d ≡ OtherSpecification app c.spec.id)

abbrev pub DiffersAsChild : List ℕ → Running → Table → Child → Difference → Type 0
DiffersAsChild app u processes c d =
    DiffersIfRuns app c.spec.id (is_awaited (child_of app c.spec.id u.apps)) (process_in app c.spec.id u) (process_of c processes) d
    ⊎ HasOtherSpecification app c (child_of app c.spec.id u.apps) d

-- Of an application that runs after the boot, given whether it runs after the upgrade; and of each application.

abbrev pub DiffersAsStarted : Bool → Running → Table → Application → Difference → Type 0
DiffersAsStarted true u processes a d = FromEach (λ i. DiffersAsChild a.spec.name u processes) a.children d
DiffersAsStarted false u processes a d = d ≡ ApplicationMissing a.spec.name

abbrev pub DiffersAsBooted : Running → Table → Application → Difference → Type 0
DiffersAsBooted u processes a d = (a.is_started ≡ true) × DiffersAsStarted (runs a.spec.name u.apps) u processes a d

-- Of a child after the upgrade; of an application that runs then, given whether it runs after the boot; and of each application.

abbrev pub IsChildStaying : List ℕ → List Application → Child → Difference → Type 0
IsChildStaying app booted c d = (child_of app c.spec.id booted ≡ None) × (d ≡ ChildStays app c.spec.id)

abbrev pub StaysAsStarted : Bool → List Application → Application → Difference → Type 0
StaysAsStarted true booted a d = FromEach (λ i. IsChildStaying a.spec.name booted) a.children d
StaysAsStarted false booted a d = d ≡ ApplicationStays a.spec.name

abbrev pub StaysAfterUpgrade : List Application → Application → Difference → Type 0
StaysAfterUpgrade booted a d = (a.is_started ≡ true) × StaysAsStarted (runs a.spec.name booted) booted a d

-- Of a module, given the code that it has after the upgrade and after the boot.

abbrev pub HasOtherCode : List ℕ → Option Forms → Option Forms → Difference → Type 0
HasOtherCode m None None d = ⊥
HasOtherCode m None (Some c) d = d ≡ CodeMissing m
HasOtherCode m (Some other) None d = d ≡ CodeStays m
HasOtherCode m (Some other) (Some c) d = (other ≢ c) × (d ≡ OtherCode m)

abbrev pub DiffersInCode : Loaded Forms → Loaded Forms → List ℕ → Difference → Type 0
DiffersInCode u f m d = HasOtherCode m (code_of m u) (code_of m f) d
