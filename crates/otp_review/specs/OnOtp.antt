-- What OTP's release handler does otherwise than this node, from a script and the release that is left (release_handler(3);
-- appup(4)). OTP keeps the processes that it has suspended, and the children that it has stopped, by the names of modules in the
-- instruction; at each `suspend` and `stop` it asks all supervisors for their children; and about the place of the point of no
-- return it checks only that no object code is read after it.
use Rattle.std.specs.Prelude.{◌≡◌, ◌⊎◌, ℕ, ◌+◌, Bool, true, false, ◌&&◌, ◌||◌, not, List, Contains, codes}
use Rattle.std.specs.Prelude.{Option, None, Some, slice_get, take, drop}
use Rattle.std.specs.List.{list_any}
use Rattle.std.specs.Str.{bytes_eq}
use Rattle.low_instructions.specs.declared.low.Low.{Low}
use Rattle.low_instructions.specs.declared.low.Low.TheVariants.{LoadObjectCode, PointOfNoReturn, Load, Remove, Purge, Suspend}
use Rattle.low_instructions.specs.declared.low.Low.TheVariants.{Resume, CodeChange, Stop, Start, Apply}
use Rattle.low_instructions.specs.declared.modules.Direction.{Direction}
use Rattle.low_instructions.specs.declared.modules.ModuleChange.{ModuleChange}
use Rattle.low_instructions.specs.declared.modules.Suspension.{Suspension}
use Rattle.otp_files.specs.declared.app.StartModule.{StartModule}
use Rattle.release_table.specs.declared.table.Release.{Release}
use Rattle.script_checks.specs.Checks.{has_point, is_point}
use Rattle.upgrade_review.specs.Gathering.{FromEach}
use Rattle.upgrade_review.specs.Suspended.{has_suspended, is_among, through}
use Rattle.upgrade_review.specs.declared.finding.Finding.{Finding}
use Rattle.upgrade_review.specs.declared.finding.Finding.TheVariants.{ChangesNobodyOnOtp, NotResumedOnOtp, ResumesNobodyOnOtp, StartsNobodyOnOtp}
use Rattle.upgrade_review.specs.declared.finding.Finding.TheVariants.{EarlyOnOtp, NoPointOnOtp, SecondPointOnOtp, SuspendedSupervisorOnOtp}

-- Whether children are kept stopped by the name `m` after an instruction, given whether they were before it: a `stop` keeps
-- them, and a `start` releases them; and whether they are kept stopped after a script.

abbrev pub stopped_after : List ℕ → Bool → Low → Bool
stopped_after m kept (LoadObjectCode application version modules) = kept
stopped_after m kept PointOfNoReturn = kept
stopped_after m kept (Load name pre post) = kept
stopped_after m kept (Remove name pre post) = kept
stopped_after m kept (Purge modules) = kept
stopped_after m kept (Suspend modules) = kept
stopped_after m kept (Resume modules) = kept
stopped_after m kept (CodeChange direction changes) = kept
stopped_after m kept (Stop modules) = kept || is_among m modules
stopped_after m kept (Start modules) = kept && not (is_among m modules)
stopped_after m kept (Apply name function arguments) = kept

abbrev pub has_stopped : List ℕ → List Low → Bool
has_stopped m script = through (stopped_after m) false script

-- Whether an instruction, or an instruction of a script, releases the processes that are suspended by the name `m`: it resumes
-- them, or stops their children.

abbrev pub lets_go : List ℕ → Low → Bool
lets_go m (LoadObjectCode application version modules) = false
lets_go m PointOfNoReturn = false
lets_go m (Load name pre post) = false
lets_go m (Remove name pre post) = false
lets_go m (Purge modules) = false
lets_go m (Suspend modules) = false
lets_go m (Resume modules) = is_among m modules
lets_go m (CodeChange direction changes) = false
lets_go m (Stop modules) = is_among m modules
lets_go m (Start modules) = false
lets_go m (Apply name function arguments) = false

abbrev pub is_let_go : List ℕ → List Low → Bool
is_let_go m script = list_any (lets_go m) script

-- Whether OTP asks all supervisors for their children at an instruction, to find those to suspend or to stop.
abbrev pub asks_supervisors : Low → Bool
asks_supervisors (LoadObjectCode application version modules) = false
asks_supervisors PointOfNoReturn = false
asks_supervisors (Load name pre post) = false
asks_supervisors (Remove name pre post) = false
asks_supervisors (Purge modules) = false
asks_supervisors (Suspend modules) = true
asks_supervisors (Resume modules) = false
asks_supervisors (CodeChange direction changes) = false
asks_supervisors (Stop modules) = true
asks_supervisors (Start modules) = false
asks_supervisors (Apply name function arguments) = false

-- What OTP does otherwise with a script that leads `way`, because of the names of modules. Whether a child has the name is not
-- examined.
pub data DiffersByName (way : Direction) (script : List Low) (f : Finding) : Type 0 where
  -- Processes are suspended, and no instruction after it resumes them or stops their children: they stay suspended for ever.
  not_resumed : (i : ℕ) (modules : List Suspension) (s : Suspension) → slice_get script i ≡ Some (Suspend modules) →
      Contains modules s → is_let_go s.name (drop (i + 1) script) ≡ false → f ≡ NotResumedOnOtp way i s.name →
      DiffersByName way script f
  -- Processes are resumed by a name by which none are kept suspended: none is resumed.
  resumes_nobody : (i : ℕ) (modules : List (List ℕ)) (m : List ℕ) → slice_get script i ≡ Some (Resume modules) →
      Contains modules m → has_suspended m (take i script) ≡ false → f ≡ ResumesNobodyOnOtp way i m → DiffersByName way script f
  -- Processes are to change their state by a name by which none are kept suspended: no state is changed.
  changes_nobody : (i : ℕ) (direction : Direction) (changes : List ModuleChange) (change : ModuleChange) →
      slice_get script i ≡ Some (CodeChange direction changes) → Contains changes change →
      has_suspended change.name (take i script) ≡ false → f ≡ ChangesNobodyOnOtp way i change.name → DiffersByName way script f
  -- Children are started by a name by which none are kept stopped: none is started.
  starts_nobody : (i : ℕ) (modules : List (List ℕ)) (m : List ℕ) → slice_get script i ≡ Some (Start modules) →
      Contains modules m → has_stopped m (take i script) ≡ false → f ≡ StartsNobodyOnOtp way i m → DiffersByName way script f

-- The same of the instruction at an index.

abbrev pub IsNotResumed : Direction → List Low → ℕ → List ℕ → Finding → Type 0
IsNotResumed way script i m f = (is_let_go m (drop (i + 1) script) ≡ false) × (f ≡ NotResumedOnOtp way i m)

abbrev pub ResumesNobody : Direction → List Low → ℕ → List ℕ → Finding → Type 0
ResumesNobody way script i m f = (has_suspended m (take i script) ≡ false) × (f ≡ ResumesNobodyOnOtp way i m)

abbrev pub ChangesNobody : Direction → List Low → ℕ → List ℕ → Finding → Type 0
ChangesNobody way script i m f = (has_suspended m (take i script) ≡ false) × (f ≡ ChangesNobodyOnOtp way i m)

abbrev pub StartsNobody : Direction → List Low → ℕ → List ℕ → Finding → Type 0
StartsNobody way script i m f = (has_stopped m (take i script) ≡ false) × (f ≡ StartsNobodyOnOtp way i m)

abbrev pub DiffersAt : Direction → List Low → ℕ → Low → Finding → Type 0
DiffersAt way script i (LoadObjectCode application version modules) f = ⊥
DiffersAt way script i PointOfNoReturn f = ⊥
DiffersAt way script i (Load name pre post) f = ⊥
DiffersAt way script i (Remove name pre post) f = ⊥
DiffersAt way script i (Purge modules) f = ⊥
DiffersAt way script i (Suspend modules) f = FromEach (λ j s. IsNotResumed way script i s.name) modules f
DiffersAt way script i (Resume modules) f = FromEach (λ j m. ResumesNobody way script i m) modules f
DiffersAt way script i (CodeChange direction changes) f = FromEach (λ j change. ChangesNobody way script i change.name) changes f
DiffersAt way script i (Stop modules) f = ⊥
DiffersAt way script i (Start modules) f = FromEach (λ j m. StartsNobody way script i m) modules f
DiffersAt way script i (Apply name function arguments) f = ⊥

-- Whether OTP accepts a script: the script reads no object code after the first point of no return, or none at all if there is
-- no point.

abbrev pub is_code : Low → Bool
is_code (LoadObjectCode application version modules) = true
is_code PointOfNoReturn = false
is_code (Load name pre post) = false
is_code (Remove name pre post) = false
is_code (Purge modules) = false
is_code (Suspend modules) = false
is_code (Resume modules) = false
is_code (CodeChange direction changes) = false
is_code (Stop modules) = false
is_code (Start modules) = false
is_code (Apply name function arguments) = false

abbrev pub is_late : List Low → ℕ → Low → Bool
is_late script i low = is_code low && (has_point (take i script) || not (has_point script))

abbrev pub IsTaken : List Low → Type 0
IsTaken script = (i : ℕ) (low : Low) → slice_get script i ≡ Some low → is_late script i low ≡ false

-- Whether this node refuses an instruction before the point of no return (`is_faulty` of `script_checks`).
abbrev pub belongs_after : Low → Bool
belongs_after (LoadObjectCode application version modules) = false
belongs_after PointOfNoReturn = false
belongs_after (Load name pre post) = true
belongs_after (Remove name pre post) = true
belongs_after (Purge modules) = true
belongs_after (Suspend modules) = true
belongs_after (Resume modules) = true
belongs_after (CodeChange direction changes) = true
belongs_after (Stop modules) = true
belongs_after (Start modules) = true
belongs_after (Apply name function arguments) = bytes_eq name (codes "application")

-- This node refuses a script because of its point of no return, and OTP executes it: there is no point; there is a second one;
-- or an instruction is before the point that belongs after it.

abbrev pub HasNoPoint : Direction → List Low → Finding → Type 0
HasNoPoint way script f = (has_point script ≡ false) × (f ≡ NoPointOnOtp way)

abbrev pub is_second : List Low → ℕ → Low → Bool
is_second script i low = is_point low && has_point (take i script)

abbrev pub is_early : List Low → ℕ → Low → Bool
is_early script i low = belongs_after low && (not (has_point (take i script)) && has_point script)

abbrev pub IsSecondPoint : Direction → List Low → ℕ → Low → Finding → Type 0
IsSecondPoint way script i low f = (is_second script i low ≡ true) × (f ≡ SecondPointOnOtp way i)

abbrev pub IsEarly : Direction → List Low → ℕ → Low → Finding → Type 0
IsEarly way script i low f = (is_early script i low ≡ true) × (f ≡ EarlyOnOtp way i)

abbrev pub IsMisplaced : Direction → List Low → ℕ → Low → Finding → Type 0
IsMisplaced way script i low f = IsSecondPoint way script i low f ⊎ IsEarly way script i low f

abbrev pub DiffersByPoint : Direction → List Low → Finding → Type 0
DiffersByPoint way script f = IsTaken script × (HasNoPoint way script f ⊎ FromEach (IsMisplaced way script) script f)

-- OTP fails at an instruction because of a supervisor: it asks all supervisors while that of an application of the release that
-- is left is kept suspended by the name of its callback module.

abbrev pub IsSuspended : Direction → List Low → ℕ → List ℕ → Finding → Type 0
IsSuspended way script i m f = (has_suspended m (take i script) ≡ true) × (f ≡ SuspendedSupervisorOnOtp way i m)

abbrev pub IsSuspendedStart : Direction → List Low → ℕ → Option StartModule → Finding → Type 0
IsSuspendedStart way script i None f = ⊥
IsSuspendedStart way script i (Some start) f = IsSuspended way script i start.name f

abbrev pub IsSuspendedIn : Direction → Release → List Low → ℕ → Finding → Type 0
IsSuspendedIn way left script i f = FromEach (λ j files. IsSuspendedStart way script i files.spec.start) left.apps f

abbrev pub FailsAt : Direction → Release → List Low → ℕ → Low → Finding → Type 0
FailsAt way left script i low f = (asks_supervisors low ≡ true) × IsSuspendedIn way left script i f

abbrev pub FailsOnOtp : Direction → Release → List Low → Finding → Type 0
FailsOnOtp way left script f = FromEach (FailsAt way left script) script f

-- What OTP does otherwise with a script that leads `way` from the release that is left.
abbrev pub DiffersOnOtp : Direction → Release → List Low → Finding → Type 0
DiffersOnOtp way left script f = DiffersByPoint way script f ⊎ (DiffersByName way script f ⊎ FailsOnOtp way left script f)
