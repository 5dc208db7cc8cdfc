-- What stands in a script: before its point object code alone, and behind it parts alone.
use Rattle.std.proofs.Common.{List, [], ◌∷◌, ◌++◌, map, All, Bool, true, false}
use Rattle.std.specs.Prelude.{codes, if◌then◌else◌, reverse}
use Rattle.std.specs.List.{flat_map}
use Rattle.std.proofs.lemmas.List.Elements.{All-append, All-cons, All-map, All-nil}
use Rattle.erl_term.specs.Tree.{atom, none, more}
use Rattle.release_words.specs.declared.purge.Purge.TheVariants.{Brutal}
use Rattle.release_words.specs.declared.start_type.StartType.{StartType}
use Rattle.release_words.specs.Words.{start_type_tree}
use Rattle.low_instructions.specs.declared.low.Low.{Low}
use Rattle.low_instructions.specs.declared.low.Low.TheVariants as lows
use Rattle.low_instructions.specs.declared.modules.Direction.{Direction}
use Rattle.low_instructions.specs.declared.modules.Direction.TheVariants.{Up, Down}
use Rattle.low_instructions.specs.declared.modules.ModuleChange.{ModuleChange}
use Rattle.low_instructions.specs.declared.modules.Suspension.{Suspension}
use Rattle.high_instructions.specs.declared.high.ApplicationWork.{ApplicationWork}
use Rattle.high_instructions.specs.declared.high.ApplicationWork.TheVariants as works
use Rattle.high_instructions.specs.declared.high.High.TheVariants.{Module, Application}
use Rattle.high_instructions.specs.declared.high.ModuleWork.{ModuleWork}
use Rattle.high_instructions.specs.declared.high.ModuleWork.TheVariants.{Update, Load, Add, Delete}
use Rattle.high_instructions.specs.declared.words.ModuleType.TheVariants.{Static, Dynamic}
use Rattle.high_instructions.specs.Forms.{Name, Names}
use Rattle.instructions.specs.declared.instruction.Instruction.{Instruction}
use Rattle.instructions.specs.declared.instruction.Instruction.TheVariants as levels
use Rattle.relup_make.specs.declared.job.Job.{Job}
use Rattle.relup_make.specs.Alone.{IsObjectCode, IsPart}
use Rattle.relup_make.specs.Parts.{Ordered, application_work, call, changes, changes_of_kind, code_change, is_started, loads, low_work, module_work, parts_of, purge, removals, resume, resume_all, start, stop, suspend, suspensions, work_of}
use Rattle.relup_make.specs.Releases.{modules_in, start_type_in, version_in}
use Rattle.relup_make.specs.Scripts.{Arranged, each_once, modules_of, object_code, own_object_code}
use Rattle.relup_make.specs.Work.{Way, source, target}

-- Before the point

all-given : {A : Type 0} (P : A → Type 0) → ((x : A) → P x) → (xs : List A) → All P xs
all-given P each [] = All-nil P
all-given P each (x ∷ xs) = All-cons P x xs (each x) (all-given P each xs)

all-flat : {A B : Type 0} (P : B → Type 0) (f : A → List B) → ((x : A) → All P (f x)) → (xs : List A) → All P (flat_map f xs)
all-flat P f each [] = All-nil P
all-flat P f each (x ∷ xs) = All-append P (f x) (flat_map f xs) (each x) (all-flat P f each xs)

own-read : (i : Instruction) → All IsObjectCode (own_object_code i)
own-read (levels.High high) = All-nil IsObjectCode
own-read (levels.Low (lows.LoadObjectCode app vsn ms)) = All-cons IsObjectCode (lows.LoadObjectCode app vsn ms) [] tt (All-nil IsObjectCode)
own-read (levels.Low low) = All-nil IsObjectCode

object-code-read : (way : Way) (pairs : List (Name × Name)) → All IsObjectCode (object_code way pairs)
object-code-read way pairs =
    let apps = each_once (map (λ (p : Name × Name). p.0) pairs) in
    let one : Name → Low = λ app. lows.LoadObjectCode app (version_in app (target way)) (modules_of app pairs) in
    All-map IsObjectCode one apps (all-given (λ app. IsObjectCode (one app)) (λ app. tt) apps)

pub object-code-alone : (way : Way) (pairs : List (Name × Name)) (jobs : List Job) → All IsObjectCode (object_code way pairs ++ flat_map (λ job. flat_map own_object_code job.instructions) jobs)
object-code-alone way pairs jobs =
    All-append IsObjectCode (object_code way pairs) (flat_map (λ job. flat_map own_object_code job.instructions) jobs) (object-code-read way pairs)
    (all-flat IsObjectCode (λ (job : Job). flat_map own_object_code job.instructions) (λ job. all-flat IsObjectCode own_object_code own-read job.instructions) jobs)

-- Behind the point

suspend-part : (ss : List Suspension) → All IsPart (suspend ss)
suspend-part [] = All-nil IsPart
suspend-part (s ∷ ss) = All-cons IsPart (lows.Suspend (s ∷ ss)) [] tt (All-nil IsPart)

change-part : (direction : Direction) (cs : List ModuleChange) → All IsPart (code_change direction cs)
change-part direction [] = All-nil IsPart
change-part direction (c ∷ cs) = All-cons IsPart (lows.CodeChange direction (c ∷ cs)) [] tt (All-nil IsPart)

resume-part : (ms : Names) → All IsPart (resume ms)
resume-part [] = All-nil IsPart
resume-part (m ∷ ms) = All-cons IsPart (lows.Resume (m ∷ ms)) [] tt (All-nil IsPart)

purge-part : (ms : Names) → All IsPart (purge ms)
purge-part [] = All-nil IsPart
purge-part (m ∷ ms) = All-cons IsPart (lows.Purge (m ∷ ms)) [] tt (All-nil IsPart)

module-part : (m : Name) (work : ModuleWork) → All IsPart (module_work m work)
module-part m (Update type timeout change pre post) = All-cons IsPart (lows.Load m pre post) [] tt (All-nil IsPart)
module-part m (Load pre post) = All-cons IsPart (lows.Load m pre post) [] tt (All-nil IsPart)
module-part m Add = All-cons IsPart (lows.Load m Brutal Brutal) [] tt (All-nil IsPart)
module-part m Delete =
    All-cons IsPart (lows.Remove m Brutal Brutal) (purge (m ∷ [])) tt (purge-part (m ∷ []))

one-if : (b : Bool) (low : Low) → IsPart low → All IsPart (if b then low ∷ [] else [])
one-if true low is = All-cons IsPart low [] is (All-nil IsPart)
one-if false low is = All-nil IsPart

start-part : (app : Name) (type : StartType) → All IsPart (start app type)
start-part app type =
    one-if (is_started type) (call (codes "start") (more (atom app) (more (start_type_tree type) none))) tt

stop-part : (app : Name) (type : StartType) → All IsPart (stop app type)
stop-part app type = one-if (is_started type) (call (codes "stop") (more (atom app) none)) tt

loads-part : (ms : Names) → All IsPart (loads ms)
loads-part ms =
    let one : Name → Low = λ m. lows.Load m Brutal Brutal in
    All-map IsPart one ms (all-given (λ m. IsPart (one m)) (λ m. tt) ms)

removals-part : (ms : Names) → All IsPart (removals ms)
removals-part ms =
    let one : Name → Low = λ m. lows.Remove m Brutal Brutal in
    All-append IsPart (map one ms) (purge ms) (All-map IsPart one ms (all-given (λ m. IsPart (one m)) (λ m. tt) ms)) (purge-part ms)

application-part : (way : Way) (app : Name) (work : ApplicationWork) → All IsPart (application_work way app work)
application-part way app (works.Add type) =
    All-append IsPart (loads (modules_in app (target way))) (start app type) (loads-part (modules_in app (target way))) (start-part app type)
application-part way app works.Remove =
    let stopped = stop app (start_type_in app (source way)) in
    let removed = removals (modules_in app (source way)) in
    let unload = call (codes "unload") (more (atom app) none) in
    All-append IsPart (stopped ++ removed) (unload ∷ [])
    (All-append IsPart stopped removed (stop-part app (start_type_in app (source way))) (removals-part (modules_in app (source way))))
    (All-cons IsPart unload [] tt (All-nil IsPart))
application-part way app works.Restart =
    let stopped = stop app (start_type_in app (source way)) in
    let removed = removals (modules_in app (source way)) in
    let loaded = loads (modules_in app (target way)) in
    let started = start app (start_type_in app (target way)) in
    All-append IsPart (stopped ++ removed ++ loaded) started
    (All-append IsPart (stopped ++ removed) loaded
    (All-append IsPart stopped removed (stop-part app (start_type_in app (source way))) (removals-part (modules_in app (source way))))
    (loads-part (modules_in app (target way))))
    (start-part app (start_type_in app (target way)))

low-part : (low : Low) → All IsPart (low_work low)
low-part (lows.LoadObjectCode app vsn ms) = All-nil IsPart
low-part lows.PointOfNoReturn = All-nil IsPart
low-part (lows.Load m pre post) = All-cons IsPart (lows.Load m pre post) [] tt (All-nil IsPart)
low-part (lows.Remove m pre post) = All-cons IsPart (lows.Remove m pre post) [] tt (All-nil IsPart)
low-part (lows.Purge ms) = All-cons IsPart (lows.Purge ms) [] tt (All-nil IsPart)
low-part (lows.Suspend ms) = All-cons IsPart (lows.Suspend ms) [] tt (All-nil IsPart)
low-part (lows.Resume ms) = All-cons IsPart (lows.Resume ms) [] tt (All-nil IsPart)
low-part (lows.CodeChange direction cs) = All-cons IsPart (lows.CodeChange direction cs) [] tt (All-nil IsPart)
low-part (lows.Stop ms) = All-cons IsPart (lows.Stop ms) [] tt (All-nil IsPart)
low-part (lows.Start ms) = All-cons IsPart (lows.Start ms) [] tt (All-nil IsPart)
low-part (lows.Apply m function arguments) =
    All-cons IsPart (lows.Apply m function arguments) [] tt (All-nil IsPart)

work-part : (way : Way) (i : Instruction) → All IsPart (work_of way i)
work-part way (levels.High (Module m)) = module-part m.name m.work
work-part way (levels.High (Application a)) = application-part way a.name a.work
work-part way (levels.Low low) = low-part low

group-parts : (direction : Direction) (way : Way) (group : Ordered Instruction) → All IsPart (parts_of direction way group)
group-parts Up way group =
    let a = suspend (suspensions group.dependants_first) in
    let b = flat_map (work_of way) group.dependencies_first in
    let c = code_change Up (changes group.dependencies_first) in
    let d = resume_all (suspensions group.dependants_first) in
    All-append IsPart (a ++ b ++ c) d
    (All-append IsPart (a ++ b) c
    (All-append IsPart a b (suspend-part (suspensions group.dependants_first)) (all-flat IsPart (work_of way) (work-part way) group.dependencies_first))
    (change-part Up (changes group.dependencies_first)))
    (resume-part (map (λ s. s.name) (reverse (suspensions group.dependants_first))))
group-parts Down way group =
    let a = suspend (suspensions group.dependencies_first) in
    let b = code_change Down (changes_of_kind Dynamic group.dependants_first) in
    let c = flat_map (work_of way) group.dependants_first in
    let d = code_change Down (changes_of_kind Static group.dependants_first) in
    let e = resume_all (suspensions group.dependencies_first) in
    All-append IsPart (a ++ b ++ c ++ d) e
    (All-append IsPart (a ++ b ++ c) d
    (All-append IsPart (a ++ b) c
    (All-append IsPart a b (suspend-part (suspensions group.dependencies_first)) (change-part Down (changes_of_kind Dynamic group.dependants_first)))
    (all-flat IsPart (work_of way) (work-part way) group.dependants_first))
    (change-part Down (changes_of_kind Static group.dependants_first)))
    (resume-part (map (λ s. s.name) (reverse (suspensions group.dependencies_first))))

pub parts-alone : (way : Way) (arranged : List Arranged) → All IsPart (flat_map (λ job. flat_map (parts_of way.direction way) job.groups) arranged)
parts-alone way arranged =
    all-flat IsPart (λ (job : Arranged). flat_map (parts_of way.direction way) job.groups)
    (λ job. all-flat IsPart (parts_of way.direction way) (group-parts way.direction way) job.groups) arranged
