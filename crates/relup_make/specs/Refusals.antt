-- Why no relup is made: all that stands against it, in the order in which it is looked for. The first is told.
use Rattle.std.specs.Prelude.{Bool, true, false, not, ◌&&◌, if◌then◌else◌, List, [], ◌∷◌, ◌++◌, map, filter, flat_map, codes}
use Rattle.std.specs.Prelude.{ℕ, Option, Some, None}
use Rattle.std.specs.Str.{bytes_eq}
use Rattle.high_instructions.specs.declared.high.ApplicationWork.{ApplicationWork}
use Rattle.high_instructions.specs.declared.high.ApplicationWork.TheVariants as works
use Rattle.high_instructions.specs.declared.high.High.TheVariants.{Module, Application}
use Rattle.high_instructions.specs.declared.high.ModuleWork.{ModuleWork}
use Rattle.high_instructions.specs.declared.high.ModuleWork.TheVariants.{Update, Load, Add, Delete}
use Rattle.high_instructions.specs.Forms.{Name, Names}
use Rattle.instructions.specs.declared.instruction.Instruction.{Instruction}
use Rattle.instructions.specs.declared.instruction.Instruction.TheVariants.{High, Low}
use Rattle.relup_make.specs.declared.error.MakeError.{MakeError}
use Rattle.relup_make.specs.declared.error.MakeError.TheVariants.{ErtsChanged, BaseChanged, NoAppup, NoEntry, UnknownModule}
use Rattle.relup_make.specs.declared.rel_apps.RelApps.{RelApps}
use Rattle.relup_make.specs.Releases.{has_app, has_module, listed_version, version_in}
use Rattle.relup_make.specs.Work.{Appup, AppupEntry, Way, appup_of, changed, downward, entry_of, source, target, upward}

-- a refusal, unless something holds
abbrev pub unless : Bool → MakeError → List MakeError
unless holds error = if holds then [] else error ∷ []

-- The runtime system and the base applications are the same in both releases.

abbrev pub erts_refusals : RelApps → RelApps → List MakeError
erts_refusals old new = unless (bytes_eq old.rel.erts new.rel.erts) ErtsChanged

abbrev pub base_apps : Names
base_apps = codes "kernel" ∷ codes "stdlib" ∷ codes "sasl" ∷ []

abbrev pub same_versions : Option (List ℕ) → Option (List ℕ) → Bool
same_versions None None = true
same_versions None (Some w) = false
same_versions (Some v) None = false
same_versions (Some v) (Some w) = bytes_eq v w

-- in both with one version, or in none
abbrev pub is_base_kept : RelApps → RelApps → Name → Bool
is_base_kept old new name = same_versions (listed_version name old) (listed_version name new)

abbrev pub base_refusals : RelApps → RelApps → List MakeError
base_refusals old new = map BaseChanged (filter (λ name. not (is_base_kept old new name)) base_apps)

-- What an instruction speaks of is there.

-- where the module of an instruction has to be: what is deleted is one of the source's, all else of the target's
abbrev pub module_release : Way → ModuleWork → RelApps
module_release way (Update type timeout change pre post) = target way
module_release way (Load pre post) = target way
module_release way Add = target way
module_release way Delete = source way

-- where its application has to be
abbrev pub is_app_there : Way → Name → ApplicationWork → Bool
is_app_there way name (works.Add type) = has_app name (target way)
is_app_there way name works.Remove = has_app name (source way)
is_app_there way name works.Restart = has_app name (source way) && has_app name (target way)

-- of an instruction of an application's entry; its modules are those of this application
abbrev pub instruction_refusals : Way → Name → Instruction → List MakeError
instruction_refusals way app (High (Module m)) =
    unless (has_module m.name app (module_release way m.work)) (UnknownModule m.name)
instruction_refusals way app (High (Application a)) = unless (is_app_there way a.name a.work) (NoAppup a.name)
instruction_refusals way app (Low low) = []

-- Each changed application has an appup of its new version, with an entry for its old one.

abbrev pub entry_refusals : Way → Name → Option AppupEntry → List MakeError
entry_refusals way app None = NoEntry app (version_in app way.old) ∷ []
entry_refusals way app (Some entry) = flat_map (instruction_refusals way app) entry.instructions

abbrev pub appup_refusals : Way → Name → Option Appup → List MakeError
appup_refusals way app None = NoAppup app ∷ []
appup_refusals way app (Some appup) =
    if bytes_eq appup.vsn (version_in app way.new) then entry_refusals way app (entry_of way app) else NoAppup app ∷ []

abbrev pub way_refusals : Way → List MakeError
way_refusals way = flat_map (λ app. appup_refusals way app (appup_of way app)) (changed way)

-- All of them: up before down, in the order of the work, and within an entry in its order
abbrev pub refusals : RelApps → RelApps → List (Option Appup) → List MakeError
refusals old new appups =
    erts_refusals old new ++ base_refusals old new ++ way_refusals (upward old new appups) ++
    way_refusals (downward old new appups)

abbrev pub first_of : {A : Type 0} → List A → Option A
first_of [] = None
first_of (x ∷ xs) = Some x

-- the one that is told, if anything stands against it
abbrev pub refusal : RelApps → RelApps → List (Option Appup) → Option MakeError
refusal old new appups = first_of (refusals old new appups)
