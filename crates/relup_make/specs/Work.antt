-- What a relup is made of, and the work of one direction: which applications it is done on, in which order, and by which
-- instructions.
use Rattle.std.specs.Prelude.{Bool, not, ◌&&◌, List, [], ◌∷◌, ◌++◌, map, filter, filter_map, find, reverse, zip, ⊤}
use Rattle.std.specs.Prelude.{Option, option_and_then, option_map}
use Rattle.std.specs.Str.{bytes_eq}
use Rattle.low_instructions.specs.declared.modules.Direction.{Direction}
use Rattle.low_instructions.specs.declared.modules.Direction.TheVariants.{Up, Down}
use Rattle.high_instructions.specs.declared.high.ApplicationWork.{ApplicationWork}
use Rattle.high_instructions.specs.declared.high.ApplicationWork.TheVariants.{Add, Remove}
use Rattle.high_instructions.specs.Forms.{Name, Names, onto}
use Rattle.instructions.specs.declared.instruction.Instruction.{Instruction}
use Rattle.instructions.specs.declared.instruction.Instruction.TheVariants.{High}
use Rattle.otp_files.specs.declared.app.AppSpec.{AppSpec}
use Rattle.otp_files.specs.declared.upgrade.Entry.{Entry}
use Rattle.otp_files.specs.declared.upgrade.Upgrades.{Upgrades}
use Rattle.otp_files.specs.Distinct.{app_names}
use Rattle.otp_files.specs.Entries.{entry_for}
use Rattle.relup_make.specs.declared.job.Job.{Job}
use Rattle.relup_make.specs.declared.rel_apps.RelApps.{RelApps}
use Rattle.relup_make.specs.Releases.{has_app, start_type_in, version_in}

abbrev pub Appup : Type 0
Appup = Upgrades ⊤ Instruction

abbrev pub AppupEntry : Type 0
AppupEntry = Entry ⊤ Instruction

-- One direction between an old release and a new one: up goes from the old to the new, down back. The appups are those of
-- the new release's applications, in their order.
pub record Way : Type 0 where
  pub direction : Direction
  pub old : RelApps
  pub new : RelApps
  pub appups : List (Option Appup)

abbrev pub upward : RelApps → RelApps → List (Option Appup) → Way
upward old new appups = record { direction = Up; old = old; new = new; appups = appups }

abbrev pub downward : RelApps → RelApps → List (Option Appup) → Way
downward old new appups = record { direction = Down; old = old; new = new; appups = appups }

abbrev pub starting : Direction → RelApps → RelApps → RelApps
starting Up old new = old
starting Down old new = new

abbrev pub reached : Direction → RelApps → RelApps → RelApps
reached Up old new = new
reached Down old new = old

-- where it begins, and where it leads
abbrev pub source : Way → RelApps
source way = starting way.direction way.old way.new

abbrev pub target : Way → RelApps
target way = reached way.direction way.old way.new

abbrev pub names_of : List AppSpec → Names
names_of apps = map (λ app. app.name) apps

-- Which applications it is done on

-- All are taken in the order of a release's own file, of its applications those that it names; the other release is asked by its
-- specifications.

-- those in both releases with different versions, in the target's order
abbrev pub is_changed : Way → Name → Bool
is_changed way name =
    has_app name way.old && (has_app name way.new && not (bytes_eq (version_in name way.old) (version_in name way.new)))

abbrev pub changed : Way → Names
changed way = filter (is_changed way) (app_names (target way).rel.apps)

-- in one release and not in the other
abbrev pub is_only_in : RelApps → RelApps → Name → Bool
is_only_in release other name = has_app name release && not (has_app name other)

-- those only in the target, in its order
abbrev pub added : Way → Names
added way = filter (is_only_in (target way) (source way)) (app_names (target way).rel.apps)

-- those only in the source, in the reverse of its order
abbrev pub removed : Way → Names
removed way = reverse (filter (is_only_in (source way) (target way)) (app_names (source way).rel.apps))

-- By which instructions

-- the appup of an application of the new release; it has none where there are fewer appups
abbrev pub appup_of : Way → Name → Option Appup
appup_of way name = option_and_then (λ p. p.1) (find (λ p. bytes_eq p.0.name name) (zip way.new.apps way.appups))

-- an appup's entries of this direction
abbrev pub entries_of : Direction → Appup → List AppupEntry
entries_of Up appup = appup.up
entries_of Down appup = appup.down

-- the entry for a changed application: in the new release's appup, up and down, the one for the version in the old release
abbrev pub entry_of : Way → Name → Option AppupEntry
entry_of way name =
    option_and_then (λ appup. entry_for (version_in name way.old) (entries_of way.direction appup)) (appup_of way name)

-- Instructions that are done for an application, in the order in which they stand, are its job: here that of an instruction alone
abbrev pub lone : Name → ApplicationWork → Job
lone name work = record { app = name; instructions = High (onto name work) ∷ [] }

-- of a changed application its entry; there is one for each where nothing is refused
abbrev pub changed_job : Way → Name → Option Job
changed_job way name =
    option_map (λ entry. record { app = name; instructions = entry.instructions }) (entry_of way name)

-- The work: first the changed applications, then those that are added, then those that are removed.
abbrev pub jobs : Way → List Job
jobs way =
    filter_map (changed_job way) (changed way) ++ map (λ name. lone name (Add (start_type_in name (target way)))) (added way) ++
    map (λ name. lone name Remove) (removed way)
