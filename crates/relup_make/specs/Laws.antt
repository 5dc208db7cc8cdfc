-- The laws of the translation.
use Rattle.std.specs.Prelude.{◌≡◌, ◌≢◌, ◌⊎◌, ℕ, List, [], ◌∷◌, ◌++◌, All, IsPermutation, Option, codes, flat_map, map}
use Rattle.erl_term.specs.Conversions.{row}
use Rattle.erl_term.specs.Tree.{Tree, atom}
use Rattle.erl_term.specs.declared.term.Term.{Term}
use Rattle.release_words.specs.Words.{start_type_tree}
use Rattle.release_words.specs.declared.purge.Purge.{Purge}
use Rattle.release_words.specs.declared.purge.Purge.TheVariants.{Brutal}
use Rattle.release_words.specs.declared.start_type.StartType.{StartType}
use Rattle.release_words.specs.declared.start_type.StartType.TheVariants as types
use Rattle.release_words.specs.declared.timeout.Timeout.{Timeout}
use Rattle.low_instructions.specs.declared.low.Low.{Low}
use Rattle.low_instructions.specs.declared.low.Low.TheVariants as lows
use Rattle.low_instructions.specs.declared.modules.Direction.{Direction}
use Rattle.low_instructions.specs.declared.modules.Direction.TheVariants.{Up, Down}
use Rattle.high_instructions.specs.Forms.{Name, Names, on, onto}
use Rattle.high_instructions.specs.declared.high.ApplicationWork.TheVariants as works
use Rattle.high_instructions.specs.declared.high.High.{High}
use Rattle.high_instructions.specs.declared.high.ModuleWork.TheVariants.{Update, Load, Add, Delete}
use Rattle.high_instructions.specs.declared.words.Change.TheVariants.{Soft, Advanced}
use Rattle.high_instructions.specs.declared.words.ModuleType.{ModuleType}
use Rattle.high_instructions.specs.declared.words.ModuleType.TheVariants.{Static, Dynamic}
use Rattle.instructions.specs.declared.instruction.Instruction.TheVariants as levels
use Rattle.otp_files.specs.declared.upgrade.Upgrades.{Upgrades}
use Rattle.relup_make.specs.declared.error.MakeError.{MakeError}
use Rattle.relup_make.specs.declared.rel_apps.RelApps.{RelApps}
use Rattle.relup_make.specs.Alone.{IsObjectCode, IsPart, alone, told_out}
use Rattle.relup_make.specs.Parts.{parts_of}
use Rattle.relup_make.specs.Releases.{modules_in, start_type_in}
use Rattle.relup_make.specs.Relups.{IsRefusal, IsTranslation}
use Rattle.relup_make.specs.Scripts.{IsScript}
use Rattle.relup_make.specs.declared.job.Job.{Job}
use Rattle.relup_make.specs.Work.{Appup, Way, source, target}

-- At most one script fits, and so at most one relup; and what is refused has none, and is refused for one reason.

abbrev pub AtMostOneScript : Type 0
AtMostOneScript =
    (way : Way) (jobs : List Job) (one another : List Low) → IsScript way jobs one → IsScript way jobs another → one ≡ another

pub record AtMostOneAnswer (old new : RelApps) (appups : List (Option Appup)) : Type 0 where
  pub relups : (one another : Upgrades Term Low) → IsTranslation old new appups one → IsTranslation old new appups another →
      one ≡ another
  pub refusals : (one another : MakeError) → IsRefusal old new appups one → IsRefusal old new appups another → one ≡ another
  pub apart : (made : Upgrades Term Low) → (error : MakeError) → IsTranslation old new appups made →
      IsRefusal old new appups error → ⊥

-- A script is object code, one point of no return, and parts. Each instruction of the work gives its suspension, its loads, its
-- change and its resumption once: the parts, with one module to a part, are what each instruction gives by itself, in another
-- order.
pub record StandsOnce (way : Way) (jobs : List Job) (script : List Low) : Type 0 where
  pub read : List Low
  pub parts : List Low
  pub is : script ≡ read ++ lows.PointOfNoReturn ∷ parts
  pub are_read : All IsObjectCode read
  pub are_parts : All IsPart parts
  pub once : IsPermutation (flat_map told_out parts)
      (flat_map (λ job. flat_map (alone way.direction way) job.instructions) jobs)

abbrev pub EachStandsOnce : Type 0
EachStandsOnce = (way : Way) (jobs : List Job) (script : List Low) → IsScript way jobs script → StandsOnce way jobs script

-- What a high-level instruction becomes that is a group by itself (appup(4), High-Level Instructions; relup(4)).

abbrev pub becomes : Direction → Way → High → List Low
becomes direction way high =
    parts_of direction way (record { dependencies_first = levels.High high ∷ []; dependants_first = levels.High high ∷ [] })

-- `{apply,{application,Function,Arguments}}`
abbrev pub apply : List ℕ → List Tree → Low
apply function arguments = lows.Apply (codes "application") function (row arguments)

-- an application is started and stopped, but for one of the type `load` or `none`

abbrev pub IsStarted : StartType → Type 0
IsStarted type = (type ≢ types.Load) × (type ≢ types.None)

abbrev pub StaysUnstarted : StartType → Type 0
StaysUnstarted type = (type ≡ types.Load) ⊎ (type ≡ types.None)

-- an instruction on a module
pub record ModuleTable (way : Way) (name : Name) (dependencies : Names) (pre post : Purge) : Type 0 where
  pub add_module : (direction : Direction) →
      becomes direction way (on name Add dependencies) ≡ lows.Load name Brutal Brutal ∷ []
  pub delete_module : (direction : Direction) →
      becomes direction way (on name Delete dependencies) ≡ lows.Remove name Brutal Brutal ∷ lows.Purge (name ∷ []) ∷ []
  pub load_module : (direction : Direction) →
      becomes direction way (on name (Load pre post) dependencies) ≡ lows.Load name pre post ∷ []
  -- a soft update
  pub update : (direction : Direction) (type : ModuleType) (timeout : Timeout) →
      becomes direction way (on name (Update type timeout Soft pre post) dependencies) ≡
      lows.Suspend (record { name = name; timeout = timeout } ∷ []) ∷ lows.Load name pre post ∷ lows.Resume (name ∷ []) ∷ []
  -- an advanced one: states change behind the load, but those of a dynamic module before it on the way down
  pub update_up : (type : ModuleType) (timeout : Timeout) (extra : Term) →
      becomes Up way (on name (Update type timeout (Advanced extra) pre post) dependencies) ≡
      lows.Suspend (record { name = name; timeout = timeout } ∷ []) ∷ lows.Load name pre post ∷
      lows.CodeChange Up (record { name = name; extra = extra } ∷ []) ∷ lows.Resume (name ∷ []) ∷ []
  pub update_down_static : (timeout : Timeout) (extra : Term) →
      becomes Down way (on name (Update Static timeout (Advanced extra) pre post) dependencies) ≡
      lows.Suspend (record { name = name; timeout = timeout } ∷ []) ∷ lows.Load name pre post ∷
      lows.CodeChange Down (record { name = name; extra = extra } ∷ []) ∷ lows.Resume (name ∷ []) ∷ []
  pub update_down_dynamic : (timeout : Timeout) (extra : Term) →
      becomes Down way (on name (Update Dynamic timeout (Advanced extra) pre post) dependencies) ≡
      lows.Suspend (record { name = name; timeout = timeout } ∷ []) ∷
      lows.CodeChange Down (record { name = name; extra = extra } ∷ []) ∷ lows.Load name pre post ∷
      lows.Resume (name ∷ []) ∷ []

-- an instruction on an application: its modules are removed as the source has them, and loaded as the target has them
pub record ApplicationTable (way : Way) (direction : Direction) (app : Name) : Type 0 where
  pub add_application : (type : StartType) → IsStarted type →
      becomes direction way (onto app (works.Add type)) ≡
      map (λ name. lows.Load name Brutal Brutal) (modules_in app (target way)) ++
      apply (codes "start") (atom app ∷ start_type_tree type ∷ []) ∷ []
  pub add_unstarted : (type : StartType) → StaysUnstarted type →
      becomes direction way (onto app (works.Add type)) ≡
      map (λ name. lows.Load name Brutal Brutal) (modules_in app (target way))
  pub remove_application : (first : Name) (others : Names) → modules_in app (source way) ≡ first ∷ others →
      IsStarted (start_type_in app (source way)) →
      becomes direction way (onto app works.Remove) ≡
      apply (codes "stop") (atom app ∷ []) ∷ map (λ name. lows.Remove name Brutal Brutal) (first ∷ others) ++
      lows.Purge (first ∷ others) ∷ apply (codes "unload") (atom app ∷ []) ∷ []
  pub remove_unstarted : (first : Name) (others : Names) → modules_in app (source way) ≡ first ∷ others →
      StaysUnstarted (start_type_in app (source way)) →
      becomes direction way (onto app works.Remove) ≡
      map (λ name. lows.Remove name Brutal Brutal) (first ∷ others) ++
      lows.Purge (first ∷ others) ∷ apply (codes "unload") (atom app ∷ []) ∷ []
  -- one without modules has nothing to remove and to purge
  pub remove_without_modules : modules_in app (source way) ≡ [] → IsStarted (start_type_in app (source way)) →
      becomes direction way (onto app works.Remove) ≡
      apply (codes "stop") (atom app ∷ []) ∷ apply (codes "unload") (atom app ∷ []) ∷ []
  pub remove_unstarted_without_modules : modules_in app (source way) ≡ [] → StaysUnstarted (start_type_in app (source way)) →
      becomes direction way (onto app works.Remove) ≡ apply (codes "unload") (atom app ∷ []) ∷ []
  pub restart_application : (first : Name) (others : Names) → modules_in app (source way) ≡ first ∷ others →
      IsStarted (start_type_in app (source way)) → IsStarted (start_type_in app (target way)) →
      becomes direction way (onto app works.Restart) ≡
      apply (codes "stop") (atom app ∷ []) ∷ map (λ name. lows.Remove name Brutal Brutal) (first ∷ others) ++
      lows.Purge (first ∷ others) ∷ map (λ name. lows.Load name Brutal Brutal) (modules_in app (target way)) ++
      apply (codes "start") (atom app ∷ start_type_tree (start_type_in app (target way)) ∷ []) ∷ []
  -- in every case a restart is the removal, but for the unloading, and then the addition with the Type that the target has
  pub restart_in_every_case : (removed : List Low) →
      becomes direction way (onto app works.Remove) ≡ removed ++ apply (codes "unload") (atom app ∷ []) ∷ [] →
      becomes direction way (onto app works.Restart) ≡
      removed ++ becomes direction way (onto app (works.Add (start_type_in app (target way))))

-- the table of the translation, row by row
pub record InstructionTable : Type 0 where
  pub modules : (way : Way) (name : Name) (dependencies : Names) (pre post : Purge) →
      ModuleTable way name dependencies pre post
  pub applications : (way : Way) (direction : Direction) (app : Name) → ApplicationTable way direction app
