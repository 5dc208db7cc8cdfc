-- The relup of two releases (relup(4)): one script up, from the old release to the new one, and one down, back.
use Rattle.std.specs.Prelude.{◌≡◌, List, [], ◌∷◌, Option, Some, None}
use Rattle.erl_term.specs.declared.term.Term.{Term}
use Rattle.erl_term.specs.Term.{term_of}
use Rattle.erl_term.specs.Tree.{list, none}
use Rattle.low_instructions.specs.declared.low.Low.{Low}
use Rattle.otp_files.specs.declared.upgrade.Entry.{Entry}
use Rattle.otp_files.specs.declared.upgrade.Upgrades.{Upgrades}
use Rattle.relup_make.specs.declared.error.MakeError.{MakeError}
use Rattle.relup_make.specs.declared.rel_apps.RelApps.{RelApps}
use Rattle.relup_make.specs.Refusals.{refusal}
use Rattle.relup_make.specs.Scripts.{IsScript}
use Rattle.relup_make.specs.Work.{Appup, Way, downward, jobs, upward}

-- `{FromVsn,[],Script}`
abbrev pub entry : RelApps → List Low → Entry Term Low
entry old script = record { vsn = old.rel.vsn; description = term_of (list none); instructions = script }

-- `{ToVsn,[{FromVsn,[],Up}],[{FromVsn,[],Down}]}`
abbrev pub relup : RelApps → RelApps → List Low → List Low → Upgrades Term Low
relup old new up down = record { vsn = new.rel.vsn; up = entry old up ∷ []; down = entry old down ∷ [] }

-- a script of all work of one direction
abbrev pub IsScriptOf : Way → List Low → Type 0
IsScriptOf way script = IsScript way (jobs way) script

-- nothing stands against it, and both scripts are those of the releases
pub record IsTranslation (old new : RelApps) (appups : List (Option Appup)) (made : Upgrades Term Low) : Type 0 where
  pub accepted : refusal old new appups ≡ None
  pub up : List Low
  pub down : List Low
  pub is_up : IsScriptOf (upward old new appups) up
  pub is_down : IsScriptOf (downward old new appups) down
  pub is : made ≡ relup old new up down

-- what stands against it first
abbrev pub IsRefusal : RelApps → RelApps → List (Option Appup) → MakeError → Type 0
IsRefusal old new appups error = refusal old new appups ≡ Some error
