-- Which script leads from one release to another (relup(4); systools(3), make_relup/4).
use Rattle.std.specs.Prelude.{◌≡◌, ◌⊎◌, true, false, List, [], Option, None, Some}
use Rattle.std.specs.Option.{option_map}
use Rattle.erl_term.specs.declared.term.Term.{Term}
use Rattle.low_instructions.specs.declared.low.Low.{Low}
use Rattle.otp_files.specs.Entries.{entry_for}
use Rattle.otp_files.specs.declared.upgrade.Entry.{Entry}
use Rattle.otp_files.specs.declared.upgrade.Upgrades.{Upgrades}
use Rattle.release_relups.specs.Parts.{appups_of, rel_apps}
use Rattle.release_table.specs.declared.table.Release.{Release}
use Rattle.relup_make.specs.Relups.{IsRefusal, IsTranslation}
use Rattle.relup_make.specs.declared.error.MakeError.{MakeError}
use Rattle.relup_make.specs.declared.error.MakeError.TheVariants.{Memory}
use Rattle.script_state.specs.Finding.{script_for}
use Rattle.upgrade_files.specs.declared.choosing.Chosen.{Chosen}

-- The release that is installed has the entry for the one that is left, and stays as it is; or it has none, and has instead
-- of its relup the one that is made of the appups.

pub record IsAsRead (from to : Release) (chosen : Chosen) : Type 0 where
  pub left : chosen.from ≡ from
  pub installed : chosen.to ≡ to
  pub unmade : chosen.is_made ≡ false

pub record IsMade (from to : Release) (chosen : Chosen) : Type 0 where
  pub left : chosen.from ≡ from
  pub relup : Upgrades Term Low
  pub translates : IsTranslation (rel_apps from) (rel_apps to) (appups_of to) relup
  pub installed : chosen.to ≡ record to { relup = relup }
  pub made : chosen.is_made ≡ true

abbrev pub IsChosenBy : Option (Entry Term Low) → Release → Release → Chosen → Type 0
IsChosenBy (Some entry) from to chosen = IsAsRead from to chosen
IsChosenBy None from to chosen = IsMade from to chosen

abbrev pub IsChosen : Release → Release → Chosen → Type 0
IsChosen from to chosen = IsChosenBy (entry_for from.rel.vsn to.relup.up) from to chosen

-- Why none can be made; where memory is refused nothing is said.
abbrev pub IsUnmade : Release → Release → MakeError → Type 0
IsUnmade from to e = (e ≡ Memory) ⊎ IsRefusal (rel_apps from) (rel_apps to) (appups_of to) e

-- The instructions by which a node goes up from the one to the other, and those by which it comes down again, if there are any
-- (release_handler(3), install_release/1).

abbrev pub instructions_of : Option (Entry Term Low) → List Low
instructions_of None = []
instructions_of (Some entry) = entry.instructions

abbrev pub up_of : Release → Release → List Low
up_of from to = instructions_of (script_for from to)

abbrev pub down_of : Release → Release → Option (List Low)
down_of from to = option_map (λ entry. entry.instructions) (script_for to from)
