-- What the program's values are in the words of the definitions.
use Rattle.std.specs.Prelude.{◌≡◌, true, List, ℕ}
use Rattle.relup_make.specs.declared.way.Way.{Way as Lent}
use Rattle.high_instructions.specs.Forms.{Name, Names}
use Rattle.high_instructions.specs.declared.high.ModuleWork.{ModuleWork}
use Rattle.high_instructions.specs.declared.high.ModuleWork.TheVariants.{Update, Load, Add, Delete}
use Rattle.relup_make.specs.Releases.{has_app, version_in}
use Rattle.relup_make.specs.Work.{Way, is_changed}

-- one direction, of releases and appups that are lent
abbrev pub way_of : Lent → Way
way_of lent = record {
  direction = lent.direction;
  old = lent.old.now.whole.now;
  new = lent.new.now.whole.now;
  appups = lent.appups.now;
}

-- an application has changed from one version to another
pub record IsChangedFrom (way : Way) (name : Name) (before after : List ℕ) : Type 0 where
  pub is : is_changed way name ≡ true
  pub stood : has_app name way.old ≡ true
  pub from : before ≡ version_in name way.old
  pub to : after ≡ version_in name way.new

-- the modules of the release where the module of an instruction has to be
abbrev pub modules_for : ModuleWork → Names → Names → Names
modules_for (Update type timeout change pre post) before after = after
modules_for (Load pre post) before after = after
modules_for Add before after = after
modules_for Delete before after = before
