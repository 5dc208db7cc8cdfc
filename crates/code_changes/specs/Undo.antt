-- What takes a `code_change` back: the processes have their former states again, and then the supervisors their former children.
use Rattle.std.specs.Prelude.{◌≡◌, ℕ, All, List, [], ◌∷◌, Option, Some, slice_get}
use Rattle.std.specs.List.{flat_map}
use Rattle.app_table.specs.Applications.{Application}
use Rattle.app_table.specs.Pieces.{AreSpecsLost, IsRenewal, children_at, formers_at}
use Rattle.app_table.specs.Renewing.{with_renewed}
use Rattle.app_table.specs.Undo.{undone}
use Rattle.app_table.specs.declared.undo.AppsUndo as apps_undo
use Rattle.child_specs.specs.declared.child.ChildSpec.{ChildSpec}
use Rattle.code_changes.specs.declared.changing.CodeChangeUndo.{CodeChangeUndo}
use Rattle.erl_semantics.specs.declared.acts.Act.{Act}
use Rattle.erl_semantics.specs.declared.instance.Instance.{Instance}
use Rattle.otp_files.specs.declared.app.StartModule.{StartModule}
use Rattle.process_store.specs.Table.{Table}
use Rattle.sys_protocol.specs.AppStarts.{GivesSupervision}
use Rattle.upgrade_calls.specs.Changing.{ChangesBack}

-- Several steps of applications are taken back, the last first.
abbrev pub all_undone : List apps_undo.AppsUndo → List Application → List Application
all_undone [] apps = apps
all_undone (u ∷ us) apps = undone u (all_undone us apps)

-- the former specifications of children that they hold of the application at an index, counted from 0
abbrev pub all_formers_at : ℕ → List apps_undo.AppsUndo → List ChildSpec
all_formers_at index us = flat_map (formers_at index) us

-- Supervisors have specified their children anew. What is held of the children of an application is lost over all these steps.
pub record AreRenewals (us : List apps_undo.AppsUndo) (before after : List Application) : Type 0 where
  pub back : all_undone us after ≡ before
  pub only : All (λ u. (index : ℕ) × IsRenewal index u) us
  pub pieces : (index : ℕ) → AreSpecsLost (all_formers_at index us) (children_at index before) (children_at index after)

-- So far an application is as before, and nothing is held of its children; or it has the children that its supervisor's `init`
-- gives in this code, however often it has given them, and what is held is lost.

pub record IsRenewed (code : List Instance) (held : List ChildSpec) (a b : Application) : Type 0 where
  pub supervisor : StartModule
  pub specs : List ChildSpec
  pub acts : List Act
  pub its : a.spec.start ≡ Some supervisor
  pub gives : GivesSupervision code supervisor specs acts
  pub renewed : b ≡ with_renewed specs a
  pub lost : AreSpecsLost held a.children b.children

pub data IsRenewedOrNot (code : List Instance) (held : List ChildSpec) (before after : Option Application) : Type 0 where
  as_before : held ≡ [] → after ≡ before → IsRenewedOrNot code held before after
  anew : (a b : Application) → before ≡ Some a → after ≡ Some b → IsRenewed code held a b → IsRenewedOrNot code held before after

pub record AreRenewalsIn (code : List Instance) (us : List apps_undo.AppsUndo) (before after : List Application) : Type 0 where
  pub back : all_undone us after ≡ before
  pub only : All (λ u. (index : ℕ) × IsRenewal index u) us
  pub indices : (index : ℕ) → IsRenewedOrNot code (all_formers_at index us) (slice_get before index) (slice_get after index)

pub record TakesBack (u : CodeChangeUndo) (before : List Application) (t : Table) (now : List Application) (after : Table)
    : Type 0 where
  pub processes : ChangesBack u.processes t after
  pub renewals : AreRenewals u.renewals before now
