-- The supervisors of a module specify their children anew (appup(4), {update,Mod,supervisor}; supervisor(3), init/1).
-- Nothing starts or stops.
use Rattle.std.specs.Prelude.{◌≡◌, ◌⊎◌, ℕ, List, [], ◌∷◌, ◌++◌, if◌then◌else◌, Option, None, Some, option_and_then}
use Rattle.std.specs.Str.{bytes_eq}
use Rattle.app_table.specs.Applications.{Application}
use Rattle.app_table.specs.Renewing.{with_renewed}
use Rattle.child_specs.specs.declared.child.ChildSpec.{ChildSpec}
use Rattle.erl_semantics.specs.declared.acts.Act.{Act}
use Rattle.erl_semantics.specs.declared.instance.Instance.{Instance}
use Rattle.erl_term.specs.declared.term.Term.{Term}
use Rattle.otp_files.specs.declared.app.StartModule.{StartModule}
use Rattle.process_effects.specs.Begins.{acts_begun, begun_told}
use Rattle.process_effects.specs.declared.told.Reply.{Reply}
use Rattle.process_store.specs.Table.{Table}
use Rattle.sys_protocol.specs.AppStarts.{GivesNoSupervision, GivesSupervision}
use Rattle.upgrade_calls.specs.Evaluated.{AreEvaluated, Evaluated, processes_after, told_after}
use Rattle.values.specs.Edits.{changed_at}

-- The supervisor of an application, `{mod,{Mod,Args}}`, where the application is started and the supervisor's module is this one.

abbrev pub if_named : List ℕ → StartModule → Option StartModule
if_named name s = if bytes_eq s.name name then Some s else None

abbrev pub supervisor_in : List ℕ → Application → Option StartModule
supervisor_in name a = if a.is_started then option_and_then (if_named name) a.spec.start else None

-- An application whose supervisor it is has the children that `init(Args)` gives; what it asks for is done. Any other is as
-- it was.

pub record Renews (code : List Instance) (s : StartModule) (a b : Application) (t after : Table) (told : List Reply)
    : Type 0 where
  pub specs : List ChildSpec
  pub acts : List Act
  pub gives : GivesSupervision code s specs acts
  pub renewed : b ≡ with_renewed specs a
  pub done : after ≡ acts_begun None code acts t
  pub tells : told ≡ begun_told None code acts t

abbrev pub RenewsIf : List Instance → Option StartModule → Application → Application → Table → Table → List Reply → Type 0
RenewsIf code None a b t after told = (b ≡ a) × (after ≡ t) × (told ≡ [])
RenewsIf code (Some s) a b t after told = Renews code s a b t after told

-- So do all of a module, in order.
abbrev pub AllRenew : List Instance → List ℕ → List Application → Table → List Application → Table → List Reply → Type 0
AllRenew code name [] t apps after told = (apps ≡ []) × (after ≡ t) × (told ≡ [])
AllRenew code name (a ∷ others) t [] after told = ⊥
AllRenew code name (a ∷ others) t (b ∷ apps) after told = (between : Table) × (said rest : List Reply) ×
    RenewsIf code (supervisor_in name a) a b t between said × AllRenew code name others between apps after rest ×
    (told ≡ said ++ rest)

-- The first that gives no supervision, and why.

abbrev pub GivesNone : List Instance → Option StartModule → Term → Type 0
GivesNone code None reason = ⊥
GivesNone code (Some s) reason = GivesNoSupervision code s reason

abbrev pub Gives : List Instance → Option StartModule → Type 0
Gives code None = Unit {0}
Gives code (Some s) = (specs : List ChildSpec) × (acts : List Act) × GivesSupervision code s specs acts

abbrev pub FirstBadInit : List Instance → List ℕ → List Application → Term → Type 0
FirstBadInit code name [] reason = ⊥
FirstBadInit code name (a ∷ apps) reason = GivesNone code (supervisor_in name a) reason ⊎
    (Gives code (supervisor_in name a) × FirstBadInit code name apps reason)

-- What comes of one application, behind what was evaluated before.

pub record RenewsOne (code : List Instance) (name : List ℕ) (index : ℕ) (before after : List Application) (t : Table)
    (e f : Evaluated)
    (a : Application) : Type 0 where
  pub now : Application
  pub said : List Reply
  pub apps : after ≡ changed_at (λ it. now) before index
  pub renews : RenewsIf code (supervisor_in name a) a now (processes_after code e t) (processes_after code f t) said
  pub tells : told_after code f t ≡ told_after code e t ++ said
  pub evaluated : AreEvaluated t f
  pub changes : f.changes ≡ e.changes

-- And of all.
pub record RenewsAll (code : List Instance) (name : List ℕ) (before after : List Application) (t : Table) (e f : Evaluated)
    : Type 0 where
  pub said : List Reply
  pub renew : AllRenew code name before (processes_after code e t) after (processes_after code f t) said
  pub tells : told_after code f t ≡ told_after code e t ++ said
  pub evaluated : AreEvaluated t f
  pub changes : f.changes ≡ e.changes
