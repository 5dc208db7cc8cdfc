-- An application starts: its supervision is asked for, and its children start (application(3); supervisor(3)).
use Rattle.std.specs.Prelude.{◌≡◌, ℕ, List, ◌++◌, codes, map, Option, None, Some}
use Rattle.erl_semantics.specs.Jobs.{Evaluates}
use Rattle.erl_semantics.specs.State.{plain}
use Rattle.erl_term.specs.Tree.{atom, none, more}
use Rattle.erl_term.specs.Term.{tree}
use Rattle.erl_term.specs.declared.term.Term.{Term}
use Rattle.erl_term.specs.declared.term.Term.TheVariants as term
use Rattle.erl_semantics.specs.Views.{outcome_of, instance}
use Rattle.erl_semantics.specs.declared.acts.Act.{Act}
use Rattle.erl_semantics.specs.declared.outcome.Outcome.{Outcome}
use Rattle.erl_semantics.specs.declared.outcome.End.{End}
use Rattle.erl_semantics.specs.declared.outcome.End.TheVariants.{Rest, Value, Exit}
use Rattle.erl_semantics.specs.declared.instance.Instance.{Instance}
use Rattle.child_specs.specs.Reading.{children_of}
use Rattle.child_specs.specs.declared.child.ChildSpec.{ChildSpec}
use Rattle.sys_protocol.specs.ChildStarts.{AllStart}
use Rattle.sys_protocol.specs.ChildFaults.{StartFails}
use Rattle.otp_files.specs.declared.app.StartModule.{StartModule}
use Rattle.process_effects.specs.Begins.{acts_begun, begun_told}
use Rattle.process_effects.specs.declared.told.Reply.{Reply}
use Rattle.process_store.specs.Table.{Table}
use Rattle.sys_protocol.specs.RunningChildren.{all_running}
use Rattle.app_table.specs.declared.child.Child.{Child}
use Rattle.sys_protocol.specs.declared.app_error.AppError.{AppError}
use Rattle.sys_protocol.specs.declared.app_error.AppError.TheVariants.{NotLoaded, AlreadyStarted, BadInit, StartFailed, NotStarted, Running}

-- What `init` of the callback module gives, in this code. It is evaluated outside of all processes.
abbrev pub InitGives : List Instance → StartModule → Outcome → Type 0
InitGives code m o =
    Evaluates (record { code = map instance code; pid = 0; mode = plain }) m.name (codes "init") (more (tree m.arguments) none)
    (outcome_of o)

-- the children of the supervision that it gives; none where it gives no supervision
abbrev pub children_in : End → Option (List ChildSpec)
children_in (Rest place) = None
children_in (Value v) = children_of (tree v)
children_in (Exit reason) = None

-- `{bad_init,V}`; an exit counts as the value `{'EXIT',R}`

abbrev pub bad_init : Term → Term
bad_init v = term.Tuple (more (atom (codes "bad_init")) (more (tree v) none))

abbrev pub exit_value : Term → Term
exit_value reason = term.Tuple (more (atom (codes "EXIT")) (more (tree reason) none))

abbrev pub init_fault : End → Term
init_fault (Rest place) = bad_init (exit_value (term.Atom (codes "not_in_profile")))
init_fault (Value v) = bad_init v
init_fault (Exit reason) = bad_init (exit_value reason)

-- It gives a supervision of these children, and asks for these acts.
pub record GivesSupervision (code : List Instance) (m : StartModule) (specs : List ChildSpec) (acts : List Act) : Type 0 where
  pub outcome : Outcome
  pub gives : InitGives code m outcome
  pub supervision : children_in outcome.end ≡ Some specs
  pub asks : acts ≡ outcome.acts

-- Or it gives none, for this reason.
pub record GivesNoSupervision (code : List Instance) (m : StartModule) (reason : Term) : Type 0 where
  pub outcome : Outcome
  pub gives : InitGives code m outcome
  pub none : children_in outcome.end ≡ None
  pub because : reason ≡ init_fault outcome.end

-- the processes once that is done, before the children start
abbrev pub initialized : List Instance → Outcome → Table → Table
initialized code o t = acts_begun None code o.acts t

-- Its children start, in order, and run.
abbrev pub AllRun : List Instance → List ChildSpec → Table → List Child → Table → List Reply → Type 0
AllRun code specs t children after told = (pids : List ℕ) × AllStart code specs t pids after told ×
    (children ≡ all_running specs pids)

-- The application starts: its children, which run, the processes after it, and what clients are told.
pub record AppStarts (code : List Instance) (m : StartModule) (t : Table) (children : List Child) (after : Table)
    (told : List Reply) : Type 0 where
  pub outcome : Outcome
  pub specs : List ChildSpec
  pub others : List Reply
  pub gives : InitGives code m outcome
  pub supervision : children_in outcome.end ≡ Some specs
  pub all_run : AllRun code specs (initialized code outcome t) children after others
  pub tells : told ≡ begun_told None code outcome.acts t ++ others

-- Or it fails to: it has no supervision, or a child fails to start.

abbrev pub FailsFor : List Instance → Outcome → Table → AppError → Type 0
FailsFor code o t NotLoaded = ⊥
FailsFor code o t AlreadyStarted = ⊥
FailsFor code o t NotStarted = ⊥
FailsFor code o t Running = ⊥
FailsFor code o t (BadInit reason) = (children_in o.end ≡ None) × (reason ≡ init_fault o.end)
FailsFor code o t (StartFailed failed) =
    (cs : List ChildSpec) × (children_in o.end ≡ Some cs) × StartFails failed code cs (initialized code o t)

abbrev pub AppFails : List Instance → StartModule → Table → AppError → Type 0
AppFails code m t e = (o : Outcome) × InitGives code m o × FailsFor code o t e
