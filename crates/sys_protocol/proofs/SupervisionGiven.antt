-- What comes of a start by what `init` gives.
use Rattle.std.proofs.Common.{◌++◌, List, None, ap, subst}
use Rattle.child_specs.specs.declared.child.ChildSpec.{ChildSpec}
use Rattle.app_table.specs.declared.child.Child.{Child}
use Rattle.erl_semantics.specs.declared.acts.Act.{Act}
use Rattle.erl_semantics.specs.declared.instance.Instance.{Instance}
use Rattle.erl_term.specs.declared.term.Term.{Term}
use Rattle.otp_files.specs.declared.app.StartModule.{StartModule}
use Rattle.process_effects.specs.Begins.{acts_begun, begun_told}
use Rattle.process_effects.specs.declared.told.Reply.{Reply}
use Rattle.process_store.specs.Table.{Table}
use Rattle.sys_protocol.specs.AppStarts.{AllRun, AppFails, AppStarts, GivesNoSupervision, GivesSupervision}
use Rattle.sys_protocol.specs.ChildFaults.{StartFails}
use Rattle.sys_protocol.specs.declared.app_error.AppError.TheVariants.{BadInit, StartFailed}
use Rattle.sys_protocol.specs.declared.start_failed.StartFailed as failed_start

module _ (code : List Instance) (m : StartModule) (specs : List ChildSpec) (acts : List Act) (given : GivesSupervision code m specs acts) (t : Table) where
  pub starts_given : (children : List Child) (after : Table) (others : List Reply) →
      AllRun code specs (acts_begun None code acts t) children after others → AppStarts code m t children after (begun_told None code acts t ++ others)
  starts_given children after others all = record {
    outcome = given.outcome;
    specs = specs;
    others = others;
    gives = given.gives;
    supervision = given.supervision;
    all_run = subst (λ (xs : List Act). AllRun code specs (acts_begun None code xs t) children after others) given.asks all;
    tells = ap (λ (xs : List Act). begun_told None code xs t ++ others) given.asks;
  }

  pub fails_given : (failed : failed_start.StartFailed) → StartFails failed code specs (acts_begun None code acts t) → AppFails code m t (StartFailed failed)
  fails_given failed fails =
      (given.outcome, given.gives, (specs, given.supervision, subst (λ (xs : List Act). StartFails failed code specs (acts_begun None code xs t)) given.asks fails))

pub none_given : (code : List Instance) (m : StartModule) (reason : Term) (t : Table) → GivesNoSupervision code m reason → AppFails code m t (BadInit reason)
none_given code m reason t none = (none.outcome, none.gives, (none.none, none.because))
