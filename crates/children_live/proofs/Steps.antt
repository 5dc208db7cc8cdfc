-- Each child that runs goes on as a process of its own.
use Rattle.children_live.proofs.Keeping.{all_on, exited_live, spared_live, vacated_live}
use Rattle.children_live.proofs.Lives.{all_change_on, applied_on, arrival_on, begun_on, rested_on, resumed_on, suspended_on}
use Rattle.children_live.proofs.Lives.{taken_on, unresumed_on}
use Rattle.children_live.proofs.Placing.{put_back_live, specs_set_live, unloaded_live}
use Rattle.children_live.proofs.Renewing.{renewed_live}
use Rattle.children_live.proofs.Starting.{app_runs, revived_live, start_again_live, started_live}
use Rattle.children_live.proofs.Stopping.{stopped_app_live, stopped_live}
use Rattle.children_live.specs.Laws.{ApplicationStepsKeepChildren, EndsKeepChildren, ProcessStepsKeepChildren}
use Rattle.process_effects.specs.Begins.{acts_begun}
use Rattle.process_effects.specs.Commits.{rested_after}
use Rattle.process_table.specs.States.{all_resumed, all_suspended, all_unresumed}
use Rattle.process_table.specs.Steps.{after_arrival, taken}
use Rattle.sys_protocol.specs.Refusals.{module_of}

pub process_steps_keep_children : ProcessStepsKeepChildren
process_steps_keep_children = record {
  arrives = λ client name body apps t kept. all_on apps t (after_arrival client name body t) (arrival_on client name body t) kept;
  takes = λ pid entry_serial code apps t kept.
      all_on apps t (taken pid entry_serial code t) (taken_on pid entry_serial code t) kept;
  rests = λ job at acts apps t kept. all_on apps t (rested_after job at acts t) (rested_on job at acts t) kept;
  suspends = λ pids apps t kept. all_on apps t (all_suspended pids t) (suspended_on pids t) kept;
  resumes = λ pids apps t kept. all_on apps t (all_resumed pids t) (resumed_on pids t) kept;
  unresumes = λ rs apps t kept. all_on apps t (all_unresumed rs t) (unresumed_on rs t) kept;
  changes = λ code cs apps t after told change kept. all_on apps t after (all_change_on code cs t after told change) kept;
  applies = λ code m f args apps t after told apply kept. all_on apps t after (applied_on code m f args t after told apply) kept;
  begins = λ name code acts apps t kept. all_on apps t (acts_begun name code acts t) (begun_on name code acts t) kept;
}

pub application_steps_keep_children : ApplicationStepsKeepChildren
application_steps_keep_children = record {
  stops = stopped_live;
  starts = start_again_live;
  revives = λ code c name id apps t pid after told restart kept. revived_live code c t pid after told name id apps restart kept;
  starts_app = λ code name apps t children after told run kept.
      started_live name children apps t after (app_runs code (module_of name apps) t children after told run) kept;
  stops_app = stopped_app_live;
  unloads_app = unloaded_live;
  sets_specs = specs_set_live;
  puts_back = put_back_live;
  renews = renewed_live;
}

pub ends_keep_children : EndsKeepChildren
ends_keep_children = record {
  exits = λ reason pid acts apps t kept. exited_live reason pid acts t apps kept;
  leaves = λ reason pids apps t kept. vacated_live reason pids t apps kept;
  spares = λ name modules apps t kept. spared_live name modules t apps kept;
}
