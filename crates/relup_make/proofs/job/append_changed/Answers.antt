-- The applications that are changed, by their names.
use Rattle.std.proofs.Common.{◌≡◌, ◌++◌, ap, ◌∙◌, rules}
use Rattle.std.specs.List.{filter, filter_map}
use Rattle.std.specs.Option.{option_to_list}
use Rattle.relup_make.specs.Ways.{way_of}
use Rattle.otp_files.specs.Distinct.{app_names}
use Rattle.relup_make.specs.Work.{changed_job, is_changed, target}
use Rattle.relup_make.proofs.Firsts.{tested}
use Rattle.relup_make.proofs.Turns.{ended, tested_chosen}
use Rattle.relup_make.proofs.job.append_changed.Goals as goal

pub returns : goal.returns
returns c =
    let way = way_of c.args.way.now in
    let apps = c.as_slice-apps.result.now in
    let seen : apps ≡ (target way).rel.apps = search rules in
    ended (tested (is_changed way) (λ name. option_to_list (changed_job way name))) apps c.loop-app.app-index c.args.jobs.now.items c.loop-app.jobs.items c.loop-app-test.false c.loop-app.invariant
    ∙ ap (λ jobs. c.args.jobs.now.items ++ jobs) (tested_chosen (is_changed way) (changed_job way) apps ∙ ap (λ these. filter_map (changed_job way) (filter (is_changed way) (app_names these))) seen)
