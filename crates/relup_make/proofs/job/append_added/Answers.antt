-- The applications that are only in the target, by their names.
use Rattle.std.proofs.Common.{◌≡◌, ◌++◌, ◌∷◌, [], Bool, map, ap, ◌∙◌, rules}
use Rattle.std.specs.List.{filter}
use Rattle.high_instructions.specs.declared.high.ApplicationWork.TheVariants.{Add}
use Rattle.high_instructions.specs.Forms.{Name}
use Rattle.otp_files.specs.Distinct.{app_names}
use Rattle.relup_make.specs.declared.job.Job.{Job}
use Rattle.relup_make.specs.Releases.{start_type_in}
use Rattle.relup_make.specs.Ways.{way_of}
use Rattle.relup_make.specs.Work.{is_only_in, lone, source, target}
use Rattle.relup_make.proofs.Firsts.{tested}
use Rattle.relup_make.proofs.Turns.{ended, tested_single}
use Rattle.relup_make.proofs.job.append_added.Goals as goal

pub returns : goal.returns
returns c =
    let way = way_of c.args.way.now in
    let apps = c.as_slice-apps.result.now in
    let seen : apps ≡ (target way).rel.apps = search rules in
    let test : Name → Bool = is_only_in (target way) (source way) in
    let job : Name → Job = λ name. lone name (Add (start_type_in name (target way))) in
    ended (tested test (λ name. job name ∷ [])) apps c.loop-app.app-index c.args.jobs.now.items c.loop-app.jobs.items c.loop-app-test.false c.loop-app.invariant
    ∙ ap (λ jobs. c.args.jobs.now.items ++ jobs) (tested_single test job apps ∙ ap (λ these. map job (filter test (app_names these))) seen)
