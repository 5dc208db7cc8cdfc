-- The applications that are only in the source, by their names, the last first.
use Rattle.std.proofs.Common.{◌≡◌, ◌++◌, ◌∷◌, [], Bool, map, drop, reverse, ap, ◌∙◌, rules, arith}
use Rattle.std.specs.List.{filter, flat_map}
use Rattle.high_instructions.specs.declared.high.ApplicationWork.TheVariants.{Remove}
use Rattle.high_instructions.specs.Forms.{Name}
use Rattle.otp_files.specs.Distinct.{app_names}
use Rattle.relup_make.specs.declared.job.Job.{Job}
use Rattle.relup_make.specs.Ways.{way_of}
use Rattle.relup_make.specs.Work.{is_only_in, lone, source, target}
use Rattle.relup_make.proofs.Firsts.{tested}
use Rattle.relup_make.proofs.Turns.{tested_back}
use Rattle.relup_make.proofs.job.append_removed.Goals as goal

pub returns : goal.returns
returns c =
    let way = way_of c.args.way.now in
    let apps = c.as_slice-apps.result.now in
    let seen : apps ≡ (source way).rel.apps = search rules in
    let test : Name → Bool = is_only_in (source way) (target way) in
    let job : Name → Job = λ name. lone name Remove in
    let front : c.loop-index.index ≡ 0 = omega arith in
    c.loop-index.invariant
    ∙ ap (λ n. c.args.jobs.now.items ++ flat_map (tested test (λ name. job name ∷ [])) (reverse (drop n apps))) front
    ∙ ap (λ jobs. c.args.jobs.now.items ++ jobs) (tested_back test job apps ∙ ap (λ these. map job (reverse (filter test (app_names these)))) seen)
