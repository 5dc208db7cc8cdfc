-- One more in each turn.
use Rattle.std.proofs.Common.{◌≡◌, ◌+◌, ◌<◌, ◌++◌, ◌∷◌, [], List, Some, ap, length, slice_get, take, sym, subst, arith, ◌∙◌}
use Rattle.std.proofs.lemmas.List.{length-take-le}
use Rattle.std.proofs.lemmas.Option.{slice_get-get_or}
use Rattle.console_answers.proofs.Taken.{rows_more, take_more}
use Rattle.console_answers.specs.Rows.{AreJobRows, IsJobRow}
use Rattle.erl_semantics.specs.declared.jobs.Job.{Job}
use Rattle.erl_term.specs.declared.term.Term.{Term}
use Rattle.console_answers.proofs.jobs.job_rows.Goals as goal

pub loop-index-preserved : goal.loop-index-preserved
loop-index-preserved c =
    let t = c.args.processes.now in
    let index = c.loop-index.index in
    let jobs = c.args.jobs.now in
    let job = c.index-jobs-index.result in
    let row = c.in_ok-job_row.field-0 in
    let within : index < length jobs = c.loop-index-test.true in
    let there : slice_get jobs index ≡ Some job = slice_get-get_or jobs index job within ∙ ap Some (sym c.index-jobs-index.is) in
    let count = length-take-le index jobs (omega (arith, within)) in
    let is : IsJobRow t (1 + length (take index jobs)) job row = subst (λ m. IsJobRow t m job row) (omega (arith, count)) c.in_ok-job_row.ensures in
    let more = rows_more t 1 (take index jobs) c.loop-index.rows.items job row c.loop-index.invariant is in
    subst (λ (rows : List Term). AreJobRows t 1 (take (index + 1) jobs) rows) (sym c.in_ok-push.ensures.items)
    (subst (λ (js : List Job). AreJobRows t 1 js (c.loop-index.rows.items ++ row ∷ [])) (sym (take_more jobs index job there)) more)
