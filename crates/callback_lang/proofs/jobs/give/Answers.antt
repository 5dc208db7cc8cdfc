-- What the instance gives that is entered.
use Rattle.std.proofs.Common.{ap, sym, ◌∙◌, Some, map}
use Rattle.erl_semantics.specs.Acts.{place}
use Rattle.erl_semantics.specs.Jobs.{GivesAt, GivesJob}
use Rattle.erl_semantics.specs.Views.{job_of, outcome_of, instance}
use Rattle.erl_steps.proofs.Results.{if_ok}
use Rattle.callback_lang.proofs.Gives.{entered_first, gives_first}
use Rattle.callback_lang.proofs.jobs.give.Goals as goal

pub returns : goal.returns
returns c = if_ok
    (λ it. GivesAt (job_of c.args.job.now) (place c.args.job.now.place) (Some (instance c.in-Some.item.now)) (outcome_of it))
    (λ it. GivesJob (job_of c.args.job.now) (outcome_of it)) c.give_in.result
    (λ it d. gives_first (job_of c.args.job.now) (instance c.in-Some.item.now) (outcome_of it)
    (entered_first c.args.job.now.entry_serial (map instance c.args.job.now.code) (map instance c.in-Some.code.now)
    (instance c.in-Some.item.now) c.if-job-eq0.false (ap (map instance) (sym c.as_slice.ensures ∙ c.in-Some.ensures.cases.0))) d)
    c.give_in.ensures
