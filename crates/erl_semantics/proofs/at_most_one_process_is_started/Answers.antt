use Rattle.erl_semantics.proofs.at_most_one_process_is_started.Goals as goal
use Rattle.erl_semantics.proofs.OutcomeLaws.{evaluates_keeps, job_keeps}

pub returns : goal.returns
returns c = record {
  plain_calls = λ w m f args o is_plain d. (evaluates_keeps w m f args o d).messages is_plain;
  jobs = λ j o d. (job_keeps j o d).messages;
  calls = λ w m f args o d. (evaluates_keeps w m f args o d).one;
}
