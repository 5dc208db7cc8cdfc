use Rattle.erl_semantics.proofs.processes_rest_in_code_that_was_given.Goals as goal
use Rattle.erl_semantics.proofs.OutcomeLaws.{evaluates_keeps, job_keeps, start_in}

pub returns : goal.returns
returns c = record {
  jobs = λ j o m serial f args d is. (job_keeps j o d).rests_in m serial f args is;
  calls = λ w m f args o p d starts. start_in w o p (evaluates_keeps w m f args o d) starts;
}
