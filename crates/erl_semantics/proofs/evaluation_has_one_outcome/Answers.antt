use Rattle.erl_semantics.proofs.evaluation_has_one_outcome.Goals as goal
use Rattle.erl_semantics.specs.Jobs.{entered_in}
use Rattle.erl_semantics.proofs.Outcomes.{from_outside-once, gives_at-once}

pub returns : goal.returns
returns c = record {
  call = λ w m f args one other d e. from_outside-once d e;
  job = λ j one other d e. gives_at-once j j.place (entered_in j.entry_serial j.code) one other d e;
}
