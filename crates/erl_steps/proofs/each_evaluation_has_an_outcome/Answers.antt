use Rattle.erl_term.specs.Tree.{count}
use Rattle.erl_semantics.specs.Jobs.{entered_in}
use Rattle.erl_semantics.specs.Starting.{remote_function}
use Rattle.erl_steps.proofs.Ends.{from_outside_ends, gives_at_ends}
use Rattle.erl_steps.proofs.each_evaluation_has_an_outcome.Goals as goal

pub returns : goal.returns
returns c = record {
  call = λ w m f args. from_outside_ends w f (remote_function w m f (count args)) args;
  job = λ j. gives_at_ends j j.place (entered_in j.entry_serial j.code);
}
