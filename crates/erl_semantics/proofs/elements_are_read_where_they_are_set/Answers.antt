use Rattle.erl_semantics.proofs.elements_are_read_where_they_are_set.Goals as goal
use Rattle.erl_semantics.proofs.OperatorLaws.{numbered, no_others, replaces, is_read, others_are_kept, size_is_kept, fails}

pub returns : goal.returns
returns c = record {
  numbered = numbered;
  others = no_others;
  replaces = replaces;
  read = is_read;
  kept = others_are_kept;
  size = size_is_kept;
  fails = fails;
}
