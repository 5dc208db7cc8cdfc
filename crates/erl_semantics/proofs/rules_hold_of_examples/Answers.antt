use Rattle.erl_semantics.proofs.rules_hold_of_examples.Goals as goal
use Rattle.erl_semantics.proofs.Examples.{calls, divides, ends, no_truth, fits_none, rings, loops, starts}
use Rattle.erl_semantics.proofs.Examples.{guards_fail, compares, drops, stands_before}
use Rattle.erl_semantics.proofs.Examples.{stops_with_reply, odd_is_bad, rests_silently, stops_itself}

pub returns : goal.returns
returns c = record {
  calls = calls;
  divides = divides;
  ends = ends;
  no_truth = no_truth;
  fits_none = fits_none;
  rings = rings;
  loops = loops;
  starts = starts;
  guards_fail = guards_fail;
  compares = compares;
  drops = drops;
  stands_before = stands_before;
  stops_with_reply = stops_with_reply;
  odd_is_bad = odd_is_bad;
  rests_silently = rests_silently;
  stops_itself = stops_itself;
}
