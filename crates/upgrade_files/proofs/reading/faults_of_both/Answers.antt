-- Those of the first, and of the second those that are left.
use Rattle.std.proofs.Common.{rules}
use Rattle.upgrade_files.proofs.reading.faults_of_both.Goals as goal

pub returns : goal.returns
returns c = record {
  of_from = c.in_ok-found.found.items;
  are_of_from = record {
    sound = c.in_ok-found.ensures.sound;
    whole = c.in_ok-found.ensures.whole;
    ordered = c.in_ok-found.ensures.ordered;
  };
  of_to = c.in_ok-others.others.items;
  are_of_to = record {
    sound = c.in_ok-others.ensures.sound;
    whole = c.in_ok-others.ensures.whole;
    ordered = c.in_ok-others.ensures.ordered;
  };
  all = search rules;
}
