-- Those of the releases so far are made.
use Rattle.std.proofs.Common.{◌≡◌, map, take}
use Rattle.shell_answers.specs.Answers.{characters_of, named_versions}
use Rattle.shell_answers.proofs.releases.names_in_releases.Given as goal

abbrev pub invariant-loop-it : goal.invariant-loop-it
invariant-loop-it l = map characters_of l.names.items ≡ map named_versions (take l.it-index l.releases)
