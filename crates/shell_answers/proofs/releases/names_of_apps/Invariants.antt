-- Those of the applications so far are made.
use Rattle.std.proofs.Common.{◌≡◌, map, take}
use Rattle.shell_answers.specs.Answers.{characters, named_version}
use Rattle.shell_answers.proofs.releases.names_of_apps.Given as goal

abbrev pub invariant-loop-app : goal.invariant-loop-app
invariant-loop-app l = map characters l.names.items ≡ map named_version (take l.app-index l.apps)
