-- None of the applications passed so far has the name.
use Rattle.std.specs.Str.{chars}
use Rattle.app_table.specs.Applications.{has_name}
use Rattle.shell_exec.proofs.Finding.{NonePasses}
use Rattle.shell_exec.proofs.reviving.find_app.Given as goal

abbrev pub invariant-loop-index : goal.invariant-loop-index
invariant-loop-index l = NonePasses (has_name (chars l.text)) l.index l.apps
