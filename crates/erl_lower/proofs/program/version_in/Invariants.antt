-- No form so far has a version.
use Rattle.std.proofs.Common.{◌≡◌, drop}
use Rattle.erl_lower.specs.Meaning.{version_in}
use Rattle.erl_lower.proofs.program.version_in.Given as goal

abbrev pub invariant-loop-form : goal.invariant-loop-form
invariant-loop-form l = version_in l.own (drop l.form-index l.forms) ≡ version_in l.own l.forms
