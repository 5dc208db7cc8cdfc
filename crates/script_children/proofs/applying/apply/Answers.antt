-- A function that is evaluated holds no specification, whatever the applications are.
use Rattle.std.proofs.Common.{List, IfOk, Result, Ok, Err}
use Rattle.app_table.specs.Applications.{Application}
use Rattle.erl_term.specs.declared.term.Term.{Term}
use Rattle.script_children.specs.Pieces.{SpecsTaken, held_apps}
use Rattle.script_children.specs.declared.applying.Applied.{Applied}
use Rattle.values.specs.declared.failure.Failure.{Failure}
use Rattle.script_children.proofs.applying.apply.Goals as goal

here : (apps : List Application) (r : Result Applied (Failure Term)) → IfOk r (λ it. (all : List Application) → SpecsTaken (held_apps it.undo all) all all) → IfOk r (λ it. SpecsTaken (held_apps it.undo apps) apps apps)
here apps (Ok it) every = every apps
here apps (Err failure) every = tt

pub returns-in-None-clause-app_pieces : goal.returns-in-None-clause-app_pieces
returns-in-None-clause-app_pieces c = here c.args.apps.now c.apply_other.result c.apply_other.ensures.app_pieces
