-- What is given at once, by an operator or a function that is built in.
use Rattle.std.specs.Prelude.{List}
use Rattle.erl_term.specs.declared.term.Term.{Term}
use Rattle.erl_term.specs.Term.{tree, trees}
use Rattle.erl_term.specs.Tree.{Tree}
use Rattle.erl_ir.specs.Expression.{Exprs}
use Rattle.erl_semantics.specs.declared.given.Given.{Given}
use Rattle.erl_semantics.specs.declared.given.Given.TheVariants as variants
use Rattle.erl_semantics.specs.declared.guards.Values.{Values as Tested}
use Rattle.erl_semantics.specs.declared.guards.Values.TheVariants as tested
use Rattle.erl_semantics.specs.declared.guards.Selected.{Selected}
use Rattle.erl_semantics.specs.Bindings.{bindings}
use Rattle.erl_semantics.specs.Guards.{Values, all, stopped}
use Rattle.erl_semantics.specs.State.{Result, value, exit}

abbrev pub result_of : Given → Result
result_of (variants.Value t) = value (tree t)
result_of (variants.Exit t) = exit (tree t)

-- the values of operands, or the end of one of them
abbrev pub values_of : Tested → Values
values_of (tested.All ts) = all (trees ts.items)
values_of (tested.Exit t) = stopped (exit (tree t))

-- what is bound in the clause that was selected, and its body
abbrev pub found_by : List Term → Selected → List Tree × Exprs
found_by base found = (bindings base found.fresh.items, found.body.now)
